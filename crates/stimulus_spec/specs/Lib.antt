pub mod Stimulus
