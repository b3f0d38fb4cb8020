pub mod SmallSources
