pub mod SoundWords
