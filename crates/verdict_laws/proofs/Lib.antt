pub mod SmallSizes
