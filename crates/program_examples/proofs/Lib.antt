pub mod Accepted
pub mod Audited
pub mod Flattened
pub mod SmallTexts
pub mod DemoPlain
pub mod ConeByTest
pub mod SoundRows
