pub mod DemoFile
pub mod DemoFiles
pub mod DemoLaws
