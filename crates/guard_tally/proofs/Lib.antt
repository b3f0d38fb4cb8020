pub mod SettingsBound
pub mod CellCount
pub mod GuardShape
pub mod TallyText
