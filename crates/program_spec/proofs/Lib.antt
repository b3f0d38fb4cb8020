pub mod FindingLaws
pub mod OneLayout
pub mod StepLaws
pub mod WalkLaws
