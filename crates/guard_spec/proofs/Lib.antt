pub mod GuardRun
