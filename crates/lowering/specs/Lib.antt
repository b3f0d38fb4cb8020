pub mod Nets
pub mod Answers
pub mod Lowers
pub mod Numbers
pub mod Ports
