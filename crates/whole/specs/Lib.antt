pub mod Work
pub mod Line
