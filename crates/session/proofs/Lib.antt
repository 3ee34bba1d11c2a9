pub mod Checks
pub mod Unchanged
pub mod Steps
pub mod Histories
pub mod Determined
