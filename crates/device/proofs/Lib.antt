pub mod Collecting
pub mod Collected
pub mod WritesBack
pub mod Models
pub mod ReadBack
pub mod InfoKept
pub mod Calls
pub mod Determined
