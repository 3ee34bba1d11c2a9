pub mod Cells
pub mod Turns
pub mod Gather
pub mod Promises
pub mod inner
pub mod Calls
