-- The laws of reading a byte stream, for the crates that cite them.
pub mod Run
pub mod Steps
pub mod Stages
pub mod Giving
pub mod Calls
pub mod Stops
pub mod Places
pub mod Windows
pub mod Stream
