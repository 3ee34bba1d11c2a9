pub mod Session
pub mod Promises
pub mod History
pub mod inner
