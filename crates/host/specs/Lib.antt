pub mod Host
pub mod Number
pub mod Promises
pub mod inner
