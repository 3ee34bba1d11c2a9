pub mod Fields
pub mod Record
pub mod Promises
pub mod inner
