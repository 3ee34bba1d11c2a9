pub mod Ring
pub mod Answers
pub mod Promises
pub mod History
pub mod Calls
pub mod Tails
pub mod inner
