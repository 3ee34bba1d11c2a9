pub mod Collector
pub mod Model
pub mod Promises
pub mod Feeding
pub mod History
pub mod inner
