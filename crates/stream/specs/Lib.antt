-- The reader of the response stream: its table, its state, and what its functions promise.
pub mod Table
pub mod State
pub mod Stops
pub mod Readings
pub mod Telling
pub mod Promises
pub mod History
pub mod inner
