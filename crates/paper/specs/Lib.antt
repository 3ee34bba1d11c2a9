pub mod Outcome
pub mod Nearer
pub mod Refusals
pub mod Words
pub mod Sum
pub mod Writing
pub mod Promises
