pub mod Request
pub mod Descriptor
pub mod Reply
pub mod Sample
pub mod Promises
