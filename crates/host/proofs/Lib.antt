-- Laws of the host.
pub mod Noted
pub mod Numbers
pub mod Answers
pub mod Unchanged
pub mod Determined
