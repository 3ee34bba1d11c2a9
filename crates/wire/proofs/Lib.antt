pub mod Samples
pub mod Descriptors
pub mod Replies
pub mod Requests
pub mod WriteThenRead
pub mod ReadThenWrite
pub mod Determined
