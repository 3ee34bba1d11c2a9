-- What only the promises of private functions cite.
pub mod Noted
