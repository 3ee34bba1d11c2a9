-- Laws of the recorder's stores, and of the lines that it tells.
pub mod Made
pub mod Lines
