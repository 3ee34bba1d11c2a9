-- Laws of the reader.
pub mod Table
pub mod Readings
pub mod Determined
pub mod Telling
pub mod History
pub mod GoesOn
pub mod Stops
pub mod RightAfter
pub mod inner
