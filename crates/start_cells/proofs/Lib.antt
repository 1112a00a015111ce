-- Maps of eight bytes, and that what is read is the definition's start.
pub mod MapBytes
pub mod Readings
pub mod Told
