-- A list's values as a map marks them: those of any numbers that the list holds in turn, and what is written so is read back.
pub mod Writing
pub mod Mapping
pub mod Gathering
pub mod RoundTrip
