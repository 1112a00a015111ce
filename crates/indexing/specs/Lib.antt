-- Lists of arrows by group and counts of them, as the code makes them and as what they stand for.
pub mod Entries
pub mod Degrees
pub mod Indexes
pub mod Indexed
