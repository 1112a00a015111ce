pub mod Found
pub mod Searches
pub mod Removing
pub mod Roots
pub mod Nexts
