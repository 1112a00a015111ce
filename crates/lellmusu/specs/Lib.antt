pub mod Reported
pub mod Told
pub mod Versions
