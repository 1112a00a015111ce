pub mod Concluding
pub mod Accepting
pub mod Checking
