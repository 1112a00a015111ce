pub mod Tables
pub mod Stores
pub mod Tied
pub mod Filled
