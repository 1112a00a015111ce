pub mod Tables
pub mod Made
pub mod Tied
