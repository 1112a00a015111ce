pub mod Bits
pub mod Taking
pub mod Changes
pub mod FirstWord
pub mod Holding
