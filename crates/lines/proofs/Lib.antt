pub mod Spaced
pub mod GroupLines
