pub mod Laid
pub mod Texts
pub mod Lines
pub mod Lengths
