pub mod Told
pub mod Drawing
