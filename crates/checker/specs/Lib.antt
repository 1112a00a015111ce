pub mod Concluded
pub mod Checked
