pub mod Placed
pub mod Releases
pub mod Turns
pub mod Standing
