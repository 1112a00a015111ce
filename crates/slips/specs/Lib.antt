-- What the slip's code works out on the way, by the definitions of `model`.
pub mod Writing
pub mod Reading
