-- What the code answers of an item, by the definitions of `model`.
pub mod Accesses
pub mod Progress
