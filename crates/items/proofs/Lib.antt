-- Laws of accesses.
pub mod Accesses
