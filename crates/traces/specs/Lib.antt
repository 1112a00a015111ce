-- What the theorems speak of.
pub mod Claims
