-- Laws of such bytes, and the digits of a number.
pub mod Texts
pub mod Digiting
