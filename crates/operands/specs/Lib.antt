-- What a command asks for, by the definitions of `model`.
pub mod Operands
