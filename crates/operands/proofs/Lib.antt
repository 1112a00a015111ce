-- The registers of a program's transitions, and what a command asks for.
pub mod Registers
pub mod Asking
