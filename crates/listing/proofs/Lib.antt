pub mod Lines
pub mod Accepted
pub mod Printed
pub mod Listed
