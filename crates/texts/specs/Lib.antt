-- Bytes written to the front of a text.
pub mod Texts
