-- What is worked out from a map and its values, by the definitions of `model`.
pub mod Maps
pub mod Reading
