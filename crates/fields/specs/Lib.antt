-- What the readers of fields answer, by the definitions of `model`.
pub mod Fields
