-- What reading an expression and evaluating it at once answers, by the definitions of `model`.
pub mod Values
