-- What the replay's code answers and hands over, by the definitions of `model`.
pub mod Handed
