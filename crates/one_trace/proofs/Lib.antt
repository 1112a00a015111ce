-- What the check answers to a call, and the claims.
pub mod Answers
pub mod OneTrace
