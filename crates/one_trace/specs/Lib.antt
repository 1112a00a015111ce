-- The page of claims.
pub mod OneTrace
