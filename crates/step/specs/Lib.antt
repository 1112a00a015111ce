-- The step on arrays, and its promise.
pub mod Steps
pub mod Standing
