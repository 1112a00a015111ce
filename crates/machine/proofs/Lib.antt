-- Refusals leave all as it was; what a store does to the state that the arrays stand for; the step on arrays and the definition's go together.
pub mod Outcomes
pub mod Held
pub mod Agreement
