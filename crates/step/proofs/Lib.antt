-- The step on arrays against the definition's, and the code against both (`Outcomes`).
pub mod ItemSteps
pub mod Outcomes
