pub mod PopSteps
