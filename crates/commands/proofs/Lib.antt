-- The commands on arrays against the definition's, in the order of the argument.
pub mod Performed
pub mod OwnRegisters
pub mod CommandSteps
