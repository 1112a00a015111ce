-- The items on arrays go as the definition's; and the code's turns are the items on arrays.
pub mod Simulation
pub mod Turns
