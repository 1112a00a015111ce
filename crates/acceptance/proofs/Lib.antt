-- Demand 2. The theorem stands in Acceptance; the files after it lead up to it, in this order.
pub mod Acceptance
pub mod Numbers
pub mod Quiet
pub mod ItemKinds
pub mod Agreement
pub mod Marks
pub mod Choosing
pub mod Single
pub mod Rows
pub mod Bars
pub mod Soundness
pub mod Completeness
