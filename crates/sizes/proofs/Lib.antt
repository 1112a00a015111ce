-- Where a replay refuses, how far readers look and place their faults, and so the front of a file that is enough; then the longest listing: where a
-- refusal is placed, what values an accepted run holds, how long lines are, and the whole text; and lists and memory for slips and starts that are
-- enough for every answer.
pub mod Places
pub mod Readings
pub mod Fronts
pub mod Refusals
pub mod Constants
pub mod Values
pub mod Lengths
pub mod Listings
pub mod Answers
pub mod Written
