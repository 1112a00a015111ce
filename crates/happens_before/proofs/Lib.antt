-- The argument in its reading order: the definition on arrays by cases, as the code meets it; what is kept stands for the items so far and gives the
-- model's arrows; the loop over all items; and what the trail of an accepted record tells.
pub mod Sheets
pub mod Cases
pub mod Adding
pub mod Tests
pub mod Searches
pub mod Lasts
pub mod Standing
pub mod OneMore
pub mod Together
pub mod Turns
pub mod Again
pub mod Accepted
