-- Where a record's items stand, by the definitions of document 01.
pub mod Places
