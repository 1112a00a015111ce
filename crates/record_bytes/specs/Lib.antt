-- The writers of records and of headers, and what is claimed of them.
pub mod RecordBytes
pub mod HeaderBytes
pub mod Claims
