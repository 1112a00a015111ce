-- What demand 2 needs beside the definitions of `model`.
pub mod Bare
pub mod Ranges
