pub mod Accepts
pub mod Lengths
pub mod Numbers
