pub mod Counts
pub mod Told
