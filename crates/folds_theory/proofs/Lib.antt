-- The theory: Twice (each number twice, and with one binary component more), Offs (one component taken off, by blocks). For the code: Gathers
-- (the loops over neighbouring bytes), Parts (the blocks of a level as parts of a slice), Halving and Levelling (the loops over the
-- components), Wholes (the whole sum, and what `weighted` answers with and without room).
pub mod Twice
pub mod Offs
pub mod Gathers
pub mod Parts
pub mod Halving
pub mod Levelling
pub mod Wholes
