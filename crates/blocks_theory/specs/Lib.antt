-- How the code finds places, and in which order it sums: Blocks has the numbers of the elements by sign, Indices where an element stands among
-- those of its sign. No claim speaks of them.
pub mod Blocks
pub mod Indices
