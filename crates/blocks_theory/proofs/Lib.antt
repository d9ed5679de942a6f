-- Blocks, Levels, Members and Splits (the numbers of a sign by blocks, how many there are, and where the units stand among them), Descents and
-- Rising (from an index to the element, and back), Standing (the units before an index, and the message without them), Locate (from an element
-- to its place).
pub mod Blocks
pub mod Levels
pub mod Members
pub mod Splits
pub mod Descents
pub mod Standing
pub mod Rising
pub mod Locate
