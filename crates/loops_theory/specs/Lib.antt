-- What the loops over a word do: Spread lays a message out as weights, Writing writes over the front of an output, Passing tells whether
-- there are bytes above 1. No claim speaks of them.
pub mod Spread
pub mod Writing
pub mod Passing
