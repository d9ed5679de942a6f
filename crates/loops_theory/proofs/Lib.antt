-- Spreads and Segments (the message as weights), Laying (the loops that lay it out), Rows (weights in a row, and places that are left out),
-- Parts (what is written part after part), Singles (singles and pairs laid out, each in a part of their own), Passing (the bytes tested on the way), Checking and CheckWriting (check digits read and written), Writing (a loop that writes over the front
-- of an output), Cuts (a code without its first places, by index) and PlaceSums (two words of it combined), Answers (what the shape of a code
-- gives), Scans (the pass over a word, and the encoding of a message), Faults (the place at fault from the syndrome, and a word with one place
-- flipped), Told (the third place from the elements of two), ByFilling (the functions that know s, by their tests).
pub mod Spreads
pub mod Segments
pub mod Laying
pub mod Rows
pub mod Parts
pub mod Singles
pub mod Passing
pub mod Checking
pub mod CheckWriting
pub mod Writing
pub mod Cuts
pub mod PlaceSums
pub mod Answers
pub mod Scans
pub mod Faults
pub mod Told
pub mod ByFilling
