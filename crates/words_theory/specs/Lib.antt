-- Read Digits, Words, Syndrome, Halves, Coding and Calls, in this order: the Gray map, words and what is done to them place by place, the
-- syndrome and codewords, the two halves of a pair, encoding, correction and the third place, and all of it for any t, r and bytes.
-- Claims states the theorems, Table document 01's cases marked P and what request C-11 prints.
pub mod Digits
pub mod Words
pub mod Syndrome
pub mod Halves
pub mod Coding
pub mod Calls
pub mod Claims
pub mod Table
