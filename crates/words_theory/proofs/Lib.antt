-- Words by slots: Reading (a word read slot by slot), Adding (combining, place by place), Combining (the group of words, and the syndrome on
-- it), Flips (one place flipped).
-- The theorems, for every list of moduli: Perfect and Rule (the one place to flip, and that document 01's rule flips it), Distances (the code
-- is perfect), Carrying (combining carries correction along), Encoding, Thirds (the third place). Theorem gathers them, there and for
-- admitted t and r. Widths says which places are binary. Table has document 01's cases marked P and what request C-11 prints.
-- For the code as well: Syndromes (the syndrome of any bytes, by its parts), OtherHalf (the other half of a pair, by index), TwoOnes (the word
-- with two ones), Shapes (the numbers of a code), Bad (the first byte above 1).
pub mod Reading
pub mod Combining
pub mod Adding
pub mod Flips
pub mod Perfect
pub mod Rule
pub mod Distances
pub mod Carrying
pub mod Syndromes
pub mod Encoding
pub mod Thirds
pub mod OtherHalf
pub mod TwoOnes
pub mod Theorem
pub mod Table
pub mod Shapes
pub mod Widths
pub mod Bad
