-- Parity: the number of ones, modulo 2, of a flipped word and of two words. Extending: the front and the last place of an extended word.
-- Nearest: at most one extended codeword is within one place, for every list of moduli. Theorem: all of it for admitted t and r and allowed s.
pub mod Parity
pub mod Extending
pub mod Nearest
pub mod Theorem
