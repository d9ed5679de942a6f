-- Filling (words with s zeros in front, and places renumbered), Cutting (slots cut between two of them: combining, inverse and halves over
-- the filled words), Nearest, Encodings, Carried, Triples (the theorems, for every list of moduli and every s that ends between two
-- slots of its message), Between (these are the allowed s), Theorem (all of it for admitted t and r and allowed s), Whole (s = 0).
-- For the code as well: Guards (the tests of the calls as statements), Places (places by their numbers before renumbering).
pub mod Filling
pub mod Cutting
pub mod Nearest
pub mod Encodings
pub mod Carried
pub mod Between
pub mod Triples
pub mod Theorem
pub mod Whole
pub mod Guards
pub mod Places
