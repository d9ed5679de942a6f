-- Code: what an extended word and an extended codeword are, encoding and correction. Claims states the theorem.
pub mod Code
pub mod Claims
