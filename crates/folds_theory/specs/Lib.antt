-- Folds: in which order the weights of a word stand, and what `weighted` answers; then, for the code alone, what one level makes of them.
pub mod Folds
