-- Answers (the functions by their tests), Filled (a word put behind zeros), Segments (the weights of pairs, and room for them).
mod Answers
mod Filled
mod Segments
