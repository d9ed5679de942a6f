-- Read Parameters, Layout and Calls, in this order: document 01's parameters, its layout of places, and both for any two numbers t and r.
-- Claims states the theorems. Choice has one of two things by a test, and Parts the two parts of the message, for the proofs.
pub mod Choice
pub mod Parameters
pub mod Layout
pub mod Calls
pub mod Claims
pub mod Parts
