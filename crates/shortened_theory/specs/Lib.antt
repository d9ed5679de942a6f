-- Read Allowed, Code and Calls, in this order: which s are allowed, what a shortened code is, and all of it for any t, r, s and bytes. Claims
-- states the theorems.
pub mod Allowed
pub mod Code
pub mod Calls
pub mod Claims
