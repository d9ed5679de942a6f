-- Calls: what the functions of correction as it was answer, and the arrays that they fill. No claim speaks of it.
pub mod Calls
