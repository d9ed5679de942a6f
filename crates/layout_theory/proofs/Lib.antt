-- Lists (counting and filters), Cover (every element stands once), Sums and Below (how many elements of a sign have a number below a bound),
-- Sizes (how many places, singles and pairs), Places (the theorems, for every list of moduli), Rises (the parts, by rising number), Index
-- (where each element stands), Parameters (what admitted t and r come to), Limits (which are), Theorem (the theorem for them), Printed
-- (document 01's layouts).
pub mod Lists
pub mod Cover
pub mod Sums
pub mod Below
pub mod Sizes
pub mod Places
pub mod Rises
pub mod Index
pub mod Parameters
pub mod Limits
pub mod Theorem
pub mod Printed
