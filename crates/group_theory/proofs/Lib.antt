-- Theorem has the laws as one. Laws is the group, Numbers the numbering, Components its digits and those of units, Signs the sign and the units,
-- Unit what units add and which numbers they have, Snoc and Weights weighted sums taken apart by their last components: what the crates above
-- may use. Fill has the moduli by index and what the loops of crate group need.
pub mod Laws
pub mod Numbers
pub mod Signs
pub mod Unit
pub mod Components
pub mod Theorem
pub mod Fill
pub mod Snoc
pub mod Weights
