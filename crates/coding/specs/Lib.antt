-- What the contracts say of the structs of this crate.
pub mod Laid
