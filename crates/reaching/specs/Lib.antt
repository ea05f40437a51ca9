-- What the contracts and proofs cite.
pub mod Reaching
pub mod Chains
pub mod Searching
pub mod Laws
