-- The bytes that are accepted as a body, and the first fault of all others.
pub mod Accepted
pub mod Progress
pub mod Lists
pub mod Laws
