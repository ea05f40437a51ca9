-- which paths lead to one file
pub mod Places
