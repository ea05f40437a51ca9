-- the places of the pairs that are written for a function
mod Places
