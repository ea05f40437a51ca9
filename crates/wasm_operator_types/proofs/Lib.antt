-- atomic operators of seven widths
pub mod Widths
