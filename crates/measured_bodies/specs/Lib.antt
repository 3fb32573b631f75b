pub mod Widths
pub mod Verdict
pub mod Numbers
