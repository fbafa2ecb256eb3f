-- Exact arithmetic: whole numbers with closed operations, determinants, lexicographic signs, and the crossed test over columns.
pub mod Int
pub mod Sign
pub mod Size
pub mod Det
pub mod Crossed
pub mod Simplex
pub mod Minors
pub mod Compared
pub mod Factorial
