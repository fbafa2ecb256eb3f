-- Formulas typed at the bench: request 2.1.
pub mod Grammar
pub mod Reader
pub mod Polynomial
pub mod Degree
pub mod Meaning
pub mod Read
pub mod FormulaDemand
pub mod Answers
