-- Inner loops before outer: document 02, request 2.14.
pub mod Inside
pub mod Standing
pub mod Loops
pub mod CutOrder
pub mod OrderDemand
pub mod Answers
