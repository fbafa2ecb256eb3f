-- Tables of marked cases, by computation from the definitions, and demand 3 at some of them.
pub mod Cases4
pub mod CasesBias
pub mod CasesSum
pub mod CasesNearest
pub mod CasesTerms
pub mod Demand3Example
