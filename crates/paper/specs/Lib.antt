-- Document 01, section by section, then what requests add. A reader who trusts the checker needs to believe these definitions,
-- those of the crates exact and curves that they cite, and what README.md lists beside them.
pub mod Bytes
pub mod Limits
pub mod Job
pub mod Values
pub mod Operations
pub mod Refusals
pub mod Stops
pub mod Answers
pub mod Pen
pub mod Listing
pub mod Demand3
pub mod Bias
pub mod RunningSum
pub mod AnyOrder
pub mod Nearest
pub mod BadTerm
