-- Why the small cutter turns a job away, what it has in common with the full one, that 17 is its own, starts, and marked cases.
pub mod TooLarge
pub mod OwnRefusal
pub mod SameAsFull
pub mod Starts
pub mod Cases
