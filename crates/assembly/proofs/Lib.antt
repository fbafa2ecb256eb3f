-- Laws of the definitions in specs/: the job from loose bodies opens to them, a job is written again from its own, and what the answers say.
pub mod Lengths
pub mod Entries
pub mod OpensTo
pub mod AnyEntries
pub mod RoundTrip
pub mod Unread
pub mod Short
pub mod WriteAnswers
pub mod WriteDemand
pub mod BuiltJobs
pub mod Cases
