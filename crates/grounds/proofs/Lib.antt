-- What the ground of a judgement says, over columns and then of a job's bytes.
pub mod Deciding
pub mod Ground
pub mod Judged
pub mod OneForm
pub mod Cases
pub mod TakenPowers
