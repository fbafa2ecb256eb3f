-- Bodies as parts of the job, beside the definitions of the crate paper.
pub mod Parts
