-- Laws of a job laid as contents and bodies.
pub mod JobLaid
