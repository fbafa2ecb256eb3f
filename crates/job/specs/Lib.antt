-- What is known of a job that opens.
pub mod OpenJob
