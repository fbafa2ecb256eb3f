-- What is promised of the cells where values are put in.
pub mod Put
