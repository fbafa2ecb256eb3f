-- What holds of the structs of both forms of Judge.
pub mod BothForms
