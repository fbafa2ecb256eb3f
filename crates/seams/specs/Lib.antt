-- What the contracts of the program cite besides the definitions of the request and of its text.
pub mod Room
pub mod Listed
pub mod Shown
