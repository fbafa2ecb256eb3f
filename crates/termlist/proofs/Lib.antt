-- What is answered at each return of the operation.
pub mod Answered
