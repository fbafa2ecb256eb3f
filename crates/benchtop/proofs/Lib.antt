-- What the tests of the limits say, and what each return of the small cutter's entries says.
pub mod LimitTests
pub mod SmallAnswers
