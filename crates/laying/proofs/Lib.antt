-- Laws of bytes laid in a buffer one part behind another.
pub mod Behind
pub mod BodyRead
