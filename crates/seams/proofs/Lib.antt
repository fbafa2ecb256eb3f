-- Laws that the proofs of the functions cite, a file for each idea.
pub mod RoomSizes
pub mod CurveText
pub mod SeamShown
pub mod SeamsListed
pub mod TextCases
