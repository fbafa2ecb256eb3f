-- Every seam in a box: document 02, request 2.4.
pub mod Seams
pub mod JobSeams
pub mod WholeTrace
pub mod Answers
pub mod BoxIndex
pub mod SeamText
