-- Laws of the definitions in specs/: the order of facets, the test of the least, the list of seams, the answers of jobs.
pub mod WholeTrace
pub mod Room
pub mod LeastTest
pub mod BoxIndex
pub mod Chains
pub mod RoomBound
pub mod Rising
pub mod FacetOrder
pub mod BoxRises
pub mod SeamList
pub mod JobSeams
pub mod JobAnswers
pub mod Cases
