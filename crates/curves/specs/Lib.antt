-- The grid of simplices and the curves through it, over the dimension n and over any values at the vertices.
pub mod Grid
pub mod Box
pub mod Reflection
pub mod Walk
pub mod Curve
pub mod Step
pub mod Joined
pub mod Carried
pub mod WalkGrid
pub mod WalkRun
pub mod WalkDemand
pub mod GridDemand
