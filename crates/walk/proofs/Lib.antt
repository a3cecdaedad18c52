pub mod RunFront
pub mod WalkStep
pub mod StraightLength
pub mod WalkWritten
pub mod WalkLoop
