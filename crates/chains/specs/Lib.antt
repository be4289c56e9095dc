pub mod Links
pub mod Reads
pub mod Chains
pub mod Spans
pub mod Taking
pub mod Trajectory
