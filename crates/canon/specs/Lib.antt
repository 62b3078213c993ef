-- The promises of the public calls, and the demands that they meet.
pub mod Answers
pub mod Solving
pub mod Promises
pub mod Demands
