-- What the calls of include/canon.h return and write.
pub mod Telling
