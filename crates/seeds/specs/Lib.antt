-- Which regions a type gives, and the regions' starting sets.
pub mod Chosen
pub mod Closure
pub mod Seeded
