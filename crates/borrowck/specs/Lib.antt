-- Accesses, conflicts and verdicts.
pub mod Search
pub mod Accesses
pub mod Scope
pub mod Faults
