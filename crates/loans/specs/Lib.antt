-- The loans of a job.
pub mod Loans
