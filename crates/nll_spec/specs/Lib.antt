-- What `nll_spec` defines: document 01, from the bytes of a record to the words and bytes written. Read the modules in this order. `Lists` and `Fixpoint`
-- are general; `Meaning` and `Guarantee` state demands 1 to 3; `Cases` are tables that the checker computes.
pub mod Lists
pub mod Fixpoint
pub mod Syntax
pub mod Decode
pub mod Types
pub mod WellFormed
pub mod Graph
pub mod Liveness
pub mod Constraints
pub mod Regions
pub mod Loans
pub mod Access
pub mod Output
pub mod Listing
pub mod Meaning
pub mod Guarantee
pub mod Cases
