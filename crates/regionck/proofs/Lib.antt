pub mod RoundLaws
pub mod SolvedLaws
