pub mod ReadLaws
pub mod WriteLaws
pub mod PlaceLaws
pub mod AnswerLaws
pub mod ListingLaws
