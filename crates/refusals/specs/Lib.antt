-- What the tests of refusals 6 and 7 say.
pub mod Tests
pub mod Fits
