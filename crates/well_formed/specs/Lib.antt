-- What the tests of refusals 8 and 9 say.
pub mod Tests
