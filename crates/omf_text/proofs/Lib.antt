pub mod ZeroLaws
pub mod DigitLaws
pub mod PrintedLaws
pub mod NumeralLaws
