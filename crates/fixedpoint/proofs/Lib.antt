pub mod Decimal
pub mod Fraction
pub mod Cutting
pub mod MagnitudeLemmas
pub mod NumberLemmas
pub mod PrintedLemmas
