pub mod FrontLemmas
pub mod FieldsLemmas
