pub mod Limits
pub mod Writes
pub mod VarintLemmas
pub mod FieldLemmas
pub mod Places
