pub mod Kept
pub mod Ingest
