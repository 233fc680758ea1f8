-- Laws.
pub mod Lending
