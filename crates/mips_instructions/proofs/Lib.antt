pub mod SetLemmas
pub mod ProductLemmas
pub mod SpareLemmas
pub mod RowLemmas
pub mod ByLength
