pub mod FoundLemmas
mod PathLemmas
mod AskedLemmas
mod ReportLemmas
mod SeveralLemmas
mod ShownLemmas
mod PartLemmas
