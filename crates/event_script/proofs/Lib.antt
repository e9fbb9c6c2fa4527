pub mod FirstLine
pub mod Numbers
pub mod LineWords
pub mod EventsLoop
pub mod WrittenLines
pub mod WrittenRuns
pub mod NamesApart
pub mod BadLines
