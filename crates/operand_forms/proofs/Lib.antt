pub mod OperandKinds
pub mod Reading
pub mod RangeTests
pub mod ByRow
pub mod ReleaseList
pub mod AllMnemonics
pub mod DataLists
pub mod TaskLine
pub mod Directives
pub mod Mended
pub mod FirstUnfit
pub mod TextsNamed
pub mod CodeLines
mod Doubled
pub mod NoDot
