-- Which fault a fetch has after its reads.
use Rattle.std.specs.Prelude.{◌≡◌, Option, Some, None}
use Rattle.std.specs.declared.io.ErrorKind.{ErrorKind}
use Rattle.text_pieces.specs.declared.serial.FetchFault.{FetchFault}
use Rattle.text_pieces.specs.declared.serial.FetchFault.TheVariants.{Read, OutOfMemory}

-- `failure` is the error of the last read, if that failed: it is the fault. Memory runs out where no read failed.
abbrev pub IsFaultAfter : (failure : Option ErrorKind) → FetchFault → Type 0
IsFaultAfter failure (Read kind) = failure ≡ Some kind
IsFaultAfter failure OutOfMemory = failure ≡ None
