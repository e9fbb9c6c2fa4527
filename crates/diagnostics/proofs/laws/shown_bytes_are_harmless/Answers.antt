-- Byte by byte.
use Rattle.diagnostics.proofs.ShownBytes.{harmless}
use Rattle.diagnostics.proofs.laws.shown_bytes_are_harmless.Goals as goal

pub returns : goal.returns
returns c = harmless
