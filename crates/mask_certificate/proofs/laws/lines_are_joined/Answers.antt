-- The LF at the end of the front ends a part of the text.
use Rattle.mask_certificate.proofs.JoinedLines.{lines_joined}
use Rattle.mask_certificate.proofs.laws.lines_are_joined.Goals as goal

pub returns : goal.returns
returns c = lines_joined
