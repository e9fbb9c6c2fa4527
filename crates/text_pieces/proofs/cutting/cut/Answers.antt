-- Bytes are cut at the first place that passes.
use Rattle.std.proofs.Common.{◌==◌, sym}
use Rattle.text_pieces.proofs.Splits.{split_at, split_nowhere}
use Rattle.text_pieces.proofs.cutting.cut.Goals as goal

pub returns-in_err-end-clause-parts : goal.returns-in_err-end-clause-parts
returns-in_err-end-clause-parts c = rw c.from_residual.ensures (split_nowhere (λ other. other == c.args.byte) c.args.bytes.now (sym c.in_err-end.ensures))

pub returns-clause-parts : goal.returns-clause-parts
returns-clause-parts c = split_at (λ other. other == c.args.byte) c.args.bytes.now c.in_ok-end.end (sym c.in_ok-end.ensures)
