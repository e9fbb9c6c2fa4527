-- The first unreadable place is sought among those that are left.
use Rattle.std.proofs.Common.{◌≡◌, drop}
use Rattle.operand_forms.specs.Bytes.{token_from}
use Rattle.operand_forms.proofs.bytes.token_from.Given as goal

abbrev pub invariant-loop-span : goal.invariant-loop-span
invariant-loop-span l = token_from l.line (drop l.span-index l.spans) ≡ token_from l.line l.spans
