-- Each destination is left when those written after are taken off.
use Rattle.annotator.proofs.Imports.{sym, ◌∙◌}
use Rattle.annotator.proofs.MarkLemmas.{last_exact, some_written, none_written}
use Rattle.annotator.proofs.updates.writes_last.Goals as goal

pub returns-then-has_member : goal.returns-then-has_member
returns-then-has_member c p i behind =
    let some = some_written c.args.op.now c.dests-written.result c.dests-written.ensures (sym c.has_member.ensures ∙ c.if-has_member.true) in
    let last = last_exact p i c.args.op.now c.dests-written.result c.args.again c.minus.result some c.dests-written.ensures behind c.minus.ensures.members in (
      λ yes. last.0 (c.is_subset.ensures.members.0 yes),
      λ l. c.is_subset.ensures.members.1 (last.1 l),
    )

pub returns-else-has_member : goal.returns-else-has_member
returns-else-has_member c p i behind = (
  λ yes. absurd (cc (yes, c.if-has_member.false)),
  λ l. absurd (none_written c.args.op.now c.dests-written.result c.dests-written.ensures (sym c.has_member.ensures ∙ c.if-has_member.false) l.writes),
)
