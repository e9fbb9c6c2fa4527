-- The best attempt pays, if it is faster.
use Rattle.std.proofs.Common.{inr, refl}
use Rattle.release_proposals.proofs.Noting.{found_pays}
use Rattle.release_proposals.proofs.releasing.improved.Goals as goal

pub returns-in-Some : goal.returns-in-Some
returns-in-Some c = inr (
  c.deref-2.result.now,
  found_pays c.args.text.now c.deref-2.result.now c.in_ok-best.field-0 c.in-Some.best c.args.base.now.before c.in_ok-best.ensures c.in-Some.is c.requires.tried
      (c.if-is_faster.ensures.same refl) (c.if-is_faster.ensures.fewer refl),
)
