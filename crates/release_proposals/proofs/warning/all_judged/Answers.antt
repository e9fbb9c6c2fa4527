-- What is found is added.
use Rattle.std.proofs.Common.{List, Option, IfSome, ap, subst, sym}
use Rattle.std.specs.List.{All}
use Rattle.std.proofs.lemmas.List.Elements.{All-push}
use Rattle.diagnostics.specs.declared.diagnostic.Diagnostic.{Diagnostic}
use Rattle.release_proposals.specs.Paying.{IsForgotten}
use Rattle.release_proposals.proofs.warning.all_judged.Goals as goal
use Rattle.release_proposals.proofs.warning.all_judged.Goals.{in-Some+in_ok-push, in_default}

pub loop-waited-preserved : goal.loop-waited-preserved
loop-waited-preserved c =
    let good : All (IsForgotten c.args.text.now) c.match-branch-2.list.items = elim c.match-branch-2.branch [
      | in-Some+in_ok-push w ↦ subst (All (IsForgotten c.args.text.now)) (sym (ap (λ v. v.items) w.list-is))
          (subst (All (IsForgotten c.args.text.now)) (sym w.in_ok-push.ensures.items)
          (All-push (IsForgotten c.args.text.now) c.loop-waited.list.items w.in-Some.said c.loop-waited.invariant
          (subst (λ (f : Option Diagnostic). IfSome f (IsForgotten c.args.text.now)) w.in-Some.is c.in_ok-said.ensures)))
      | in_default w ↦ subst (All (IsForgotten c.args.text.now)) (sym (ap (λ v. v.items) w.list-is)) c.loop-waited.invariant
    ] in
    good
