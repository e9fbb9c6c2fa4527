-- Either of the two exits.
use Rattle.std.proofs.Common.{◌≡◌, Bool, ℕ, not, ◌||◌, ◌∙◌, ap, sym}
use Rattle.task_graph.specs.Soundness.{is_target}
use Rattle.mark_checker.specs.CheckerSteps.{holds_at}
use Rattle.mark_checker.proofs.place.exits_unlisted.Goals as goal

pub returns-then-first : goal.returns-then-first
returns-then-first c =
    let test : ℕ → Bool = λ j. not (is_target c.args.descriptor.now j) in
    let sides : (c.is_unlisted-first.result || c.is_unlisted-second.result) ≡ (holds_at c.args.exits.first test || holds_at c.args.exits.second test) =
    λ k. c.is_unlisted-first.ensures k || c.is_unlisted-second.ensures k in
    c.if-first.true ∙ sym (ap (λ (x : Bool). x || c.is_unlisted-second.result) c.if-first.true) ∙ sides

pub returns-else-first : goal.returns-else-first
returns-else-first c =
    let test : ℕ → Bool = λ j. not (is_target c.args.descriptor.now j) in
    let sides : (c.is_unlisted-first.result || c.is_unlisted-second.result) ≡ (holds_at c.args.exits.first test || holds_at c.args.exits.second test) =
    λ k. c.is_unlisted-first.ensures k || c.is_unlisted-second.ensures k in
    sym (ap (λ (x : Bool). x || c.is_unlisted-second.result) c.if-first.false) ∙ sides
