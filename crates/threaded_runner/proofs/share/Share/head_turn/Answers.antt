use Rattle.threaded_runner.proofs.Imports.{ℕ, sym, ap, ◌∙◌, subst, turn_of, IsFirst}
use Rattle.threaded_runner.proofs.Sharing.{head_first}
use Rattle.threaded_runner.proofs.share.Share.head_turn.Goals as goal

pub returns-in-Some-clause-first : goal.returns-in-Some-clause-first
returns-in-Some-clause-first c =
    let m = c.args.machine.now in
    let s = c.args.self in
    let is = c.turn_at_head.ensures.value in
    let f = c.in-Some.ensures.some in (
      subst (λ (u : ℕ). IsFirst m s u) (sym f.0) (head_first m s c.args.head c.requires.share c.requires.one c.requires.head (λ w. f.2 (is ∙ w))),
      f.1 ∙ is ∙ ap (λ (u : ℕ). turn_of m u) (sym f.0),
    )

pub returns-in-None-clause-none : goal.returns-in-None-clause-none
returns-in-None-clause-none c = λ other served.
    c.law_head_waits.ensures (ap (λ (u : ℕ). turn_of c.args.machine.now u) c.requires.head ∙ sym c.turn_at_head.ensures.value ∙ c.in-None.ensures.none) other
