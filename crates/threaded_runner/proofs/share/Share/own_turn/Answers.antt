use Rattle.threaded_runner.proofs.Imports.{ℕ, sym, ap, ◌∙◌, subst, IfSome_then, IsTurn, turn_of, Turn, IsFirst}
use Rattle.threaded_runner.proofs.Sharing.{only_unit, only_waits, none_then}
use Rattle.threaded_runner.proofs.share.Share.own_turn.Goals as goal

pub returns-clause-first : goal.returns-clause-first
returns-clause-first c =
    let m = c.args.machine.now in
    let s = c.args.self in
    let is = c.turn.ensures.value in
    IfSome_then c.ready.result c.ready.ensures.some (λ found f. (
      subst (λ (u : ℕ). IsFirst m s u) (sym f.0) (only_unit m s c.requires.share c.requires.each (λ w. f.2 (is ∙ w))),
      f.1 ∙ is ∙ ap (λ (u : ℕ). turn_of m u) (sym f.0),
    ))

pub returns-clause-own : goal.returns-clause-own
returns-clause-own c =
    let m = c.args.machine.now in
    IfSome_then c.ready.result c.ready.ensures.some (λ found f.
    subst (λ (u : ℕ). IsTurn m u found.1) (sym f.0) (subst (λ (t : Turn). IsTurn m c.args.self.worker t) (sym f.1) c.turn.ensures.own))

pub returns-clause-none : goal.returns-clause-none
returns-clause-none c =
    none_then c.ready.result c.ready.ensures.none (λ w. only_waits c.args.machine.now c.args.self c.requires.share c.requires.each (sym c.turn.ensures.value ∙ w))
