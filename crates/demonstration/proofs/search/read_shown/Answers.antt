-- The run on this many units is right, too, or the runs on this many and more.
use Rattle.demonstration.proofs.Imports.{subst, DrivenView, run_of, state_after, ReadsRight}
use Rattle.std.proofs.Common.{min}
use Rattle.demonstration.proofs.Searching.{if_none, right_below, right_from, right_on_more}
use Rattle.demonstration.proofs.search.read_shown.Goals as goal

pub returns-then-is_free-clause-none : goal.returns-then-is_free-clause-none
returns-then-is_free-clause-none c =
    let p = c.args.program.now in
    let guesses = c.args.guesses.now in
    let units = c.loop-units.units in
    let right : ReadsRight p (state_after p (run_of p units guesses c.args.steps)) =
    subst (λ (d : DrivenView). ReadsRight p (state_after p d.run)) c.in_ok-driven.ensures.run (if_none _ c.in_ok-found.field-0 c.in_default.not-Some c.in_ok-found.ensures.reads) in
    right_from p guesses c.args.steps (min c.args.most_units 2) units c.args.most_units c.loop-units.invariant
    (right_on_more p guesses units c.args.steps right (c.in_ok-driven.ensures.free c.if-is_free.true))

pub loop-units-preserved : goal.loop-units-preserved
loop-units-preserved c =
    let p = c.args.program.now in
    right_below p c.args.guesses.now c.args.steps (min c.args.most_units 2) c.loop-units.units c.loop-units.invariant
    (subst (λ (d : DrivenView). ReadsRight p (state_after p d.run)) c.in_ok-driven.ensures.run (if_none _ c.in_ok-found.field-0 c.in_default.not-Some c.in_ok-found.ensures.reads))
