use Rattle.std.proofs.Common.{◌≡◌, ℕ, inl, inr, Some, length, sym, subst, arith}
use Rattle.std.specs.Prelude.{slice_get}
use Rattle.std.proofs.lemmas.Bool.{cases_lt}
use Rattle.std.proofs.lemmas.List.{length-map}
use Rattle.unit_core.specs.Units.{active_of}
use Rattle.processor_steps.specs.Processors.{actives}
use Rattle.processor_steps.proofs.Positions.{first_with, none_with}
use Rattle.processor_steps.proofs.queue.Queue.position_with.Goals as goal

pub loop-position-preserved : goal.loop-position-preserved
loop-position-preserved c = λ k u below there serial.
    elim (cases_lt k c.loop-position.position) [
      | inl before ↦ c.loop-position.invariant k u before there serial
      | inr behind ↦ (
          let here : k ≡ c.loop-position.position = omega arith in
          let found = c.has_serial.ensures.1 (u, subst (λ (j : ℕ). slice_get (actives c.args.self.now) j ≡ Some u) here there, serial) in
          let other = c.if-has_serial.false in
          cc
          )
    ]

pub returns-then-has_serial : goal.returns-then-has_serial
returns-then-has_serial c =
    let found = c.has_serial.ensures.0 c.if-has_serial.true in
    sym (first_with (actives c.args.self.now) c.args.serial c.loop-position.position found.0 found.1 found.2 c.loop-position.invariant)

pub returns : goal.returns
returns c =
    let q = c.args.self.now in
    let long : length (actives q) ≡ length q.units = length-map q.units active_of in
    let len = c.len-position-end.ensures.len in
    sym (none_with (actives q) c.args.serial (λ k u below there. c.loop-position.invariant k u (omega (arith, long, len)) there))
