-- One register more.
use Rattle.std.proofs.Common.{ℕ, List, [], ◌∷◌, ◌++◌, ◌∙◌, ap, arith}
use Rattle.std.specs.Prelude.{if◌then◌else◌, unwrap_or}
use Rattle.mips_instructions.specs.Words.{has}
use Rattle.unit_core.specs.Units.{active_of}
use Rattle.event_trace.specs.declared.change.Change.{Change}
use Rattle.event_trace.specs.declared.change.Change.TheVariants.{Sent}
use Rattle.run_picture.proofs.Parts.{range_more}
use Rattle.event_trace.proofs.Parts.{for_each_register}
use Rattle.event_trace.proofs.registers.add_sendings.Goals as goal

pub loop-number-preserved : goal.loop-number-preserved
loop-number-preserved c =
    let l = c.loop-number in
    let f : ℕ → List Change = λ r. if has c.args.set r then Sent r (unwrap_or ((active_of c.args.unit.now).sent r) 0) ∷ [] else [] in
    c.in_ok-add_sending.ensures ∙ ap (λ (xs : List Change). xs ++ f l.number) l.invariant ∙ range_more f c.args.changes.now.items l.number

pub returns : goal.returns
returns c =
    let l = c.loop-number in
    let f : ℕ → List Change = λ r. if has c.args.set r then Sent r (unwrap_or ((active_of c.args.unit.now).sent r) 0) ∷ [] else [] in
    for_each_register f c.args.changes.now.items l.changes.items l.number (omega arith) l.invariant
