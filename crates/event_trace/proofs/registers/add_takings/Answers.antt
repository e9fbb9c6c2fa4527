-- One register more.
use Rattle.std.proofs.Common.{ℕ, List, [], ◌∷◌, ◌++◌, ◌∙◌, ap, arith}
use Rattle.std.specs.Prelude.{if◌then◌else◌, unwrap_or}
use Rattle.mips_instructions.specs.Words.{has}
use Rattle.unit_core.specs.Units.{active_of}
use Rattle.event_trace.specs.Changes.{takes}
use Rattle.event_trace.specs.declared.change.Change.{Change}
use Rattle.event_trace.specs.declared.change.Change.TheVariants.{Took}
use Rattle.run_picture.proofs.Parts.{range_more}
use Rattle.event_trace.proofs.Parts.{for_each_register}
use Rattle.event_trace.proofs.registers.add_takings.Goals as goal

pub loop-number-preserved : goal.loop-number-preserved
loop-number-preserved c =
    let l = c.loop-number in
    let v = active_of c.args.unit.now in
    let f : ℕ → List Change = λ r. if takes (has c.args.before) v r then Took r (unwrap_or (v.arrived r) 0) ∷ [] else [] in
    c.in_ok-add_taking.ensures ∙ ap (λ (xs : List Change). xs ++ f l.number) l.invariant ∙ range_more f c.args.changes.now.items l.number

pub returns : goal.returns
returns c =
    let l = c.loop-number in
    let v = active_of c.args.unit.now in
    let f : ℕ → List Change = λ r. if takes (has c.args.before) v r then Took r (unwrap_or (v.arrived r) 0) ∷ [] else [] in
    for_each_register f c.args.changes.now.items l.changes.items l.number (omega arith) l.invariant
