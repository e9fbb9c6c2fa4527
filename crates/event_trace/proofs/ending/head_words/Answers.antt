-- One register more.
use Rattle.std.proofs.Common.{ℕ, List, [], ◌++◌, ◌∙◌, ap, arith}
use Rattle.sequencer.specs.Machines.{state}
use Rattle.event_trace.specs.Ending.{head_value, held}
use Rattle.event_trace.specs.declared.ending.RegisterWord.{RegisterWord}
use Rattle.run_picture.proofs.Parts.{range_more}
use Rattle.event_trace.proofs.Parts.{for_each_register}
use Rattle.event_trace.proofs.ending.head_words.Goals as goal

pub loop-number-preserved : goal.loop-number-preserved
loop-number-preserved c =
    let l = c.loop-number in
    let f : ℕ → List RegisterWord = λ r. held r (head_value (state c.args.machine.now) r) in
    c.in_ok-add_held.ensures ∙ ap (λ (xs : List RegisterWord). xs ++ f l.number) l.invariant ∙ range_more f [] l.number

pub returns : goal.returns
returns c =
    let l = c.loop-number in
    let f : ℕ → List RegisterWord = λ r. held r (head_value (state c.args.machine.now) r) in
    for_each_register f [] l.words.items l.number (omega arith) l.invariant
