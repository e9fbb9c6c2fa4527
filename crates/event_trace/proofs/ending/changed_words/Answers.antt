-- One word more.
use Rattle.std.proofs.Common.{ℕ, ◌*◌, List, [], ◌++◌, ◌∙◌, ap, arith}
use Rattle.mips_plain.specs.MemoryMap.{byte_of, number_at}
use Rattle.event_trace.specs.Ending.{changed}
use Rattle.event_trace.specs.declared.ending.MemoryWord.{MemoryWord}
use Rattle.run_picture.proofs.Parts.{range_more}
use Rattle.event_trace.proofs.Parts.{for_each_word}
use Rattle.event_trace.proofs.ending.changed_words.Goals as goal

pub loop-number-preserved : goal.loop-number-preserved
loop-number-preserved c =
    let l = c.loop-number in
    let f : ℕ → List MemoryWord = λ n. changed n (number_at 4 (byte_of c.args.start.now) (n * 4)) (number_at 4 (byte_of c.args.bytes.now) (n * 4)) in
    c.in_ok-add_changed.ensures ∙ ap (λ (xs : List MemoryWord). xs ++ f l.number) l.invariant ∙ range_more f [] l.number

pub returns : goal.returns
returns c =
    let l = c.loop-number in
    let f : ℕ → List MemoryWord = λ n. changed n (number_at 4 (byte_of c.args.start.now) (n * 4)) (number_at 4 (byte_of c.args.bytes.now) (n * 4)) in
    for_each_word f [] l.words.items l.number (omega arith) l.invariant
