-- One byte after the other.
use Rattle.std.proofs.Common.{◌++◌, ◌+◌, List, ℕ, drop, get_or, subst, sym}
use Rattle.std.proofs.KnownBytes.{Appends-trans}
use Rattle.shown_names.specs.Shown.{shown_as, shown_byte}
use Rattle.result_files.specs.Writing.{Begins}
use Rattle.verdict_report.proofs.BeginsLemmas.{first, next}
use Rattle.program_edge.proofs.ShownLemmas.{after_byte, at_byte}
use Rattle.program_edge.proofs.shown.write_escaped.Goals as goal

pub returns-in_err-write_byte-clause-part : goal.returns-in_err-write_byte-clause-part
returns-in_err-write_byte-clause-part g c =
    let (done, split, appended) = c.loop-byte.invariant in
    let byte = get_or c.args.bytes.now c.loop-byte.byte-index 0 in
    let rest = shown_as c.args.readable (drop (c.loop-byte.byte-index + 1) c.args.bytes.now) in
    subst (λ (l : List ℕ). Begins (g.W.Write.contents c.args.writer.now) (g.W.Write.contents c.write_byte.new.writer) l)
    (sym (at_byte c.args.readable c.args.bytes.now done c.loop-byte.byte-index c.loop-byte-test.true split))
    (next _ _ _ done (shown_byte c.args.readable byte ++ rest) appended (first _ _ (shown_byte c.args.readable byte) rest c.write_byte.ensures.part))

pub loop-byte-preserved : goal.loop-byte-preserved
loop-byte-preserved g c =
    let (done, split, appended) = c.loop-byte.invariant in
    let byte = get_or c.args.bytes.now c.loop-byte.byte-index 0 in (
      done ++ shown_byte c.args.readable byte,
      after_byte c.args.readable c.args.bytes.now done c.loop-byte.byte-index c.loop-byte-test.true split,
      Appends-trans _ _ _ done (shown_byte c.args.readable byte) appended c.in_ok-write_byte.ensures.whole,
    )
