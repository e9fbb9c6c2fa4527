-- A printable name is shown as it is.
use Rattle.std.proofs.Common.{◌≡◌, ◌∙◌, true, List, ℕ, OnOk, subst, sym}
use Rattle.std.specs.Io.KnownBytes.{Appends}
use Rattle.shown_names.specs.Shown.{is_printable, is_readable}
use Rattle.result_files.specs.Writing.{Begins}
use Rattle.program_edge.proofs.ShownLemmas.{all_printed}
use Rattle.program_edge.proofs.shown.write_shown.Goals as goal

pub returns-then-is_printable-clause-whole : goal.returns-then-is_printable-clause-whole
returns-then-is_printable-clause-whole g c =
    let p = subst (λ (l : List ℕ). is_printable l ≡ true) c.as_bytes-bytes.ensures.value (sym c.is_printable.ensures ∙ c.if-is_printable.true) in
    subst (λ (l : List ℕ). OnOk c.write_text.result (Appends (g.W.Write.contents c.args.writer.now) (g.W.Write.contents c.write_text.new.writer) l))
    (sym (all_printed (is_readable c.args.name.now) c.args.name.now p)) c.write_text.ensures.whole

pub returns-then-is_printable-clause-part : goal.returns-then-is_printable-clause-part
returns-then-is_printable-clause-part g c =
    let p = subst (λ (l : List ℕ). is_printable l ≡ true) c.as_bytes-bytes.ensures.value (sym c.is_printable.ensures ∙ c.if-is_printable.true) in
    subst (λ (l : List ℕ). Begins (g.W.Write.contents c.args.writer.now) (g.W.Write.contents c.write_text.new.writer) l)
    (sym (all_printed (is_readable c.args.name.now) c.args.name.now p)) c.write_text.ensures.part
