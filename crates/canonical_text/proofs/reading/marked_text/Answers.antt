-- The last line ends the text, and so does the first fault of a line.
use Rattle.canonical_text.proofs.Imports.{◌≡◌, ◌<◌, ◌∷◌, [], length, Result, ◌∙◌, sym, ap, IfNone, subst, arith, err_from_is_err_and, lines, Text, AsmFault, Written, nothing_of, with_lines, text_in}
use Rattle.std.proofs.Common.{IfSome}
use Rattle.canonical_text.specs.MarkedText.{marked_text}
use Rattle.canonical_text.proofs.LineSteps.{line_more, line_last, line_fault}
use Rattle.canonical_text.proofs.reading.marked_text.Goals as goal

pub returns-in_err-next : goal.returns-in_err-next
unfolding marked_text
returns-in_err-next c =
    let front : Written = record { text = c.lines.written.items; code = c.lines.code.now; tasks = c.lines.tasks.now } in
    let why = err_from_is_err_and c.from_residual.result c.from_residual.ensures.1 in
    rw (why.1, why.2)
    (line_fault c.in_err-next.field-0.0 front c.lines.number c.lines.section c.first_line.result.0.now c.first_line.result.1 (λ rest. lines rest.now)
    (lines c.lines.rest.now) (with_lines (nothing_of c.args.program.now) 1 Text (lines c.args.text.now)) c.first_line.ensures.more c.first_line.ensures.last c.in_err-next.ensures c.lines.invariant.whole)

pub returns-in-None : goal.returns-in-None
unfolding marked_text
returns-in-None c =
    let front : Written = record { text = c.lines.written.items; code = c.lines.code.now; tasks = c.lines.tasks.now } in
    let next : Written = record { text = c.write_line.new.text.items; code = c.in_ok-next.next.code.now; tasks = c.in_ok-next.next.tasks.now } in
    let last : lines c.lines.rest.now ≡ c.first_line.result.0.now ∷ [] =
    subst (λ behind. IfNone behind (lines c.lines.rest.now ≡ c.first_line.result.0.now ∷ [])) c.in-None.is c.first_line.ensures.last in
    ap (λ (r : Result Written AsmFault). text_in r)
    (sym c.lines.invariant.whole ∙ ap (with_lines front c.lines.number c.lines.section) last
    ∙ line_last front next c.lines.number c.lines.section c.in_ok-next.next.section c.first_line.result.0.now c.in_ok-next.ensures)

pub lines-preserved : goal.lines-preserved
lines-preserved c =
    let front : Written = record { text = c.lines.written.items; code = c.lines.code.now; tasks = c.lines.tasks.now } in
    let next : Written = record { text = c.write_line.new.text.items; code = c.in_ok-next.next.code.now; tasks = c.in_ok-next.next.tasks.now } in
    let line = c.first_line.result.0.now in
    let more : lines c.lines.rest.now ≡ line ∷ lines c.in-Some.more.now =
    subst (λ behind. IfSome behind (λ rest. lines c.lines.rest.now ≡ line ∷ lines rest.now)) c.in-Some.is c.first_line.ensures.more in
    let shorter : length c.in-Some.more.now < length c.lines.rest.now =
    subst (λ behind. IfSome behind (λ rest. length rest.now < length c.lines.rest.now)) c.in-Some.is c.first_line.ensures.shorter in
    record {
      whole = sym (line_more front next c.lines.number c.lines.section c.in_ok-next.next.section line (lines c.in-Some.more.now) c.in_ok-next.ensures)
          ∙ sym (ap (with_lines front c.lines.number c.lines.section) more) ∙ c.lines.invariant.whole;
      counted = omega (arith, shorter, c.lines.invariant.counted);
    }
