-- The last line ends the map, and so does the first fault of a line.
use Rattle.std.proofs.Common.{◌≡◌, ◌<◌, ◌∷◌, [], length, ◌∙◌, sym, ap, IfSome, IfNone, subst, arith}
use Rattle.std.proofs.lemmas.Result.{err_from_is_err_and}
use Rattle.program_tokens.specs.Lines.{lines}
use Rattle.program_statements.specs.declared.statement.Section.TheVariants.{Text}
use Rattle.annotated_asm.specs.Sources.{no_sources, sources_in, with_lines}
use Rattle.annotated_asm.proofs.LineSteps.{line_more, line_last, line_fault}
use Rattle.annotated_asm.proofs.reading.map_of.Goals as goal

pub returns-in_err-section : goal.returns-in_err-section
returns-in_err-section c =
    let why = err_from_is_err_and c.from_residual.result c.from_residual.ensures.1 in
    rw (why.1, why.2)
    (line_fault c.in_err-section.field-0.0 (sources_in c.lines.map) c.lines.line c.lines.section c.first_line.result.0.now c.first_line.result.1 (λ rest. lines rest.now)
    (lines c.lines.rest.now) (with_lines no_sources 1 Text (lines c.args.text.now)) c.first_line.ensures.more c.first_line.ensures.last c.in_err-section.ensures c.lines.invariant.whole)

pub returns-in-None : goal.returns-in-None
returns-in-None c =
    let last : lines c.lines.rest.now ≡ c.first_line.result.0.now ∷ [] =
    subst (λ behind. IfNone behind (lines c.lines.rest.now ≡ c.first_line.result.0.now ∷ [])) c.in-None.is c.first_line.ensures.last in
    sym c.lines.invariant.whole ∙ ap (with_lines (sources_in c.lines.map) c.lines.line c.lines.section) last
    ∙ line_last (sources_in c.lines.map) (sources_in c.add_line.new.map) c.lines.line c.lines.section c.in_ok-section.section c.first_line.result.0.now c.in_ok-section.ensures

pub lines-preserved : goal.lines-preserved
lines-preserved c =
    let here = sources_in c.lines.map in
    let next = sources_in c.add_line.new.map in
    let line = c.first_line.result.0.now in
    let more : lines c.lines.rest.now ≡ line ∷ lines c.in-Some.more.now =
    subst (λ behind. IfSome behind (λ rest. lines c.lines.rest.now ≡ line ∷ lines rest.now)) c.in-Some.is c.first_line.ensures.more in
    let shorter : length c.in-Some.more.now < length c.lines.rest.now =
    subst (λ behind. IfSome behind (λ rest. length rest.now < length c.lines.rest.now)) c.in-Some.is c.first_line.ensures.shorter in
    record {
      whole = sym (line_more here next c.lines.line c.lines.section c.in_ok-section.section line (lines c.in-Some.more.now) c.in_ok-section.ensures)
          ∙ sym (ap (with_lines here c.lines.line c.lines.section) more) ∙ c.lines.invariant.whole;
      counted = omega (arith, shorter, c.lines.invariant.counted);
    }
