-- The line adds its labels, then its statement, as the definition does.
use Rattle.std.specs.List.{All}
use Rattle.std.proofs.lemmas.List.Elements.{All-drop}
use Rattle.std.proofs.Common.{◌<◌, ◌+◌, ◌^◌, subst, ◌≡◌, ◌∙◌, sym, ap, refl, List, drop, Result, Ok}
use Rattle.program_tokens.specs.Grammar.{line_tokens}
use Rattle.program_tokens.specs.declared.token.Token.{Token}
use Rattle.program_tokens.specs.declared.span.TokenSpan.{TokenSpan}
use Rattle.program_statements.specs.declared.statement.Section.{Section}
use Rattle.annotated_asm.specs.Items.{tokens_on_line}
use Rattle.annotated_asm.specs.declared.fault.AsmFault.{AsmFault}
use Rattle.annotated_asm.specs.declared.position.LabelSource.{LabelSource}
use Rattle.annotated_asm.specs.Sources.{Sources, sources_in, label_sources, with_labels, with_statement}
use Rattle.annotated_asm.proofs.LineSteps.{line_told}
use Rattle.annotated_asm.proofs.reading.add_line.Goals as goal

pub add_statement-requires : goal.add_statement-requires
add_statement-requires c =
    let ends : List TokenSpan → Type 0 = λ ss. All (λ (span : TokenSpan). span.column + span.len < 2 ^ 64) ss in
    let spans = c.read_places.new.spans.items in
    let number = c.in_ok-rest.number in
    let is_own : c.behind-spans.result.now ≡ drop number spans = c.behind-spans.ensures ∙ ap (λ (ss : List TokenSpan). drop number ss) c.deref-3.ensures.value in
    subst ends (sym is_own) (All-drop (λ (span : TokenSpan). span.column + span.len < 2 ^ 64) number spans c.in_ok-read_places.ensures.ends)

pub returns : goal.returns
returns c =
    let n = c.args.line in
    let here = c.args.section in
    let front = sources_in c.args.map.now in
    let last = sources_in c.add_statement.new.map in
    let tokens = c.deref-2.result.now in
    let spans = c.deref.result.now in
    let own = c.behind-spans.result.now in
    let number = c.in_ok-rest.number in
    let rest = c.in_ok-rest.rest.now in
    let said = c.in_ok-statement.statement in
    let labels = label_sources n spans 0 tokens in
    let read : tokens_on_line n (line_tokens c.args.text.now) ≡ Ok tokens =
    c.in_ok-tokens_of.ensures ∙ ap (λ (ts : List Token). let made : Result (List Token) AsmFault = Ok ts in made) (sym c.deref-2.ensures.value) in
    let is_own : own ≡ drop number spans = c.behind-spans.ensures ∙ ap (λ (ss : List TokenSpan). drop number ss) (c.deref-3.ensures.value ∙ sym c.deref.ensures.value) in
    let added : last ≡ with_statement (with_labels front labels) n own rest here said =
    c.in_ok-add_statement.ensures
    ∙ ap (λ (ls : List LabelSource). let next : Sources = record front { labels = ls } in with_statement next n own rest here said) c.in_ok-rest.ensures.added in
    line_told front last n here c.args.text.now tokens rest spans own number labels said
    read (c.deref.ensures.value ∙ c.in_ok-read_places.ensures.places) c.in_ok-rest.ensures.rest c.in_ok-rest.ensures.number is_own refl c.in_ok-statement.ensures added
    ∙ ap (λ (behind : Section). let made : Result (Sources × Section) AsmFault = Ok (last, behind) in made) (sym c.section_after.ensures)
