-- No token ends after its line.
use Rattle.std.proofs.Common.{◌≡◌, ◌<◌, ◌^◌, ◌+◌, List, arith, sym, subst}
use Rattle.std.specs.List.{All}
use Rattle.std.proofs.lemmas.Result.{on_ok_weaker}
use Rattle.program_tokens.specs.Spans.{line_spans}
use Rattle.program_tokens.specs.declared.span.TokenSpan.{TokenSpan}
use Rattle.annotated_asm.proofs.SpanEnds.{line_ends}
use Rattle.annotated_asm.proofs.places.read_places.Goals as goal

pub returns-clause-ends : goal.returns-clause-ends
returns-clause-ends c =
    let ends = line_ends c.args.text.now (omega arith) in
    on_ok_weaker c.read_spans.result
    (λ (is : c.read_spans.new.spans.items ≡ line_spans c.args.text.now). subst (λ (ss : List TokenSpan). All (λ (span : TokenSpan). span.column + span.len < 2 ^ 64) ss) (sym is) ends)
    c.read_spans.ensures
