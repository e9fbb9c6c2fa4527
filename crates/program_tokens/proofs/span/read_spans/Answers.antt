-- Each turn takes what the definition takes from the front: a blank, a comment, or a token's bytes.
use Rattle.std.proofs.Common.{◌≡◌, ℕ, ◌+◌, suc, length, drop, ◌∙◌, sym, ap, List, ◌++◌, append-nil, length-drop, arith}
use Rattle.program_tokens.specs.declared.span.TokenSpan.{TokenSpan}
use Rattle.program_tokens.specs.Spans.{spans_after}
use Rattle.program_tokens.proofs.Steps.{run-le}
use Rattle.program_tokens.proofs.SpanSteps.{blank_column, comment_column, span_step, no_column, span_pushed}
use Rattle.program_tokens.proofs.span.read_spans.Goals as goal

pub loop-first-preserved-then-is_blank : goal.loop-first-preserved-then-is_blank
loop-first-preserved-then-is_blank c =
    let cut : length c.loop-first.rest.now ≡ suc (length c.in-Some.after.now) = ap (λ (xs : List ℕ). length xs) c.in-Some.ensures.cases.0 in
    record {
      placed = ap (λ (xs : List TokenSpan). c.loop-first.spans.items ++ xs) (sym (ap (spans_after c.loop-first.column 0) c.in-Some.ensures.cases.0
          ∙ blank_column c.loop-first.column c.in-Some.first.now c.in-Some.after.now (sym c.is_blank.ensures ∙ c.if-is_blank.true)))
          ∙ c.loop-first.invariant.placed;
      counted = omega (arith, c.loop-first.invariant.counted, cut);
    }

pub loop-first-preserved : goal.loop-first-preserved
loop-first-preserved c =
    let n = c.run_len-len.result in
    let column = c.loop-first.column in
    let rest = c.loop-first.rest.now in
    let behind = c.split_at.result.1.now in
    let here : TokenSpan = record { column = column; len = 1 + n } in
    let cut : length rest ≡ suc (length c.in-Some.after.now) = ap (λ (xs : List ℕ). length xs) c.in-Some.ensures.cases.0 in
    let left : length behind ≡ length (drop (1 + n) rest) = ap (λ (xs : List ℕ). length xs) c.split_at.ensures.back in
    record {
      placed = span_pushed c.loop-first.spans.items c.push.new.self.items here (spans_after (column + (1 + n)) 0 behind) (spans_after column 0 rest) _ c.in_ok-push.ensures.items
          (span_step column rest c.in-Some.after.now behind c.in-Some.first.now n c.kind_of.result c.in-Some.ensures.cases.0
          (sym c.is_blank.ensures ∙ c.if-is_blank.false) c.if-first-eq35.false c.kind_of.ensures c.run_len-len.ensures c.split_at.ensures.back)
          c.loop-first.invariant.placed;
      counted = omega (arith, c.loop-first.invariant.counted, cut, left, length-drop (1 + n) rest, c.run_len-len.ensures, run-le c.kind_of.result c.in-Some.after.now);
    }

pub returns-then-first-eq35 : goal.returns-then-first-eq35
returns-then-first-eq35 c =
    sym (append-nil c.loop-first.spans.items)
    ∙ ap (λ (xs : List TokenSpan). c.loop-first.spans.items ++ xs) (sym (ap (spans_after c.loop-first.column 0) c.in-Some.ensures.cases.0
    ∙ comment_column c.loop-first.column c.in-Some.first.now c.in-Some.after.now (sym c.is_blank.ensures ∙ c.if-is_blank.false) c.if-first-eq35.true))
    ∙ c.loop-first.invariant.placed ∙ ap (spans_after 1 0) c.without_carriage_return-text.ensures

pub returns-in_default : goal.returns-in_default
returns-in_default c =
    sym (append-nil c.loop-first.spans.items)
    ∙ ap (λ (xs : List TokenSpan). c.loop-first.spans.items ++ xs) (sym (no_column c.loop-first.column c.loop-first.rest.now c.in_default.ensures.cases))
    ∙ c.loop-first.invariant.placed ∙ ap (spans_after 1 0) c.without_carriage_return-text.ensures
