-- Each turn takes what the definition takes from the front: a blank, a comment, or the longest token.
use Rattle.std.proofs.Common.{◌∙◌, sym, ap, List, Some, None, Ok, append-nil, eq-eqb}
use Rattle.program_tokens.specs.Grammar.{tokens_after}
use Rattle.program_tokens.specs.declared.token.Token.{Token}
use Rattle.program_tokens.proofs.Steps.{with_tokens, with_tokens_push, blank_step, comment_step, found_step, end_step}
use Rattle.program_tokens.proofs.line.text_tokens.Goals as goal

pub loop-first-preserved-then-is_blank : goal.loop-first-preserved-then-is_blank
loop-first-preserved-then-is_blank c =
    ap (with_tokens c.loop-first.tokens.items) (sym (ap (tokens_after 0) c.in-Some.ensures.cases.0 ∙ blank_step c.in-Some.first.now c.in-Some.after.now (sym c.is_blank.ensures ∙ c.if-is_blank.true)))
    ∙ c.loop-first.invariant

pub returns-in_default-token_of-clause-err : goal.returns-in_default-token_of-clause-err
returns-in_default-token_of-clause-err c =
    sym c.loop-first.invariant
    ∙ ap (with_tokens c.loop-first.tokens.items) (found_step c.loop-first.rest.now c.in-Some.after.now c.split_at.result.0.now c.split_at.result.1.now c.in-Some.first.now c.run_len.result c.kind_of-kind.result None
    c.in-Some.ensures.cases.0 (sym c.is_blank.ensures ∙ c.if-is_blank.false) c.if-first-eq35.false c.kind_of-kind.ensures c.run_len.ensures c.split_at.ensures.front c.split_at.ensures.back (sym c.in_default-token_of.is ∙ c.token_of.ensures))

pub loop-first-preserved : goal.loop-first-preserved
loop-first-preserved c =
    ap (λ (ts : List Token). with_tokens ts (tokens_after 0 c.split_at.result.1.now)) c.in_ok-push.ensures.items
    ∙ with_tokens_push c.loop-first.tokens.items c.in-Some-token_of.token (tokens_after 0 c.split_at.result.1.now)
    ∙ ap (with_tokens c.loop-first.tokens.items) (sym (found_step c.loop-first.rest.now c.in-Some.after.now c.split_at.result.0.now c.split_at.result.1.now c.in-Some.first.now c.run_len.result c.kind_of-kind.result (Some c.in-Some-token_of.token)
    c.in-Some.ensures.cases.0 (sym c.is_blank.ensures ∙ c.if-is_blank.false) c.if-first-eq35.false c.kind_of-kind.ensures c.run_len.ensures c.split_at.ensures.front c.split_at.ensures.back c.in-Some-token_of.ensures))
    ∙ c.loop-first.invariant

pub returns-then-first-eq35-clause-ok : goal.returns-then-first-eq35-clause-ok
returns-then-first-eq35-clause-ok c =
    sym c.loop-first.invariant
    ∙ ap (with_tokens c.loop-first.tokens.items) (ap (tokens_after 0) c.in-Some.ensures.cases.0 ∙ comment_step c.in-Some.first.now c.in-Some.after.now (sym c.is_blank.ensures ∙ c.if-is_blank.false) (eq-eqb c.in-Some.first.now 35 c.if-first-eq35.true))
    ∙ ap (λ (ts : List Token). Ok ts) (append-nil c.loop-first.tokens.items)

pub returns-in_default-clause-ok : goal.returns-in_default-clause-ok
returns-in_default-clause-ok c =
    sym c.loop-first.invariant
    ∙ ap (with_tokens c.loop-first.tokens.items) (end_step c.loop-first.rest.now c.in_default.ensures.cases)
    ∙ ap (λ (ts : List Token). Ok ts) (append-nil c.loop-first.tokens.items)
