use Rattle.demonstration.proofs.Imports.{sym, ap, ◌∙◌, slice_get, reg_a, reg_b, machine_state, input, instruction_at, Marked, item_there}
use Rattle.std.proofs.Common.{◌≡◌, ℕ, Option, Some, None, [], ◌∷◌, unwrap_or}
use Rattle.demonstration.proofs.Judging.{running_reads, no_fetch, fetch_found, index_within}
use Rattle.demonstration.proofs.judge.next_read.Goals as goal

pub returns-in_default-index : goal.returns-in_default-index
returns-in_default-index c =
    let p = c.args.program.now in
    let s = machine_state c.args.plain.now in
    let runs = sym c.outcome.ensures ∙ c.in-Running.is in
    let none : None ≡ instruction_at p s.pc = c.in_default-index.ensures ∙ ap (λ (at : ℕ). instruction_at p at) c.pc-pc.ensures in
    (λ j. record { pc = c.pc-pc.ensures j; a = 0; b = 0 } ∷ []) ∙ running_reads s.outcome (input p) s None runs (no_fetch p s.pc none)

pub returns : goal.returns
returns c =
    let p = c.args.program.now in
    let s = machine_state c.args.plain.now in
    let runs = sym c.outcome.ensures ∙ c.in-Running.is in
    let i = c.in-Some.index in
    let m = c.index-code-index.result in
    let at : Some i ≡ instruction_at p s.pc = c.in-Some.ensures ∙ ap (λ (n : ℕ). instruction_at p n) c.pc-pc.ensures in
    let there : slice_get p.code i ≡ Some m = item_there p.code c.code.result.now i m c.code.ensures.value (index_within p s.pc i at) c.index-code-index.is in
    let word : Option ℕ → ℕ = λ o. s.regs (unwrap_or o 0) in
    let a : c.operand.result ≡ s.regs (reg_a m.op) = c.operand.ensures ∙ ap word c.sources-first.ensures.first ∙ ap (λ (x : Marked). s.regs (reg_a x.op)) (sym c.index-code-index.is) in
    let b : c.operand-2.result ≡ s.regs (reg_b m.op) = c.operand-2.ensures ∙ ap word c.sources-first.ensures.second ∙ ap (λ (x : Marked). s.regs (reg_b x.op)) (sym c.index-code-index.is) in
    (λ j. record { pc = c.pc-pc.ensures j; a = a j; b = b j } ∷ []) ∙ running_reads s.outcome (input p) s (Some m.op) runs (fetch_found p s.pc i m at there)
