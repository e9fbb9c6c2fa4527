-- One answer more is one line more.
use Rattle.std.proofs.Common.{◌≡◌, ◌+◌, ◌<◌, ◌++◌, ◌∷◌, List, [], Result, ◌∙◌, sym, ap, take, length, length-take-le, arith}
use Rattle.std.specs.String.{string_bytes}
use Rattle.std.proofs.lemmas.List.{take_more}
use Rattle.machine_model.specs.declared.event.Refused.{Refused}
use Rattle.verdict_report.specs.ReplayText.{answer_line, answers_text}
use Rattle.verdict_report.proofs.Plays.{answers_more}
use Rattle.verdict_report.proofs.event_text.write_answers.Goals as goal

pub loop-index-preserved : goal.loop-index-preserved
loop-index-preserved c =
    let answers = c.args.answers.now in
    let i = c.loop-index.index in
    let said = c.index-answers-index.result in
    let there : i < length answers = omega arith in
    let counted : length (take i answers) ≡ i = length-take-le i answers (omega (arith, there)) in
    c.in_ok-write_answer.ensures
    ∙ ap (λ t. t ++ answer_line (i + 1, said)) c.loop-index.invariant
    ∙ answers_more (string_bytes c.args.text.now) (take i answers) said (i + 1) (ap (λ n. n + 1) (sym counted))
    ∙ ap (λ (x : Result (Unit {0}) Refused). string_bytes c.args.text.now ++ answers_text (take i answers ++ x ∷ [])) c.index-answers-index.is
    ∙ ap (λ (told : List (Result (Unit {0}) Refused)). string_bytes c.args.text.now ++ answers_text told) (sym (take_more answers i said there))
