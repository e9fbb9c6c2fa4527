-- The machine has made as many steps as the budget says.
use Rattle.std.proofs.Common.{◌≡◌, ◌∙◌, ◌+◌, subst, rules, arith}
use Rattle.std.proofs.lemmas.Grind.{common_steps}
use Rattle.std.specs.Prelude.{Result, Ok, Err, IfOk, IsErrAnd, MatchResult}
use Rattle.mips_plain.specs.PlainView.{IsAfter, Makes}
use Rattle.task_descriptor.specs.Listing.{input}
use Rattle.report_texts.proofs.PlainRuns.{counted-zero, report_after, run_report-after}
use Rattle.report_texts.proofs.sequential.run.Goals as goal

-- what a call ensures of its answer holds of that answer after `map_err`
behind_map_err : {A E B : Type 0} (P : A → Type 0) (r : Result A E) (m : Result A B) (Q : E → B → Type 0) (a : A) → MatchResult r (λ x. m ≡ Ok x) (λ e. IsErrAnd m (Q e)) → m ≡ Ok a → IfOk r P → P a
behind_map_err P (Ok x) m Q a cases was holds =
    let same : x ≡ a = cc in
    subst P same holds
behind_map_err P (Err e) (Ok y) Q a cases was holds = absurd cases
behind_map_err P (Err e) (Err f) Q a cases was holds = cc

pub run-requires : goal.run-requires
run-requires c =
    let begins : IsAfter (input c.args.program.now) 0 c.in_ok-machine.machine = search rules in
    let none : c.in_ok-machine.machine.count ≡ 0 = begins.count ∙ counted-zero (input c.args.program.now) in
    omega arith

pub returns : goal.returns
returns c =
    let begins : IsAfter (input c.args.program.now) 0 c.in_ok-machine.machine =
    behind_map_err _ c.plain.result c.map_err.result _ _ c.map_err.ensures.cases c.in_ok-machine.was c.plain.ensures in
    let made : Makes c.from.result c.in_ok-machine.machine c.run.new.self =
    behind_map_err _ c.run.result c.map_err-2.result _ _ c.map_err-2.ensures.cases c.in_ok-map_err.was c.run.ensures.ok in
    let steps : 0 + c.from.result ≡ c.args.budget = omega arith in
    let after : IsAfter (input c.args.program.now) c.args.budget c.run.new.self =
    subst (λ n. IsAfter (input c.args.program.now) n c.run.new.self) steps (made (input c.args.program.now) 0 begins) in
    let said : c.new.result ≡ report_after c.run.new.self =
    first_of (search rules, grind (arith, common_steps), cc) in
    said ∙ run_report-after c.args.program.now c.args.budget c.run.new.self after
