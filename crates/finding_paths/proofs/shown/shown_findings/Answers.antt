-- Marks that are not accepted are not sound, since the least certificate of sound marks is; and something is found.
use Rattle.std.proofs.Common.{◌≡◌, ◌+◌, ◌-◌, map, take, length, sym, ◌∙◌, ap, arith}
use Rattle.std.proofs.lemmas.Grind.{common_steps}
use Rattle.std.proofs.lemmas.List.{length-map}
use Rattle.mark_checker.specs.Rules.{all_rules}
use Rattle.finding_paths.specs.declared.shown.ShownFinding.{ShownFinding}
use Rattle.finding_paths.proofs.Counting.{take_less}
use Rattle.finding_paths.proofs.Showing.{none_refused}
use Rattle.finding_paths.proofs.shown.shown_findings.Goals as goal

pub returns-clause-sound : goal.returns-clause-sound
returns-clause-sound c =
    let p = c.args.program.now in
    let all = all_rules p c.args.least.now in
    let list = c.loop-finding.list.items in
    let first = c.in_ok-first.first in
    let more = first.count - c.len.result in
    let findings : map (λ (s : ShownFinding). s.finding) list ≡ first.list.items = grind (arith, common_steps) in
    let same : map (λ (s : ShownFinding). s.finding) list ≡ take c.args.most all = findings ∙ c.in_ok-first.ensures.list in
    let long : length list ≡ length (take c.args.most all) = sym (length-map list (λ (s : ShownFinding). s.finding)) ∙ ap length same in
    let few = take_less c.args.most all in
    let counted : length list + more ≡ length all = omega (arith, long, few, c.len.ensures, c.in_ok-first.ensures.count) in
    none_refused p c.args.least.now list more c.accepts.result c.accepts.ensures.exact c.if-accepts.false
    c.tasks.ensures.well_formed c.requires counted
