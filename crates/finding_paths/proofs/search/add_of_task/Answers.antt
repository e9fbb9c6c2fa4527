-- One register more.
use Rattle.std.proofs.Common.{◌≡◌, ◌↔◌, ◌∷◌, [], ℕ, Bool, true, sym, ◌∙◌, subst, arith}
use Rattle.mips_instructions.specs.Words.{has}
use Rattle.task_descriptor.specs.Listing.{Listing}
use Rattle.finding_paths.specs.declared.mark.CostlyMark.TheVariants.{NeverProduced}
use Rattle.finding_paths.specs.Costly.{IsNeverProduced}
use Rattle.finding_paths.specs.Candidates.{up_to, of_task}
use Rattle.finding_paths.specs.Steps.{Adds}
use Rattle.finding_paths.proofs.Picking.{up_to_none, up_to_more, adds_one}
use Rattle.finding_paths.proofs.search.add_of_task.Goals as goal

-- the test is whether the set has the register
exactly : (p : Listing) (task r spare : ℕ) (b : Bool) → b ≡ has spare r → ((has spare r ≡ true) ↔ IsNeverProduced p task r) → (b ≡ true) ↔ IsNeverProduced p task r
exactly p task r spare b is exact = (λ yes. exact.0 (sym is ∙ yes), λ n. is ∙ exact.1 n)

pub loop-number-init : goal.loop-number-init
loop-number-init c = up_to_none c.args.program.now (λ r. NeverProduced c.args.task r ∷ []) c.args.list.now.items

pub loop-number-preserved : goal.loop-number-preserved
loop-number-preserved c =
    let p = c.args.program.now in
    let of = c.args.task in
    let register = c.in-Some.register in
    let middle = c.loop-number.list.items in
    let new = c.add.new.list.items in
    let one : Adds p (NeverProduced of register ∷ []) middle new =
    adds_one p (NeverProduced of register) c.has-is_costly.result middle new c.in_ok-add.ensures (exactly p of register c.spare-spare.result c.has-is_costly.result c.has-is_costly.ensures.member (c.spare-spare.ensures register)) in
    up_to_more p (λ r. NeverProduced of r ∷ []) c.loop-number.number c.args.list.now.items middle new c.loop-number.invariant
    (subst (λ (r : ℕ). Adds p (NeverProduced of r ∷ []) middle new) c.in-Some.ensures.value one)

pub returns : goal.returns
unfolding of_task
returns c =
    let end : c.loop-number.number ≡ 34 = omega arith in
    subst (λ (n : ℕ). Adds c.args.program.now (up_to (λ r. NeverProduced c.args.task r ∷ []) n) c.args.list.now.items c.loop-number.list.items) end c.loop-number.invariant
