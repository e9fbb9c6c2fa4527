use Rattle.std.proofs.Common.{◌≡◌, Bool, ℕ, ◌||◌, ◌∙◌, ap, sym}
use Rattle.std.specs.Prelude.{is_none}
use Rattle.mask_certificate.specs.Lists.{mask_at}
use Rattle.mark_checker.specs.Rules.{in_mask}
use Rattle.mips_instructions.specs.Words.{has}
use Rattle.mark_checker.specs.CheckerSteps.{holds_at}
use Rattle.mark_checker.proofs.Ahead.{any_inside}
use Rattle.mark_checker.proofs.place.ahead_of.Goals as goal
use Rattle.mark_checker.proofs.place.ahead_of.Goals.{then-first, else-first}

pub returns-clause-without_mask : goal.returns-clause-without_mask
returns-clause-without_mask c =
    let a = c.ahead_at-first.result.without_mask in
    let b = c.ahead_at-second.result.without_mask in
    let joined : c.if-first.without_mask ≡ (a || b) = elim c.if-first.branch [
      | then-first w ↦ w.without_mask-is ∙ w.if-first.true ∙ sym (ap (λ (x : Bool). x || b) w.if-first.true)
      | else-first w ↦ w.without_mask-is ∙ sym (ap (λ (x : Bool). x || b) w.if-first.false)
    ] in
    let next = c.next_inside-next.result in
    let test : ℕ → Bool = λ j. is_none (mask_at c.args.masks.now j) in
    let sides : (a || b) ≡ (holds_at next.first test || holds_at next.second test) =
    λ k. c.ahead_at-first.ensures.without_mask k || c.ahead_at-second.ensures.without_mask k in
    joined ∙ sides ∙ any_inside c.args.program.now c.args.index c.args.marked.now next test c.requires c.next_inside-next.ensures.exact

pub returns-clause-masks : goal.returns-clause-masks
returns-clause-masks c r =
    let next = c.next_inside-next.result in
    let test : ℕ → Bool = λ j. in_mask (mask_at c.args.masks.now j) r in
    let sides : (has c.ahead_at-first.result.masks r || has c.ahead_at-second.result.masks r) ≡ (holds_at next.first test || holds_at next.second test) =
    λ k. c.ahead_at-first.ensures.masks r k || c.ahead_at-second.ensures.masks r k in
    c.union.ensures.members r ∙ sides ∙ any_inside c.args.program.now c.args.index c.args.marked.now next test c.requires c.next_inside-next.ensures.exact
