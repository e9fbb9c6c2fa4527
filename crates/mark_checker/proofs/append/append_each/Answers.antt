use Rattle.std.proofs.Common.{◌≡◌, ◌+◌, ◌++◌, ◌∷◌, [], ℕ, List, Some, sym, ◌∙◌, ap, append_assoc, arith}
use Rattle.mips_instructions.specs.Words.{has}
use Rattle.mark_checker.specs.declared.finding.Finding.{Finding}
use Rattle.mark_checker.proofs.PlaceLists.{up_to, one_more, none_more, each_is}
use Rattle.mark_checker.proofs.append.append_each.Goals as goal
use Rattle.mark_checker.proofs.append.append_each.Goals.{in-Some+in_ok-push, in_default}

pub loop-number-preserved : goal.loop-number-preserved
loop-number-preserved c =
    let old = c.args.list.now.items in
    let so_far = up_to c.args.task c.args.index c.args.rule (has c.args.set) c.loop-number.number in
    let before = c.loop-number.invariant in
    elim c.match-member.branch [
      | in-Some+in_ok-push w ↦
          let r : ℕ → Finding = λ k. record { task = c.args.task; index = c.args.index; rule = c.args.rule; reg = Some k } in
          let final : (old ++ so_far) ++ (r w.in-Some.reg ∷ []) ≡ old ++ up_to c.args.task c.args.index c.args.rule (has c.args.set) (c.loop-number.number + 1) =
          append_assoc old so_far (r w.in-Some.reg ∷ [])
          ∙ ap (λ (xs : List Finding). old ++ xs)
          (ap (λ (k : ℕ). so_far ++ r k ∷ []) w.in-Some.ensures.0
          ∙ sym (one_more c.args.task c.args.index c.args.rule (has c.args.set) c.loop-number.number w.in-Some.ensures.1)) in
          let pushed = w.in_ok-push.ensures.items in
          let same = w.list-is in
          cc (pushed, same, before, final)
      | in_default w ↦
          let final : old ++ so_far ≡ old ++ up_to c.args.task c.args.index c.args.rule (has c.args.set) (c.loop-number.number + 1) =
          ap (λ (xs : List Finding). old ++ xs) (sym (none_more c.args.task c.args.index c.args.rule (has c.args.set) c.loop-number.number w.in_default.ensures)) in
          let same = w.list-is in
          cc (same, before, final)
    ]

pub returns : goal.returns
returns c =
    let e : c.loop-number.number ≡ 34 = omega arith in
    c.loop-number.invariant
    ∙ ap (λ (n : ℕ). c.args.list.now.items ++ up_to c.args.task c.args.index c.args.rule (has c.args.set) n) e
    ∙ ap (λ (xs : List Finding). c.args.list.now.items ++ xs) (each_is c.args.task c.args.index c.args.rule (has c.args.set))
