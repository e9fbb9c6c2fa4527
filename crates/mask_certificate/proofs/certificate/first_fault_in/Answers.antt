-- One list more is passed.
use Rattle.std.proofs.Common.{◌<◌, ◌^◌, ◌≡◌, ℕ, ◌+◌, [], ◌∷◌, ◌++◌, None, take, drop, sym, ap, ◌∙◌, subst, arith}
use Rattle.std.specs.List.{All}
use Rattle.std.specs.Option.{option_or}
use Rattle.std.proofs.lemmas.List.{take_all, at_drop_more, map_more}
use Rattle.std.proofs.lemmas.List.Elements.{All-push}
use Rattle.mask_certificate.specs.Lists.{entries_of, first_fault, fault_in}
use Rattle.mask_certificate.proofs.Rising.{if_none, is_none_of}
use Rattle.mask_certificate.proofs.certificate.first_fault_in.Goals as goal

pub loop-list-preserved : goal.loop-list-preserved
loop-list-preserved c =
    let lists = c.args.lists.now in
    let i = c.loop-list.list-index in
    let task = c.loop-list.task in
    let list = c.list-item.result in
    let passed = sym c.if-is_some.ensures in
    let masks : All (λ (entry : ℕ × ℕ). entry.1 < 2 ^ 34) list.items = subst (All (λ (entry : ℕ × ℕ). entry.1 < 2 ^ 34)) c.deref.ensures.value (if_none c.fault_of-fault.result passed c.fault_of-fault.ensures.masks) in
    let right : fault_in task 0 0 list.items ≡ None = ap (fault_in task 0 0) (sym c.deref.ensures.value) ∙ sym c.fault_of-fault.ensures.first ∙ is_none_of c.fault_of-fault.result passed in
    let rest = entries_of (drop (i + 1) lists) in
    let here : first_fault task (entries_of (drop i lists)) ≡ first_fault (task + 1) rest =
    at_drop_more (λ ls. first_fault task (entries_of ls)) lists i list c.loop-list-test.true
    ∙ ap (λ l. first_fault task (l.items ∷ rest)) (sym c.list-item.is)
    ∙ ap (λ o. option_or o (first_fault (task + 1) rest)) right in
    let front = entries_of (take i lists) in
    let Masked = All (λ (entry : ℕ × ℕ). entry.1 < 2 ^ 34) in
    let more : All Masked (front ++ list.items ∷ []) = All-push Masked front list.items c.loop-list.invariant.masks masks in
    let longer : front ++ list.items ∷ [] ≡ entries_of (take (i + 1) lists) =
    ap (λ l. front ++ l.items ∷ []) c.list-item.is ∙ sym (map_more _ lists i list c.loop-list-test.true) in
    record {
      counted = omega (arith, c.loop-list.invariant.counted);
      left = sym here ∙ c.loop-list.invariant.left;
      masks = subst (All Masked) longer more;
    }

pub returns-clause-masks : goal.returns-clause-masks
returns-clause-masks c = subst (λ ls. All (All (λ (entry : ℕ × ℕ). entry.1 < 2 ^ 34)) (entries_of ls)) (take_all c.loop-list.list-index c.args.lists.now (omega arith)) c.loop-list.invariant.masks
