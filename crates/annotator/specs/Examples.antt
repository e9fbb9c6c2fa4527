-- Worked examples of the least masks, shown and refuted by hand.
use Rattle.std.specs.Prelude.{◌≡◌, ℕ, ◌<◌, ◌+◌, ◌↔◌, pos, Bool, true, false, List, [], ◌∷◌, length, slice_get, slice_index_or, zero, suc, Option, Some, None, IsSome, is_some, nat_eq}
use Rattle.std.proofs.Common.{refl, sym, ◌∙◌, ap, subst, arith, lit<}
use Rattle.std.proofs.lemmas.Bool.{cond-false, ne_eqb}
use Rattle.mips_instructions.specs.Words.{has}
use Rattle.mips_instructions.specs.Instruction.{dests}
use Rattle.mips_instructions.proofs.SetLemmas.{has-empty}
use Rattle.mips_instructions.specs.declared.instruction.ThreeKind.TheVariants.{Addu}
use Rattle.mips_instructions.specs.declared.instruction.ImmKind.TheVariants.{Addiu}
use Rattle.mips_instructions.specs.declared.instruction.Op.TheVariants.{Three, Imm, Jump}
use Rattle.task_descriptor.specs.Listing.{Listing}
use Rattle.task_descriptor.specs.declared.descriptor.Marked.{Marked}
use Rattle.task_graph.specs.Edges.{Edge, edge, Path, stay, onward, MayWrite}
use Rattle.task_graph.specs.Members.{Reaches}
use Rattle.task_graph.specs.Examples.{bare, forwards, stops, turn, lone, spin, unlisted_write}
use Rattle.mask_certificate.specs.Lists.{mask_at}
use Rattle.mark_checker.specs.Examples.{written_again}
use Rattle.annotator.specs.Least.{LeastList}
use Rattle.annotator.specs.Proposed.{WritesLast, produces}

no : false ≡ true → ⊥
no h = cc

-- the one instruction of `spin` writes nothing
only_turn : (i : ℕ) (m : Marked) → slice_get spin.code i ≡ Some m → turn ≡ m
only_turn zero m h = cc
only_turn (suc i) m h = absurd (cc)

writes_nothing : (i r : ℕ) → MayWrite spin i r → ⊥
writes_nothing i r w = no (subst (λ (m : Marked). dests m.op r ≡ true) (sym (only_turn w.place w.at w.is_there)) w.writes)

none_behind : (i : ℕ) → mask_at ((0, 0) ∷ []) (suc i) ≡ None
none_behind i = cond-false (nat_eq 0 (suc i)) (Some 0) None (ne_eqb 0 (suc i) (λ e. omega arith))

one_masked : (i mask : ℕ) → mask_at ((0, 0) ∷ []) i ≡ Some mask → mask ≡ 0
one_masked zero mask h = cc
one_masked (suc i) mask h = let none = none_behind i in absurd (cc)

one_reached : (i : ℕ) → IsSome (mask_at ((0, 0) ∷ []) i) ↔ Reaches spin 0 i
one_reached zero = (λ h. record { path = stay; within = lit< tt }, λ r. refl)
one_reached (suc i) = (λ h. absurd (no (sym (ap (λ (o : Option ℕ). is_some o) (none_behind i)) ∙ h)), λ r. absurd (beyond i r.within))
  where
    beyond : (i : ℕ) → suc i < 1 → ⊥
    beyond i h = omega arith

-- so its least list has one mask, which is empty
pub spin_least : LeastList spin lone ((0, 0) ∷ [])
spin_least = record {
  rises = record { rising = λ k h. absurd (few k h); inside = λ k d h. first k d h };
  reached = one_reached;
  exact = λ i mask r at. (
    λ h. absurd (no (sym (has-empty r) ∙ subst (λ n. has n r ≡ true) (one_masked i mask at) h)),
    λ w. absurd (writes_nothing i r w),
  );
}
  where
    few : (k : ℕ) → k + 1 < 1 → ⊥
    few k h = omega arith

    first : (k : ℕ) (d : ℕ × ℕ) → k < 1 → (slice_index_or ((0, 0) ∷ []) k d).0 < 4096
    first zero d h = lit< tt
    first (suc k) d h = absurd (omega arith)

-- a register more than what may be written: not least
pub too_large : LeastList spin lone ((0, 0x100) ∷ []) → ⊥
too_large least = writes_nothing 0 8 ((least.exact 0 0x100 8 refl).0 refl)

-- a register less: not least
pub too_small : LeastList unlisted_write lone ((0, 0) ∷ []) → ⊥
too_small least =
    let write : MayWrite unlisted_write 0 8 =
    record { place = 0; comes = stay; at = stops (Imm Addiu 8 0 (pos 1)); is_there = refl; writes = refl } in
    no ((least.exact 0 0 8 refl).1 write)

-- no mask where the task comes: not least
pub missing : LeastList spin lone [] → ⊥
missing least = no ((least.reached 0).1 (record { path = stay; within = lit< tt }))

-- an index where the task never comes: not least
pub beside : LeastList spin lone ((0, 0) ∷ (1, 0) ∷ []) → ⊥
beside least = beyond ((least.reached 1).0 refl).within
  where
    beyond : 1 < 1 → ⊥
    beyond h = omega arith

-- index 0 writes register 8, which index 2 writes again: no forward bit there
pub not_last : WritesLast written_again 0 (Imm Addiu 8 8 (pos 1)) → ⊥
not_last last =
    let here : Edge written_again false 0 1 = record { at = forwards (Imm Addiu 8 8 (pos 1)); is_there = refl; taken = false; leads = refl; kind = refl } in
    let next : Edge written_again false 1 2 = record { at = forwards (Three Addu 9 9 8); is_there = refl; taken = false; leads = refl; kind = refl } in
    last.last 1 8 here refl (record { place = 2; comes = onward stay next; at = bare (Imm Addiu 8 8 (pos 0)); is_there = refl; writes = refl })
