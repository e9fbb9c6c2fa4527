-- Registers that arrive: by sets that have the same ones before.
use Rattle.std.proofs.Common.{◌≡◌, ℕ, zero, suc, ◌+◌, ◌<◌, List, [], ◌∷◌, ◌++◌, Option, Some, None, Bool, refl, ap, arith}
use Rattle.std.specs.List.{range_with_len}
use Rattle.std.specs.Prelude.{flat_map, if◌then◌else◌, ◌&&◌, not, nat_eq, unwrap_or}
use Rattle.machine_model.specs.Machine.{Active}
use Rattle.event_trace.specs.declared.change.Change.{Change}
use Rattle.event_trace.specs.declared.change.Change.TheVariants.{AtUnit, Took}
use Rattle.event_trace.specs.declared.unit_change.UnitChange.TheVariants.{BecameHead}
use Rattle.event_trace.specs.Changes.{became_head, register_count, taken, takes}

same_from : (set wanted : ℕ → Bool) (f : ℕ → Change) (from n : ℕ) → ((r : ℕ) → r < from + n → set r ≡ wanted r)
    → flat_map (λ r. if set r then f r ∷ [] else []) (range_with_len from n) ≡ flat_map (λ r. if wanted r then f r ∷ [] else []) (range_with_len from n)
same_from set wanted f from zero same = refl
same_from set wanted f from (suc n) same =
    let here : set from ≡ wanted from = same from (omega arith) in
    let rest = same_from set wanted f (from + 1) n (λ r below. same r (omega (arith, below))) in
    λ j. (if here j then f from ∷ [] else []) ++ rest j

-- sets that have the same registers
pub same_taken : (set wanted : ℕ → Bool) (v : Active) → ((r : ℕ) → r < 34 → set r ≡ wanted r) → taken set v ≡ taken wanted v
unfolding register_count
same_taken set wanted v same =
    same_from (takes set v) (takes wanted v) (λ r. Took r (unwrap_or (v.arrived r) 0)) 0 34
    (λ r below. ap (λ (b : Bool). not b && not (nat_eq (unwrap_or (v.arrived r) 0) 0)) (same r (omega (arith, below))))

pub same_head : (set wanted : ℕ → Bool) (o : Option Active) → ((r : ℕ) → r < 34 → set r ≡ wanted r) → became_head set o ≡ became_head wanted o
same_head set wanted None same = refl
same_head set wanted (Some v) same = ap (λ (cs : List Change). AtUnit 1 v.task BecameHead ∷ cs) (same_taken set wanted v same)
