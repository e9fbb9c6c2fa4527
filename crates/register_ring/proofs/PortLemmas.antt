-- What a change of the pairs that are kept is to what arrived and to what was sent.
use Rattle.std.specs.Prelude.{◌≡◌, ℕ, ◌-◌, ◌^◌, ◌<◌, ◌≤◌, Bool, true, false, nat_eq, nat_lt, if◌then◌else◌, cond, Option, Some, None, List, slice_index, length}
use Rattle.std.specs.Option.{option_or}
use Rattle.std.proofs.Common.{refl, sym, ap, ◌∙◌, subst, arith, inl, inr}
use Rattle.std.proofs.Math.Path.{fun_ext}
use Rattle.std.proofs.lemmas.Bool.{cases_lt, cond-true, cond-false, lt-ltb, le-ltb, eqb-true}
use Rattle.std.proofs.lemmas.List.{get_or_past}
use Rattle.std.proofs.lemmas.Nat.Bits.{bit_at_ones, bit_at_above}
use Rattle.mips_instructions.specs.Words.{has}
use Rattle.machine_model.specs.Machine.{Words}
use Rattle.machine_model.specs.Unit.{put}
use Rattle.machine_model.specs.Burst.{AllIn}
use Rattle.register_ring.specs.Held.{Held, pairs, put_first}
use Rattle.register_ring.specs.Ports.{arrived_fresh, filled_with}

pub has_all : (all r : ℕ) → all ≡ 2 ^ 34 - 1 → r < 34 → has all r ≡ true
has_all all r is below = ap (λ (x : ℕ). has x r) is ∙ ap (λ (bit : ℕ). nat_eq bit 1) (bit_at_ones 34 r below)

pub has_none : (set r : ℕ) → set < 2 ^ 34 → 34 ≤ r → has set r ≡ false
has_none set r small above = ap (λ (bit : ℕ). nat_eq bit 1) (bit_at_above set 34 r small above)

-- what arrived is the pairs below 34, and 0 above
abbrev pub over_ring : Words → Words
over_ring words r = if nat_lt r 34 then words r else Some 0

put_twice : (inside here : Bool) (word : Option ℕ) (w : ℕ) → (here ≡ true → inside ≡ true) → cond inside (cond here (Some w) word) (Some 0) ≡ cond here (Some w) (cond inside word (Some 0))
put_twice true here word w then_inside = refl
put_twice false false word w then_inside = refl
put_twice false true word w then_inside = absurd (let e = then_inside refl in cc)

pub ring_put : (words : Words) (r w : ℕ) → r < 34 → over_ring (put r w words) ≡ put r w (over_ring words)
ring_put words r w below =
    fun_ext
    (λ (s : ℕ). put_twice (nat_lt s 34) (nat_eq s r) (words s) w (λ here. let same = eqb-true s r here in lt-ltb s 34 (omega arith)))

-- pairs that are these below 34
pub ring_is : (words words' : Words) → ((r : ℕ) → r < 34 → words r ≡ words' r) → ((r : ℕ) → 34 ≤ r → words' r ≡ Some 0) → over_ring words ≡ words'
ring_is words words' below above =
    fun_ext
    (λ (r : ℕ). elim (cases_lt r 34) [
      | inl inside ↦ cond-true _ _ _ (lt-ltb r 34 inside) ∙ below r inside
      | inr outside ↦ cond-false _ _ _ (le-ltb r 34 outside) ∙ sym (above r outside)
    ])

pub ring_fresh : (words : List ℕ) (accum : ℕ) (pairs' : Words) → length words ≡ 34 → accum < 2 ^ 34 → ((r : ℕ) → r < 34 → pairs' r ≡ (if has accum r then None else Some (slice_index words r))) → over_ring pairs' ≡ arrived_fresh words accum
ring_fresh words accum pairs' long small is =
    ring_is pairs' (arrived_fresh words accum) is
    (λ r above. cond-false _ _ _ (has_none accum r small above) ∙ ap (λ (w : ℕ). Some w) (get_or_past words r 0 (omega arith)))

pub ring_fill : (words : List ℕ) (old new : Words) → ((r : ℕ) → r < 34 → new r ≡ option_or (old r) (Some (slice_index words r))) → over_ring new ≡ filled_with words (over_ring old)
ring_fill words old new is =
    ring_is new (filled_with words (over_ring old))
    (λ r below. is r below ∙ ap (λ (o : Option ℕ). option_or o (Some (slice_index words r))) (sym (cond-true _ _ _ (lt-ltb r 34 below))))
    (λ r above. ap (λ (o : Option ℕ). option_or o (Some (slice_index words r))) (cond-false _ _ _ (le-ltb r 34 above)))

-- a register that has no word yet is put in first
first_put : (here : Bool) (word : Option ℕ) (w : ℕ) → (here ≡ true → word ≡ None) → cond here (Some w) word ≡ option_or word (cond here (Some w) None)
first_put true word w none = subst (λ (o : Option ℕ). Some w ≡ option_or o (Some w)) (sym (none refl)) refl
first_put false None w none = refl
first_put false (Some x) w none = refl

pub put_is_first : (words : Words) (r w : ℕ) → words r ≡ None → put r w words ≡ put_first r w words
put_is_first words r w none =
    fun_ext (λ (s : ℕ). first_put (nat_eq s r) (words s) w (λ here. ap words (eqb-true s r here) ∙ none))

pub no_pair : (held : Held) (r : ℕ) → has held.set r ≡ false → pairs held r ≡ None
no_pair held r e = cond-false _ _ _ e

-- pairs that are the same are within one another
pub all_same : (f g : Words) → f ≡ g → AllIn f g
all_same f g e r w h = sym (ap (λ (k : Words). k r) e) ∙ h

-- the same of what arrived, since both have 0 for what is no register
pub ring_within : (f g : Words) → AllIn f g → AllIn (over_ring f) (over_ring g)
ring_within f g h r w e = inside (nat_lt r 34) (f r) (g r) (h r w) e
  where
    inside : (below : Bool) (o p : Option ℕ) → (o ≡ Some w → p ≡ Some w) → cond below o (Some 0) ≡ Some w → cond below p (Some 0) ≡ Some w
    inside true o p h e = h e
    inside false o p h e = e

pub within_ring : (f g : Words) → ((r : ℕ) → 34 ≤ r → f r ≡ None) → AllIn (over_ring f) (over_ring g) → AllIn f g
within_ring f g above h r w e =
    elim (cases_lt r 34) [
      | inl below ↦
          let t = lt-ltb r 34 below in
          sym (cond-true _ _ _ t) ∙ h r w (cond-true _ _ _ t ∙ e)
      | inr outside ↦ absurd (let none = above r outside in cc)
    ]

pub rings_within : (held : Held) (g f' g' : Words) → over_ring (pairs held) ≡ f' → over_ring g ≡ g' → held.set < 2 ^ 34 → (AllIn (pairs held) g → AllIn f' g') × (AllIn f' g' → AllIn (pairs held) g)
rings_within held g f' g' e e' small =
    let f = pairs held in
    let above : (r : ℕ) → 34 ≤ r → f r ≡ None = λ r outside. no_pair held r (has_none held.set r small outside) in (
      subst (λ (x : Words). AllIn f g → AllIn x g') e (subst (λ (y : Words). AllIn f g → AllIn (over_ring f) y) e' (ring_within f g)),
      subst (λ (x : Words). AllIn x g' → AllIn f g) e (subst (λ (y : Words). AllIn (over_ring f) y → AllIn f g) e' (within_ring f g above)),
    )
