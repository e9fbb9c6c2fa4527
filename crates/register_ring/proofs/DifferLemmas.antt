-- The registers whose words differ are marked one after another; a pair is in other pairs where its register is in
-- their set and is not marked.
use Rattle.std.specs.Prelude.{◌≡◌, ℕ, ◌+◌, ◌*◌, ◌%◌, ◌^◌, ◌<◌, Bool, true, false, not, ◌&&◌, ◌||◌, ◌==◌, ◌↔◌, bit_or, cond, Option, Some, None, List, slice_index, length}
use Rattle.std.proofs.Common.{refl, sym, ap, ◌∙◌, subst, arith, inl, inr, below_more}
use Rattle.std.proofs.Math.Path.{fun_ext}
use Rattle.std.proofs.Math.Pow.{pow-lt}
use Rattle.std.proofs.lemmas.Bool.{cases_lt, cond-true, ne_eqb, eq-eqb, eqb-true, and_parts, and_from, false≢true}
use Rattle.std.proofs.lemmas.List.{get_or_past}
use Rattle.std.proofs.lemmas.Nat.{or_lt}
use Rattle.std.proofs.lemmas.Nat.Bits.{bit_at_above}
use Rattle.mips_instructions.proofs.SetLemmas.{has-insert, same_set}
use Rattle.mips_instructions.specs.Words.{has}
use Rattle.machine_model.specs.Burst.{AllIn}
use Rattle.register_ring.specs.Held.{Held, pairs}
use Rattle.register_ring.proofs.PortLemmas.{has_none}

-- each register below a number is marked exactly where its words differ, and no other is
pub record Marks (bits number : ℕ) (words others : List ℕ) : Type 0 where
  pub range : bits < 2 ^ number
  pub below : (r : ℕ) → r < number → has bits r ≡ not (slice_index words r == slice_index others r)

or_no : (x : Bool) → (x || false) ≡ x
or_no true = refl
or_no false = refl

or_yes : (x : Bool) → (x || true) ≡ true
or_yes true = refl
or_yes false = refl

pub mark_differing : (bits i : ℕ) (words others : List ℕ) → i < 34 → Marks bits i words others → (slice_index words i ≡ slice_index others i → ⊥) → Marks (bit_or bits (1 * 2 ^ i % 2 ^ 64)) (i + 1) words others
mark_differing bits i words others small marks differ =
    let more : 2 ^ i < 2 ^ (i + 1) = pow-lt (omega arith) in
    let fits : 2 ^ i < 2 ^ 34 = pow-lt small in
    let new = bit_or bits (1 * 2 ^ i % 2 ^ 64) in
    record {
      range = or_lt (i + 1) bits (1 * 2 ^ i % 2 ^ 64) (omega arith) (omega arith);
      below =
          below_more (λ (r : ℕ). has new r ≡ not (slice_index words r == slice_index others r)) i
          (λ r h. has-insert bits i r (omega arith) ∙ (ap (λ (x : Bool). has bits r || x) (ne_eqb i r (λ e. absurd (omega arith))) ∙ (or_no (has bits r) ∙ marks.below r h)))
          (has-insert bits i i (omega arith) ∙ (ap (λ (x : Bool). has bits i || x) (eq-eqb i i refl) ∙ (or_yes (has bits i) ∙ sym (ap not (ne_eqb _ _ differ)))));
    }

pub keep_same : (bits i : ℕ) (words others : List ℕ) → Marks bits i words others → slice_index words i ≡ slice_index others i → Marks bits (i + 1) words others
keep_same bits i words others marks same =
    let more : 2 ^ i < 2 ^ (i + 1) = pow-lt (omega arith) in
    record {
      range = omega arith;
      below =
          below_more (λ (r : ℕ). has bits r ≡ not (slice_index words r == slice_index others r)) i marks.below
          (ap (λ (bit : ℕ). bit == 1) (bit_at_above bits i i marks.range (omega arith)) ∙ sym (ap not (eq-eqb _ _ same)));
    }

pub marked_all : (bits set : ℕ) (words others : List ℕ) → length words ≡ 34 → length others ≡ 34 → Marks bits 34 words others → set ≡ bits → (r : ℕ) → has set r ≡ not (slice_index words r == slice_index others r)
marked_all bits set words others long long' marks is r =
    ap (λ (x : ℕ). has x r) is
    ∙ elim (cases_lt r 34) [
      | inl below ↦ marks.below r below
      | inr above ↦
          has_none bits r marks.range above
          ∙ sym (ap not (eq-eqb _ _ (get_or_past words r 0 (omega arith) ∙ sym (get_or_past others r 0 (omega arith)))))
    ]

not_not : (x : Bool) → not (not x) ≡ x
not_not true = refl
not_not false = refl

-- one register: whether it is in either set, whether it is in the other set with the same word, and its words
pair_there : (here there same : Bool) (x y w : ℕ) → same ≡ (there && x == y) → (here ≡ true → same ≡ true) → cond here (Some x) None ≡ Some w → cond there (Some y) None ≡ Some w
pair_there false there same x y w is member e = cc
pair_there true there same x y w is member e =
    let parts = and_parts there (x == y) (sym is ∙ member refl) in
    cond-true _ _ _ parts.0 ∙ (ap (λ (v : ℕ). Some v) (sym (eqb-true x y parts.1)) ∙ e)

is_pair : (there : Bool) (x y : ℕ) → cond there (Some y) None ≡ Some x → (there ≡ true) × (x ≡ y)
is_pair true x y e = (refl, cc)
is_pair false x y e = absurd (cc)

pair_same : (here there same : Bool) (x y : ℕ) → same ≡ (there && x == y) → (cond here (Some x) None ≡ Some x → cond there (Some y) None ≡ Some x) → here ≡ true → same ≡ true
pair_same here there same x y is within member =
    let pair = is_pair there x y (within (cond-true _ _ _ member)) in
    is ∙ and_from there (x == y) pair.0 (eq-eqb x y pair.1)

pub within_differing : (held other : Held) (differ same : ℕ) → ((r : ℕ) → has differ r ≡ not (slice_index held.words r == slice_index other.words r)) → ((r : ℕ) → has same r ≡ (has other.set r && not (has differ r)))
    → ((r : ℕ) → has held.set r ≡ true → has same r ≡ true) ↔ AllIn (pairs held) (pairs other)
within_differing held other differ same differ_is same_is =
    let x : ℕ → ℕ = λ r. slice_index held.words r in
    let y : ℕ → ℕ = λ r. slice_index other.words r in
    let is : (r : ℕ) → has same r ≡ (has other.set r && x r == y r) =
    λ r. same_is r ∙ ap (λ (b : Bool). has other.set r && b) (ap not (differ_is r) ∙ not_not (x r == y r)) in (
      λ member r w. pair_there (has held.set r) (has other.set r) (has same r) (x r) (y r) w (is r) (member r),
      λ within r. pair_same (has held.set r) (has other.set r) (has same r) (x r) (y r) (is r) (within r (x r)),
    )

-- the same of two values that are seen as these
pub within_seen : (held other mine theirs : Held) → held ≡ mine → other ≡ theirs → (differ same : ℕ) → ((r : ℕ) → has differ r ≡ not (slice_index held.words r == slice_index other.words r)) → ((r : ℕ) → has same r ≡ (has other.set r && not (has differ r)))
    → ((r : ℕ) → has held.set r ≡ true → has same r ≡ true) ↔ AllIn (pairs mine) (pairs theirs)
within_seen held other mine theirs e e' differ same differ_is same_is =
    subst (λ (h : Held). ((r : ℕ) → has held.set r ≡ true → has same r ≡ true) ↔ AllIn (pairs h) (pairs theirs)) e
    (subst (λ (h : Held). ((r : ℕ) → has held.set r ≡ true → has same r ≡ true) ↔ AllIn (pairs held) (pairs h)) e' (within_differing held other differ same differ_is same_is))

-- pairs that are the same have the same registers
same_register : (here there : Bool) (x y : ℕ) → cond here (Some x) None ≡ cond there (Some y) None → here ≡ there
same_register true true x y e = refl
same_register true false x y e = cc
same_register false true x y e = cc
same_register false false x y e = refl

pub same_registers : (held other : Held) → pairs held ≡ pairs other → held.set ≡ other.set
same_registers held other e =
    same_set held.set other.set
    (λ r. same_register (has held.set r) (has other.set r) (slice_index held.words r) (slice_index other.words r) (ap (λ (words : ℕ → Option ℕ). words r) e))

-- pairs of the same registers that are within others are the same
same_pair : (here there : Bool) (x y : ℕ) → here ≡ there → (cond here (Some x) None ≡ Some x → cond there (Some y) None ≡ Some x) → cond here (Some x) None ≡ cond there (Some y) None
same_pair true there x y e within = sym (within refl)
same_pair false there x y e within = ap (λ (b : Bool). cond b (Some y) None) e

pub same_within : (held other : Held) → held.set ≡ other.set → AllIn (pairs held) (pairs other) → pairs held ≡ pairs other
same_within held other e within =
    fun_ext
    (λ (r : ℕ). let x = slice_index held.words r in same_pair (has held.set r) (has other.set r) x (slice_index other.words r) (ap (λ (set : ℕ). has set r) e) (within r x))

not_false : (x : Bool) → not x ≡ false → x ≡ true
not_false true e = refl
not_false false e = sym e

-- the code compares the sets themselves
pub other_sets : (a b : ℕ) (held other : Held) (differ : Bool) → a ≡ held.set → b ≡ other.set → differ ≡ not (a == b) → differ ≡ true → pairs held ≡ pairs other → ⊥
other_sets a b held other differ mine theirs is apart same =
    let equal : (a == b) ≡ true = eq-eqb a b (mine ∙ (same_registers held other same ∙ sym theirs)) in
    false≢true (sym (is ∙ ap not equal) ∙ apart)

pub same_sets : (a b : ℕ) (held other : Held) (differ : Bool) → a ≡ held.set → b ≡ other.set → differ ≡ not (a == b) → differ ≡ false → held.set ≡ other.set
same_sets a b held other differ mine theirs is together =
    sym mine ∙ (eqb-true a b (not_false (a == b) (sym is ∙ together)) ∙ theirs)
