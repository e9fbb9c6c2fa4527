-- The loops over the members of a set, and what they leave when no member is left.
use Rattle.std.specs.Prelude.{◌≡◌, ℕ, ◌+◌, ◌<◌, ◌≤◌, Bool, true, false, not, ◌&&◌, ◌||◌, nat_eq, cond, Option, Some, None, is_some}
use Rattle.std.specs.Option.{option_or}
use Rattle.std.proofs.Common.{refl, sym, ap, ◌∙◌, arith, inl, inr}
use Rattle.std.proofs.Math.Path.{fun_ext}
use Rattle.std.proofs.lemmas.Bool.{cond-true, cond-false, eq-eqb, ne_eqb, eqb-true, cases_lt, cases_eq, false≢true}
use Rattle.mips_instructions.specs.Instruction.{alu, dests, is_register_only, computed}
use Rattle.mips_instructions.specs.InstructionTable.{general}
use Rattle.mips_instructions.specs.declared.instruction.Op.{Op}
use Rattle.machine_model.specs.Machine.{Words}
use Rattle.machine_model.specs.Unit.{put, with_own, sent_with}
use Rattle.register_ring.specs.Held.{put_first}
use Rattle.unit_core.specs.ExecParts.{in_general, writes, replaced}

-- the registers below are as they shall be, the others as they were
pub record SoFar (old target words : Words) (from : ℕ) : Type 0 where
  pub below : (r : ℕ) → r < from → words r ≡ target r
  pub above : (r : ℕ) → from ≤ r → words r ≡ old r

pub one_more : (old target words words' : Words) (from k : ℕ) (word : Option ℕ) → SoFar old target words from → from ≤ k → ((s : ℕ) → from ≤ s → s < k → target s ≡ old s) → words' ≡ replaced k word words → word ≡ target k → SoFar old target words' (k + 1)
one_more old target words words' from k word far low between is here = record {
  below = λ r less. elim (cases_eq r k) [
    | inl same ↦ at r ∙ (cond-true _ _ _ (eq-eqb r k same) ∙ (here ∙ ap target (sym same)))
    | inr other ↦ at r ∙ (cond-false _ _ _ (ne_eqb r k other) ∙ elim (cases_lt r from) [
      | inl before ↦ far.below r before
      | inr after ↦ let under : r < k = omega arith in far.above r after ∙ sym (between r after under)
    ])
  ];
  above = λ r over.
      let other : r ≡ k → ⊥ = λ same. absurd (omega arith) in
      let after : from ≤ r = omega arith in
      at r ∙ (cond-false _ _ _ (ne_eqb r k other) ∙ far.above r after);
}
  where
    at : (r : ℕ) → words' r ≡ replaced k word words r
    at r = ap (λ (f : Words). f r) is

pub all_done : (old target words : Words) (from : ℕ) → SoFar old target words from → ((s : ℕ) → from ≤ s → target s ≡ old s) → words ≡ target
all_done old target words from far rest =
    fun_ext
    (λ (r : ℕ). elim (cases_lt r from) [
      | inl before ↦ far.below r before
      | inr after ↦ far.above r after ∙ sym (rest r after)
    ])

or_none : (o : Option ℕ) → option_or o None ≡ o
or_none None = refl
or_none (Some x) = refl

nothing_off : (b d : Bool) (x : ℕ) (loaded : Option ℕ) → d ≡ false → option_or (cond (b && d) (Some x) None) (cond d loaded None) ≡ None
nothing_off b true x loaded e = absurd (cc)
nothing_off true false x loaded e = refl
nothing_off false false x loaded e = refl

-- nothing is written where there is no destination
pub writes_none : (op : Op) (a b pc : ℕ) (loaded : Option ℕ) (r : ℕ) → dests op r ≡ false → writes op a b pc loaded r ≡ None
writes_none op a b pc loaded r e = nothing_off (is_register_only op) (dests op r) (computed op a b pc r) loaded e

pub writes_at : (op : Op) (a b pc : ℕ) (loaded : Option ℕ) (r : ℕ) → dests op r ≡ true → writes op a b pc loaded r ≡ option_or (alu op a b pc r) loaded
writes_at op a b pc loaded r e = ap (λ (o : Option ℕ). option_or (alu op a b pc r) o) (cond-true _ _ _ e)

pub own_none : (words own : Words) (r : ℕ) → words r ≡ None → with_own words own r ≡ own r
own_none words own r e = ap (λ (o : Option ℕ). option_or o (own r)) e

-- nothing is sent that is not in the set
pub sent_off : (set : ℕ → Bool) (values sent : Words) (r : ℕ) → set r ≡ false → sent_with set values sent r ≡ sent r
sent_off set values sent r e = ap (λ (o : Option ℕ). option_or (sent r) o) (cond-false _ _ _ e) ∙ or_none (sent r)

pub sent_on : (set : ℕ → Bool) (values sent : Words) (r : ℕ) → set r ≡ true → sent_with set values sent r ≡ option_or (sent r) (values r)
sent_on set values sent r e = ap (λ (o : Option ℕ). option_or (sent r) o) (cond-true _ _ _ e)

-- what was sent stays, so only the other registers of a set have to be looked at
unsent_or : (o : Option ℕ) (in_set in_rest : Bool) (word : Option ℕ) → in_rest ≡ (in_set && not (is_some o)) → option_or o (cond in_rest word None) ≡ option_or o (cond in_set word None)
unsent_or None true in_rest word e = ap (λ (b : Bool). cond b word None) e
unsent_or None false in_rest word e = ap (λ (b : Bool). cond b word None) e
unsent_or (Some x) in_set in_rest word e = refl

pub rest_sent : (set rest : ℕ → Bool) (values sent : Words) → ((r : ℕ) → rest r ≡ (set r && not (is_some (sent r)))) → sent_with rest values sent ≡ sent_with set values sent
rest_sent set rest values sent is = fun_ext (λ (r : ℕ). unsent_or (sent r) (set r) (rest r) (values r) (is r))

pub none_sent : (set : ℕ → Bool) (values sent : Words) → ((r : ℕ) → set r ≡ false) → sent ≡ sent_with set values sent
none_sent set values sent none = fun_ext (λ (r : ℕ). sym (sent_off set values sent r (none r)))

first_or : (here : Bool) (word word' : Option ℕ) (w : ℕ) → (here ≡ true → word ≡ word') → option_or word (cond here (Some w) None) ≡ cond here (option_or word' (Some w)) word
first_or true word word' w same = ap (λ (o : Option ℕ). option_or o (Some w)) (same refl)
first_or false word word' w same = or_none word

pub first_replaced : (r w : ℕ) (words : Words) → put_first r w words ≡ replaced r (option_or (words r) (Some w)) words
first_replaced r w words =
    fun_ext (λ (s : ℕ). first_or (nat_eq s r) (words s) (words r) w (λ here. ap words (eqb-true s r here)))

-- A general register gets a word, unless it is register 0, and is sent with it

pub or_false : (x : Bool) → (x || false) ≡ x
or_false true = refl
or_false false = refl

pub and_false_or : (f x : Bool) → ((f && false) || x) ≡ x
and_false_or true x = refl
and_false_or false x = refl

no_and : (x : Bool) → (x && false) ≡ true → ⊥
no_and true e = false≢true e
no_and false e = false≢true e

general_at : (g : ℕ) → (g ≡ 0 → ⊥) → general g g ≡ true
general_at g other = λ j. eq-eqb g g refl j && not (ne_eqb g 0 other j)

general_on : (g r : ℕ) → (g ≡ 0 → ⊥) → r ≡ g → general g r ≡ true
general_on g r other same = ap (λ (n : ℕ). general g n) same ∙ general_at g other

general_off : (g r : ℕ) → (r ≡ g → ⊥) → general g r ≡ false
general_off g r other = λ j. ne_eqb g r (λ e. other (sym e)) j && not (nat_eq r 0)

pub general_above : (g r : ℕ) → general g r ≡ true → nat_eq 0 r ≡ false
general_above g r e = ne_eqb 0 r (λ (zeroth : 0 ≡ r). no_and (nat_eq g 0) (ap (λ (n : ℕ). general g n) zeroth ∙ e))

pub own_general : (g w : ℕ) (own : Words) → (g ≡ 0 → ⊥) → put g w own ≡ with_own (in_general g w) own
own_general g w own other =
    fun_ext (λ (r : ℕ). elim (cases_eq r g) [
      | inl same ↦ cond-true _ _ _ (eq-eqb r g same) ∙ sym (ap (λ (b : Bool). option_or (cond b (Some w) None) (own r)) (general_on g r other same))
      | inr off ↦ cond-false _ _ _ (ne_eqb r g off) ∙ sym (ap (λ (b : Bool). option_or (cond b (Some w) None) (own r)) (general_off g r off))
    ])

pub sent_general : (g w : ℕ) (sent : Words) → (g ≡ 0 → ⊥) → put_first g w sent ≡ sent_with (λ r. true && general g r) (in_general g w) sent
sent_general g w sent other =
    fun_ext (λ (r : ℕ). ap (λ (o : Option ℕ). option_or (sent r) o) (elim (cases_eq r g) [
      | inl same ↦ cond-true _ _ _ (eq-eqb r g same) ∙ sym (ap (λ (b : Bool). cond b (cond b (Some w) None) None) (general_on g r other same))
      | inr off ↦ cond-false _ _ _ (ne_eqb r g off) ∙ sym (ap (λ (b : Bool). cond b (cond b (Some w) None) None) (general_off g r off))
    ]))
