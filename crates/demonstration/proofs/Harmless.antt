-- Where nothing is found the state shows no departure.
use Rattle.demonstration.proofs.Imports.{◌≡◌, ℕ, suc, ◌+◌, ◌<◌, Bool, true, false, nat_eq, if◌then◌else◌, eqb-true, eq-eqb, false≢true, wrong_word, Option, Some, None, List, length, slice_get, refl, sym, ap, ◌∙◌, subst, arith, inl, inr, cases_lt, Read, Listing, Active, State, value, plain_of, HoldsWrong, IsCutAt, NamesItsPlace, plain_beside, seen}
use Rattle.mips_plain.specs.PlainMachine.{State as PlainState}
use Rattle.mips_plain.specs.declared.outcome.Outcome.TheVariants as outcome
use Rattle.machine_model.specs.declared.event.Standing.TheVariants as standing

-- a word beside the right one

wrong_by : (b : Bool) (right w word : ℕ) → nat_eq w right ≡ b → (if b then None else Some w) ≡ Some word → (Some w ≡ Some word) × (word ≡ right → ⊥)
wrong_by true right w word is e = absurd (cc)
wrong_by false right w word is e = (e, λ same. false≢true (sym is ∙ eq-eqb w right ((let there = e in cc) ∙ same)))

pub wrong_is : (right : ℕ) (o : Option ℕ) (word : ℕ) → wrong_word right o ≡ Some word → (o ≡ Some word) × (word ≡ right → ⊥)
wrong_is right None word e = absurd (cc)
wrong_is right (Some w) word e = wrong_by (nat_eq w right) right w word refl e

right_by : (b : Bool) (right w : ℕ) → nat_eq w right ≡ b → (if b then None else Some w) ≡ None → w ≡ right
right_by true right w is e = eqb-true w right is
right_by false right w is e = absurd (cc)

right_is : (right : ℕ) (o : Option ℕ) → wrong_word right o ≡ None → (word : ℕ) → o ≡ Some word → word ≡ right
right_is right None e word there = absurd (cc)
right_is right (Some w) e word there =
    let same : word ≡ w = cc in
    same ∙ right_by (nat_eq w right) right w refl e

-- the registers of the head, one after another

pub one_more_right : (s : State) (plain : PlainState) (n : ℕ) (head : Active) → slice_get s.queue 0 ≡ Some head → wrong_word (plain.regs n) (value head n) ≡ None → ((r word right : ℕ) → r < n → HoldsWrong s plain r word right → ⊥) → (r word right : ℕ) → r < n + 1 → HoldsWrong s plain r word right → ⊥
one_more_right s plain n head is none before = λ r word right below h. elim (cases_lt r n) [
  | inl less ↦ before r word right less h
  | inr past ↦ (
      let same : r ≡ n = omega arith in
      let heads : head ≡ h.head = (let both = sym is ∙ h.is_head in cc) in
      let has : value head n ≡ Some word = ap (λ (u : Active). value u n) heads ∙ ap (value h.head) (sym same) ∙ h.has_word in
      h.differs (right_is (plain.regs n) (value head n) none word has ∙ ap plain.regs (sym same) ∙ h.is_right)
      )
]

pub no_head : (s : State) (plain : PlainState) → slice_get s.queue 0 ≡ None → (r word right : ℕ) → HoldsWrong s plain r word right → ⊥
no_head s plain none = λ r word right h. (let clash = sym none ∙ h.is_head in cc)

pub holds_so : (s : State) (plain : PlainState) (n : ℕ) (head : Active) (word right : ℕ) → slice_get s.queue 0 ≡ Some head → right ≡ plain.regs n → wrong_word right (value head n) ≡ Some word → HoldsWrong s plain n word right
holds_so s plain n head word right is is_right wrong =
    let found = wrong_is right (value head n) word wrong in
    record { head = head; is_head = is; has_word = found.0; is_right = sym is_right; differs = found.1 }

-- the end of the run

pub cut_so : (p : Listing) (s : State) (reads : List Read) (plain : PlainState) (at count : ℕ) (last : Read) → reads ≡ seen s → plain ≡ plain_of p (length reads) → s.outcome ≡ standing.Unlisted at → length reads ≡ suc count → slice_get reads count ≡ Some last → plain.outcome ≡ outcome.Running → plain.pc ≡ at → NamesItsPlace p last.pc → IsCutAt p s last.pc at
cut_so p s reads plain at count last same is ends long there goes_on is_there names =
    let beside : plain ≡ plain_beside p s = is ∙ ap (λ (xs : List Read). plain_of p (length xs)) same in
    record {
      ends = ends;
      count = count;
      last = last;
      is_last = ap (λ (xs : List Read). length xs) (sym same) ∙ long;
      is_read = ap (λ (xs : List Read). slice_get xs count) (sym same) ∙ there;
      is_from = refl;
      names = names;
      goes_on = ap (λ (x : PlainState). x.outcome) (sym beside) ∙ goes_on;
      is_there = ap (λ (x : PlainState). x.pc) (sym beside) ∙ is_there;
    }

pub not_cut : (p : Listing) (s : State) (reads : List Read) (plain : PlainState) (at count : ℕ) (last : Read) → reads ≡ seen s → plain ≡ plain_of p (length reads) → s.outcome ≡ standing.Unlisted at → length reads ≡ suc count → slice_get reads count ≡ Some last → (plain.outcome ≡ outcome.Running → plain.pc ≡ at → NamesItsPlace p last.pc → ⊥) → (from to : ℕ) → IsCutAt p s from to → ⊥
not_cut p s reads plain at count last same_reads is ends long there never = λ from to cut.
    let beside : plain ≡ plain_beside p s = is ∙ ap (λ (xs : List Read). plain_of p (length xs)) same_reads in
    let same : at ≡ to = (let both = sym ends ∙ cut.ends in cc) in
    let other : length reads ≡ suc cut.count = ap (λ (xs : List Read). length xs) same_reads ∙ cut.is_last in
    let counts : count ≡ cut.count = omega arith in
    let lasts : last ≡ cut.last = (let both = sym there ∙ ap (slice_get reads) counts ∙ ap (λ (xs : List Read). slice_get xs cut.count) same_reads ∙ cut.is_read in cc) in
    never (ap (λ (x : PlainState). x.outcome) beside ∙ cut.goes_on) (ap (λ (x : PlainState). x.pc) beside ∙ cut.is_there ∙ sym same)
    (subst (NamesItsPlace p) (sym cut.is_from ∙ ap (λ (r : Read). r.pc) (sym lasts)) cut.names)
