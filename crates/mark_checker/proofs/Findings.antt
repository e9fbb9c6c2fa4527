-- Findings and conditions: a list of findings is empty exactly where no condition holds of a register.
use Rattle.std.proofs.Common.{◌≡◌, ℕ, ◌+◌, ◌<◌, ◌≤◌, ◌^◌, Bool, true, false, ◌||◌, nat_eq, cond, List, [], ◌∷◌, ◌++◌, Option, Some, None, refl, sym, ◌∙◌, ap, arith, suc, zero, inl, inr, lit<}
use Rattle.std.specs.Prelude.{map, filter, slice_get}
use Rattle.std.specs.List.{range_with_len}
use Rattle.std.specs.Int.{bit_at}
use Rattle.std.proofs.lemmas.Bool.{or_from, eq-eqb, cases_eq}
use Rattle.std.proofs.lemmas.Nat.Bits.{bit_at-zero, bit_at-lt, same_from_bits_below}
use Rattle.std.proofs.lemmas.List.Elements.{filter_agree}
use Rattle.mips_instructions.specs.Words.{has}
use Rattle.task_descriptor.specs.Listing.{Listing}
use Rattle.task_descriptor.specs.declared.descriptor.Marked.{Marked}
use Rattle.task_descriptor.specs.declared.descriptor.Descriptor.{Descriptor}
use Rattle.mark_checker.specs.declared.finding.Rule.{Rule}
use Rattle.mark_checker.specs.declared.finding.Rule.TheVariants.{EntryWithoutMask, NextWithoutMask, LacksDestination, LacksNext, ExceedsCreate, ForwardedInNext, ReleasedInNext, SentNotCreated, ExitNotListed, FallsOff, IndirectGoesOn, TargetNotEntry}
use Rattle.mark_checker.specs.declared.finding.Finding.{Finding}
use Rattle.mark_checker.specs.Rules.{Conditions, conditions, once, each, found, found_at, rules_at}
use Rattle.mark_checker.specs.Places.{IsClean, IsRight}
use Rattle.mark_checker.specs.CheckerSteps.{Same}

-- a number below 2 ^ 34 without a bit below 34 is 0
pub empty_below : (set bits : ℕ) → bits ≡ set → bits < 2 ^ 34 → ((r : ℕ) → r < 34 → has set r ≡ false) → nat_eq bits 0 ≡ true
empty_below set bits same range none =
    eq-eqb bits 0 (same_from_bits_below 34 bits 0 range (lit< tt) (λ i less.
    no_bit (bit_at bits i) (bit_at-lt bits i) (ap (λ (n : ℕ). nat_eq (bit_at n i) 1) same ∙ none i less) ∙ sym (bit_at-zero i)))
  where
    no_bit : (b : ℕ) → b < 2 → nat_eq b 1 ≡ false → b ≡ 0
    no_bit zero less h = refl
    no_bit (suc zero) less h = absurd (cc)
    no_bit (suc (suc b)) less h = absurd (omega arith)

-- no condition holds, of the registers 0 to 33
pub record NoneNamed (c : Conditions) : Type 0 where
  pub entry_without_mask : c.entry_without_mask ≡ false
  pub next_without_mask : c.next_without_mask ≡ false
  pub lacks_destination : (r : ℕ) → r < 34 → c.lacks_destination r ≡ false
  pub lacks_next : (r : ℕ) → r < 34 → c.lacks_next r ≡ false
  pub exceeds_create : (r : ℕ) → r < 34 → c.exceeds_create r ≡ false
  pub forwarded_in_next : (r : ℕ) → r < 34 → c.forwarded_in_next r ≡ false
  pub released_in_next : (r : ℕ) → r < 34 → c.released_in_next r ≡ false
  pub sent_not_created : (r : ℕ) → r < 34 → c.sent_not_created r ≡ false
  pub exit_not_listed : c.exit_not_listed ≡ false
  pub falls_off : c.falls_off ≡ false
  pub indirect_goes_on : c.indirect_goes_on ≡ false
  pub target_not_entry : c.target_not_entry ≡ false

pub both_empty : {X : Type 0} (xs ys : List X) → xs ++ ys ≡ [] → (xs ≡ []) × (ys ≡ [])
both_empty [] ys h = (refl, h)
both_empty (x ∷ xs) ys h = absurd (cc)

not_once : (t i : ℕ) (rule : Rule) (b : Bool) → once t i rule b ≡ [] → b ≡ false
not_once t i rule false h = refl
not_once t i rule true h = absurd (cc)

first_fails : (b : Bool) (x : ℕ) (xs : List ℕ) → cond b (x ∷ xs) xs ≡ [] → (b ≡ false) × (xs ≡ [])
first_fails true x xs h = absurd (cc)
first_fails false x xs h = (refl, h)

-- a filter of a range that keeps nothing
keeps_nothing : (test : ℕ → Bool) (a n : ℕ) → filter test (range_with_len a n) ≡ [] → (r : ℕ) → a ≤ r → r < a + n → test r ≡ false
keeps_nothing test a zero h r low high = absurd (omega arith)
keeps_nothing test a (suc n) h r low high =
    let k = first_fails (test a) a (filter test (range_with_len (a + 1) n)) h in
    elim (cases_eq r a) [
      | inl e ↦ ap test e ∙ k.0
      | inr ne ↦ keeps_nothing test (a + 1) n k.1 r (omega arith) (omega arith)
    ]

not_each : (t i : ℕ) (rule : Rule) (test : ℕ → Bool) → each t i rule test ≡ [] → (r : ℕ) → r < 34 → test r ≡ false
unfolding each
not_each t i rule test h r less = keeps_nothing test 0 34 (unmapped (filter test (range_with_len 0 34)) h) r (omega arith) (omega arith)
  where
    unmapped : (rs : List ℕ) → map (λ r. let f : Finding = record { task = t; index = i; rule = rule; reg = Some r } in f) rs ≡ [] → rs ≡ []
    unmapped [] e = refl
    unmapped (x ∷ xs) e = absurd (cc)

pub nothing_named : (t i : ℕ) (c : Conditions) → found t i c ≡ [] → NoneNamed c
nothing_named t i c h1 =
    let p1 = both_empty (once t i EntryWithoutMask c.entry_without_mask) _ h1 in
    let p2 = both_empty (once t i NextWithoutMask c.next_without_mask) _ p1.1 in
    let p3 = both_empty (each t i LacksDestination c.lacks_destination) _ p2.1 in
    let p4 = both_empty (each t i LacksNext c.lacks_next) _ p3.1 in
    let p5 = both_empty (each t i ExceedsCreate c.exceeds_create) _ p4.1 in
    let p6 = both_empty (each t i ForwardedInNext c.forwarded_in_next) _ p5.1 in
    let p7 = both_empty (each t i ReleasedInNext c.released_in_next) _ p6.1 in
    let p8 = both_empty (each t i SentNotCreated c.sent_not_created) _ p7.1 in
    let p9 = both_empty (once t i ExitNotListed c.exit_not_listed) _ p8.1 in
    let p10 = both_empty (once t i FallsOff c.falls_off) _ p9.1 in
    let p11 = both_empty (once t i IndirectGoesOn c.indirect_goes_on) (once t i TargetNotEntry c.target_not_entry) p10.1 in
    record {
      entry_without_mask = not_once t i EntryWithoutMask c.entry_without_mask p1.0;
      next_without_mask = not_once t i NextWithoutMask c.next_without_mask p2.0;
      lacks_destination = not_each t i LacksDestination c.lacks_destination p3.0;
      lacks_next = not_each t i LacksNext c.lacks_next p4.0;
      exceeds_create = not_each t i ExceedsCreate c.exceeds_create p5.0;
      forwarded_in_next = not_each t i ForwardedInNext c.forwarded_in_next p6.0;
      released_in_next = not_each t i ReleasedInNext c.released_in_next p7.0;
      sent_not_created = not_each t i SentNotCreated c.sent_not_created p8.0;
      exit_not_listed = not_once t i ExitNotListed c.exit_not_listed p9.0;
      falls_off = not_once t i FallsOff c.falls_off p10.0;
      indirect_goes_on = not_once t i IndirectGoesOn c.indirect_goes_on p11.0;
      target_not_entry = not_once t i TargetNotEntry c.target_not_entry p11.1;
    }

pub no_flag : (c : Conditions) → NoneNamed c
    → (c.entry_without_mask || (c.next_without_mask || (c.exit_not_listed || (c.falls_off || (c.indirect_goes_on || c.target_not_entry))))) ≡ false
no_flag c n = or_from _ _ n.entry_without_mask (or_from _ _ n.next_without_mask (or_from _ _ n.exit_not_listed
    (or_from _ _ n.falls_off (or_from _ _ n.indirect_goes_on n.target_not_entry))))

pub no_register : (c : Conditions) → NoneNamed c → (r : ℕ) → r < 34
    → (c.lacks_destination r || (c.lacks_next r || (c.exceeds_create r || (c.forwarded_in_next r || (c.released_in_next r || c.sent_not_created r))))) ≡ false
no_register c n r less = or_from _ _ (n.lacks_destination r less) (or_from _ _ (n.lacks_next r less) (or_from _ _ (n.exceeds_create r less)
    (or_from _ _ (n.forwarded_in_next r less) (or_from _ _ (n.released_in_next r less) (n.sent_not_created r less)))))

-- the other way
no_once : (t i : ℕ) (rule : Rule) (b : Bool) → b ≡ false → once t i rule b ≡ []
no_once t i rule b e = ap (λ (x : Bool). once t i rule x) e

none_kept : (test : ℕ → Bool) → ((r : ℕ) → test r ≡ false) → (rs : List ℕ) → filter test rs ≡ []
none_kept test none [] = refl
none_kept test none (r ∷ rs) = ap (λ (b : Bool). cond b (r ∷ filter test rs) (filter test rs)) (none r) ∙ none_kept test none rs

no_each : (t i : ℕ) (rule : Rule) (test : ℕ → Bool) → ((r : ℕ) → test r ≡ false) → each t i rule test ≡ []
unfolding each
no_each t i rule test none = ap (map (λ r. let f : Finding = record { task = t; index = i; rule = rule; reg = Some r } in f)) (none_kept test none (range_with_len 0 34))

join_empty : {X : Type 0} (xs ys : List X) → xs ≡ [] → ys ≡ [] → xs ++ ys ≡ []
join_empty xs ys e f = ap (λ zs. zs ++ ys) e ∙ f

pub clean_nothing : (t i : ℕ) (c : Conditions) → IsClean c → found t i c ≡ []
clean_nothing t i c n =
    join_empty _ _ (no_once t i EntryWithoutMask c.entry_without_mask n.entry_without_mask)
    (join_empty _ _ (no_once t i NextWithoutMask c.next_without_mask n.next_without_mask)
    (join_empty _ _ (no_each t i LacksDestination c.lacks_destination n.lacks_destination)
    (join_empty _ _ (no_each t i LacksNext c.lacks_next n.lacks_next)
    (join_empty _ _ (no_each t i ExceedsCreate c.exceeds_create n.exceeds_create)
    (join_empty _ _ (no_each t i ForwardedInNext c.forwarded_in_next n.forwarded_in_next)
    (join_empty _ _ (no_each t i ReleasedInNext c.released_in_next n.released_in_next)
    (join_empty _ _ (no_each t i SentNotCreated c.sent_not_created n.sent_not_created)
    (join_empty _ _ (no_once t i ExitNotListed c.exit_not_listed n.exit_not_listed)
    (join_empty _ _ (no_once t i FallsOff c.falls_off n.falls_off)
    (join_empty _ _ (no_once t i IndirectGoesOn c.indirect_goes_on n.indirect_goes_on)
    (no_once t i TargetNotEntry c.target_not_entry n.target_not_entry)))))))))))

-- conditions that agree find the same
same_each : (t i : ℕ) (rule : Rule) (f g : ℕ → Bool) → ((r : ℕ) → f r ≡ g r) → each t i rule f ≡ each t i rule g
unfolding each
same_each t i rule f g e = ap (map (λ r. let x : Finding = record { task = t; index = i; rule = rule; reg = Some r } in x)) (filter_agree f g e (range_with_len 0 34))

pub same_found : (t i : ℕ) (c d : Conditions) → Same c d → found t i c ≡ found t i d
same_found t i c d s = λ k.
    once t i EntryWithoutMask (s.entry_without_mask k)
    ++ (once t i NextWithoutMask (s.next_without_mask k)
    ++ (same_each t i LacksDestination c.lacks_destination d.lacks_destination s.lacks_destination k
    ++ (same_each t i LacksNext c.lacks_next d.lacks_next s.lacks_next k
    ++ (same_each t i ExceedsCreate c.exceeds_create d.exceeds_create s.exceeds_create k
    ++ (same_each t i ForwardedInNext c.forwarded_in_next d.forwarded_in_next s.forwarded_in_next k
    ++ (same_each t i ReleasedInNext c.released_in_next d.released_in_next s.released_in_next k
    ++ (same_each t i SentNotCreated c.sent_not_created d.sent_not_created s.sent_not_created k
    ++ (once t i ExitNotListed (s.exit_not_listed k)
    ++ (once t i FallsOff (s.falls_off k)
    ++ (once t i IndirectGoesOn (s.indirect_goes_on k)
    ++ once t i TargetNotEntry (s.target_not_entry k)))))))))))

pub same_clean : (c d : Conditions) → Same c d → IsClean c → IsClean d
same_clean c d s n = record {
  entry_without_mask = sym s.entry_without_mask ∙ n.entry_without_mask;
  next_without_mask = sym s.next_without_mask ∙ n.next_without_mask;
  lacks_destination = λ r. sym (s.lacks_destination r) ∙ n.lacks_destination r;
  lacks_next = λ r. sym (s.lacks_next r) ∙ n.lacks_next r;
  exceeds_create = λ r. sym (s.exceeds_create r) ∙ n.exceeds_create r;
  forwarded_in_next = λ r. sym (s.forwarded_in_next r) ∙ n.forwarded_in_next r;
  released_in_next = λ r. sym (s.released_in_next r) ∙ n.released_in_next r;
  sent_not_created = λ r. sym (s.sent_not_created r) ∙ n.sent_not_created r;
  exit_not_listed = sym s.exit_not_listed ∙ n.exit_not_listed;
  falls_off = sym s.falls_off ∙ n.falls_off;
  indirect_goes_on = sym s.indirect_goes_on ∙ n.indirect_goes_on;
  target_not_entry = sym s.target_not_entry ∙ n.target_not_entry;
}

-- a right place has no finding
at_instruction : (o : Option Marked) (p : Listing) (d : Descriptor) (es : List (ℕ × ℕ)) (t : ℕ) (place : ℕ × Option ℕ)
    → ((m : Marked) → o ≡ Some m → IsClean (conditions p d es place.0 m place.1)) → found_at o p d es t place ≡ []
at_instruction None p d es t place right = refl
at_instruction (Some m) p d es t place right = clean_nothing t place.0 (conditions p d es place.0 m place.1) (right m refl)

pub right_nothing : (p : Listing) (d : Descriptor) (es : List (ℕ × ℕ)) (t : ℕ) (place : ℕ × Option ℕ) → IsRight p d es place → rules_at p d es t place ≡ []
right_nothing p d es t place right = at_instruction (slice_get p.code place.0) p d es t place right
