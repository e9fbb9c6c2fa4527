-- Where the sets that are compared say nothing, no condition holds: each condition is one of them, or a
-- part of one.
use Rattle.std.proofs.Common.{◌≡◌, ℕ, ◌+◌, ◌<◌, Bool, true, false, not, ◌&&◌, ◌||◌, nat_eq, Option, Some, None, List, length, slice_get, refl, sym, ◌∙◌, ap, subst, arith, inl, inr, get_or}
use Rattle.std.specs.Prelude.{is_none, is_some, slice_set}
use Rattle.std.specs.List.{list_any}
use Rattle.std.proofs.Math.ListN.{length-set}
use Rattle.std.proofs.lemmas.Bool.{cases_lt}
use Rattle.std.proofs.lemmas.List.{get_or-set_same, get_or-set_other}
use Rattle.std.proofs.lemmas.Option.{slice_get-get_or, slice_get_within, get_or_from_slice_get}
use Rattle.mips_instructions.specs.Words.{has}
use Rattle.mips_instructions.specs.Instruction.{dests, released}
use Rattle.task_descriptor.specs.Listing.{Listing}
use Rattle.task_descriptor.specs.declared.descriptor.Marked.{Marked}
use Rattle.task_descriptor.specs.declared.descriptor.Descriptor.{Descriptor}
use Rattle.task_graph.specs.Soundness.{is_target, is_entry}
use Rattle.mask_certificate.specs.Lists.{mask_at}
use Rattle.mark_checker.specs.declared.look.Look.{Look}
use Rattle.mark_checker.specs.Rules.{conditions, in_mask, next_has}
use Rattle.mark_checker.specs.Places.{IsClean}
use Rattle.mark_checker.specs.CheckerSteps.{holds_at}
use Rattle.mark_checker.specs.Looks.{some_next, Tells, IsQuiet}

pub neither : (a b c : Bool) → ((a || b) && c) ≡ false → ((a && c) ≡ false) × ((b && c) ≡ false)
neither true true true h = absurd (cc)
neither true false true h = absurd (cc)
neither false true true h = absurd (cc)
neither false false true h = (refl, refl)
neither true true false h = (refl, refl)
neither true false false h = (refl, refl)
neither false true false h = (refl, refl)
neither false false false h = (refl, refl)

pub none_of : (a b c : Bool) → not (a || (b || c)) ≡ true → (a ≡ false) × (b ≡ false) × (c ≡ false)
none_of false false false h = (refl, refl, refl)
none_of false false true h = absurd (cc)
none_of false true c h = absurd (cc)
none_of true b c h = absurd (cc)

pub no_holds : (a b : Option ℕ) (test : ℕ → Bool) → (is_some a || is_some b) ≡ false → (holds_at a test || holds_at b test) ≡ false
no_holds None None test h = refl
no_holds None (Some j) test h = absurd (cc)
no_holds (Some i) b test h = absurd (cc)

pub quiet_clean : (p : Listing) (d : Descriptor) (es : List (ℕ × ℕ)) (i mask : ℕ) (m : Marked) (look : Look)
    → nat_eq i d.entry ≡ false → Tells p i m look → IsQuiet look es d.create mask → IsClean (conditions p d es i m (Some mask))
quiet_clean p d es i mask m look other t q = record {
  entry_without_mask = ap (λ (b : Bool). b && false) other;
  next_without_mask = sym (t.next (λ j. is_none (mask_at es j))) ∙ q.masked;
  lacks_destination = λ r. (lost r).0;
  lacks_next = λ r. (lost r).1;
  exceeds_create = λ r. ap (λ (b : Bool). b && (has mask r && not (has d.create r))) other;
  forwarded_in_next = λ r. (again r).0;
  released_in_next = λ r. (again r).1;
  sent_not_created = λ r. sym (ap (λ (b : Bool). b && not (has d.create r)) (t.sent r)) ∙ q.beside r;
  exit_not_listed = t.no_exit q.stays (λ j. not (is_target d j));
  falls_off = t.inside q.stays;
  indirect_goes_on = t.stops q.stays;
  target_not_entry = ap (λ (b : Bool). b && list_any (λ j. not (is_entry p j)) d.targets) other;
}
  where
    ahead : (r : ℕ) → some_next look (λ j. in_mask (mask_at es j) r) ≡ next_has p es m i r
    ahead r = t.next (λ j. in_mask (mask_at es j) r)

    lost : (r : ℕ) → ((dests m.op r && not (has mask r)) ≡ false) × ((next_has p es m i r && not (has mask r)) ≡ false)
    lost r =
        let same : ((has look.written r || some_next look (λ j. in_mask (mask_at es j) r)) && not (has mask r)) ≡ ((dests m.op r || next_has p es m i r) && not (has mask r)) =
        λ k. (t.written r k || ahead r k) && not (has mask r) in
        neither (dests m.op r) (next_has p es m i r) (not (has mask r)) (sym same ∙ q.lost r)

    again : (r : ℕ) → (((m.forward && dests m.op r) && next_has p es m i r) ≡ false) × ((released m.op r && next_has p es m i r) ≡ false)
    again r =
        let same : (has look.sent r && some_next look (λ j. in_mask (mask_at es j) r)) ≡ (((m.forward && dests m.op r) || released m.op r) && next_has p es m i r) =
        λ k. t.sent r k && ahead r k in
        neither (m.forward && dests m.op r) (released m.op r) (next_has p es m i r) (sym same ∙ q.again r)

-- what is looked at in the first n instructions
abbrev pub LooksBelow : Listing → List Look → ℕ → Type 0
LooksBelow p looks n = (i : ℕ) (m : Marked) (look : Look) → i < n → slice_get p.code i ≡ Some m → slice_get looks i ≡ Some look → Tells p i m look

pub looks_more : (p : Listing) (looks : List Look) (n : ℕ) (m : Marked) (new : Look) → n < length looks → slice_get p.code n ≡ Some m → Tells p n m new
    → LooksBelow p looks n → LooksBelow p (slice_set looks n new) (n + 1)
looks_more p looks n m new within here tells before i k look less there at =
    let inside : i < length (slice_set looks n new) = slice_get_within (slice_set looks n new) i look at in
    let read : get_or (slice_set looks n new) i look ≡ look = get_or_from_slice_get (slice_set looks n new) i look look at in
    elim (cases_lt i n) [
      | inl lower ↦
          let old : slice_get looks i ≡ Some look =
          slice_get-get_or looks i look (omega (arith, length-set looks n new))
          ∙ ap (λ (l : Look). Some l) (sym (get_or-set_other looks n i new look (λ e. absurd (omega arith))) ∙ read) in
          before i k look lower there old
      | inr upper ↦
          let same : i ≡ n = omega arith in
          let last : new ≡ look = sym (get_or-set_same looks n new look within) ∙ ap (λ (j : ℕ). get_or (slice_set looks n new) j look) (sym same) ∙ read in
          let here_too : slice_get p.code n ≡ Some k = ap (slice_get p.code) (sym same) ∙ there in
          let it : m ≡ k = cc (here, here_too) in
          subst (λ (j : ℕ). Tells p j k look) (sym same) (subst (λ (l : Look). Tells p n k l) last (subst (λ (x : Marked). Tells p n x new) it tells))
    ]
