-- Whether the lists of all tasks are right is told from whether each is: a list is right whichever task it is of.
use Rattle.std.specs.Prelude.{is_none, is_some, IfNone, not}
use Rattle.std.specs.List.{All}
use Rattle.std.specs.Option.{option_or}
use Rattle.std.proofs.Common.{◌≡◌, ℕ, ◌+◌, ◌^◌, ◌<◌, ◌≤◌, Bool, true, false, cond, ◌&&◌, ltb, leb, List, [], ◌∷◌, ◌++◌, length, Option, Some, None, refl, sym, ◌∙◌, ap}
use Rattle.std.proofs.lemmas.Bool.{and_parts}
use Rattle.std.proofs.lemmas.List.Elements.{All-push}
use Rattle.std.proofs.lemmas.List.Recursion.{and_push}
use Rattle.mask_certificate.specs.declared.certificate.ListFault.{ListFault}
use Rattle.mask_certificate.specs.Lists.{fault_in, first_fault}
use Rattle.mask_certificate.specs.Blocks.{TellsOf}
use Rattle.mask_certificate.proofs.Rising.{rises_alone, few_entries}

-- This tells whether the lists of all tasks are right.
pub record TellsOfAll (lists : List (List (ℕ × ℕ))) (right : Bool) : Type 0 where
  pub rising : right ≡ is_none (first_fault 0 lists)
  pub masks : right ≡ true → All (All (λ entry. entry.1 < 2 ^ 34)) lists

none_or : (a b : Option ListFault) → is_none (option_or a b) ≡ (is_none a && is_none b)
none_or None b = refl
none_or (Some fault) b = refl

none_test : (test : Bool) (fault other : ListFault) (a b : Option ListFault) → is_none a ≡ is_none b → is_none (cond test (Some fault) a) ≡ is_none (cond test (Some other) b)
none_test true fault other a b e = refl
none_test false fault other a b e = e

-- whether there is a fault doesn't depend on the task, nor on the place
same_fault : (task task' place place' least : ℕ) (list : List (ℕ × ℕ)) → is_none (fault_in task place least list) ≡ is_none (fault_in task' place' least list)
same_fault task task' place place' least [] = refl
same_fault task task' place place' least (entry ∷ entries) =
    none_test (ltb entry.0 least) _ _ _ _ (none_test (leb 4096 entry.0) _ _ _ _ (same_fault task task' (place + 1) (place' + 1) (entry.0 + 1) entries))

same_faults : (task task' : ℕ) (lists : List (List (ℕ × ℕ))) → is_none (first_fault task lists) ≡ is_none (first_fault task' lists)
same_faults task task' [] = refl
same_faults task task' (list ∷ lists) =
    none_or (fault_in task 0 0 list) (first_fault (task + 1) lists)
    ∙ ap (λ (b : Bool). b && is_none (first_fault (task + 1) lists)) (same_fault task task' 0 0 0 list)
    ∙ ap (λ (b : Bool). is_none (fault_in task' 0 0 list) && b) (same_faults (task + 1) (task' + 1) lists)
    ∙ sym (none_or (fault_in task' 0 0 list) (first_fault (task' + 1) lists))

faults_cons : (list : List (ℕ × ℕ)) (lists : List (List (ℕ × ℕ))) → is_none (first_fault 0 (list ∷ lists)) ≡ (is_none (fault_in 0 0 0 list) && is_none (first_fault 0 lists))
faults_cons list lists =
    none_or (fault_in 0 0 0 list) (first_fault 1 lists) ∙ ap (λ (b : Bool). is_none (fault_in 0 0 0 list) && b) (same_faults 1 0 lists)

pub tells_push : (lists : List (List (ℕ × ℕ))) (list : List (ℕ × ℕ)) (right here : Bool) → TellsOfAll lists right → TellsOf list here → TellsOfAll (lists ++ list ∷ []) (right && here)
tells_push lists list right here all one = record {
  rising =
      ap (λ (b : Bool). b && here) all.rising ∙ ap (λ (b : Bool). is_none (first_fault 0 lists) && b) one.rising
      ∙ sym (and_push (λ (ls : List (List (ℕ × ℕ))). is_none (first_fault 0 ls)) (λ (l : List (ℕ × ℕ)). is_none (fault_in 0 0 0 l)) refl faults_cons lists list);
  masks = λ both.
      let parts = and_parts right here both in
      All-push (All (λ (entry : ℕ × ℕ). entry.1 < 2 ^ 34)) lists list (all.masks parts.0) (one.masks parts.1);
}

fault_none : (o : Option ListFault) → true ≡ is_none o → o ≡ None
fault_none None e = refl
fault_none (Some fault) e = cc

-- a list that is right has few entries
pub told_few : (list : List (ℕ × ℕ)) (right : Bool) → TellsOf list right → right ≡ true → length list ≤ 4096
told_few list right tells e = few_entries list (rises_alone list 0 (fault_none (fault_in 0 0 0 list) (sym e ∙ tells.rising)))

masks_of : {P : Type 0} (o : Option ListFault) → IfNone o P → is_none o ≡ true → P
masks_of None p e = p
masks_of (Some fault) p e = absurd (cc)

none_said : (o : Option ListFault) (right : Bool) → is_some o ≡ not right → right ≡ is_none o
none_said None true e = refl
none_said None false e = e
none_said (Some fault) true e = e
none_said (Some fault) false e = refl

-- a look at a list for its first fault
pub tells_from : (list : List (ℕ × ℕ)) (fault : Option ListFault) (right : Bool) → fault ≡ fault_in 0 0 0 list → IfNone fault (All (λ entry. entry.1 < 2 ^ 34) list) → is_some fault ≡ not right → TellsOf list right
tells_from list fault right first masks said =
    let is : right ≡ is_none fault = none_said fault right said in
    record {
      rising = is ∙ ap (λ (o : Option ListFault). is_none o) first;
      masks = λ e. masks_of fault masks (sym is ∙ e);
    }
