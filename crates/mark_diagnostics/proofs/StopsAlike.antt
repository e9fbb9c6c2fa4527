-- What is remarked of stops needs no places of the text.
use Rattle.std.proofs.Common.{◌≡◌, ℕ, ◌==◌, List, [], ◌∷◌, ◌++◌, length, Bool, true, false, not, ◌&&◌, ◌||◌, Option, Some, None, refl, ◌∙◌, ap, ap₂, subst}
use Rattle.std.specs.Prelude.{flat_map, is_some, nat_lt, if◌then◌else◌, option_map}
use Rattle.std.specs.List.{find, list_any, range_with_len}
use Rattle.std.specs.Option.{option_or}
use Rattle.task_descriptor.specs.Listing.{Listing}
use Rattle.annotated_asm.specs.Sources.{Sources}
use Rattle.mask_certificate.specs.Lists.{mask_at}
use Rattle.mark_subjects.specs.Subjects.{Judged, targets_of, entries_of, inner_end}
use Rattle.mark_subjects.specs.Targets.{new_target, lacks_some}
use Rattle.exit_diagnostics.specs.declared.remark.StopRemark.{StopRemark}
use Rattle.exit_diagnostics.specs.declared.remark.StopRemark.TheVariants.{NoExit, NotTaken}
use Rattle.exit_diagnostics.specs.StopFits.{ends_astray, stops_another, stop_fits}
use Rattle.exit_diagnostics.specs.Remarks.{target_into, target_at, may_end_before_target, first_end, step_by, step_at, of_step, exits, exits_anywhere, has_untaken, of_exits, of_targets, of_start, of_task, stop_remarks}

-- The same test of each, or the same list of each.

any_alike : {A : Type 0} (f g : A → Bool) → ((a : A) → f a ≡ g a) → (list : List A) → list_any f list ≡ list_any g list
any_alike f g same [] = refl
any_alike f g same (a ∷ list) = ap₂ ◌||◌ (same a) (any_alike f g same list)

abbrev first_of : {A : Type 0} (a : A) (rest : Option A) → Bool → Option A
first_of a rest b = if b then Some a else rest

find_alike : {A : Type 0} (f g : A → Bool) → ((a : A) → f a ≡ g a) → (list : List A) → find f list ≡ find g list
find_alike f g same [] = refl
find_alike f g same (a ∷ list) = ap₂ (λ b (rest : Option _). first_of a rest b) (same a) (find_alike f g same list)

flat_alike : {A B : Type 0} (f g : A → List B) → ((a : A) → f a ≡ g a) → (list : List A) → flat_map f list ≡ flat_map g list
flat_alike f g same [] = refl
flat_alike f g same (a ∷ list) = ap₂ ◌++◌ (same a) (flat_alike f g same list)

module _ (p : Listing) (least : List (List (ℕ × ℕ))) (x y : Sources) where
  abbrev s : Judged
  s = record { program = p; sources = x; least = least }

  abbrev t : Judged
  t = record { program = p; sources = y; least = least }

  new_alike : (task : ℕ) (place : Option ℕ) → new_target s task place ≡ new_target t task place
  new_alike task None = refl
  new_alike task (Some j) = refl

  lacks_alike : (task i : ℕ) → lacks_some s task i ≡ lacks_some t task i
  lacks_alike task i = ap₂ (λ a b. is_some a || is_some b) (new_alike task (inner_end s i false)) (new_alike task (inner_end s i true))

  into_alike : (task : ℕ) (place : Option ℕ) → target_into s task place ≡ target_into t task place
  into_alike task None = refl
  into_alike task (Some j) = refl

  at_alike : (task i : ℕ) → target_at s task i ≡ target_at t task i
  at_alike task i = ap₂ option_or (into_alike task (inner_end s i false)) (into_alike task (inner_end s i true))

  astray_alike : (i task : ℕ) → ends_astray s i task ≡ ends_astray t i task
  astray_alike i task = ap (λ b. b && is_some (mask_at (entries_of s task) i)) (lacks_alike task i)

  another_alike : (task i : ℕ) → stops_another s task i ≡ stops_another t task i
  another_alike task i =
      any_alike (λ other. not (other == task) && ends_astray s i other) (λ other. not (other == task) && ends_astray t i other)
      (λ other. ap (λ b. not (other == task) && b) (astray_alike i other)) (range_with_len 0 (length p.tasks))

  fits_alike : (task i : ℕ) → stop_fits s task i ≡ stop_fits t task i
  fits_alike task i =
      ap₂ (λ b c. (not b || nat_lt (length (targets_of s task)) 15) && not c) (lacks_alike task i) (another_alike task i)

  end_alike : (task i : ℕ) → may_end_before_target s task i ≡ may_end_before_target t task i
  end_alike task i = ap₂ (λ o b. is_some o && b) (at_alike task i) (fits_alike task i)

  first_alike : (task : ℕ) → first_end s task ≡ first_end t task
  first_alike task =
      ap (option_map (λ (e : ℕ × ℕ). e.0))
      (find_alike (λ (e : ℕ × ℕ). may_end_before_target s task e.0) (λ (e : ℕ × ℕ). may_end_before_target t task e.0)
      (λ e. end_alike task e.0) (entries_of s task))

  by_alike : (task : ℕ) (place : Option ℕ) → step_at s task place ≡ step_at t task place
  by_alike task None = refl
  by_alike task (Some i) = ap (step_by task i) (at_alike task i)

  step_alike : (task : ℕ) → of_step s task ≡ of_step t task
  step_alike task = ap (step_at s task) (first_alike task) ∙ by_alike task (first_end t task)

  exits_alike : (task : ℕ) → of_exits s task ≡ of_exits t task
  exits_alike task =
      ap (λ (rs : List StopRemark). if not (list_any (λ (e : ℕ × ℕ). exits s e.0) (entries_of s task)) then NoExit task ∷ []
      else if list_any (λ (e : ℕ × ℕ). exits_anywhere s e.0) (entries_of s task) || not (has_untaken s task) then rs
      else NotTaken task ∷ []) (step_alike task)

  targets_alike : (targets : List ℕ) (task : ℕ) → of_targets targets s task ≡ of_targets targets t task
  targets_alike [] task = refl
  targets_alike (j ∷ js) task = exits_alike task

  task_alike : (task : ℕ) → of_task s task ≡ of_task t task
  task_alike task = ap (λ (rs : List StopRemark). of_start s task ++ rs) (targets_alike (targets_of s task) task)

  stops_alike_of : stop_remarks s ≡ stop_remarks t
  stops_alike_of = flat_alike (of_task s) (of_task t) task_alike (range_with_len 0 (length p.tasks))

pub stops_alike : (s t : Judged) → s.program ≡ t.program → s.least ≡ t.least → stop_remarks s ≡ stop_remarks t
stops_alike s t program least =
    subst (λ (q : Listing). stop_remarks s ≡ stop_remarks (record { program = q; sources = t.sources; least = t.least })) program
    (subst (λ (m : List (List (ℕ × ℕ))). stop_remarks s ≡ stop_remarks (record { program = s.program; sources = t.sources; least = m })) least
    (stops_alike_of s.program s.least s.sources t.sources))
