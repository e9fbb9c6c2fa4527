-- A reached place has a mask: the entry has one, and an inner edge leads from a place with a mask to one.
use Rattle.std.proofs.Common.{◌≡◌, ◌<◌, ℕ, Bool, true, List, length, Option, Some, sym, ap, ◌∙◌}
use Rattle.std.specs.Prelude.{slice_get}
use Rattle.std.proofs.lemmas.Option.{slice_get-get_or}
use Rattle.task_descriptor.specs.Listing.{Listing}
use Rattle.task_descriptor.specs.declared.descriptor.Marked.{Marked}
use Rattle.task_descriptor.specs.declared.descriptor.Descriptor.{Descriptor}
use Rattle.task_graph.specs.Edges.{Path, stay, onward}
use Rattle.mask_certificate.specs.Lists.{mask_at, list_of}
use Rattle.mark_checker.specs.Rules.{in_mask}
use Rattle.mark_checker.specs.Places.{Checked, PlaceSays}
use Rattle.machine_model.specs.Machine.{Active, task_at, no_task}
use Rattle.machine_model.specs.Burst.{MasksFit}
use Rattle.machine_model.specs.Places.{PlaceValid}
use Rattle.machine_model.specs.declared.event.Spot.TheVariants.{Inside}
use Rattle.sequencer.specs.OfAccepted.{HasMask, PlacesMasked, masks_of, AllMasksFit}

-- what acceptance says of each place, and of each entry
abbrev pub PlacesSay : Checked → Type 0
PlacesSay a =
    (t i mask : ℕ) (d : Descriptor) (m : Marked) → slice_get a.program.tasks t ≡ Some d → slice_get a.program.code i ≡ Some m
    → mask_at (list_of a.cert t) i ≡ Some mask → PlaceSays a.program d (list_of a.cert t) i m mask

abbrev pub EntriesSay : Checked → Type 0
EntriesSay a = (t : ℕ) (d : Descriptor) → slice_get a.program.tasks t ≡ Some d → HasMask a t d.entry

module _ (a : Checked) (say : PlacesSay a) where
  reached_masked : EntriesSay a → (t : ℕ) (d : Descriptor) → slice_get a.program.tasks t ≡ Some d → (i : ℕ) → Path a.program d.entry i → HasMask a t i
  reached_masked entries t d there i stay = entries t d there
  reached_masked entries t d there i (onward {j} path over) =
      let before = reached_masked entries t d there j path in
      (say t j before.0 d over.at there over.is_there before.1).next_masked i over

  pub places_masked : EntriesSay a → PlacesMasked a
  places_masked entries u valid i at =
      (valid.is_instruction i at, reached_masked entries u.task (task_at a.program u.task) (slice_get-get_or a.program.tasks u.task no_task valid.is_task) i (valid.is_reached i at))

  pub masks_fit : AllMasksFit a
  masks_fit t i mask d m task there at =
      let says = say t i mask d m task there at in
      let here : (r : ℕ) → masks_of a t i r ≡ in_mask (Some mask) r = λ r. ap (λ (o : Option ℕ). in_mask o r) at in
      let next : (j r k : ℕ) → mask_at (list_of a.cert t) j ≡ Some k → masks_of a t j r ≡ in_mask (Some k) r = λ j r k e. ap (λ (o : Option ℕ). in_mask o r) e in
      record {
        holds_written = λ r written. here r ∙ says.destinations r written;
        holds_later = λ j r over later.
            let k = says.next_masked j over in
            here r ∙ says.next_within j k.0 r over k.1 (sym (next j r k.0 k.1) ∙ later);
        sends_last = λ j r over sends.
            let k = says.next_masked j over in
            next j r k.0 k.1 ∙ says.sent j k.0 r over k.1 sends;
      }
