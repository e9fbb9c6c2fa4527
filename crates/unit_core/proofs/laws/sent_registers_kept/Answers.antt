-- The masks of an accepted program fit, so nothing from the place on writes what was sent.
use Rattle.std.specs.Prelude.{◌≡◌, ℕ, Option, Some}
use Rattle.std.proofs.Common.{refl, sym, ap, ◌∙◌, subst}
use Rattle.mips_plain.specs.Effect.{outcome_after}
use Rattle.mips_plain.specs.declared.outcome.Outcome.{Outcome}
use Rattle.mips_plain.specs.declared.outcome.Outcome.TheVariants.{Running, Halted, Trapped}
use Rattle.task_descriptor.specs.Listing.{Listing}
use Rattle.task_descriptor.specs.declared.descriptor.Marked.{Marked}
use Rattle.task_descriptor.specs.declared.descriptor.Descriptor.{Descriptor}
use Rattle.task_graph.proofs.WellFormed.{entry_inside}
use Rattle.mask_certificate.specs.Lists.{list_of, mask_at}
use Rattle.mark_checker.specs.Rules.{in_mask}
use Rattle.mark_checker.specs.Places.{Checked, PlaceSays}
use Rattle.mark_checker.proofs.Acceptance.{place_says}
use Rattle.machine_model.specs.Machine.{Active, task_at}
use Rattle.machine_model.specs.Unit.{executed, after_exec}
use Rattle.machine_model.specs.Burst.{MasksFit, SentIsLast}
use Rattle.machine_model.proofs.SentRegisters as model
use Rattle.unit_core.specs.SentRegisters.{mask_has}
use Rattle.unit_core.proofs.UnitLemmas.{task_there}
use Rattle.unit_core.proofs.laws.sent_registers_kept.Goals as goal

same_task : (o : Outcome) (p : Listing) (u : Active) (m : Marked) (index a b : ℕ) (memory : ℕ → ℕ) → (executed o p u m index a b memory).task ≡ u.task
same_task Running p u m index a b memory = refl
same_task Halted p u m index a b memory = refl
same_task (Trapped trap) p u m index a b memory = refl

masks_fit : (c : Checked) (t index mask : ℕ) (d : Descriptor) (m : Marked) → mask_at (list_of c.cert t) index ≡ Some mask → PlaceSays c.program d (list_of c.cert t) index m mask → MasksFit c.program (mask_has c t) index m
masks_fit c t index mask d m at says =
    let has_at : (j r k : ℕ) → mask_at (list_of c.cert t) j ≡ Some k → mask_has c t j r ≡ in_mask (Some k) r = λ j r k e. ap (λ (o : Option ℕ). in_mask o r) e in
    record {
      holds_written = λ r written. has_at index r mask at ∙ says.destinations r written;
      holds_later = λ j r over later.
          let k = says.next_masked j over in
          has_at index r mask at ∙ says.next_within j k.0 r over k.1 (sym (has_at j r k.0 k.1) ∙ later);
      sends_last = λ j r over sends.
          let k = says.next_masked j over in
          has_at j r k.0 k.1 ∙ says.sent j k.0 r over k.1 sends;
    }

pub returns : goal.returns
returns g c well accepted u placed last index m a b memory inside there =
    let d = task_at c.program u.task in
    let task = task_there c.program u.task placed.is_task in
    let mask = placed.masked index inside in
    let says = place_says c.program d (list_of c.cert u.task) index mask.0 m (accepted.right u.task d task) there mask.1 (entry_inside c.program u.task d well task) in
    let stays = model.sent_stays c.program (mask_has c u.task) u index m a b memory (masks_fit c u.task index mask.0 d m mask.1 says) inside there last in
    let after : Active = after_exec c.program u m index a b memory in
    record {
      keeps = subst (λ (t : ℕ). SentIsLast (mask_has c t) after) (sym (same_task (outcome_after m.op a) c.program u m index a b memory)) stays.0;
      same = stays.1;
    }
