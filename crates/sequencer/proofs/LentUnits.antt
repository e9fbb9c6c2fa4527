-- A number of the ring is that of one unit at work at most.
use Rattle.std.proofs.Common.{◌≡◌, ℕ, ◌+◌, ◌%◌, ◌<◌, ◌≤◌, length, Some, sym, ap, ◌∙◌, subst, arith}
use Rattle.std.specs.Prelude.{slice_get}
use Rattle.std.proofs.lemmas.Option.{slice_get_within}
use Rattle.machine_model.specs.Machine.{Active}
use Rattle.machine_model.specs.declared.event.Spot.TheVariants.{Inside, Stopped}
use Rattle.sequencer.specs.Machines.{MachineView, state, units_of}
use Rattle.sequencer.specs.Bursts.{IsAtWork}
use Rattle.sequencer.proofs.Numbers.{one_place}

pub same_unit : (m : MachineView) (number k : ℕ) (u : Active) → length (state m).queue ≤ units_of m → k < length (state m).queue → (length (state m).commits + k) % units_of m ≡ number → IsAtWork m number u → slice_get (state m).queue k ≡ Some u
same_unit m number k u fits within is work =
    let queue = (state m).queue in
    let there : work.position < length queue = slice_get_within queue work.position u work.is_unit in
    let same : work.position ≡ k = one_place (length (state m).commits) work.position k (units_of m) (omega arith) (omega arith) (work.is_number ∙ sym is) in
    subst (λ (j : ℕ). slice_get queue j ≡ Some u) same work.is_unit

-- a unit that has stopped is not at work
pub not_stopped : (m : MachineView) (number k at : ℕ) (u v : Active) → length (state m).queue ≤ units_of m → k < length (state m).queue → (length (state m).commits + k) % units_of m ≡ number → slice_get (state m).queue k ≡ Some v → v.place ≡ Stopped at → IsAtWork m number u → ⊥
not_stopped m number k at u v fits within is here stopped work =
    let found : Some u ≡ Some v = sym (same_unit m number k u fits within is work) ∙ here in
    let same : u ≡ v = cc in
    let inside : Inside work.index ≡ Stopped at = sym work.is_inside ∙ ap (λ (x : Active). x.place) same ∙ stopped in
    cc
