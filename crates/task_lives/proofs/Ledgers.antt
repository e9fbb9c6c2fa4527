-- The tasks that retired and those at work, with how many instructions each executed: what each event
-- makes of them, read off the machine step.
use Rattle.std.proofs.Common.{◌≡◌, ℕ, zero, suc, ◌+◌, ◌<◌, Bool, true, false, cond, List, [], ◌∷◌, ◌++◌, map, length, take, drop, Some, refl, sym, ap, ◌∙◌, subst, arith, length-append, eq-eqb}
use Rattle.std.specs.Prelude.{slice_get, slice_set, nat_eq}
use Rattle.std.proofs.lemmas.List.{map-append, take-map}
use Rattle.std.proofs.lemmas.Option.{slice_get_within}
use Rattle.std.proofs.lemmas.Bool.{ne_eqb}
use Rattle.mips_instructions.specs.Words.{address}
use Rattle.mips_plain.specs.Effect.{outcome_after}
use Rattle.mips_plain.specs.declared.outcome.Outcome.{Outcome}
use Rattle.mips_plain.specs.declared.outcome.Outcome.TheVariants.{Running, Halted, Trapped}
use Rattle.task_descriptor.specs.Listing.{Listing}
use Rattle.task_descriptor.specs.declared.descriptor.Marked.{Marked}
use Rattle.machine_model.specs.declared.event.Event.{Event}
use Rattle.machine_model.specs.declared.event.Event.TheVariants.{Assign, Exec, Transfer, Drain, Squash, Retire, Fault, Drop}
use Rattle.machine_model.specs.Machine.{Active, State}
use Rattle.machine_model.specs.Unit.{executed, after_exec, put}
use Rattle.machine_model.specs.Step.{Next, started, filled, handed_over}
use Rattle.task_lives.specs.Sums.{Work, work_of_unit, work_of_commit}
use Rattle.task_lives.specs.Lives.{Fits}

-- the task at a position executed one instruction more
abbrev pub one_executed : (k j : ℕ) → List Work → List Work
one_executed k j [] = []
one_executed k j (w ∷ ws) = record w { executed = w.executed + cond (nat_eq j k) 1 0 } ∷ one_executed (suc k) j ws

abbrev pub queue_after : List Work → Event → List Work
queue_after ws (Assign t) = ws ++ record { task = t; executed = 0 } ∷ []
queue_after ws (Exec k) = one_executed 0 k ws
queue_after ws (Squash k) = take (suc k) ws
queue_after ws Retire = drop 1 ws
queue_after ws (Drop k) = take k ws
queue_after ws _ = ws

abbrev pub retired_with : List Work → List Work → Event → List Work
retired_with done ws Retire = done ++ take 1 ws
retired_with done ws _ = done

-- the machine's

abbrev pub at_work : State → List Work
at_work s = map work_of_unit s.queue

abbrev pub retired_work : State → List Work
retired_work s = map work_of_commit s.commits

-- a unit that changes, but not its task and how many instructions it executed

same_work : (us : List Active) (k : ℕ) (u v : Active) → slice_get us k ≡ Some u → work_of_unit v ≡ work_of_unit u → map work_of_unit (slice_set us k v) ≡ map work_of_unit us
same_work [] k u v e same = refl
same_work (x ∷ us) zero u v e same =
    let is : x ≡ u = cc in
    let here : work_of_unit v ≡ work_of_unit x = same ∙ ap work_of_unit (sym is) in
    λ i. here i ∷ map work_of_unit us
same_work (x ∷ us) (suc k) u v e same = ap (λ (ws : List Work). work_of_unit x ∷ ws) (same_work us k u v e same)

-- a unit that executes one instruction more

abbrev with_one : (b : Bool) → Work → Work
with_one b w = record w { executed = w.executed + cond b 1 0 }

same_one : (w : Work) → w ≡ with_one false w
same_one w =
    let same : w.executed ≡ w.executed + 0 = omega arith in
    λ i. record w { executed = same i }

none_executed : (k j : ℕ) (ws : List Work) → j < k → ws ≡ one_executed k j ws
none_executed k j [] before = refl
none_executed k j (w ∷ ws) before =
    let apart : j ≡ k → ⊥ = λ e. absurd (omega arith) in
    let here : w ≡ with_one (nat_eq j k) w = same_one w ∙ ap (λ (b : Bool). with_one b w) (sym (ne_eqb j k apart)) in
    let rest = none_executed (suc k) j ws (omega arith) in
    λ i. here i ∷ rest i

more_work : (us : List Active) (k i j : ℕ) (u v : Active) → j ≡ k + i → slice_get us i ≡ Some u → work_of_unit v ≡ with_one true (work_of_unit u) → map work_of_unit (slice_set us i v) ≡ one_executed k j (map work_of_unit us)
more_work [] k i j u v is e more = refl
more_work (x ∷ us) k zero j u v is e more =
    let at : j ≡ k = omega arith in
    let same : x ≡ u = cc in
    let here : work_of_unit v ≡ with_one (nat_eq j k) (work_of_unit x) =
    more ∙ ap (λ (y : Active). with_one true (work_of_unit y)) (sym same) ∙ ap (λ (b : Bool). with_one b (work_of_unit x)) (sym (eq-eqb j k at)) in
    let rest = none_executed (suc k) j (map work_of_unit us) (omega arith) in
    λ n. here n ∷ rest n
more_work (x ∷ us) k (suc i) j u v is e more =
    let apart : j ≡ k → ⊥ = λ same. absurd (omega arith) in
    let first : work_of_unit x ≡ with_one (nat_eq j k) (work_of_unit x) =
    same_one (work_of_unit x) ∙ ap (λ (b : Bool). with_one b (work_of_unit x)) (sym (ne_eqb j k apart)) in
    let rest = more_work us (suc k) i j u v (omega arith) e more in
    λ n. first n ∷ rest n

-- an instruction keeps the unit's task, whatever its outcome is
same_task : (o : Outcome) (p : Listing) (u : Active) (m : Marked) (index a b : ℕ) (memory : ℕ → ℕ) → (executed o p u m index a b memory).task ≡ u.task
same_task Running p u m index a b memory = refl
same_task Halted p u m index a b memory = refl
same_task (Trapped trap) p u m index a b memory = refl

exec_work : (p : Listing) (u : Active) (m : Marked) (index a b : ℕ) (memory : ℕ → ℕ) → work_of_unit (after_exec p u m index a b memory) ≡ with_one true (work_of_unit u)
exec_work p u m index a b memory =
    let task = same_task (outcome_after m.op a) p u m index a b memory in
    let more = length-append u.log (record { pc = address index; a = a; b = b } ∷ []) in
    λ i. record { task = task i; executed = more i }

filled_work : (us : List Active) (regs : ℕ → ℕ) → map work_of_unit (filled regs us) ≡ map work_of_unit us
filled_work [] regs = refl
filled_work (u ∷ us) regs = refl

-- each event

pub record Becomes (s : State) (e : Event) (s' : State) : Type 0 where
  pub queue : at_work s' ≡ queue_after (at_work s) e
  pub retired : retired_work s' ≡ retired_with (retired_work s) (at_work s) e
  pub fits : Fits (length s.queue) e

becomes_by : (s s' t : State) (e : Event) → s' ≡ t → Becomes s e t → Becomes s e s'
becomes_by s s' t e is h = subst (Becomes s e) (sym is) h

module _ (p : Listing) (units : ℕ) (s s' : State) where
  pub becomes : (e : Event) → Next p units s e s' → Becomes s e s'
  becomes (Assign t) next =
      let d = next.does in
      becomes_by s s' _ (Assign t) d.is (record {
        queue = map-append work_of_unit s.queue (started p s t ∷ []);
        retired = refl;
        fits = tt;
      })
  becomes (Exec k) next =
      let d = next.does in
      becomes_by s s' _ (Exec k) d.is (record {
        queue = more_work s.queue 0 k k d.unit (after_exec p d.unit d.at d.index d.a d.b s.memory) (omega arith) d.is_unit (exec_work p d.unit d.at d.index d.a d.b s.memory);
        retired = refl;
        fits = slice_get_within s.queue k d.unit d.is_unit;
      })
  becomes (Transfer k r) next =
      let d = next.does in
      becomes_by s s' _ (Transfer k r) d.is (record {
        queue = same_work s.queue k d.unit (record (d.unit) { arrived = put r d.word d.unit.arrived }) d.is_unit refl;
        retired = refl;
        fits = tt;
      })
  becomes (Drain k r) next =
      let d = next.does in
      becomes_by s s' _ (Drain k r) d.is (record {
        queue = same_work s.queue k d.unit d.after d.is_unit (ap work_of_unit d.sends.is);
        retired = refl;
        fits = tt;
      })
  becomes (Squash k) next =
      let d = next.does in
      let within : suc k < length s.queue = slice_get_within s.queue (suc k) d.after d.is_after in
      becomes_by s s' _ (Squash k) d.is (record {
        queue = sym (take-map work_of_unit (suc k) s.queue);
        retired = refl;
        fits = omega arith;
      })
  becomes Retire next =
      let d = next.does in
      becomes_by s s' _ Retire d.is (record {
        queue =
            filled_work d.rest (handed_over p d.head s.regs)
            ∙ ap (λ (us : List Active). drop 1 (map work_of_unit us)) (sym d.is_queue);
        retired =
            map-append work_of_commit s.commits (record { task = d.head.task; exit = d.exit; count = length d.head.log } ∷ [])
            ∙ ap (λ (us : List Active). retired_work s ++ take 1 (map work_of_unit us)) (sym d.is_queue);
        fits = tt;
      })
  becomes Fault next =
      let d = next.does in
      becomes_by s s' _ Fault d.is (record { queue = refl; retired = refl; fits = tt })
  becomes (Drop k) next =
      let d = next.does in
      let within : k < length s.queue = slice_get_within s.queue k d.unit d.is_unit in
      becomes_by s s' _ (Drop k) d.is (record {
        queue = sym (take-map work_of_unit k s.queue);
        retired = refl;
        fits = omega arith;
      })
