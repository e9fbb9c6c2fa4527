-- A step reads no log, so what was made on a unit without a log holds of that unit with any log.
use Rattle.std.specs.Prelude.{◌≡◌, ℕ, ◌+◌, ◌≤◌, ◌++◌, ◌∷◌, [], false, List, is_some, Option, Some, None, IfSome}
use Rattle.std.proofs.Common.{sym, ap, ◌∙◌, subst, arith, append_assoc, add-one, inl, inr}
use Rattle.std.proofs.lemmas.List.{append-nil}
use Rattle.mips_instructions.specs.Words.{address}
use Rattle.mips_plain.specs.MemoryMap.{byte_of}
use Rattle.mips_plain.specs.Effect.{written, outcome_after}
use Rattle.mips_plain.specs.declared.outcome.Outcome.{Outcome}
use Rattle.mips_plain.specs.declared.outcome.Outcome.TheVariants.{Running, Halted, Trapped}
use Rattle.mips_plain.specs.declared.outcome.Read.{Read}
use Rattle.task_descriptor.specs.Listing.{Listing}
use Rattle.task_descriptor.specs.declared.descriptor.Marked.{Marked}
use Rattle.machine_model.specs.Machine.{Active}
use Rattle.machine_model.specs.Unit.{with_log, gone_on, executed}
use Rattle.machine_model.specs.Burst.{no_memory, StepsAlone, Burst}
use Rattle.unit_core.specs.Units.{UnitView, active_of}
use Rattle.unit_core.specs.UnitStep.{IsRefusedFor}
use Rattle.unit_core.specs.Bursts.{BurstView, IsMade, Makes, HasSentTheSame, SendsLast, EndsFor, EndsAtSend}
use Rattle.unit_core.specs.declared.wait.Wait.{Wait}

-- a step with another log
same_after : (o : Outcome) (p : Listing) (u : Active) (m : Marked) (index a b : ℕ) (before log log' : List Read) → log ≡ log' → with_log (executed o p u m index a b no_memory) log ≡ with_log (executed o p (with_log u before) m index a b no_memory) log'
same_after Running p u m index a b before log log' is = ap (with_log (gone_on u m index a b (address index) (written m.op a b (address index) (byte_of p.fixed) no_memory))) is
same_after Halted p u m index a b before log log' is = ap (with_log u) is
same_after (Trapped trap) p u m index a b before log log' is = ap (with_log u) is

same_step : (p : Listing) (u u' : Active) → StepsAlone p u u' → (log : List Read) → StepsAlone p (with_log u (log ++ u.log)) (with_log u' (log ++ u'.log))
same_step p u u' step log =
    let read : List Read = record { pc = address step.index; a = step.a; b = step.b } ∷ [] in
    record {
      index = step.index;
      at = step.at;
      a = step.a;
      b = step.b;
      next = record {
        is_inside = step.next.is_inside;
        is_there = step.next.is_there;
        has_a = step.next.has_a;
        has_b = step.next.has_b;
        has_released = step.next.has_released;
      };
      may_run_ahead = step.may_run_ahead;
      is =
          ap (λ (x : Active). with_log x (log ++ x.log)) step.is
          ∙ same_after (outcome_after step.at.op step.a) p u step.at step.index step.a step.b (log ++ u.log) (log ++ (u.log ++ read)) ((log ++ u.log) ++ read) (sym (append_assoc log u.log read));
    }

-- no step at all, and one more
pub none_made : (p : Listing) (u : UnitView) → u.log ≡ [] → Makes p u 0 u
none_made p u none log =
    ap (λ (l : List Read). with_log (active_of u) l) (ap (λ (l : List Read). log ++ l) none ∙ append-nil log)

pub steps_on : (p : Listing) (u mid after : UnitView) (n : ℕ) → Makes p u n mid → StepsAlone p (active_of mid) (active_of after) → Makes p u (n + 1) after
steps_on p u mid after n made step log =
    subst (λ (k : ℕ). Burst p (with_log (active_of u) log) k (with_log (active_of after) (log ++ after.log))) (sym (add-one n))
    (with_log (active_of mid) (log ++ mid.log), made log, same_step p (active_of mid) (active_of after) step log)

-- a unit after no step is the one before it, and what is made on it is made on that one
pub begins_empty : (p : Listing) (u v : UnitView) → Makes p u 0 v → v.log ≡ []
begins_empty p u v made = ap (λ (a : Active). a.log) (made [])

pub begins_as : (p : Listing) (u v : UnitView) → Makes p u 0 v → (log : List Read) → with_log (active_of v) log ≡ with_log (active_of u) log
begins_as p u v made log = ap (λ (a : Active). with_log a log) (made [])

pub made_on : (p : Listing) (u v w : UnitView) (n : ℕ) → ((log : List Read) → with_log (active_of v) log ≡ with_log (active_of u) log) → Makes p v n w → Makes p u n w
made_on p u v w n same made log = subst (λ (a : Active). Burst p a n (with_log (active_of w) (log ++ w.log))) (same log) (made log)

pub sends_on : (p : Listing) (u v : UnitView) (k : ℕ) → ((log : List Read) → with_log (active_of v) log ≡ with_log (active_of u) log) → SendsLast p v k → SendsLast p u k
sends_on p u v k same last n is =
    let mid = last n is in (
      mid.0,
      made_on p u v mid.0 n same mid.1,
      λ r. mid.2 r ∙ ap (λ (a : Active). is_some (a.sent r)) (same []),
    )

-- one step more where nothing was sent for the first time
pub one_sends : (p : Listing) (u mid : UnitView) (steps : ℕ) → Makes p u steps mid → HasSentTheSame (active_of mid) (active_of u) → SendsLast p u (steps + 1)
one_sends p u mid steps made same n is =
    let one : steps ≡ n = omega arith in
    (mid, subst (λ (k : ℕ). Makes p u k mid) one made, same)

-- the reason that is given is so
pub reason_of : (p : Listing) (after : Active) (most steps : ℕ) (ended : Option Wait) → EndsFor p after most steps ended → IfSome ended (IsRefusedFor p false after)
reason_of p after most steps None ends = tt
reason_of p after most steps (Some why) ends = ends.1

pub reason_at_send : (p : Listing) (before after : Active) (most steps : ℕ) (ended : Option Wait) → EndsAtSend p before after most steps ended → IfSome ended (IsRefusedFor p false after)
reason_at_send p before after most steps ended ends =
    elim ends [
      | inl all ↦ reason_of p after most steps ended all
      | inr sends ↦ subst (λ (o : Option Wait). IfSome o (IsRefusedFor p false after)) (sym sends.0) tt
    ]

-- a unit has sent what another one has that differs in the log alone
pub ends_as : (p : Listing) (u v : UnitView) (after : Active) (most steps : ℕ) (ended : Option Wait) → ((log : List Read) → with_log (active_of v) log ≡ with_log (active_of u) log) → EndsAtSend p (active_of v) after most steps ended → EndsAtSend p (active_of u) after most steps ended
ends_as p u v after most steps ended same ends =
    elim ends [
      | inl all ↦ inl all
      | inr sends ↦ inr (sends.0, λ all. sends.1 (λ r. all r ∙ ap (λ (a : Active). is_some (a.sent r)) (sym (same []))))
    ]

-- a burst without a step has the unit before also after it, so what is made on the one is made on the other

pub begun_empty : (b : BurstView) → IsMade b → b.steps ≡ 0 → b.after.log ≡ []
begun_empty b made none =
    let p = b.accepted.program in
    begins_empty p b.before b.after (subst (λ (n : ℕ). Makes p b.before n b.after) none made.made)

pub begun_as : (b : BurstView) (v : UnitView) → IsMade b → b.steps ≡ 0 → v ≡ b.after → (log : List Read) → with_log (active_of v) log ≡ with_log (active_of b.before) log
begun_as b v made none is log =
    let p = b.accepted.program in
    ap (λ (x : UnitView). with_log (active_of x) log) is
    ∙ begins_as p b.before b.after (subst (λ (n : ℕ). Makes p b.before n b.after) none made.made) log

pub made_from : (b : BurstView) (v w : UnitView) (n : ℕ) (ended : Option Wait) → IsMade b → b.steps ≡ 0 → v ≡ b.after → n ≤ 65536 → Makes b.accepted.program v n w
    → IfSome ended (IsRefusedFor b.accepted.program false (active_of w)) → IsMade (record b { steps = n; after = w; ended = ended })
made_from b v w n ended made none is few steps reason = record {
  few = few;
  made = made_on b.accepted.program b.before v w n (begun_as b v made none is) steps;
  reason = reason;
}
