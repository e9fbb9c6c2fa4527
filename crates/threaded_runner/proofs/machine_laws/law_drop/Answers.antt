use Rattle.threaded_runner.proofs.Imports.{◌≡◌, ℕ, ◌<◌, length, Bool, true, false, Option, None, inl, inr, refl, sym, ap, ◌∙◌, arith, true≢false, lt-ltb, slice_get_cases, nat_lt, Listing, Active, State, refusal, unless, for_some, Drop, Refused, state, units_of}
use Rattle.machine_model.specs.declared.event.Refused.TheVariants as refused
use Rattle.threaded_runner.proofs.machine_laws.law_drop.Goals as goal

passes : (b : Bool) (why : Refused) → b ≡ true → unless b why None ≡ None
passes true why e = refl
passes false why e = absurd (true≢false (sym e))

none_refuses : (p : Listing) (units : ℕ) (s : State) (k : ℕ) → 0 < k → k < length s.queue → refusal p units s (Drop k) ≡ None
none_refuses p units s k ahead within =
    elim (slice_get_cases s.queue k).1 [
      | inl found ↦
          ap (λ (o : Option Active). for_some o refused.NoSuch (λ (u : Active). unless (nat_lt 0 k) refused.NoSuch None)) found.2
          ∙ passes (nat_lt 0 k) refused.NoSuch (lt-ltb 0 k ahead)
      | inr past ↦ absurd (omega arith)
    ]

pub returns : goal.returns
returns c =
    let m = c.args.machine.now in
    c.law_answers.ensures.unrefused (Drop c.args.position) c.requires.running (none_refuses m.accepted.program (units_of m) (state m) c.args.position c.requires.ahead c.requires.within) c.requires.room
