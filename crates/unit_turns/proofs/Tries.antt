-- The first of the tries that is allowed: the Squash, else the Exec, else one that names a register.
use Rattle.unit_turns.proofs.Imports.{◌≡◌, ℕ, Option, Some, None, ap, ◌∙◌, map, option_or, Listing, State, refusal, Event, Exec, Transfer, Drain, Squash, registers, first_allowed, TakesAllowed, SkipsRefused, GoesByLists, tries}

module _ (p : Listing) (units : ℕ) (s : State) (k : ℕ) where
  abbrev pub Refuses : Event → Type 0
  Refuses e = refusal p units s e ≡ None → ⊥

  pub finds_exec : TakesAllowed → SkipsRefused → Refuses (Squash k) → refusal p units s (Exec k) ≡ None → first_allowed p units s (tries k) ≡ Some (Exec k)
  finds_exec takes skips squash e = skips p units s (Squash k) _ squash ∙ takes p units s (Exec k) _ e

  pub finds_register : SkipsRefused → GoesByLists → (taken sent : Option Event) → Refuses (Squash k) → Refuses (Exec k)
      → first_allowed p units s (map (Transfer k) registers) ≡ taken → first_allowed p units s (map (Drain k) registers) ≡ sent → first_allowed p units s (tries k) ≡ option_or taken sent
  finds_register skips lists taken sent squash exec t d =
      skips p units s (Squash k) _ squash
      ∙ skips p units s (Exec k) _ exec
      ∙ lists p units s (map (Transfer k) registers) (map (Drain k) registers)
      ∙ ap (λ (o : Option Event). option_or o (first_allowed p units s (map (Drain k) registers))) t
      ∙ ap (option_or taken) d
