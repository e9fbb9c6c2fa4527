-- What follows once the budget is spent, by induction on the budget and the history.
use Rattle.threaded_runner.proofs.Imports.{◌≡◌, ℕ, zero, suc, ◌<◌, List, [], ◌∷◌, ◌++◌, length, Bool, true, false, refl, sym, subst, arith, replicate, Event, Exec}
use Rattle.std.specs.List.{AllByRecursion}
use Rattle.threaded_runner.specs.Reports.{is_late, AreLate}

abbrev AllLate : List Event → Type 0
AllLate es = AllByRecursion (λ e. is_late e ≡ true) es

both : (xs ys : List Event) → AllLate xs → AllLate ys → AllLate (xs ++ ys)
both [] ys a b = b
both (x ∷ xs) ys a b = (a.0, both xs ys a.1 b)

-- some of the first of them are within the budget
rest_late : (budget : ℕ) (es : List Event) → AllLate es → AreLate budget es
rest_late zero es a = a
rest_late (suc n) [] a = tt
rest_late (suc n) (e ∷ es) a = rest_late n es a.1

late_append : (budget : ℕ) (history es : List Event) → AreLate budget history → AllLate es → AreLate budget (history ++ es)
late_append zero history es a b = both history es a b
late_append (suc n) [] es a b = rest_late (suc n) es b
late_append (suc n) (e ∷ history) es a b = late_append n history es a b

within_append : (budget : ℕ) (history : List Event) (e : Event) → length history < budget → AreLate budget (history ++ e ∷ [])
within_append zero history e room = absurd (omega (arith, room))
within_append (suc n) [] e room = rest_late n [] tt
within_append (suc n) (x ∷ history) e room = within_append n history e (omega (arith, room))

next_by : (budget : ℕ) (history : List Event) (e : Event) → AreLate budget history → (is_late e ≡ false → length history < budget) → (b : Bool) → is_late e ≡ b → AreLate budget (history ++ e ∷ [])
next_by budget history e a room true is = late_append budget history (e ∷ []) a (is, tt)
next_by budget history e a room false is = within_append budget history e (room is)

-- one event more, which is late if the budget is spent
pub next_late : (budget : ℕ) (old new : List Event) (e : Event) → new ≡ old ++ e ∷ [] → AreLate budget old → (is_late e ≡ false → length old < budget) → AreLate budget new
next_late budget old new e more a room = subst (λ (h : List Event). AreLate budget h) (sym more) (next_by budget old e a room (is_late e) refl)

execs : (k n : ℕ) → AllLate (replicate n (Exec k))
execs k zero = tt
execs k (suc n) = (refl, execs k n)

-- several instructions more
pub execs_late : (budget : ℕ) (old new : List Event) (k n : ℕ) → new ≡ old ++ replicate n (Exec k) → AreLate budget old → AreLate budget new
execs_late budget old new k n more a = subst (λ (h : List Event). AreLate budget h) (sym more) (late_append budget old (replicate n (Exec k)) a (execs k n))
