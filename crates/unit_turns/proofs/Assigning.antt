-- What may follow the tail may be assigned to a free unit, test by test.
use Rattle.unit_turns.proofs.Imports.{◌≡◌, ℕ, ◌<◌, length, Bool, true, false, Option, Some, None, refl, sym, ◌∙◌, true≢false, nat_lt, if◌then◌else◌, lt-ltb, Listing, State, unless, refusal, Assign, Refused, MayFollow}

passes : (b : Bool) (why : Refused) (behind : Option Refused) → b ≡ true → unless b why behind ≡ behind
passes true why behind e = refl
passes false why behind e = absurd (true≢false (sym e))

pub assign_allowed : (p : Listing) (units : ℕ) (s : State) (t : ℕ) → length s.queue < units → MayFollow p s t → refusal p units s (Assign t) ≡ None
assign_allowed p units s t free may =
    passes (nat_lt (length s.queue) units) _ _ (lt-ltb (length s.queue) units free)
    ∙ passes (nat_lt t (length p.tasks)) _ _ (lt-ltb t (length p.tasks) may.0)
    ∙ passes _ _ _ may.1

-- the next unit, where there is one
pub next_is : (b : Bool) (x unit : ℕ) → Some unit ≡ (if b then Some x else None) → (b ≡ true) × (x ≡ unit)
next_is true x unit e = (refl, cc)
next_is false x unit e = absurd (cc)

-- and where there is none
pub none_next : (b : Bool) (x : ℕ) → None ≡ (if b then Some x else None) → b ≡ true → ⊥
none_next true x e free = cc
none_next false x e free = true≢false (sym free)
