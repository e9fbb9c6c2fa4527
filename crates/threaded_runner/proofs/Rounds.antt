-- Places round a ring, counted from one of its units.
use Rattle.threaded_runner.proofs.Imports.{◌≡◌, ℕ, ◌+◌, ◌-◌, ◌%◌, ◌<◌, ◌≤◌, ap, ◌∙◌, arith, add-mod_left, mod-eq_of_lt, mod-lt}

-- the units from one on come first
pub from_it : (n head unit : ℕ) → head < n → unit < n → head ≤ unit → (unit + (n - head)) % n ≡ unit - head
from_it n head unit in_ring within after =
    let moved : unit + (n - head) ≡ n + (unit - head) = omega arith in
    let small : unit - head < n = omega arith in
    ap (λ (x : ℕ). x % n) moved ∙ add-mod_left n (unit - head) ∙ mod-eq_of_lt small

-- those below it come after them
pub below_it : (n head unit : ℕ) → head < n → unit < head → (unit + (n - head)) % n ≡ unit + (n - head)
below_it n head unit in_ring below = mod-eq_of_lt {n = unit + (n - head)} {m = n} (omega arith)

-- the unit itself is the first
pub itself : (n head : ℕ) → head < n → (head + (n - head)) % n ≡ 0
itself n head within = from_it n head head within within (omega arith) ∙ (omega arith)

-- the only number below n with a remainder by n is that remainder
pub own_remainder : (n unit : ℕ) → unit < n → unit % n ≡ unit
own_remainder n unit within = mod-eq_of_lt within

-- whatever is divided by one leaves nothing
pub by_one : (unit : ℕ) → unit % 1 ≡ 0
by_one unit =
    let small : unit % 1 < 1 = mod-lt unit (omega arith) in
    omega arith
