-- Worked examples, computed by the checker: what arrives at a unit, what it sends, and what it passes on.
use Rattle.std.specs.Prelude.{◌≡◌, ℕ, List, ◌∷◌, Some, None}
use Rattle.std.specs.List.{range_with_len}
use Rattle.std.proofs.Common.{refl, arith}
use Rattle.std.proofs.lemmas.Bool.Decides.{nat_tests}
use Rattle.machine_model.specs.Machine.{Words}
use Rattle.machine_model.specs.Unit.{put}
use Rattle.machine_model.specs.Burst.{AllIn}
use Rattle.register_ring.specs.Held.{no_pairs, put_first}
use Rattle.register_ring.specs.Ports.{Ports, arrived_of, sent_of, arrived_fresh, filled_with, passed}

-- the head registers: register r has 100 + r, and register 0 has 0
abbrev pub head_words : List ℕ
head_words = 0 ∷ range_with_len 101 33

-- after a task that may write registers 8, 31 and LO, these are reserved
abbrev pub reserving : Words
reserving = arrived_fresh head_words 0x280000100

pub reserved : reserving 8 ≡ None
reserved = refl

pub last_reserved : reserving 33 ≡ None
last_reserved = refl

-- any other register arrives with its word at once
pub arrived_at_once : reserving 9 ≡ Some 109
arrived_at_once = refl

-- without a task before it nothing is reserved
pub nothing_reserved : arrived_fresh head_words 0 33 ≡ Some 133
nothing_reserved = refl

-- a reserved register arrives, and no other with it
pub arrives : put 8 2 reserving 8 ≡ Some 2
arrives = refl

pub others_wait : put 8 2 reserving 31 ≡ None
others_wait = refl

-- what has arrived is contained in what has arrived after one more register
pub within_more : AllIn reserving (put 8 2 reserving)
within_more r word is = grind (arith, nat_tests, is)

-- but not where the same register has arrived with another word
pub not_within : AllIn (put 8 2 no_pairs) (put 8 3 no_pairs) → ⊥
not_within within = let e = within 8 2 refl in cc

-- what is still reserved is filled from the head registers; what arrived stays as it arrived
pub filled_up : filled_with head_words (put 8 2 reserving) 31 ≡ Some 131
filled_up = refl

pub filled_around : filled_with head_words (put 8 2 reserving) 8 ≡ Some 2
filled_around = refl

-- a port to which registers 0, 7, 8 and 9 have arrived, with 0, 1, 2 and 3, and that has sent registers
-- 9 and 10 with 5 and 6; the other words of the arrays belong to no register
abbrev pub port : Ports
port = record {
  arrived = record { set = 0x381; words = 0 ∷ 77 ∷ 77 ∷ 77 ∷ 77 ∷ 77 ∷ 77 ∷ 1 ∷ 2 ∷ 3 ∷ range_with_len 78 24 };
  sent = record { set = 0x600; words = 66 ∷ 66 ∷ 66 ∷ 66 ∷ 66 ∷ 66 ∷ 66 ∷ 66 ∷ 66 ∷ 5 ∷ 6 ∷ range_with_len 67 23 };
}

pub not_arrived : arrived_of port 10 ≡ None
not_arrived = refl

pub not_sent : sent_of port 8 ≡ None
not_sent = refl

-- a register stays as it was first sent
pub first_stays : put_first 9 42 (sent_of port) 9 ≡ Some 5
first_stays = refl

pub sent_now : put_first 8 42 (sent_of port) 8 ≡ Some 42
sent_now = refl

-- for registers 8 and 9 in the create mask, what was sent is passed on, not what arrived
pub passes_sent : passed 0x300 port 9 ≡ Some 5
passes_sent = refl

pub holds_arrived : passed 0x300 port 8 ≡ None
holds_arrived = refl

-- for any other register, what arrived, not what was sent
pub passes_arrived : passed 0x300 port 7 ≡ Some 1
passes_arrived = refl

pub holds_sent : passed 0x300 port 10 ≡ None
holds_sent = refl
