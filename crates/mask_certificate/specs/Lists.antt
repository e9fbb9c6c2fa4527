-- What a certificate is: for each task a list of entries. An entry is the index of an instruction and
-- a mask, a set of registers as a number, register r being bit r.
use Rattle.std.specs.Prelude.{◌≡◌, ℕ, ◌+◌, ◌^◌, ◌<◌, List, [], ◌∷◌, map, length, Option, None, Some, nat_lt, nat_le, ◌==◌, if◌then◌else◌, slice_index, slice_index_or}
use Rattle.std.specs.declared.alloc.Global.{Global}
use Rattle.std.specs.declared.vec.Vec.{Vec}
use Rattle.std.specs.List.{All}
use Rattle.std.specs.List.Sorted.{IsStrictlyIncreasing}
use Rattle.std.specs.Option.{option_or}
use Rattle.mask_certificate.specs.declared.certificate.ListFault.{ListFault}
use Rattle.mask_certificate.specs.declared.certificate.ListFault.TheVariants.{NotRising, OutOfCode}

-- the list of a task, which is empty where it is missing
abbrev pub list_of : List (List (ℕ × ℕ)) → ℕ → List (ℕ × ℕ)
list_of cert task = slice_index_or cert task []

-- the mask that a list has at an index
abbrev pub mask_at : List (ℕ × ℕ) → ℕ → Option ℕ
mask_at [] index = None
mask_at (entry ∷ entries) index = if entry.0 == index then Some entry.1 else mask_at entries index

-- What is wrong at the first faulty position of a list: the index there is below the least that it may be,
-- which is one more than the index before it, or it is not an index of an instruction.
-- `position` is that of the first of these entries.
abbrev pub fault_in : ℕ → ℕ → ℕ → List (ℕ × ℕ) → Option ListFault
fault_in task position least [] = None
fault_in task position least (entry ∷ entries) =
    if nat_lt entry.0 least then Some (NotRising task position)
    else (if nat_le 4096 entry.0 then Some (OutOfCode task position)
    else fault_in task (position + 1) (entry.0 + 1) entries)

-- what is wrong in the first faulty list; `task` is the task of the first of these lists
abbrev pub first_fault : ℕ → List (List (ℕ × ℕ)) → Option ListFault
first_fault task [] = None
first_fault task (list ∷ lists) = option_or (fault_in task 0 0 list) (first_fault (task + 1) lists)

-- each index is below the next, and below 4,096
pub record Rises (list : List (ℕ × ℕ)) : Type 0 where
  pub rising : IsStrictlyIncreasing (map (λ entry. entry.0) list)
  pub inside : All (λ entry. entry.0 < 4096) list

-- at the index of each entry of the list stands its position in the list
abbrev pub ArePositions : List (ℕ × ℕ) → List ℕ → Type 0
ArePositions list positions = (k : ℕ) → k < length list → slice_index positions (slice_index_or list k (0, 0)).0 ≡ k

-- the entries, without where they lie in memory
abbrev pub entries_of : List (Vec (ℕ × ℕ) Global) → List (List (ℕ × ℕ))
entries_of lists = map (λ list. list.items) lists

-- what the lists of a certificate are: each rises, and each mask is a set of registers
pub record IsCertificate (cert : List (List (ℕ × ℕ))) : Type 0 where
  pub rising : first_fault 0 cert ≡ None
  pub masks : All (All (λ entry. entry.1 < 2 ^ 34)) cert
