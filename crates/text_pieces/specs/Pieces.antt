-- A text in pieces. An LF is 10.
use Rattle.std.specs.Prelude.{◌≡◌, ℕ, ◌-◌, ◌<◌, ◌⊎◌, List, [], ◌∷◌, length, slice_index, ⊤}
use Rattle.std.specs.List.{flat_map}

-- the bytes of these pieces, one after another
abbrev pub joined : List (List ℕ) → List ℕ
joined pieces = flat_map (λ piece. piece) pieces

-- nothing, or lines that all end with LF
abbrev pub IsLines : List ℕ → Type 0
IsLines bytes = 0 < length bytes → slice_index bytes (length bytes - 1) ≡ 10

-- each line lies in one piece: all but the last are whole lines
abbrev pub AreCut : List (List ℕ) → Type 0
AreCut [] = ⊤
AreCut (piece ∷ pieces) = (IsLines piece ⊎ (pieces ≡ [])) × AreCut pieces
