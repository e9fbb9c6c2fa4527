-- Fewer than four bytes are written one by one.
use Rattle.canonical_text.proofs.Imports.{◌≡◌, ◌<◌, ◌∷◌, [], List, ℕ, length, refl, arith, flat_map, data_lines, byte_line}

pub data_lines_short : (bytes : List ℕ) → length bytes < 4 → data_lines bytes ≡ flat_map byte_line bytes
data_lines_short [] h = refl
data_lines_short (a ∷ []) h = refl
data_lines_short (a ∷ b ∷ []) h = refl
data_lines_short (a ∷ b ∷ c ∷ []) h = refl
data_lines_short (a ∷ b ∷ c ∷ d ∷ bytes) h = absurd (omega arith)
