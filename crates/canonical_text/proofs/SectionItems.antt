-- The lines of a section are as one item with all its bytes: layout, names and program are the same.
use Rattle.canonical_text.proofs.Imports.{ℕ, ◌+◌, List, [], ◌∷◌, ◌++◌, refl, Section, blob, PlacedStatement, alike_same, alike_then, alike_behind, blob_joined}
use Rattle.annotated_asm.specs.Alike.{AreAlike}
use Rattle.canonical_text.proofs.SourceItems.{byte_items, data_items, section_items}

-- the bytes of one item, and what is as one item behind it
joined : (n : ℕ) (here : Section) (first bytes : List ℕ) (items : List PlacedStatement) → AreAlike (blob (n + 1) here bytes ∷ []) items
    → AreAlike (blob n here (first ++ bytes) ∷ []) (blob n here first ∷ items)
joined n here first bytes items alike =
    alike_then (blob n here (first ++ bytes) ∷ []) (blob n here first ∷ blob (n + 1) here bytes ∷ []) (blob n here first ∷ items)
    (blob_joined [] n (n + 1) here first bytes) (alike_behind (blob n here first ∷ []) (blob (n + 1) here bytes ∷ []) items alike)

bytes_alike : (n : ℕ) (here : Section) (b : ℕ) (bytes : List ℕ) → AreAlike (blob n here (b ∷ bytes) ∷ []) (byte_items n here (b ∷ bytes))
bytes_alike n here b [] = alike_same _ _ refl
bytes_alike n here b (c ∷ bytes) = joined n here (b ∷ []) (c ∷ bytes) (byte_items (n + 1) here (c ∷ bytes)) (bytes_alike (n + 1) here c bytes)

data_alike : (n : ℕ) (here : Section) (a : ℕ) (bytes : List ℕ) → AreAlike (blob n here (a ∷ bytes) ∷ []) (data_items n here (a ∷ bytes))
data_alike n here a [] = bytes_alike n here a []
data_alike n here a (b ∷ []) = bytes_alike n here a (b ∷ [])
data_alike n here a (b ∷ c ∷ []) = bytes_alike n here a (b ∷ c ∷ [])
data_alike n here a (b ∷ c ∷ d ∷ []) = alike_same _ _ refl
data_alike n here a (b ∷ c ∷ d ∷ e ∷ bytes) =
    joined n here (a ∷ b ∷ c ∷ d ∷ []) (e ∷ bytes) (data_items (n + 1) here (e ∷ bytes)) (data_alike (n + 1) here e bytes)

pub section_alike : (n : ℕ) (before here : Section) (b : ℕ) (bytes : List ℕ) → AreAlike (blob (n + 1) here (b ∷ bytes) ∷ []) (section_items n before here (b ∷ bytes))
section_alike n before here b bytes =
    let alike = data_alike (n + 1) here b bytes in
    record { layout = alike.layout; names = alike.names; program = alike.program }
