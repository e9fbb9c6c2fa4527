-- A word that does not begin with a dot is no directive.
use Rattle.std.proofs.Common.{◌≡◌, ℕ, List, ◌∷◌, Bool, true, false, Option, None, Some, refl, ap, sym}
use Rattle.std.specs.Prelude.{codes, nat_eq, if◌then◌else◌}
use Rattle.std.specs.List.{starts_with}
use Rattle.std.specs.Str.{bytes_eq}
use Rattle.std.proofs.lemmas.Slice.Eq.{bytes_eq-Decides}
use Rattle.operand_forms.specs.declared.shape.OperandShape.{OperandShape}
use Rattle.operand_forms.specs.declared.shape.OperandShape.TheVariants as shape
use Rattle.operand_forms.specs.Shapes.{directives, shape_in}

is_false : (b : Bool) → (b ≡ true → ⊥) → b ≡ false
is_false true h = absurd (h refl)
is_false false h = refl

not_both : (b : Bool) → b ≡ false → b ≡ true → ⊥
not_both b off on = absurd cc

-- a word with a dot begins with one
differs : (word rest : List ℕ) → starts_with nat_eq word (codes ".") ≡ false → bytes_eq (46 ∷ rest) word ≡ false
differs word rest none =
    is_false (bytes_eq (46 ∷ rest) word) (λ same.
    let is : word ≡ 46 ∷ rest = sym ((bytes_eq-Decides (46 ∷ rest) word).0 same) in
    not_both (starts_with nat_eq word (codes ".")) none (ap (λ (w : List ℕ). starts_with nat_eq w (codes ".")) is))

all_none : (a b c d e f g h : Bool) → a ≡ false → b ≡ false → c ≡ false → d ≡ false → e ≡ false → f ≡ false → g ≡ false → h ≡ false
    → (if a then Some shape.Start else if b then Some shape.Task else if c then Some shape.Nothing else if d then Some shape.Nothing
    else if e then Some shape.Nothing else if f then Some shape.Words else if g then Some shape.Bytes else if h then Some shape.Space else None) ≡ None
all_none a b c d e f g h na nb nc nd ne nf ng nh = rw (na, nb, nc, nd, ne, nf, ng, nh) refl

pub no_directive : (word : List ℕ) → starts_with nat_eq word (codes ".") ≡ false → shape_in word directives ≡ None
no_directive word none =
    all_none (bytes_eq (codes ".start") word) (bytes_eq (codes ".task") word) (bytes_eq (codes ".text") word) (bytes_eq (codes ".data") word)
    (bytes_eq (codes ".rodata") word) (bytes_eq (codes ".word") word) (bytes_eq (codes ".byte") word) (bytes_eq (codes ".space") word)
    (differs word (codes "start") none) (differs word (codes "task") none) (differs word (codes "text") none) (differs word (codes "data") none)
    (differs word (codes "rodata") none) (differs word (codes "word") none) (differs word (codes "byte") none) (differs word (codes "space") none)
