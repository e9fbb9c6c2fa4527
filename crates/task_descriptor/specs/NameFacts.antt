-- The fields of a name are known from its bytes.
use Rattle.std.specs.Prelude.{◌≡◌, ◌≤◌, ℕ, ◌-◌, true, List, ◌++◌, length, take, drop, replicate}
use Rattle.std.proofs.Common.{refl, arith, ap, subst, ◌∙◌, sym, length-append}
use Rattle.std.proofs.lemmas.Bool.{leb-true, and_parts}
use Rattle.std.proofs.Math.Seq.{take-append_seam, drop-append_seam}
use Rattle.std.proofs.lemmas.List.{length-take-le, take-append-drop, drop-replicate}
use Rattle.task_descriptor.specs.Names.{NameFields, is_name}
use Rattle.task_descriptor.specs.declared.name.Name.TheInside.{Inside}

pub padded_again : (padded : List ℕ) (len : ℕ) → NameFields padded len
    → take len padded ++ replicate (32 - length (take len padded)) 0 ≡ padded
padded_again padded len h =
    ap (λ n. take len padded ++ replicate (32 - n) 0) (length-take-le len padded h.within)
    ∙ ap (λ (xs : List ℕ). take len padded ++ xs) (sym h.zeros)
    ∙ take-append-drop len padded

pub same_inside : (padded : List ℕ) (len : ℕ) → NameFields padded len
    → (let back : Inside = record { padded = take len padded ++ replicate (32 - length (take len padded)) 0; len = length (take len padded) } in back) ≡ (let was : Inside = record { padded = padded; len = len } in was)
same_inside padded len h =
    λ i. record { padded = padded_again padded len h i; len = length-take-le len padded h.within i }

-- a name has at most 32 bytes
pub within_name : (bytes : List ℕ) → is_name bytes ≡ true → length bytes ≤ 32
within_name bytes named = leb-true (length bytes) 32 (and_parts _ _ (and_parts _ _ named).0).0

-- a name's bytes with what is left of 32 zeros are its fields
pub fields_of : (bytes copied zeros : List ℕ) → is_name bytes ≡ true → copied ≡ bytes → zeros ≡ replicate 32 0
    → NameFields (copied ++ drop (length bytes) zeros) (length bytes)
fields_of bytes copied zeros named is_copy are_zeros =
    subst (λ (xs : List ℕ). NameFields (xs ++ drop (length bytes) zeros) (length bytes)) (sym is_copy) (record {
      name = ap is_name (take-append_seam bytes (drop (length bytes) zeros)) ∙ named;
      within = omega (arith, length-append bytes (drop (length bytes) zeros));
      zeros = drop-append_seam bytes (drop (length bytes) zeros) ∙ ap (drop (length bytes)) are_zeros ∙ drop-replicate (length bytes) 32 0;
    })
