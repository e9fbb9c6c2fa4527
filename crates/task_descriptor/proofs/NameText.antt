-- Each byte of a name is below 128, so a name is text.
use Rattle.std.proofs.Common.{◌≡◌, ◌<◌, ℕ, Bool, true, false, ◌&&◌, List, [], ◌∷◌, arith}
use Rattle.std.specs.List.{list_all}
use Rattle.std.specs.Str.{IsAscii, IsUtf8}
use Rattle.std.proofs.lemmas.Bool.{and_parts}
use Rattle.std.proofs.lemmas.Bool.Decides.{nat_tests}
use Rattle.std.proofs.lemmas.Str.{IsUtf8-from_ascii}
use Rattle.std.proofs.lemmas.Str.Ascii.{IsAscii-nil, IsAscii-cons}
use Rattle.task_descriptor.specs.Names.{is_name, continues_name}

below_128 : (byte : ℕ) → continues_name byte ≡ true → byte < 128
below_128 byte h = grind (arith, nat_tests)

all_below_128 : (bytes : List ℕ) → list_all continues_name bytes ≡ true → IsAscii bytes
all_below_128 [] h = IsAscii-nil
all_below_128 (b ∷ bs) h =
    let parts = and_parts (continues_name b) (list_all continues_name bs) h in
    IsAscii-cons b bs (below_128 b parts.0) (all_below_128 bs parts.1)

pub name_is_text : (bytes : List ℕ) → is_name bytes ≡ true → IsUtf8 bytes
name_is_text bytes h = IsUtf8-from_ascii bytes (all_below_128 bytes (and_parts _ _ h).1)
