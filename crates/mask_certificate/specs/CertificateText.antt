-- The text of a certificate. The first line is `cert 2` or `cert 1`. Then, for each task of the
-- program in order, comes `task NAME`, and a line for each entry: the index in decimal, a
-- space, and the mask in lower-case hexadecimal digits, 16 of them in `cert 2` and 8 in `cert 1`.
-- Every line ends with LF, which is 10; a space is 32.
use Rattle.std.specs.Prelude.{◌≡◌, ℕ, zero, suc, ◌<◌, ◌/◌, ◌%◌, ◌^◌, List, [], ◌∷◌, ◌++◌, length}
use Rattle.std.specs.Char.{digit_char}
use Rattle.std.specs.Fmt.{decimal}
use Rattle.std.specs.List.{All, flat_map}
use Rattle.std.specs.Prelude.{codes}
use Rattle.mask_certificate.specs.declared.fault.MaskSpelling.{MaskSpelling}
use Rattle.mask_certificate.specs.declared.fault.MaskSpelling.TheVariants.{Narrow, Wide}
use Rattle.mask_certificate.specs.Lists.{IsCertificate}

abbrev pub first_line : MaskSpelling → List ℕ
first_line Narrow = codes "cert 1" ++ 10 ∷ []
first_line Wide = codes "cert 2" ++ 10 ∷ []

-- how many digits a mask has
abbrev pub mask_digits : MaskSpelling → ℕ
mask_digits Narrow = 8
mask_digits Wide = 16

-- the last k hexadecimal digits of n
abbrev pub hexadecimal : ℕ → ℕ → List ℕ
hexadecimal zero n = []
hexadecimal (suc k) n = hexadecimal k (n / 16) ++ digit_char (n % 16) ∷ []

abbrev pub entry_text : MaskSpelling → ℕ × ℕ → List ℕ
entry_text spelling entry = decimal entry.0 ++ (32 ∷ (hexadecimal (mask_digits spelling) entry.1 ++ 10 ∷ []))

abbrev pub task_text : MaskSpelling → List ℕ → List (ℕ × ℕ) → List ℕ
task_text spelling name list = codes "task " ++ (name ++ (10 ∷ flat_map (entry_text spelling) list))

-- a missing list has no entry, and a list beyond the tasks is left out
abbrev pub tasks_text : MaskSpelling → List (List ℕ) → List (List (ℕ × ℕ)) → List ℕ
tasks_text spelling [] lists = []
tasks_text spelling (name ∷ names) [] = task_text spelling name [] ++ tasks_text spelling names []
tasks_text spelling (name ∷ names) (list ∷ lists) = task_text spelling name list ++ tasks_text spelling names lists

-- the text of the lists for the tasks of these names
abbrev pub spelled : MaskSpelling → List (List (ℕ × ℕ)) → List (List ℕ) → List ℕ
spelled spelling lists names = first_line spelling ++ tasks_text spelling names lists

-- The text is that of the certificate in one of the two spellings, with one list for each task. The
-- narrow spelling has no digits for the registers 32 and 33, so it spells no mask that has one.
pub record Spells (text : List ℕ) (names : List (List ℕ)) (cert : List (List (ℕ × ℕ))) : Type 0 where
  pub spelling : MaskSpelling
  pub certificate : IsCertificate cert
  pub complete : length cert ≡ length names
  pub within : All (All (λ entry. entry.1 < 16 ^ mask_digits spelling)) cert
  pub text_is : text ≡ spelled spelling cert names

-- the text that is written
abbrev pub cert_text : List (List (ℕ × ℕ)) → List (List ℕ) → List ℕ
cert_text cert names = spelled Wide cert names
