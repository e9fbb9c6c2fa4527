-- A name as a word of a shell's command line.
use Rattle.std.specs.Prelude.{ℕ, Bool, true, false, ◌||◌, ◌&&◌, List, [], ◌∷◌, ◌++◌, codes, length, slice_index, nat_eq, nat_le, nat_lt, if◌then◌else◌}
use Rattle.std.specs.List.{flat_map, list_all}
use Rattle.shown_names.specs.Shown.{is_printable, is_readable, shown_byte}

-- a byte that a shell takes as it is, wherever it stands in a word: a letter, a digit, or one of % + , - . / : @ _
abbrev pub is_bare : ℕ → Bool
is_bare b = nat_eq b 37 || ((nat_le 43 b && nat_le b 58) || ((nat_le 64 b && nat_le b 90) || (nat_eq b 95 || (nat_le 97 b && nat_le b 122))))

-- a byte between single quotes
abbrev pub quoted_byte : ℕ → List ℕ
quoted_byte b = if nat_eq b 39 then codes "'\\''" else b ∷ []

-- a byte between `$'` and `'`
abbrev pub coded_byte : (readable : Bool) → ℕ → List ℕ
coded_byte readable b = if nat_eq b 39 || nat_eq b 92 then 92 ∷ b ∷ [] else shown_byte readable b

abbrev pub coded : (readable : Bool) → (name : List ℕ) → List ℕ
coded readable name = codes "$'" ++ (flat_map (coded_byte readable) name ++ 39 ∷ [])

-- between single quotes, or with codes for what is no printable text
abbrev pub quoted : (name : List ℕ) → List ℕ
quoted name = if is_printable name then 39 ∷ (flat_map quoted_byte name ++ 39 ∷ []) else coded (is_readable name) name

-- as it is where a shell takes each byte as it is
abbrev pub as_word : (name : List ℕ) → List ℕ
as_word name = if list_all is_bare name then name else quoted name

-- a command takes a word that begins with - for an option, but for - alone, which is standard input
abbrev pub is_like_option : (name : List ℕ) → Bool
is_like_option name = nat_lt 1 (length name) && nat_eq (slice_index name 0) 45

-- a file's name as a word that no command takes for an option
abbrev pub shell_word : (name : List ℕ) → List ℕ
shell_word name = if is_like_option name then as_word (codes "./" ++ name) else as_word name
