-- How a name is shown that others gave: what is shown steers no terminal and ends no line.
use Rattle.std.specs.Prelude.{ℕ, ◌/◌, ◌%◌, Bool, ◌&&◌, ◌||◌, not, List, [], ◌∷◌, ◌++◌, codes, slice_index, nat_lt, nat_le, nat_eq, if◌then◌else◌}
use Rattle.std.specs.List.{flat_map, list_all, list_any}
use Rattle.std.specs.Str.{is_utf8, chars}

abbrev pub is_among : (c first last : ℕ) → Bool
is_among c first last = nat_le first c && nat_le c last

-- A character above ASCII that steers a terminal, ends a line, turns the direction of a text, or is seen by nobody
-- (Unicode: U+0080 to U+009F; U+2028, U+2029; those of the property Bidi_Control; and of the category Cf the soft hyphen,
-- the joiners, the byte order mark, and such as these).
abbrev pub steers : ℕ → Bool
steers c =
    is_among c 0x80 0x9f || (nat_eq c 0xad || (nat_eq c 0x61c || (nat_eq c 0x180e || (is_among c 0x200b 0x200f
    || (is_among c 0x2028 0x202e || (is_among c 0x2060 0x206f || (nat_eq c 0xfeff || (is_among c 0xfff9 0xfffb
    || is_among c 0xe0000 0xe007f))))))))

-- bytes of which those above 127 can be shown as the letters that they spell in UTF-8
unfoldable pub is_readable : List ℕ → Bool
is_readable bs = is_utf8 bs && not (list_any steers (chars bs))

-- a byte that is shown as it is: one of ASCII that prints, and a byte of a letter
abbrev pub is_printed : (readable : Bool) → ℕ → Bool
is_printed readable b = (nat_le 32 b && nat_lt b 127) || (readable && nat_le 128 b)

abbrev pub hex_digit : ℕ → ℕ
hex_digit d = slice_index (codes "0123456789abcdef") d

-- any other byte, as \x and its two hexadecimal digits
abbrev pub escaped : ℕ → List ℕ
escaped b = codes "\\x" ++ (hex_digit (b / 16) ∷ hex_digit (b % 16) ∷ [])

abbrev pub shown_byte : (readable : Bool) → ℕ → List ℕ
shown_byte readable b = if is_printed readable b then b ∷ [] else escaped b

abbrev pub shown_as : (readable : Bool) → List ℕ → List ℕ
shown_as readable bs = flat_map (shown_byte readable) bs

-- a name as it is shown
abbrev pub shown : (name : List ℕ) → List ℕ
shown name = shown_as (is_readable name) name

-- a name that is shown as it is
abbrev pub is_printable : (name : List ℕ) → Bool
is_printable name = list_all (is_printed (is_readable name)) name
