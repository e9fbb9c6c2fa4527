-- What a name is: a letter or `_`, then letters, digits and `_`, 1 to 32 bytes.
use Rattle.std.specs.Prelude.{◌≡◌, ◌≤◌, ℕ, ◌-◌, Bool, true, false, Option, Some, None, ◌&&◌, ◌||◌, ◌==◌, nat_le, List, length, slice_get, take, drop, replicate}
use Rattle.std.specs.List.{list_all}
use Rattle.std.specs.Char.{is_ascii_alphabetic, is_ascii_alphanumeric}

-- 95 is `_`
abbrev pub begins_name : ℕ → Bool
begins_name byte = is_ascii_alphabetic byte || byte == 95

abbrev pub continues_name : ℕ → Bool
continues_name byte = is_ascii_alphanumeric byte || byte == 95

-- whether there is a first byte, and a name may begin with it
abbrev pub begins : Option ℕ → Bool
begins None = false
begins (Some first) = begins_name first

abbrev pub is_name : List ℕ → Bool
is_name bytes = nat_le (length bytes) 32 && begins (slice_get bytes 0) && list_all continues_name bytes

-- how a name is kept: its bytes, then zeros up to 32
pub record NameFields (padded : List ℕ) (len : ℕ) : Type 0 where
  pub name : is_name (take len padded) ≡ true
  pub within : len ≤ length padded
  pub zeros : drop len padded ≡ replicate (32 - len) 0
