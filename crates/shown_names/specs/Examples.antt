-- Worked examples, computed by the checker.
use Rattle.std.specs.Prelude.{◌≡◌, ◌++◌, ◌∷◌, [], codes}
use Rattle.std.proofs.Common.{refl}
use Rattle.shown_names.specs.Shell.{shell_word}
use Rattle.std.specs.Str.{is_utf8, chars}
use lib.Utf8.{encode}
use Rattle.shown_names.specs.Shown.{is_readable, shown}

pub plain : shown (codes "a b.s") ≡ codes "a b.s"
plain = refl

-- ESC, and LF
pub control : shown (27 ∷ codes "[2Ja.s" ++ 10 ∷ []) ≡ codes "\\x1b[2Ja.s\\x0a"
unfolding is_readable is_utf8 chars encode
control = refl

-- a letter stays
pub letter : shown (195 ∷ 169 ∷ codes ".s") ≡ 195 ∷ 169 ∷ codes ".s"
unfolding is_readable is_utf8 chars encode
letter = refl

-- U+202E turns the direction
pub turned : shown (226 ∷ 128 ∷ 174 ∷ codes ".s") ≡ codes "\\xe2\\x80\\xae.s"
unfolding is_readable is_utf8 chars encode
turned = refl

-- U+FEFF
pub byte_order_mark : shown (239 ∷ 187 ∷ 191 ∷ codes "a") ≡ codes "\\xef\\xbb\\xbfa"
unfolding is_readable is_utf8 chars encode
byte_order_mark = refl

pub bare : shell_word (codes "out/a-1.s") ≡ codes "out/a-1.s"
bare = refl

pub with_blank : shell_word (codes "a b's.s") ≡ codes "'a b'\\''s.s'"
with_blank = refl

pub with_line_end : shell_word (codes "a\\" ++ 10 ∷ codes "b") ≡ codes "$'a\\\\\\x0ab'"
unfolding is_readable is_utf8 chars encode
with_line_end = refl

pub like_an_option : shell_word (codes "-w.s") ≡ codes "./-w.s"
like_an_option = refl

pub standard_input : shell_word (codes "-") ≡ codes "-"
standard_input = refl
