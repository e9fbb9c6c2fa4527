-- Texts one after another: whole ones, and then a beginning of the next.
use Rattle.std.proofs.Common.{◌∙◌, sym, ap, ℕ, List, [], ◌++◌, Option, append_assoc, append-nil}
use Rattle.std.specs.Io.KnownBytes.{Appends, Keeps}
use Rattle.std.proofs.KnownBytes.{Appends-kept, Appends-trans}
use Rattle.result_files.specs.Writing.{Begins}

pub whole : (a b : Option (List ℕ)) (text : List ℕ) → Appends a b text → Begins a b text
whole a b text h = record { written = text; left = []; parts = sym (append-nil text); added = h }

pub kept : (a b c : Option (List ℕ)) (text : List ℕ) → Begins a b text → Keeps b c → Begins a c text
kept a b c text h k =
    record { written = h.written; left = h.left; parts = h.parts; added = Appends-kept a b c h.written h.added k }

-- no more was written than a beginning of the first
pub first : (a b : Option (List ℕ)) (text more : List ℕ) → Begins a b text → Begins a b (text ++ more)
first a b text more h = record {
  written = h.written;
  left = h.left ++ more;
  parts = ap (λ l. l ++ more) h.parts ∙ append_assoc h.written h.left more;
  added = h.added;
}

-- the first was written whole, and a beginning of the second
pub next : (a b c : Option (List ℕ)) (text more : List ℕ) → Appends a b text → Begins b c more → Begins a c (text ++ more)
next a b c text more w h = record {
  written = text ++ h.written;
  left = h.left;
  parts = ap (λ l. text ++ l) h.parts ∙ sym (append_assoc text h.written h.left);
  added = Appends-trans a b c text h.written w h.added;
}
