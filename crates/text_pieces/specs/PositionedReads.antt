-- What a positioned read of a file gives, and the parts of a file that such reads fetch.
use Rattle.std.specs.Prelude.{◌≡◌, ℕ, ◌*◌, ◌<◌, ◌≤◌, List, length, take, drop, Option, IfSome, slice_index_or}
use Rattle.std.specs.declared.alloc.Global.{Global}
use Rattle.std.specs.declared.vec.Vec.{Vec}

-- a read of `count` bytes into a buffer gave those from an offset on, and none only at the end
pub record ReadsAt (offset : ℕ) (count : ℕ) (buffer bytes : List ℕ) : Type 0 where
  pub same : take count buffer ≡ take count (drop offset bytes)
  pub end : count ≡ 0 → 0 < length buffer → length bytes ≤ offset

-- part i, if it was fetched, is the `size` bytes from the offset `size * i` on
abbrev pub AreParts : (size : ℕ) (bytes : List ℕ) → List (Option (Vec ℕ Global)) → Type 0
AreParts size bytes parts = (i : ℕ) (none : Option (Vec ℕ Global)) → i < length parts
    → IfSome (slice_index_or parts i none) (λ part. part.items ≡ take size (drop (size * i) bytes))

-- each part that was fetched has `size` bytes
abbrev pub AreFull : (size : ℕ) → List (Option (Vec ℕ Global)) → Type 0
AreFull size parts = (i : ℕ) (none : Option (Vec ℕ Global)) → i < length parts
    → IfSome (slice_index_or parts i none) (λ part. length part.items ≡ size)
