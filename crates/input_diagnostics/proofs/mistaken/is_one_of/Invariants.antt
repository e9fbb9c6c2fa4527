-- The word is sought among those that are left.
use Rattle.std.proofs.Common.{◌≡◌, drop, map}
use Rattle.std.specs.List.{list_any}
use Rattle.std.specs.Str.{bytes_eq}
use Rattle.input_diagnostics.proofs.mistaken.is_one_of.Given as goal

abbrev pub invariant-loop-other : goal.invariant-loop-other
invariant-loop-other l =
    list_any (bytes_eq l.word) (map (λ other. other.now) (drop l.other-index l.words))
    ≡ list_any (bytes_eq l.word) (map (λ other. other.now) l.words)
