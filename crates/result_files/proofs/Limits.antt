-- The number that a word writes is read from it.
use Rattle.std.proofs.Common.{◌≡◌, ◌<◌, ◌^◌, ℕ, List, Result, Ok}
use Rattle.std.specs.Fmt.{decimal}
use Rattle.std.specs.Str.Parse.{ParsesUnsigned}
use Rattle.std.proofs.lemmas.Fmt.{parse-decimal}

pub read_back : {E : Type 0} (limit : ℕ) (word : List ℕ) (read : Result ℕ E) → limit < 2 ^ 64 → word ≡ decimal limit
    → ParsesUnsigned 64 10 word read → read ≡ Ok limit
read_back limit word read small written parsed = parse-decimal 64 limit word read small small written parsed
