-- What was read of the words decides what is asked, whatever is known of them.
use Rattle.std.proofs.Common.{◌≡◌, ap, refl, subst, sym, inl, inr, map, [], List}
use Rattle.std.specs.Prelude.{Result, Ok, Err}
use Rattle.std.specs.String.{string_bytes}
use Rattle.std.specs.declared.alloc.Global.{Global}
use Rattle.std.specs.declared.string.String.{String}
use Rattle.std.specs.declared.vec.Vec.{Vec}
use Rattle.clap.specs.Words.{Text}
use Rattle.command_line.specs.declared.request.Request.{Request}
use Rattle.command_line.specs.declared.words.UsageFault.TheVariants as usage
use Rattle.program_edge.specs.declared.fault.Fault.{Fault}
use Rattle.program_edge.specs.declared.fault.Fault.TheVariants.{OutOfMemory}
use Rattle.program_edge.specs.Asking.{AreWordsOf, IsAskedBy, IsAskedOf, KnownWords, AnyWords, NotAllTexts, Are}

-- memory may run out whatever the words are
out_of_memory : (words : List Text) → IsAskedBy words (Err OutOfMemory)
out_of_memory words = record { fault = usage.OutOfMemory; theirs = tt; told_so = refl }

pub unread : (known : KnownWords) (got : Result (Vec (String Global) Global) Fault) (fault : Fault) → got ≡ Err fault → AreWordsOf known got
    → IsAskedOf known (Err fault)
unread known got fault is h = go known (subst (AreWordsOf known) is h)
  where
    go : (known : KnownWords) → AreWordsOf known (Err fault) → IsAskedOf known (Err fault)
    go AnyWords (inl e) = inl (ap (λ f. Err f) e)
    go AnyWords (inr e) = inr ([], subst (λ f. IsAskedBy [] (Err f)) (sym e) (out_of_memory []))
    go NotAllTexts (inl e) = inl (ap (λ f. Err f) e)
    go NotAllTexts (inr e) = inr (ap (λ f. Err f) e)
    go (Are words) e = subst (λ f. IsAskedBy words (Err f)) (sym e) (out_of_memory words)

pub read : (known : KnownWords) (got : Result (Vec (String Global) Global) Fault) (words : Vec (String Global) Global) (asked : Result Request Fault)
    → got ≡ Ok words → AreWordsOf known got → IsAskedBy (map string_bytes words.items) asked → IsAskedOf known asked
read known got words asked is h by = go known (subst (AreWordsOf known) is h)
  where
    go : (known : KnownWords) → AreWordsOf known (Ok words) → IsAskedOf known asked
    go AnyWords any = inr (map string_bytes words.items, by)
    go NotAllTexts none = absurd none
    go (Are ws) same = subst (λ l. IsAskedBy l asked) same by
