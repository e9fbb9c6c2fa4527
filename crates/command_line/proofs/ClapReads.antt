-- What `clap` reads as a number is what the definition says, by cases over what it read.
use Rattle.std.proofs.Common.{◌≡◌, refl, ℕ, ◌<◌, Bool, true, false, cond, List, Option, Some, None, Ok, Err, arith, option_and_then}
use Rattle.std.specs.Prelude.{◌^◌, Result}
use Rattle.std.specs.Str.Parse.{ParsesUnsigned, digits_value, without_leading_plus}
use Rattle.clap.specs.Values.{Accepts}
use Rattle.clap.specs.Matches.{ReadsOne}
use Rattle.clap.specs.Walk.{Text}
use Rattle.clap.specs.ValueTests.{is_unsigned_in}
use Rattle.clap.specs.declared.builder.value_parser.ValueParser.TheVariants as vp
use Rattle.clap.proofs.ValueTestLemmas.{Accepts-accepts, accepts-Accepts}
use Rattle.command_line.specs.Asked.{number_of}

-- a text that `parse` read at 32 bits
reads_some : (E : Type 0) (text : Text) (v : ℕ) → ParsesUnsigned {E = E} 32 10 text (Ok v) → Some v ≡ number_of text
reads_some E text v h =
    let small : digits_value 10 (without_leading_plus text) < 2 ^ 32 = h.0.1 in
    let test : is_unsigned_in 0 4294967295 text ≡ true =
    Accepts-accepts false (vp.Unsigned 0 4294967295) text (h.0.0, omega arith, omega arith, omega arith) in
    rw (test, h.1) refl

-- and one that it did not
reads_none : (E : Type 0) (text : Text) (e : E) → ParsesUnsigned {E = E} 32 10 text (Err e) → None ≡ number_of text
reads_none E text e h = go (is_unsigned_in 0 4294967295 text) refl
  where
    go : (b : Bool) → is_unsigned_in 0 4294967295 text ≡ b →
        None ≡ cond b (Some (digits_value 10 (without_leading_plus text))) None
    go false is = refl
    go true is =
        let passed : Accepts false (vp.Unsigned 0 4294967295) text = accepts-Accepts false (vp.Unsigned 0 4294967295) text is in
        absurd (h (passed.0, omega (arith, passed.3)))

-- what `get_one` answers, by the text that it reads
pub reads_number : (E : Type 0) (G : List ℕ → Result ℕ E → Type 0) (o : Option Text) (r : Option ℕ) →
    ((t : Text) (x : Result ℕ E) → G t x → ParsesUnsigned 32 10 t x) →
    (o ≡ None → r ≡ None) → ((t : Text) → o ≡ Some t → ReadsOne G t r) → r ≡ option_and_then number_of o
reads_number E G None r parses none some = none refl
reads_number E G (Some t) (Some v) parses none some = reads_some E t v (parses t (Ok v) (some t refl))
reads_number E G (Some t) None parses none some =
    let h = some t refl in
    reads_none E t h.0 (parses t (Err h.0) h.1)
