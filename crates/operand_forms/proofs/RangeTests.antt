-- What a reader of a number tests is the range that is named.
use Rattle.std.proofs.Common.{◌≡◌, ℕ, suc, ◌^◌, ◌-◌, Bool, true, false, Option, Some, None, Result, Ok, Err, refl, ap, ◌∙◌, sym, leb}
use Rattle.std.specs.Prelude.{pos, negsuc, not, ◌&&◌, ◌||◌, nat_lt, nat_le, if◌then◌else◌}
use lib.Dec.{leb-zero, leb-suc-suc}
use Rattle.program_tokens.specs.declared.token.Number.{Number}
use Rattle.program_tokens.specs.declared.token.Number.TheVariants.{Small, Large}
use Rattle.program_statements.specs.Steps.{◌>>=◌}
use Rattle.program_statements.specs.Ranges.{natural, signed_half, word, byte}
use Rattle.program_statements.specs.declared.fault.StatementFault.{StatementFault}
use Rattle.program_statements.specs.declared.fault.StatementFault.TheVariants as fault
use Rattle.operand_forms.specs.Shapes.{range}
use Rattle.operand_forms.specs.Meant.{is_within}
use Rattle.operand_forms.specs.OperandForms.{fault_of, judged}

-- a number that is not within is refused for it
abbrev pub number_fault : (within : Bool) → Option StatementFault
number_fault within = if within then None else Some fault.Number

-- what comes after a value that was read finds no fault
pub carried : {A B : Type 0} (r : Result A StatementFault) (f : A → B) → fault_of (r >>= λ x. Ok (f x)) ≡ fault_of r
carried (Ok x) f = refl
carried (Err e) f = refl

tested : {A : Type 0} (test within : Bool) (x : A) → test ≡ within → fault_of (if test then Ok x else Err fault.Number) ≡ number_fault within
tested true within x e = ap number_fault e
tested false within x e = ap number_fault e

and_true : (x : Bool) → x ≡ (x && true)
and_true true = refl
and_true false = refl

pub natural_fault : (highest : ℕ) (n : Number) → fault_of (natural highest n) ≡ number_fault (is_within (range (pos 0) (pos highest)) n)
natural_fault highest Large = refl
natural_fault highest (Small (pos n)) = tested (nat_le n highest) (leb 0 n && nat_le n highest) n (sym (ap (λ low. low && nat_le n highest) (leb-zero n)))
natural_fault highest (Small (negsuc n)) = refl

pub half_fault : (n : Number) → fault_of (signed_half n) ≡ number_fault (is_within (range (negsuc 32767) (pos 32767)) n)
half_fault Large = refl
half_fault (Small (pos n)) = tested (nat_lt n (2 ^ 15)) (nat_le n 32767) (pos n) (leb-suc-suc n 32767)
half_fault (Small (negsuc n)) = tested (nat_lt n (2 ^ 15)) (nat_le n 32767 && true) (negsuc n) (leb-suc-suc n 32767 ∙ and_true (nat_le n 32767))

pub word_fault : (n : Number) → fault_of (word n) ≡ number_fault (is_within (range (negsuc 2147483647) (pos 4294967295)) n)
word_fault Large = refl
word_fault (Small (pos n)) = tested (nat_lt n (2 ^ 32)) (nat_le n 4294967295) n (leb-suc-suc n 4294967295)
word_fault (Small (negsuc n)) = tested (nat_lt n (2 ^ 31)) (nat_le n 2147483647 && true) (2 ^ 32 - suc n) (leb-suc-suc n 2147483647 ∙ and_true (nat_le n 2147483647))

-- where one number is tested
pub one_number : (within : Bool) → number_fault within ≡ judged true (not within || false)
one_number true = refl
one_number false = refl

pub byte_fault : (n : Number) → fault_of (byte n) ≡ number_fault (is_within (range (negsuc 127) (pos 255)) n)
byte_fault Large = refl
byte_fault (Small (pos n)) = tested (nat_lt n (2 ^ 8)) (nat_le n 255) n (leb-suc-suc n 255)
byte_fault (Small (negsuc n)) = tested (nat_lt n (2 ^ 7)) (nat_le n 127 && true) (2 ^ 8 - suc n) (leb-suc-suc n 127 ∙ and_true (nat_le n 127))

-- where a number is tested, and then others
pub both_fault : {A B C : Type 0} (first : Result A StatementFault) (others : Result B StatementFault) (f : A → B → C) (within beyond : Bool)
    → fault_of first ≡ number_fault within → fault_of others ≡ judged true beyond
    → fault_of (first >>= λ x. others >>= λ y. Ok (f x y)) ≡ judged true (not within || beyond)
both_fault (Ok x) others f true beyond a b = carried others (f x) ∙ b
both_fault (Ok x) others f false beyond a b = absurd cc
both_fault (Err e) others f true beyond a b = absurd cc
both_fault (Err e) others f false beyond a b = a
