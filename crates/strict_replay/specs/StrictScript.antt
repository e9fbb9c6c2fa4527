-- A script for a strict replay: the lines of an event script, each perhaps with what its event must have
-- done after a colon (`exec 1 : $9=7, $10=8`), and beside them comments from `#` on, blank lines, and lines such as
-- `step 3`, which mark where a step of the hardware begins. Spaces at the ends of a part do not count.
use Rattle.std.specs.Prelude.{ℕ, zero, suc, ◌+◌, ◌-◌, ◌^◌, Bool, ◌&&◌, ◌||◌, List, [], ◌∷◌, length, map, take, drop, position, slice_index, Option, None, Some, nat_lt, nat_eq, ◌==◌, if◌then◌else◌, codes}
use Rattle.std.specs.List.{find, list_all, slice_split, starts_with}
use Rattle.std.specs.Option.{option_and_then, option_map, option_map_or, option_or}
use Rattle.std.specs.Str.{bytes_eq}
use Rattle.std.specs.Char.{is_ascii_digit}
use Rattle.program_tokens.specs.Numbers.{magnitude_of}
use Rattle.event_script.specs.EventScript.{in_front_of, register_in}
use Rattle.mips_plain.specs.TrapText.{trap_text}
use Rattle.mips_plain.specs.declared.outcome.Trap.{Trap}
use Rattle.mips_plain.specs.declared.outcome.Trap.TheVariants.{Unaligned, OutOfRange, BadPc, ReadOnly}
use Rattle.machine_model.specs.declared.event.Standing.{Standing}
use Rattle.machine_model.specs.declared.event.Standing.TheVariants.{Running, Halted, Trapped, Unlisted}
use Rattle.strict_replay.specs.declared.expectation.ExpectedRefusal.{ExpectedRefusal}
use Rattle.strict_replay.specs.declared.expectation.Expectation.{Expectation}
use Rattle.strict_replay.specs.declared.expectation.Expectation.TheVariants.{Register, Sends, Memory, Output, Stops, Ends}

-- ---- parts of a line

abbrev pub without_first_spaces : List ℕ → List ℕ
without_first_spaces [] = []
without_first_spaces (b ∷ bs) = if b == 32 then without_first_spaces bs else b ∷ bs

-- how many of the first bytes of a text are left without the spaces at their end
abbrev pub length_without_spaces : (first : ℕ) → (text : List ℕ) → ℕ
length_without_spaces zero text = 0
length_without_spaces (suc k) text = if slice_index text k == 32 then length_without_spaces k text else suc k

abbrev pub without_last_spaces : List ℕ → List ℕ
without_last_spaces text = take (length_without_spaces (length text) text) text

abbrev pub trimmed : List ℕ → List ℕ
trimmed text = without_last_spaces (without_first_spaces text)

-- a line before its comment
abbrev pub content : List ℕ → List ℕ
content line = trimmed (in_front_of (position (λ b. b == 35) line) line)

-- nothing, or a mark of a step: `step` and a number
abbrev pub is_silent : (content : List ℕ) → Bool
is_silent content = length content == 0
    || (starts_with nat_eq content (codes "step ") && list_all is_ascii_digit (without_first_spaces (drop 5 content)))

-- the event of a line, and the parts after the colon, one for each expectation
abbrev pub event_text : (content : List ℕ) → List ℕ
event_text content = without_last_spaces (in_front_of (position (λ b. b == 58) content) content)

abbrev pub expected_parts : (content : List ℕ) → List (List ℕ)
expected_parts content = option_map_or (λ k. map trimmed (slice_split (λ b. b == 44) (drop (k + 1) content))) (position (λ b. b == 58) content) []

-- ---- an expectation

-- what stands after the colon, whole
abbrev pub behind_colon : (content : List ℕ) → List ℕ
behind_colon content = option_map_or (λ k. trimmed (drop (k + 1) content)) (position (λ b. b == 58) content) []

-- the event is expected to be refused, which stands alone after the colon
abbrev pub expects_refusal : (content : List ℕ) → Bool
expects_refusal content = starts_with nat_eq (behind_colon content) (codes "refused ")

-- a word: `0x` and hexadecimal digits, or decimal digits
abbrev pub word_in : List ℕ → Option ℕ
word_in text = option_and_then (λ n. if nat_lt n (2 ^ 32) then Some n else None) (magnitude_of text)

-- `refused K`, by the number of the reason, or `refused K $R`, with the register that is waited for
abbrev pub refusal_by_number : (words : List ℕ) → Option ExpectedRefusal
refusal_by_number words = option_map (λ number. record { number = number; register = None }) (word_in words)

abbrev pub refusal_by_register : (words behind : List ℕ) → Option ExpectedRefusal
refusal_by_register words behind = option_and_then (λ number. option_map (λ r. record { number = number; register = Some r }) (register_in (without_first_spaces behind))) (word_in words)

abbrev pub refusal_words_in : (words : List ℕ) → Option ExpectedRefusal
refusal_words_in words = option_map_or (λ k. refusal_by_register (take k words) (drop k words)) (position (λ b. b == 32) words) (refusal_by_number words)

abbrev pub refusal_in : (content : List ℕ) → Option ExpectedRefusal
refusal_in content = refusal_words_in (without_first_spaces (drop 8 (behind_colon content)))

-- how a run ends: `halted`, `trapped K Name` or `unlisted A`; `running` is how none ends
abbrev pub trap_in : List ℕ → Option Trap
trap_in text = find (λ trap. bytes_eq text (trap_text trap)) (Unaligned ∷ OutOfRange ∷ BadPc ∷ ReadOnly ∷ [])

abbrev pub cut_in : List ℕ → Option Standing
cut_in text =
    if starts_with nat_eq text (codes "trapped ") then option_map Trapped (trap_in (without_first_spaces (drop 8 text)))
    else (if starts_with nat_eq text (codes "unlisted ") then option_map Unlisted (word_in (without_first_spaces (drop 9 text)))
    else None)

abbrev pub standing_in : List ℕ → Option Standing
standing_in text =
    if bytes_eq text (codes "running") then Some Running
    else (if bytes_eq text (codes "halted") then Some Halted
    else cut_in text)

-- a word that was loaded from an address, stored there, or brought to a register: `[A]` or `$R`
abbrev pub address_in : (name : List ℕ) → Option ℕ
address_in name =
    if nat_lt 1 (length name) && (slice_index name 0 == 91 && slice_index name (length name - 1) == 93)
    then word_in (take (length name - 2) (drop 1 name))
    else None

abbrev pub at_place : (name : List ℕ) → (word : ℕ) → Option Expectation
at_place name word = option_or (option_map (λ address. Memory address word) (address_in name)) (option_map (λ r. Register r word) (register_in name))

-- a register that was sent: what stands behind `sends`
abbrev pub sending_in : (behind : List ℕ) → (word : ℕ) → Option Expectation
sending_in behind word = option_map (λ r. Sends r word) (register_in (without_first_spaces behind))

-- `out=W`, `sends $R=W`, or a place
abbrev pub expectation_of : (name : List ℕ) → (word : ℕ) → Option Expectation
expectation_of name word =
    if bytes_eq name (codes "out") then Some (Output word)
    else (if starts_with nat_eq name (codes "sends ") then sending_in (drop 6 name) word
    else at_place name word)

abbrev pub equation_in : (part : List ℕ) → Option Expectation
equation_in part = option_and_then (λ k. option_and_then (expectation_of (trimmed (take k part))) (word_in (trimmed (drop (k + 1) part)))) (position (λ b. b == 61) part)

-- one of these, `stops A`, or `ends` and how
abbrev pub expectation_in : (part : List ℕ) → Option Expectation
expectation_in part =
    if starts_with nat_eq part (codes "stops ") then option_map Stops (word_in (without_first_spaces (drop 6 part)))
    else (if starts_with nat_eq part (codes "ends ") then option_map Ends (standing_in (without_first_spaces (drop 5 part)))
    else equation_in part)
