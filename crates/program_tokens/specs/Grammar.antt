-- The tokens of a line of a program text (in the manner of the MIPS assemblers): the longest
-- is taken, from left to right.
use Rattle.std.specs.Prelude.{ℕ, zero, suc, List, [], ◌∷◌, Option, Some, None, Result, Ok, Err, Bool, false, length, drop, slice_index, codes, if◌then◌else◌, ◌==◌, ◌&&◌, ◌||◌, take_while}
use Rattle.std.specs.List.{list_all}
use Rattle.std.specs.Option.{option_map}
use Rattle.std.specs.Str.{bytes_eq, byte}
use Rattle.std.specs.Str.Lines.{strip_carriage_return}
use Rattle.std.specs.Char.{is_ascii_digit, is_ascii_alphabetic, is_ascii_alphanumeric, is_ascii_lowercase}
use Rattle.std.specs.Int.{is_in_range}
use Rattle.task_descriptor.specs.Names.{is_name}
use Rattle.program_tokens.specs.Numbers.{begins_with_digit, number_in, positive, number_of}
use Rattle.program_tokens.specs.Registers.{register_of}
use Rattle.program_tokens.specs.declared.token.Token.{Token}
use Rattle.program_tokens.specs.declared.token.Token.TheVariants as token
use Rattle.program_tokens.specs.declared.token.Directive.{Directive}
use Rattle.program_tokens.specs.declared.token.Directive.TheVariants as directive
use Rattle.program_tokens.specs.declared.token.Mark.{Mark}
use Rattle.program_tokens.specs.declared.token.Mark.TheVariants as mark
use Rattle.program_tokens.specs.declared.kind.Kind.{Kind}
use Rattle.program_tokens.specs.declared.kind.Kind.TheVariants as kind
use Rattle.program_tokens.specs.declared.token.LineFault.{LineFault}
use Rattle.program_tokens.specs.declared.token.LineFault.TheVariants as fault

-- Classes of bytes.

-- what a line may have: printable ASCII and the tab (9)
abbrev pub is_text_byte : ℕ → Bool
is_text_byte b = is_in_range 0x20 0x7E b || b == 9

-- what separates tokens: the space and the tab
abbrev pub is_blank : ℕ → Bool
is_blank b = b == byte " " || b == 9

abbrev pub is_name_start : ℕ → Bool
is_name_start b = is_ascii_alphabetic b || b == byte "_"

abbrev pub is_name_byte : ℕ → Bool
is_name_byte b = is_ascii_alphanumeric b || b == byte "_"

-- a `-` directly before a digit begins a number
abbrev pub begins_number : ℕ → List ℕ → Bool
begins_number b after = is_ascii_digit b || (b == byte "-" && begins_with_digit after)

-- The kind of token that begins with this byte, before these.
unfoldable pub kind_of : ℕ → List ℕ → Kind
kind_of b after =
    if is_name_start b then kind.Name
    else (if begins_number b after then kind.Number
    else (if b == byte "$" then kind.Register
    else (if b == byte "@" then kind.Index
    else (if b == byte "." then kind.Directive
    else (if b == byte "!" then kind.Mark
    else kind.Sign)))))

-- The bytes with which each kind continues, as far as they reach.
abbrev pub goes_on : Kind → ℕ → Bool
goes_on kind.Name b = is_name_byte b
goes_on kind.Register b = is_name_byte b
goes_on kind.Number b = is_ascii_alphanumeric b
goes_on kind.Index b = is_ascii_alphanumeric b
goes_on kind.Directive b = is_ascii_lowercase b
goes_on kind.Mark b = is_ascii_lowercase b
goes_on kind.Sign b = false

-- The letters of a directive and of a mark, at least one.
abbrev pub directive_of : List ℕ → Directive
directive_of word =
    if bytes_eq word (codes "start") then directive.Start
    else (if bytes_eq word (codes "task") then directive.Task
    else (if bytes_eq word (codes "text") then directive.Text
    else (if bytes_eq word (codes "data") then directive.Data
    else (if bytes_eq word (codes "rodata") then directive.Rodata
    else (if bytes_eq word (codes "word") then directive.Word
    else (if bytes_eq word (codes "byte") then directive.Byte
    else (if bytes_eq word (codes "space") then directive.Space
    else directive.Unknown)))))))

abbrev pub mark_of : List ℕ → Mark
mark_of word =
    if bytes_eq word (codes "f") then mark.Forward
    else (if bytes_eq word (codes "s") then mark.Always
    else (if bytes_eq word (codes "st") then mark.Taken
    else (if bytes_eq word (codes "sn") then mark.NotTaken
    else mark.Unknown)))

abbrev pub sign_of : ℕ → Option Token
sign_of b =
    if b == byte "," then Some token.Comma
    else (if b == byte "(" then Some token.Open
    else (if b == byte ")" then Some token.Close
    else (if b == byte ":" then Some token.Colon
    else (if b == byte "=" then Some token.Equals
    else (if b == byte "-" then Some token.Minus
    else None)))))

-- The token that these bytes spell, if they spell one of this kind: a rule for each kind.
unfoldable pub token_of : Kind → List ℕ → Option Token
token_of kind.Name text = if is_name text then Some (token.Name text) else None
token_of kind.Register text = option_map token.Register (register_of (drop 1 text))
token_of kind.Number text = option_map token.Number (number_of text)
token_of kind.Index text = option_map (λ n. token.Index (positive n)) (number_in 10 (drop 1 text))
token_of kind.Directive text =
    if length text == 1 then None else Some (token.Directive (directive_of (drop 1 text)))
token_of kind.Mark text =
    if length text == 1 then None else Some (token.Mark (mark_of (drop 1 text)))
token_of kind.Sign text = sign_of (slice_index text 0)

-- A token before the tokens of what follows it; what is no token makes the line faulty.
abbrev pub with_token : Option Token → Result (List Token) LineFault → Result (List Token) LineFault
with_token None after = Err fault.Token
with_token (Some first) (Err fault) = Err fault
with_token (Some first) (Ok others) = Ok (first ∷ others)

-- The tokens of a text after its first `taken` bytes, which belong to a token before them: blanks are
-- passed over, a `#` ends the text, and each token takes as many bytes as its kind continues with.
unfoldable pub tokens_after : ℕ → List ℕ → Result (List Token) LineFault
tokens_after taken [] = Ok []
tokens_after (suc taken) (b ∷ bs) = tokens_after taken bs
tokens_after zero (b ∷ bs) =
    if is_blank b then tokens_after 0 bs
    else (if b == byte "#" then Ok []
    else (let others = take_while (goes_on (kind_of b bs)) bs in
    with_token (token_of (kind_of b bs) (b ∷ others)) (tokens_after (length others) bs)))

-- The tokens of a line; the CR before its LF, or at the text's end, is no part of it.
unfoldable pub line_tokens : List ℕ → Result (List Token) LineFault
line_tokens line =
    let text = strip_carriage_return line in
    if list_all is_text_byte text then tokens_after 0 text else Err fault.NotAscii
