-- A canonical text is shorter than the longest text that is read.
use Rattle.canonical_text.proofs.Imports.{◌≡◌, ℕ, suc, ◌+◌, ◌*◌, ◌<◌, ◌≤◌, ◌^◌, List, [], ◌∷◌, ◌++◌, Bool, true, false, Option, Some, None, length, map, arith, ◌∙◌, length-append, ◌==◌, ℤ, pos, negsuc, find, filter, IfSome, codes, flat_map, decimal, signed_decimal, cond_both, length-map, recursion_from_All, length-decimal-le, has, name_of, operands, InstructionOperand, Register, Amount, Signed, Unsigned, Offset, Place, Registers, Op, is_name, Listing, registers, Descriptor, Marked, Stop, line, commas, listed, spelled, based, register_text, members, place_named, place_text, operand_text, op_text, forward_text, stop_text, marked_text, label_line, code_line, code_lines, task_line, start_line, hexadecimal, word_line, byte_line, data_lines, section, canonical_text, IsHalf, IsOperandInRange, IsInRange}
use Rattle.std.specs.List.{AllByRecursion as All}
use Rattle.task_descriptor.specs.NameFacts.{within_name}
use Rattle.task_descriptor.specs.declared.descriptor.Stop.TheVariants as stop
use Rattle.canonical_text.proofs.Numerals.{length-hexadecimal}
use Rattle.canonical_text.proofs.Operations.{found_passes, members_below}
use Rattle.canonical_text.proofs.Meanings.{is_named, few_operands}
use Rattle.canonical_text.proofs.TextItems.{IsSpellable}

-- Pieces.

length-commas : (most : ℕ) (pieces : List (List ℕ)) → All (λ piece. length piece ≤ most) pieces → length (commas pieces) ≤ (most + 1) * length pieces
length-commas most [] h = omega arith
length-commas most (a ∷ []) h = omega (arith, h.0)
length-commas most (a ∷ b ∷ pieces) h =
    let others = length-commas most (b ∷ pieces) h.1 in
    omega (arith, h.0, others, length-append a (44 ∷ commas (b ∷ pieces)))

length-listed : (most : ℕ) (pieces : List (List ℕ)) → All (λ piece. length piece ≤ most) pieces → length (listed pieces) ≤ 1 + (most + 1) * length pieces
length-listed most [] h = omega arith
length-listed most (a ∷ pieces) h = omega (arith, length-commas most (a ∷ pieces) h)

length-register : (r : ℕ) → r < 34 → length (register_text r) ≤ 3
length-register r below = let h : length (decimal r) ≤ 2 = length-decimal-le 2 r (omega arith) (omega arith) (omega arith) in omega arith

each-mapped : {X : Type 0} (f : X → List ℕ) (P : X → Type 0) (most : ℕ) → ((x : X) → P x → length (f x) ≤ most) → (xs : List X) → All P xs
    → All (λ piece. length piece ≤ most) (map f xs)
each-mapped f P most each [] h = tt
each-mapped f P most each (x ∷ xs) h = (each x h.0, each-mapped f P most each xs h.1)

length-half : (n : ℤ) → IsHalf n → length (signed_decimal n) ≤ 6
length-half (pos n) h = let e : length (decimal n) ≤ 5 = length-decimal-le 5 n (omega arith) (omega arith) (omega arith) in omega arith
length-half (negsuc n) h = let e : length (decimal (suc n)) ≤ 5 = length-decimal-le 5 (suc n) (omega arith) (omega arith) (omega arith) in omega arith

length-number : (n : ℕ) → n < 2 ^ 16 → length (decimal n) ≤ 32
length-number n h = let e : length (decimal n) ≤ 5 = length-decimal-le 5 n (omega arith) (omega arith) (omega arith) in omega arith

length-named : (at : Option Descriptor) (place : ℕ) → IfSome at (λ t. is_name t.name ≡ true) → place ≤ 4096 → length (place_named at place) ≤ 32
length-named (Some t) place named h = within_name t.name named
length-named None place named h = let e : length (decimal place) ≤ 4 = length-decimal-le 4 place (omega arith) (omega arith) (omega arith) in omega arith

length-place : (tasks : List Descriptor) (place : ℕ) → All (λ t. is_name t.name ≡ true) tasks → place ≤ 4096 → length (place_text tasks place) ≤ 32
length-place tasks place named h =
    length-named (find (λ t. t.entry == place) tasks) place (found_passes (λ t. is_name t.name ≡ true) (λ t. t.entry == place) tasks named) h

length-based : (n : ℤ) (base : ℕ) → IsHalf n → base < 32 → length (based n base) ≤ 32
length-based n base half below =
    omega (arith, length-half n half, length-register base (omega arith), length-append (signed_decimal n) (40 ∷ (register_text base ++ 41 ∷ [])), length-append (register_text base) (41 ∷ []))

length-spelled : (most : ℕ) (name : List ℕ) (operands : List (List ℕ)) → is_name name ≡ true → All (λ piece. length piece ≤ most) operands
    → length (spelled name operands) ≤ 33 + (most + 1) * length operands
length-spelled most name [] named h = omega (arith, within_name name named)
length-spelled most name (a ∷ operands) named h =
    omega (arith, within_name name named, length-commas most (a ∷ operands) h, length-append name (32 ∷ commas (a ∷ operands)))

length-filter : {X : Type 0} (test : X → Bool) (xs : List X) → length (filter test xs) ≤ length xs
length-filter test [] = omega arith
length-filter test (x ∷ xs) =
    cond_both (test x) (x ∷ filter test xs) (filter test xs) (λ (kept : List _). length kept ≤ length (x ∷ xs)) (λ _. omega (arith, length-filter test xs)) (λ _. omega (arith, length-filter test xs))

length-members : (set : ℕ) → length (map register_text (members set)) ≤ 34
unfolding members
length-members set = omega (arith, length-map (members set) register_text, length-filter (has set) registers)

-- Lines.

length-operand : (tasks : List Descriptor) (o : InstructionOperand) → All (λ t. is_name t.name ≡ true) tasks → IsOperandInRange o → length (operand_text tasks o) ≤ 136
length-operand tasks (Register r) t h = omega (arith, length-register r (omega arith))
length-operand tasks (Amount n) t h = omega (arith, length-number n (omega arith))
length-operand tasks (Signed n) t h = omega (arith, length-half n h)
length-operand tasks (Unsigned n) t h = omega (arith, length-number n h)
length-operand tasks (Offset n base) t h = omega (arith, length-based n base h.0 h.1)
length-operand tasks (Place place) t h = omega (arith, length-place tasks place t h)
length-operand tasks (Registers set) t h =
    omega (arith, length-members set, length-commas 3 (map register_text (members set)) (each-mapped register_text (λ r. r < 34) 3 length-register (members set) (members_below set)))

length-op : (tasks : List Descriptor) (o : Op) → All (λ t. is_name t.name ≡ true) tasks → IsInRange o → length (op_text tasks o) ≤ 444
length-op tasks o t h =
    let each = each-mapped (operand_text tasks) IsOperandInRange 136 (λ operand h. length-operand tasks operand t h) (operands o) (recursion_from_All IsOperandInRange (operands o) h) in
    omega (
      arith,
      few_operands o,
      length-map (operands o) (operand_text tasks),
      length-spelled 136 (name_of o) (map (operand_text tasks) (operands o)) (is_named o) each,
    )

length-marks : (forward : Bool) (s : Stop) → length (forward_text forward ++ stop_text s) ≤ 7
length-marks false stop.None = omega arith
length-marks false _ = omega arith
length-marks true stop.None = omega arith
length-marks true _ = omega arith

length-line : (text : List ℕ) → length (line text) ≡ length text + 1
length-line text = length-append text (10 ∷ [])

length-label : (at : Option Descriptor) → IfSome at (λ t. is_name t.name ≡ true) → length (label_line at) ≤ 34
length-label None named = omega arith
length-label (Some t) named = omega (arith, within_name t.name named, length-line (t.name ++ 58 ∷ []), length-append t.name (58 ∷ []))

length-code_line : (tasks : List Descriptor) (index : ℕ) (m : Marked) → All (λ t. is_name t.name ≡ true) tasks → IsInRange m.op → length (code_line tasks index m) ≤ 486
length-code_line tasks index m named h =
    let at = find (λ t. t.entry == index) tasks in
    let label = length-label at (found_passes (λ t. is_name t.name ≡ true) (λ t. t.entry == index) tasks named) in
    omega (
      arith,
      label,
      length-op tasks m.op named h,
      length-marks m.forward m.stop,
      length-line (marked_text tasks m),
      length-append (op_text tasks m.op) (forward_text m.forward ++ stop_text m.stop),
      length-append (label_line at) (line (marked_text tasks m)),
    )

length-code : (tasks : List Descriptor) (index : ℕ) (code : List Marked) → All (λ t. is_name t.name ≡ true) tasks → All (λ m. IsInRange m.op) code
    → length (code_lines tasks index code) ≤ 486 * length code
length-code tasks index [] named h = omega arith
length-code tasks index (m ∷ code) named h =
    omega (arith, length-code_line tasks index m named h.0, length-code tasks (index + 1) code named h.1, length-append (code_line tasks index m) (code_lines tasks (index + 1) code))

length-task : (tasks : List Descriptor) (task : Descriptor) → All (λ t. is_name t.name ≡ true) tasks → is_name task.name ≡ true
    → All (λ place. place ≤ 4096) task.targets → length task.targets ≤ 16 → length (task_line tasks task) ≤ 722
length-task tasks task all named within few =
    let create = listed (map register_text (members task.create)) in
    let targets = listed (map (place_text tasks) task.targets) in
    omega (
      arith,
      within_name task.name named,
      length-members task.create,
      length-listed 3 (map register_text (members task.create)) (each-mapped register_text (λ r. r < 34) 3 length-register (members task.create) (members_below task.create)),
      length-listed 32 (map (place_text tasks) task.targets) (each-mapped (place_text tasks) (λ place. place ≤ 4096) 32 (λ place h. length-place tasks place all h) task.targets within),
      length-map task.targets (place_text tasks),
      length-append task.name (codes " create=" ++ (create ++ (codes " targets=" ++ (targets ++ 10 ∷ [])))),
      length-append create (codes " targets=" ++ (targets ++ 10 ∷ [])),
      length-append targets (10 ∷ []),
    )

length-tasks : (tasks others : List Descriptor) → All (λ t. is_name t.name ≡ true) tasks → All (λ t. is_name t.name ≡ true) others
    → All (λ t. All (λ place. place ≤ 4096) t.targets) others → All (λ t. length t.targets ≤ 16) others → length (flat_map (task_line tasks) others) ≤ 722 * length others
length-tasks tasks [] all named within few = omega arith
length-tasks tasks (t ∷ ts) all named within few =
    omega (arith, length-task tasks t all named.0 within.0 few.0, length-tasks tasks ts all named.1 within.1 few.1, length-append (task_line tasks t) (flat_map (task_line tasks) ts))

length-byte : (b : ℕ) → length (byte_line b) ≡ 11
length-byte b = length-line (codes ".byte 0x" ++ hexadecimal 2 b) ∙ omega (arith, length-hexadecimal 2 b)

length-word : (w : ℕ) → length (word_line w) ≡ 17
length-word w = length-line (codes ".word 0x" ++ hexadecimal 8 w) ∙ omega (arith, length-hexadecimal 8 w)

length-bytes : (bytes : List ℕ) → length (flat_map byte_line bytes) ≤ 11 * length bytes
length-bytes [] = omega arith
length-bytes (b ∷ bytes) = omega (arith, length-byte b, length-bytes bytes, length-append (byte_line b) (flat_map byte_line bytes))

length-data : (bytes : List ℕ) → length (data_lines bytes) ≤ 11 * length bytes
length-data [] = omega arith
length-data (a ∷ []) = length-bytes (a ∷ [])
length-data (a ∷ b ∷ []) = length-bytes (a ∷ b ∷ [])
length-data (a ∷ b ∷ c ∷ []) = length-bytes (a ∷ b ∷ c ∷ [])
length-data (a ∷ b ∷ c ∷ d ∷ bytes) =
    let w = a + 256 * (b + 256 * (c + 256 * d)) in
    omega (arith, length-word w, length-data bytes, length-append (word_line w) (data_lines bytes))

length-section : (name bytes : List ℕ) → length name ≤ 7 → length (section name bytes) ≤ 8 + 11 * length bytes
length-section name [] short = omega arith
length-section name (b ∷ bytes) short = omega (arith, length-line name, length-data (b ∷ bytes), length-append (line name) (data_lines (b ∷ bytes)))

length-start : (at : Option Descriptor) → IfSome at (λ t. is_name t.name ≡ true) → length (start_line at) ≤ 40
length-start None named = omega arith
length-start (Some t) named = omega (arith, within_name t.name named, length-line (codes ".start " ++ t.name))

-- The whole text.

pub length-canonical : (p : Listing) → IsSpellable p → length p.code ≤ 4096 → length p.bytes ≤ 65536 → length p.fixed ≤ 65536
    → length p.tasks ≤ 1024 → All (λ t. length t.targets ≤ 16) p.tasks → length (canonical_text p) ≤ 4194304
length-canonical p h code bytes fixed tasks targets =
    let start = start_line (find (λ t. t.entry == p.start) p.tasks) in
    let listed = flat_map (task_line p.tasks) p.tasks in
    let lines = code_lines p.tasks 0 p.code in
    let first = section (codes ".data") p.bytes in
    let second = section (codes ".rodata") p.fixed in
    omega (
      arith,
      length-start (find (λ t. t.entry == p.start) p.tasks) (found_passes (λ t. is_name t.name ≡ true) (λ t. t.entry == p.start) p.tasks h.names),
      length-tasks p.tasks p.tasks h.names h.names h.targets targets,
      length-code p.tasks 0 p.code h.names h.code,
      length-section (codes ".data") p.bytes (omega arith),
      length-section (codes ".rodata") p.fixed (omega arith),
      length-append start (listed ++ (lines ++ (first ++ second))),
      length-append listed (lines ++ (first ++ second)),
      length-append lines (first ++ second),
      length-append first second,
    )
