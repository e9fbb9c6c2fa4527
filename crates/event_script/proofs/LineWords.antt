-- The words of a line: a name stands among the names where its task stands, and four words are too many.
use Rattle.std.proofs.Common.{◌≡◌, ℕ, ◌+◌, cond, not, ltb, List, [], ◌∷◌, length, Option, Some, None, Err, refl, sym, ◌∙◌, ap}
use Rattle.std.specs.List.{slice_split, position, position_or_len}
use Rattle.std.specs.Str.{bytes_eq}
use Rattle.std.proofs.lemmas.List.{length-map}
use Rattle.task_descriptor.specs.declared.descriptor.Descriptor.{Descriptor}
use Rattle.event_script.specs.declared.fault.EventFault.TheVariants.{NoEvent}
use Rattle.event_script.specs.EventScript.{is_space, misfit, operand_count, event_of, event_in, names_in}
use Rattle.text_pieces.proofs.Splits.{split_cons}

place_named : (name : List ℕ) (tasks : List Descriptor) → position_or_len (λ other. bytes_eq other name) (names_in tasks) ≡ position_or_len (λ task. bytes_eq task.name name) tasks
place_named name [] = refl
place_named name (t ∷ ts) = ap (λ n. cond (not (bytes_eq t.name name)) (1 + n) 0) (place_named name ts)

pub position_named : (name : List ℕ) (tasks : List Descriptor) → position (λ other. bytes_eq other name) (names_in tasks) ≡ position (λ task. bytes_eq task.name name) tasks
position_named name tasks =
    let at = λ (n : ℕ). λ (long : ℕ). cond {A = Option ℕ} (ltb n long) (Some n) None in
    ap (λ (n : ℕ). at n (length (names_in tasks))) (place_named name tasks) ∙ ap (at (position_or_len (λ task. bytes_eq task.name name) tasks)) (length-map tasks (λ (task : Descriptor). task.name))

-- three words, and more after them
pub four_words : (names : List (List ℕ)) (line verb operands first second third rest : List ℕ)
    → slice_split is_space line ≡ verb ∷ slice_split is_space operands
    → slice_split is_space operands ≡ first ∷ slice_split is_space second
    → slice_split is_space second ≡ third ∷ slice_split is_space rest
    → Err (misfit (operand_count verb) 3 NoEvent) ≡ event_in names line
four_words names line verb operands first second third rest one two three =
    let more = split_cons is_space rest in
    let from_third : slice_split is_space second ≡ third ∷ (more.0 ∷ more.1) = three ∙ ap (λ (ws : List (List ℕ)). third ∷ ws) more.2 in
    let from_second : slice_split is_space operands ≡ first ∷ (third ∷ (more.0 ∷ more.1)) = two ∙ ap (λ (ws : List (List ℕ)). first ∷ ws) from_third in
    sym (ap (event_of names) (one ∙ ap (λ (ws : List (List ℕ)). verb ∷ ws) from_second))
