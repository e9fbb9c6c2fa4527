-- What is seen is what the plain machine reads, by the invariant of the headline, and the head has its registers, by
-- the headline; so nothing is shown.
use Rattle.demonstration.proofs.Imports.{◌≡◌, ◌<◌, ◌≤◌, ℕ, suc, ◌+◌, List, [], ◌∷◌, length, slice_get, Some, refl, sym, ap, ◌∙◌, subst, length-append, Read, Listing, input, Sound, Claims, by_head, count_h, plain_of, reads_of, Active, State, value, every_replay_good, Harm, DoesHarm, NamesItsPlace, read_by_head, seen}
use Rattle.demonstration.specs.declared.judge.Harm.TheVariants as harm
use Rattle.demonstration.specs.Laws.{ShowsNothing}
use Rattle.demonstration.proofs.PlainReads.{get_below, read_early}
use Rattle.demonstration.proofs.SeenReads.{SeenRight, every_replay_seen}

head_count : (us : List Active) → length (read_by_head us) ≡ by_head us
head_count [] = refl
head_count (u ∷ us) = refl

seen_count : (p : Listing) (s : State) → Claims p s → length (seen s) ≡ count_h s
seen_count p s claims =
    length-append s.reads (read_by_head s.queue)
    ∙ (λ j. claims.number j + head_count s.queue j)

module _ (p : Listing) (s : State) (claims : Claims p s) (right : SeenRight p s) where
  no_stale_read : (stale : _) → DoesHarm p s (harm.Stale stale) → ⊥
  no_stale_read stale h =
      let n = count_h s in
      let number = stale.number in
      let below : number < n = subst (λ (k : ℕ). number < k) (seen_count p s claims) (get_below (seen s) number stale.read h.is_read) in
      let full : length (reads_of p n) ≡ n = ap (λ (xs : List Read). length xs) (sym right.reads) ∙ seen_count p s claims in
      let same : slice_get (reads_of p (suc number)) number ≡ Some stale.read =
      read_early (input p) n number below full ∙ ap (λ (xs : List Read). slice_get xs number) (sym right.reads) ∙ h.is_read in
      h.differs (sym h.is_right ∙ same)

  not_cut_off : (cut : _) → DoesHarm p s (harm.CutOff cut) → ⊥
  not_cut_off cut h =
      let c = h.1 in
      right.unlisted cut.at c.ends c.count c.last c.is_last c.is_read (subst (NamesItsPlace p) (sym c.is_from) c.names)

  no_stale_word : (held : _) → DoesHarm p s (harm.Held held) → ⊥
  no_stale_word held h =
      let w = h.2 in
      let is : value w.head held.register ≡ Some ((plain_of p (length (seen s))).regs held.register) =
      claims.head w.head w.is_head held.register ∙ ap (λ (n : ℕ). Some ((plain_of p n).regs held.register)) (sym (seen_count p s claims)) in
      let same : Some held.word ≡ Some ((plain_of p (length (seen s))).regs held.register) = sym w.has_word ∙ is in
      let word : held.word ≡ (plain_of p (length (seen s))).regs held.register = cc in
      w.differs (word ∙ w.is_right)

  no_harm : (it : Harm) → DoesHarm p s it → ⊥
  no_harm (harm.Stale stale) h = no_stale_read stale h
  no_harm (harm.CutOff cut) h = not_cut_off cut h
  no_harm (harm.Held held) h = no_stale_word held h

pub nothing_shown : (p : Listing) → length p.code ≤ 4096 → Sound p → ShowsNothing p
nothing_shown p fits sound = λ units events it shown.
    let s = shown.after in
    no_harm p s (every_replay_good p fits sound units events s shown.allowed).claims
    (every_replay_seen p fits sound units events s shown.allowed) it.harm shown.shows.0
