-- The walk over the rows of a text, a row at a time.
use Rattle.std.proofs.Common.{◌≡◌, ℕ, suc, ◌+◌, ◌<◌, ◌≤◌, List, length, drop, map, get_or, Result, Ok, Err, refl, sym, ◌∙◌, add-one}
use Rattle.survey_text.proofs.ListFacts.{mapped_at, mapped_past}
use Rattle.survey_text.specs.declared.trouble.Cause.{Cause}
use Rattle.survey_text.specs.declared.trouble.Trouble.{Trouble}
use Rattle.survey_text.specs.Fields.{Row}
use Rattle.survey_text.specs.Texts.{NamedContents, Progress, turn_of, trouble_of, walk}

-- the rows from one on, where each is what `f` reads of it
module _ {X : Type 0} (f : X → Row) where
  -- a row with a trouble ends the walk
  pub walk_stops : (text : List ℕ) (xs : List X) (k : ℕ) (s : Progress) (x : X) (e : Cause) (whole : Result NamedContents Trouble) → k < length xs → x ≡ get_or xs k x
      → turn_of s (f x) ≡ Err e → walk text k s (drop k (map f xs)) ≡ whole → whole ≡ Err (trouble_of text k (f x) e)
  walk_stops text xs k s x e whole h is bad all =
      let here = mapped_at f xs k x h is in
      sym all ∙ rw (here, bad) refl

  -- another one leads on
  pub walk_goes : (text : List ℕ) (xs : List X) (k : ℕ) (s t : Progress) (x : X) (whole : Result NamedContents Trouble) → k < length xs → x ≡ get_or xs k x
      → turn_of s (f x) ≡ Ok t → walk text k s (drop k (map f xs)) ≡ whole → walk text (k + 1) t (drop (k + 1) (map f xs)) ≡ whole
  walk_goes text xs k s t x whole h is good all =
      let here = mapped_at f xs k x h is in
      let step : walk text k s (drop k (map f xs)) ≡ walk text (suc k) t (drop (suc k) (map f xs)) = rw (here, good) refl in
      rw add-one (sym step ∙ all)

  pub walk_ends : (text : List ℕ) (xs : List X) (k : ℕ) (s : Progress) (whole : Result NamedContents Trouble) → length xs ≤ k
      → walk text k s (drop k (map f xs)) ≡ whole → whole ≡ Ok s.so_far
  walk_ends text xs k s whole h all =
      let none = mapped_past f xs k h in
      sym all ∙ rw none refl
