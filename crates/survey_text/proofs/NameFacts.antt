-- Facts about names: the step from one to the next.
use Rattle.std.proofs.Common.{◌≡◌, ℕ, suc, ◌+◌, ◌<◌, ◌≤◌, Bool, true, false, List, [], ◌∷◌, length, drop, map, get_or, Some, refl, sym, ap, ◌∙◌, bytes_eq, add-one, append_assoc, decimal, Ok, Err, ◌++◌, ◌-◌, take, arith}
use Rattle.std.proofs.lemmas.List.{append-nil}
use Rattle.survey_text.proofs.ListFacts.{mapped_at, mapped_more}
use Rattle.survey_text.specs.Names.{place_named, name_of, are_names, number_names}
use Rattle.survey_text.specs.declared.trouble.Cause.{Cause}

-- the names from one on, where each is what `f` reads of it
module _ {X : Type 0} (f : X → List ℕ) where
  pub named_found : (xs : List X) (i : ℕ) (x : X) (w : List ℕ) → i < length xs → x ≡ get_or xs i x → true ≡ bytes_eq (f x) w
      → place_named i (drop i (map f xs)) w ≡ place_named 0 (map f xs) w → Some i ≡ place_named 0 (map f xs) w
  named_found xs i x w h is same e =
      let here = mapped_at f xs i x h is in
      let there = sym same in
      let all : place_named i (drop i (map f xs)) w ≡ Some i = rw (here, there) refl in
      sym all ∙ e

  pub named_passed : (xs : List X) (i : ℕ) (x : X) (w : List ℕ) → i < length xs → x ≡ get_or xs i x → false ≡ bytes_eq (f x) w
      → place_named i (drop i (map f xs)) w ≡ place_named 0 (map f xs) w → place_named (i + 1) (drop (i + 1) (map f xs)) w ≡ place_named 0 (map f xs) w
  named_passed xs i x w h is other e =
      let here = mapped_at f xs i x h is in
      let there = sym other in
      let all : place_named i (drop i (map f xs)) w ≡ place_named (suc i) (drop (suc i) (map f xs)) w = rw (here, there) refl in
      rw add-one (sym all ∙ e)

  -- a name is one for the next place, or the names are none
  pub names_stop : (xs : List X) (i : ℕ) (x : X) (e : Cause) (whole : Bool) → i < length xs → x ≡ get_or xs i x → name_of (map f (take i xs)) (f x) ≡ Err e
      → are_names (map f (take i xs)) (drop i (map f xs)) ≡ whole → false ≡ whole
  names_stop xs i x e whole h is bad all =
      let here = mapped_at f xs i x h is in
      sym (sym all ∙ rw (here, bad) refl)

  pub names_go : (xs : List X) (i : ℕ) (x : X) (y : List ℕ) (whole : Bool) → i < length xs → x ≡ get_or xs i x → name_of (map f (take i xs)) (f x) ≡ Ok y
      → are_names (map f (take i xs)) (drop i (map f xs)) ≡ whole → are_names (map f (take (i + 1) xs)) (drop (i + 1) (map f xs)) ≡ whole
  names_go xs i x y whole h is good all =
      let here = mapped_at f xs i x h is in
      let before = mapped_more f xs i x h is in
      let step : are_names (map f (take i xs)) (drop i (map f xs)) ≡ are_names (map f (take i xs) ++ f x ∷ []) (drop (suc i) (map f xs)) = rw (here, good) refl in
      rw (before, add-one) (sym step ∙ all)

-- the numbers of places as names, with one more
pub numbers_more : (before : List (List ℕ)) (i n : ℕ) (whole : List (List ℕ)) → i < n → before ++ number_names i (n - i) ≡ whole
    → (before ++ decimal i ∷ []) ++ number_names (i + 1) (n - (i + 1)) ≡ whole
numbers_more before i n whole h all =
    let left : n - i ≡ suc (n - suc i) = omega arith in
    let step : number_names i (n - i) ≡ decimal i ∷ number_names (suc i) (n - suc i) = rw left refl in
    rw (append_assoc before (decimal i ∷ []) _, add-one) (sym (ap (λ z. before ++ z) step) ∙ all)

pub numbers_all : (before : List (List ℕ)) (i n : ℕ) (whole : List (List ℕ)) → n ≤ i → before ++ number_names i (n - i) ≡ whole → before ≡ whole
numbers_all before i n whole h all =
    let none : n - i ≡ 0 = omega arith in
    sym (append-nil before) ∙ ap (λ k. before ++ number_names i k) (sym none) ∙ all
