-- A list that is read of another, an element at a time.
use Rattle.std.proofs.Common.{◌≡◌, ℕ, zero, suc, ◌+◌, ◌<◌, ◌≤◌, List, [], ◌∷◌, ◌++◌, length, drop, take, map, get_or, refl, sym, ap, add-one, arith}
use Rattle.survey_text.specs.Fields.{field}

module _ {X Y : Type 0} (f : X → Y) where
  -- what is left from an element on
  pub mapped_at : (xs : List X) (i : ℕ) (x : X) → i < length xs → x ≡ get_or xs i x → drop i (map f xs) ≡ f x ∷ drop (suc i) (map f xs)
  mapped_at [] i x h e = absurd (omega arith)
  mapped_at (y ∷ xs) zero x h e = ap (λ z. f z ∷ map f xs) (sym e)
  mapped_at (y ∷ xs) (suc i) x h e = mapped_at xs i x (omega arith) e

  pub mapped_past : (xs : List X) (i : ℕ) → length xs ≤ i → drop i (map f xs) ≡ []
  mapped_past [] zero h = refl
  mapped_past [] (suc i) h = refl
  mapped_past (y ∷ xs) zero h = absurd (omega arith)
  mapped_past (y ∷ xs) (suc i) h = mapped_past xs i (omega arith)

  -- what was passed, with one more element
  pub mapped_more : (xs : List X) (i : ℕ) (x : X) → i < length xs → x ≡ get_or xs i x → map f (take (i + 1) xs) ≡ map f (take i xs) ++ f x ∷ []
  mapped_more xs i x h e = rw add-one (more xs i x h e) where
    more : (xs : List X) (i : ℕ) (x : X) → i < length xs → x ≡ get_or xs i x → map f (take (suc i) xs) ≡ map f (take i xs) ++ f x ∷ []
    more [] i x h e = absurd (omega arith)
    more (y ∷ xs) zero x h e = ap (λ z. f z ∷ []) (sym e)
    more (y ∷ xs) (suc i) x h e = ap (λ zs. f y ∷ zs) (more xs i x (omega arith) e)

  pub mapped_all : (xs : List X) (i : ℕ) → length xs ≤ i → map f (take i xs) ≡ map f xs
  mapped_all [] zero h = refl
  mapped_all [] (suc i) h = refl
  mapped_all (y ∷ xs) zero h = absurd (omega arith)
  mapped_all (y ∷ xs) (suc i) h = ap (λ zs. f y ∷ zs) (mapped_all xs i (omega arith))

-- an element by its place is that field of the list
pub field_get : {X : Type 0} (f : X → List ℕ) (xs : List X) (i : ℕ) (x : X) → i < length xs → x ≡ get_or xs i x → f x ≡ field (map f xs) i
field_get f [] i x h e = absurd (omega arith)
field_get f (y ∷ xs) zero x h e = ap f e
field_get f (y ∷ xs) (suc i) x h e = field_get f xs i x (omega arith) e

pub field_missing : {X : Type 0} (f : X → List ℕ) (xs : List X) (i : ℕ) → length xs ≤ i → [] ≡ field (map f xs) i
field_missing f [] i h = refl
field_missing f (y ∷ xs) zero h = absurd (omega arith)
field_missing f (y ∷ xs) (suc i) h = field_missing f xs i (omega arith)
