-- A rule of a table of rows holds at each entry, since one test that is computed over the whole table passes.
use Rattle.std.proofs.Common.{◌≡◌, ℕ, zero, suc, ◌+◌, ◌<◌, Bool, true, false, T, eqb, List, [], ◌∷◌, length, get_or, sym, subst, le_of_suc-le-suc, not-suc-le-zero, add-zero, zero-add, arith, eqb→eq}

abbrev both : Bool → Bool → Bool
both true b = b
both false b = false

first_of : (a b : Bool) → T (both a b) → T a
first_of true b t = tt
first_of false b t = t

second_of : (a b : Bool) → T (both a b) → T b
second_of true b t = t
second_of false b t = absurd t

-- the entries of a row, counted from k, are what g says
abbrev row_right : (ℕ → ℕ) → ℕ → List ℕ → Bool
row_right g k [] = true
row_right g k (x ∷ xs) = both (eqb x (g k)) (row_right g (suc k) xs)

-- each row, counted from r, has w entries, and they are what g says of that row
abbrev pub table_right : (ℕ → ℕ → ℕ) → ℕ → ℕ → List (List ℕ) → Bool
table_right g w r [] = true
table_right g w r (x ∷ xs) = both (both (eqb (length x) w) (row_right (g r) 0 x)) (table_right g w (suc r) xs)

row_from : (g : ℕ → ℕ) (xs : List ℕ) (i : ℕ) → T (row_right g i xs) → (k : ℕ) → k < length xs → get_or xs k 0 ≡ g (i + k)
row_from g [] i t k h = absurd (not-suc-le-zero h)
row_from g (x ∷ xs) i t zero h =
    subst (λ (m : ℕ). x ≡ g m) (sym (add-zero i)) (eqb→eq x (g i) (first_of (eqb x (g i)) (row_right g (suc i) xs) t))
row_from g (x ∷ xs) i t (suc k) h =
    let same : suc i + k ≡ i + suc k = omega arith in
    subst (λ (m : ℕ). get_or xs k 0 ≡ g m) same
    (row_from g xs (suc i) (second_of (eqb x (g i)) (row_right g (suc i) xs) t) k (le_of_suc-le-suc h))

table_from : (g : ℕ → ℕ → ℕ) (w i : ℕ) (xs : List (List ℕ)) → T (table_right g w i xs) → (r k : ℕ) → r < length xs → k < w
    → get_or (get_or xs r []) k 0 ≡ g (i + r) k
table_from g w i [] t r k h hk = absurd (not-suc-le-zero h)
table_from g w i (x ∷ xs) t zero k h hk =
    let here = first_of (both (eqb (length x) w) (row_right (g i) 0 x)) (table_right g w (suc i) xs) t in
    let long : length x ≡ w = eqb→eq (length x) w (first_of (eqb (length x) w) (row_right (g i) 0 x) here) in
    let entries = second_of (eqb (length x) w) (row_right (g i) 0 x) here in
    let at : get_or x k 0 ≡ g i (0 + k) = row_from (g i) x 0 entries k (omega arith) in
    subst (λ (m : ℕ). get_or x k 0 ≡ g m k) (sym (add-zero i)) (subst (λ (m : ℕ). get_or x k 0 ≡ g i m) (zero-add k) at)
table_from g w i (x ∷ xs) t (suc r) k h hk =
    let below = second_of (both (eqb (length x) w) (row_right (g i) 0 x)) (table_right g w (suc i) xs) t in
    let same : suc i + r ≡ i + suc r = omega arith in
    subst (λ (m : ℕ). get_or (get_or xs r []) k 0 ≡ g m k) same
    (table_from g w (suc i) xs below r k (le_of_suc-le-suc h) hk)

-- where the test passes, each entry is what g says of its row and its place
pub entry_is : (g : ℕ → ℕ → ℕ) (w : ℕ) (xs : List (List ℕ)) → T (table_right g w 0 xs) → (r k : ℕ) → r < length xs → k < w
    → get_or (get_or xs r []) k 0 ≡ g r k
entry_is g w xs t r k h hk = subst (λ (m : ℕ). get_or (get_or xs r []) k 0 ≡ g m k) (zero-add r) (table_from g w 0 xs t r k h hk)
