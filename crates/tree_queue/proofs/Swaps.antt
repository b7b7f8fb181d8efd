-- An exchange of what is at two positions keeps every cell at one position, and the same cells below a length:
-- each claim by cases on whether a position or a cell is one of the two.
use Rattle.std.proofs.Common.{◌≡◌, ℕ, ◌<◌, ltb, ◌≢◌, List, length, get_or, set, sym, ap, ◌∙◌, inl, inr, arith, length-set, get_or-set_other, get_or-set_same}
use Rattle.std.proofs.lemmas.Bool.{cases_eq}
use Rattle.tree_queue.specs.Order.{IsPlacement, IsExchange, SameWait}

-- the last of two writes, and the first where the second is elsewhere
two_last : (xs : List ℕ) (i j x y : ℕ) → j < length xs → get_or (set (set xs i x) j y) j 0 ≡ y
two_last xs i j x y h = get_or-set_same (set xs i x) j y 0 (simp length-set h)

two_first : (xs : List ℕ) (i j x y : ℕ) → i < length xs → (i ≡ j → x ≡ y) → get_or (set (set xs i x) j y) i 0 ≡ x
two_first xs i j x y h same =
    elim (cases_eq i j) [
      | inl e ↦ ap (λ k. get_or (set (set xs i x) j y) k 0) e ∙ two_last xs i j x y (omega arith) ∙ sym (same e)
      | inr ne ↦ get_or-set_other (set xs i x) j i y 0 ne ∙ get_or-set_same xs i x 0 h
    ]

two_else : (xs : List ℕ) (i j x y k : ℕ) → k ≢ i → k ≢ j → get_or (set (set xs i x) j y) k 0 ≡ get_or xs k 0
two_else xs i j x y k p q = get_or-set_other (set xs i x) j k y 0 q ∙ get_or-set_other xs i k x 0 p

pub exchange : {n : ℕ} {cs ps : List ℕ} {i j : ℕ} → IsPlacement n cs ps → i < n → j < n
    → IsExchange cs ps (set (set cs i (get_or cs j 0)) j (get_or cs i 0)) (set (set ps (get_or cs j 0) i) (get_or cs i 0) j) i j
exchange {cs = cs} {ps = ps} {i = i} {j = j} p hi hj =
    let lc = p.cell_count in
    let lp = p.position_count in
    let ai = p.cell_in i hi in
    let aj = p.cell_in j hj in
    let ti = p.there i hi in
    let tj = p.there j hj in
    record {
      at_i = two_first cs i j _ _ (omega arith) (λ e. ap (λ k. get_or cs k 0) (sym e));
      at_j = two_last cs i j _ _ (omega arith);
      else = λ k ni nj. two_else cs i j _ _ k ni nj;
      pos_i = two_last ps _ _ i j (omega arith);
      pos_j = two_first ps _ _ i j (omega arith) (λ e. sym ti ∙ ap (λ k. get_or ps k 0) (sym e) ∙ tj);
      pos_else = λ k na nb. two_else ps _ _ i j k nb na;
    }

module _ {n : ℕ} {cs ps cs' ps' : List ℕ} {i j : ℕ} (p : IsPlacement n cs ps) (hi : i < n) (hj : j < n) (x : IsExchange cs ps cs' ps' i j) where
  cell_in' : (k : ℕ) → k < n → get_or cs' k 0 < n
  cell_in' k h =
      let a = p.cell_in i hi in
      let b = p.cell_in j hj in
      let o = p.cell_in k h in
      elim (cases_eq k i) [
        | inl e ↦ let f : get_or cs' k 0 ≡ get_or cs j 0 = ap (λ m. get_or cs' m 0) e ∙ x.at_i in omega arith
        | inr ni ↦ elim (cases_eq k j) [
          | inl e ↦ let f : get_or cs' k 0 ≡ get_or cs i 0 = ap (λ m. get_or cs' m 0) e ∙ x.at_j in omega arith
          | inr nj ↦ let f = x.else k ni nj in omega arith
        ]
      ]

  -- two positions that hold one cell are one
  one_position : (k m : ℕ) → k < n → m < n → get_or cs k 0 ≡ get_or cs m 0 → k ≡ m
  one_position k m hk hm e = sym (p.there k hk) ∙ ap (λ c. get_or ps c 0) e ∙ p.there m hm

  there' : (k : ℕ) → k < n → get_or ps' (get_or cs' k 0) 0 ≡ k
  there' k h =
      elim (cases_eq k i) [
        | inl e ↦ ap (λ m. get_or ps' (get_or cs' m 0) 0) e ∙ ap (λ c. get_or ps' c 0) x.at_i ∙ x.pos_j ∙ sym e
        | inr ni ↦ elim (cases_eq k j) [
          | inl e ↦ ap (λ m. get_or ps' (get_or cs' m 0) 0) e ∙ ap (λ c. get_or ps' c 0) x.at_j ∙ x.pos_i ∙ sym e
          | inr nj ↦ ap (λ c. get_or ps' c 0) (x.else k ni nj) ∙ x.pos_else (get_or cs k 0) (λ e. ni (one_position k i h hi e)) (λ e. nj (one_position k j h hj e)) ∙ p.there k h
        ]
      ]

  position_in' : (k : ℕ) → k < n → get_or ps' k 0 < n
  position_in' k h =
      let o = p.position_in k h in
      elim (cases_eq k (get_or cs i 0)) [
        | inl e ↦ let f : get_or ps' k 0 ≡ j = ap (λ m. get_or ps' m 0) e ∙ x.pos_i in omega arith
        | inr ni ↦ elim (cases_eq k (get_or cs j 0)) [
          | inl e ↦ let f : get_or ps' k 0 ≡ i = ap (λ m. get_or ps' m 0) e ∙ x.pos_j in omega arith
          | inr nj ↦ let f = x.pos_else k ni nj in omega arith
        ]
      ]

  back' : (k : ℕ) → k < n → get_or cs' (get_or ps' k 0) 0 ≡ k
  back' k h =
      elim (cases_eq k (get_or cs i 0)) [
        | inl e ↦ ap (λ m. get_or cs' (get_or ps' m 0) 0) e ∙ ap (λ c. get_or cs' c 0) x.pos_i ∙ x.at_j ∙ sym e
        | inr ni ↦ elim (cases_eq k (get_or cs j 0)) [
          | inl e ↦ ap (λ m. get_or cs' (get_or ps' m 0) 0) e ∙ ap (λ c. get_or cs' c 0) x.pos_j ∙ x.at_i ∙ sym e
          | inr nj ↦ ap (λ c. get_or cs' c 0) (x.pos_else k ni nj) ∙ x.else (get_or ps k 0) (λ e. ni (sym (p.back k h) ∙ ap (λ m. get_or cs m 0) e)) (λ e. nj (sym (p.back k h) ∙ ap (λ m. get_or cs m 0) e)) ∙ p.back k h
        ]
      ]

  placement : length cs' ≡ n → length ps' ≡ n → IsPlacement n cs' ps'
  placement lc lp = record { cell_count = lc; position_count = lp; cell_in = cell_in'; there = there'; position_in = position_in'; back = back' }

  both_below : (a b len : ℕ) → a < len → b < len → ltb a len ≡ ltb b len
  both_below a b len p q = grind arith

  pub same_wait : (len : ℕ) → i < len → j < len → SameWait len ps ps'
  same_wait len bi bj k =
      elim (cases_eq k (get_or cs i 0)) [
        | inl e ↦ let f : get_or ps' k 0 ≡ j = ap (λ m. get_or ps' m 0) e ∙ x.pos_i in let o : get_or ps k 0 ≡ i = ap (λ m. get_or ps m 0) e ∙ p.there i hi in both_below _ _ len (omega arith) (omega arith)
        | inr ni ↦ elim (cases_eq k (get_or cs j 0)) [
          | inl e ↦ let f : get_or ps' k 0 ≡ i = ap (λ m. get_or ps' m 0) e ∙ x.pos_j in let o : get_or ps k 0 ≡ j = ap (λ m. get_or ps m 0) e ∙ p.there j hj in both_below _ _ len (omega arith) (omega arith)
          | inr nj ↦ ap (λ m. ltb m len) (x.pos_else k ni nj)
        ]
      ]

-- two columns, each written at two places
pub both_written : {n : ℕ} {cs ps cs' ps' : List ℕ} {i j : ℕ} → IsPlacement n cs ps → i < n → j < n
    → cs' ≡ set (set cs i (get_or cs j 0)) j (get_or cs i 0) → ps' ≡ set (set ps (get_or cs j 0) i) (get_or cs i 0) j
    → IsExchange cs ps cs' ps' i j × IsPlacement n cs' ps'
both_written {cs = cs} {ps = ps} {cs' = cs'} {ps' = ps'} {i = i} {j = j} p hi hj ec ep =
    let x : IsExchange cs ps cs' ps' i j = rw (ec, ep) (exchange p hi hj) in
    (x, placement p hi hj x (ap length ec ∙ simp length-set p.cell_count) (ap length ep ∙ simp length-set p.position_count))
