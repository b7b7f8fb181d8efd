-- What waits after a change of positions: a cell is put, or taken, where it alone changes sides of the length.
use Rattle.std.proofs.Common.{◌≡◌, ℕ, ◌<◌, ◌≤◌, Bool, true, false, cond, ltb, ◌≢◌, List, length, get_or, set, Some, None, Option, sym, refl, ap, ◌∙◌, inl, inr, arith, length-set, get_or-set_same, ltb-true}
use Rattle.std.specs.List.{slice_get}
use Rattle.std.proofs.lemmas.Bool.{cases_Bool, cases_lt, lt-ltb, le-ltb}
use Rattle.std.proofs.lemmas.Grind.{common_steps}
use Rattle.std.proofs.lemmas.Option.{gets, slice_get-get_or, slice_get_past}
use Rattle.subject.specs.Queues.{IsPut, IsTaken}
use Rattle.tree_queue.specs.Order.{IsPlacement, IsAhead}
use Rattle.tree_queue.specs.Queues.{waits_of}

get_set_other : {X : Type 0} (xs : List X) (i k : ℕ) (a : X) → k ≢ i → slice_get (set xs i a) k ≡ slice_get xs k
get_set_other xs i k a ne = grind (arith, common_steps, gets)

none : {X : Type 0} (b : Bool) → cond {A = Option X} b None None ≡ None
none true = refl
none false = refl

-- every cell below `n` but `cell` is on the same side of the length as before
abbrev pub OthersStay : ℕ → ℕ → List ℕ → ℕ → List ℕ → ℕ → Type 0
OthersStay n cell ps len ps' len' = (k : ℕ) → k < n → k ≢ cell → ltb (get_or ps' k 0) len' ≡ ltb (get_or ps k 0) len

module _ {C : Type 0} (n cell : ℕ) (ch : List C) (lch : length ch ≡ n) (ps : List ℕ) (len : ℕ) (ps' : List ℕ) (len' : ℕ) (stay : OthersStay n cell ps len ps' len') where
  others : (k : ℕ) → k ≢ cell → waits_of ch ps' len' k ≡ waits_of ch ps len k
  others k ne = elim (cases_lt k n) [
    | inl h ↦ ap (λ b. cond b (slice_get ch k) None) (stay k h ne)
    | inr h ↦
        let z = slice_get_past ch k (omega arith) in
        ap (λ v. cond (ltb (get_or ps' k 0) len') v None) z ∙ none _ ∙ sym (ap (λ v. cond (ltb (get_or ps k 0) len) v None) z ∙ none _)
  ]

  pub put : (x : C) → cell < n → get_or ps' cell 0 < len' → IsPut (waits_of ch ps len) (waits_of (set ch cell x) ps' len') cell x
  put x hc before = record {
    here = ap (λ b. cond b (slice_get (set ch cell x) cell) None) (lt-ltb _ len' before) ∙ slice_get-get_or (set ch cell x) cell x (simp length-set (omega arith)) ∙ ap Some (get_or-set_same ch cell x x (omega arith));
    others = λ k ne. ap (λ v. cond (ltb (get_or ps' k 0) len') v None) (get_set_other ch cell k x ne) ∙ others k ne;
  }

  module _ (rank : C → C → Bool) (cs : List ℕ) (p : IsPlacement n cs ps) (v : C) (hv : (d : C) → v ≡ get_or ch cell d) (ahead : (k : ℕ) → k < len → IsAhead rank ch cell (get_or cs k 0)) where
    least : (k : ℕ) (c : C) → waits_of ch ps len k ≡ Some c → rank v c ≡ true
    least k c w =
        elim (cases_lt k n) [
          | inr g ↦
              let z = slice_get_past ch k (omega arith) in
              let y : cond (ltb (get_or ps k 0) len) (slice_get ch k) None ≡ None = ap (λ u. cond (ltb (get_or ps k 0) len) u None) z ∙ none _ in
              let q : ◌≡◌ {A = ℕ} 0 1 = cc in absurd (omega arith)
          | inl h ↦ elim (cases_Bool (ltb (get_or ps k 0) len)) [
            | inr f ↦
                let y : cond (ltb (get_or ps k 0) len) (slice_get ch k) None ≡ None = ap (λ b. cond b (slice_get ch k) None) f in
                let q : ◌≡◌ {A = ℕ} 0 1 = cc in absurd (omega arith)
            | inl t ↦
                let y : cond (ltb (get_or ps k 0) len) (slice_get ch k) None ≡ slice_get ch k = ap (λ b. cond b (slice_get ch k) None) t in
                let u = slice_get-get_or ch k c (omega arith) in
                let top = ahead (get_or ps k 0) (ltb-true _ _ t) c in
                let back = p.back k h in
                let first = hv c in
                let c-is : c ≡ get_or ch k c = cc in
                cc
          ]
        ]

    pub taken : cell < n → get_or ps cell 0 < len → len' ≤ get_or ps' cell 0 → IsTaken rank (waits_of ch ps len) (waits_of ch ps' len') cell v
    taken hc waited gone = record {
      waited = ap (λ b. cond b (slice_get ch cell) None) (lt-ltb _ len waited) ∙ slice_get-get_or ch cell v (omega arith) ∙ ap Some (sym (hv v));
      least = least;
      gone = ap (λ b. cond b (slice_get ch cell) None) (le-ltb _ len' gone);
      others = others;
    }
