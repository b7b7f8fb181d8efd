-- The run that the links of the rows tell. Going back over a link puts one step onto the front of the rest, which is how a
-- lawful run and its total recurse; the number of steps falls with every link, so no cell comes twice.
use Rattle.std.proofs.Common.{◌≡◌, ℕ, zero, suc, ◌+◌, ◌*◌, ◌/◌, ◌%◌, ◌<◌, ◌≤◌, Bool, true, false, List, [], ◌∷◌, length, take, drop, set, Some, sym, refl, ap, ◌∙◌, subst, inl, inr, div-le_self, arith}
use Rattle.std.proofs.lemmas.Nat.{div-add-mod'}
use Rattle.subject.specs.declared.run.Step.{Step}
use Rattle.subject.specs.Runs.{IsLawful, total_from, after_way, loss_after, IsAvoided, NoneTwice, place_behind, loss_behind}
use Rattle.search.specs.Cells.{place_of, loss_of}
use Rattle.search.specs.Rows.{IsFirst, IsNext, IsLinked, Trail, WholeRun, reached_row, reached_in}
use Rattle.search.specs.declared.cell.Cell.{Cell}
use Rattle.search.specs.declared.cell.Reached.{Reached}
use Rattle.search.proofs.Turns.{some_same}
use Rattle.subject.specs.Problems.{Problem}
use lib.Arith.{digits_div, digits_mod}

-- one place with one loss is one cell
pub one_cell : {C : Type 0} (P : Problem C) (x y : ℕ) → place_of P x ≡ place_of P y → loss_of P x ≡ loss_of P y → x ≡ y
unfolding place_of loss_of
one_cell P x y p l =
    sym (div-add-mod' x (P.request.bound + 1)) ∙ ap (λ q. q * (P.request.bound + 1) + x % (P.request.bound + 1)) p ∙ ap (λ r. y / (P.request.bound + 1) * (P.request.bound + 1) + r) l ∙ div-add-mod' y (P.request.bound + 1)

module _ {C : Type 0} (P : Problem C) (rows : List (Cell C)) where
  module _ (x : ℕ) (r : Reached C) (rest : List Step) (sum : C) (n : IsNext P rows x r) (tr : Trail P rows x r rest sum) where
    there : place_behind (P.site.way n.by.step.way) ≡ place_of P x
    there = ap place_behind n.goes.opens ∙ sym n.place

    lost : loss_behind (P.site.way n.by.step.way) n.by.step.mark (loss_of P n.by.from) ≡ loss_of P x
    lost = ap (λ o. loss_behind o n.by.step.mark (loss_of P n.by.from)) n.goes.opens ∙ sym n.loss

    avoided : (y : ℕ) (q : Reached C) → reached_in rows y ≡ Some q → q.steps < r.steps → IsAvoided P (place_of P y) (loss_of P y) (place_behind (P.site.way n.by.step.way)) (loss_behind (P.site.way n.by.step.way) n.by.step.mark (loss_of P n.by.from)) rest
    avoided y q e h = rw (there, lost) (tr.avoids y q e h)

    -- over one link back
    pub trail_back : Trail P rows n.by.from n.before (n.by.step ∷ rest) sum
    trail_back = record {
      lawful = (n.over, n.goes, subst (λ (p : ℕ). IsLawful P p (loss_after n.by.step.mark (loss_of P n.by.from + n.over.loss)) rest) n.place (subst (λ (l : ℕ). IsLawful P (place_of P x) l rest) n.loss tr.lawful));
      comes_to = ap (λ o. total_from P (after_way P n.before.charge n.by.step.mark o) rest) n.goes.opens ∙ ap (λ c. total_from P c rest) (sym n.charge) ∙ tr.comes_to;
      avoids = λ y q e h. (
        (λ a b. let same : n.by.from ≡ y = one_cell P n.by.from y a b in
            let s : n.before ≡ q = some_same (sym (ap reached_row n.row) ∙ ap (reached_in rows) same ∙ e) in
            let u : n.before.steps ≡ q.steps = ap (λ (z : Reached C). z.steps) s in
            omega arith),
        avoided y q e (let s = n.steps in omega arith),
      );
      once = (avoided n.by.from n.before (ap reached_row n.row) (let s = n.steps in omega arith), rw (there, lost) tr.once);
    }

  -- at the start's cell the trail is a whole run
  pub trail_whole : (x : ℕ) (r : Reached C) (rest : List Step) (sum : C) → IsFirst P x r → Trail P rows x r rest sum → WholeRun P rest sum
  trail_whole x r rest sum f tr = record {
    lawful = subst (λ (p : ℕ). IsLawful P p 0 rest) f.place (subst (λ (l : ℕ). IsLawful P (place_of P x) l rest) f.loss tr.lawful);
    comes_to = sym tr.comes_to ∙ ap (λ c. total_from P c rest) f.charge;
    once = subst (λ (p : ℕ). NoneTwice P p 0 rest) f.place (subst (λ (l : ℕ). NoneTwice P (place_of P x) l rest) f.loss tr.once);
  }

  pub not_first : (x : ℕ) (r : Reached C) → IsLinked P rows x r → 0 < r.steps → IsNext P rows x r
  not_first x r l h = elim l [ inl f ↦ absurd (let s = f.steps in omega arith) | inr n ↦ n ]

  pub is_first : (x : ℕ) (r : Reached C) → IsLinked P rows x r → r.steps ≡ 0 → IsFirst P x r
  is_first x r l h = elim l [ inl f ↦ f | inr n ↦ absurd (let s = n.steps in omega arith) ]

-- writing a list from its last place to its first
pub back_more : {X : Type 0} (xs : List X) (i n : ℕ) (a : X) → i < n → n ≤ length xs → drop i (take n (set xs i a)) ≡ a ∷ drop (suc i) (take n xs)
back_more [] i n a h l = absurd (omega arith)
back_more (x ∷ xs) i zero a h l = absurd (omega arith)
back_more (x ∷ xs) zero (suc n) a h l = refl
back_more (x ∷ xs) (suc i) (suc n) a h l = back_more xs i n a (omega arith) (omega arith)

pub behind_same : {X : Type 0} (xs : List X) (i n : ℕ) (a : X) → i < n → drop n (set xs i a) ≡ drop n xs
behind_same [] i n a h = refl
behind_same (x ∷ xs) i zero a h = absurd (omega arith)
behind_same (x ∷ xs) zero (suc n) a h = refl
behind_same (x ∷ xs) (suc i) (suc n) a h = behind_same xs i n a (omega arith)

pub nothing_left : {X : Type 0} (xs : List X) (n : ℕ) → drop n (take n xs) ≡ []
nothing_left [] zero = refl
nothing_left [] (suc n) = refl
nothing_left (x ∷ xs) zero = refl
nothing_left (x ∷ xs) (suc n) = nothing_left xs n

-- the place and the loss of a cell's number
pub cell_place : {C : Type 0} (P : Problem C) (p l x : ℕ) → l ≤ P.request.bound → x ≡ p * (P.request.bound + 1) + l → place_of P x ≡ p
unfolding place_of
cell_place P p l x h e = ap (λ (y : ℕ). y / (P.request.bound + 1)) e ∙ digits_div p (let lt : l < P.request.bound + 1 = omega arith in lt)

pub cell_loss : {C : Type 0} (P : Problem C) (p l x : ℕ) → l ≤ P.request.bound → x ≡ p * (P.request.bound + 1) + l → loss_of P x ≡ l
unfolding loss_of
cell_loss P p l x h e = ap (λ (y : ℕ). y % (P.request.bound + 1)) e ∙ digits_mod p (let lt : l < P.request.bound + 1 = omega arith in lt)

-- the loss after a lawful arrival is at most the bound, with a mark and without
pub after_low : {C : Type 0} (P : Problem C) (mark : Bool) (l r : ℕ) → l ≤ P.request.bound → r ≡ loss_after mark l → r ≤ P.request.bound
after_low P true l r h e = omega arith
after_low P false l r h e = omega arith

pub place_below : {C : Type 0} (P : Problem C) (x : ℕ) → place_of P x ≤ x
unfolding place_of
place_below P x = div-le_self x (P.request.bound + 1)
