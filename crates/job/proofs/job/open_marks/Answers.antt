-- Every mark is made open, and past the marks none is read as closed.
use Rattle.std.proofs.Common.{◌≡◌, ℕ, zero, suc, Bool, false, ◌⊎◌, List, [], ◌∷◌, get_or, vec_items, refl, ⊎_elim}
use Rattle.std.proofs.lemmas.Result.{IfOk-weaker}
use Rattle.std.specs.List.{AllByRecursion}
use Rattle.job.proofs.job.open_marks.Goals as goal

all_open : (xs : List Bool) → AllByRecursion (λ y. (y ≡ false) ⊎ (y ≡ false)) xs → (n : ℕ) → get_or xs n false ≡ false
all_open [] h n = refl
all_open (x ∷ xs) h zero = ⊎_elim (λ e. e) (λ e. e) h.0
all_open (x ∷ xs) h (suc n) = all_open xs h.1 n

pub returns-clause-open : goal.returns-clause-open
returns-clause-open c = IfOk-weaker c.vec.result _ _ (λ v h. all_open (vec_items v) h) c.vec.ensures.items
