-- Closed marks: one written mark changes the set of closed ways at that way alone. By cases over whether a number is the
-- written one.
use Rattle.std.proofs.Common.{◌≡◌, ℕ, ◌<◌, Bool, false, eqb, List, length, get_or, set, sym, ap, ◌∙◌, ⊎_elim}
use Rattle.std.proofs.lemmas.List.{get_or-set_same, get_or-set_other}
use Rattle.std.proofs.lemmas.Bool.{cases_eq, eq-eqb, ne_eqb, cond-true, cond-false}
use Rattle.job.specs.Book.{with_way}

pub written : (xs : List Bool) (k : ℕ) (b : Bool) (n : ℕ) → k < length xs → get_or (set xs k b) n false ≡ with_way (λ i. get_or xs i false) k b n
written xs k b n h =
    ⊎_elim
    (λ e. ap (λ i. get_or (set xs k b) i false) e ∙ get_or-set_same xs k b false h ∙ sym (cond-true (eqb n k) b (get_or xs n false) (eq-eqb n k e)))
    (λ ne. get_or-set_other xs k n b false ne ∙ sym (cond-false (eqb n k) b (get_or xs n false) (ne_eqb n k ne)))
    (cases_eq n k)
