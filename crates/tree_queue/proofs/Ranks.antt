-- The comparison of charges, turned round or not, is total and transitive; so it holds of a charge and itself, and cells
-- that may be above one another along a tree may be so across it.
use Rattle.std.proofs.Common.{◌≡◌, ℕ, Bool, true, false, List, get_or, inl, inr}
use Rattle.std.proofs.lemmas.Bool.{cases_Bool}
use Rattle.subject.specs.Charges.{Kind, Laws}
use Rattle.tree_queue.specs.Order.{IsAhead, may_be_above}

pub record IsRank {C : Type 0} (rank : C → C → Bool) : Type 0 where
  pub total : (a b : C) → rank a b ≡ false → rank b a ≡ true
  pub transitive : (a b c : C) → rank a b ≡ true → rank b c ≡ true → rank a c ≡ true

pub ranks : {C : Type 0} {k : Kind C} → Laws k → (highest_on_top : Bool) → IsRank (may_be_above highest_on_top k.no_more)
ranks laws true = record { total = λ a b p. laws.total b a p; transitive = λ a b c p q. laws.transitive c b a q p }
ranks laws false = record { total = λ a b p. laws.total a b p; transitive = λ a b c p q. laws.transitive a b c p q }

module _ {C : Type 0} {rank : C → C → Bool} (r : IsRank rank) where
  pub itself : (a : C) → rank a a ≡ true
  itself a = elim (cases_Bool (rank a a)) [ inl t ↦ t | inr f ↦ r.total a a f ]

  pub ahead_itself : (ch : List C) (a : ℕ) → IsAhead rank ch a a
  ahead_itself ch a d = itself (get_or ch a d)

  pub ahead_transitive : (ch : List C) (a b c : ℕ) → IsAhead rank ch a b → IsAhead rank ch b c → IsAhead rank ch a c
  ahead_transitive ch a b c p q d = r.transitive (get_or ch a d) (get_or ch b d) (get_or ch c d) (p d) (q d)
