-- A site with more ways shut keeps within the bounds of a site. By cases over whether a way is shut. Stands on Jobs.
use Rattle.std.specs.Prelude.{◌≡◌, ℕ, Bool, true, false, cond, Some, None, Option, refl}
use Rattle.std.proofs.Common.{arith}
use Rattle.subject.specs.Sites.{SiteMeaning, IsBounded}
use Rattle.job.specs.Jobs.{shutting}

only : {A : Type 0} (b : Bool) (o : Option A) (w : A) → cond b None o ≡ Some w → o ≡ Some w
only true o w e = absurd (let z : ◌≡◌ {A = ℕ} 0 1 = cc in omega arith)
only false o w e = e

none_still : {A : Type 0} (b : Bool) (o : Option A) → o ≡ None → cond b None o ≡ None
none_still true o e = refl
none_still false o e = e

pub shutting_bounded : {C : Type 0} (m : SiteMeaning C) (book : ℕ → Bool) → IsBounded m → IsBounded (shutting m book)
shutting_bounded m book b = record {
  few_places = b.few_places;
  few_ways = b.few_ways;
  no_repeater = b.no_repeater;
  no_way = λ n h. none_still (book n) (m.way n) (b.no_way n h);
  from_in = λ n w e. b.from_in n w (only (book n) (m.way n) w e);
  to_in = λ n w e. b.to_in n w (only (book n) (m.way n) w e);
  loss_in = λ n w e. b.loss_in n w (only (book n) (m.way n) w e);
}
