-- A grid keeps the bounds of a site: its sides are at most MOST_SIDE, and a way leads to a row and a column that it
-- has. Stands on Floor and Grids.
use Rattle.std.specs.Prelude.{◌≡◌, ℕ, ◌+◌, ◌-◌, ◌*◌, ◌/◌, ◌%◌, ◌<◌, ◌≤◌, Bool, true, false, cond, Some, None, Option}
use Rattle.std.specs.Prelude.{◌==◌, nat_lt, refl}
use Rattle.std.proofs.Common.{sym, ap, subst, mul-le-mul, div-lt_iff_lt-mul, mod-lt, arith, ltb-true, le-ltb}
use Rattle.std.proofs.Math.Arith.{digits_lt}
use Rattle.subject.specs.declared.site.TheConstants.{MOST_PLACES, MOST_LOSS}
use Rattle.subject.specs.declared.way.Way.{Way}
use Rattle.subject.specs.Sites.{IsBounded}
use Rattle.grid.specs.declared.grid.FloorGrid.{FloorGrid}
use Rattle.grid.specs.Floor.{Floor, place_at, neighbour, towards, place_count, way_to, way_of, floor_site}
use Rattle.grid.specs.Grids.{floor_of}

-- where there is something only under a test, the test passed
cond-some : {A : Type 0} (b : Bool) (o : Option A) (w : A) → cond b o None ≡ Some w → (b ≡ true) × (o ≡ Some w)
cond-some true o w e = (refl, e)
cond-some false o w e = absurd (let z : ◌≡◌ {A = ℕ} 0 1 = cc in omega arith)

-- past a count a test "below the count" leaves nothing
cond-past : {A : Type 0} (n k : ℕ) (o : Option A) → k ≤ n → cond (nat_lt n k) o None ≡ None
cond-past n k o h = ap (λ b. cond b o None) (le-ltb n k h)

-- what either way of a test leads to
cond-either : {A Q : Type 0} (b : Bool) (x y : Option A) (to : A)
    → (x ≡ Some to → Q) → (y ≡ Some to → Q) → cond b x y ≡ Some to → Q
cond-either true x y to f g e = f e
cond-either false x y to f g e = g e

module _ (rows columns row column : ℕ) (in_row : row < rows) (in-column : column < columns) where
  -- a place in a row and a column of the floor is one of its places
  place_at-in : (r c to : ℕ) → r < rows → c < columns → place_at columns r c ≡ to → to < rows * columns
  place_at-in r c to hr hc e = subst (λ n. n < rows * columns) e (digits_lt hr hc)

  -- so is one that is reached by a step under a test
  step-in : (a b r c to : ℕ) → (a < b → (r < rows) × (c < columns))
      → cond (nat_lt a b) (Some (place_at columns r c)) None ≡ Some to → to < rows * columns
  step-in a b r c to inside e =
      let k = cond-some (nat_lt a b) (Some (place_at columns r c)) to e in
      let there : place_at columns r c ≡ to = cc k.1 in
      let both = inside (ltb-true a b k.0) in
      place_at-in r c to both.0 both.1 there

  -- and one to which a direction leads
  towards-in : (direction to : ℕ) → towards rows columns row column direction ≡ Some to → to < rows * columns
  towards-in direction to =
      cond-either (direction == 0) _ _ to
      (step-in (column + 1) columns row (column + 1) to (λ h. (in_row, h)))
      (cond-either (direction == 1) _ _ to
      (step-in 0 column row (column - 1) to (λ h. (in_row, omega arith)))
      (cond-either (direction == 2) _ _ to
      (step-in (row + 1) rows (row + 1) column to (λ h. (h, in-column)))
      (cond-either (direction == 3) _ _ to
      (step-in 0 row (row - 1) column to (λ h. (omega arith, in-column)))
      (λ none. absurd (let z : ◌≡◌ {A = ℕ} 0 1 = cc in omega arith)))))

-- an open way, from where it leaves to where it leads
abbrev leads : {C : Type 0} → Floor C → ℕ → ℕ → Way C
leads f from to = record { from = from; to = to; charge = f.charge; loss = f.loss }

way_to-some : {C : Type 0} (f : Floor C) (from : ℕ) (o : Option ℕ) (w : Way C) → way_to f from o ≡ Some w
    → (to : ℕ) × (o ≡ Some to) × (w ≡ leads f from to)
way_to-some f from None w e = absurd (let z : ◌≡◌ {A = ℕ} 0 1 = cc in omega arith)
way_to-some f from (Some to) w e = (to, refl, cc)

-- the number of an open way is below the count, and it leads to a neighbour
site_way-some : {C : Type 0} (f : Floor C) (n : ℕ) (w : Way C) → (floor_site f).way n ≡ Some w
    → (n < 4 * place_count f)
    × ((to : ℕ) × (neighbour f.rows f.columns (n / 4) (n % 4) ≡ Some to) × (w ≡ leads f (n / 4) to))
site_way-some f n w e =
    let k = cond-some (nat_lt n (4 * place_count f)) (way_of f n) w e in
    (ltb-true n (4 * place_count f) k.0, way_to-some f (n / 4) (neighbour f.rows f.columns (n / 4) (n % 4)) w k.1)

quarter-lt : (n k : ℕ) → n < 4 * k → n / 4 < k
quarter-lt n k h = omega arith

pub grid_is_bounded : {C : Type 0} (g : FloorGrid C) → IsBounded (floor_site (floor_of g))
grid_is_bounded g =
    let f = floor_of g in
    let few : place_count f ≤ MOST_PLACES = mul-le-mul g.few_rows g.few_columns in
    record {
      few_places = few;
      few_ways = omega arith;
      no_repeater = λ p h. cond-past p (place_count f) g.repeater h;
      no_way = λ n h. cond-past n (4 * place_count f) (way_of f n) h;
      from_in = λ n w e.
          let o = site_way-some f n w e in
          subst (λ v. v.from < place_count f) (sym o.1.2) (quarter-lt n (place_count f) o.0);
      to_in = λ n w e.
          let o = site_way-some f n w e in
          let from = quarter-lt n (place_count f) o.0 in
          let row = (div-lt_iff_lt-mul {k = g.columns} {x = n / 4} {y = g.rows} g.some_columns).1 from in
          let column = mod-lt (n / 4) g.some_columns in
          let to = towards-in g.rows g.columns (n / 4 / g.columns) (n / 4 % g.columns) row column (n % 4) o.1.0 o.1.1 in
          subst (λ v. v.to < place_count f) (sym o.1.2) to;
      loss_in = λ n w e.
          let o = site_way-some f n w e in
          subst (λ v. v.loss ≤ MOST_LOSS) (sym o.1.2) g.small_loss;
    }
