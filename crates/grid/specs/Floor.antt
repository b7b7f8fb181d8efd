-- The site that a floor of rows and columns is. The place in a row and a column has the number row × columns + column.
-- From the place p the ways 4 × p, 4 × p + 1, 4 × p + 2 and 4 × p + 3 go right, left, down and up; a way that would
-- leave the floor is shut. Stands on what a site is.
use Rattle.std.specs.Prelude.{ℕ, ◌+◌, ◌-◌, ◌*◌, ◌/◌, ◌%◌, ◌<◌, ◌≤◌, cond, Some, None, Option, ◌==◌, nat_lt}
use Rattle.subject.specs.declared.way.Way.{Way}
use Rattle.subject.specs.Sites.{SiteMeaning}
use Rattle.grid.specs.declared.grid.TheConstants.{MOST_SIDE}
use Rattle.grid.specs.declared.grid.Direction.{Direction}
use Rattle.grid.specs.declared.grid.Direction.TheVariants.{Right, Left, Down, Up}

pub record Floor (C : Type 0) : Type 0 where
  pub rows : ℕ
  pub columns : ℕ
  -- what every way charges and loses
  pub charge : C
  pub loss : ℕ
  -- what a repeater is charged at every place, or none
  pub repeater : Option C

abbrev pub floor : {C : Type 0} → ℕ → ℕ → C → ℕ → Option C → Floor C
floor rows columns charge loss repeater =
    record { rows = rows; columns = columns; charge = charge; loss = loss; repeater = repeater }

-- a side has at least one place
abbrev pub IsSide : ℕ → Type 0
IsSide side = (0 < side) × (side ≤ MOST_SIDE)

-- the place in a row and a column
abbrev pub place_at : ℕ → ℕ → ℕ → ℕ
place_at columns row column = row * columns + column

-- the place next to the one in a row and a column, where the floor has one: right, left, down, up
abbrev pub right_of : ℕ → ℕ → ℕ → Option ℕ
right_of columns row column = cond (nat_lt (column + 1) columns) (Some (place_at columns row (column + 1))) None

abbrev pub left_of : ℕ → ℕ → ℕ → Option ℕ
left_of columns row column = cond (nat_lt 0 column) (Some (place_at columns row (column - 1))) None

abbrev pub below : ℕ → ℕ → ℕ → ℕ → Option ℕ
below rows columns row column = cond (nat_lt (row + 1) rows) (Some (place_at columns (row + 1) column)) None

abbrev pub above : ℕ → ℕ → ℕ → Option ℕ
above columns row column = cond (nat_lt 0 row) (Some (place_at columns (row - 1) column)) None

-- the number of a direction among the ways of a place
abbrev pub number_of : Direction → ℕ
number_of Right = 0
number_of Left = 1
number_of Down = 2
number_of Up = 3

-- the place to which a direction leads from a row and a column: 0 is right, 1 left, 2 down, 3 up
abbrev pub towards : ℕ → ℕ → ℕ → ℕ → ℕ → Option ℕ
towards rows columns row column direction =
    cond (direction == 0) (right_of columns row column)
    (cond (direction == 1) (left_of columns row column)
    (cond (direction == 2) (below rows columns row column)
    (cond (direction == 3) (above columns row column) None)))

abbrev pub neighbour : ℕ → ℕ → ℕ → ℕ → Option ℕ
neighbour rows columns place direction = towards rows columns (place / columns) (place % columns) direction

abbrev pub place_count : {C : Type 0} → Floor C → ℕ
place_count f = f.rows * f.columns

abbrev pub way_to : {C : Type 0} → Floor C → ℕ → Option ℕ → Option (Way C)
way_to f from None = None
way_to f from (Some to) = Some (record { from = from; to = to; charge = f.charge; loss = f.loss })

-- a way by its number, or none where it would leave the floor
abbrev pub way_of : {C : Type 0} → Floor C → ℕ → Option (Way C)
way_of f n = way_to f (n / 4) (neighbour f.rows f.columns (n / 4) (n % 4))

abbrev pub floor_site : {C : Type 0} → Floor C → SiteMeaning C
floor_site f = record {
  places = place_count f;
  ways = 4 * place_count f;
  repeater = λ p. cond (nat_lt p (place_count f)) f.repeater None;
  way = λ n. cond (nat_lt n (4 * place_count f)) (way_of f n) None;
}
