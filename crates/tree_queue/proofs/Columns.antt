-- To read a field of a row is to read its column there, and to write it is to write there and leave the other columns.
use Rattle.std.proofs.Common.{◌≡◌, ℕ, ◌<◌, List, map, length, get_or, set, sym, refl, arith}
use Rattle.std.proofs.lemmas.List.{get_or-map, map-set}
use Rattle.std.proofs.Math.Seq.{map-set_same}
use Rattle.tree_queue.specs.declared.row.QueueRow.{QueueRow}
use Rattle.tree_queue.specs.Rows.{charges, cells, positions}
use Rattle.tree_queue.specs.Order.{IsPlacement}

module _ {A B : Type 0} (f : A → B) where
  pub read : (rows : List A) (i : ℕ) (d : A) (e : B) → i < length rows → f (get_or rows i d) ≡ get_or (map f rows) i e
  read rows i d e h = sym (get_or-map f rows i d e h)

module _ {C : Type 0} (rows : List (QueueRow C)) (i : ℕ) (d : QueueRow C) where
  -- the cell at a position is the number of a row
  pub cell_inside : IsPlacement (length rows) (cells rows) (positions rows) → i < length rows → (get_or rows i d).cell < length rows
  cell_inside p h = let e = read (λ s. s.cell) rows i d 0 h in let w = p.cell_in i h in omega arith

  pub cell_of : i < length rows → (get_or rows i d).cell ≡ get_or (cells rows) i 0
  cell_of h = read (λ s. s.cell) rows i d 0 h

  pub position_of : i < length rows → (get_or rows i d).position ≡ get_or (positions rows) i 0
  position_of h = read (λ s. s.position) rows i d 0 h

  pub charge_of : (e : C) → i < length rows → (get_or rows i d).charge ≡ get_or (charges rows) i e
  charge_of e h = read (λ s. s.charge) rows i d e h

  -- row `i` with another charge, cell or position
  abbrev pub with_charge : C → List (QueueRow C)
  with_charge c = let s = get_or rows i d in set rows i (record { charge = c; cell = s.cell; position = s.position })

  abbrev pub with_cell : ℕ → List (QueueRow C)
  with_cell b = let s = get_or rows i d in set rows i (record { charge = s.charge; cell = b; position = s.position })

  abbrev pub with_position : ℕ → List (QueueRow C)
  with_position b = let s = get_or rows i d in set rows i (record { charge = s.charge; cell = s.cell; position = b })

  pub charges-with_charge : (c : C) → charges (with_charge c) ≡ set (charges rows) i c
  charges-with_charge c = map-set _ rows i _

  pub cells-with_charge : (c : C) → cells (with_charge c) ≡ cells rows
  cells-with_charge c = map-set_same _ rows i _ d refl

  pub positions-with_charge : (c : C) → positions (with_charge c) ≡ positions rows
  positions-with_charge c = map-set_same _ rows i _ d refl

  pub charges-with_cell : (b : ℕ) → charges (with_cell b) ≡ charges rows
  charges-with_cell b = map-set_same _ rows i _ d refl

  pub cells-with_cell : (b : ℕ) → cells (with_cell b) ≡ set (cells rows) i b
  cells-with_cell b = map-set _ rows i _

  pub positions-with_cell : (b : ℕ) → positions (with_cell b) ≡ positions rows
  positions-with_cell b = map-set_same _ rows i _ d refl

  pub charges-with_position : (b : ℕ) → charges (with_position b) ≡ charges rows
  charges-with_position b = map-set_same _ rows i _ d refl

  pub cells-with_position : (b : ℕ) → cells (with_position b) ≡ cells rows
  cells-with_position b = map-set_same _ rows i _ d refl

  pub positions-with_position : (b : ℕ) → positions (with_position b) ≡ set (positions rows) i b
  positions-with_position b = map-set _ rows i _

pub ruleset columns = (charges-with_charge, cells-with_charge, positions-with_charge, charges-with_cell, cells-with_cell, positions-with_cell, charges-with_position, cells-with_position, positions-with_position)

pub ruleset on_rows = (cell_inside)

pub ruleset reads = (cell_inside, cell_of, position_of, charge_of)
