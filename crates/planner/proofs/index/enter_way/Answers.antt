-- One more way is in the index: a shut one changes nothing, an open one becomes the largest of its place.
use Rattle.std.proofs.Common.{◌≡◌, ℕ, ◌<◌, Some, None, Option, sym, refl, ◌∙◌, inl, inr, arith}
use Rattle.std.proofs.lemmas.Bool.{cases_lt}
use Rattle.subject.specs.declared.way.Way.{Way}
use Rattle.subject.specs.Sites.{SiteMeaning, IsBounded}
use Rattle.search.specs.Columns.{heads_of, nexts_of}
use Rattle.search.proofs.Walks.{index_way, index_shut}
use lib.ListN.{length-map}
use Rattle.planner.proofs.index.enter_way.Goals as goal

-- an open way has a number below the number of ways
open_below : {C : Type 0} (m : SiteMeaning C) (n : ℕ) (w : Way C) → IsBounded m → m.way n ≡ Some w → n < m.ways
open_below {C} m n w b opens = elim (cases_lt n m.ways) [
  | inl h ↦ h
  | inr past ↦ absurd (let two : ◌≡◌ {A = Option (Way C)} None (Some w) = sym (b.no_way n past) ∙ opens in cc)
]

pub overflow_cast-n : goal.overflow_cast-n
overflow_cast-n g c =
    let b = g.S.Site.is_bounded c.args.site.now in
    let few = b.few_ways in
    let below = open_below (g.S.Site.meaning c.args.site.now) c.args.n c.in-Some.w b (sym c.in-Some.ensures) in
    record { fits = omega arith }

pub put_first-requires : goal.put_first-requires
put_first-requires g c =
    let b = g.S.Site.is_bounded c.args.site.now in
    let h = b.from_in c.args.n c.in-Some.w (sym c.in-Some.ensures) in
    record { place = omega (arith, c.requires.places); way = c.requires.inside }

pub returns-in-Some : goal.returns-in-Some
returns-in-Some g c =
    let m = g.S.Site.meaning c.args.site.now in
    let e = sym c.in-Some.ensures in
    let w = c.in-Some.w in
    let n = c.args.n in
    let rows = c.args.cells.now in
    let h = (g.S.Site.is_bounded c.args.site.now).from_in n w e in
    let lh = length-map rows (λ r. r.head) in
    let ln = length-map rows (λ r. r.next) in
    let ix = index_way m n (heads_of rows) (nexts_of rows) c.requires.indexed w e h (omega (arith, c.requires.places)) (omega (arith, c.requires.inside)) in
    record {
      cells = c.put_first.ensures.cells;
      indexed = rw (c.put_first.ensures.heads, c.put_first.ensures.nexts) ix;
    }

pub returns-in_default : goal.returns-in_default
returns-in_default g c =
    let m = g.S.Site.meaning c.args.site.now in
    let rows = c.args.cells.now in
    record { cells = refl; indexed = index_shut m c.args.n (heads_of rows) (nexts_of rows) c.requires.indexed (sym c.in_default.ensures) }
