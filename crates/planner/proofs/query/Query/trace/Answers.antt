-- Walking the links back from the end puts step after step onto the front of a trail, whose steps fall by one each time; at 0 it
-- begins at the start's cell, and the trail is the whole run.
use Rattle.std.proofs.Common.{◌≡◌, IsSome, is_some, ℕ, suc, ◌-◌, ◌<◌, List, ◌∷◌, length, take, drop, set, Some, sym, ap, ◌∙◌, subst, arith}
use Rattle.planner.specs.Workspaces.{problem}
use Rattle.subject.specs.Runs.{IsLowest}
use Rattle.subject.specs.declared.run.Step.{Step}
use Rattle.search.specs.Rows.{EndTaken, IsNext, Trail, WholeRun, reached_row, reached_in}
use Rattle.search.specs.declared.cell.Cell.{Cell}
use Rattle.search.specs.declared.cell.Link.{Link}
use Rattle.search.specs.declared.cell.Reached.{Reached}
use Rattle.search.specs.Columns.{cells_of}
use Rattle.search.proofs.Turns.{some_same}
use Rattle.search.proofs.Trails.{trail_back, trail_whole, not_first, is_first, back_more, behind_same}
use Rattle.subject.specs.Problems.{Problem}
use lib.ListN.{length-map}
use Rattle.planner.proofs.query.Query.trace.Goals as goal

-- the cell that was found is the one that is read there, and tells few steps
module _ {C : Type 0} {P : Problem C} {rows : List (Cell C)} {x : ℕ} (f : EndTaken P rows x) (end : Reached C) (row : reached_in rows x ≡ Some end) where
  is_end : f.last ≡ end
  is_end = some_same (sym f.row ∙ row)

  few_steps : end.steps < length rows
  few_steps = let same : f.last.steps ≡ end.steps = ap (λ (z : Reached C). z.steps) is_end in omega (arith, f.few)

-- a cell with steps was reached over a link from a settled cell
module _ {C : Type 0} {P : Problem C} {rows : List (Cell C)} {x : ℕ} (f : EndTaken P rows x) (y : ℕ) (here : Reached C) (row : reached_in rows y ≡ Some here) (more : 0 < here.steps) where
  next : IsNext P rows y here
  next = not_first P rows y here (f.linked y here row) more

  has_link : IsSome here.link
  has_link = ap is_some next.link

  module _ (link : Link) (l : here.link ≡ Some link) where
    by_link : next.by ≡ link
    by_link = some_same (sym next.link ∙ l)

    from : reached_in rows link.from ≡ Some next.before
    from = ap (λ (z : Link). reached_in rows z.from) (sym by_link) ∙ ap reached_row next.row

    on : (rest : List Step) (sum : C) → Trail P rows y here rest sum → Trail P rows link.from next.before (link.step ∷ rest) sum
    on rest sum tr = subst (λ (z : Link). Trail P rows z.from next.before (z.step ∷ rest) sum) by_link (trail_back P rows y here rest sum next tr)

pub unwrap-requires : goal.unwrap-requires
unwrap-requires g c = let inv = c.loop-left.invariant in has_link c.requires.found inv.2.0 c.loop-left.here inv.2.1 (omega arith)

pub one_back-here-requires : goal.one_back-here-requires
one_back-here-requires g c =
    let inv = c.loop-left.invariant in
    let few = few_steps c.requires.found c.reached_at-end.result c.reached_at-end.ensures in
    let size = length-map c.args.work.now.cells.now (λ r. r.cell) in
    record {
      inside = omega (arith, c.requires.room, c.loop-left.auto.run, c.loop-left.auto.left);
      reached = ap is_some (from c.requires.found inv.2.0 c.loop-left.here inv.2.1 (omega arith) c.unwrap.result c.unwrap.ensures);
    }

pub loop-left-preserved : goal.loop-left-preserved
loop-left-preserved g c =
    let P = problem c.args.self.now in
    let rows = cells_of c.args.work.now.cells.now in
    let f = c.requires.found in
    let inv = c.loop-left.invariant in
    let w = inv.2 in
    let left = c.loop-left.left in
    let run = c.loop-left.run in
    let end = c.reached_at-end.result in
    let here = c.loop-left.here in
    let link = c.unwrap.result in
    let more : 0 < here.steps = omega arith in
    let before = (next f w.0 here w.1 more).before in
    let there = from f w.0 here w.1 more link c.unwrap.ensures in
    let q : before ≡ c.one_back-here.result = some_same (sym there ∙ c.one_back-here.ensures.reached) in
    let rest = drop left (take end.steps run) in
    let tr = subst (λ z. Trail P rows link.from z (link.step ∷ rest) end.charge) q (on f w.0 here w.1 more link c.unwrap.ensures rest end.charge w.2) in
    let total = few_steps f end c.reached_at-end.ensures in
    let size = length-map c.args.work.now.cells.now (λ r. r.cell) in
    let again : drop (left - 1) (take end.steps (set run (left - 1) link.step)) ≡ link.step ∷ rest =
    back_more run (left - 1) end.steps link.step (omega arith) (omega (arith, c.requires.room, c.loop-left.auto.run)) ∙ ap (λ (i : ℕ). link.step ∷ drop i (take end.steps run)) (let one : suc (left - 1) ≡ left = omega arith in one) in
    let wrote = c.one_back-here.ensures.wrote in
    let fewer = (next f w.0 here w.1 more).steps in (
      ap (drop end.steps) wrote ∙ behind_same run (left - 1) end.steps link.step (omega arith) ∙ inv.0,
      ap (λ (z : Reached _). z.steps) (sym q) ∙ (let z : before.steps ≡ left - 1 = omega arith in z),
      (link.from, c.one_back-here.ensures.reached, subst (λ (r : List Step). Trail P rows link.from c.one_back-here.result r end.charge) (sym (ap (λ (q : List Step). drop (left - 1) (take end.steps q)) wrote ∙ again)) tr),
    )

pub returns : goal.returns
returns g c =
    let P = problem c.args.self.now in
    let f = c.requires.found in
    let inv = c.loop-left.invariant in
    let w = inv.2 in
    let here = c.loop-left.here in
    let run = take c.reached_at-end.result.steps c.loop-left.run in
    let end = c.reached_at-end.result in
    let none : c.loop-left.left ≡ 0 = omega arith in
    let whole = trail_whole P _ _ here _ end.charge (is_first P _ _ here (f.linked _ here w.1) (inv.1 ∙ none)) w.2 in
    let all : WholeRun P run end.charge = subst (λ (i : ℕ). WholeRun P (drop i run) end.charge) none whole in
    let few = few_steps f end c.reached_at-end.ensures in
    let size = length-map c.args.work.now.cells.now (λ r. r.cell) in
    record {
      steps = omega (arith, c.requires.room);
      least = record { lawful = all.lawful; comes_to = all.comes_to; lowest = subst (λ (z : Reached _). IsLowest P z.charge) (is_end f end c.reached_at-end.ensures) f.lowest };
      once = all.once;
      behind = inv.0;
    }
