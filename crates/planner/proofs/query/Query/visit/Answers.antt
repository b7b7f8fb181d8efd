-- A dominated cell's ways count as offered; another cell's are offered.
use Rattle.std.proofs.Common.{refl, arith}
use Rattle.planner.specs.Workspaces.{problem}
use Rattle.search.specs.Rows.{done_in}
use Rattle.search.specs.Columns.{cells_of}
use Rattle.search.proofs.Covers.{skipped}
use Rattle.search.proofs.Trails.{place_below}
use Rattle.planner.proofs.Kept.{still_untouched}
use Rattle.planner.proofs.query.Query.visit.Goals as goal

pub set_hint-requires : goal.set_hint-requires
set_hint-requires g c = omega (arith, place_below (problem c.args.self.now) c.args.from.at, c.place_of-place.ensures, c.requires.inside)

pub returns-then-is_dominated : goal.returns-then-is_dominated
returns-then-is_dominated g c =
    let laws = g.met.S.Charge.Charge.laws in
    let P = problem c.args.self.now in
    let rows = cells_of c.args.work.now.cells.now in
    let waits = g.Q.PriorityQueue.waits c.args.work.now.queue.now in
    record {
      still = still_untouched c.requires.ready;
      rest = record {
        searching = skipped P laws (done_in rows) waits c.args.from.at c.args.from.here.charge c.requires.turn.expanding (c.if-is_dominated.ensures refl);
        books = c.requires.turn.books;
      };
    }
