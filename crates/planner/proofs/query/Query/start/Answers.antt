-- After clearing, indexing and one put, the start's cell alone waits, with nothing: the state in which a search begins.
use Rattle.std.proofs.Common.{◌≡◌, ℕ, ◌+◌, ◌*◌, ◌<◌, min, List, None, length, replicate, set, sym, refl, ap, ◌∙◌, subst, arith}
use Rattle.search.proofs.Tables.{room_kept, indexed_kept, blank_cells, blank_heads}
use Rattle.planner.specs.Workspaces.{problem}
use Rattle.subject.specs.Queues.{IsPut}
use Rattle.search.specs.declared.cell.Cell.{Cell}
use Rattle.search.specs.declared.cell.Cell.TheVariants.{Waiting}
use Rattle.search.specs.declared.cell.Reached.{Reached}
use Rattle.search.specs.Columns.{cells_of, blank_row}
use Rattle.search.proofs.Trails.{cell_place, cell_loss}
use Rattle.search.proofs.Turns.{start_books, start_search}
use lib.Arith.{digits_lt}
use lib.ListN.{length-map}
use Rattle.planner.proofs.query.Query.start.Goals as goal

pub returns : goal.returns
returns g c =
    let laws = g.met.S.Charge.Charge.laws in
    let P = problem c.args.self.now in
    let n = length c.args.work.now.cells.now in
    let h : 0 < P.request.bound + 1 = omega arith in
    let lt : P.request.start * (P.request.bound + 1) + 0 < P.site.places * (P.request.bound + 1) = digits_lt c.requires.start h in
    let rows : List (Cell g.row.S-Charge.Denot) = cells_of (replicate n blank_row) in
    let rows' = cells_of c.wait.new.self.cells.now in
    let at = c.cell_of-first.result in
    let empty = g.Q.PriorityQueue.waits c.clear-2.new.self in
    let waits = g.Q.PriorityQueue.waits c.wait.new.self.queue.now in
    let new : Reached g.row.S-Charge.Denot = record { charge = c.nothing.result; link = None; steps = 0 } in
    let was : cells_of c.build.new.cells ≡ rows = c.build.ensures.cells ∙ ap cells_of c.clear.ensures in
    let size : length rows ≡ n = length-map (replicate n blank_row) (λ r. r.cell) ∙ sym (ap length c.clear.ensures) ∙ c.clear.auto.cells in
    let inside : at < length rows = omega (arith, c.cell_of-first.ensures, c.requires.room.cells_suffice) in
    let cell_count = c.wait.ensures.same.cell_count ∙ c.build.auto.cells ∙ c.clear.auto.cells in
    let written = c.wait.ensures.cells ∙ ap (λ rs. set rs at (Waiting new)) was in
    let put = subst (λ z. IsPut empty waits at z) c.nothing.ensures c.wait.ensures.put in
    let place = cell_place P P.request.start 0 at (omega arith) c.cell_of-first.ensures in
    let loss = cell_loss P P.request.start 0 at (omega arith) c.cell_of-first.ensures in
    record {
      ready = record {
        room = room_kept P _ _ _ _ cell_count (c.wait.ensures.same.rows.as_many ∙ c.clear-2.ensures.same.as_many) c.requires.room;
        ordered = c.wait.ensures.ordered;
        indexed = indexed_kept P.site _ _ _ _ (ap (λ (z : ℕ). min P.site.ways z) (sym (c.wait.ensures.same.cell_count ∙ c.build.auto.cells))) c.wait.ensures.index c.build.ensures.indexed;
      };
      same = record { cells = c.wait.ensures.same.cells; queue = c.wait.ensures.same.queue; cell_count = cell_count; rows = record { as_many = c.wait.ensures.same.rows.as_many ∙ c.clear-2.ensures.same.as_many; same_lenders = c.wait.ensures.same.rows.same_lenders ∙ c.clear-2.ensures.same.same_lenders } };
      rest = record {
        searching = start_search P laws rows rows' empty waits at new inside (blank_cells n) written c.clear-2.ensures.empty put c.nothing.ensures refl refl place loss;
        books = start_books P laws rows rows' empty waits at new inside (blank_cells n) written c.clear-2.ensures.empty put c.nothing.ensures refl refl place loss;
      };
    }

pub build-requires-clause-empty : goal.build-requires-clause-empty
build-requires-clause-empty g c = λ p. rw c.clear.ensures (blank_heads g.row.S-Charge.Denot (length c.args.work.now.cells.now) p)

pub wait-requires : goal.wait-requires
wait-requires g c =
    let P = problem c.args.self.now in
    let h : 0 < c.args.self.now.request.bound + 1 = omega arith in
    let lt : c.args.self.now.request.start * (c.args.self.now.request.bound + 1) + 0 < P.site.places * (c.args.self.now.request.bound + 1) = digits_lt c.requires.start h in
    record {
      inside = omega (arith, c.cell_of-first.ensures, c.requires.room.cells_suffice, c.clear.auto.cells, c.build.auto.cells);
      room = omega (arith, c.cell_of-first.ensures, c.requires.room.queue_suffices, c.clear-2.ensures.same.as_many);
      ordered = c.clear-2.ensures.ordered;
    }
