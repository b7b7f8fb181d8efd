-- The rows in which a search works are the same from step to step, and so they stay ready for it: what they have to be depends on
-- their number, the order in the queue and the index, each of which a step keeps.
use Rattle.std.proofs.Common.{ℕ, min, sym, refl, ap, ◌∙◌}
use Rattle.subject.specs.declared.queue.PriorityQueue.{Ghosts as QueueGhosts}
use Rattle.subject.specs.Problems.{Problem}
use Rattle.search.specs.Columns.{SameIndex}
use Rattle.search.proofs.Tables.{room_kept, indexed_kept}
use Rattle.planner.specs.declared.workspace.Workspace.{Workspace}
use Rattle.planner.specs.Workspaces.{IsReady, SameWorkspace, ReadyStays}

module _ {C Q : Type 0} {q : QueueGhosts Q C} where
  pub untouched : {w : Workspace C Q} → SameWorkspace q w w
  untouched = record { cells = refl; queue = refl; cell_count = refl; rows = record { as_many = refl; same_lenders = refl } }

  pub one_more : {a b c : Workspace C Q} → SameWorkspace q a b → SameWorkspace q b c → SameWorkspace q a c
  one_more s t = record {
    cells = t.cells ∙ s.cells;
    queue = t.queue ∙ s.queue;
    cell_count = t.cell_count ∙ s.cell_count;
    rows = record { as_many = t.rows.as_many ∙ s.rows.as_many; same_lenders = t.rows.same_lenders ∙ s.rows.same_lenders };
  }

  module _ {P : Problem C} where
    pub ready_kept : {w w' : Workspace C Q}
        → IsReady P q w → SameWorkspace q w w' → q.is_ordered w'.queue.now → SameIndex w.cells.now w'.cells.now → IsReady P q w'
    ready_kept r s o ix = record {
      room = room_kept P _ _ _ _ s.cell_count s.rows.as_many r.room;
      ordered = o;
      indexed = indexed_kept P.site _ _ _ _ (ap (λ (z : ℕ). min P.site.ways z) (sym s.cell_count)) ix r.indexed;
    }

    pub still_untouched : {w : Workspace C Q} → IsReady P q w → ReadyStays P q w w
    still_untouched r = record { ready = r; same = untouched; count = refl }

    pub still_more : {a b c : Workspace C Q} → ReadyStays P q a b → ReadyStays P q b c → ReadyStays P q a c
    still_more s t = record { ready = t.ready; same = one_more s.same t.same; count = t.count ∙ s.count }
