-- The calls are as they were; the job is over the same site and has closed what is in the book for the calls tried so far; and those
-- have been tried.
use Rattle.std.proofs.Common.{◌≡◌, take}
use Rattle.job.specs.Book.{after_calls}
use Rattle.job.specs.Jobs.{site_below, closed_by, way_count, state_of}
use Rattle.job.specs.Replay.{calls_of, CallsOutcome}
use Rattle.job.proofs.replay.try_all.Given as goal

abbrev pub invariant-loop-entry : goal.invariant-loop-entry
invariant-loop-entry g l = record {
  calls : calls_of l.entries ≡ calls_of l.initial.entries;
  below : site_below l.job ≡ site_below l.initial.job;
  book : closed_by l.job ≡ after_calls (way_count g.S.Site l.initial.job) (closed_by l.initial.job) (calls_of (take l.entry-index l.entries));
  listed : CallsOutcome (state_of g.S.Site g.S.Charge.Charge l.initial.job) g.Q.PriorityQueue
      (record { cells = l.initial.cells; queue = l.initial.queue; run = l.initial.run })
      (record { cells = l.cells; queue = l.queue; run = l.run }) (take l.entry-index l.entries);
  lenders : g.Q.PriorityQueue.lenders l.queue ≡ g.Q.PriorityQueue.lenders l.initial.queue;
}
