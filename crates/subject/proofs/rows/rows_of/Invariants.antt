-- The rows that were entered so far are as many copies as the counter tells, and there is room for all.
use Rattle.std.proofs.Common.{◌≡◌, ◌≤◌, replicate, vec_len, vec_capacity}
use Rattle.subject.proofs.rows.rows_of.Given as goal

abbrev pub invariant-loop : goal.invariant-loop
invariant-loop g l = record {
  rows : l.rows.items ≡ replicate l.counter l.row;
  entered : vec_len l.rows ≡ l.counter;
  room : l.count ≤ vec_capacity l.rows;
}
