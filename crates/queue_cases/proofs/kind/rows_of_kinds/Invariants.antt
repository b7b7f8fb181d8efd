-- the rows of the kinds so far
use Rattle.std.proofs.Common.{◌≡◌, map, replicate, vec_len}
use Rattle.queue_cases.proofs.kind.rows_of_kinds.Given as goal

abbrev pub invariant-loop-kind : goal.invariant-loop-kind
invariant-loop-kind l = map vec_len l.rows_of_kinds.items ≡ replicate l._kind-index l.row_count
