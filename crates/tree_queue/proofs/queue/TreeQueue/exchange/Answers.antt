-- two cells that change their positions make the exchange of two columns, which keeps every cell at one position
use Rattle.std.proofs.Common.{◌≡◌, length, arith}
use Rattle.tree_queue.specs.Rows.{cells, positions}
use Rattle.tree_queue.proofs.Columns.{read}
use Rattle.tree_queue.proofs.Swaps.{both_written}
use Rattle.tree_queue.proofs.queue.TreeQueue.exchange.Goals as goal

pub invariant_of-self-clause-placement : goal.invariant_of-self-clause-placement
invariant_of-self-clause-placement g c =
    let queue = c.args.self.now in
    let rows = queue.rows.now in
    let a = read (λ s. s.cell) rows c.args.i c.index-rows-i.result 0 c.requires.i in
    let b = read (λ s. s.cell) rows c.args.j c.index-rows-j.result 0 c.requires.j in
    let last = c.place-2.new.rows in
    let same_length : length last ≡ length rows = omega arith in
    rw same_length (both_written {cs' = cells last} {ps' = positions last} queue.placement c.requires.i c.requires.j (cc) (cc)).1

pub returns-clause-exchange : goal.returns-clause-exchange
returns-clause-exchange g c =
    let queue = c.args.self.now in
    let rows = queue.rows.now in
    let a = read (λ s. s.cell) rows c.args.i c.index-rows-i.result 0 c.requires.i in
    let b = read (λ s. s.cell) rows c.args.j c.index-rows-j.result 0 c.requires.j in
    (both_written queue.placement c.requires.i c.requires.j (cc) (cc)).0
