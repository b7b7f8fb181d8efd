-- The index grows by one way in each turn, from an empty one.
use Rattle.std.proofs.Common.{◌≡◌, ℕ, min, length, ap, ◌∙◌, subst, arith}
use Rattle.search.specs.Columns.{heads_of, nexts_of}
use Rattle.search.specs.Index.{IsIndexed}
use Rattle.planner.proofs.index.build.Goals as goal

pub returns : goal.returns
returns g c =
    let m = g.S.Site.meaning c.args.site.now in
    let rows = c.loop-n.cells in
    let all : c.loop-n.n ≡ c.min-limit.result = omega arith in
    let limit : c.loop-n.n ≡ min m.ways (length c.args.cells.now) = all ∙ c.min-limit.ensures ∙ ap (λ (z : ℕ). min z (length c.args.cells.now)) c.ways.ensures in
    record {
      cells = c.loop-n.invariant.0;
      indexed = subst (λ (z : ℕ). IsIndexed m (heads_of rows) (nexts_of rows) z) limit c.loop-n.invariant.1;
    }
