-- The ways of the draft are good, and the new one has passed its check.
use Rattle.std.proofs.Common.{◌≡◌, ◌<◌, true, ltb, [], ◌∷◌, ◌++◌, is_ok, vec_items, vec_len, sym, ap, ◌∙◌, arith, rules}
use Rattle.std.proofs.lemmas.Bool.Decides.{nat_tests}
use Rattle.survey.specs.Checks.{way_check, good_way, good_ways}
use Rattle.survey.proofs.Good.{cond_both, ways_push}
use Rattle.survey.proofs.draft.Draft.add_way.Goals as goal

checked : (c : goal.After-push_reserved) → good_way (vec_len c.args.self.now.places) c.args.way ≡ true
checked c =
    let n = vec_len c.args.self.now.places in
    let byte : c.args.way.grade < 256 = search rules in
    cond_both (is_ok (way_check n c.args.way)) (ltb c.args.way.grade 256)
    (ap (λ m. is_ok (way_check m c.args.way)) (sym c.len.ensures) ∙ ap is_ok (sym c.in_ok-check_way.ensures))
    (grind (arith, nat_tests))

pub invariant_of-self-clause-good_ways : goal.invariant_of-self-clause-good_ways
invariant_of-self-clause-good_ways c =
    let before = c.args.self.now in
    let items : vec_items c.push_reserved.new.self ≡ vec_items before.table.ways ++ c.args.way ∷ [] = c.push_reserved.ensures.items in
    ap (good_ways (vec_len before.places)) items ∙ ways_push _ (vec_items before.table.ways) c.args.way before.good_ways (checked c)
