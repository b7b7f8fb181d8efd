-- What stood in the draft stays good behind a new place, and the new place has passed its check.
use Rattle.std.proofs.Common.{◌≡◌, [], ◌∷◌, ◌++◌, is_ok, vec_items, vec_len, sym, ap, ◌∙◌}
use Rattle.survey.specs.Checks.{good_places, good_ways}
use Rattle.survey.specs.Edits.{of_repeater}
use Rattle.survey.proofs.Good.{places_push, ways_more}
use Rattle.survey.proofs.draft.Draft.add_place.Goals as goal

pub invariant_of-self-clause-good_places : goal.invariant_of-self-clause-good_places
invariant_of-self-clause-good_places c =
    let before = c.args.self.now in
    let items : vec_items c.push_reserved.new.self ≡ vec_items before.places ++ of_repeater c.args.repeater ∷ [] = c.push_reserved.ensures.items in
    ap good_places items ∙ places_push (vec_items before.places) (of_repeater c.args.repeater) before.good_places (ap is_ok (sym c.in_ok-check_place.ensures))

pub invariant_of-self-clause-good_ways : goal.invariant_of-self-clause-good_ways
invariant_of-self-clause-good_ways c =
    let before = c.args.self.now in
    ap (λ n. good_ways n (vec_items before.table.ways)) c.push_reserved.ensures.len ∙ ways_more (vec_len before.places) (vec_items before.table.ways) before.good_ways
