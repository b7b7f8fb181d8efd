-- The head, the places, the ways and the end are laid one behind the other, and there is room for each.
use Rattle.std.proofs.Common.{vec_len, ap, ◌∙◌}
use Rattle.survey.specs.Checks.{good_ways}
use Rattle.survey.specs.Sealing.{sealed_contents}
use Rattle.survey_file.proofs.ReadsBack.{sealed_reads}
use Rattle.survey_file.proofs.Writing.{HasRoom, letters_fit, front_places, ways_fit, front_ways, end_answer, end_bytes}
use Rattle.survey_file.proofs.writer.put_file.Goals as goal

pub put_all-requires-2 : goal.put_all-requires-2
put_all-requires-2 c =
    let draft = c.args.survey.now.draft in
    let room : HasRoom c.args.out.now c.all_places.result.now c.all_ways.result.now (sealed_contents c.args.survey.now) =
    record { places = c.all_places.ensures.value; ways = c.all_ways.ensures.value; room = c.requires } in
    let head = c.in_ok-after_head.ensures in
    let placed = c.in_ok-after_places.ensures in
    record {
      writable = letters_fit (vec_len draft.places) c.all_ways.result.now (ap (good_ways (vec_len draft.places)) c.all_ways.ensures.value ∙ draft.good_ways);
      room = ways_fit _ _ _ _ room _ _ (front_places _ _ _ _ room _ _ _ _ head.answer head.after placed.answer placed.after);
    }

pub returns : goal.returns
returns c =
    let room : HasRoom c.args.out.now c.all_places.result.now c.all_ways.result.now (sealed_contents c.args.survey.now) =
    record { places = c.all_places.ensures.value; ways = c.all_ways.ensures.value; room = c.requires } in
    let head = c.in_ok-after_head.ensures in
    let placed = c.in_ok-after_places.ensures in
    let laid = c.in_ok-after_ways.ensures in
    let ways = front_ways _ _ _ _ room _ _ _ _ (front_places _ _ _ _ room _ _ _ _ head.answer head.after placed.answer placed.after) laid.answer laid.after in
    record {
      answer = c.put-2.ensures.answer ∙ end_answer _ _ _ _ room _ _ ways;
      after = c.put-2.ensures.after ∙ end_bytes _ _ _ _ room _ _ ways;
      reads = sealed_reads c.args.survey.now;
    }
