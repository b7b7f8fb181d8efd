-- In the end all places are counted, and the ways have fifteen bytes each.
use Rattle.std.proofs.Common.{length, ap, ◌∙◌, arith}
use Rattle.std.specs.List.{flat_map}
use Rattle.std.proofs.lemmas.List.{take_all}
use Rattle.survey.specs.Sealing.{sealed_contents}
use Rattle.survey_file.specs.Encode.{place_field}
use Rattle.survey_file.proofs.Writing.{file_long}
use Rattle.survey_file.proofs.writer.file_length.Goals as goal

pub returns-clause-value : goal.returns-clause-value
returns-clause-value c =
    let read = c.all_places-place-items in
    let all = ap (λ ps. length (flat_map place_field ps)) (take_all c.loop-place.place-index read.result.now (omega arith) ∙ read.ensures.value) in
    let long = file_long (sealed_contents c.args.survey.now) in
    omega (arith, c.loop-place.invariant.0, c.ways.ensures.value)
