-- Each row leads on or ends the walk.
use Rattle.std.proofs.Common.{◌≤◌, ◌∙◌, length, map, take, subst, ap, sym, Err, arith}
use Rattle.std.proofs.lemmas.List.{length-map, take-map}
use Rattle.csv.specs.Records.{fields_of}
use Rattle.survey_text.specs.Texts.{progress, trouble_on}
use Rattle.survey_text.proofs.ListFacts.{mapped_more}
use Rattle.survey_text.proofs.LineBack.{AllPlain, row_stands, turned_plain, plain_more}
use Rattle.survey_text.proofs.WalkFacts.{walk_stops, walk_goes}
use Rattle.survey_text.proofs.read.read_rows.Goals as goal

pub returns-in-Err : goal.returns-in-Err
returns-in-Err c =
    let inv = c.loop-number.invariant in
    let bad = rw c.in-Err.is at c.in_ok-turn.ensures in
    let stops = walk_stops fields_of c.args.text.now c.args.rows.now c.loop-number.number (progress c.loop-number.reading) c.index-rows-number.result
    c.in-Err.cause _ (omega arith) c.index-rows-number.is bad inv.0 in
    let rows = map fields_of c.args.rows.now in
    let some : c.loop-number.number ≤ length rows = omega (arith, length-map c.args.rows.now fields_of) in
    let front = subst AllPlain (sym (take-map fields_of c.loop-number.number c.args.rows.now)) inv.1 in
    let line = row_stands c.args.text.now rows c.loop-number.number c.requires some front in
    stops ∙ ap (λ l. Err (trouble_on l (fields_of c.index-rows-number.result) c.in-Err.cause)) (sym line) ∙ ap Err (sym c.in_ok-trouble-in-Err.ensures)

pub loop-number-preserved : goal.loop-number-preserved
loop-number-preserved c =
    let inv = c.loop-number.invariant in
    let rows = c.args.rows.now in
    let number = c.loop-number.number in
    let good = rw c.in-Ok.is at c.in_ok-turn.ensures in
    let on = walk_goes fields_of c.args.text.now rows number (progress c.loop-number.reading) (progress c.turn.new.self)
    c.index-rows-number.result _ (omega arith) c.index-rows-number.is good inv.0 in
    let plain = turned_plain (progress c.loop-number.reading) (progress c.turn.new.self) (fields_of c.index-rows-number.result) good in
    let more = mapped_more fields_of rows number c.index-rows-number.result (omega arith) c.index-rows-number.is in
    (on, subst AllPlain (sym more) (plain_more (map fields_of (take number rows)) (fields_of c.index-rows-number.result) inv.1 plain))
