-- Each row is written behind those before it.
use Rattle.std.proofs.Common.{◌≢◌, ◌∙◌, Some, map, take, ap, sym, arith}
use Rattle.csv.specs.Records.{fields_of}
use Rattle.csv.specs.Writing.{writer_setup}
use Rattle.csv.specs.declared.writer.QuoteStyle.TheVariants as style
use Rattle.survey_text.proofs.ListFacts.{mapped_more}
use Rattle.survey_text.proofs.WriteFacts.{row_appended, rows_text_more}
use Rattle.survey_text.specs.Written.{rows_text}
use Rattle.survey_text.proofs.rows.rows_text.Goals as goal

pub loop-row-preserved : goal.loop-row-preserved
loop-row-preserved c =
    let inv = c.loop-row.invariant in
    let old = c.loop-row.writer in
    let told = c.in-Ok.ensures in
    let fields = fields_of c.row-item.result in
    let before = rows_text (map fields_of (take c.loop-row.row-index c.args.rows.now)) in
    let plain : (writer_setup old).style ≢ style.NonNumeric = rw inv.0 (λ e. cc e) in
    let wrote = told.bytes inv.1 inv.2 plain in
    let more = mapped_more fields_of c.args.rows.now c.loop-row.row-index c.row-item.result (omega arith) c.row-item.is in
    let here = row_appended (writer_setup old) before _ _ fields inv.0 inv.3 wrote in (
      told.setup ∙ inv.0,
      told.ended,
      told.clean,
      here ∙ sym (ap (λ rows. Some (rows_text rows)) more ∙ ap Some (rows_text_more (map fields_of (take c.loop-row.row-index c.args.rows.now)) fields)),
    )
