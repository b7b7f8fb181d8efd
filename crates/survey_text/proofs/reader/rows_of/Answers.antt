-- Each row that the reader gives is the next record, and it gives none where there is none.
use Rattle.std.proofs.Common.{Bor, List, ℕ, ◌∙◌, sym, refl, inl, map, Some, ◌∷◌, []}
use Rattle.std.proofs.lemmas.List.{map-append}
use Rattle.csv.specs.Reading.{Reached, default_config, strip_bom}
use Rattle.csv.specs.Records.{fields_of}
use Rattle.csv.specs.declared.parser.State.TheVariants as st
use Rattle.csv.proofs.ReadFacts.{rows-end, rows-more}
use Rattle.survey_text.proofs.RowFacts.{records_are}
use Rattle.survey_text.proofs.reader.rows_of.Goals as goal

pub loop-row-init : goal.loop-row-init
unfolding Reached
loop-row-init c =
    let fresh = c.row_reader-reader.ensures in
    let start = c.into_iter-row-iterator.ensures.into_iter_gives in
    let rdr = c.into_byte_records-row-items.ensures.rdr in
    let left = c.into_byte_records-row-items.ensures.left in
    rw (start, rdr, c.new-rows.ensures.items) (
      fresh.trim,
      fresh.ready,
      left,
      fresh.config,
      fresh.flexible,
      strip_bom c.args.text.now,
      fresh.source,
      (sym fresh.state, refl),
    )

pub loop-row-preserved : goal.loop-row-preserved
loop-row-preserved c =
    let inv = c.loop-row.invariant in
    let steps = rw (c.in-Some.is, c.in-Ok.is) at (c.next.ensures.steps inv.2 inv.0) in
    let s = steps.0 inv.1 in
    let items = c.in_ok-push-in-Ok.ensures.items in
    let m = rows-more (λ (s : Bor (List ℕ)). Some s.now) c.loop-row.row-iterator.rdr c.next.new.self.rdr (fields_of c.in-Ok.row)
    default_config st.StartRecord (strip_bom c.args.text.now) inv.5 (map fields_of c.loop-row.rows.items) inv.3 inv.6 inv.7 s.0 in
    (s.0.3 ∙ inv.0, inl s.1, s.2, s.0.2 ∙ inv.3, steps.3 ∙ inv.4, m.0, m.1, rw (items, map-append fields_of c.loop-row.rows.items (c.in-Ok.row ∷ [])) m.2)

pub returns : goal.returns
returns c =
    let inv = c.loop-row.invariant in
    let s = rw c.in-None.is at ((c.next.ensures.steps inv.2 inv.0).0 inv.1) in
    let none = rows-end (λ (s : Bor (List ℕ)). Some s.now) c.loop-row.row-iterator.rdr c.next.new.self.rdr [] default_config inv.5 inv.3 inv.6 s in
    records_are (strip_bom c.args.text.now) (map fields_of c.loop-row.rows.items) (c.loop-row.row-iterator.rdr.state, inv.5, inv.7, none)
