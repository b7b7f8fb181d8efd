-- What was read is entered, and the reader moves on behind the field; or the draft refuses it.
use Rattle.std.proofs.Common.{◌≡◌, ℕ, Ok, Err, MatchResult, rules}
use Rattle.std.proofs.lemmas.Result.{MatchResult-weaker}
use Rattle.subject.specs.declared.refusal.Refusal.{Refusal}
use Rattle.survey.specs.Contents.{contents}
use Rattle.survey_file.specs.Fields.{fault_of}
use Rattle.survey_file.proofs.Entering.{behind, entry_moved}
use Rattle.survey_file.proofs.reader.enter.Goals as goal

pub returns-clause-state : goal.returns-clause-state
returns-clause-state g c =
    let before = contents c.args.draft.now in
    let at = c.args.field.now.at in
    let read = c.in_ok-record.record in
    let here = behind g.E.Entry.enter before g.E.Entry.phase at read in
    let faulted : MatchResult {T = ℕ} {E = Refusal} c.enter.result (λ n. c.map_err.result ≡ Ok n) (λ w. c.map_err.result ≡ Err (fault_of w at)) =
    MatchResult-weaker {X = ℕ} {Y = Refusal} c.enter.result c.map_err.ensures.cases (λ n e. e) (λ w e. search rules) in
    entry_moved g.E.Entry.enter before g.E.Entry.phase at _ read c.phase.result c.enter.result c.map_err.result c.and.result c.in_ok-record.ensures.value
    c.phase.ensures (c.enter.ensures.answer here) faulted c.and.ensures
