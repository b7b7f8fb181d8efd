-- What a field says is entered into the draft: the state that the reader answers is what the decoder says. By cases on
-- whether the draft takes the entry.
use Rattle.std.proofs.Common.{◌≡◌, ℕ, Ok, Err, Result, MatchResult, refl, ap, ◌∙◌, arith}
use Rattle.std.specs.Result.{result_and}
use Rattle.subject.specs.declared.refusal.Refusal.{Refusal}
use Rattle.subject.specs.declared.refusal.Fault.{Fault}
use Rattle.survey.specs.Contents.{Contents}
use Rattle.survey.specs.Checks.{then}
use Rattle.survey.specs.Edits.{answer_of}
use Rattle.survey_file.specs.declared.reader.Phase.{Phase}
use Rattle.survey_file.specs.declared.reader.State.{State}
use Rattle.survey_file.specs.declared.record.Record.{Record}
use Rattle.survey_file.specs.Fields.{fault_of, with_place}
use Rattle.survey_file.specs.Decode.{Turn, to, state_of}

-- what a draft with the contents c makes of a record, behind which the reader has come to p
module _ {E : Type 0} (entered : Contents → E → Result Contents Refusal) (c : Contents) (p : Phase) (at : ℕ) where
  abbrev pub entering : Result (Record E) Fault → Result Turn Fault
  entering r = then r (λ x. then (with_place (entered c x.entry) at) (λ d. Ok (to p x.next d)))

  abbrev pub behind : Record E → State
  behind x = record { phase = p; at = x.next }

  moved : (s : State) (e : Result Contents Refusal) (q : Result ℕ Refusal) (m : Result ℕ Fault) → answer_of s q ≡ answer_of s e
      → MatchResult q (λ n. m ≡ Ok n) (λ w. m ≡ Err (fault_of w at))
      → result_and m (Ok s) ≡ state_of (then (with_place e at) (λ d. Ok (record { state = s; draft = d })))
  moved s (Ok d) (Ok n) (Ok k) a b = refl
  moved s (Err e) (Err w) (Err f) a b = grind arith
  moved s e q m a b = grind arith

  -- a refusal is a fault of the field, and where there is none the reader has come behind it
  pub entry_moved : (r : Result (Record E) Fault) (x : Record E) (s : Phase) (q : Result ℕ Refusal) (m : Result ℕ Fault) (out : Result State Fault) → Ok x ≡ r
      → s ≡ p → answer_of (behind x) q ≡ answer_of (behind x) (entered c x.entry) → MatchResult q (λ n. m ≡ Ok n) (λ w. m ≡ Err (fault_of w at))
      → out ≡ result_and m (Ok (record { phase = s; at = x.next })) → out ≡ state_of (entering r)
  entry_moved r x s q m out read there told b both =
      both ∙ ap (λ y. result_and m (Ok (record { phase = y; at = x.next }))) there ∙ moved (behind x) (entered c x.entry) q m told b ∙ ap (λ y. state_of (entering y)) read
