-- A request in six bytes: start, end and bound, of two bytes each, high byte first. Stands on the fields of survey
-- files.
use Rattle.std.specs.Prelude.{ℕ, cond, List, length, Ok, Result, nat_lt}
use Rattle.subject.specs.declared.refusal.Refusal.TheVariants.{CutShort}
use Rattle.subject.specs.declared.refusal.Fault.{Fault}
use Rattle.subject.specs.declared.run.Request.{Request}
use Rattle.survey_file.specs.Fields.{fault, two_at}

abbrev pub request_at : List ℕ → Request
request_at bs = record { start = two_at bs 0; end = two_at bs 2; bound = two_at bs 4 }

-- under six bytes a request is cut short
abbrev pub request_in : List ℕ → Result Request Fault
request_in bs = cond (nat_lt (length bs) 6) (fault CutShort 0) (Ok (request_at bs))
