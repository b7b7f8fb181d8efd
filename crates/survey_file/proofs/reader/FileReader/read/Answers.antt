-- What was read goes into the caller's draft, and the file is the one written from it. A fault is one of a file.
use Rattle.std.proofs.Common.{sym, ap, ◌∙◌}
use Rattle.survey.specs.Contents.{contents}
use Rattle.survey_file.specs.Encode.{file_of}
use Rattle.survey_file.proofs.FileRefusals.{fault_of_file}
use Rattle.survey_file.proofs.OnlyFile.{only_file}
use Rattle.survey_file.proofs.reader.FileReader.read.Goals as goal

pub returns-clause-written : goal.returns-clause-written
returns-clause-written c =
    only_file c.args.bytes.now (contents c.fill.new.draft) (λ i below. (c.type_inv.bytes i).fits) c.in_default.ensures.draft
    ∙ ap (λ d. file_of (contents d)) (sym c.swap.ensures.y_after)

pub returns-in-Err-clause-refusal : goal.returns-in-Err-clause-refusal
returns-in-Err-clause-refusal c = fault_of_file c.args.bytes.now c.in-Err.fault c.in-Err.ensures.answer
