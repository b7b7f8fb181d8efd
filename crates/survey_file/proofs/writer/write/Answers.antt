-- Where the file is longer than the bytes it does not fit, and nothing is laid.
use Rattle.std.proofs.Common.{◌+◌, ◌<◌, length, sym, arith}
use Rattle.survey_file.proofs.Pieces.{put_answer-short, put_bytes-short}
use Rattle.survey.specs.Sealing.{sealed_contents}
use Rattle.survey_file.specs.Encode.{file_of}
use Rattle.survey_file.proofs.ReadsBack.{sealed_reads}
use Rattle.survey_file.proofs.writer.write.Goals as goal

pub returns-then-file_length-out : goal.returns-then-file_length-out
returns-then-file_length-out c =
    let file = file_of (sealed_contents c.args.survey.now) in
    let out = c.args.out.now in
    let short : length out < 0 + length file = omega (arith, c.file_length.ensures.value, c.if-file_length-out.true) in
    record { answer = sym (put_answer-short out 0 file short); after = sym (put_bytes-short out 0 file short); reads = sealed_reads c.args.survey.now }
