-- The text of a request falls at its two spaces into the digits of its three numbers.
use Rattle.std.proofs.Common.{◌∷◌, ◌++◌, Some, None, decimal, arith}
use Rattle.std.proofs.lemmas.Str.Pattern.{split_after}
use Rattle.job.proofs.Splits.{no_space}
use Rattle.job.proofs.call_text.plan_of.Goals as goal

pub returns-in_err-start : goal.returns-in_err-start
returns-in_err-start c q counted e = absurd (split_after 32 c.args.rest.now (decimal q.start) (decimal q.end ++ (32 ∷ decimal q.bound)) None c.in_err-start.ensures.cases (omega arith) e (no_space q.start counted.0))

pub returns-in_err-end : goal.returns-in_err-end
returns-in_err-end c q counted e =
    let first = split_after 32 c.args.rest.now (decimal q.start) (decimal q.end ++ (32 ∷ decimal q.bound)) (Some (c.in_ok-start.start, c.in_ok-start.others)) c.in_ok-start.ensures.cases (omega arith) e (no_space q.start counted.0) in
    absurd (split_after 32 c.in_ok-start.others.now (decimal q.end) (decimal q.bound) None c.in_err-end.ensures.cases (omega arith) first.1 (no_space q.end counted.1))

pub returns : goal.returns
returns c q counted e =
    let first = split_after 32 c.args.rest.now (decimal q.start) (decimal q.end ++ (32 ∷ decimal q.bound)) (Some (c.in_ok-start.start, c.in_ok-start.others)) c.in_ok-start.ensures.cases (omega arith) e (no_space q.start counted.0) in
    let second = split_after 32 c.in_ok-start.others.now (decimal q.end) (decimal q.bound) (Some (c.in_ok-end.end, c.in_ok-end.bound)) c.in_ok-end.ensures.cases (omega arith) first.1 (no_space q.end counted.1) in
    c.plan_with.ensures q (c.number.ensures q.start counted.0 first.0) (c.number-2.ensures q.end counted.1 second.0) (c.number-3.ensures q.bound counted.2 second.1)
