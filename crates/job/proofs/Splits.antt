-- The text of a call falls into its words at the spaces, since neither a name nor the digits of a number hold one; and it is
-- plain ASCII.
use Rattle.std.proofs.Common.{◌≡◌, ℕ, ◌^◌, ◌<◌, List, ◌++◌, length, get_or, IsAscii, decimal, arith}
use Rattle.std.specs.List.{AllByRecursion as All}
use Rattle.std.proofs.ByRecursion.{IsAscii-from_all, All-from_ascii, All-append}
use Rattle.std.proofs.lemmas.Fmt.{decimal_is_IsNumeral, IsAscii-decimal}
use Rattle.std.proofs.lemmas.Str.Parse.{digit_at}
use Rattle.subject.specs.declared.run.Request.{Request}
use Rattle.job.specs.declared.list.Call.{Call}
use Rattle.job.specs.declared.list.Call.TheVariants.{Close, Reopen, Plan}
use Rattle.job.specs.Texts.{close_word, reopen_word, plan_word, space, request_text, call_text, Counted}

pub no_space : (n : ℕ) → n < 2 ^ 64 → (i : ℕ) → i < length (decimal n) → get_or (decimal n) i 0 ≡ 32 → ⊥
no_space n small i h e =
    let digit = digit_at (decimal n) i (decimal_is_IsNumeral n small).0.1 h in
    let low = digit.0 in
    omega arith

word_and : (word rest : List ℕ) → All (λ b. b < 128) word → IsAscii rest → IsAscii (word ++ rest)
word_and word rest w r = IsAscii-from_all (word ++ rest) (All-append (λ b. b < 128) word rest w (All-from_ascii rest r))

request_ascii : (q : Request) → Counted (Plan q) → IsAscii (request_text q)
request_ascii q (start, end, bound) =
    word_and (decimal q.start) (space ++ (decimal q.end ++ (space ++ decimal q.bound))) (All-from_ascii _ (IsAscii-decimal q.start start))
    (word_and space (decimal q.end ++ (space ++ decimal q.bound)) (omega arith, tt)
    (word_and (decimal q.end) (space ++ decimal q.bound) (All-from_ascii _ (IsAscii-decimal q.end end))
    (word_and space (decimal q.bound) (omega arith, tt) (IsAscii-decimal q.bound bound))))

-- the text of a call is plain ASCII
pub call_ascii : (k : Call) → Counted k → IsAscii (call_text k)
call_ascii (Close w) small = word_and close_word (decimal w) (omega arith, (omega arith, (omega arith, (omega arith, (omega arith, (omega arith, tt)))))) (IsAscii-decimal w small)
call_ascii (Reopen w) small = word_and reopen_word (decimal w) (omega arith, (omega arith, (omega arith, (omega arith, (omega arith, (omega arith, (omega arith, tt))))))) (IsAscii-decimal w small)
call_ascii (Plan q) small = word_and plan_word (request_text q) (omega arith, (omega arith, (omega arith, (omega arith, (omega arith, tt))))) (request_ascii q small)
