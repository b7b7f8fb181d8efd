-- The text of a call on a job, as bytes; the text of a list of calls, a line to each; and the first line of a text. Stands on the
-- calls and on decimal numbers.
use Rattle.std.specs.Prelude.{◌≡◌, ℕ, ◌^◌, ◌<◌, ◌≢◌, ◌⊎◌, List, [], ◌∷◌, ◌++◌, length, decimal, slice_index}
use Rattle.subject.specs.declared.run.Request.{Request}
use Rattle.job.specs.declared.list.Call.{Call}
use Rattle.job.specs.declared.list.Call.TheVariants.{Close, Reopen, Plan}

-- "close ", "reopen ", "plan " and " "
abbrev pub close_word : List ℕ
close_word = 99 ∷ 108 ∷ 111 ∷ 115 ∷ 101 ∷ 32 ∷ []

abbrev pub reopen_word : List ℕ
reopen_word = 114 ∷ 101 ∷ 111 ∷ 112 ∷ 101 ∷ 110 ∷ 32 ∷ []

abbrev pub plan_word : List ℕ
plan_word = 112 ∷ 108 ∷ 97 ∷ 110 ∷ 32 ∷ []

abbrev pub space : List ℕ
space = 32 ∷ []

abbrev pub request_text : Request → List ℕ
request_text q = decimal q.start ++ (space ++ (decimal q.end ++ (space ++ decimal q.bound)))

-- a word and its numbers, in decimal, with one space between
abbrev pub call_text : Call → List ℕ
call_text (Close w) = close_word ++ decimal w
call_text (Reopen w) = reopen_word ++ decimal w
call_text (Plan q) = plan_word ++ request_text q

-- the numbers of a call are such as a program holds
abbrev pub Counted : Call → Type 0
Counted (Close w) = w < 2 ^ 64
Counted (Reopen w) = w < 2 ^ 64
Counted (Plan q) = (q.start < 2 ^ 64) × (q.end < 2 ^ 64) × (q.bound < 2 ^ 64)

-- the text is that of no call
abbrev pub IsNoCall : List ℕ → Type 0
IsNoCall text = (c : Call) → Counted c → text ≢ call_text c

-- the lines of some calls, each with a line feed behind it
abbrev pub lines_text : List Call → List ℕ
lines_text [] = []
lines_text (c ∷ cs) = call_text c ++ (10 ∷ lines_text cs)

-- the text is that of the calls, where the last line feed may be left out
abbrev pub TextOf : List ℕ → List Call → Type 0
TextOf text calls = (text ≡ lines_text calls) ⊎ (text ++ (10 ∷ []) ≡ lines_text calls)

-- a text cut behind its first line feed, or the whole of it where it has none
abbrev pub CutAt : List ℕ → List ℕ → List ℕ → Type 0
CutAt text line others = (text ≡ line ++ (10 ∷ others)) ⊎ ((text ≡ line) × (others ≡ []))

-- the first line of a text, in which no line feed stands, and what stands behind it
pub record FirstLine (text line others : List ℕ) : Type 0 where
  pub cut : CutAt text line others
  pub whole : (i : ℕ) → i < length line → slice_index line i ≢ 10
