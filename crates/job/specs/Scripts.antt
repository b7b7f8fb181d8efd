-- Which script a text is, and why a text is none, also in words: the first line that is the text of no call, or a last call that is
-- no plan, or no line at all. Stands on the texts of calls.
use Rattle.std.specs.Prelude.{◌≡◌, ℕ, ◌+◌, List, [], ◌∷◌, ◌++◌, length, codes, decimal, vec_items}
use Rattle.std.specs.List.{AllByRecursion}
use Rattle.subject.specs.declared.money.Money.{Money}
use Rattle.job.specs.declared.list.Call.{Call}
use Rattle.job.specs.declared.list.Call.TheVariants.{Close, Reopen, Plan}
use Rattle.job.specs.declared.list.Answer.TheVariants.{Untried}
use Rattle.job.specs.declared.list.Entry.{Entry}
use Rattle.job.specs.Replay.{calls_of}
use Rattle.job.specs.declared.script.Script.{Script}
use Rattle.job.specs.declared.script.Trouble.{Trouble}
use Rattle.job.specs.Texts.{IsNoCall, lines_text, TextOf, FirstLine}
use Rattle.job.specs.declared.script.Trouble.TheVariants as trouble

-- none of the entries is tried yet
abbrev pub AllUntried : List (Entry Money) → Type 0
AllUntried entries = AllByRecursion (λ e. e.answer ≡ Untried) entries

-- the text is that of the script's calls and its plan behind them, and none of them is tried yet
pub record ScriptOf (text : List ℕ) (s : Script) : Type 0 where
  pub text_of : TextOf text (calls_of (vec_items s.entries) ++ Plan s.last ∷ [])
  pub untried : AllUntried (vec_items s.entries)

-- the line with this number, counted from 1, is the text of no call, and each line before it is that of a call
pub record BadLine (text : List ℕ) (number : ℕ) : Type 0 where
  pub calls : List Call
  pub rest : List ℕ
  pub line : List ℕ
  pub others : List ℕ
  pub before : text ≡ lines_text calls ++ rest
  pub some : rest ≡ [] → ⊥
  pub first : FirstLine rest line others
  pub no_call : IsNoCall line
  pub counted : number ≡ length calls + 1

abbrev pub IsNotPlan : Call → Type 0
IsNotPlan (Close w) = Unit {0}
IsNotPlan (Reopen w) = Unit {0}
IsNotPlan (Plan q) = ⊥

-- the text is that of calls, so many that the last has this number, and that one is no plan
pub record EndsWithoutPlan (calls : List Call) (number : ℕ) : Type 0 where
  pub before : List Call
  pub last : Call
  pub all : calls ≡ before ++ last ∷ []
  pub no_plan : IsNotPlan last
  pub counted : number ≡ length calls

-- why a list of calls that was read is no script
abbrev pub EndTrouble : List Call → Trouble → Type 0
EndTrouble calls (trouble.NoCall n) = ⊥
EndTrouble calls (trouble.NoPlan n) = EndsWithoutPlan calls n
EndTrouble calls trouble.NoLines = calls ≡ []

-- why a text is no script
abbrev pub TroubleOf : List ℕ → Trouble → Type 0
TroubleOf text (trouble.NoCall n) = BadLine text n
TroubleOf text (trouble.NoPlan n) = (calls : List Call) × TextOf text calls × EndsWithoutPlan calls n
TroubleOf text trouble.NoLines = text ≡ []

-- a trouble, told in words
abbrev pub trouble_text : Trouble → List ℕ
trouble_text (trouble.NoCall n) = codes "line " ++ (decimal n ++ codes " cannot be read: it is not \"close W\", \"reopen W\" or \"plan START END BOUND\"")
trouble_text (trouble.NoPlan n) = codes "line " ++ (decimal n ++ codes ", the last, is not a plan")
trouble_text trouble.NoLines = codes "the text has no line"
