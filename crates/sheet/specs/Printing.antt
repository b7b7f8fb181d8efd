-- What is printed to a writer: of a file that is read nothing, or the line of its fault; of steps their sheet, or the
-- line of a refusal. Stands on sheets, on refusal lines, and on the bytes that a writer holds, where they are known.
use Rattle.std.specs.Prelude.{◌≡◌, ℕ, ◌≤◌, ◌⊎◌, List, [], length, Ok, Err, Result}
use Rattle.std.specs.Io.KnownBytes.{Appends}
use Rattle.std.specs.declared.io.Write.{Ghosts as WriteGhosts}
use Rattle.subject.specs.declared.money.Money.{Money}
use Rattle.subject.specs.declared.refusal.Refusal.{Refusal}
use Rattle.subject.specs.declared.refusal.Fault.{Fault}
use Rattle.subject.specs.declared.run.Step.{Step}
use Rattle.subject.specs.declared.run.Request.{Request}
use Rattle.subject.specs.Problems.{Problem}
use Rattle.survey.specs.declared.sealed.Sealed.{Sealed}
use Rattle.sheet.specs.declared.refused.Refused.TheVariants.{Call, File}
use Rattle.sheet.specs.Refused.{refusal_text}
use Rattle.sheet.specs.Sheet.{sheet_text}
use Rattle.sheet.specs.Page.{sealed_problem, SheetExists, PageRefused}

module _ {W : Type 0} (w : WriteGhosts W) where
  -- the writer holds the text, behind what it held
  abbrev pub IsPrinted : W → W → List ℕ → Type 0
  IsPrinted out out' text = Appends (w.contents out) (w.contents out') text

  -- such a text
  abbrev pub SomePrinted : W → W → (List ℕ → Type 0) → Type 0
  SomePrinted out out' Is = (text : List ℕ) × Is text × IsPrinted out out' text

-- nothing for a file that is read, and the line of the fault for one that is refused
abbrev pub fault_text : {X : Type 0} → Result X Fault → List ℕ
fault_text (Ok x) = []
fault_text (Err f) = refusal_text (File f)

module _ (P : Problem Money) (steps : List Step) (page : ℕ) where
  -- the text is the sheet of a lawful run, on a page of so many bytes
  abbrev pub SheetShown : List ℕ → Type 0
  SheetShown text = (text ≡ sheet_text P steps) × SheetExists P steps × (length text ≤ page)

  -- the text is the line of the first cause why there is no sheet on the page
  abbrev pub RefusalShown : List ℕ → Type 0
  RefusalShown text = (e : Refusal) × (text ≡ refusal_text (Call e)) × PageRefused P steps page e

-- the text is what is printed for the steps over a sealed survey
abbrev pub Shown : Sealed → Request → List Step → ℕ → List ℕ → Type 0
Shown survey request steps page text =
    SheetShown (sealed_problem survey request) steps page text
    ⊎ RefusalShown (sealed_problem survey request) steps page text
