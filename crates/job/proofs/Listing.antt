-- The lines that were read, with what is left of the text behind them, are the text; one more line goes from what is left to
-- what was read.
use Rattle.std.proofs.Common.{◌≡◌, ℕ, suc, ◌+◌, ◌<◌, true, false, eqb, ◌⊎◌, List, [], ◌∷◌, ◌++◌, length, sym, refl, ap, ◌∙◌, inl, inr, append_assoc, arith, length-append}
use Rattle.std.proofs.lemmas.List.{map-append, append-nil}
use Rattle.subject.specs.declared.money.Money.{Money}
use Rattle.job.specs.declared.list.Call.{Call}
use Rattle.job.specs.declared.list.Entry.{Entry}
use Rattle.job.specs.Replay.{calls_of}
use Rattle.job.specs.Texts.{call_text, lines_text, CutAt}

-- the text is the lines of the calls and what is left, or all but the last line feed was read and nothing is left
abbrev pub Reading : List ℕ → List Call → List ℕ → Type 0
Reading text calls rest = (text ≡ lines_text calls ++ rest) ⊎ ((rest ≡ []) × (text ++ (10 ∷ []) ≡ lines_text calls))

lines_push : (calls : List Call) (c : Call) (rest : List ℕ) → lines_text (calls ++ c ∷ []) ++ rest ≡ lines_text calls ++ (call_text c ++ (10 ∷ rest))
lines_push [] c rest = append_assoc (call_text c) (10 ∷ []) rest
lines_push (d ∷ calls) c rest = append_assoc (call_text d) (10 ∷ lines_text (calls ++ c ∷ [])) rest ∙ ap (λ z. call_text d ++ (10 ∷ z)) (lines_push calls c rest) ∙ sym (append_assoc (call_text d) (10 ∷ lines_text calls) (call_text c ++ (10 ∷ rest)))

pub reading_more : (text : List ℕ) (calls : List Call) (rest line others : List ℕ) (c : Call) → (rest ≡ [] → ⊥) → Reading text calls rest → CutAt rest line others → line ≡ call_text c → Reading text (calls ++ c ∷ []) others
reading_more text calls rest line others c some (inl e) (inl cut) is = inl (e ∙ ap (λ z. lines_text calls ++ z) (cut ∙ ap (λ z. z ++ (10 ∷ others)) is) ∙ sym (lines_push calls c others))
reading_more text calls rest line others c some (inl e) (inr (whole, none)) is = inr (none, ap (λ z. z ++ (10 ∷ [])) (e ∙ ap (λ z. lines_text calls ++ z) (whole ∙ is)) ∙ append_assoc (lines_text calls) (call_text c) (10 ∷ []) ∙ sym (lines_push calls c []) ∙ append-nil (lines_text (calls ++ c ∷ [])))
reading_more text calls rest line others c some (inr (none, e)) cut is = absurd (some none)

pub calls_push : (entries : List (Entry Money)) (e : Entry Money) → calls_of (entries ++ e ∷ []) ≡ calls_of entries ++ e.call ∷ []
calls_push entries e = map-append (λ (z : Entry Money). z.call) entries (e ∷ [])

-- behind the first line less is left
pub cut_shorter : (text line others : List ℕ) → (text ≡ [] → ⊥) → CutAt text line others → length others < length text
cut_shorter text line others some (inl e) =
    let whole : length text ≡ length line + suc (length others) = ap length e ∙ length-append line (10 ∷ others) in
    omega arith
cut_shorter [] line others some (inr (whole, none)) = absurd (some refl)
cut_shorter (x ∷ xs) line others some (inr (whole, none)) = let short : length others ≡ 0 = ap length none in omega arith

pub not_empty : (xs : List ℕ) → false ≡ eqb (length xs) 0 → xs ≡ [] → ⊥
not_empty xs h e = let z : false ≡ true = h ∙ ap (λ (ys : List ℕ). eqb (length ys) 0) e in let y : ◌≡◌ {A = ℕ} 0 1 = cc in omega arith
