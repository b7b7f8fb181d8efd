-- Rows as csv writes them, whether or not they may differ in length, and what is written behind known bytes.
use Rattle.std.proofs.Common.{◌≡◌, ℕ, true, List, [], ◌∷◌, ◌++◌, length, Option, Some, None, ◌==◌, refl, sym, ap, ◌∙◌, append_assoc, subst}
use Rattle.std.specs.Io.KnownBytes.{Appends}
use Rattle.std.proofs.lemmas.List.{append-nil}
use Rattle.csv.specs.Writing.{default_writer, with_flexible, escaped, field_text, fields_text, row_body, is_blank, row_text}
use Rattle.csv.specs.declared.writer.WriterBuilder.{WriterBuilder}
use Rattle.survey_text.specs.Written.{rows_text}

abbrev pub flexible : WriterBuilder
flexible = with_flexible default_writer true

escaped_same : (f : List ℕ) → escaped flexible f ≡ escaped default_writer f
unfolding escaped
escaped_same [] = refl
escaped_same (b ∷ rest) = rw (escaped_same rest) refl

field_same : (f : List ℕ) → field_text flexible f ≡ field_text default_writer f
field_same f = rw (escaped_same f) refl

fields_same : (fs : List (List ℕ)) → fields_text flexible fs ≡ fields_text default_writer fs
unfolding fields_text
fields_same [] = refl
fields_same (f ∷ fs) = rw (field_same f, fields_same fs) refl

blank_same : (fs : List (List ℕ)) → is_blank flexible fs ≡ is_blank default_writer fs
unfolding is_blank
blank_same [] = refl
blank_same (f ∷ []) = ap (λ t. length t == 0) (field_same f)
blank_same (f ∷ g ∷ fs) = refl

body_same : (fs : List (List ℕ)) → row_body flexible fs ≡ row_body default_writer fs
body_same [] = refl
body_same (f ∷ fs) = rw (field_same f, fields_same fs) refl

-- a row is written the same where rows may differ in length
pub row_same : (fs : List (List ℕ)) → row_text flexible fs ≡ row_text default_writer fs
row_same fs = rw (body_same fs, blank_same fs) refl

-- what is appended to known bytes stands behind them
appended : (xs bs : List ℕ) (known : Option (List ℕ)) → Appends (Some xs) known bs → known ≡ Some (xs ++ bs)
appended xs bs None h = absurd h
appended xs bs (Some ys) h = ap Some h

-- so does a row
pub row_appended : (cfg : WriterBuilder) (xs : List ℕ) (old known : Option (List ℕ)) (fs : List (List ℕ)) → cfg ≡ flexible → old ≡ Some xs
    → Appends old known (row_text cfg fs) → known ≡ Some (xs ++ row_text default_writer fs)
row_appended cfg xs old known fs same is h =
    let here = subst (λ z. Appends old known (row_text z fs)) same h in
    let there = subst (λ z. Appends z known (row_text flexible fs)) is here in
    appended xs (row_text flexible fs) known there ∙ ap (λ t. Some (xs ++ t)) (row_same fs)

-- the text of rows, with one row more
pub rows_text_more : (rows : List (List (List ℕ))) (row : List (List ℕ)) → rows_text (rows ++ row ∷ []) ≡ rows_text rows ++ row_text default_writer row
rows_text_more [] row = append-nil (row_text default_writer row)
rows_text_more (r ∷ rows) row =
    ap (λ t. row_text default_writer r ++ t) (rows_text_more rows row) ∙ sym (append_assoc (row_text default_writer r) (rows_text rows) (row_text default_writer row))
