-- The text that is written of a survey: the heading, a row to each place, a row to each way, as csv writes rows.
-- Stands on Texts and on csv.
use Rattle.std.specs.Prelude.{ℕ, suc, Bool, List, [], ◌∷◌, ◌++◌, Option, Some, None, codes, decimal, map}
use Rattle.std.specs.Prelude.{length, encode_utf8, String, Vec, vec_items}
use Rattle.std.specs.declared.alloc.Global.{Global}
use Rattle.std.specs.List.{flat_map}
use Rattle.csv.specs.Records.{fields_of, Row as ByteRow}
use Rattle.csv.specs.Writing.{default_writer, row_text}
use Rattle.survey.specs.declared.entry.Place.{Place}
use Rattle.survey.specs.declared.entry.WayEntry.{WayEntry}
use Rattle.survey.specs.declared.sealed.Sealed.{Sealed}
use Rattle.survey.specs.Sealing.{sealed_contents}
use Rattle.survey_text.specs.Fields.{Row, field}
use Rattle.survey_text.specs.Names.{texts, lawful_names}
use Rattle.survey_text.specs.Texts.{NamedContents, place_word, way_word, name_word}

abbrev pub heading : Row
heading = place_word ∷ name_word ∷ codes "repeater" ∷ []

-- place,NAME,REPEATER, where no repeater is no field
abbrev pub place_fields : List ℕ → Option ℕ → Row
place_fields name None = place_word ∷ name ∷ []
place_fields name (Some price) = place_word ∷ name ∷ decimal price ∷ []

-- way,FROM,TO,CABLE,METRES,PRICE,GRADE, with the ends by their names
abbrev pub way_fields : List (List ℕ) → WayEntry → Row
way_fields names w =
    way_word ∷ field names w.from ∷ field names w.to ∷ encode_utf8 w.letter
    ∷ decimal w.metres ∷ decimal w.price ∷ decimal w.grade ∷ []

-- the rows of places, of which the first has the number i
abbrev pub place_rows : List (List ℕ) → ℕ → List Place → List Row
place_rows names i [] = []
place_rows names i (p ∷ ps) = place_fields (field names i) p.repeater ∷ place_rows names (suc i) ps

abbrev pub survey_rows : NamedContents → List Row
survey_rows c = heading ∷ (place_rows c.names 0 c.contents.places ++ map (way_fields c.names) c.contents.ways)

abbrev pub rows_text : List Row → List ℕ
rows_text = flat_map (row_text default_writer)

-- the text of a survey with names of its places
abbrev pub survey_text : NamedContents → List ℕ
survey_text c = rows_text (survey_rows c)

-- a sealed survey with names, and whether they are lawful
abbrev pub with_names : Sealed → List (String Global) → NamedContents
with_names s names = record { contents = sealed_contents s; names = texts names }

abbrev pub is_lawful : NamedContents → Bool
is_lawful c = lawful_names (length c.contents.places) c.names

-- the rows of records
abbrev pub rows_in : Vec ByteRow Global → List Row
rows_in rows = map fields_of (vec_items rows)
