-- The text that is written of a survey reads as that survey with its names: its records are its rows, and each row enters what it was
-- written for. By induction over the places, then the ways.
use Rattle.std.proofs.Common.{◌≡◌, ℕ, zero, suc, ◌+◌, ◌<◌, ◌≤◌, true, ◌==◌, if◌then◌else◌, List, [], ◌∷◌, ◌++◌, length, Option, Some, None, Ok, is_ok, map, refl, sym, ap, ◌∙◌, String, Global, append_assoc, length-append, arith}
use Rattle.std.proofs.lemmas.Bool.{eqb-true}
use Rattle.std.proofs.lemmas.List.{append-nil, map-append}
use Rattle.csv.specs.Machine.{next_record}
use Rattle.csv.specs.Reading.{default_config, records, records_from, strip_bom}
use Rattle.csv.specs.Writing.{default_writer, escaped, fields_text, is_blank, read_back, row_body, row_text}
use Rattle.csv.specs.declared.parser.State.TheVariants as st
use Rattle.csv.proofs.RoundTrip.{read-write}
use Rattle.survey.specs.declared.draft.TheConstants.{MOST_DRAFT_PLACES, MOST_DRAFT_WAYS}
use Rattle.survey.specs.declared.entry.Place.{Place}
use Rattle.survey.specs.declared.entry.WayEntry.{WayEntry}
use Rattle.survey.specs.declared.sealed.Sealed.{Sealed}
use Rattle.survey.specs.Checks.{place_check, good_places, good_way, good_ways}
use Rattle.survey.specs.Sealing.{sealed_contents}
use Rattle.survey.specs.PassedChecks.{cond_first, cond_second}
use Rattle.survey_text.specs.Fields.{Row, field}
use Rattle.survey_text.specs.Names.{name_of, are_names}
use Rattle.survey_text.specs.Texts.{NamedContents, Progress, in_rows, nothing_read, turn_of, walk, survey_of_text}
use Rattle.survey_text.specs.Written.{heading, place_fields, way_fields, place_rows, survey_rows, rows_text, survey_text, with_names, is_lawful}
use Rattle.survey_text.proofs.NumberBack.{both}
use Rattle.survey_text.proofs.RowsBack.{with_places, with_ways, turn_heading, turn_place, turn_way}

-- each row takes a byte at least
ends_text : (a b : List ℕ) → 1 ≤ length (a ++ (b ++ (10 ∷ [])))
ends_text a b = omega (arith, length-append a (b ++ (10 ∷ [])), length-append b (10 ∷ []))

rows_few : (rows : List Row) → length rows ≤ length (rows_text rows)
rows_few [] = omega arith
rows_few (r ∷ rows) =
    let one : 1 ≤ length (row_text default_writer r) = ends_text (row_body default_writer r) (if is_blank default_writer r then 34 ∷ 34 ∷ [] else []) in
    omega (arith, length-append (row_text default_writer r) (rows_text rows), rows_few rows, one)

-- the records of written rows
records_by : (rows : List Row) (n : ℕ) → length rows < n → records_from default_config n st.StartRecord (rows_text rows) ≡ map read_back rows
unfolding records_from next_record
records_by rows zero h = absurd (omega arith)
records_by [] (suc n) h = refl
records_by (r ∷ rows) (suc n) h = rw (read-write r (rows_text rows)) (ap (λ t. read_back r ∷ t) (records_by rows n (omega arith)))

records_back : (rows : List Row) → records default_config (rows_text rows) ≡ map read_back rows
records_back rows = records_by rows (length (rows_text rows) + 1) (omega (arith, rows_few rows))

-- no row of a survey is empty
place_row_back : (names : List (List ℕ)) (i : ℕ) (ps : List Place) → map read_back (place_rows names i ps) ≡ place_rows names i ps
place_row_back names i [] = refl
place_row_back names i (p ∷ ps) = rw (one (field names i) p.repeater, place_row_back names (suc i) ps) refl where
  one : (name : List ℕ) (r : Option ℕ) → read_back (place_fields name r) ≡ place_fields name r
  one name None = refl
  one name (Some price) = refl

way_rows_back : (names : List (List ℕ)) (ws : List WayEntry) → map read_back (map (way_fields names) ws) ≡ map (way_fields names) ws
way_rows_back names [] = refl
way_rows_back names (w ∷ ws) = ap (λ rows. way_fields names w ∷ rows) (way_rows_back names ws)

rows_back : (c : NamedContents) → map read_back (survey_rows c) ≡ survey_rows c
rows_back c =
    ap (λ rows. heading ∷ rows) (map-append read_back (place_rows c.names 0 c.contents.places) (map (way_fields c.names) c.contents.ways)
    ∙ ap (λ rows. rows ++ map read_back (map (way_fields c.names) c.contents.ways)) (place_row_back c.names 0 c.contents.places)
    ∙ ap (λ rows. place_rows c.names 0 c.contents.places ++ rows) (way_rows_back c.names c.contents.ways))

-- the text begins with no byte-order mark
no_mark : (rows : List Row) → strip_bom (rows_text (heading ∷ rows)) ≡ rows_text (heading ∷ rows)
unfolding strip_bom fields_text escaped is_blank
no_mark rows = refl

-- one row of the walk
step : (text : List ℕ) (k : ℕ) (s t : Progress) (r : Row) (rs : List Row) → turn_of s r ≡ Ok t → walk text k s (r ∷ rs) ≡ walk text (suc k) t rs
step text k s t r rs turned = rw turned refl

field_behind : (before : List (List ℕ)) (n : List ℕ) (names : List (List ℕ)) → field (before ++ n ∷ names) (length before) ≡ n
field_behind [] n names = refl
field_behind (b ∷ before) n names = field_behind before n names

-- the rows of ways enter them
walk_ways : (text : List ℕ) (k : ℕ) (e : NamedContents) (ws : List WayEntry) → are_names [] e.names ≡ true → length e.names ≡ length e.contents.places
    → good_ways (length e.contents.places) ws ≡ true → length e.contents.ways + length ws ≤ MOST_DRAFT_WAYS
    → walk text k (in_rows e) (map (way_fields e.names) ws) ≡ Ok (record { contents = with_ways e.contents ws; names = e.names })
walk_ways text k e [] lawful many good few =
    ap (λ ways. Ok (record { contents = record { places = e.contents.places; ways = ways }; names = e.names })) (sym (append-nil e.contents.ways))
walk_ways text k e (w ∷ ws) lawful many good few =
    let here = cond_first (good_way (length e.contents.places) w) (good_ways (length e.contents.places) ws) good in
    let more = cond_second (good_way (length e.contents.places) w) (good_ways (length e.contents.places) ws) good in
    let long = length-append e.contents.ways (w ∷ []) in
    let next : NamedContents = record { contents = with_ways e.contents (w ∷ []); names = e.names } in
    step text k (in_rows e) (in_rows next) (way_fields e.names w) (map (way_fields e.names) ws) (turn_way e w lawful many here (omega arith))
    ∙ walk_ways text (suc k) next ws lawful many more (omega arith)
    ∙ ap (λ ways. Ok (record { contents = record { places = e.contents.places; ways = ways }; names = e.names })) (append_assoc e.contents.ways (w ∷ []) ws)

-- the rows of places enter them with their names, and the walk goes on with the other rows
abbrev Onward : List ℕ → ℕ → Progress → List Row → Progress → List Row → Type 0
Onward text k s rows t rest = (j : ℕ) × (walk text k s rows ≡ walk text j t rest)

walk_places : (text : List ℕ) (k : ℕ) (all later : List (List ℕ)) (e : NamedContents) (ps : List Place) (rest : List Row) → e.names ++ later ≡ all → length later ≡ length ps
    → are_names e.names later ≡ true → length e.contents.places + length ps ≤ MOST_DRAFT_PLACES → good_places ps ≡ true
    → Onward text k (in_rows e) (place_rows all (length e.names) ps ++ rest) (in_rows (record { contents = with_places e.contents ps; names = all })) rest
walk_places text k all [] e [] rest names many lawful few good =
    let places = sym (append-nil e.contents.places) in
    let same = sym (append-nil e.names) ∙ names in (
      k,
      ap (λ ns. walk text k (in_rows (record { contents = e.contents; names = ns })) rest) same
          ∙ ap (λ ps. walk text k (in_rows (record { contents = record { places = ps; ways = e.contents.ways }; names = all })) rest) places,
    )
walk_places text k all [] e (p ∷ ps) rest names many lawful few good = absurd (omega arith)
walk_places text k all (n ∷ later) e [] rest names many lawful few good = absurd (omega arith)
walk_places text k all (n ∷ later) e (p ∷ ps) rest names many lawful few good =
    let passed = cond_first (is_ok (place_check p.repeater)) (good_places ps) good in
    let more = cond_second (is_ok (place_check p.repeater)) (good_places ps) good in
    let is_name = both (is_ok (name_of e.names n)) (are_names (e.names ++ n ∷ []) later) lawful in
    let next : NamedContents = record { contents = with_places e.contents (p ∷ []); names = e.names ++ n ∷ [] } in
    let name : field all (length e.names) ≡ n = ap (λ ns. field ns (length e.names)) (sym names) ∙ field_behind e.names n later in
    let number : length next.names ≡ suc (length e.names) = omega (arith, length-append e.names (n ∷ [])) in
    let long = length-append e.contents.places (p ∷ []) in
    let turned = turn_place e n p.repeater is_name.0 (omega arith) passed in
    let on = walk_places text (suc k) all later next ps rest (append_assoc e.names (n ∷ []) later ∙ names) (omega arith) is_name.1 (omega arith) more in (
      on.0,
      ap (λ m. walk text k (in_rows e) (place_fields m p.repeater ∷ (place_rows all (suc (length e.names)) ps ++ rest))) name
          ∙ step text k (in_rows e) (in_rows next) (place_fields n p.repeater) (place_rows all (suc (length e.names)) ps ++ rest) turned
          ∙ ap (λ i. walk text (suc k) (in_rows next) (place_rows all i ps ++ rest)) (sym number)
          ∙ on.1
          ∙ ap (λ places. walk text on.0 (in_rows (record { contents = record { places = places; ways = e.contents.ways }; names = all })) rest) (append_assoc e.contents.places (p ∷ []) ps),
    )

-- contents that have passed the checks of a draft, with lawful names
pub record Sound (c : NamedContents) : Type 0 where
  pub lawful : is_lawful c ≡ true
  pub few_places : length c.contents.places ≤ MOST_DRAFT_PLACES
  pub good_places : good_places c.contents.places ≡ true
  pub few_ways : length c.contents.ways ≤ MOST_DRAFT_WAYS
  pub good_ways : good_ways (length c.contents.places) c.contents.ways ≡ true

-- what the rows of a survey say
rows_say : (text : List ℕ) (c : NamedContents) → Sound c → walk text 0 nothing_read (survey_rows c) ≡ Ok c
rows_say text c sound =
    let law = both (length c.names == length c.contents.places) (are_names [] c.names) sound.lawful in
    let few = sound.few_places in
    let few_ways = sound.few_ways in
    let many : length c.names ≡ length c.contents.places = eqb-true (length c.names) (length c.contents.places) law.0 in
    let all : NamedContents = record { contents = record { places = c.contents.places; ways = [] }; names = c.names } in
    let ways = map (way_fields c.names) c.contents.ways in
    let on = walk_places text 1 c.names c.names nothing_read.so_far c.contents.places ways refl many law.1 (omega arith) sound.good_places in
    step text 0 nothing_read (in_rows nothing_read.so_far) heading (place_rows c.names 0 c.contents.places ++ ways) turn_heading
    ∙ on.1
    ∙ walk_ways text on.0 all c.contents.ways law.1 many sound.good_ways (omega arith)

pub text_back : (c : NamedContents) → Sound c → survey_of_text (survey_text c) ≡ Ok c
text_back c sound =
    let text = survey_text c in
    let mark : strip_bom text ≡ text = no_mark (place_rows c.names 0 c.contents.places ++ map (way_fields c.names) c.contents.ways) in
    ap (λ t. walk t 0 nothing_read (records default_config t)) mark
    ∙ ap (λ rows. walk text 0 nothing_read rows) (records_back (survey_rows c) ∙ rows_back c)
    ∙ rows_say text c sound

-- what stands in a sealed survey is good, so its text reads as that survey with its names
pub sealed_back : (s : Sealed) (names : List (String Global)) → is_lawful (with_names s names) ≡ true
    → survey_of_text (survey_text (with_names s names)) ≡ Ok (with_names s names)
sealed_back s names lawful =
    let d = s.draft in
    let many = d.places.ok.0 in
    let many-ways = d.table.ways.ok.0 in
    text_back (with_names s names) (record {
      lawful = lawful;
      few_places = omega (arith, d.few_places);
      good_places = d.good_places;
      few_ways = omega (arith, d.few_ways);
      good_ways = ap (λ n. good_ways n (sealed_contents s).ways) (sym many) ∙ d.good_ways;
    })
