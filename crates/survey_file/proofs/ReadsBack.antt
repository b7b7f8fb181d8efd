-- The file that is written from good contents reads as those contents: field by field, the reader finds at the place
-- where it stands just the bytes that were written for the next entry. By induction over the places, then the ways.
use Rattle.std.proofs.Common.{◌≡◌, ℕ, zero, suc, ◌+◌, ◌-◌, ◌*◌, ◌/◌, ◌%◌, ◌<◌, ◌≤◌, true, false, cond, eqb, ltb, List, [], ◌∷◌, ◌++◌, length, get_or, drop, is_ok, Some, None, Ok, Err, Option, sym, refl, ap, ◌∙◌, subst, arith}
use Rattle.std.specs.List.{flat_map}
use Rattle.std.proofs.lemmas.List.{append_assoc, append-nil, length-append, get_or-append-add}
use Rattle.std.proofs.lemmas.Bool.Decides.{nat_tests}
use Rattle.subject.specs.declared.refusal.Refusal.TheVariants.{CutShort, WrongLength, WrongEdition, BytesBehind, DraftFull}
use Rattle.survey.specs.declared.draft.TheConstants.{MOST_DRAFT_PLACES, MOST_DRAFT_WAYS}
use Rattle.survey.specs.declared.entry.Place.{Place}
use Rattle.survey.specs.declared.entry.WayEntry.{WayEntry}
use Rattle.survey.specs.Checks.{then, place_check, way_check, good_places, good_way, good_ways}
use Rattle.survey.specs.Contents.{Contents, no_contents}
use Rattle.survey.specs.declared.sealed.Sealed.{Sealed}
use Rattle.survey.specs.Sealing.{sealed_contents}
use Rattle.survey.specs.Edits.{of_repeater, add_place, add_way}
use Rattle.survey.specs.PassedChecks.{cond_first, cond_second}
use Rattle.survey_file.specs.declared.field.Head.{Head}
use Rattle.survey_file.specs.declared.record.Record.{Record}
use Rattle.survey_file.specs.declared.reader.Phase.{Phase}
use Rattle.survey_file.specs.declared.reader.Phase.TheVariants as phase
use Rattle.survey_file.specs.declared.reader.State.{State}
use Rattle.survey_file.specs.Fields.{fault, with_place, two_at, four_at, head_at, body_at}
use Rattle.survey_file.specs.Records.{way_in, place_at, way_at, end_at}
use Rattle.survey_file.specs.Decode.{Turn, to, turn_of, move_of, is_ended, walk, start, decode}
use Rattle.survey_file.specs.Encode.{head_field, repeater_field, place_field, way_field, end_field, file_of}
use Rattle.survey_file.proofs.Answering.{unit_ok}

abbrev pub head : ℕ → ℕ → Head
head t n = record { tag = t; length = n }

abbrev pub state : Phase → ℕ → State
state p at = record { phase = p; at = at }

-- the bytes from a place on
pub record Here (bs : List ℕ) (at : ℕ) (ys : List ℕ) : Type 0 where
  pub front : List ℕ
  pub whole : bs ≡ front ++ ys
  pub before : at ≡ length front

-- past a field
pub past : (bs : List ℕ) (at : ℕ) (xs ys : List ℕ) (next : ℕ) → Here bs at (xs ++ ys) → next ≡ at + length xs → Here bs next ys
past bs at xs ys next h n = record {
  front = h.front ++ xs;
  whole = h.whole ∙ sym (append_assoc h.front xs ys);
  before = n ∙ ap (λ k. k + length xs) h.before ∙ sym (length-append h.front xs);
}

pub byte_here : (bs : List ℕ) (at : ℕ) (ys : List ℕ) (i k : ℕ) → Here bs at ys → i ≡ at + k → get_or bs i 0 ≡ get_or ys k 0
byte_here bs at ys i k h e =
    ap (λ l. get_or l i 0) h.whole ∙ ap (λ j. get_or (h.front ++ ys) j 0) (e ∙ ap (λ n. n + k) h.before) ∙ get_or-append-add h.front ys k 0

pub length_here : (bs : List ℕ) (at : ℕ) (ys : List ℕ) → Here bs at ys → length bs - at ≡ length ys
length_here bs at ys h = let e = ap length h.whole ∙ length-append h.front ys in let b = h.before in omega arith

-- a field of tag t and length n is found
head_here : (bs : List ℕ) (at t n : ℕ) (ys : List ℕ) → Here bs at (t ∷ 0 ∷ n ∷ ys) → head_at bs at ≡ Ok (head t n)
head_here bs at t n ys h =
    let tag = byte_here bs at (t ∷ 0 ∷ n ∷ ys) at 0 h (omega arith) in
    let high = byte_here bs at (t ∷ 0 ∷ n ∷ ys) (at + 1) 1 h (omega arith) in
    let low = byte_here bs at (t ∷ 0 ∷ n ∷ ys) (at + 1 + 1) 2 h (omega arith) in
    let long : two_at bs (at + 1) ≡ n = omega arith in
    let many = length_here bs at (t ∷ 0 ∷ n ∷ ys) h in
    let enough : ltb (length bs - at) 3 ≡ false = grind (arith, nat_tests) in
    ap (λ b. cond b (fault CutShort at) (Ok (head (get_or bs at 0) (two_at bs (at + 1))))) enough
    ∙ ap (λ x. Ok (head x (two_at bs (at + 1)))) tag ∙ ap (λ x. Ok (head t x)) long

body_here : (bs : List ℕ) (at t n : ℕ) (ys : List ℕ) → Here bs at (t ∷ 0 ∷ n ∷ ys) → n ≤ length ys → body_at bs at (head t n) n ≡ Ok (at + 3 + n)
body_here bs at t n ys h fits =
    let many = length_here bs at (t ∷ 0 ∷ n ∷ ys) h in
    let same : eqb n n ≡ true = grind (arith, nat_tests) in
    let enough : ltb (length bs - at - 3) n ≡ false = grind (arith, nat_tests) in
    ap (λ b. cond b (cond (ltb (length bs - at - 3) n) (fault CutShort at) (Ok (at + 3 + n))) (fault WrongLength at)) same
    ∙ ap (λ b. cond b (fault CutShort at) (Ok (at + 3 + n))) enough

-- the number in two or four bytes that were written for it
two_here : (bs : List ℕ) (at : ℕ) (ys : List ℕ) (i k n : ℕ) → Here bs at ys → i ≡ at + k → get_or ys k 0 ≡ n / 256 → get_or ys (k + 1) 0 ≡ n % 256 → two_at bs i ≡ n
two_here bs at ys i k n h e high low =
    let a = byte_here bs at ys i k h e ∙ high in
    let b = byte_here bs at ys (i + 1) (k + 1) h (omega arith) ∙ low in
    let back : n / 256 * 256 + n % 256 ≡ n = omega arith in
    ap (λ x. x * 256 + get_or bs (i + 1) 0) a ∙ ap (λ x. n / 256 * 256 + x) b ∙ back

four_here : (bs : List ℕ) (at : ℕ) (ys : List ℕ) (i k n : ℕ) → Here bs at ys → i ≡ at + k → get_or ys k 0 ≡ n / 16777216 → get_or ys (k + 1) 0 ≡ n / 65536 % 256
    → get_or ys (k + 2) 0 ≡ n / 256 % 256 → get_or ys (k + 2 + 1) 0 ≡ n % 256 → four_at bs i ≡ n
four_here bs at ys i k n h e a b c d =
    let high : two_at bs i ≡ n / 65536 = two_here bs at ys i k (n / 65536) h e (a ∙ omega arith) b in
    let low : two_at bs (i + 2) ≡ n % 65536 = two_here bs at ys (i + 2) (k + 2) (n % 65536) h (omega arith) (c ∙ omega arith) (d ∙ omega arith) in
    let back : n / 65536 * 65536 + n % 65536 ≡ n = omega arith in
    ap (λ x. x * 65536 + two_at bs (i + 2)) high ∙ ap (λ x. n / 65536 * 65536 + x) low ∙ back

abbrev pub with_places : Contents → List Place → Contents
with_places c ps = record { places = c.places ++ ps; ways = c.ways }

abbrev pub with_ways : Contents → List WayEntry → Contents
with_ways c ws = record { places = c.places; ways = c.ways ++ ws }

-- a good entry is taken
place_taken : (c : Contents) (r : Option ℕ) → length c.places < MOST_DRAFT_PLACES → is_ok (place_check r) ≡ true → add_place c r ≡ Ok (with_places c (of_repeater r ∷ []))
place_taken c r few good =
    let room : ltb (length c.places) MOST_DRAFT_PLACES ≡ true = grind (arith, nat_tests) in
    ap (λ b. cond b (then (place_check r) (λ _. Ok (with_places c (of_repeater r ∷ [])))) (Err DraftFull)) room
    ∙ ap (λ x. then x (λ _. Ok (with_places c (of_repeater r ∷ [])))) (unit_ok (place_check r) good)

way_taken : (c : Contents) (w : WayEntry) → length c.ways < MOST_DRAFT_WAYS → is_ok (way_check (length c.places) w) ≡ true → add_way c w ≡ Ok (with_ways c (w ∷ []))
way_taken c w few good =
    let room : ltb (length c.ways) MOST_DRAFT_WAYS ≡ true = grind (arith, nat_tests) in
    ap (λ b. cond b (then (way_check (length c.places) w) (λ _. Ok (with_ways c (w ∷ [])))) (Err DraftFull)) room
    ∙ ap (λ x. then x (λ _. Ok (with_ways c (w ∷ [])))) (unit_ok (way_check (length c.places) w) good)

-- what one field does
turn_by : (bs : List ℕ) (s : State) (c : Contents) (h : Head) → head_at bs s.at ≡ Ok h → turn_of bs s c ≡ move_of s.phase bs s.at h c
turn_by bs s c h e = ap (λ r. then r (λ h. move_of s.phase bs s.at h c)) e

turn_edition : (bs : List ℕ) (ys : List ℕ) (c : Contents) → Here bs 0 (head_field ++ ys) → turn_of bs start c ≡ Ok (to phase.Places 5 c)
turn_edition bs ys c h =
    let high = byte_here bs 0 (head_field ++ ys) 3 3 h refl in
    let low = byte_here bs 0 (head_field ++ ys) 4 4 h refl in
    let one : two_at bs 3 ≡ 1 = omega arith in
    turn_by bs start c (head 1 2) (head_here bs 0 1 2 (0 ∷ 1 ∷ ys) h)
    ∙ ap (λ r. then (then r (λ next. cond (eqb (two_at bs 3) 1) (Ok next) (fault WrongEdition 0))) (λ next. Ok (to phase.Places next c)))
    (body_here bs 0 1 2 (0 ∷ 1 ∷ ys) h (omega arith))
    ∙ ap (λ n. then (cond (eqb n 1) (Ok 5) (fault WrongEdition 0)) (λ next. Ok (to phase.Places next c))) one

-- what is read of a place, and what the draft makes of it
place_entered : (bs : List ℕ) (at : ℕ) (c : Contents) (h : Head) (r : Option ℕ) (next : ℕ) → h.tag ≡ 2 → head_at bs at ≡ Ok h
    → place_at bs at h ≡ Ok (record { entry = of_repeater r; next = next }) → length c.places < MOST_DRAFT_PLACES → is_ok (place_check r) ≡ true
    → turn_of bs (state phase.Places at) c ≡ Ok (to phase.Places next (with_places c (of_repeater r ∷ [])))
place_entered bs at c h r next tag found read few good =
    turn_by bs (state phase.Places at) c h found
    ∙ ap (λ t. move_of phase.Places bs at (head t h.length) c) tag
    ∙ ap (λ t. then (place_at bs at (head t h.length)) (λ p. then (with_place (add_place c p.entry.repeater) at) (λ d. Ok (to phase.Places p.next d)))) (sym tag)
    ∙ ap (λ x. then x (λ p. then (with_place (add_place c p.entry.repeater) at) (λ d. Ok (to phase.Places p.next d)))) read
    ∙ ap (λ x. then (with_place x at) (λ d. Ok (to phase.Places next d))) (place_taken c r few good)

turn_place : (bs : List ℕ) (at : ℕ) (ys : List ℕ) (c : Contents) (r : Option ℕ) (next : ℕ) → Here bs at (repeater_field r ++ ys) → next ≡ at + length (repeater_field r)
    → length c.places < MOST_DRAFT_PLACES → is_ok (place_check r) ≡ true → turn_of bs (state phase.Places at) c ≡ Ok (to phase.Places next (with_places c (of_repeater r ∷ [])))
turn_place bs at ys c None next h n few good =
    place_entered bs at c (head 2 0) None next refl (head_here bs at 2 0 ys h) (ap (λ m. Ok (record { entry = of_repeater None; next = m })) (sym n)) few good
turn_place bs at ys c (Some p) next h n few good =
    let price : four_at bs (at + 3) ≡ p = four_here bs at (repeater_field (Some p) ++ ys) (at + 3) 3 p h refl refl refl refl refl in
    let body = body_here bs at 2 4 (p / 16777216 ∷ p / 65536 % 256 ∷ p / 256 % 256 ∷ p % 256 ∷ ys) h (omega arith) in
    let behind : at + 3 + 4 ≡ next = omega arith in
    place_entered bs at c (head 2 4) (Some p) next refl (head_here bs at 2 4 (p / 16777216 ∷ p / 65536 % 256 ∷ p / 256 % 256 ∷ p % 256 ∷ ys) h)
    (ap (λ x. then x (λ m. Ok (record { entry = of_repeater (Some (four_at bs (at + 3))); next = m }))) body
    ∙ ap (λ x. Ok (record { entry = of_repeater (Some x); next = at + 3 + 4 })) price ∙ ap (λ m. Ok (record { entry = of_repeater (Some p); next = m })) behind)
    few good

-- a way may follow places and ways alike, and so may the end
abbrev pub Late : Phase → Type 0
Late phase.Head = ⊥
Late phase.Places = Unit {0}
Late phase.Ways = Unit {0}
Late phase.Ended = ⊥

late_way : (p : Phase) (bs : List ℕ) (at n : ℕ) (c : Contents) → Late p
    → move_of p bs at (head 3 n) c ≡ then (way_at bs at (head 3 n)) (λ w. then (with_place (add_way c w.entry) at) (λ d. Ok (to phase.Ways w.next d)))
late_way phase.Head bs at n c l = absurd l
late_way phase.Places bs at n c l = refl
late_way phase.Ways bs at n c l = refl
late_way phase.Ended bs at n c l = absurd l

late_end : (p : Phase) (bs : List ℕ) (at n : ℕ) (c : Contents) → Late p → move_of p bs at (head 4 n) c ≡ then (end_at bs at (head 4 n)) (λ next. Ok (to phase.Ended next c))
late_end phase.Head bs at n c l = absurd l
late_end phase.Places bs at n c l = refl
late_end phase.Ways bs at n c l = refl
late_end phase.Ended bs at n c l = absurd l

same_way : (v w : WayEntry) → v.from ≡ w.from → v.to ≡ w.to → v.letter ≡ w.letter → v.grade ≡ w.grade → v.metres ≡ w.metres → v.price ≡ w.price → v ≡ w
same_way v w a b c d e f i = record { from = a i; to = b i; letter = c i; grade = d i; metres = e i; price = f i }

-- the twelve bytes of a way say that way
way_back : (bs : List ℕ) (at : ℕ) (w : WayEntry) (ys : List ℕ) → Here bs at (way_field w ++ ys) → way_in bs (at + 3) ≡ w
way_back bs at w ys h =
    let zs = way_field w ++ ys in
    same_way (way_in bs (at + 3)) w
    (two_here bs at zs (at + 3) 3 w.from h refl refl refl)
    (two_here bs at zs (at + 3 + 2) 5 w.to h (omega arith) refl refl)
    (byte_here bs at zs (at + 3 + 4) 7 h (omega arith))
    (byte_here bs at zs (at + 3 + 5) 8 h (omega arith))
    (two_here bs at zs (at + 3 + 6) 9 w.metres h (omega arith) refl refl)
    (four_here bs at zs (at + 3 + 8) 11 w.price h (omega arith) refl refl refl refl)

abbrev pub way_record : WayEntry → ℕ → Record WayEntry
way_record w n = record { entry = w; next = n }

turn_way : (p : Phase) (bs : List ℕ) (at : ℕ) (ys : List ℕ) (c : Contents) (w : WayEntry) → Late p → Here bs at (way_field w ++ ys)
    → length c.ways < MOST_DRAFT_WAYS → is_ok (way_check (length c.places) w) ≡ true → turn_of bs (state p at) c ≡ Ok (to phase.Ways (at + 15) (with_ways c (w ∷ [])))
turn_way p bs at ys c w late h few good =
    let body = body_here bs at 3 12 (drop 3 (way_field w) ++ ys) h (omega arith) in
    let behind : at + 3 + 12 ≡ at + 15 = omega arith in
    turn_by bs (state p at) c (head 3 12) (head_here bs at 3 12 (drop 3 (way_field w) ++ ys) h)
    ∙ late_way p bs at 12 c late
    ∙ ap (λ x. then (then x (λ next. Ok (way_record (way_in bs (at + 3)) next))) (λ v. then (with_place (add_way c v.entry) at) (λ d. Ok (to phase.Ways v.next d)))) body
    ∙ ap (λ v. then (with_place (add_way c v) at) (λ d. Ok (to phase.Ways (at + 3 + 12) d))) (way_back bs at w ys h)
    ∙ ap (λ x. then (with_place x at) (λ d. Ok (to phase.Ways (at + 3 + 12) d))) (way_taken c w few good)
    ∙ ap (λ n. Ok (to phase.Ways n (with_ways c (w ∷ [])))) behind

turn_end : (p : Phase) (bs : List ℕ) (at : ℕ) (c : Contents) → Late p → Here bs at end_field → turn_of bs (state p at) c ≡ Ok (to phase.Ended (at + 3 + 0) c)
turn_end p bs at c late h =
    let e = ap length h.whole ∙ length-append h.front end_field in
    let b = h.before in
    let whole : ltb (at + 3 + 0) (length bs) ≡ false = grind (arith, nat_tests) in
    turn_by bs (state p at) c (head 4 0) (head_here bs at 4 0 [] h)
    ∙ late_end p bs at 0 c late
    ∙ ap (λ x. then (then x (λ next. cond (ltb next (length bs)) (fault BytesBehind next) (Ok next))) (λ next. Ok (to phase.Ended next c))) (body_here bs at 4 0 [] h (omega arith))
    ∙ ap (λ x. then (cond x (fault BytesBehind (at + 3 + 0)) (Ok (at + 3 + 0))) (λ next. Ok (to phase.Ended next c))) whole

-- one turn, and the end of all turns
walk_on : (n : ℕ) (bs : List ℕ) (s : State) (c : Contents) (t : Turn) → is_ended s.phase ≡ false → turn_of bs s c ≡ Ok t → walk (suc n) bs s c ≡ walk n bs t.state t.draft
unfolding walk
walk_on n bs s c t e turned =
    ap (λ b. cond b (Ok c) (then (turn_of bs s c) (λ t. walk n bs t.state t.draft))) e ∙ ap (λ r. then r (λ t. walk n bs t.state t.draft)) turned

walk_ended : (n : ℕ) (bs : List ℕ) (at : ℕ) (c : Contents) → walk (suc n) bs (state phase.Ended at) c ≡ Ok c
unfolding walk
walk_ended n bs at c = refl

late_open : (p : Phase) → Late p → is_ended p ≡ false
late_open phase.Head l = absurd l
late_open phase.Places l = refl
late_open phase.Ways l = refl
late_open phase.Ended l = absurd l

-- the ways and the end are read as they were written
reads_ways : (ws : List WayEntry) (n : ℕ) (p : Phase) (bs : List ℕ) (at : ℕ) (c : Contents) → Late p → Here bs at (flat_map way_field ws ++ end_field)
    → length (flat_map way_field ws ++ end_field) < n → length c.ways + length ws ≤ MOST_DRAFT_WAYS → good_ways (length c.places) ws ≡ true
    → walk n bs (state p at) c ≡ Ok (with_ways c ws)
reads_ways ws zero p bs at c late h fuel few good = absurd (omega arith)
reads_ways [] (suc zero) p bs at c late h fuel few good = absurd (omega arith)
reads_ways [] (suc (suc n)) p bs at c late h fuel few good =
    walk_on (suc n) bs (state p at) c (to phase.Ended (at + 3 + 0) c) (late_open p late) (turn_end p bs at c late h)
    ∙ walk_ended n bs (at + 3 + 0) c
    ∙ ap (λ x. Ok (record { places = c.places; ways = x })) (sym (append-nil c.ways))
reads_ways (w ∷ ws) (suc n) p bs at c late h fuel few good =
    let here = cond_first (good_way (length c.places) w) (good_ways (length c.places) ws) good in
    let more = cond_second (good_way (length c.places) w) (good_ways (length c.places) ws) good in
    let passed = cond_first (is_ok (way_check (length c.places) w)) (ltb w.grade 256) here in
    let rest = flat_map way_field ws ++ end_field in
    let long = length-append c.ways (w ∷ []) in
    walk_on n bs (state p at) c (to phase.Ways (at + 15) (with_ways c (w ∷ []))) (late_open p late) (turn_way p bs at rest c w late h (omega arith) passed)
    ∙ reads_ways ws n phase.Ways bs (at + 15) (with_ways c (w ∷ [])) tt (past bs at (way_field w) rest (at + 15) h refl) (omega arith) (omega arith) more
    ∙ ap (λ x. Ok (record { places = c.places; ways = x })) (append_assoc c.ways (w ∷ []) ws)

field_some : (r : Option ℕ) → 3 ≤ length (repeater_field r)
field_some None = omega arith
field_some (Some p) = omega arith

-- so are the places before them
reads_places : (ps : List Place) (ws : List WayEntry) (n : ℕ) (bs : List ℕ) (at : ℕ) (c : Contents)
    → Here bs at (flat_map place_field ps ++ (flat_map way_field ws ++ end_field)) → length (flat_map place_field ps ++ (flat_map way_field ws ++ end_field)) < n
    → length c.places + length ps ≤ MOST_DRAFT_PLACES → good_places ps ≡ true
    → length c.ways + length ws ≤ MOST_DRAFT_WAYS → good_ways (length c.places + length ps) ws ≡ true
    → walk n bs (state phase.Places at) c ≡ Ok (record { places = c.places ++ ps; ways = c.ways ++ ws })
reads_places [] ws n bs at c h fuel few good few_ways ways_are_good =
    let same : length c.places + 0 ≡ length c.places = omega arith in
    reads_ways ws n phase.Places bs at c tt h fuel few_ways (ap (λ k. good_ways k ws) (sym same) ∙ ways_are_good)
    ∙ ap (λ x. Ok (record { places = x; ways = c.ways ++ ws })) (sym (append-nil c.places))
reads_places (p ∷ ps) ws zero bs at c h fuel few good few_ways ways_are_good = absurd (omega arith)
reads_places (p ∷ ps) ws (suc n) bs at c h fuel few good few_ways ways_are_good =
    let passed = cond_first (is_ok (place_check p.repeater)) (good_places ps) good in
    let more = cond_second (is_ok (place_check p.repeater)) (good_places ps) good in
    let rest = flat_map place_field ps ++ (flat_map way_field ws ++ end_field) in
    let split = append_assoc (place_field p) (flat_map place_field ps) (flat_map way_field ws ++ end_field) in
    let next = at + length (place_field p) in
    let d = with_places c (p ∷ []) in
    let here : Here bs at (place_field p ++ rest) = subst (Here bs at) split h in
    let long = length-append c.places (p ∷ []) in
    let lengths = ap length split ∙ length-append (place_field p) rest in
    let some = field_some p.repeater in
    let total : length d.places + length ps ≡ length c.places + suc (length ps) = omega arith in
    walk_on n bs (state phase.Places at) c (to phase.Places next d) refl (turn_place bs at rest c p.repeater next here refl (omega arith) passed)
    ∙ reads_places ps ws n bs next d (past bs at (place_field p) rest next here refl) (omega arith) (omega arith) more few_ways (ap (λ k. good_ways k ws) total ∙ ways_are_good)
    ∙ ap (λ x. Ok (record { places = x; ways = c.ways ++ ws })) (append_assoc c.places (p ∷ []) ps)

-- the whole file
pub reads_back : (c : Contents) → length c.places ≤ MOST_DRAFT_PLACES → good_places c.places ≡ true → length c.ways ≤ MOST_DRAFT_WAYS → good_ways (length c.places) c.ways ≡ true
    → decode (file_of c) ≡ Ok c
reads_back c few good few_ways ways_are_good =
    let bs = file_of c in
    let rest = flat_map place_field c.places ++ (flat_map way_field c.ways ++ end_field) in
    let h : Here bs 0 (head_field ++ rest) = record { front = []; whole = refl; before = refl } in
    let same : 0 + length c.places ≡ length c.places = omega arith in
    walk_on (length bs) bs start no_contents (to phase.Places 5 no_contents) refl (turn_edition bs rest no_contents h)
    ∙ reads_places c.places c.ways (length bs) bs 5 no_contents (past bs 0 head_field rest 5 h refl) (omega arith) (omega arith) good (omega arith)
    (ap (λ k. good_ways k c.ways) same ∙ ways_are_good)

-- what stands in a sealed survey is good, so its file reads as that survey
pub sealed_reads : (s : Sealed) → decode (file_of (sealed_contents s)) ≡ Ok (sealed_contents s)
sealed_reads s =
    let d = s.draft in
    let many = d.places.ok.0 in
    let many-ways = d.table.ways.ok.0 in
    reads_back (sealed_contents s) (omega (arith, d.few_places)) d.good_places (omega (arith, d.few_ways))
    (ap (λ n. good_ways n (sealed_contents s).ways) (sym many) ∙ d.good_ways)
