-- The fields of a file, one behind the other: what one entry more adds, and how many bytes there are.
use Rattle.std.proofs.Common.{◌≡◌, ℕ, zero, suc, ◌+◌, ◌*◌, ◌≤◌, true, List, [], ◌∷◌, ◌++◌, length, take, Some, Ok, Err, Result, sym, refl, ap, ◌∙◌, add-one, arith}
use Rattle.std.specs.List.{slice_get, All, flat_map}
use Rattle.std.proofs.lemmas.List.{append-nil, append_assoc, length-append}
use Rattle.subject.specs.declared.refusal.Refusal.{Refusal}
use Rattle.survey_file.proofs.Answering.{ok_same}
use Rattle.survey_file.specs.Pieces.{put_answer, put_bytes}
use Rattle.survey_file.proofs.Pieces.{put_answer-fits, length-put_bytes, put_bytes-put_bytes, Front, front_first, front_fits, front_more}
use Rattle.survey_file.proofs.Pieces.{not_refused as refused-not}
use Rattle.survey.specs.declared.entry.Place.{Place}
use Rattle.survey.specs.declared.entry.WayEntry.{WayEntry}
use Rattle.survey.specs.Contents.{Contents}
use Rattle.survey.specs.Checks.{good_way, good_ways}
use Rattle.survey.specs.PassedChecks.{cond_first, cond_second, way_passed, way_loss, letter_small}
use Rattle.survey_file.specs.declared.writer.TheConstants.{HEAD_LENGTH, WAY_LENGTH, END_LENGTH}
use Rattle.survey_file.specs.Encode.{head_field, place_field, way_field, HasByteLetter, end_field, file_of}

joined_suc : {X : Type 0} (f : X → List ℕ) (xs : List X) (i : ℕ) (x : X) → slice_get xs i ≡ Some x → flat_map f (take (suc i) xs) ≡ flat_map f (take i xs) ++ f x
joined_suc f [] i x h = let z : ◌≡◌ {A = ℕ} 0 1 = cc in absurd (omega arith)
joined_suc f (y ∷ xs) zero x h = let same : y ≡ x = cc in append-nil (f y) ∙ ap f same
joined_suc f (y ∷ xs) (suc i) x h = ap (λ ys. f y ++ ys) (joined_suc f xs i x h) ∙ sym (append_assoc (f y) (flat_map f (take i xs)) (f x))

-- the fields of the first entries, and one more
pub joined_next : {X : Type 0} (f : X → List ℕ) (xs : List X) (i : ℕ) (x : X) → Some x ≡ slice_get xs i → flat_map f (take (i + 1) xs) ≡ flat_map f (take i xs) ++ f x
joined_next f xs i x h = ap (λ n. flat_map f (take n xs)) (add-one i) ∙ joined_suc f xs i x (sym h)

pub ways_long : (ws : List WayEntry) → length (flat_map way_field ws) ≡ WAY_LENGTH * length ws
ways_long [] = refl
ways_long (w ∷ ws) = let h = ways_long ws in omega arith

pub file_long : (c : Contents) → length (file_of c) ≡ HEAD_LENGTH + END_LENGTH + length (flat_map place_field c.places) + WAY_LENGTH * length c.ways
file_long c =
    let a = length-append (flat_map place_field c.places) (flat_map way_field c.ways ++ end_field) in
    let b = length-append (flat_map way_field c.ways) end_field in
    let w = ways_long c.ways in
    omega arith

-- the letter of a way that stands in a survey has passed the checks of the draft, so it is a byte
pub letters_fit : (n : ℕ) (ws : List WayEntry) → good_ways n ws ≡ true → All HasByteLetter ws
letters_fit n [] good k d below = absurd (omega arith)
letters_fit n (w ∷ ws) good zero d below =
    let cable = way_loss n w (way_passed n w (cond_first (good_way n w) (good_ways n ws) good)) in
    letter_small w.letter w.metres cable.0 cable.1
letters_fit n (w ∷ ws) good (suc k) d below = letters_fit n ws (cond_second (good_way n w) (good_ways n ws) good) k d (omega arith)

-- the fields of the first i entries stand in the bytes, and the next place is behind them
pub record Put {X : Type 0} (f : X → List ℕ) (xs : List X) (before : List ℕ) (start i at : ℕ) (out : List ℕ) : Type 0 where
  pub next : at ≡ start + length (flat_map f (take i xs))
  pub bytes : out ≡ put_bytes before start (flat_map f (take i xs))

joined_front : {X : Type 0} (f : X → List ℕ) (xs : List X) (i : ℕ) → length (flat_map f (take i xs)) ≤ length (flat_map f xs)
joined_front f [] zero = omega arith
joined_front f [] (suc i) = omega arith
joined_front f (x ∷ xs) zero = omega arith
joined_front f (x ∷ xs) (suc i) =
    let h = joined_front f xs i in
    let a = length-append (f x) (flat_map f (take i xs)) in
    let b = length-append (f x) (flat_map f xs) in
    omega arith

module _ {X : Type 0} (f : X → List ℕ) (xs : List X) (before : List ℕ) (start i at : ℕ) (out : List ℕ)
    (room : start + length (flat_map f xs) ≤ length before) (so_far : Put f xs before start i at out) where
  same_length : length out ≡ length before
  same_length =
      let few = joined_front f xs i in
      ap length so_far.bytes ∙ length-put_bytes before start (flat_map f (take i xs)) (omega arith)

  -- there is room for the next field
  pub put_fits : (x : X) → Some x ≡ slice_get xs i → at + length (f x) ≤ length out
  put_fits x h =
      let few = joined_front f xs (i + 1) in
      let more = ap length (joined_next f xs i x h) ∙ length-append (flat_map f (take i xs)) (f x) in
      let here = so_far.next in
      let long = same_length in
      omega arith

  -- so it is not refused
  pub not_refused : (x : X) (e : Refusal) → Some x ≡ slice_get xs i → Err e ≡ put_answer out at (f x) → ⊥
  not_refused x e h refused = refused-not out at (f x) e (put_fits x h) refused

  pub put_more : (x : X) (next : ℕ) (out' : List ℕ) → Some x ≡ slice_get xs i → Ok next ≡ put_answer out at (f x) → out' ≡ put_bytes out at (f x) → Put f xs before start (i + 1) next out'
  put_more x next out' h answered is =
      let behind = ok_same next (at + length (f x)) (answered ∙ put_answer-fits out at (f x) (put_fits x h)) in
      let fields = joined_next f xs i x h in
      let more = ap length fields ∙ length-append (flat_map f (take i xs)) (f x) in
      let few = joined_front f xs (i + 1) in
      let here = so_far.next in
      let room-so-far : start + length (flat_map f (take i xs) ++ f x) ≤ length before = omega (arith, ap length fields) in
      record {
        next = omega arith;
        bytes = is ∙ ap (λ o. put_bytes o at (f x)) so_far.bytes ∙ put_bytes-put_bytes before start at (flat_map f (take i xs)) (f x) here room-so-far ∙ ap (put_bytes before start) (sym fields);
      }

-- bytes with room for the file of contents, whose places and ways were lent as those lists
pub record HasRoom (before : List ℕ) (ps : List Place) (ws : List WayEntry) (c : Contents) : Type 0 where
  pub places : ps ≡ c.places
  pub ways : ws ≡ c.ways
  pub room : length (file_of c) ≤ length before

-- the four parts of the file, laid one behind the other into these bytes
module _ (before : List ℕ) (ps : List Place) (ws : List WayEntry) (c : Contents) (r : HasRoom before ps ws c) where
  abbrev pub up_to_places : List ℕ
  up_to_places = head_field ++ flat_map place_field ps

  abbrev pub up_to_ways : List ℕ
  up_to_ways = up_to_places ++ flat_map way_field ws

  lent : ◌≡◌ {A = Contents} (record { places = ps; ways = ws }) c
  lent i = record { places = r.places i; ways = r.ways i }

  whole : up_to_ways ++ end_field ≡ file_of c
  whole =
      append_assoc up_to_places (flat_map way_field ws) end_field
      ∙ append_assoc head_field (flat_map place_field ps) (flat_map way_field ws ++ end_field)
      ∙ ap file_of lent

  room_parts : (length up_to_places ≤ length before) × (length up_to_ways ≤ length before) × (length (up_to_ways ++ end_field) ≤ length before)
  room_parts =
      let all = ap length whole in
      let fits = r.room in
      let d = length-append up_to_places (flat_map way_field ws) in
      let e = length-append up_to_ways end_field in
      (omega arith, omega arith, omega arith)

  pub front_places : (a b : ℕ) (o o' : List ℕ) → Ok a ≡ put_answer before 0 head_field → o ≡ put_bytes before 0 head_field
      → ◌≡◌ {A = Result ℕ Refusal} (Ok b) (Ok (a + length (flat_map place_field ps))) → o' ≡ put_bytes o a (flat_map place_field ps) → Front before up_to_places b o'
  front_places a b o o' head head_is answered is =
      let begun = front_first before head_field (flat_map place_field ps) a o room_parts.0 head head_is in
      front_more before head_field (flat_map place_field ps) a o room_parts.0 begun b o' (ok_same b (a + length (flat_map place_field ps)) answered) is

  pub ways_fit : (a : ℕ) (o : List ℕ) → Front before up_to_places a o → a + length (flat_map way_field ws) ≤ length o
  ways_fit a o f = front_fits before up_to_places (flat_map way_field ws) a o room_parts.1 f

  pub front_ways : (a b : ℕ) (o o' : List ℕ) → Front before up_to_places a o → ◌≡◌ {A = Result ℕ Refusal} (Ok b) (Ok (a + length (flat_map way_field ws)))
      → o' ≡ put_bytes o a (flat_map way_field ws) → Front before up_to_ways b o'
  front_ways a b o o' f answered is = front_more before up_to_places (flat_map way_field ws) a o room_parts.1 f b o' (ok_same b (a + length (flat_map way_field ws)) answered) is

  pub end_answer : (a : ℕ) (o : List ℕ) → Front before up_to_ways a o → put_answer o a end_field ≡ put_answer before 0 (file_of c)
  end_answer a o f =
      let here = f.next in
      let together = length-append up_to_ways end_field in
      let is_whole = ap length whole in
      let same : a + 3 ≡ 0 + length (file_of c) = omega arith in
      put_answer-fits o a end_field (front_fits before up_to_ways end_field a o room_parts.2 f) ∙ ap Ok same ∙ sym (put_answer-fits before 0 (file_of c) (omega (arith, r.room)))

  pub end_bytes : (a : ℕ) (o : List ℕ) → Front before up_to_ways a o → put_bytes o a end_field ≡ put_bytes before 0 (file_of c)
  end_bytes a o f =
      (front_more before up_to_ways end_field a o room_parts.2 f (a + 3) (put_bytes o a end_field) refl refl).bytes ∙ ap (put_bytes before 0) whole
