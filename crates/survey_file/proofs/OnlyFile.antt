-- A file of bytes that is accepted is the file that is written from what it reads as: each field that the reader
-- accepts has just the bytes that are written for its entry. By induction over the turns of the reader.
use Rattle.std.proofs.Common.{◌≡◌, ℕ, zero, suc, ◌+◌, ◌-◌, ◌/◌, ◌%◌, ◌<◌, ◌≤◌, Bool, true, false, cond, eqb, ltb, ◌⊎◌, List, [], ◌∷◌, ◌++◌, length, get_or, drop, Some, None, Ok, Option, Result, sym, refl, ap, ◌∙◌, subst, inl, inr, arith}
use Rattle.std.specs.List.{flat_map}
use Rattle.std.proofs.lemmas.List.{append_assoc, append-nil, drop_more, drop_all, get_or_past}
use Rattle.std.proofs.lemmas.Bool.{ltb-false, eqb-true, cases_lt}
use Rattle.subject.specs.declared.refusal.Refusal.{Refusal}
use Rattle.subject.specs.declared.refusal.Refusal.TheVariants.{CutShort, WrongLength, WrongTag, WrongEdition, BytesBehind, DraftFull}
use Rattle.subject.specs.declared.refusal.Fault.{Fault}
use Rattle.survey.specs.declared.draft.TheConstants.{MOST_DRAFT_PLACES, MOST_DRAFT_WAYS}
use Rattle.survey.specs.declared.entry.Place.{Place}
use Rattle.survey.specs.declared.entry.WayEntry.{WayEntry}
use Rattle.survey.specs.Checks.{then, place_check, way_check}
use Rattle.survey.specs.Contents.{Contents, no_contents}
use Rattle.survey.specs.Edits.{of_repeater, add_place, add_way}
use Rattle.survey_file.specs.declared.field.Head.{Head}
use Rattle.survey_file.specs.declared.record.Record.{Record}
use Rattle.survey_file.specs.declared.reader.Phase.{Phase}
use Rattle.survey_file.specs.declared.reader.Phase.TheVariants as phase
use Rattle.survey_file.specs.declared.reader.State.{State}
use Rattle.survey_file.specs.Fields.{fault, with_place, two_at, four_at, head_at, body_at}
use Rattle.survey_file.specs.Records.{way_in, edition_at, place_at, way_at, end_at}
use Rattle.survey_file.specs.Decode.{Turn, to, enter, enter_edition, enter_place, enter_way, enter_end, turn_of, move_of, is_ended, walk, start, decode}
use Rattle.survey_file.specs.Encode.{head_field, repeater_field, place_field, way_field, end_field, file_of, IsBytes}
use Rattle.survey_file.proofs.Answering.{never, ok_same, then_ok, if_ok, unless_ok, with_place-ok}
use Rattle.survey_file.proofs.ReadsBack.{head, state, with_places, with_ways, way_record}

-- k bytes, from the place at + j on
abbrev bytes_at : ℕ → ℕ → ℕ → List ℕ → List ℕ
bytes_at zero at j bs = []
bytes_at (suc k) at j bs = get_or bs (at + j) 0 ∷ bytes_at k at (j + 1) bs

cut : (k at j : ℕ) (bs : List ℕ) → at + (j + k) ≤ length bs → drop (at + j) bs ≡ bytes_at k at j bs ++ drop (at + (j + k)) bs
cut zero at j bs h = let same : at + j ≡ at + (j + 0) = omega arith in ap (λ n. drop n bs) same
cut (suc k) at j bs h =
    let next : at + j + 1 ≡ at + (j + 1) = omega arith in
    let same : at + (j + 1 + k) ≡ at + (j + suc k) = omega arith in
    drop_more bs (at + j) 0 (omega arith)
    ∙ ap (λ n. get_or bs (at + j) 0 ∷ drop n bs) next
    ∙ ap (λ xs. get_or bs (at + j) 0 ∷ xs) (cut k at (j + 1) bs (omega arith))
    ∙ ap (λ n. get_or bs (at + j) 0 ∷ (bytes_at k at (j + 1) bs ++ drop n bs)) same

-- the bytes from a place on, cut behind k of them
cut_here : (k at next : ℕ) (bs : List ℕ) → next ≡ at + k → next ≤ length bs → drop at bs ≡ bytes_at k at 0 bs ++ drop next bs
cut_here k at next bs n h =
    let here : at ≡ at + 0 = omega arith in
    let there : at + (0 + k) ≡ next = omega arith in
    ap (λ m. drop m bs) here ∙ cut k at 0 bs (omega arith) ∙ ap (λ m. bytes_at k at 0 bs ++ drop m bs) there

-- what the draft holds behind an entry that it took
place_entered : (c : Contents) (r : Option ℕ) (d : Contents) → add_place c r ≡ Ok d → d ≡ with_places c (of_repeater r ∷ [])
place_entered c r d e =
    let p = if_ok (ltb (length c.places) MOST_DRAFT_PLACES) (then (place_check r) (λ _. Ok (with_places c (of_repeater r ∷ [])))) DraftFull d e in
    let q = then_ok (place_check r) (λ _. Ok (with_places c (of_repeater r ∷ []))) d p.1 in
    let last = q.2 in
    cc

way_entered : (c : Contents) (w : WayEntry) (d : Contents) → add_way c w ≡ Ok d → d ≡ with_ways c (w ∷ [])
way_entered c w d e =
    let p = if_ok (ltb (length c.ways) MOST_DRAFT_WAYS) (then (way_check (length c.places) w) (λ _. Ok (with_ways c (w ∷ [])))) DraftFull d e in
    let q = then_ok (way_check (length c.places) w) (λ _. Ok (with_ways c (w ∷ []))) d p.1 in
    let last = q.2 in
    cc

-- a tag that is the one asked for, or goes on to the next
tag_by : {X : Type 0} (b : Bool) (tag k : ℕ) (r s : Result X Fault) (x : X) → eqb tag k ≡ b → cond b r s ≡ Ok x → ((tag ≡ k) × (r ≡ Ok x)) ⊎ (s ≡ Ok x)
tag_by true tag k r s x is e = inl (eqb-true tag k is, e)
tag_by false tag k r s x is e = inr e

tag_is : {X : Type 0} (tag k : ℕ) (r s : Result X Fault) (x : X) → cond (eqb tag k) r s ≡ Ok x → ((tag ≡ k) × (r ≡ Ok x)) ⊎ (s ≡ Ok x)
tag_is tag k r s x e = tag_by (eqb tag k) tag k r s x refl e

module _ (bs : List ℕ) (small : (i : ℕ) → get_or bs i 0 < 256) where
  -- a number of two bytes is written as those bytes
  two_high : (i : ℕ) → two_at bs i / 256 ≡ get_or bs i 0
  two_high i = let l = small (i + 1) in omega arith

  two_low : (i j : ℕ) → j ≡ i + 1 → two_at bs i % 256 ≡ get_or bs j 0
  two_low i j e = let l = small (i + 1) in ap (λ x. x) (omega arith) ∙ ap (λ k. get_or bs k 0) (sym e)

  four_1 : (i : ℕ) → four_at bs i / 16777216 ≡ get_or bs i 0
  four_1 i = let b = small (i + 1) in let c = small (i + 2) in let d = small (i + 2 + 1) in omega arith

  four_2 : (i j : ℕ) → j ≡ i + 1 → four_at bs i / 65536 % 256 ≡ get_or bs j 0
  four_2 i j e =
      let b = small (i + 1) in let c = small (i + 2) in let d = small (i + 2 + 1) in
      let two : four_at bs i / 65536 ≡ two_at bs i = omega arith in
      ap (λ n. n % 256) two ∙ two_low i j e

  four_3 : (i j : ℕ) → j ≡ i + 2 → four_at bs i / 256 % 256 ≡ get_or bs j 0
  four_3 i j e =
      let c = small (i + 2) in let d = small (i + 2 + 1) in
      let low : four_at bs i / 256 % 256 ≡ get_or bs (i + 2) 0 = omega arith in
      low ∙ ap (λ k. get_or bs k 0) (sym e)

  four_4 : (i j : ℕ) → j ≡ i + 3 → four_at bs i % 256 ≡ get_or bs j 0
  four_4 i j e =
      let d = small (i + 2 + 1) in
      let same : i + 2 + 1 ≡ j = omega arith in
      let low : four_at bs i % 256 ≡ get_or bs (i + 2 + 1) 0 = omega arith in
      low ∙ ap (λ k. get_or bs k 0) same

  -- the first three bytes of an accepted field
  pub record Found (at t n : ℕ) : Type 0 where
    pub tag : t ≡ get_or bs (at + 0) 0
    pub high : 0 ≡ get_or bs (at + 1) 0
    pub low : n ≡ get_or bs (at + 2) 0

  found : (at t n : ℕ) → t ≡ get_or bs at 0 → n ≡ two_at bs (at + 1) → n < 256 → Found at t n
  found at t n e l h =
      let here : at ≡ at + 0 = omega arith in
      let next : at + 1 + 1 ≡ at + 2 = omega arith in
      let b = small (at + 1 + 1) in
      let zero_high : 0 ≡ get_or bs (at + 1) 0 = omega arith in
      let all-low : n ≡ get_or bs (at + 1 + 1) 0 = omega arith in
      record { tag = e ∙ ap (λ k. get_or bs k 0) here; high = zero_high; low = all-low ∙ ap (λ k. get_or bs k 0) next }

  byte : (i j : ℕ) → i ≡ j → get_or bs i 0 ≡ get_or bs j 0
  byte i j e = ap (λ k. get_or bs k 0) e

  edition_bytes : (at : ℕ) → Found at 1 2 → two_at bs (at + 3) ≡ 1 → head_field ≡ bytes_at 5 at 0 bs
  edition_bytes at f one i =
      f.tag i ∷ f.high i ∷ f.low i ∷ (ap (λ n. n / 256) (sym one) ∙ two_high (at + 3)) i
      ∷ (ap (λ n. n % 256) (sym one) ∙ two_low (at + 3) (at + 4) (omega arith)) i ∷ []

  blank_bytes : (at : ℕ) → Found at 2 0 → repeater_field None ≡ bytes_at 3 at 0 bs
  blank_bytes at f i = f.tag i ∷ f.high i ∷ f.low i ∷ []

  price_bytes : (at : ℕ) → Found at 2 4 → repeater_field (Some (four_at bs (at + 3))) ≡ bytes_at 7 at 0 bs
  price_bytes at f i =
      f.tag i ∷ f.high i ∷ f.low i ∷ four_1 (at + 3) i ∷ four_2 (at + 3) (at + 4) (omega arith) i
      ∷ four_3 (at + 3) (at + 5) (omega arith) i ∷ four_4 (at + 3) (at + 6) (omega arith) i ∷ []

  way_bytes : (at : ℕ) → Found at 3 12 → way_field (way_in bs (at + 3)) ≡ bytes_at 15 at 0 bs
  way_bytes at f i =
      f.tag i ∷ f.high i ∷ f.low i
      ∷ two_high (at + 3) i ∷ two_low (at + 3) (at + 4) (omega arith) i
      ∷ (two_high (at + 3 + 2) ∙ byte (at + 3 + 2) (at + 5) (omega arith)) i ∷ two_low (at + 3 + 2) (at + 6) (omega arith) i
      ∷ byte (at + 3 + 4) (at + 7) (omega arith) i ∷ byte (at + 3 + 5) (at + 8) (omega arith) i
      ∷ (two_high (at + 3 + 6) ∙ byte (at + 3 + 6) (at + 9) (omega arith)) i ∷ two_low (at + 3 + 6) (at + 10) (omega arith) i
      ∷ (four_1 (at + 3 + 8) ∙ byte (at + 3 + 8) (at + 11) (omega arith)) i ∷ four_2 (at + 3 + 8) (at + 12) (omega arith) i
      ∷ four_3 (at + 3 + 8) (at + 13) (omega arith) i ∷ four_4 (at + 3 + 8) (at + 14) (omega arith) i ∷ []

  end_bytes : (at : ℕ) → Found at 4 0 → end_field ≡ bytes_at 3 at 0 bs
  end_bytes at f i = f.tag i ∷ f.high i ∷ f.low i ∷ []

  -- what an accepted head and an accepted body say
  pub record Headed (at : ℕ) (h : Head) : Type 0 where
    pub enough : 3 ≤ length bs - at
    pub tag : h.tag ≡ get_or bs at 0
    pub long : h.length ≡ two_at bs (at + 1)

  head_ok : (at : ℕ) (h : Head) → head_at bs at ≡ Ok h → Headed at h
  head_ok at h e =
      let p = unless_ok (ltb (length bs - at) 3) (Ok (head (get_or bs at 0) (two_at bs (at + 1)))) (record { refusal = CutShort; place = at }) h e in
      let same : head (get_or bs at 0) (two_at bs (at + 1)) ≡ h = cc in
      record { enough = omega (arith, ltb-false (length bs - at) 3 p.0); tag = ap (λ x. x.tag) (sym same); long = ap (λ x. x.length) (sym same) }

  pub record Bodied (at : ℕ) (h : Head) (n next : ℕ) : Type 0 where
    pub long : h.length ≡ n
    pub next_is : next ≡ at + (3 + n)
    pub inside : next ≤ length bs

  body_ok : (at : ℕ) (h : Head) (n next : ℕ) → Headed at h → body_at bs at h n ≡ Ok next → Bodied at h n next
  body_ok at h n next hd e =
      let p = if_ok (eqb h.length n) (cond (ltb (length bs - at - 3) n) (fault CutShort at) (Ok (at + 3 + n))) (record { refusal = WrongLength; place = at }) next e in
      let q = unless_ok (ltb (length bs - at - 3) n) (Ok (at + 3 + n)) (record { refusal = CutShort; place = at }) next p.1 in
      let same : at + 3 + n ≡ next = grind (arith, q.1) in
      let room = ltb-false (length bs - at - 3) n q.0 in
      let some = hd.enough in
      record { long = eqb-true h.length n p.0; next_is = omega arith; inside = omega arith }

  field : (at t n next : ℕ) (h : Head) (xs : List ℕ) → Headed at h → Bodied at h n next → h.tag ≡ t → n < 256 → (Found at t n → xs ≡ bytes_at (3 + n) at 0 bs)
      → drop at bs ≡ xs ++ drop next bs
  field at t n next h xs hd bd tag few is =
      cut_here (3 + n) at next bs bd.next_is bd.inside
      ∙ ap (λ ys. ys ++ drop next bs) (sym (is (found at t n (sym tag ∙ hd.tag) (sym bd.long ∙ hd.long) few)))

  -- what an accepted record brings: its entry, and behind it the next place
  place_read : (b : Bool) (at : ℕ) (h : Head) (p : Record Place) → Headed at h → h.tag ≡ 2 → eqb h.length 0 ≡ b
      → cond b (Ok (record { entry = of_repeater None; next = at + 3 })) (then (body_at bs at h 4) (λ next. Ok (record { entry = of_repeater (Some (four_at bs (at + 3))); next = next }))) ≡ Ok p
      → (drop at bs ≡ place_field p.entry ++ drop p.next bs) × (p.next ≤ length bs)
  place_read true at h p hd tag long e =
      let same : record { entry = of_repeater None; next = at + 3 } ≡ p = cc in
      let some = hd.enough in
      let bd : Bodied at h 0 (at + 3) = record { long = eqb-true h.length 0 long; next_is = omega arith; inside = omega arith } in
      subst (λ x. (drop at bs ≡ place_field x.entry ++ drop x.next bs) × (x.next ≤ length bs)) same
      (field at 2 0 (at + 3) h (repeater_field None) hd bd tag (omega arith) (blank_bytes at), bd.inside)
  place_read false at h p hd tag long e =
      let q = then_ok (body_at bs at h 4) (λ next. Ok (record { entry = of_repeater (Some (four_at bs (at + 3))); next = next })) p e in
      let last = q.2 in
      let same : record { entry = of_repeater (Some (four_at bs (at + 3))); next = q.0 } ≡ p = cc in
      let bd = body_ok at h 4 q.0 hd q.1 in
      subst (λ x. (drop at bs ≡ place_field x.entry ++ drop x.next bs) × (x.next ≤ length bs)) same
      (field at 2 4 q.0 h (repeater_field (Some (four_at bs (at + 3)))) hd bd tag (omega arith) (price_bytes at), bd.inside)

  -- an accepted field: its entry, the next place, and what the reader makes of it
  pub record Step {X : Type 0} (bytes_of : X → List ℕ) (at : ℕ) (after : X → ℕ → Turn) (t : Turn) : Type 0 where
    pub entry : X
    pub next : ℕ
    pub bytes : drop at bs ≡ bytes_of entry ++ drop next bs
    pub inside : next ≤ length bs
    pub is : t ≡ after entry next

  -- a field whose entry was read and put into the draft
  step_entry : {X : Type 0} (read : List ℕ → ℕ → Head → Result (Record X) Fault) (add : Contents → X → Result Contents Refusal)
      (p : Phase) (bytes_of : X → List ℕ) (with : X → Contents) (at : ℕ) (c : Contents) (h : Head) (t : Turn)
      → ((x : Record X) → read bs at h ≡ Ok x → (drop at bs ≡ bytes_of x.entry ++ drop x.next bs) × (x.next ≤ length bs))
      → ((x : X) (d : Contents) → add c x ≡ Ok d → d ≡ with x)
      → enter read add p bs at h c ≡ Ok t → Step bytes_of at (λ x n. to p n (with x)) t
  step_entry read add p bytes_of with at c h t says adds e =
      let q = then_ok (read bs at h) (λ x. then (with_place (add c x.entry) at) (λ d. Ok (to p x.next d))) t e in
      let r = then_ok (with_place (add c q.0.entry) at) (λ d. Ok (to p q.0.next d)) t q.2 in
      let taken = with_place-ok (add c q.0.entry) at r.0 r.1 in
      let said = says q.0 q.1 in
      record {
        entry = q.0.entry;
        next = q.0.next;
        bytes = said.0;
        inside = said.1;
        is = sym (ok_same (to p q.0.next r.0) t r.2) ∙ ap (to p q.0.next) (adds q.0.entry r.0 taken);
      }

  step_place : (at : ℕ) (c : Contents) (h : Head) (t : Turn) → Headed at h → h.tag ≡ 2 → enter_place bs at h c ≡ Ok t
      → Step place_field at (λ p n. to phase.Places n (with_places c (p ∷ []))) t
  step_place at c h t hd tag e =
      step_entry place_at (λ b p. add_place b p.repeater) phase.Places place_field (λ p. with_places c (p ∷ [])) at c h t
      (λ x read. place_read (eqb h.length 0) at h x hd tag refl read) (λ x d taken. place_entered c x.repeater d taken) e

  way_read : (at : ℕ) (h : Head) (x : Record WayEntry) → Headed at h → h.tag ≡ 3 → way_at bs at h ≡ Ok x
      → (drop at bs ≡ way_field x.entry ++ drop x.next bs) × (x.next ≤ length bs)
  way_read at h x hd tag e =
      let b = then_ok (body_at bs at h 12) (λ next. Ok (way_record (way_in bs (at + 3)) next)) x e in
      let same = ok_same (way_record (way_in bs (at + 3)) b.0) x b.2 in
      let bd = body_ok at h 12 b.0 hd b.1 in
      subst (λ y. (drop at bs ≡ way_field y.entry ++ drop y.next bs) × (y.next ≤ length bs)) same
      (field at 3 12 b.0 h (way_field (way_in bs (at + 3))) hd bd tag (omega arith) (way_bytes at), bd.inside)

  step_way : (at : ℕ) (c : Contents) (h : Head) (t : Turn) → Headed at h → h.tag ≡ 3 → enter_way bs at h c ≡ Ok t
      → Step way_field at (λ w n. to phase.Ways n (with_ways c (w ∷ []))) t
  step_way at c h t hd tag e =
      step_entry way_at add_way phase.Ways way_field (λ w. with_ways c (w ∷ [])) at c h t
      (λ x read. way_read at h x hd tag read) (λ x d taken. way_entered c x d taken) e

  step_edition : (at : ℕ) (c : Contents) (h : Head) (t : Turn) → Headed at h → h.tag ≡ 1 → enter_edition bs at h c ≡ Ok t
      → Step (λ (u : Unit {0}). head_field) at (λ u n. to phase.Places n c) t
  step_edition at c h t hd tag e =
      let q = then_ok (edition_at bs at h) (λ next. Ok (to phase.Places next c)) t e in
      let b = then_ok (body_at bs at h 2) (λ next. cond (eqb (two_at bs (at + 3)) 1) (Ok next) (fault WrongEdition at)) q.0 q.1 in
      let one = if_ok (eqb (two_at bs (at + 3)) 1) (Ok b.0) (record { refusal = WrongEdition; place = at }) q.0 b.2 in
      let bd = body_ok at h 2 b.0 hd b.1 in
      let same = ok_same b.0 q.0 one.1 in
      record {
        entry = tt;
        next = b.0;
        bytes = field at 1 2 b.0 h head_field hd bd tag (omega arith) (λ f. edition_bytes at f (eqb-true (two_at bs (at + 3)) 1 one.0));
        inside = bd.inside;
        is = sym (ok_same (to phase.Places q.0 c) t q.2) ∙ ap (λ n. to phase.Places n c) (sym same);
      }

  step_end : (at : ℕ) (c : Contents) (h : Head) (t : Turn) → Headed at h → h.tag ≡ 4 → enter_end bs at h c ≡ Ok t
      → (drop at bs ≡ end_field) × ((n : ℕ) × (t ≡ to phase.Ended n c))
  step_end at c h t hd tag e =
      let q = then_ok (end_at bs at h) (λ next. Ok (to phase.Ended next c)) t e in
      let b = then_ok (body_at bs at h 0) (λ next. cond (ltb next (length bs)) (fault BytesBehind next) (Ok next)) q.0 q.1 in
      let last = unless_ok (ltb b.0 (length bs)) (Ok b.0) (record { refusal = BytesBehind; place = b.0 }) q.0 b.2 in
      let bd = body_ok at h 0 b.0 hd b.1 in (
        field at 4 0 b.0 h end_field hd bd tag (omega arith) (end_bytes at) ∙ ap (λ xs. end_field ++ xs) (drop_all b.0 bs (ltb-false b.0 (length bs) last.0)),
        (q.0, sym (ok_same (to phase.Ended q.0 c) t q.2)),
      )

  -- one turn of the walk
  walk_step : (n : ℕ) (s : State) (c d : Contents) → is_ended s.phase ≡ false → walk (suc n) bs s c ≡ Ok d
      → (t : Turn) × (turn_of bs s c ≡ Ok t) × (walk n bs t.state t.draft ≡ Ok d)
  unfolding walk
  walk_step n s c d going e =
      then_ok (turn_of bs s c) (λ t. walk n bs t.state t.draft) d
      (ap (λ b. cond b (Ok c) (then (turn_of bs s c) (λ t. walk n bs t.state t.draft))) (sym going) ∙ e)

  walk_none : (s : State) (c d : Contents) → walk 0 bs s c ≡ Ok d → ⊥
  unfolding walk
  walk_none s c d e = never (record { refusal = CutShort; place = s.at }) d e

  walk_end : (n : ℕ) (at : ℕ) (c d : Contents) → walk n bs (state phase.Ended at) c ≡ Ok d → d ≡ c
  unfolding walk
  walk_end zero at c d e = absurd (never (record { refusal = CutShort; place = at }) d e)
  walk_end (suc n) at c d e = sym (ok_same c d e)

  -- the turn of a state, by its head
  turned : (s : State) (c : Contents) (t : Turn) → turn_of bs s c ≡ Ok t → (h : Head) × Headed s.at h × (move_of s.phase bs s.at h c ≡ Ok t)
  turned s c t e = let q = then_ok (head_at bs s.at) (λ h. move_of s.phase bs s.at h c) t e in (q.0, head_ok s.at q.0 q.1, q.2)

  -- what is left behind the places: ways and the end
  pub record Rest (at : ℕ) (c d : Contents) : Type 0 where
    pub ways : List WayEntry
    pub is : d ≡ with_ways c ways
    pub bytes : drop at bs ≡ flat_map way_field ways ++ end_field

  -- what is left behind the head: places, ways and the end
  pub record Body (at : ℕ) (c d : Contents) : Type 0 where
    pub places : List Place
    pub ways : List WayEntry
    pub is : d ≡ record { places = c.places ++ places; ways = c.ways ++ ways }
    pub bytes : drop at bs ≡ flat_map place_field places ++ (flat_map way_field ways ++ end_field)

  -- an end is all that is left
  rest_end : (n at : ℕ) (c d : Contents) (h : Head) (t : Turn) → Headed at h → h.tag ≡ 4 → enter_end bs at h c ≡ Ok t → walk n bs t.state t.draft ≡ Ok d → Rest at c d
  rest_end n at c d h t hd tag e on =
      let s = step_end at c h t hd tag e in
      let last = walk_end n s.1.0 c d (ap (λ x. walk n bs x.state x.draft) (sym s.1.1) ∙ on) in
      record { ways = []; is = last ∙ ap (λ x. record { places = c.places; ways = x }) (sym (append-nil c.ways)); bytes = s.0 }

  -- a way, and what is left behind it
  rest_more : (at : ℕ) (c d : Contents) (t : Turn) (s : Step way_field at (λ w n. to phase.Ways n (with_ways c (w ∷ []))) t)
      → Rest s.next (with_ways c (s.entry ∷ [])) d → Rest at c d
  rest_more at c d t s r = record {
    ways = s.entry ∷ r.ways;
    is = r.is ∙ ap (λ x. record { places = c.places; ways = x }) (append_assoc c.ways (s.entry ∷ []) r.ways);
    bytes = s.bytes ∙ ap (λ xs. way_field s.entry ++ xs) r.bytes;
  }

  -- a turn that reads a way or the end, where what follows a way is known
  rest_turn : (n at : ℕ) (c d : Contents) (h : Head) (t : Turn) → Headed at h
      → cond (eqb h.tag 3) (enter_way bs at h c) (cond (eqb h.tag 4) (enter_end bs at h c) (fault WrongTag at)) ≡ Ok t
      → walk n bs t.state t.draft ≡ Ok d
      → ((next : ℕ) (b : Contents) → walk n bs (state phase.Ways next) b ≡ Ok d → Rest next b d) → Rest at c d
  rest_turn n at c d h t hd move on later =
      elim (tag_is h.tag 3 (enter_way bs at h c) (cond (eqb h.tag 4) (enter_end bs at h c) (fault WrongTag at)) t move) [
        | inl w ↦
            let s = step_way at c h t hd w.0 w.1 in
            rest_more at c d t s
            (later s.next (with_ways c (s.entry ∷ [])) (ap (λ x. walk n bs x.state x.draft) (sym s.is) ∙ on))
        | inr other ↦ elim (tag_is h.tag 4 (enter_end bs at h c) (fault WrongTag at) t other) [
          | inl x ↦ rest_end n at c d h t hd x.0 x.1 on
          | inr wrong ↦ absurd (never (record { refusal = WrongTag; place = at }) t wrong)
        ]
      ]

  rest_ways : (n at : ℕ) (c d : Contents) → walk n bs (state phase.Ways at) c ≡ Ok d → Rest at c d
  rest_ways zero at c d e = absurd (walk_none (state phase.Ways at) c d e)
  rest_ways (suc n) at c d e =
      let q = walk_step n (state phase.Ways at) c d refl e in
      let m = turned (state phase.Ways at) c q.0 q.1 in
      rest_turn n at c d m.0 q.0 m.1 m.2 q.2 (λ next b on. rest_ways n next b d on)

  -- with no place more, the rest is all
  body_rest : (at : ℕ) (c d : Contents) → Rest at c d → Body at c d
  body_rest at c d r = record {
    places = [];
    ways = r.ways;
    is = r.is ∙ ap (λ x. record { places = x; ways = c.ways ++ r.ways }) (sym (append-nil c.places));
    bytes = r.bytes;
  }

  body_more : (at : ℕ) (c d : Contents) (t : Turn) (s : Step place_field at (λ p n. to phase.Places n (with_places c (p ∷ []))) t)
      → Body s.next (with_places c (s.entry ∷ [])) d → Body at c d
  body_more at c d t s r = record {
    places = s.entry ∷ r.places;
    ways = r.ways;
    is = r.is ∙ ap (λ x. record { places = x; ways = c.ways ++ r.ways }) (append_assoc c.places (s.entry ∷ []) r.places);
    bytes = s.bytes ∙ ap (λ xs. place_field s.entry ++ xs) r.bytes
        ∙ sym (append_assoc (place_field s.entry) (flat_map place_field r.places) (flat_map way_field r.ways ++ end_field));
  }

  body_places : (n at : ℕ) (c d : Contents) → walk n bs (state phase.Places at) c ≡ Ok d → Body at c d
  body_places zero at c d e = absurd (walk_none (state phase.Places at) c d e)
  body_places (suc n) at c d e =
      let q = walk_step n (state phase.Places at) c d refl e in
      let m = turned (state phase.Places at) c q.0 q.1 in
      let h = m.0 in
      let after-place = cond (eqb h.tag 3) (enter_way bs at h c) (cond (eqb h.tag 4) (enter_end bs at h c) (fault WrongTag at)) in
      elim (tag_is h.tag 2 (enter_place bs at h c) after-place q.0 m.2) [
        | inl p ↦
            let s = step_place at c h q.0 m.1 p.0 p.1 in
            body_more at c d q.0 s (body_places n s.next (with_places c (s.entry ∷ [])) d (ap (λ x. walk n bs x.state x.draft) (sym s.is) ∙ q.2))
        | inr other ↦ body_rest at c d (rest_turn n at c d h q.0 m.1 other q.2 (λ next b on. rest_ways n next b d on))
      ]

  whole : (d : Contents) → decode bs ≡ Ok d → bs ≡ file_of d
  whole d e =
      let q = walk_step (length bs) start no_contents d refl e in
      let m = turned start no_contents q.0 q.1 in
      let h = m.0 in
      elim (tag_is h.tag 1 (enter_edition bs 0 h no_contents) (fault WrongTag 0) q.0 m.2) [
        | inl x ↦
            let s = step_edition 0 no_contents h q.0 m.1 x.0 x.1 in
            let b = body_places (length bs) s.next no_contents d (ap (λ x. walk (length bs) bs x.state x.draft) (sym s.is) ∙ q.2) in
            s.bytes ∙ ap (λ xs. head_field ++ xs) b.bytes ∙ ap file_of (sym b.is)
        | inr wrong ↦ absurd (never (record { refusal = WrongTag; place = 0 }) q.0 wrong)
      ]

-- a list of bytes that is accepted is the file of what it reads as
pub only_file : (bs : List ℕ) (d : Contents) → IsBytes bs → decode bs ≡ Ok d → bs ≡ file_of d
only_file bs d bytes e =
    whole bs (λ i. elim (cases_lt i (length bs)) [ inl lt ↦ bytes i lt | inr past ↦ ap_below (get_or_past bs i 0 past) ]) d e
  where
    ap_below : {n : ℕ} → n ≡ 0 → n < 256
    ap_below e = omega arith
