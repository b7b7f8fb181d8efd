-- The records that a reader gives until it has no more are the records of the text: each takes a byte at least, so there are no more
-- than the bytes.
use Rattle.std.proofs.Common.{◌≡◌, ℕ, zero, suc, ◌+◌, ◌-◌, ◌<◌, ◌≤◌, Bool, true, false, ◌||◌, ◌==◌, if◌then◌else◌, List, [], ◌∷◌, ◌++◌, length, Some, None, refl, sym, ap, inl, inr, arith}
use Rattle.std.proofs.lemmas.Bool.{cases_Bool}
use Rattle.csv.specs.Machine.{Read, next_record, step, in_field, start_field, start_record, after_end, is_end, ends_at_end, fields_after}
use Rattle.csv.specs.Reading.{default_config, AreRecords, Reached, records, records_from}
use Rattle.csv.specs.declared.parser.Action.{Action}
use Rattle.csv.specs.declared.parser.Action.TheVariants as act
use Rattle.csv.specs.declared.parser.State.{State}
use Rattle.csv.specs.declared.parser.State.TheVariants as st
use Rattle.csv.specs.declared.parser.Terminator.TheVariants as term

-- a step that ends a record leaves the reader between two records
abbrev Between : State × Action → Type 0
Between x = is_end x.1 ≡ true → ends_at_end x.0 ≡ false

pick : (b : Bool) (x y : State × Action) → Between x → Between y → Between (if b then x else y)
pick true x y h k = h
pick false x y h k = k

goes_on : (s : State) → Between (s, act.Skip)
goes_on s h = absurd (cc h)

copies : (s : State) → Between (s, act.Copy)
copies s h = absurd (cc h)

ends_by : (b : Bool) → ends_at_end (if b then st.AfterCr else st.StartRecord) ≡ false
ends_by true = refl
ends_by false = refl

field_between : (c : ℕ) → Between (in_field default_config c)
field_between c =
    pick (c == 44) (st.StartField, act.EndField) _ (λ h. absurd (cc h))
    (pick ((c == 13) || (c == 10)) (after_end term.CRLF c, act.EndRecord) (st.InField, act.Copy) (λ h. ends_by (c == 13)) (copies st.InField))

start_between : (c : ℕ) → Between (start_field default_config c)
start_between c = pick (c == 34) (st.InQuoted, act.Skip) (in_field default_config c) (goes_on st.InQuoted) (field_between c)

record_between : (c : ℕ) → Between (start_record default_config c)
record_between c = pick ((c == 13) || (c == 10)) (st.StartRecord, act.Skip) (start_field default_config c) (goes_on st.StartRecord) (start_between c)

step_between : (s : State) (c : ℕ) → Between (step default_config s c)
step_between st.StartRecord c = record_between c
step_between st.StartField c = start_between c
step_between st.InField c = field_between c
step_between st.InQuoted c = pick (c == 34) (st.AfterQuote, act.Skip) (st.InQuoted, act.Copy) (goes_on st.AfterQuote) (copies st.InQuoted)
step_between st.InEscape c = copies st.InQuoted
step_between st.AfterQuote c = pick (c == 34) (st.InQuoted, act.Copy) (in_field default_config c) (copies st.InQuoted) (field_between c)
step_between st.InComment c = pick (c == 10) (st.StartRecord, act.Skip) (st.InComment, act.Skip) (goes_on st.StartRecord) (goes_on st.InComment)
step_between st.AfterCr c = pick (c == 10) (st.StartRecord, act.Skip) (start_record default_config c) (goes_on st.StartRecord) (record_between c)

-- what is left behind a record: the reader is between two, and at least a byte less is left
abbrev Leaves : ℕ → Read → Type 0
Leaves n p = (ends_at_end p.1 ≡ false) × (length p.2 ≤ n - 1)

at_end : (b : Bool) (f : List (List ℕ)) (p : Read) → (if b then Some (f, st.StartRecord, []) else None) ≡ Some p → Leaves 0 p
at_end true f p h = (let e : st.StartRecord ≡ p.1 = cc in rw (sym e) refl, let e : [] ≡ p.2 = cc in rw (sym e) (omega arith))
at_end false f p h = absurd (cc h)

pub record_leaves : (s : State) (fields : List (List ℕ)) (field : List ℕ) (xs : List ℕ) (p : Read)
    → next_record default_config s fields field xs ≡ Some p → Leaves (length xs) p
unfolding next_record
record_leaves s fields field [] p h = at_end (ends_at_end s) (fields ++ (field ∷ [])) p h
record_leaves s fields field (c ∷ rest) p h = elim (cases_Bool (is_end (step default_config s c).1)) [
  | inl ended ↦
      let e : Some (fields_after (step default_config s c).1 fields field, (step default_config s c).0, rest) ≡ Some p = rw ended at h in
      let state : (step default_config s c).0 ≡ p.1 = cc in
      let left : rest ≡ p.2 = cc in
      (rw (sym state) (step_between s c ended), rw (sym left) (omega arith))
  | inr more ↦
      let e = rw more at h in
      let less = record_leaves (step default_config s c).0 _ _ rest p e in
      (less.0, omega (arith, less.1))
]

-- between two records there is a byte before the next one
pub record_takes : (s : State) (xs : List ℕ) (p : Read) → ends_at_end s ≡ false → next_record default_config s [] [] xs ≡ Some p → 0 < length xs
unfolding next_record
record_takes s [] p between h = absurd (cc (rw between at h))
record_takes s (c ∷ xs) p between h = omega arith

rows_few : (s : State) (xs : List ℕ) (rows : List (List (List ℕ))) (s2 : State) (ys : List ℕ) → ends_at_end s ≡ false
    → Reached default_config s xs rows s2 ys → length rows ≤ length xs
unfolding Reached
rows_few s xs [] s2 ys between h = omega arith
rows_few s xs (r ∷ rows) s2 ys between (p, next, is, more) =
    let some = record_takes s xs p between next in
    let less = record_leaves s [] [] xs p next in
    omega (arith, rows_few p.1 p.2 rows s2 ys less.0 more, less.1, some)

rows_all : (n : ℕ) (s : State) (xs : List ℕ) (rows : List (List (List ℕ))) (s2 : State) (ys : List ℕ) → length rows < n
    → Reached default_config s xs rows s2 ys → next_record default_config s2 [] [] ys ≡ None → rows ≡ records_from default_config n s xs
unfolding Reached records_from
rows_all zero s xs rows s2 ys few h none = absurd (omega arith)
rows_all (suc n) s xs [] s2 ys few (state, left) none = rw (state, left, none) refl
rows_all (suc n) s xs (r ∷ rows) s2 ys few (p, next, is, more) none =
    rw (next, is) (ap (λ z. p.0 ∷ z) (rows_all n p.1 p.2 rows s2 ys (omega arith) more none))

pub records_are : (xs : List ℕ) (rows : List (List (List ℕ))) → AreRecords default_config st.StartRecord xs rows → rows ≡ records default_config xs
records_are xs rows (s2, ys, reached, none) =
    let few = rows_few st.StartRecord xs rows s2 ys refl reached in
    rows_all (length xs + 1) st.StartRecord xs rows s2 ys (omega arith) reached none
