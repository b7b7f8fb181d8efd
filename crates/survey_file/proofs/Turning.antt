-- The loop of the reader: before each turn, some turns are left that suffice, and they give what the whole file says.
use Rattle.std.proofs.Common.{◌≡◌, ℕ, zero, suc, ◌-◌, ◌<◌, ◌≤◌, Bool, true, false, cond, List, length, Ok, Err, Result, sym, ap, ◌∙◌, arith}
use Rattle.subject.specs.declared.refusal.Fault.{Fault}
use Rattle.survey.specs.Contents.{Contents, no_contents}
use Rattle.survey_file.specs.declared.reader.State.{State}
use Rattle.survey.specs.Checks.{then}
use Rattle.survey_file.specs.Decode.{Turn, turn_of, is_ended, walk, start, decode, state_of, contents_of}

-- in the state s, with the contents c so far, some turns are left that suffice and give what the file says
pub record TurnsLeft (bs : List ℕ) (s : State) (c : Contents) : Type 0 where
  pub inside : s.at ≤ length bs
  pub turns : ℕ
  pub enough : length bs - s.at < turns
  pub gives : walk turns bs s c ≡ decode bs

pub first : (bs : List ℕ) (c : Contents) → c ≡ no_contents → TurnsLeft bs start c
first bs c e = record { inside = omega arith; turns = suc (length bs); enough = omega arith; gives = ap (walk (suc (length bs)) bs start) e }

-- one turn of the decoder
opened : (n : ℕ) (bs : List ℕ) (s : State) (c : Contents) (b : Bool) → 0 < n → is_ended s.phase ≡ b
    → walk n bs s c ≡ cond b (Ok c) (then (turn_of bs s c) (λ t. walk (n - 1) bs t.state t.draft))
unfolding walk
opened zero bs s c b h e = absurd (omega arith)
opened (suc n) bs s c b h e =
    let back : n ≡ suc n - 1 = omega arith in
    ap (λ x. cond x (Ok c) (then (turn_of bs s c) (λ t. walk n bs t.state t.draft))) e
    ∙ ap (λ m. cond b (Ok c) (then (turn_of bs s c) (λ t. walk m bs t.state t.draft))) back

pub at_end : (bs : List ℕ) (s : State) (c : Contents) → TurnsLeft bs s c → is_ended s.phase ≡ true → decode bs ≡ Ok c
at_end bs s c l e = sym l.gives ∙ opened l.turns bs s c true (omega (arith, l.enough)) e

-- what a field brings, by whether it is accepted
turn_err : (n : ℕ) (bs : List ℕ) (r : Result Turn Fault) (f : Fault) → Err f ≡ state_of r → then r (λ t. walk n bs t.state t.draft) ≡ Err f
turn_err n bs (Ok t) f was = cc
turn_err n bs (Err e) f was = cc

turn_ok : (n : ℕ) (bs : List ℕ) (r : Result Turn Fault) (c d : Contents) (s : State) → Ok s ≡ state_of r → d ≡ contents_of c r
    → walk n bs s d ≡ then r (λ t. walk n bs t.state t.draft)
turn_ok n bs (Ok t) c d s was left = let same : s ≡ t.state = cc in cc
turn_ok n bs (Err e) c d s was left = cc

-- a field that is refused refuses the file
pub after_err : (bs : List ℕ) (s : State) (c : Contents) (f : Fault) → TurnsLeft bs s c → is_ended s.phase ≡ false → Err f ≡ state_of (turn_of bs s c) → decode bs ≡ Err f
after_err bs s c f l e was =
    sym l.gives ∙ opened l.turns bs s c false (omega (arith, l.enough)) e ∙ turn_err (l.turns - 1) bs (turn_of bs s c) f was

-- a field that is accepted brings the reader on
pub after_ok : (bs : List ℕ) (s t : State) (c d : Contents) → TurnsLeft bs s c → is_ended s.phase ≡ false → Ok t ≡ state_of (turn_of bs s c) → d ≡ contents_of c (turn_of bs s c)
    → s.at < t.at → t.at ≤ length bs → TurnsLeft bs t d
after_ok bs s t c d l e was left more inside = record {
  inside = inside;
  turns = l.turns - 1;
  enough = omega (arith, l.enough);
  gives = turn_ok (l.turns - 1) bs (turn_of bs s c) c d t was left ∙ sym (opened l.turns bs s c false (omega (arith, l.enough)) e) ∙ l.gives;
}
