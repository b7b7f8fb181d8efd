-- What is known where a check, or one check after another, has passed. By cases on the checks.
use Rattle.std.proofs.Common.{◌≡◌, ℕ, Bool, true, false, cond, is_ok, Ok, Err, Result, refl, arith}
use Rattle.subject.specs.declared.refusal.Refusal.{Refusal}
use Rattle.survey.specs.Checks.{then}
use Rattle.survey_file.specs.Fields.{with_place}

pub unit_ok : {E : Type 0} (r : Result (Unit {0}) E) → is_ok r ≡ true → r ≡ Ok tt
unit_ok (Ok u) h = refl
unit_ok (Err e) h = let z : false ≡ true = h in cc

pub never : {X E : Type 0} (e : E) (x : X) → Err e ≡ Ok x → ⊥
never e x h = let z : ◌≡◌ {A = ℕ} 0 1 = cc in omega arith

pub ok_same : {X E : Type 0} (x y : X) → ◌≡◌ {A = Result X E} (Ok x) (Ok y) → x ≡ y
ok_same x y h = cc

pub then_ok : {X Y E : Type 0} (r : Result X E) (f : X → Result Y E) (y : Y) → then r f ≡ Ok y → (x : X) × (r ≡ Ok x) × (f x ≡ Ok y)
then_ok (Ok x) f y h = (x, refl, h)
then_ok (Err e) f y h = absurd (never e y h)

pub if_ok : {X E : Type 0} (b : Bool) (r : Result X E) (e : E) (x : X) → cond b r (Err e) ≡ Ok x → (b ≡ true) × (r ≡ Ok x)
if_ok true r e x h = (refl, h)
if_ok false r e x h = absurd (never e x h)

pub unless_ok : {X E : Type 0} (b : Bool) (r : Result X E) (e : E) (x : X) → cond b (Err e) r ≡ Ok x → (b ≡ false) × (r ≡ Ok x)
unless_ok false r e x h = (refl, h)
unless_ok true r e x h = absurd (never e x h)

pub with_place-ok : {X : Type 0} (r : Result X Refusal) (at : ℕ) (x : X) → with_place r at ≡ Ok x → r ≡ Ok x
with_place-ok (Ok y) at x h = cc
with_place-ok (Err e) at x h = cc
