-- Fields of a survey file: a tag in one byte, a length in two, and a body. Numbers have their high byte first.
-- A fault's place counts the bytes before the field's tag. Stands on the refusals.
use Rattle.std.specs.Prelude.{ℕ, ◌+◌, ◌-◌, ◌*◌, ◌≤◌, cond, List, length, Ok, Err, Result, ◌==◌, nat_lt, slice_index}
use Rattle.subject.specs.declared.refusal.Refusal.{Refusal}
use Rattle.subject.specs.declared.refusal.Refusal.TheVariants.{CutShort, WrongLength}
use Rattle.subject.specs.declared.refusal.Fault.{Fault}
use Rattle.subject.specs.Refusals.{number}
use Rattle.survey_file.specs.declared.field.Head.{Head}

-- a refusal that a file can be met with: they have the numbers 1 to 10
abbrev pub IsFileRefusal : Refusal → Type 0
IsFileRefusal r = number r ≤ 10

-- a refusal, with the bytes before the field
abbrev pub fault_of : Refusal → ℕ → Fault
fault_of r at = record { refusal = r; place = at }

abbrev pub fault : {X : Type 0} → Refusal → ℕ → Result X Fault
fault r at = Err (fault_of r at)

-- the number in the two bytes from i on
abbrev pub two_at : List ℕ → ℕ → ℕ
two_at bs i = slice_index bs i * 256 + slice_index bs (i + 1)

-- the number in the four bytes from i on
abbrev pub four_at : List ℕ → ℕ → ℕ
four_at bs i = two_at bs i * 65536 + two_at bs (i + 2)

-- the head of the field at a place: three bytes are there
abbrev pub head_at : List ℕ → ℕ → Result Head Fault
head_at bs at =
    cond (nat_lt (length bs - at) 3) (fault CutShort at)
    (Ok (record { tag = slice_index bs at; length = two_at bs (at + 1) }))

-- where the next field begins: the length is the one that the tag has, and then the body is there
abbrev pub body_at : List ℕ → ℕ → Head → ℕ → Result ℕ Fault
body_at bs at h wanted =
    cond (h.length == wanted)
    (cond (nat_lt (length bs - at - 3) wanted) (fault CutShort at) (Ok (at + 3 + wanted)))
    (fault WrongLength at)

-- a refusal of the draft, as a fault at the field
abbrev pub with_place : {X : Type 0} → Result X Refusal → ℕ → Result X Fault
with_place (Ok x) at = Ok x
with_place (Err r) at = fault r at
