-- Disturbance: a grade, of which joining takes the greater. A grade is a byte, so it holds no excess. Stands on Charges.
use Rattle.std.specs.Prelude.{Bool, ℕ, max, leb}
use Rattle.subject.specs.declared.disturbance.Disturbance.{Disturbance}
use Rattle.subject.specs.Charges.{Kind}

abbrev pub of_grade : ℕ → Disturbance
of_grade n = record { grade = n }

abbrev pub grade_meaning : Disturbance → Disturbance
grade_meaning d = d

abbrev pub no_grade : Disturbance
no_grade = of_grade 0

abbrev pub greater_of : Disturbance → Disturbance → Disturbance
greater_of a b = of_grade (max a.grade b.grade)

abbrev pub grade_no_more : Disturbance → Disturbance → Bool
grade_no_more a b = leb a.grade b.grade

abbrev pub disturbance : Kind Disturbance
disturbance = record { meaning = grade_meaning; nothing = no_grade; join = greater_of; no_more = grade_no_more }
