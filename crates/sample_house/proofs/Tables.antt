-- Each worked case, by a table of the cells that a run can reach and a run that is drawn by hand: all tests are
-- computed.
use Rattle.std.proofs.Common.{◌≡◌, ℕ, ◌≤◌, Bool, true, false, cond, T, List, [], ◌∷◌, Some, None, refl, ap, zero-le, le-leb}
use Rattle.std.proofs.lemmas.Option.{slice_get_past}
use Rattle.subject.specs.Charges.{Laws}
use Rattle.subject.specs.Grades.{of_grade}
use Rattle.subject.specs.Moneys.{of_cents}
use Rattle.subject.specs.Problems.{Problem}
use Rattle.subject.specs.Runs.{total, IsLeast}
use Rattle.subject.specs.Sites.{SiteMeaning}
use Rattle.subject.specs.declared.disturbance.Disturbance.{Disturbance}
use Rattle.subject.specs.declared.money.Money.{Money}
use Rattle.subject.specs.declared.run.Step.{Step}
use Rattle.survey.specs.Contents.{Contents}
use Rattle.survey.specs.SurveySite.{survey_site, money_site, money_problem, way_of}
use Rattle.survey.specs.declared.entry.WayEntry.{WayEntry}
use Rattle.job.specs.Book.{empty_book, with_way}
use Rattle.job.specs.Jobs.{shutting}
use Rattle.sample_house.specs.Cases.{LeastIs, Costs, NoneAcross, with_way_2_closed, for_disturbance}
use Rattle.sample_house.specs.House.{house, house_with, across}
use Rattle.sample_house.proofs.Orders.{money_laws, disturbance_laws}
use Rattle.sample_house.proofs.Potential.{Cell, cell, is_closed, ends_from, leads_on, leads_on_lawfully, none_lower, none_lawful}

-- past the ways of a survey there is none, shut or not
survey_past : {C : Type 0} (wayCharge : WayEntry → C) (repeaterCharge : ℕ → C) (c : Contents) (n : ℕ)
    → (survey_site wayCharge repeaterCharge c).ways ≤ n → (survey_site wayCharge repeaterCharge c).way n ≡ None
survey_past wayCharge repeaterCharge c n h = ap (way_of wayCharge) (slice_get_past c.ways n h)

shut_past : {C : Type 0} (m : SiteMeaning C) (book : ℕ → Bool) → ((n : ℕ) → m.ways ≤ n → m.way n ≡ None)
    → (n : ℕ) → (shutting m book).ways ≤ n → (shutting m book).way n ≡ None
shut_past m book past n h =
    elim (book n) as (λ b. cond b None (m.way n) ≡ None) [ true ↦ refl | false ↦ past n h ]

money_past : (c : Contents) (n : ℕ) → (money_site c).ways ≤ n → (money_site c).way n ≡ None
money_past = survey_past (λ w. of_cents w.price) of_cents

-- a run that comes to c, and a closed table whose cells of the end have at least c
least_is : {C : Type 0} (P : Problem C) (c : C) → Laws P.kind → ((n : ℕ) → P.site.ways ≤ n → P.site.way n ≡ None)
    → (run : List Step) (cells : List (Cell C)) → T (leads_on P P.request.start 0 run) → c ≡ total P run
    → T (is_closed P cells) → T (ends_from P c cells) → LeastIs P c
least_is P c laws past run cells leads comes shut ends = record {
  run = run;
  least = record {
    lawful = leads_on_lawfully P run P.request.start 0 leads;
    comes_to = comes;
    lowest = none_lower P laws past cells shut c ends;
  };
}

costs : (c : Contents) (bound cents : ℕ) (run : List Step) (cells : List (Cell Money))
    → T (leads_on (money_problem c (across bound)) 0 0 run) → of_cents cents ≡ total (money_problem c (across bound)) run
    → T (is_closed (money_problem c (across bound)) cells)
    → T (ends_from (money_problem c (across bound)) (of_cents cents) cells)
    → Costs c bound cents
costs c bound cents = least_is (money_problem c (across bound)) (of_cents cents) money_laws (money_past c)

abbrev over : ℕ → Step
over n = record { way = n; mark = false }

abbrev marked : ℕ → Step
marked n = record { way = n; mark = true }

abbrev at : ℕ → ℕ → ℕ → Cell Money
at p l cents = cell p l (of_cents cents)

-- straight on; with a repeater at 1; there and back over 2, with a repeater there
abbrev straight : List Step
straight = over 0 ∷ over 1 ∷ []

abbrev by_one : List Step
by_one = marked 0 ∷ over 1 ∷ []

abbrev by_two : List Step
by_two = over 0 ∷ marked 2 ∷ over 3 ∷ over 1 ∷ []

-- what can be reached under a bound below 33, and under one below 44
abbrev near : List (Cell Money)
near = at 0 0 0 ∷ at 1 22 300 ∷ at 1 0 2300 ∷ at 3 22 2600 ∷ at 2 11 2500 ∷ at 2 0 3000 ∷ at 1 11 3200 ∷ at 2 22 3400 ∷ []

abbrev wide : List (Cell Money)
wide =
    at 0 0 0 ∷ at 1 22 300 ∷ at 1 0 2300 ∷ at 3 22 2600 ∷ at 2 11 2500 ∷ at 2 33 500 ∷ at 2 0 1000 ∷ at 1 11 1200 ∷ at 3 33 1500
    ∷ at 2 22 1400 ∷ at 1 33 1600 ∷ []

abbrev widest : List (Cell Money)
widest = at 3 44 600 ∷ at 1 44 700 ∷ at 2 44 1800 ∷ wide

pub at_44 : Costs house 44 600
at_44 = costs house 44 600 straight widest tt refl tt tt

pub at_43 : Costs house 43 1500
at_43 = costs house 43 1500 by_two wide tt refl tt tt

pub at_33 : Costs house 33 1500
at_33 = costs house 33 1500 by_two wide tt refl tt tt

pub at_32 : Costs house 32 2600
at_32 = costs house 32 2600 by_one near tt refl tt tt

pub at_22 : Costs house 22 2600
at_22 = costs house 22 2600 by_one near tt refl tt tt

pub at_21 : NoneAcross house 21
at_21 = none_lawful (money_problem house (across 21)) money_laws (money_past house) (at 0 0 0 ∷ []) tt tt

pub blank : NoneAcross (house_with None) 32
blank =
    none_lawful (money_problem (house_with None) (across 32)) money_laws (money_past (house_with None))
    (at 0 0 0 ∷ at 1 22 300 ∷ []) tt tt

pub free : Costs (house_with (Some 0)) 35 600
free =
    costs (house_with (Some 0)) 35 600 by_one
    (at 0 0 0 ∷ at 1 22 300 ∷ at 1 0 300 ∷ at 3 22 600 ∷ at 2 11 500 ∷ at 2 33 500 ∷ at 2 0 1000 ∷ at 1 11 1200
    ∷ at 3 33 1500 ∷ at 2 22 1400 ∷ at 1 33 1600 ∷ [])
    tt refl tt tt

pub closed : LeastIs with_way_2_closed (of_cents 2600)
closed =
    least_is with_way_2_closed (of_cents 2600) money_laws
    (shut_past (money_site house) (with_way empty_book 2 true) (money_past house)) by_one
    (at 0 0 0 ∷ at 1 22 300 ∷ at 1 0 2300 ∷ at 3 22 2600 ∷ []) tt refl tt tt

abbrev loud : ℕ → ℕ → ℕ → Cell Disturbance
loud p l grade = cell p l (of_grade grade)

pub quiet : LeastIs for_disturbance (of_grade 1)
quiet =
    least_is for_disturbance (of_grade 1) disturbance_laws
    (survey_past (λ w. of_grade w.grade) (λ price. of_grade 0) house) by_one
    (loud 0 0 0 ∷ loud 1 22 1 ∷ loud 1 0 1 ∷ loud 3 22 1 ∷ loud 2 11 7 ∷ loud 2 33 7 ∷ loud 2 0 7 ∷ loud 1 11 7
    ∷ loud 3 33 7 ∷ loud 2 22 7 ∷ loud 1 33 7 ∷ [])
    tt refl tt tt

-- nothing is no more than any sum
pub nowhere : IsLeast (money_problem house (record { start = 0; end = 0; bound = 35 })) [] (of_cents 0)
nowhere = record { lawful = refl; comes_to = refl; lowest = λ run lawful. le-leb _ _ zero-le }
