-- The worked cases of the house: what a least run comes to, or that no run is lawful. Stands on the house, on what is
-- asked of a run, on runs and their totals, on the sites that a survey and a job are, and on the loss card.
use Rattle.std.specs.Prelude.{◌≡◌, ℕ, true, List, [], length, Some, None, Ok}
use Rattle.subject.specs.Grades.{disturbance, of_grade}
use Rattle.subject.specs.Moneys.{money, of_cents}
use Rattle.subject.specs.Problems.{Problem}
use Rattle.subject.specs.Runs.{IsLeast, NoLawfulRun}
use Rattle.subject.specs.declared.disturbance.Disturbance.{Disturbance}
use Rattle.subject.specs.declared.money.Money.{Money}
use Rattle.subject.specs.declared.run.Step.{Step}
use Rattle.survey.specs.Card.{loss_of}
use Rattle.survey.specs.Checks.{good_places, good_ways}
use Rattle.survey.specs.Contents.{Contents}
use Rattle.survey.specs.SurveySite.{money_site, money_problem, disturbance_site}
use Rattle.job.specs.Book.{empty_book, with_way}
use Rattle.job.specs.Jobs.{shutting}
use Rattle.sample_house.specs.House.{house, house_with, across}

-- some lawful run comes to c, and c is no more than the total of every lawful run
pub record LeastIs {C : Type 0} (P : Problem C) (c : C) : Type 0 where
  pub run : List Step
  pub least : IsLeast P run c

-- what a least run across a survey for money comes to, in cents, under a bound
abbrev pub Costs : Contents → ℕ → ℕ → Type 0
Costs c bound cents = LeastIs (money_problem c (across bound)) (of_cents cents)

-- no run across a survey is lawful under a bound
abbrev pub NoneAcross : Contents → ℕ → Type 0
NoneAcross c bound = NoLawfulRun (money_problem c (across bound))

-- a run across the house for money on a job that has closed the way 2
abbrev pub with_way_2_closed : Problem Money
with_way_2_closed = record {
  kind = money;
  site = shutting (money_site house) (with_way empty_book 2 true);
  request = across 35;
}

-- a run across the house for disturbance: two joined grades are the greater, and a repeater has grade 0
abbrev pub for_disturbance : Problem Disturbance
for_disturbance = record { kind = disturbance; site = disturbance_site house; request = across 35 }

pub record WorkedCases : Type 0 where
  -- the house passes the checks of a draft
  pub places_are_good : good_places house.places ≡ true
  pub ways_are_good : good_ways (length house.places) house.ways ≡ true
  -- with no repeater
  pub at_44 : Costs house 44 600
  -- with one at 2, there and back
  pub at_43 : Costs house 43 1500
  pub at_33 : Costs house 33 1500
  -- with one at 1
  pub at_32 : Costs house 32 2600
  pub at_22 : Costs house 22 2600
  pub at_21 : NoneAcross house 21
  -- a blank is no repeater, and a price of 0 is one for nothing
  pub blank : NoneAcross (house_with None) 32
  pub free : Costs (house_with (Some 0)) 35 600
  -- with the way 2 closed
  pub closed : LeastIs with_way_2_closed (of_cents 2600)
  -- for disturbance
  pub quiet : LeastIs for_disturbance (of_grade 1)
  -- from a place to itself no steps lead, for nothing
  pub nowhere : IsLeast (money_problem house (record { start = 0; end = 0; bound = 35 })) [] (of_cents 0)
  -- 7 m of U (85) lose 15.4 tenths, which the card has as 16
  pub card : loss_of 85 7 ≡ Ok 16
