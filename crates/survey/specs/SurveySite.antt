-- The site that a survey is, for a charge kind: what a way and a repeater charge there. Stands on the contents of a
-- survey, the loss card and what a site is.
use Rattle.std.specs.Prelude.{ℕ, length, Some, None, Ok, Err, Option, Result}
use Rattle.std.specs.List.{slice_get}
use Rattle.subject.specs.declared.refusal.Refusal.{Refusal}
use Rattle.subject.specs.declared.money.Money.{Money}
use Rattle.subject.specs.declared.disturbance.Disturbance.{Disturbance}
use Rattle.subject.specs.Moneys.{money, of_cents}
use Rattle.subject.specs.Grades.{of_grade}
use Rattle.subject.specs.declared.way.Way.{Way}
use Rattle.subject.specs.Problems.{Problem}
use Rattle.subject.specs.Sites.{SiteMeaning}
use Rattle.subject.specs.declared.run.Request.{Request}
use Rattle.survey.specs.Card.{loss_of}
use Rattle.survey.specs.declared.entry.Place.{Place}
use Rattle.survey.specs.declared.entry.WayEntry.{WayEntry}
use Rattle.survey.specs.declared.view.SurveyView.{SurveyView}
use Rattle.survey.specs.Contents.{Contents}
use Rattle.survey.specs.Sealing.{sealed_contents}

-- the loss that the card has
abbrev pub loss_found : Result ℕ Refusal → ℕ
loss_found (Ok l) = l
loss_found (Err e) = 0

-- the loss of a way, by the card; every way that was entered has one
abbrev pub entry_loss : WayEntry → ℕ
entry_loss w = loss_found (loss_of w.letter w.metres)

abbrev pub open_way : {C : Type 0} → WayEntry → C → Way C
open_way w c = record { from = w.from; to = w.to; charge = c; loss = entry_loss w }

abbrev pub way_of : {C : Type 0} → (WayEntry → C) → Option WayEntry → Option (Way C)
way_of charge None = None
way_of charge (Some w) = Some (open_way w (charge w))

-- a price is a repeater with a charge; a blank is none
abbrev pub priced_as : {C : Type 0} → (ℕ → C) → Option ℕ → Option C
priced_as charge None = None
priced_as charge (Some price) = Some (charge price)

abbrev pub repeater_of : {C : Type 0} → (ℕ → C) → Option Place → Option C
repeater_of charge None = None
repeater_of charge (Some p) = priced_as charge p.repeater

-- all ways of a survey are open
abbrev pub survey_site : {C : Type 0} → (WayEntry → C) → (ℕ → C) → Contents → SiteMeaning C
survey_site wayCharge repeaterCharge c = record {
  places = length c.places;
  ways = length c.ways;
  repeater = λ p. repeater_of repeaterCharge (slice_get c.places p);
  way = λ n. way_of wayCharge (slice_get c.ways n);
}

-- the contents of the survey over which a view stands
abbrev pub view_contents : {K : Type 0} → SurveyView K → Contents
view_contents v = sealed_contents v.survey.now

-- for money a way charges its price, and a repeater its own
abbrev pub money_site : Contents → SiteMeaning Money
money_site = survey_site (λ w. of_cents w.price) of_cents

-- for disturbance a way charges its grade, and a repeater grade 0
abbrev pub disturbance_site : Contents → SiteMeaning Disturbance
disturbance_site = survey_site (λ w. of_grade w.grade) (λ price. of_grade 0)

-- what is asked of a run for money over a survey
abbrev pub money_problem : Contents → Request → Problem Money
money_problem c q = record { kind = money; site = money_site c; request = q }
