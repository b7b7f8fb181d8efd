-- A sealed survey keeps the bounds of a site: its draft is no longer than a site may be, and each of its ways has
-- passed the checks of the draft, so its ends are places and the card knows its loss. Stands on SurveySite and
-- PassedChecks. It is no proof file, since a ghost member cites it.
use Rattle.std.specs.Prelude.{◌≡◌, ℕ, ◌<◌, ◌≤◌, true, length, is_ok, Some, None, Ok, Option, refl}
use Rattle.std.proofs.Common.{sym, ap, subst, ◌∙◌, arith}
use Rattle.std.specs.List.{slice_get}
use Rattle.std.proofs.lemmas.Option.{slice_get_past}
use Rattle.subject.specs.declared.way.Way.{Way}
use Rattle.subject.specs.declared.site.TheConstants.{MOST_LOSS}
use Rattle.subject.specs.Sites.{IsBounded}
use Rattle.survey.specs.declared.entry.WayEntry.{WayEntry}
use Rattle.survey.specs.declared.sealed.Sealed.{Sealed}
use Rattle.survey.specs.Sealing.{sealed_contents}
use Rattle.survey.specs.Checks.{way_check, good_ways}
use Rattle.survey.specs.PassedChecks.{way_good, way_passed, way_ends, way_loss, loss_small}
use Rattle.survey.specs.Card.{loss_of}
use Rattle.survey.specs.SurveySite.{survey_site, way_of, repeater_of, open_way, loss_found, entry_loss}

-- an open way is one that was entered
pub entered : {C : Type 0} (charge : WayEntry → C) (o : Option WayEntry) (w : Way C) → way_of charge o ≡ Some w
    → (e : WayEntry) × (o ≡ Some e) × (w ≡ open_way e (charge e))
entered charge None w h = let z : ◌≡◌ {A = ℕ} 0 1 = cc in absurd (omega arith)
entered charge (Some e) w h = (e, refl, cc)

module _ {C : Type 0} (way_charge : WayEntry → C) (repeater_charge : ℕ → C) (s : Sealed) where
  -- what is known of an entry that a way of the site comes from
  passed : (n : ℕ) (e : WayEntry) → slice_get (sealed_contents s).ways n ≡ Some e
      → is_ok (way_check (length (sealed_contents s).places) e) ≡ true
  passed n e h =
      let d = s.draft in
      let places = length (sealed_contents s).places in
      let good = ap (λ k. good_ways k (sealed_contents s).ways) (sym d.places.ok.0) ∙ d.good_ways in
      way_passed places e (way_good places (sealed_contents s).ways n e good h)

  loss_is : (e : WayEntry) (l : ℕ) → loss_of e.letter e.metres ≡ Ok l → entry_loss e ≡ l
  loss_is e l h = ap loss_found h

  pub sealed_bounded : IsBounded (survey_site way_charge repeater_charge (sealed_contents s))
  sealed_bounded = record {
    few_places = let d = s.draft in let many = d.places.ok.0 in omega (arith, d.few_places);
    few_ways = let d = s.draft in let many = d.table.ways.ok.0 in omega (arith, d.few_ways);
    no_repeater = λ p h. ap (repeater_of repeater_charge) (slice_get_past (sealed_contents s).places p h);
    no_way = λ n h. ap (way_of way_charge) (slice_get_past (sealed_contents s).ways n h);
    from_in = λ n w h.
        let q = entered way_charge (slice_get (sealed_contents s).ways n) w h in
        let ends = way_ends (length (sealed_contents s).places) q.0 (passed n q.0 q.1) in
        subst (λ v. v.from < length (sealed_contents s).places) (sym q.2) ends.0;
    to_in = λ n w h.
        let q = entered way_charge (slice_get (sealed_contents s).ways n) w h in
        let ends = way_ends (length (sealed_contents s).places) q.0 (passed n q.0 q.1) in
        subst (λ v. v.to < length (sealed_contents s).places) (sym q.2) ends.1;
    loss_in = λ n w h.
        let q = entered way_charge (slice_get (sealed_contents s).ways n) w h in
        let cable = way_loss (length (sealed_contents s).places) q.0 (passed n q.0 q.1) in
        let small = loss_small q.0.letter q.0.metres cable.0 cable.1 in
        let is = loss_is q.0 cable.0 cable.1 in
        subst (λ v. v.loss ≤ MOST_LOSS) (sym q.2) (omega arith);
  }
