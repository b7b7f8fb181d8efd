-- What a run is looked for in: the charge kind, the site and the request, together. Stands on the ghost members of charges and sites.
use Rattle.subject.specs.declared.charge.Charge.{Ghosts as ChargeGhosts}
use Rattle.subject.specs.declared.site.Site.{Ghosts as SiteGhosts}
use Rattle.subject.specs.declared.run.Request.{Request}
use Rattle.subject.specs.Charges.{Kind}
use Rattle.subject.specs.Sites.{SiteMeaning}

pub record Problem (C : Type 0) : Type 0 where
  pub kind : Kind C
  pub site : SiteMeaning C
  pub request : Request

-- the kind of a charge
abbrev pub kind_of : {C : Type 0} → ChargeGhosts C → Kind C
kind_of c = record { meaning = c.meaning; nothing = c.nothing; join = c.join; no_more = c.no_more }

-- what a site is asked
abbrev pub problem_of : {S C : Type 0} → SiteGhosts S C → ChargeGhosts C → S → Request → Problem C
problem_of s c site request = record { kind = kind_of c; site = s.meaning site; request = request }
