-- What a job means: the site below it, with the ways that it has closed shut. Stands on the meaning of a site.
use Rattle.std.specs.Prelude.{ℕ, Bool, false, cond, None, vec_items, slice_index_or}
use Rattle.subject.specs.declared.charge.Charge.{Ghosts as ChargeGhosts}
use Rattle.subject.specs.declared.run.Request.{Request}
use Rattle.subject.specs.declared.site.Site.{Ghosts as SiteGhosts}
use Rattle.subject.specs.Charges.{Kind}
use Rattle.subject.specs.Problems.{Problem, kind_of}
use Rattle.subject.specs.Sites.{SiteMeaning}
use Rattle.job.specs.declared.job.Job.{Job}

abbrev pub site_below : {S : Type 0} → Job S → S
site_below j = j.below

-- how many ways the site below has
abbrev pub way_count : {S C : Type 0} → SiteGhosts S C → Job S → ℕ
way_count s j = (s.meaning (site_below j)).ways

-- whether the job has closed the way n
abbrev pub closed_by : {S : Type 0} → Job S → ℕ → Bool
closed_by j n = slice_index_or (vec_items j.closed) n false

-- a site with the ways of the book shut, and all else as it was
abbrev pub shutting : {C : Type 0} → SiteMeaning C → (ℕ → Bool) → SiteMeaning C
shutting m book = record {
  places = m.places;
  ways = m.ways;
  repeater = m.repeater;
  way = λ n. cond (book n) None (m.way n);
}

-- how things are with a job: the charge kind, the site below, and its closing book
pub record JobState (C : Type 0) : Type 0 where
  pub kind : Kind C
  pub below : SiteMeaning C
  pub book : ℕ → Bool

-- the same job with another book
abbrev pub with_book : {C : Type 0} → JobState C → (ℕ → Bool) → JobState C
with_book J book = record { kind = J.kind; below = J.below; book = book }

-- a site below, with a book
abbrev pub state_over : {S C : Type 0} → SiteGhosts S C → ChargeGhosts C → S → (ℕ → Bool) → JobState C
state_over s c below book = record { kind = kind_of c; below = s.meaning below; book = book }

abbrev pub state_of : {S C : Type 0} → SiteGhosts S C → ChargeGhosts C → Job S → JobState C
state_of s c j = state_over s c (site_below j) (closed_by j)

-- what a plan on the job is asked: the lawful runs are those over the ways that are open below and not in the book
abbrev pub problem_on : {C : Type 0} → JobState C → Request → Problem C
problem_on J q = record { kind = J.kind; site = shutting J.below J.book; request = q }
