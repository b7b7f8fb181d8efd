-- The worked cases, each by its table; the checks of a draft and the entry of the card are computed.
use Rattle.std.proofs.Common.{refl}
use Rattle.sample_house.proofs.Tables.{at_44, at_43, at_33, at_32, at_22, at_21, blank, free, closed, quiet, nowhere}
use Rattle.sample_house.proofs.worked_cases.Goals as goal

pub returns : goal.returns
returns c = record {
  places_are_good = refl;
  ways_are_good = refl;
  at_44 = at_44;
  at_43 = at_43;
  at_33 = at_33;
  at_32 = at_32;
  at_22 = at_22;
  at_21 = at_21;
  blank = blank;
  free = free;
  closed = closed;
  quiet = quiet;
  nowhere = nowhere;
  card = refl;
}
