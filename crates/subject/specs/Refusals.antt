-- The number of each refusal. Stands on nothing.
use Rattle.std.specs.Prelude.{ℕ}
use Rattle.subject.specs.declared.refusal.Refusal.{Refusal}
use Rattle.subject.specs.declared.refusal.Refusal.TheVariants.{CutShort, WrongTag, WrongLength, WrongEdition, DraftFull, WrongEnds, WrongLetter, TooLong, TooDear, BytesBehind, NoSuchWay, AlreadyClosed, NotClosed, NoSuchPlace, WrongBound, TooFewRows, NoRun, NoRoom, NotLawful, WrongSide, NoSuchCell}

abbrev pub number : Refusal → ℕ
number CutShort = 1
number WrongTag = 2
number WrongLength = 3
number WrongEdition = 4
number DraftFull = 5
number WrongEnds = 6
number WrongLetter = 7
number TooLong = 8
number TooDear = 9
number BytesBehind = 10
number NoSuchWay = 11
number AlreadyClosed = 12
number NotClosed = 13
number NoSuchPlace = 14
number WrongBound = 15
number TooFewRows = 16
number NoRun = 17
number NoRoom = 18
number NotLawful = 19
number WrongSide = 20
number NoSuchCell = 21
