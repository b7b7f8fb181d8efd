-- The names of places: which place a word means, and which names are lawful. Stands on Fields.
use Rattle.std.specs.Prelude.{ℕ, zero, suc, decimal, Bool, true, cond, not, ◌&&◌, List, [], ◌∷◌, ◌++◌, length}
use Rattle.std.specs.Prelude.{Option, Some, None, Result, Ok, Err, ◌==◌, nat_lt, is_ok, is_some, map, bytes_eq}
use Rattle.std.specs.Prelude.{string_bytes, String}
use Rattle.std.specs.declared.alloc.Global.{Global}
use Rattle.std.specs.Str.Parse.{digits_value}
use Rattle.survey.specs.Checks.{then}
use Rattle.survey_text.specs.declared.trouble.Cause.{Cause}
use Rattle.survey_text.specs.declared.trouble.Cause.TheVariants.{Blank, TakenName, OtherNumber, NoPlace}
use Rattle.survey_text.specs.declared.trouble.Column.{Column}
use Rattle.survey_text.specs.declared.trouble.Column.TheVariants.{Name}
use Rattle.survey_text.specs.Fields.{is_blank, is_number, text_check}

-- names as bytes
abbrev pub texts : List (String Global) → List (List ℕ)
texts names = map string_bytes names

-- the place with this name, where the first of them has the number i
abbrev pub place_named : ℕ → List (List ℕ) → List ℕ → Option ℕ
place_named i [] word = None
place_named i (n ∷ names) word = cond (bytes_eq n word) (Some i) (place_named (suc i) names word)

-- the place with this number, of n places
abbrev pub place_numbered : ℕ → List ℕ → Option ℕ
place_numbered n word = cond (is_number word && nat_lt (digits_value 10 word) n) (Some (digits_value 10 word)) None

abbrev pub or_else : {X : Type 0} → Option X → Option X → Option X
or_else None y = y
or_else (Some x) y = Some x

-- which place a word means: that of this name, or else that of this number
abbrev pub place_of : List (List ℕ) → List ℕ → Option ℕ
place_of names word = or_else (place_named 0 names word) (place_numbered (length names) word)

-- an end of a way has to be a place
abbrev pub known_place : Column → Option ℕ → Result ℕ Cause
known_place column None = Err (NoPlace column)
known_place column (Some i) = Ok i

abbrev pub end_of : Column → List (List ℕ) → List ℕ → Result ℕ Cause
end_of column names word = cond (is_blank word) (Err (Blank column)) (known_place column (place_of names word))

-- what a name may not be: blank, that of a place, or the number of another place
abbrev pub name_check : List (List ℕ) → List ℕ → Result (Unit {0}) Cause
name_check names name =
    cond (is_blank name) (Err (Blank Name))
    (cond (is_some (place_named 0 names name)) (Err TakenName)
    (cond (is_number name && not (digits_value 10 name == length names)) (Err OtherNumber) (Ok tt)))

-- the name of the next place, behind those that have these names: a text that passes that check
abbrev pub name_of : List (List ℕ) → List ℕ → Result (List ℕ) Cause
name_of names name = then (text_check name) (λ _. then (name_check names name) (λ _. Ok name))

-- names for the places behind those that have names
abbrev pub are_names : List (List ℕ) → List (List ℕ) → Bool
are_names before [] = true
are_names before (n ∷ names) = is_ok (name_of before n) && are_names (before ++ n ∷ []) names

-- the numbers of places as their names, from the place with the number i on
abbrev pub number_names : ℕ → ℕ → List (List ℕ)
number_names i zero = []
number_names i (suc n) = decimal i ∷ number_names (suc i) n

-- names of all places of a survey, of which there are so many
abbrev pub lawful_names : ℕ → List (List ℕ) → Bool
lawful_names places names = (length names == places) && are_names [] names
