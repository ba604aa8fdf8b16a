-- The words of the command line, cut where the first one begins with `-`.
use Rattle.std.specs.Prelude.{◌≡◌, ℕ, List, [], ◌++◌, take, drop}
use Rattle.std.specs.List.{position_or_len}
use Rattle.std.specs.Str.Parse.{starts_with_minus}
use Rattle.geo_cli.specs.Orders.{TellsSteps}

-- the words before the first that begins with `-`, and those from there on
abbrev pub front_of : List (List ℕ) → List (List ℕ)
front_of words = take (position_or_len starts_with_minus words) words

abbrev pub tail_of : List (List ℕ) → List (List ℕ)
tail_of words = drop (position_or_len starts_with_minus words) words

-- the words are a steps option with this number, and those behind it; with no option there are no words at all
pub record SplitsOff (words : List (List ℕ)) (steps : ℕ) (back : List (List ℕ)) : Type 0 where
  pub option : List (List ℕ)
  pub joined : words ≡ option ++ back
  pub told : TellsSteps option steps
  pub all : option ≡ [] → back ≡ []
