-- What the words behind the program's name mean.
use Rattle.std.specs.Prelude.{◌≡◌, ◌≤◌, ℕ, List, map, None, Some, Ok, Err, ⊤, string_bytes}
use Rattle.std.specs.Str.Parse.{IsNumeral, digits_value, without_leading_plus}
use Rattle.std.specs.declared.option.Option.{Option}
use Rattle.std.specs.declared.result.Result.{Result}
use Rattle.tw_command.specs.Limits.{steps_limit}
use Rattle.tw_words.specs.Reading.{Said, reads}
use Rattle.tw_words.specs.declared.words.Words.{Words}
use Rattle.tw_words.specs.declared.words.WordsFault.{WordsFault}
use Rattle.tw_words.specs.declared.words.WordsFault.TheVariants.{Bad, NoMemory}

-- the word spells the number as std reads a `u64`: decimal digits, before which a plus may stand. It is from 1 to
-- 1,000,000,000
pub record IsSteps (word : List ℕ) (n : ℕ) : Type 0 where
  pub numeral : IsNumeral 10 (without_leading_plus word)
  pub value : n ≡ digits_value 10 (without_leading_plus word)
  pub least : 1 ≤ n
  pub most : n ≤ steps_limit

-- the steps are those that the word spells, where there is one
abbrev pub StepsAre : Option (List ℕ) → Option ℕ → Type 0
StepsAre None None = ⊤
StepsAre None (Some n) = ⊥
StepsAre (Some word) None = ⊥
StepsAre (Some word) (Some n) = IsSteps word n

-- the word spells no steps
abbrev pub HasBadSteps : Option (List ℕ) → Type 0
HasBadSteps None = ⊥
HasBadSteps (Some word) = (n : ℕ) → ¬ (IsSteps word n)

-- the steps were read, or are bad
abbrev pub StepsRead : Option (List ℕ) → Result (Option ℕ) WordsFault → Type 0
StepsRead word (Ok steps) = StepsAre word steps
StepsRead word (Err Bad) = HasBadSteps word
StepsRead word (Err NoMemory) = ⊥

-- these are the words of the command, with these steps and files
pub record AreWords (words : List (List ℕ)) (steps : Option ℕ) (files : List (List ℕ)) : Type 0 where
  pub value : Option (List ℕ)
  pub read : reads words ≡ Some (value, files)
  pub steps_are : StepsAre value steps

-- nothing was said, or the steps are no number in the range
abbrev pub IsBad : Option Said → Type 0
IsBad None = ⊤
IsBad (Some said) = HasBadSteps said.0

-- the words aren't those of the command
abbrev pub AreBad : List (List ℕ) → Type 0
AreBad words = IsBad (reads words)

-- what the answer says of the words
abbrev pub Answers : List (List ℕ) → Result Words WordsFault → Type 0
Answers words (Ok said) = AreWords words said.steps (map (λ f. string_bytes f) said.files.items)
Answers words (Err Bad) = AreBad words
Answers words (Err NoMemory) = ⊤
