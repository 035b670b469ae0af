use Rattle.std.proofs.Common.{◌≡◌, ◌<◌, ◌-◌, ℕ, List, drop, slice_index, true}
use Rattle.tw_command.specs.Words.{is_separator, words_of}
use Rattle.tw_command.proofs.words.separators.Given as goal

-- only separators so far
pub record OnlySeparators (line : List ℕ) (i : ℕ) : Type 0 where
  pub words : words_of (drop i line) ≡ words_of line
  pub last : 0 < i → is_separator (slice_index line (i - 1)) ≡ true

abbrev pub invariant-loop-i : goal.invariant-loop-i
invariant-loop-i l = OnlySeparators l.line l.i
