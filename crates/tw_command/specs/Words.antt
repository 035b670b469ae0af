-- The words of a command line.
use Rattle.std.specs.Prelude.{ℕ, Bool, List, [], ◌∷◌, ◌++◌, ◌==◌, ◌||◌, ◌&&◌, nat_le, if◌then◌else◌}

-- space, tab, line feed, vertical tab, form feed and carriage return
abbrev pub is_separator : ℕ → Bool
is_separator b = (b == 32) || (nat_le 9 b && nat_le b 13)

-- the word, where it has any byte
abbrev pub word_of : List ℕ → List (List ℕ)
word_of [] = []
word_of (b ∷ bs) = (b ∷ bs) ∷ []

-- the words of a line whose first word has begun with these bytes
abbrev pub words_on : List ℕ → List ℕ → List (List ℕ)
words_on word [] = word_of word
words_on word (b ∷ bs) = if is_separator b then word_of word ++ words_on [] bs else words_on (word ++ b ∷ []) bs

-- the words: what separators part, so that `  set  steps 5` has three
abbrev pub words_of : List ℕ → List (List ℕ)
words_of line = words_on [] line
