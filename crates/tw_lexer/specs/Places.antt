-- Places in a text.
use Rattle.std.specs.Prelude.{ℕ, ◌+◌, List, [], ◌∷◌, take, ◌==◌, if◌then◌else◌}
use Rattle.tw_lexer.specs.declared.place.Place.{Place}

-- the place behind a byte: a line feed ends the line, and every other byte is a column
abbrev pub step : Place → ℕ → Place
step p b = if b == 10 then record { line = p.line + 1; column = 1 } else record { line = p.line; column = p.column + 1 }

-- the place behind these bytes
abbrev pub place_after : Place → List ℕ → Place
place_after p [] = p
place_after p (b ∷ bs) = place_after (step p b) bs

-- lines and columns are counted from 1
abbrev pub start : Place
start = record { line = 1; column = 1 }

-- the place of the byte with this number, counted from 0
abbrev pub place_of : List ℕ → ℕ → Place
place_of text i = place_after start (take i text)

-- the place behind a character of so many bytes
abbrev pub place_behind : Place → ℕ → ℕ → Place
place_behind p c size = if c == 10 then record { line = p.line + 1; column = 1 } else record { line = p.line; column = p.column + size }
