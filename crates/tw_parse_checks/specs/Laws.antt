-- Laws of checks.
use Rattle.std.specs.Prelude.{◌≡◌, List}
use Rattle.tw_lexer.specs.declared.place.Place.{Place}
use Rattle.tw_parse.specs.Outlines.{Table}
use Rattle.tw_parse.specs.Readings.{FirstFaultIn}
use Rattle.tw_parse.specs.Words.{Lexeme}
use Rattle.tw_parse_checks.specs.Checks.{Check}
use Rattle.tw_parse_checks.specs.Faults.{types_of}
use Rattle.tw_parse_checks.specs.Meanings.{DeclaresCheck}
use Rattle.tw_parse_checks.specs.Shapes.{Draft, Shapes}

-- tokens that declare a check declare nothing else, and no sequence in their types is at fault
abbrev pub CheckIsUnique : Type 0
CheckIsUnique = (table : Table) (tokens : List Lexeme) (c : Check) → DeclaresCheck table tokens c
    → ((d : Check) → DeclaresCheck table tokens d → d ≡ c) × ((D : Draft) (place : Place) → Shapes table tokens D → FirstFaultIn (types_of D) place → ⊥)
