-- A law of declarations that search.
use Rattle.std.specs.Prelude.{◌≡◌, List}
use Rattle.tw_lexer.specs.declared.place.Place.{Place}
use Rattle.tw_parse.specs.Outlines.{Table, Outline}
use Rattle.tw_parse.specs.Readings.{FirstFault}
use Rattle.tw_parse.specs.Words.{Lexeme}
use Rattle.tw_parse_queries.specs.Searches.{Search, Header, Heads, Aims, Searches}

-- tokens that are a declaration that searches are no other, and no sequence in its goal is at fault
abbrev pub SearchIsUnique : Type 0
SearchIsUnique = (table : Table) (tokens : List Lexeme) (s : Search) → Searches table tokens s
    → ((r : Search) → Searches table tokens r → r ≡ s) × ((h : Header) (goal : List Lexeme) (O : Outline) (place : Place) → Heads tokens h goal → Aims table h goal O → FirstFault O place → ⊥)
