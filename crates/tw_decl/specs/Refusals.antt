-- The lines that refusals show.
use Rattle.std.specs.Prelude.{ℕ, List, ◌++◌, codes, decimal}
use Rattle.tw_lexer.specs.declared.place.Place.{Place}
use Rattle.tw_decl.specs.declared.refusal.Refusal.{Refusal}
use Rattle.tw_decl.specs.declared.refusal.Refusal.TheVariants.{Memory, Lex, TooMany, Unsupported, Nesting, Syntax, Fixity, BadDecl, Unknown, Loose, Mismatch, Leftover, TooDeep, NotDeclared, ModeFault, WorldFault, OrderFault, Count, Budget, NoAnswer}

-- where a text came from, and a place in it
abbrev pub show_place : List ℕ → Place → List ℕ
show_place origin place = origin ++ codes ":" ++ decimal place.line ++ codes ":" ++ decimal place.column

-- a clause, and the numbers of a subgoal and an argument
abbrev pub fault_words : List ℕ → ℕ → ℕ → List ℕ
fault_words clause subgoal argument = clause ++ codes " " ++ decimal subgoal ++ codes " " ++ decimal argument

-- a clause, and the number of a subgoal
abbrev pub subgoal_words : List ℕ → ℕ → List ℕ
subgoal_words clause subgoal = clause ++ codes " " ++ decimal subgoal

-- how many answers were found, and how many there have to be
abbrev pub count_words : ℕ → ℕ → List ℕ
count_words found expected = codes "found " ++ decimal found ++ codes " expected " ++ decimal expected

-- the line of a refusal: its place, its number and name, and what it shows
abbrev pub refusal_line : List ℕ → Refusal → List ℕ
refusal_line origin Memory = codes "E0 Memory\n"
refusal_line origin (Lex place) = show_place origin place ++ codes " E1 Lex\n"
refusal_line origin (TooMany place) = show_place origin place ++ codes " E8 TooMany\n"
refusal_line origin (Unsupported place shown) = show_place origin place ++ codes " E21 Unsupported " ++ shown ++ codes "\n"
refusal_line origin (Nesting place) = show_place origin place ++ codes " E9 Nesting\n"
refusal_line origin (Syntax place) = show_place origin place ++ codes " E2 Syntax\n"
refusal_line origin (Fixity place) = show_place origin place ++ codes " E3 Fixity\n"
refusal_line origin (BadDecl place) = show_place origin place ++ codes " E22 BadDecl\n"
refusal_line origin (Unknown place name) = show_place origin place ++ codes " E4 Unknown " ++ name ++ codes "\n"
refusal_line origin (Loose place) = show_place origin place ++ codes " E7 Loose\n"
refusal_line origin (Mismatch place) = show_place origin place ++ codes " E5 Mismatch\n"
refusal_line origin (Leftover place text) = show_place origin place ++ codes " E6 Leftover " ++ text.items ++ codes "\n"
refusal_line origin (TooDeep place) = show_place origin place ++ codes " E10 TooDeep\n"
refusal_line origin (NotDeclared place text) = show_place origin place ++ codes " E12 NotDeclared " ++ text.items ++ codes "\n"
refusal_line origin (ModeFault place clause subgoal argument) = show_place origin place ++ codes " E13 ModeFault " ++ fault_words clause.items subgoal argument ++ codes "\n"
refusal_line origin (WorldFault place clause subgoal) = show_place origin place ++ codes " E14 WorldFault " ++ subgoal_words clause.items subgoal ++ codes "\n"
refusal_line origin (OrderFault place clause subgoal) = show_place origin place ++ codes " E15 OrderFault " ++ subgoal_words clause.items subgoal ++ codes "\n"
refusal_line origin (Count place found expected) = show_place origin place ++ codes " E19 Count " ++ count_words found expected ++ codes "\n"
refusal_line origin (Budget place tries) = show_place origin place ++ codes " E20 Budget " ++ decimal tries ++ codes "\n"
refusal_line origin (NoAnswer place) = show_place origin place ++ codes " E23 NoAnswer\n"
