-- Laws of outlines and readings.
use Rattle.std.specs.Prelude.{◌≡◌, ℕ, List, [], ◌∷◌, Option, Some, map, ◌⊎◌}
use Rattle.tw_fixity.specs.declared.table.Fix.{Fix}
use Rattle.tw_lexer.specs.declared.place.Place.{Place}
use Rattle.tw_parse.specs.Outlines.{Table, Outline, Shapes}
use Rattle.tw_parse.specs.Syntax.{Term, DeclarationOf, Declaration}
use Rattle.tw_parse.specs.Words.{Lexeme}
use Rattle.tw_parse.specs.Grammar.{Item, atom, sign, ReadsOnce}
use Rattle.tw_parse.specs.Queries.{Query, Poses, Asks}
use Rattle.tw_parse.specs.Readings.{sign_in, Declares, FirstFault, FirstFaultOf}
use Rattle.tw_parse.specs.declared.sign.Sign.{Sign}
use Rattle.tw_parse.specs.declared.sign.Sign.TheVariants.{Separator, Operator}

-- the sign, if it is an operator, has this row
abbrev pub HasRow : (List ℕ → Option Fix) → Sign → Type 0
HasRow rows (Separator by) = Unit {0}
HasRow rows (Operator x at fix) = rows x ≡ Some fix

-- each operator in the items has its row, so that a name has one row
abbrev pub HaveRows : (List ℕ → Option Fix) → List Item → Type 0
HaveRows rows [] = Unit {0}
HaveRows rows (atom M ∷ is) = HaveRows rows is
HaveRows rows (sign s ∷ is) = HasRow rows s × HaveRows rows is

-- either each sequence with these signs has one reading, whatever its atoms are, or none has
abbrev pub ReadingsAreDecided : Type 0
ReadingsAreDecided = (rows : List ℕ → Option Fix) (items : List Item) → HaveRows rows items
    → ((others : List Item) → map sign_in others ≡ map sign_in items → (M : Term) × ReadsOnce others M)
    ⊎ ((others : List Item) → map sign_in others ≡ map sign_in items → (M : Term) → ReadsOnce others M → ⊥)

-- tokens are one declaration at most, with one outline
abbrev pub OutlinesAreUnique : Type 0
OutlinesAreUnique = (table : Table) (tokens : List Lexeme) (D E : DeclarationOf Outline) → Shapes table tokens D → Shapes table tokens E → D ≡ E

-- tokens that are read are no other declaration, and no sequence in them is at fault
abbrev pub ReadingIsUnique : Type 0
ReadingIsUnique = (table : Table) (tokens : List Lexeme) (d : Declaration) → Declares table tokens d
    → ((e : Declaration) → Declares table tokens e → e ≡ d) × ((D : DeclarationOf Outline) (place : Place) → Shapes table tokens D → FirstFaultOf D place → ⊥)

-- the same of tokens that ask something
abbrev pub QueryIsUnique : Type 0
QueryIsUnique = (table : Table) (tokens : List Lexeme) (q : Query) → Asks table tokens q → ((r : Query) → Asks table tokens r → r ≡ q) × ((O : Outline) (place : Place) → Poses table tokens O → FirstFault O place → ⊥)
