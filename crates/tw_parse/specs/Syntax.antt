-- The syntax of external terms and declarations.
use Rattle.std.specs.Prelude.{ℕ, List, Option, Bool}
use Rattle.tw_fixity.specs.declared.table.Fix.{Fix}
use Rattle.tw_lexer.specs.declared.place.Place.{Place}
use Rattle.tw_parse.specs.declared.decl.ExtName.{ExtName}

mutual
  -- what is written; a name is the list of its bytes
  pub data Term : Type 0 where
    identifier : List ℕ → Place → Term
    hole : Place → Term
    star : Term
    arrow : Term → Term → Term
    pi : List ℕ → Place → Domain → Term → Term
    lambda : List ℕ → Place → Domain → Term → Term
    application : Term → Term → Term
    ascription : Term → Term → Term

  -- the type that a binder has, if it is written
  pub data Domain : Type 0 where
    untyped : Domain
    typed : Term → Domain

-- what is declared, with its terms seen as values of T: `declare` with the place of the name; `define` with the name and the type, if they are written, and whether it is an abbreviation;
-- `prefer` with the family, the name for variables that stand for terms, and the one for bound variables, if it is written; `give` with the row and the names that get it
pub data DeclarationOf (T : Type 0) : Type 0 where
  declare : List ℕ → Place → T → DeclarationOf T
  define : Option (List ℕ) → Option T → T → Bool → DeclarationOf T
  prefer : ExtName → List ℕ → Option (List ℕ) → DeclarationOf T
  give : Fix → List ExtName → DeclarationOf T

abbrev pub Declaration : Type 0
Declaration = DeclarationOf Term
