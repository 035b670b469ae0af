-- Laws of what explicit texts give.
use Rattle.std.specs.Prelude.{◌≡◌, List, length}
use Rattle.lf.specs.Entries.{Body, Entry, body_quantifiers, signature_of}
use Rattle.lf.specs.Syntax.{Kind, LfType, Term as LfTerm}
use Rattle.lf.specs.Typing.{HasType, IsKind, IsType}
use Rattle.law_explicit_form.specs.Completion.{BodyGiven, KindGives, TermGives, TypeGives}
use Rattle.tw_names.specs.Texts.{hints}
use Rattle.tw_parse.specs.Syntax.{Term}
use Rattle.tw_fixity.specs.Names.{Names}

-- G are the types of the variables in scope, and N their names
abbrev pub GivenIsTyped : Type 0
GivenIsTyped = (es : List Entry) (N : Names) (G : List LfType) (U : Term) →
    ((A : LfType) (R : LfTerm) → TermGives es N G U A R → HasType (signature_of es) G R A)
    × ((A : LfType) → TypeGives es N G U A → IsType (signature_of es) G A)
    × ((K : Kind) → KindGives es N G U K → IsKind (signature_of es) G K)

-- a hint for each quantifier
abbrev pub GivenHasHints : Type 0
GivenHasHints = (es : List Entry) (U : Term) (b : Body) → BodyGiven es U b → length (hints U) ≡ body_quantifiers b
