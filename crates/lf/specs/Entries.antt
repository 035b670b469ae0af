-- Canonical LF: a signature as a list of entries, the newest in front. An entry's number is how many stand before it.
use Rattle.std.specs.Prelude.{◌≡◌, ℕ, zero, suc, ◌≤◌, List, [], ◌∷◌, length, Option, Some, None, Bool, cond}
use Rattle.lf.specs.Syntax.{Term, LfType, Kind, pi, atom, kind_pi, star}
use Rattle.lf.specs.Depth.{depth, type_depth, kind_depth, depth_limit}
use Rattle.lf.specs.Variables.{same_number}
use Rattle.lf.specs.Typing.{Signature, HasType, IsType, IsKind}

-- A family with its kind, a constant with its type, or a definition: a term with its type, and whether it is an abbreviation.
pub data Body : Type 0 where
  declare_family : Kind → Body
  declare_constant : LfType → Body
  declare_definition : Term → LfType → Bool → Body

-- The name's bytes; how many of the leading quantifiers are implicit; for each leading quantifier a name to show it by, or none.
pub record Entry : Type 0 where
  pub name : List ℕ
  pub body : Body
  pub implicit : ℕ
  pub hints : List (Option (List ℕ))

-- the entry of a number
abbrev pub entry : List Entry → ℕ → Option Entry
entry [] c = None
entry (e ∷ es) c = cond (same_number c (length es)) (Some e) (entry es c)

-- what a head of this entry has as its type, or kind
abbrev pub type_of_body : Body → Option LfType
type_of_body (declare_family K) = None
type_of_body (declare_constant A) = Some A
type_of_body (declare_definition M A b) = None

abbrev pub kind_of_body : Body → Option Kind
kind_of_body (declare_family K) = Some K
kind_of_body (declare_constant A) = None
kind_of_body (declare_definition M A b) = None

-- the type of a constant; a definition is no head
abbrev pub type_of : Option Entry → Option LfType
type_of (Some e) = type_of_body e.body
type_of None = None

abbrev pub kind_of : Option Entry → Option Kind
kind_of (Some e) = kind_of_body e.body
kind_of None = None

-- its lookups
abbrev pub signature_of : List Entry → Signature
signature_of es = record { types = λ c. type_of (entry es c); kinds = λ c. kind_of (entry es c) }

-- how many quantifiers lead a type, a kind, an entry's type or kind
abbrev pub quantifiers : LfType → ℕ
quantifiers (pi A B) = suc (quantifiers B)
quantifiers (atom a S) = zero

abbrev pub kind_quantifiers : Kind → ℕ
kind_quantifiers (kind_pi A K) = suc (kind_quantifiers K)
kind_quantifiers star = zero

abbrev pub body_quantifiers : Body → ℕ
body_quantifiers (declare_family K) = kind_quantifiers K
body_quantifiers (declare_constant A) = quantifiers A
body_quantifiers (declare_definition M A b) = quantifiers A

-- the kind is a kind, the type a type, and a definition's term has its type
abbrev pub BodyIsTyped : Signature → Body → Type 0
BodyIsTyped Σ (declare_family K) = IsKind Σ [] K
BodyIsTyped Σ (declare_constant A) = IsType Σ [] A
BodyIsTyped Σ (declare_definition M A b) = IsType Σ [] A × HasType Σ [] M A

-- kind, type and term are no deeper than the limit
abbrev pub BodyIsWithin : ℕ → Body → Type 0
BodyIsWithin limit (declare_family K) = kind_depth K ≤ limit
BodyIsWithin limit (declare_constant A) = type_depth A ≤ limit
BodyIsWithin limit (declare_definition M A b) = (type_depth A ≤ limit) × (depth M ≤ limit)

-- an entry that may stand over the signature
pub record IsCanonicalEntry (Σ : Signature) (e : Entry) : Type 0 where
  pub typed : BodyIsTyped Σ e.body
  pub within : BodyIsWithin depth_limit e.body
  pub implicit_lead : e.implicit ≤ body_quantifiers e.body
  pub hint_each : length e.hints ≡ body_quantifiers e.body

-- each entry may stand over those before it
abbrev pub IsCanonicalSignature : List Entry → Type 0
IsCanonicalSignature [] = Unit {0}
IsCanonicalSignature (e ∷ es) = IsCanonicalSignature es × IsCanonicalEntry (signature_of es) e
