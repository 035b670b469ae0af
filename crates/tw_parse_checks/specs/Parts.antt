-- What the parts of a check say of its tokens.
use Rattle.std.specs.Prelude.{◌≡◌, ℕ, ◌+◌, List, [], ◌∷◌, map, codes, Bool, true, false, Option, None, Some, Ok, Err}
use Rattle.std.specs.Str.{bytes_eq}
use Rattle.std.specs.declared.result.Result.{Result}
use Rattle.tw_lexer.specs.declared.place.Place.{Place}
use Rattle.tw_parse.specs.Outlines.{Table, Outline, Sequence}
use Rattle.tw_parse.specs.Sources.{lexemes_from}
use Rattle.tw_parse.specs.Syntax as syntax
use Rattle.tw_parse.specs.Telling.{Tells}
use Rattle.tw_parse.specs.View.{term_of}
use Rattle.tw_parse.specs.Words.{Lexeme, first_word, first_bytes, first_place}
use Rattle.tw_parse.specs.declared.decl.ExtName.{ExtName}
use Rattle.tw_parse.specs.declared.fault.SyntaxFault.{SyntaxFault}
use Rattle.tw_parse.specs.declared.fault.SyntaxFault.TheVariants.{Syntax, NoMemory}
use Rattle.tw_parse.specs.declared.parts.Part.{Part}
use Rattle.tw_parse.specs.declared.parts.Part.TheVariants.{Term, AtFault}
use Rattle.tw_parse.specs.declared.source.Source.{Source}
use Rattle.tw_parse.specs.declared.words.Word.TheVariants.{Name, LParen, RBrace}
use Rattle.tw_parse_checks.specs.Checks.{Call, Orders, order_of, orders_from}
use Rattle.tw_parse_checks.specs.Faults.{FillingStopsAt, LeadsBinder, StopsInQuantifier, StopsInBinder}
use Rattle.tw_parse_checks.specs.Meanings.{keep_apart, mark_in, variable_in, binder_in}
use Rattle.tw_parse_checks.specs.Shapes.{Quantifier, Binder, Row, TakesQuantifier, TakesBinder, Opening, Head, Family, Closing, Says, TakesLabel, TakesSome, TakesCall, TakesFurtherLabel, TakesLabels}
use Rattle.tw_parse_checks.specs.declared.bound.Bound.{Bound}
use Rattle.tw_parse_checks.specs.declared.check.ExtMark.{ExtMark}
use Rattle.tw_parse_checks.specs.declared.check.ExtOrder.{ExtOrder}
use Rattle.tw_parse_checks.specs.declared.quantifiers.Quantified.{Quantified}

-- the tokens don't begin with what stands before the type of a binder, with the head of a quantified variable, or with the family
abbrev pub HasNoOpening : List Lexeme → Type 0
HasNoOpening tokens = (x : ExtName) (rest : List Lexeme) → Opening tokens x rest → ⊥

abbrev pub HasNoHead : List Lexeme → Type 0
HasNoHead tokens = (mark : ExtMark) (x : ExtName) (rest : List Lexeme) → Head tokens mark x rest → ⊥

abbrev pub HasNoFamily : Bool → List Lexeme → Type 0
HasNoFamily parens tokens = (a : ExtName) (rest : List Lexeme) → Family parens tokens a rest → ⊥

-- nothing of a row stands first
abbrev pub Stuck : {A : Type 0} → (List Lexeme → A → List Lexeme → Type 0) → List Lexeme → Type 0
Stuck {A} Takes tokens = (x : A) (rest : List Lexeme) → Takes tokens x rest → ⊥

-- whether a parenthesis stands first
abbrev pub TellsParens : Bool → List Lexeme → Type 0
TellsParens true tokens = first_word tokens ≡ LParen
TellsParens false tokens = first_word tokens ≡ LParen → ⊥

-- the variable of a binder whose bracket is the token of this number
abbrev pub variable_at : Source → ℕ → ExtName
variable_at source number = record { name = first_bytes (lexemes_from source (number + 1)); at = first_place source.end (lexemes_from source number) }

-- the token of this number as a name
abbrev pub name_at : Source → ℕ → ExtName
name_at source number = record { name = first_bytes (lexemes_from source number); at = first_place source.end (lexemes_from source number) }

-- the tokens from one number up to another are a type with its brace, and this part tells of it
abbrev pub IsDomain : Source → ℕ → Part → ℕ → Type 0
IsDomain source from part upto = (U : Outline) × (closer : Lexeme) × (closer.word ≡ RBrace) × Sequence source.fixities.now (lexemes_from source from) U (closer ∷ lexemes_from source upto) × Tells U part

abbrev pub DomainFault : Source → ℕ → SyntaxFault → Type 0
DomainFault source from (Syntax place) = FillingStopsAt source.fixities.now source.end (lexemes_from source from) place
DomainFault source from NoMemory = Unit {0}
DomainFault source from _ = ⊥

-- the part tells of the type of a binder, if it has one
abbrev pub TellsDomain : Option Outline → Option Part → Type 0
TellsDomain None None = Unit {0}
TellsDomain (Some U) (Some p) = Tells U p
TellsDomain _ _ = ⊥

-- each part tells of the type of the binder at its place
abbrev pub TellAll : List Binder → List (Option Part) → Type 0
TellAll [] [] = Unit {0}
TellAll (b ∷ bs) (p ∷ ps) = TellsDomain b.type p × TellAll bs ps
TellAll _ _ = ⊥

-- the tokens from one number up to another are these quantified variables
abbrev pub AreQuantified : Source → ℕ → Quantified → ℕ → Type 0
AreQuantified source from q upto = (qs : List Quantifier) × Row (TakesQuantifier source.fixities.now) (lexemes_from source from) qs (lexemes_from source upto) × (q.marks.items ≡ map mark_in qs) × (q.bound.variables.items ≡ map variable_in qs) × TellAll (map binder_in qs) q.bound.domains.items

abbrev pub TypeFault : Source → ℕ → SyntaxFault → Type 0
TypeFault source from (Syntax place) = StopsInQuantifier source.fixities.now source.end place (lexemes_from source from)
TypeFault source from NoMemory = Unit {0}
TypeFault source from _ = ⊥

-- the name of a binder
abbrev pub name_in : Binder → ExtName
name_in b = b.variable

-- the binders stand in these lists
abbrev pub AreBound : List Binder → Bound → Type 0
AreBound bs bound = (bound.variables.items ≡ map name_in bs) × TellAll bs bound.domains.items

-- the tokens from one number up to another are these binders of a block
abbrev pub AreBinders : Source → ℕ → Bound → ℕ → Type 0
AreBinders source from bound upto = (bs : List Binder) × Row (TakesBinder source.fixities.now) (lexemes_from source from) bs (lexemes_from source upto) × AreBound bs bound

-- no binder begins here, and none whose type would be due
abbrev pub HasNoBinder : Table → List Lexeme → Type 0
HasNoBinder table tokens = Stuck (TakesBinder table) tokens × ((type : List Lexeme) → LeadsBinder tokens type → ⊥)

-- a binder without a type stands here, or none does
abbrev pub IsBare : Source → ℕ → Type 0
IsBare source number = TakesBinder source.fixities.now (lexemes_from source number) (record { variable = variable_at source number; type = None }) (lexemes_from source (number + 3))

abbrev pub HasNoBare : Source → ℕ → Type 0
HasNoBare source number = (x : ExtName) (rest : List Lexeme) → TakesBinder source.fixities.now (lexemes_from source number) (record { variable = x; type = None }) rest → ⊥

-- a binder begins here, whose type is written or not
abbrev pub Begins : Source → ℕ → Bool → Type 0
Begins source number true = Opening (lexemes_from source number) (variable_at source number) (lexemes_from source (number + 3))
Begins source number false = IsBare source number

abbrev pub BinderFault : Source → ℕ → SyntaxFault → Type 0
BinderFault source from (Syntax place) = StopsInBinder source.fixities.now source.end place (lexemes_from source from)
BinderFault source from NoMemory = Unit {0}
BinderFault source from _ = ⊥

-- this word stands first
abbrev pub SaysFirst : List ℕ → List Lexeme → Type 0
SaysFirst word tokens = (first_word tokens ≡ Name) × (bytes_eq (first_bytes tokens) word ≡ true)

-- the type of a binder stops here, one of those behind `some`
abbrev pub StopsInSome : Source → ℕ → Place → Type 0
StopsInSome source from place = (word : Lexeme) × (tokens : List Lexeme) × (lexemes_from source from ≡ word ∷ tokens) × Says (codes "some") word × StopsInBinder source.fixities.now source.end place tokens

abbrev pub SomeFault : Source → ℕ → SyntaxFault → Type 0
SomeFault source from (Syntax place) = StopsInSome source from place
SomeFault source from NoMemory = Unit {0}
SomeFault source from _ = ⊥

-- the tokens from one number up to another are what stands before `block`; where it is read in any way, it is read in this one
pub record IsSomePart (source : Source) (from : ℕ) (bound : Bound) (upto : ℕ) : Type 0 where
  pub binders : List Binder
  pub takes : TakesSome source.fixities.now (lexemes_from source from) binders (lexemes_from source upto)
  pub are : AreBound binders bound
  pub only : (rs : List Binder) (word : Lexeme) (behind : List Lexeme) → TakesSome source.fixities.now (lexemes_from source from) rs (word ∷ behind) → Says (codes "block") word → lexemes_from source upto ≡ word ∷ behind
  pub no_stop : (place : Place) → StopsInSome source from place → ⊥

-- the tokens are call patterns that keep their rules, one or more, and the dot
abbrev pub AreCalls : List Lexeme → List Call → Type 0
AreCalls tokens cs = (rest : List Lexeme) × (cs ≡ [] → ⊥) × Row TakesCall tokens cs rest × Closing false rest × (keep_apart cs ≡ true)

abbrev pub HasNoCalls : List Lexeme → Type 0
HasNoCalls tokens = (cs : List Call) → AreCalls tokens cs → ⊥

-- labels behind the first one
abbrev pub AreLabels : List Lexeme → ExtName → List ExtName → List Lexeme → Type 0
AreLabels tokens first labels rest = (ls : List ExtName) × (labels ≡ first ∷ ls) × Row TakesFurtherLabel tokens ls rest

abbrev pub HasNoLabels : List Lexeme → Type 0
HasNoLabels tokens = (ls : List ExtName) (rest : List Lexeme) → TakesLabels tokens ls rest → ⊥

abbrev pub HasNoLabel : List Lexeme → Type 0
HasNoLabel tokens = (l : ExtName) (rest : List Lexeme) → TakesLabel tokens l rest → ⊥

-- the components, as they stand in memory
abbrev pub orders_in : List ExtOrder → Orders
orders_in os = orders_from (map order_of os)

-- the term that a part is, or the place of its first fault
abbrev pub seen : Part → Result syntax.Term Place
seen (Term t) = Ok (term_of t)
seen (AtFault place) = Err place

-- a variable before what stands behind it
abbrev pub bound_by : ExtName → Option Part → Result syntax.Term Place → Result syntax.Term Place
bound_by x (Some (AtFault place)) r = Err place
bound_by x (Some (Term A)) (Err place) = Err place
bound_by x (Some (Term A)) (Ok B) = Ok (syntax.pi x.name x.at (syntax.typed (term_of A)) B)
bound_by x None (Err place) = Err place
bound_by x None (Ok B) = Ok (syntax.pi x.name x.at syntax.untyped B)

-- variables before it, the last one first
abbrev pub bound_over : List ExtName → List (Option Part) → Result syntax.Term Place → Result syntax.Term Place
bound_over (x ∷ xs) (p ∷ ps) r = bound_over xs ps (bound_by x p r)
bound_over _ _ r = r
