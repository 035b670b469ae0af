-- Completion: what a written term gives as canonical LF. A name gives what it names in its scope; what is written at a binder is the
-- type of its variable. N are the names of the variables in scope, and G are their types.
use Rattle.std.specs.Prelude.{◌≡◌, ℕ, zero, List, [], ◌∷◌, None, Some}
use Rattle.lf.specs.Entries.{Entry, Body, declare_family, declare_constant, declare_definition, signature_of}
use Rattle.lf.specs.Syntax.{Head, constant, Term as LfTerm, Spine, lambda as lf_lambda, root, nil, app, LfType, pi as lf_pi, atom, Kind, kind_pi, star as lf_star}
use Rattle.lf.specs.Typing.{HeadHasType, instantiate_type, instantiate_kind}
use Rattle.tw_fixity.specs.Names.{Names}
use Rattle.tw_names.specs.Scope.{binder_name, named}
use Rattle.tw_names.specs.Texts.{hints}
use Rattle.tw_parse.specs.Syntax.{Term, Domain, identifier, star, arrow, pi, lambda, application, untyped, typed, Declaration, declare, define, prefer, give}

-- one argument more, behind the others
abbrev pub then : Spine → LfTerm → Spine
then nil R = app R nil
then (app M S) R = app M (then S R)

-- an argument against the domain: it stands behind those before it, and the codomain with it put in is left
abbrev pub TakesArgument : (Spine → LfType → Type 0) → (LfType → LfTerm → Type 0) → Spine → LfType → Type 0
TakesArgument Before Gives S C = (A : LfType) × (B : LfType) × (U : Spine) × (R : LfTerm) × Before U (lf_pi A B) × Gives A R × (S ≡ then U R) × (C ≡ instantiate_type A R B)

abbrev pub KindTakesArgument : (Spine → Kind → Type 0) → (LfType → LfTerm → Type 0) → Spine → Kind → Type 0
KindTakesArgument Before Gives S L = (A : LfType) × (K : Kind) × (U : Spine) × (R : LfTerm) × Before U (kind_pi A K) × Gives A R × (S ≡ then U R) × (L ≡ instantiate_kind A R K)

-- a name alone gives its head, of the head's type
abbrev pub NameGives : List Entry → Names → List LfType → List ℕ → Head → Spine → LfType → Type 0
NameGives es N G x h S C = (named es N x ≡ Some h) × HeadHasType (signature_of es) G h C × (S ≡ nil)

abbrev pub FamilyNameGives : List Entry → Names → List ℕ → ℕ → Spine → Kind → Type 0
FamilyNameGives es N x a S L = (named es N x ≡ Some (constant a)) × ((signature_of es).kinds a ≡ Some L) × (S ≡ nil)

abbrev mutual
  -- the written term gives R of this type: a lambda for a pi, where the type written at it is the domain, and a head with all its arguments for an atom
  pub TermGives : List Entry → Names → List LfType → Term → LfType → LfTerm → Type 0
  TermGives es N G (lambda x at D M) (lf_pi A B) (lf_lambda R) = DomainGives es N G D A × TermGives es (binder_name x ∷ N) (A ∷ G) M B R
  TermGives es N G (identifier x at) (atom a S) (root h R) = NameGives es N G x h R (atom a S)
  TermGives es N G (application M P) (atom a S) (root h R) = TakesArgument (SpineGives es N G M h) (TermGives es N G P) R (atom a S)
  TermGives es N G _ _ _ = ⊥

  -- the name and its arguments so far give a head with a spine, and this type is left
  pub SpineGives : List Entry → Names → List LfType → Term → Head → Spine → LfType → Type 0
  SpineGives es N G (identifier x at) h S C = NameGives es N G x h S C
  SpineGives es N G (application M P) h S C = TakesArgument (SpineGives es N G M h) (TermGives es N G P) S C
  SpineGives es N G _ h S C = ⊥

  -- the same of a family, where a kind is left
  pub FamilyGives : List Entry → Names → List LfType → Term → ℕ → Spine → Kind → Type 0
  FamilyGives es N G (identifier x at) a S L = FamilyNameGives es N x a S L
  FamilyGives es N G (application M P) a S L = KindTakesArgument (FamilyGives es N G M a) (TermGives es N G P) S L
  FamilyGives es N G _ a S L = ⊥

  -- the written type gives A: an arrow binds a variable without a name
  pub TypeGives : List Entry → Names → List LfType → Term → LfType → Type 0
  TypeGives es N G (arrow U V) (lf_pi A B) = TypeGives es N G U A × TypeGives es (None ∷ N) (A ∷ G) V B
  TypeGives es N G (pi x at D V) (lf_pi A B) = DomainGives es N G D A × TypeGives es (binder_name x ∷ N) (A ∷ G) V B
  TypeGives es N G (identifier x at) (atom a S) = FamilyNameGives es N x a S lf_star
  TypeGives es N G (application M P) (atom a S) = KindTakesArgument (FamilyGives es N G M a) (TermGives es N G P) S lf_star
  TypeGives es N G _ _ = ⊥

  pub DomainGives : List Entry → Names → List LfType → Domain → LfType → Type 0
  DomainGives es N G untyped A = ⊥
  DomainGives es N G (typed U) A = TypeGives es N G U A

-- the written kind gives K
abbrev pub KindGives : List Entry → Names → List LfType → Term → Kind → Type 0
KindGives es N G star lf_star = Unit {0}
KindGives es N G (arrow U V) (kind_pi A K) = TypeGives es N G U A × KindGives es (None ∷ N) (A ∷ G) V K
KindGives es N G (pi x at D V) (kind_pi A K) = DomainGives es N G D A × KindGives es (binder_name x ∷ N) (A ∷ G) V K
KindGives es N G _ _ = ⊥

-- a family where a kind is written, and a constant where a type is
abbrev pub BodyGiven : List Entry → Term → Body → Type 0
BodyGiven es U (declare_family K) = KindGives es [] [] U K
BodyGiven es U (declare_constant A) = TypeGives es [] [] U A
BodyGiven es U (declare_definition M A b) = ⊥

-- The entry is a completion of what is declared: nothing is implicit.
pub record IsCompletion (es : List Entry) (c : List ℕ) (U : Term) (e : Entry) : Type 0 where
  pub name : e.name ≡ c
  pub body : BodyGiven es U e.body
  pub implicit : e.implicit ≡ zero
  pub hint_each : e.hints ≡ hints U

-- a definition has none yet
abbrev pub Completes : List Entry → Declaration → Entry → Type 0
Completes es (declare c at U) e = IsCompletion es c U e
Completes es (define c A M b) e = ⊥
Completes es (prefer a x y) e = ⊥
Completes es (give fix names) e = ⊥
