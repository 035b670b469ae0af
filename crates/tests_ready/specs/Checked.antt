-- Typing of open terms that holds whatever the bindings, with metavariables below a number only.
use Rattle.std.specs.Prelude.{◌≡◌, ◌<◌, ℕ, List, [], ◌∷◌, Option, Some, length}
use Rattle.lf.specs.SkeletonTyping.{TypeBySkeletons}
use Rattle.lf.specs.Skeletons.{family_skeletons}
use Rattle.lf.specs.Syntax.{Head, Kind, LfType, Spine, Term, constant, metavariable, variable}
use Rattle.lf.specs.Typing.{Signature, TypeAt}
use Rattle.lf.specs.Variables.{onto}
use Rattle.lf_unification.specs.OpenTyping.{MetavariablesIn, MetavariablesInSpine, MetavariablesInType, OpenHasType, OpenHeadHasType, OpenIsContext, OpenIsType, OpenSpineFitsKind, OpenSpineType}
use Rattle.lf_unification.specs.Patterns.{local_skeletons}
use Rattle.lf_unification.specs.Unifiers.{Equation}
use Rattle.tw_metas.specs.State.{Declaration, State, value_of}
use Rattle.tw_terms.specs.OpenView.{open_type_of}
use Rattle.tw_terms.specs.declared.open_terms.OpenTy.{OpenTy}
use Rattle.tw_putting.specs.Fits.{declared_skeletons}
use Rattle.tw_putting.specs.Ready.{LocalsBySkeletons}

-- all fillings: typing up to them compares types as they stand
abbrev pub all : (ℕ → Option Term) → Type 0
all β = Unit {0}

-- the type of a variable
abbrev pub VariableHasType : List LfType → ℕ → LfType → Type 0
VariableHasType D i A = TypeAt (onto D []) i A

-- the kind is one of a family
abbrev pub IsKindOf : Signature → Kind → Type 0
IsKindOf Σ K = (a : ℕ) × (Σ.kinds a ≡ Some K)

module _ (Σ : Signature) (Ψ : ℕ → Option LfType) where
  -- each metavariable below n has a type in the empty context, which mentions earlier ones only
  abbrev pub TypedBelow : ℕ → Type 0
  TypedBelow n = (m : ℕ) (A : LfType) → m < n → Ψ m ≡ Some A → OpenIsType Σ [] Ψ all [] A × MetavariablesInType (λ k. k < m) A

  -- skeletons type the type in the local context
  abbrev pub HasSkeletons : List LfType → LfType → Type 0
  HasSkeletons D A = TypeBySkeletons (family_skeletons Σ) (declared_skeletons Σ Ψ) (local_skeletons D []) A

  -- what terms in the local context stand on
  pub record Stands (n : ℕ) (D : List LfType) : Type 0 where
    pub below : TypedBelow n
    pub locals : LocalsBySkeletons Σ Ψ D

  -- a metavariable is one below n
  abbrev pub HeadBelow : ℕ → Head → Type 0
  HeadBelow n (constant c) = Unit {0}
  HeadBelow n (variable i) = Unit {0}
  HeadBelow n (metavariable m) = m < n

  pub record HeadIsTyped (n : ℕ) (D : List LfType) (h : Head) (A : LfType) : Type 0 where
    pub typed : OpenHeadHasType Σ [] Ψ all D h A
    pub below : HeadBelow n h
    pub skeletons : HasSkeletons D A

  abbrev pub IsTyped : ℕ → List LfType → Term → LfType → Type 0
  IsTyped n D M A = OpenHasType Σ [] Ψ all D M A × MetavariablesIn (λ m. m < n) M

  abbrev pub SpineIsTyped : ℕ → List LfType → Spine → LfType → LfType → Type 0
  SpineIsTyped n D S A C = OpenSpineType Σ [] Ψ all D S A C × MetavariablesInSpine (λ m. m < n) S

  abbrev pub FitsKind : ℕ → List LfType → Spine → Kind → Type 0
  FitsKind n D S K = OpenSpineFitsKind Σ [] Ψ all D S K × MetavariablesInSpine (λ m. m < n) S

  abbrev pub IsTypeTyped : ℕ → List LfType → LfType → Type 0
  IsTypeTyped n D A = OpenIsType Σ [] Ψ all D A × MetavariablesInType (λ m. m < n) A

  abbrev pub IsContextTyped : List LfType → Type 0
  IsContextTyped D = OpenIsContext Σ [] Ψ all D

  pub record IsEquationTyped (e : Equation) : Type 0 where
    pub locals : OpenIsContext Σ [] Ψ all e.local
    pub typed : OpenIsType Σ [] Ψ all e.local e.of_type
    pub left : OpenHasType Σ [] Ψ all e.local e.left e.of_type
    pub right : OpenHasType Σ [] Ψ all e.local e.right e.of_type

  abbrev pub AreEquationsTyped : List Equation → Type 0
  AreEquationsTyped [] = Unit {0}
  AreEquationsTyped (e ∷ es) = IsEquationTyped e × AreEquationsTyped es

-- what is said of a metavariable of this type in the empty context
abbrev pub declaration_of : OpenTy → Declaration
declaration_of t = record { context = []; of_type = open_type_of t }

-- nothing is bound or postponed
pub record IsNew (s : State) : Type 0 where
  pub places : length s.values ≡ length s.declared
  pub no_value : (m : ℕ) (N : Term) → value_of s m ≡ Some N → ⊥
  pub none_bound : s.bound ≡ []
  pub none_postponed : s.equations ≡ []
