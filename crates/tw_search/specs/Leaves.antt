-- What is read off a leaf without equations, from a state of the store.
use Rattle.std.specs.Prelude.{◌≡◌, ℕ, zero, suc, ◌≤◌, List, [], ◌∷◌, ◌++◌, Option, Some, None, length, ◌⊎◌, Bool, false, true, is_some}
use Rattle.lf.specs.Subordination.{Member}
use Rattle.lf.specs.Syntax.{LfType, Term, skeleton}
use Rattle.lf.specs.Typing.{IsSignature, Signature}
use Rattle.lf_unification.specs.Patterns.{eta_variable}
use Rattle.lf_unification.specs.Reach.{IsReached}
use Rattle.lf_unification.specs.Unifiers.{Binding}
use Rattle.tw_metas.specs.State.{State, value_of}
use Rattle.tw_putting.specs.Ready.{IsReady}
use Rattle.tw_putting.specs.Stores.{PutsDeep, bindings_of, types_of}
use Rattle.tw_abstract.specs.Positions.{index}
use Rattle.tw_abstract.specs.Quantifiers.{AreQuantifiers}
use Rattle.tw_abstract.specs.Reading.{IsReadAs}
use Rattle.tw_search.specs.Goals.{IsDeclared}

-- The first metavariables stand for n variables of the query and the hole of its proof. This one is among them, or reached from the value of one.
abbrev pub IsFromQuery : State → ℕ → ℕ → Type 0
IsFromQuery s n m = (m ≤ n) ⊎ ((b : Binding) × Member b (bindings_of s) × (b.of ≤ n) × IsReached (types_of s) (bindings_of s) b.value m)

-- every metavariable comes from the query, which has n variables
abbrev pub AllFromQuery : State → ℕ → Type 0
AllFromQuery s n = (m : ℕ) → IsDeclared s m → IsFromQuery s n m

-- the store is ready, nothing is left, and all metavariables come from a query with n variables
pub record IsLeaf (s : State) (n : ℕ) : Type 0 where
  pub signature : Signature
  pub is_signature : IsSignature signature
  pub ready : IsReady signature [] s
  pub none_left : s.equations ≡ []
  pub declared : (m : ℕ) → m ≤ n → IsDeclared s m
  pub reached : AllFromQuery s n

-- the numbers below n
abbrev pub below : ℕ → List ℕ
below zero = []
below (suc n) = below n ++ n ∷ []

-- Where it is looked for free metavariables first, in this order: at the values of the variables, and at the proof, where it is read.
abbrev pub sites_of : ℕ → Bool → List ℕ
sites_of n true = below n ++ n ∷ []
sites_of n false = below n

-- the term is the value of a metavariable, with the variables of the quantifiers ms for what is free; one that is free is the variable itself
abbrev pub ValueIsRead : State → List ℕ → ℕ → Option Term → Term → Type 0
ValueIsRead s ms m (Some N) M = IsReadAs s ms 0 N M
ValueIsRead s ms m None M = (i : ℕ) × (A : LfType) × (index ms m ≡ Some i) × (types_of s m ≡ Some A) × (M ≡ eta_variable (skeleton A) i)

abbrev pub IsValueRead : State → List ℕ → ℕ → Term → Type 0
IsValueRead s ms m M = ValueIsRead s ms m (value_of s m) M

-- the values of as many metavariables, from 0; the last one is in front
abbrev pub AreValuesRead : State → List ℕ → List Term → Type 0
AreValuesRead s ms [] = Unit {0}
AreValuesRead s ms (M ∷ Ms) = IsValueRead s ms (length Ms) M × AreValuesRead s ms Ms

-- the proof, which is the value of the metavariable n, where it was read
abbrev pub IsProofRead : State → List ℕ → ℕ → Option Term → Type 0
IsProofRead s ms n (Some M) = IsValueRead s ms n M
IsProofRead s ms n None = Unit {0}

-- The context F of the free metavariables, the values of the variables with the newest in front, and the proof, where it was read.
pub record IsReadOff (s : State) (n : ℕ) (F : List LfType) (values : List Term) (proof : Option Term) : Type 0 where
  pub quantifiers : List ℕ
  pub are_quantifiers : AreQuantifiers s (sites_of n (is_some proof)) quantifiers F
  pub values_read : AreValuesRead s quantifiers values
  pub count : length values ≡ n
  pub proof_read : IsProofRead s quantifiers n proof

-- the value of a metavariable is deep with all values put in
abbrev pub ValueIsDeep : State → ℕ → Type 0
ValueIsDeep s m = (N : Term) × (value_of s m ≡ Some N) × PutsDeep s 0 N

-- a leaf, with the quantifiers that are read off it, wherever it was looked first, and their context
pub record CanRead (s : State) (n : ℕ) (ms : List ℕ) (F : List LfType) : Type 0 where
  pub leaf : IsLeaf s n
  pub sites : List ℕ
  pub are_quantifiers : AreQuantifiers s sites ms F
