-- New metavariables for arguments, behind one of which a type or a kind is left that is deeper than 4,096.
use Rattle.std.specs.Prelude.{◌≡◌, ◌<◌, ℕ, suc, List, [], ◌∷◌, Some}
use Rattle.lf.specs.Depth.{depth_limit, kind_depth, type_depth}
use Rattle.lf.specs.Entries.{Entry, signature_of}
use Rattle.lf.specs.Syntax.{Kind, LfType, Skeleton, arrow as arrow_skeleton, base, kind_pi, pi}
use Rattle.lf.specs.Typing.{instantiate_kind, instantiate_type}
use Rattle.lf_elaboration.specs.Elaboration.{NewType}
use Rattle.lf_elaboration.specs.State.{State, with_metavariable}
use Rattle.lf_unification.specs.Offering.{raised}
use Rattle.tw_elaborate.specs.View.{made}
use Rattle.tw_elaborate.specs.declared.state.Elaboration.{Elaboration}

-- among the first k arguments of a type
pub data TakesNewDeep : ℕ → List LfType → LfType → State → Type 0 where
  deep_new : {k : ℕ} {D : List LfType} {A B : LfType} {s : State} → depth_limit < type_depth (instantiate_type A (raised D A s.next) B) → TakesNewDeep (suc k) D (pi A B) s
  deep_later_new : {k : ℕ} {D : List LfType} {A B : LfType} {s : State} → TakesNewDeep k D (instantiate_type A (raised D A s.next) B) (with_metavariable D A s) → TakesNewDeep (suc k) D (pi A B) s

-- the same of a kind
pub data KindTakesNewDeep : ℕ → List LfType → Kind → State → Type 0 where
  kind_deep_new : {k : ℕ} {D : List LfType} {A : LfType} {K : Kind} {s : State} → depth_limit < kind_depth (instantiate_kind A (raised D A s.next) K) → KindTakesNewDeep (suc k) D (kind_pi A K) s
  kind_deep_later_new : {k : ℕ} {D : List LfType} {A : LfType} {K : Kind} {s : State} → KindTakesNewDeep k D (instantiate_kind A (raised D A s.next) K) (with_metavariable D A s) → KindTakesNewDeep (suc k) D (kind_pi A K) s

-- among all arguments of a kind
pub data TakesAllNewDeep : List LfType → Kind → State → Type 0 where
  all_deep_new : {D : List LfType} {A : LfType} {K : Kind} {s : State} → depth_limit < kind_depth (instantiate_kind A (raised D A s.next) K) → TakesAllNewDeep D (kind_pi A K) s
  all_deep_later_new : {D : List LfType} {A : LfType} {K : Kind} {s : State} → TakesAllNewDeep D (instantiate_kind A (raised D A s.next) K) (with_metavariable D A s) → TakesAllNewDeep D (kind_pi A K) s

module _ (es : List Entry) where
  -- in the most general type of a skeleton
  pub data NewTypeDeep : List LfType → Skeleton → State → Type 0 where
    deep_new_atom : {D : List LfType} {a : ℕ} {K : Kind} {s : State} → (signature_of es).kinds a ≡ Some K → TakesAllNewDeep D K s → NewTypeDeep D (base a) s
    deep_new_pi_domain : {D : List LfType} {t u : Skeleton} {s : State} → NewTypeDeep D t s → NewTypeDeep D (arrow_skeleton t u) s
    deep_new_pi_range : {D : List LfType} {t u : Skeleton} {A : LfType} {s s' : State} → NewType es D t s s' A → NewTypeDeep (A ∷ D) u s' → NewTypeDeep D (arrow_skeleton t u) s

  -- in that of a free variable
  pub data NewFreesDeep : List Skeleton → State → Type 0 where
    deep_free : {t : Skeleton} {ts : List Skeleton} {s : State} → NewTypeDeep [] t s → NewFreesDeep (t ∷ ts) s
    deep_later_free : {t : Skeleton} {ts : List Skeleton} {A : LfType} {s s' : State} → NewType es [] t s s' A → NewFreesDeep ts (with_metavariable [] A s') → NewFreesDeep (t ∷ ts) s

-- behind the first argument of a type or a kind, between the values of the program
pub record TakesOneDeep (X : LfType) (old : Elaboration) : Type 0 where
  pub domain : LfType
  pub range : LfType
  pub is : X ≡ pi domain range
  pub deep : depth_limit < type_depth (instantiate_type domain (raised old.locals domain (made old).next) range)

pub record KindTakesOneDeep (K : Kind) (old : Elaboration) : Type 0 where
  pub domain : LfType
  pub range : Kind
  pub is : K ≡ kind_pi domain range
  pub deep : depth_limit < kind_depth (instantiate_kind domain (raised old.locals domain (made old).next) range)
