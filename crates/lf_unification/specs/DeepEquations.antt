-- Equations that are deep: steps of unification reach a term or type above a limit of depth, or hereditary substitution meets one in
-- putting the bindings in.
use Rattle.std.specs.Prelude.{◌≡◌, ℕ, suc, ◌<◌, List, [], ◌∷◌, Some, ◌⊎◌}
use Rattle.lf.specs.Deep.{ReductionHasDeep}
use Rattle.lf.specs.Depth.{depth, type_depth}
use Rattle.lf.specs.Subordination.{Member}
use Rattle.lf.specs.Syntax.{Spine, Term, LfType, app, atom, lambda, metavariable, nil, pi, root}
use Rattle.lf.specs.Typing.{Signature}
use Rattle.lf_unification.specs.Putting.{PutsIn, PutsInSpine, PutsInType, binders, put_at_bound, put_at_rigid, put_at_unbound, put_in_argument, put_nowhere, put_under_lambda}
use Rattle.lf_unification.specs.Reach.{IsReached}
use Rattle.lf_unification.specs.Steps.{Run}
use Rattle.lf_unification.specs.Unifiers.{Binding, Equation, Store}

module _ (s : Store) where
  -- a term of the derivation is deeper than the limit: a result, or one that hereditary substitution meets
  abbrev mutual
    pub PutHasDeep : ℕ → {k : ℕ} {M M' : Term} → PutsIn s.metavariables s.bindings k M M' → Type 0
    PutHasDeep limit (put_under_lambda {M' = M'} d) = (limit < depth (lambda M')) ⊎ PutHasDeep limit d
    PutHasDeep limit (put_at_rigid {S' = S'} h r d) = (limit < depth (root h S')) ⊎ PutSpineHasDeep limit d
    PutHasDeep limit (put_at_unbound {m = m} {S' = S'} u d) = (limit < depth (root (metavariable m) S')) ⊎ PutSpineHasDeep limit d
    PutHasDeep limit (put_at_bound b i d r e) = PutSpineHasDeep limit d ⊎ ReductionHasDeep limit r ⊎ PutHasDeep limit e

    pub PutSpineHasDeep : ℕ → {k : ℕ} {S S' : Spine} → PutsInSpine s.metavariables s.bindings k S S' → Type 0
    PutSpineHasDeep limit put_nowhere = ⊥
    PutSpineHasDeep limit (put_in_argument d e) = PutHasDeep limit d ⊎ PutSpineHasDeep limit e

  -- the term is deeper than the limit, or the bindings put in meet a deep term
  abbrev pub IsDeepTerm : ℕ → ℕ → Term → Type 0
  IsDeepTerm limit k M = (limit < depth M) ⊎ ((M' : Term) × (d : PutsIn s.metavariables s.bindings k M M') × PutHasDeep limit d)

  -- one of the arguments
  abbrev pub IsDeepSpine : ℕ → ℕ → Spine → Type 0
  IsDeepSpine limit k nil = ⊥
  IsDeepSpine limit k (app M S) = IsDeepTerm limit k M ⊎ IsDeepSpine limit k S

  -- the type itself is deeper than the limit, as it is written or with the bindings put in
  abbrev pub IsDeepWhole : ℕ → ℕ → LfType → Type 0
  IsDeepWhole limit k A = (limit < type_depth A) ⊎ ((A' : LfType) × PutsInType s.metavariables s.bindings k A A' × (limit < type_depth A'))

  -- a type counts as a term; its parts and indices may meet one
  abbrev pub IsDeepType : ℕ → ℕ → LfType → Type 0
  IsDeepType limit k (pi A B) = IsDeepWhole limit k (pi A B) ⊎ IsDeepType limit k A ⊎ IsDeepType limit (suc k) B
  IsDeepType limit k (atom a S) = IsDeepWhole limit k (atom a S) ⊎ IsDeepSpine limit k S

  -- one of the types of a local context
  abbrev pub IsDeepContext : ℕ → List LfType → Type 0
  IsDeepContext limit [] = ⊥
  IsDeepContext limit (A ∷ D) = IsDeepType limit (binders D) A ⊎ IsDeepContext limit D

  -- a side, a type or a variable's type of an equation
  abbrev pub IsDeepEquation : ℕ → Equation → Type 0
  IsDeepEquation limit e = IsDeepTerm limit (binders e.local) e.left ⊎ IsDeepTerm limit (binders e.local) e.right ⊎ IsDeepType limit (binders e.local) e.of_type ⊎ IsDeepContext limit e.local

  -- the metavariable is reached from a side of an equation
  pub data EquationsReach (m : ℕ) : Type 0 where
    from_left : (e : Equation) → Member e s.equations → IsReached s.metavariables s.bindings e.left m → EquationsReach m
    from_right : (e : Equation) → Member e s.equations → IsReached s.metavariables s.bindings e.right m → EquationsReach m

  -- something in the store is deep: an equation, or the value or type of a metavariable that is reached from one
  pub data IsDeepStore (limit : ℕ) : Type 0 where
    deep_equation : (e : Equation) → Member e s.equations → IsDeepEquation limit e → IsDeepStore limit
    deep_value : (b : Binding) → Member b s.bindings → EquationsReach b.of → IsDeepTerm limit 0 b.value → IsDeepStore limit
    deep_type : (m : ℕ) (A : LfType) → s.metavariables m ≡ Some A → EquationsReach m → IsDeepType limit 0 A → IsDeepStore limit

-- The equations of the store are deep: a run of permitted steps reaches a store with something deep.
pub record AreDeep (limit : ℕ) (Σ : Signature) (s : Store) : Type 0 where
  pub reached : Store
  pub run : Run Σ s reached
  pub deep : IsDeepStore reached limit
