-- What the walk is good for.
use Rattle.std.specs.Prelude.{◌≡◌, List, [], ◌∷◌, Some, None}
use Rattle.lf.specs.Syntax.{LfType, Term}
use Rattle.lf.specs.Typing.{IsSignature, Signature}
use Rattle.lf_unification.specs.Dependency.{ListedMetavariable, free_context, values}
use Rattle.lf_unification.specs.Filling.{fill, fill_type}
use Rattle.lf_unification.specs.Lists.{followed}
use Rattle.lf_unification.specs.OpenTyping.{OpenHasType, OpenIsType, skeletons_of, under_locals}
use Rattle.lf_unification.specs.PartialInstance.{IsFilling}
use Rattle.lf_unification.specs.Putting.{PutsIn, PutsInType, binders}
use Rattle.lf_unification.specs.Solving.{IsWellFormed}
use Rattle.lf_unification.specs.Unifiers.{Store}
use Rattle.tw_abstract.specs.Free.{free_metavariables}
use Rattle.tw_abstract.specs.Generalizing.{generalized, generalized_type}
use Rattle.tw_abstract.specs.Positions.{index}

-- In a well-formed store: where the free metavariables become variables in the order of dependency, what the bindings are put into is generalized
-- to what the answer of the store fills in. D is a local context.
abbrev pub GeneralizingIsFilling : Type 0
GeneralizingIsFilling = (Σ : Signature) → IsSignature Σ → (s : Store) (w : IsWellFormed Σ s) (D : List LfType) →
    ((M M' : Term) (A : LfType) → OpenHasType Σ [] s.metavariables (IsFilling Σ [] s) D M A → PutsIn s.metavariables s.bindings (binders D) M M' →
    generalized (index (free_metavariables w.order)) (binders D) M' ≡ Some (fill (skeletons_of s.metavariables) (under_locals D (values (skeletons_of s.metavariables) w.order)) M)) ×
    ((A A' : LfType) → OpenIsType Σ [] s.metavariables (IsFilling Σ [] s) D A → PutsInType s.metavariables s.bindings (binders D) A A' →
    generalized_type (index (free_metavariables w.order)) (binders D) A' ≡ Some (fill_type (skeletons_of s.metavariables) (under_locals D (values (skeletons_of s.metavariables) w.order)) A))

-- The same of the context of the free metavariables: the type of each, generalized over those outside of it.
abbrev pub ContextIsGeneralized : Type 0
ContextIsGeneralized = (Σ : Signature) → IsSignature Σ → (s : Store) (w : IsWellFormed Σ s) (inner outer : List ListedMetavariable) (it : ListedMetavariable) (A' : LfType) →
    w.order ≡ followed inner (it ∷ outer) → it.value ≡ None → PutsInType s.metavariables s.bindings 0 it.of_type A' →
    (A : LfType) × (generalized_type (index (free_metavariables outer)) 0 A' ≡ Some A) × (free_context (skeletons_of s.metavariables) (it ∷ outer) ≡ A ∷ free_context (skeletons_of s.metavariables) outer)
