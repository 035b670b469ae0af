-- The equations between a goal's arguments and others, before and after a head is offered to it.
use Rattle.std.proofs.Common.{◌≡◌, List, Option, Some, None, refl, sym, ap, ◌∙◌, subst}
use Rattle.lf.specs.Syntax.{Head, Kind, LfType, Spine}
use Rattle.lf.specs.Typing.{IsSignature, Signature}
use Rattle.lf_search.proofs.ChildNode.{applied_adds}
use Rattle.lf_unification.specs.Offering.{spine_equations}
use Rattle.lf_unification.specs.Unifiers.{Equation}
use Rattle.tw_metas.specs.State.{State}
use Rattle.tw_open.specs.Indices.{IndicesFit}
use Rattle.tw_putting.specs.Stores.{types_of}
use Rattle.tw_terms.specs.declared.canonical.MetaId.{MetaId}
use Rattle.tw_search.specs.Goals.{IsDeclared, StandsAtGoal, arguments_in, goal_type, indices_of}
use Rattle.tw_search.specs.Offers.{EquationsFit, HasEquations, IsOffered, offered_arguments}
use Rattle.tw_search.specs.Reducing.{WasOffered}
use Rattle.tw_search.specs.declared.goal.OpenGoal.{OpenGoal}
use Rattle.tw_search.proofs.Offering.{has_kind}

-- there are equations between the goal's arguments and others
pub the_equations : (Σ : Signature) → IsSignature Σ → (s : State) (g : OpenGoal) → StandsAtGoal Σ s g → (T : Spine) → (es : List Equation) × HasEquations Σ s g T es
the_equations Σ ok s g w T = go (Σ.kinds g.family.0) refl
  where
    go : (x : Option Kind) → Σ.kinds g.family.0 ≡ x → (es : List Equation) × HasEquations Σ s g T es
    go None e = absurd (has_kind Σ ok s g w e)
    go (Some K) e = (spine_equations g.locals K (indices_of s g.hole.0) T, record { kind = K; kind_of = e; equations = refl })

-- the type of the goal's hole is the same once a head is offered
offered_type : (Σ : Signature) (s : State) (g : OpenGoal) (h : Head) (es : List Equation) (subgoals : List MetaId) (t : State) → StandsAtGoal Σ s g → IsOffered Σ s g h es subgoals t → types_of t g.hole.0 ≡ Some (goal_type s g)
offered_type Σ s g h es subgoals t w o = (applied_adds o.offer.offered w.node.scoped.fresh).grows g.hole.0 (goal_type s g) w.declared

pub was_declared : (Σ : Signature) → IsSignature Σ → (g : OpenGoal) (A : LfType) (ms : List MetaId) (t : State) → WasOffered Σ g A ms t → IsDeclared t g.hole.0
was_declared Σ ok g A ms t o =
    let (es, q) = the_equations Σ ok o.before g o.at (offered_arguments g ms A) in
    (goal_type o.before g, offered_type Σ o.before g o.head es o.subgoals t o.at (o.offered es q))

-- and so are the goal's indices
pub offered_indices : (Σ : Signature) (s : State) (g : OpenGoal) (h : Head) (es : List Equation) (subgoals : List MetaId) (t : State) → StandsAtGoal Σ s g → IsOffered Σ s g h es subgoals t → indices_of t g.hole.0 ≡ indices_of s g.hole.0
offered_indices Σ s g h es subgoals t w o = ap arguments_in (offered_type Σ s g h es subgoals t w o ∙ sym w.declared)

pub was_indices : (Σ : Signature) → IsSignature Σ → (g : OpenGoal) (A : LfType) (ms : List MetaId) (t : State) (o : WasOffered Σ g A ms t) → indices_of t g.hole.0 ≡ indices_of o.before g.hole.0
was_indices Σ ok g A ms t o =
    let (es, q) = the_equations Σ ok o.before g o.at (offered_arguments g ms A) in
    offered_indices Σ o.before g o.head es o.subgoals t o.at (o.offered es q)

-- where they are the same, so are the equations
pub in_other : (Σ : Signature) (s t : State) (g : OpenGoal) → indices_of s g.hole.0 ≡ indices_of t g.hole.0 → (T : Spine) (es : List Equation) → HasEquations Σ s g T es → HasEquations Σ t g T es
in_other Σ s t g e T es q = record { kind = q.kind; kind_of = q.kind_of; equations = q.equations ∙ ap (λ S. spine_equations g.locals q.kind S T) e }

pub fit_offered : (Σ : Signature) → IsSignature Σ → (g : OpenGoal) (A : LfType) (ms : List MetaId) (t : State) (o : WasOffered Σ g A ms t) → EquationsFit Σ o.before g → EquationsFit Σ t g
fit_offered Σ ok g A ms t o f = record { declared = was_declared Σ ok g A ms t o; has_kind = f.has_kind; fits = λ K e. subst (IndicesFit g.locals K) (sym (was_indices Σ ok g A ms t o)) (f.fits K e) }
