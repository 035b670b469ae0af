-- Equations with two equal sides say nothing, so those that aren't kept make no difference.
use Rattle.std.proofs.Common.{◌≡◌, ℕ, List, [], ◌∷◌, Option, None, Some, refl, ap, ap₂, ◌∙◌}
use Rattle.lf.specs.Syntax.{Head-discrete, Kind, LfType, Skeleton, Spine, Term, Term-discrete, app, atom, kind_pi, nil, pi, star}
use Rattle.lf.specs.Typing.{Signature, instantiate_kind}
use Rattle.lf_elaboration.specs.Skeletons.{EquationHasSkeletons, EquationsHaveSkeletons}
use Rattle.lf_elaboration.specs.State.{State, differing, index_equations, kind_equations, type_equations, unless_same}
use Rattle.lf_unification.specs.Filling.{fill}
use Rattle.lf_unification.specs.Lists.{followed}
use Rattle.lf_unification.specs.Offering.{spine_equations}
use Rattle.lf_unification.specs.OpenTyping.{under_locals}
use Rattle.lf_unification.specs.Unifiers.{Equation, Solves, SolvesAll}
use native.Mathlib.Decide.{ℕ_discrete}

abbrev pub same_sides : (e : Equation) → Dec (e.left ≡ e.right)
same_sides e = Term-discrete (Head-discrete ℕ_discrete) e.left e.right

-- what solves all of them solves these, and the other way round
module _ (μ : ℕ → Skeleton) (β : ℕ → Option Term) where
  unless_solved : (e : Equation) (es : List Equation) {Same : Type 0} (d : Dec Same) → Solves μ β e → SolvesAll μ β es → SolvesAll μ β (unless_same d e es)
  unless_solved e es (yes q) h hs = hs
  unless_solved e es (no n) h hs = (h, hs)

  pub differing_solved : (es : List Equation) → SolvesAll μ β es → SolvesAll μ β (differing es)
  differing_solved [] h = tt
  differing_solved (e ∷ es) (h, hs) = unless_solved e (differing es) (same_sides e) h (differing_solved es hs)

  solved_unless : (e : Equation) (es : List Equation) (d : Dec (e.left ≡ e.right)) → SolvesAll μ β (unless_same d e es) → Solves μ β e × SolvesAll μ β es
  solved_unless e es (yes q) h = (ap (fill μ (under_locals e.local β)) q, h)
  solved_unless e es (no n) h = h

  pub all_solved : (es : List Equation) → SolvesAll μ β (differing es) → SolvesAll μ β es
  all_solved [] h = tt
  all_solved (e ∷ es) h = let (k, ks) = solved_unless e (differing es) (same_sides e) h in (k, all_solved es ks)

-- they have skeletons, where all of them have
unless_have : (Σ : Signature) (s : State) (e : Equation) (es : List Equation) {Same : Type 0} (d : Dec Same) → EquationHasSkeletons Σ s e → EquationsHaveSkeletons Σ s es → EquationsHaveSkeletons Σ s (unless_same d e es)
unless_have Σ s e es (yes q) h hs = hs
unless_have Σ s e es (no n) h hs = (h, hs)

pub differing_have : (Σ : Signature) (s : State) (es : List Equation) → EquationsHaveSkeletons Σ s es → EquationsHaveSkeletons Σ s (differing es)
differing_have Σ s [] h = tt
differing_have Σ s (e ∷ es) (h, hs) = unless_have Σ s e (differing es) (same_sides e) h (differing_have Σ s es hs)

-- of two equal types there is none
pub same_side : (e : Equation) (es : List Equation) → e.left ≡ e.right → unless_same (same_sides e) e es ≡ es
same_side e es q = by (same_sides e)
  where
    by : (d : Dec (e.left ≡ e.right)) → unless_same d e es ≡ es
    by (yes p) = refl
    by (no n) = absurd (n q)

pub different_sides : (e : Equation) (es : List Equation) → (e.left ≡ e.right → ⊥) → unless_same (same_sides e) e es ≡ e ∷ es
different_sides e es q = by (same_sides e)
  where
    by : (d : Dec (e.left ≡ e.right)) → unless_same d e es ≡ e ∷ es
    by (yes p) = absurd (q p)
    by (no n) = refl

same_spine : (D : List LfType) (K : Kind) (S : Spine) → differing (spine_equations D K S S) ≡ []
same_spine D (kind_pi A K) (app M S) = same_side (record { local = D; left = M; right = M; of_type = A }) (differing (spine_equations D (instantiate_kind A M K) S S)) refl ∙ same_spine D (instantiate_kind A M K) S
same_spine D (kind_pi A K) nil = refl
same_spine D star S = refl

module _ (Σ : Signature) where
  same_indices : (x : Option Kind) (D : List LfType) (S : Spine) → index_equations Σ x D S S ≡ []
  same_indices None D S = refl
  same_indices (Some K) D S = same_spine D K S

  pub same_type : (D : List LfType) (A : LfType) → type_equations Σ D A A ≡ []
  same_type D (pi A B) = ap₂ followed (same_type D A) (same_type (A ∷ D) B)
  same_type D (atom a S) = same_indices (Σ.kinds a) D S

  pub same_kind : (D : List LfType) (K : Kind) → kind_equations Σ D K K ≡ []
  same_kind D (kind_pi A K) = ap₂ followed (same_type D A) (same_kind (A ∷ D) K)
  same_kind D star = refl
