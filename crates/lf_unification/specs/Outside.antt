-- Which equations are outside the pattern fragment. All terms have the bindings put in.
use Rattle.std.specs.Prelude.{◌≡◌, ℕ, List, [], ◌∷◌, Option, Some, ◌⊎◌, Bool, true, false}
use Rattle.lf.specs.Syntax.{Term, LfType, constant, lambda, metavariable, root, variable}
use Rattle.lf_unification.specs.Inversion.{Inverted, IsPattern, NeverInverted, OccursRigid}
use Rattle.lf_unification.specs.OpenTyping.{MetavariablesIn, MetavariablesInType, skeletons_of}
use Rattle.lf_unification.specs.Patterns.{pattern}
use Rattle.lf_unification.specs.Pruning.{CanAgree, CanDrop}
use Rattle.lf_unification.specs.Putting.{Unbound}
use Rattle.lf_unification.specs.Reach.{IsReached}
use Rattle.lf_unification.specs.Unifiers.{Binding, Equation}

-- the test answers yes
abbrev pub Holds : Bool → Type 0
Holds true = Unit {0}
Holds false = ⊥

-- what a bound metavariable of V mentions is in V
abbrev pub ValuesIn : (ℕ → Type 0) → List Binding → Type 0
ValuesIn V [] = Unit {0}
ValuesIn V (b ∷ bs) = (V b.of → MetavariablesIn V b.value) × ValuesIn V bs

-- the set V is closed under what types and values mention, and m is not in it
abbrev pub Avoids : (ℕ → Option LfType) → List Binding → ℕ → (ℕ → Type 0) → Type 0
Avoids Ψ bs m V = ((k : ℕ) (A : LfType) → V k → Ψ k ≡ Some A → MetavariablesInType V A) × ValuesIn V bs × (V m → ⊥)

module _ (Ψ : ℕ → Option LfType) (bs : List Binding) (D : List LfType) (m : ℕ) (xs : List ℕ) where
  -- The metavariable m on the pattern xs can be bound to the inversion of N. The occurs check goes through types and values: a set that
  -- is closed under these holds the metavariables of N, and not m; so m is not reached from N.
  pub record CanBind (N : Term) : Type 0 where
    pub inverted : Inverted Ψ D (skeletons_of Ψ m) xs N
    pub reached : ℕ → Bool
    pub avoids : Avoids Ψ bs m (λ k. Holds (reached k))
    pub within : MetavariablesIn (λ k. Holds (reached k)) N

  -- No step is possible for m on the pattern xs: where N can be inverted m is reached from it, so that the binding would be circular;
  -- nothing in N refutes the equation, and no argument that must go can be lost. And nothing reached from N can be renewed: its type is
  -- the one under the bindings. So what is reached, and what the types of N's metavariables need, is read with the bindings put in.
  pub record NoStep (N : Term) : Type 0 where
    pub circular : Inverted Ψ D (skeletons_of Ψ m) xs N → IsReached Ψ bs N m
    pub invertible : NeverInverted Ψ D (skeletons_of Ψ m) xs N → ⊥
    pub not_inside : OccursRigid Ψ D m xs N → ⊥
    pub no_drop : CanDrop Ψ D (skeletons_of Ψ m) xs N → ⊥
    pub no_agreement : CanAgree Ψ D m xs N → ⊥
    pub renewed : (k : ℕ) (A : LfType) → IsReached Ψ bs N k → Unbound bs k → Ψ k ≡ Some A → MetavariablesInType (Unbound bs) A

-- M is no metavariable on a pattern, or no step is possible for it
abbrev pub IsStuck : (ℕ → Option LfType) → List Binding → List LfType → Term → Term → Type 0
IsStuck Ψ bs D M N = (m : ℕ) (xs : List ℕ) → IsPattern D (skeletons_of Ψ m) xs → M ≡ root (metavariable m) (pattern (skeletons_of Ψ m) xs) → NoStep Ψ bs D m xs N

-- the term is a lambda
abbrev pub IsLambda : Term → Type 0
IsLambda (lambda M) = Unit {0}
IsLambda (root h S) = ⊥

-- the head is a metavariable
abbrev pub IsFlexible : Term → Type 0
IsFlexible (lambda M) = ⊥
IsFlexible (root (constant c) S) = ⊥
IsFlexible (root (variable i) S) = ⊥
IsFlexible (root (metavariable m) S) = Unit {0}

-- The equation is outside the pattern fragment: its sides differ, neither is a lambda, one has a metavariable as its head, and no side is a
-- metavariable on a pattern for which a step is possible.
pub record Outside (Ψ : ℕ → Option LfType) (bs : List Binding) (e : Equation) : Type 0 where
  pub differ : e.left ≡ e.right → ⊥
  pub left_root : IsLambda e.left → ⊥
  pub right_root : IsLambda e.right → ⊥
  pub flexible : IsFlexible e.left ⊎ IsFlexible e.right
  pub stuck_left : IsStuck Ψ bs e.local e.left e.right
  pub stuck_right : IsStuck Ψ bs e.local e.right e.left
