-- What inversion answers for a metavariable on a pattern and the other side of its equation. All terms have the bindings put in.
use Rattle.std.specs.Prelude.{◌≡◌, ℕ, zero, suc, ◌<◌, List, [], ◌∷◌, Option}
use Rattle.lf.specs.Syntax.{Skeleton, Spine, Term, LfType, metavariable, rename, root, variable}
use Rattle.lf_unification.specs.OpenTyping.{skeletons_of}
use Rattle.lf_unification.specs.Patterns.{FreeVariablesInSpine, InImage, Injective, PatternFits, beyond, local_skeletons, pattern, pattern_renaming}
use Rattle.lf_unification.specs.Rigid.{LiftedSetBy, Rigid}

-- xs are distinct variables of D, up to eta, one for each argument of the skeleton.
-- (The map is injective, so none of them is a variable outside D.)
pub record IsPattern (D : List LfType) (t : Skeleton) (xs : List ℕ) : Type 0 where
  pub places : (Γ : List Skeleton) → PatternFits (local_skeletons D Γ) t xs
  pub distinct : Injective (pattern_renaming t xs (beyond D))

-- a variable, under k more binders, that the pattern has, or that stands outside D, or was bound on the way
abbrev pub Allowed : List LfType → Skeleton → List ℕ → ℕ → ℕ → Type 0
Allowed D t xs k = LiftedSetBy k (InImage (pattern_renaming t xs (beyond D)))

-- x stands at place j
abbrev pub ElementAt : {A : Type 0} → List A → ℕ → A → Type 0
ElementAt [] j x = ⊥
ElementAt (y ∷ ys) zero x = y ≡ x
ElementAt (y ∷ ys) (suc j) x = ElementAt ys j x

-- the k innermost binders have these types, and D stands outside them
abbrev pub IsUnderBinders : List LfType → ℕ → List LfType → Type 0
IsUnderBinders D zero E = E ≡ D
IsUnderBinders D (suc k) [] = ⊥
IsUnderBinders D (suc k) (A ∷ E) = IsUnderBinders D k E

module _ (Ψ : ℕ → Option LfType) (D : List LfType) (t : Skeleton) (xs : List ℕ) where
  -- N is the inversion B, applied to the pattern
  pub record Inverted (N : Term) : Type 0 where
    pub inversion : Term
    pub is : rename (pattern_renaming t xs (beyond D)) inversion ≡ N

  -- a variable that is not allowed stands in no argument of a metavariable
  pub record NeverInverted (N : Term) : Type 0 where
    pub depth : ℕ
    pub bad : ℕ
    pub spine : Spine
    pub at : Rigid (root (variable bad) spine) depth N
    pub is_bad : Allowed D t xs depth bad → ⊥

  -- metavariable m stands on a pattern, in no argument of a metavariable, and its argument at `place` is not allowed; each later one is
  pub record MustDrop (N : Term) : Type 0 where
    pub m : ℕ
    pub depth : ℕ
    pub context : List LfType
    pub context_is : IsUnderBinders D depth context
    pub ys : List ℕ
    pub is_pattern : IsPattern context (skeletons_of Ψ m) ys
    pub at : Rigid (root (metavariable m) (pattern (skeletons_of Ψ m) ys)) depth N
    pub place : ℕ
    pub bad : ℕ
    pub nth : ElementAt ys place bad
    pub is_bad : Allowed D t xs depth bad → ⊥
    pub last : (j y : ℕ) → place < j → ElementAt ys j y → Allowed D t xs depth y

-- What inversion finds: N is inverted; or it can never be; or a metavariable stands in no argument of another, over a spine with a variable
-- that is not allowed. In this case it may be pruned where it stands on a pattern.
pub data Inversion (Ψ : ℕ → Option LfType) (D : List LfType) (t : Skeleton) (xs : List ℕ) (N : Term) : Type 0 where
  is_inverted : Inverted Ψ D t xs N → Inversion Ψ D t xs N
  is_never : NeverInverted Ψ D t xs N → Inversion Ψ D t xs N
  is_flexible : (depth n : ℕ) (S : Spine) → Rigid (root (metavariable n) S) depth N → (FreeVariablesInSpine (Allowed D t xs depth) S → ⊥) → Inversion Ψ D t xs N

module _ (Ψ : ℕ → Option LfType) (D : List LfType) (m : ℕ) (xs : List ℕ) where
  -- m itself, on a pattern
  pub record SameMetavariable (N : Term) : Type 0 where
    pub ys : List ℕ
    pub is_pattern : IsPattern D (skeletons_of Ψ m) ys
    pub is : N ≡ root (metavariable m) (pattern (skeletons_of Ψ m) ys)

  -- m inside, on a pattern, in no argument of a metavariable
  pub record OccursRigid (N : Term) : Type 0 where
    pub depth : ℕ
    pub context : List LfType
    pub context_is : IsUnderBinders D depth context
    pub ys : List ℕ
    pub is_pattern : IsPattern context (skeletons_of Ψ m) ys
    pub at : Rigid (root (metavariable m) (pattern (skeletons_of Ψ m) ys)) depth N
    pub inside : N ≡ root (metavariable m) (pattern (skeletons_of Ψ m) ys) → ⊥
