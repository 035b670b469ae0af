-- What `unused` asks of a pruning, from an equation of the store: a metavariable that must lose arguments, and one on two patterns.
use Rattle.std.proofs.Common.{◌≡◌, ℕ, zero, suc, List, [], ◌∷◌, Option, Some, inl, inr, sym, ap, ◌∙◌, subst}
use Rattle.lf.specs.SkeletonTyping.{SkeletonAt, TermSkeleton}
use Rattle.lf.specs.Skeletons.{context_skeletons}
use Rattle.lf.specs.Syntax.{Skeleton, Spine, Term, LfType, constant, metavariable, root, skeleton, variable}
use Rattle.lf.specs.Typing.{IsSignature, Signature}
use Rattle.lf_unification.specs.Filling.{fill, fill_type, moved}
use Rattle.lf_unification.specs.OpenTyping.{skeletons_of}
use Rattle.lf_unification.specs.Inversion.{Allowed, IsUnderBinders}
use Rattle.lf_unification.specs.Patterns.{beyond, local_skeletons}
use Rattle.lf_unification.specs.Patterns.{InImage, FreeVariablesIn, PatternFits, lambdas_of, pattern, pattern_renaming}
use Rattle.lf_unification.specs.Rigid.{LiftedSetBy, Rigid, RigidInSpine, past_binders}
use Rattle.lf_unification.specs.Skeletons.{TotalSkeletons, as_head_skeletons, total_skeletons, skeleton_or_default}
use Rattle.lf.specs.Subordination.{Member}
use Rattle.lf_unification.specs.Unifiers.{Equation, Solution, Solves, SolvesAll, Store}
use Rattle.lf_unification.proofs.Exhaust.{past_binders_zero}
use Rattle.lf_unification.proofs.Filling.{skeleton_fill}
use Rattle.lf_unification.proofs.Inverse.{FreeVariablesIn-weaker}
use Rattle.lf_unification.proofs.Prune.{must_lose, never_solved, occurs_constant, occurs_variable}
use Rattle.lf_unification.proofs.Shrink.{must_agree}
use Rattle.lf_unification.proofs.StepLemmas.{beyond_skeletons, under_moved, value_of}
use Rattle.lf_unification.proofs.ToSkeletons.{typed_has_skeleton}

pub solves_among : (μ : ℕ → Skeleton) (β : ℕ → Option Term) (e : Equation) (es : List Equation) → Member e es → SolvesAll μ β es → Solves μ β e
solves_among μ β e [] i s = absurd i
solves_among μ β e (x ∷ es) (inl q) (s, t) = subst (Solves μ β) (sym q) s
solves_among μ β e (x ∷ es) (inr i) (s, t) = solves_among μ β e es i t

-- into the context of an occurrence under k binders
extended_skeletons : (D E : List LfType) (k : ℕ) (Γ : List Skeleton) → IsUnderBinders D k E → (i : ℕ) (t : Skeleton) → SkeletonAt (local_skeletons D Γ) i t → SkeletonAt (local_skeletons E Γ) (past_binders k i) t
extended_skeletons D E zero Γ x i t g = subst (λ X. SkeletonAt (local_skeletons X Γ) i t) (sym x) g
extended_skeletons D [] (suc k) Γ x i t g = absurd x
extended_skeletons D (A ∷ E) (suc k) Γ x i t g = subst (λ j. SkeletonAt (skeleton A ∷ local_skeletons E Γ) j t) (sym (past_binders_zero k i)) (extended_skeletons D E k Γ x i t g)

module _ (Σ : Signature) (ok : IsSignature Σ) (G : List LfType) (s : Store) (F : List LfType) (β : ℕ → Option Term) (u : Solution Σ G s F β) where
  abbrev μ : ℕ → Skeleton
  μ = skeletons_of s.metavariables

  abbrev κ : TotalSkeletons
  κ = total_skeletons Σ μ

  abbrev Γ : List Skeleton
  Γ = context_skeletons F

  -- the value of a declared metavariable, by skeletons
  skeletons_value : (m : ℕ) (A : LfType) → s.metavariables m ≡ Some A → (V : Term) × (β m ≡ Some V) × TermSkeleton (as_head_skeletons κ) Γ V (μ m)
  skeletons_value m A d =
      let (V, e, v) = value_of Σ G s.metavariables F β u.0 m A d in
      (V, e, subst (TermSkeleton (as_head_skeletons κ) Γ V) (skeleton_fill μ β A ∙ sym (ap skeleton_or_default d)) (typed_has_skeleton Σ μ F V (fill_type μ β A) v))

  module _ (D : List LfType) (m : ℕ) (A : LfType) (declared : s.metavariables m ≡ Some A) (xs : List ℕ) (places : (Γ : List Skeleton) → PatternFits (local_skeletons D Γ) (skeletons_of s.metavariables m) xs) (R : Term) (C : LfType) (among : Member (record { local = D; left = root (metavariable m) (pattern (skeletons_of s.metavariables m) xs); right = R; of_type = C }) s.equations) where
    solved : fill μ (moved (beyond D) β) (root (metavariable m) (pattern (μ m) xs)) ≡ fill μ (moved (beyond D) β) R
    solved = subst (λ b. fill μ b (root (metavariable m) (pattern (μ m) xs)) ≡ fill μ b R) (under_moved D β) (solves_among μ β (record { local = D; left = root (metavariable m) (pattern (μ m) xs); right = R; of_type = C }) s.equations among u.1.1)

    -- n stands in R under k binders on the pattern ys, in no argument of a metavariable
    pub unused_lose : (k : ℕ) (E : List LfType) → IsUnderBinders D k E → (n : ℕ) (B' : LfType) → s.metavariables n ≡ Some B' → (ys : List ℕ) → ((Γ : List Skeleton) → PatternFits (local_skeletons E Γ) (skeletons_of s.metavariables n) ys) → Rigid (root (metavariable n) (pattern (skeletons_of s.metavariables n) ys)) k R → (P : ℕ → Type 0) → ((i : ℕ) → Allowed D (skeletons_of s.metavariables m) xs k (pattern_renaming (skeletons_of s.metavariables n) ys (λ j. past_binders k (beyond D j)) i) → P i) →
        (B : Term) → β n ≡ Some (lambdas_of (skeletons_of s.metavariables n) B) → FreeVariablesIn P B
    unused_lose k E x n B' d ys places' o P h B e =
        let (V, f, v) = skeletons_value m A declared in
        let (W, g, w) = skeletons_value n B' d in
        let q : W ≡ lambdas_of (μ n) B = (let z : Some W ≡ Some (lambdas_of (μ n) B) = sym g ∙ e in cc) in
        FreeVariablesIn-weaker (λ i. LiftedSetBy k (InImage (pattern_renaming (μ m) xs (beyond D))) (pattern_renaming (μ n) ys (λ j. past_binders k (beyond D j)) i)) P h B
        (must_lose κ Γ (local_skeletons D Γ) (beyond D) (beyond_skeletons D Γ) m xs (places Γ) β V f v k (local_skeletons E Γ) (λ i t y. extended_skeletons D E k Γ x (beyond D i) t (beyond_skeletons D Γ i t y)) n ys (places' Γ) W g w R B q o solved)

    -- R is m itself on the pattern ys
    pub unused_agree : (ys : List ℕ) → ((Γ : List Skeleton) → PatternFits (local_skeletons D Γ) (skeletons_of s.metavariables m) ys) → R ≡ root (metavariable m) (pattern (skeletons_of s.metavariables m) ys) →
        (P : ℕ → Type 0) → ((i : ℕ) → pattern_renaming (skeletons_of s.metavariables m) xs (beyond D) i ≡ pattern_renaming (skeletons_of s.metavariables m) ys (beyond D) i → P i) →
        (B : Term) → β m ≡ Some (lambdas_of (skeletons_of s.metavariables m) B) → FreeVariablesIn P B
    unused_agree ys places' r P h B e =
        let (V, f, v) = skeletons_value m A declared in
        let q : V ≡ lambdas_of (μ m) B = (let z : Some V ≡ Some (lambdas_of (μ m) B) = sym f ∙ e in cc) in
        FreeVariablesIn-weaker (λ i. pattern_renaming (μ m) xs (beyond D) i ≡ pattern_renaming (μ m) ys (beyond D) i) P h B
        (must_agree κ Γ (local_skeletons D Γ) (beyond D) (beyond_skeletons D Γ) m xs ys (places Γ) (places' Γ) β V B f v q (subst (λ X. fill μ (moved (beyond D) β) (root (metavariable m) (pattern (μ m) xs)) ≡ fill μ (moved (beyond D) β) X) r solved))

    -- R has a variable that is not allowed, in no argument of a metavariable: no unifier
    pub no_solution : (k i : ℕ) (S : Spine) → Rigid (root (variable i) S) k R → (Allowed D (skeletons_of s.metavariables m) xs k i → ⊥) → ⊥
    no_solution k i S o n =
        let (V, f, v) = skeletons_value m A declared in
        never_solved κ Γ (local_skeletons D Γ) (beyond D) (beyond_skeletons D Γ) m xs (places Γ) β V f v k i S R o n solved

    -- R is headed by a constant or a variable, and has m on a pattern in no argument of a metavariable: no unifier
    pub occurs_in_constant : (k : ℕ) (E : List LfType) → IsUnderBinders D k E → (ys : List ℕ) → ((Γ : List Skeleton) → PatternFits (local_skeletons E Γ) (skeletons_of s.metavariables m) ys) → (c : ℕ) (S : Spine) → R ≡ root (constant c) S → RigidInSpine (root (metavariable m) (pattern (skeletons_of s.metavariables m) ys)) k S → ⊥
    occurs_in_constant k E x ys places' c S r o =
        let (V, f, v) = skeletons_value m A declared in
        occurs_constant κ Γ (local_skeletons D Γ) (beyond D) (beyond_skeletons D Γ) m xs (places Γ) β V f v k (local_skeletons E Γ) (λ i t y. extended_skeletons D E k Γ x (beyond D i) t (beyond_skeletons D Γ i t y)) ys (places' Γ) c S o (solved ∙ ap (fill μ (moved (beyond D) β)) r)

    pub occurs_in_variable : (k : ℕ) (E : List LfType) → IsUnderBinders D k E → (ys : List ℕ) → ((Γ : List Skeleton) → PatternFits (local_skeletons E Γ) (skeletons_of s.metavariables m) ys) → (c : ℕ) (S : Spine) → R ≡ root (variable c) S → RigidInSpine (root (metavariable m) (pattern (skeletons_of s.metavariables m) ys)) k S → ⊥
    occurs_in_variable k E x ys places' c S r o =
        let (V, f, v) = skeletons_value m A declared in
        occurs_variable κ Γ (local_skeletons D Γ) (beyond D) (beyond_skeletons D Γ) m xs (places Γ) β V f v k (local_skeletons E Γ) (λ i t y. extended_skeletons D E k Γ x (beyond D i) t (beyond_skeletons D Γ i t y)) ys (places' Γ) c S o (solved ∙ ap (fill μ (moved (beyond D) β)) r)

-- in the form that a pruning asks for, at the type of n
pub unused_for : (Σ : Signature) (G : List LfType) (s : Store) (n : ℕ) (X : LfType) (P : ℕ → Type 0) → s.metavariables n ≡ Some X →
    ((F : List LfType) (β : ℕ → Option Term) → Solution Σ G s F β → (B : Term) → β n ≡ Some (lambdas_of (skeletons_of s.metavariables n) B) → FreeVariablesIn P B) →
    (F : List LfType) (β : ℕ → Option Term) → Solution Σ G s F β → (B : Term) → β n ≡ Some (lambdas_of (skeleton X) B) → FreeVariablesIn P B
unused_for Σ G s n X P d h F β u B = subst (λ t. β n ≡ Some (lambdas_of t B) → FreeVariablesIn P B) (ap skeleton_or_default d) (h F β u B)
