-- Terms of families of a set that has with each family those below it: their metavariables are of such families.
use Rattle.std.proofs.Common.{◌≡◌, ℕ, zero, suc, List, [], ◌∷◌, refl, sym, ap, ◌∙◌, subst}
use Rattle.std.specs.Prelude.{Bool, true, Option, Some, None}
use Rattle.lf.specs.SkeletonTyping.{SkeletonAt}
use Rattle.lf.specs.Skeletons.{family_skeleton, type_skeleton}
use Rattle.lf.specs.Syntax.{constant, variable, metavariable, Term, Spine, lambda, root, nil, app, LfType, pi, atom, Kind, kind_pi, star, Skeleton, base, arrow, skeleton, kind_skeleton}
use Rattle.lf.specs.Typing.{Signature}
use Rattle.lf.specs.Variables.{FamiliesIn, KindFamiliesIn, target}
use Rattle.lf_unification.specs.OpenTyping.{MetavariablesIn, MetavariablesInSpine, MetavariablesInType}
use Rattle.lf_unification.specs.Patterns.{skeleton_target}
use Rattle.lf_unification.proofs.BindTyped.{in_pattern}
use Rattle.lf_coverage.specs.PatternRuns.{HaveNoIndices}
use Rattle.lf_coverage.specs.PatternStores.{ArePatternArguments, IsPatternTerm, IsPatternType}
use Rattle.lf_coverage.specs.Subordinate.{QuantifiersAreBelow}
use Rattle.lf_coverage.proofs.IndicesPruned.{PlainType}
use Rattle.lf_coverage.proofs.PatternHeadTerm.{target_is}

module _ (L : ℕ → Bool) where
  -- Where the target is of L so is that of each argument, anywhere in the skeleton.
  abbrev pub Layered : Skeleton → Type 0
  Layered (base c) = Unit {0}
  Layered (arrow a b) = Layered a × Layered b × (L (skeleton_target b) ≡ true → L (skeleton_target a) ≡ true)

  abbrev pub Low : Skeleton → Type 0
  Low t = Layered t × (L (skeleton_target t) ≡ true)

  abbrev pub AllLayered : List Skeleton → Type 0
  AllLayered [] = Unit {0}
  AllLayered (a ∷ Γ) = Layered a × AllLayered Γ

  pub layered_at : (Γ : List Skeleton) → AllLayered Γ → (i : ℕ) (t : Skeleton) → SkeletonAt Γ i t → Layered t
  layered_at [] h i t g = absurd g
  layered_at (a ∷ Γ) (l, h) zero t e = subst Layered e l
  layered_at (a ∷ Γ) (l, h) (suc i) t g = layered_at Γ h i t g

  pub low_domain : (a b : Skeleton) → Low (arrow a b) → Low a
  low_domain a b ((x, y, f), e) = (x, f e)

  pub low_rest : (a b : Skeleton) → Low (arrow a b) → Low b
  low_rest a b ((x, y, f), e) = (y, e)

  pub families_low : (A : LfType) → FamiliesIn L A → Low (skeleton A)
  families_low (pi A B) (f, g) = let (x, e) = families_low A f in let (y, d) = families_low B g in ((x, y, λ z. e), d)
  families_low (atom a I) f = (tt, f)

  pub below_layered : (below : ℕ → ℕ → Bool) → ((f b : ℕ) → L f ≡ true → below f b ≡ true → L b ≡ true) → (A : LfType) → QuantifiersAreBelow below A → Layered (skeleton A)
  below_layered below down (pi A B) (q, a, b) = (below_layered below down A a, below_layered below down B b, λ z. subst (λ c. L c ≡ true) (sym (target_is A)) (down (target B) (target A) (subst (λ c. L c ≡ true) (target_is B) z) q))
  below_layered below down (atom a I) q = tt

module _ (Σ : Signature) (Ψ : ℕ → Option LfType) (L : ℕ → Bool) (constants : (c : ℕ) (U : LfType) → Σ.types c ≡ Some U → Layered L (skeleton U)) where
  -- a metavariable of a family of L
  abbrev pub LowMeta : ℕ → Type 0
  LowMeta k = (B : LfType) × (Ψ k ≡ Some B) × (L (target B) ≡ true)

  pub spine_target : (Γ : List Skeleton) (S : Spine) (t : Skeleton) (c : ℕ) → ArePatternArguments Σ Ψ Γ S t (base c) → skeleton_target t ≡ c
  spine_target Γ nil t c e = ap skeleton_target e
  spine_target Γ (app M S) (arrow a b) c (p, s) = spine_target Γ S b c s
  spine_target Γ (app M S) (base d) c p = absurd p

  pub constant_layered : (k : ℕ) (t : Skeleton) → type_skeleton (Σ.types k) ≡ Some t → Layered L t
  constant_layered k t e = by (Σ.types k) refl e
    where
      by : (y : Option LfType) → Σ.types k ≡ y → type_skeleton y ≡ Some t → Layered L t
      by None q e = absurd cc
      by (Some U) q e = subst (Layered L) (one e) (constants k U q)
        where
          one : Some (skeleton U) ≡ Some t → skeleton U ≡ t
          one e = cc

  mutual
    pub low_term : (Γ : List Skeleton) → AllLayered L Γ → (M : Term) (t : Skeleton) → Low L t → IsPatternTerm Σ Ψ Γ M t → MetavariablesIn LowMeta M
    low_term Γ g (lambda M) (arrow a b) l p = low_term (a ∷ Γ) ((low_domain L a b l).0, g) M b (low_rest L a b l) p
    low_term Γ g (lambda M) (base c) l p = absurd p
    low_term Γ g (root h S) (arrow a b) l p = absurd p
    low_term Γ g (root (constant k) S) (base c) (x, l) (t, e, s) = low_spine Γ g S t (base c) (constant_layered k t e, subst (λ d. L d ≡ true) (sym (spine_target Γ S t c s)) l) s
    low_term Γ g (root (variable i) S) (base c) (x, l) (t, e, s) = low_spine Γ g S t (base c) (layered_at L Γ g i t e, subst (λ d. L d ≡ true) (sym (spine_target Γ S t c s)) l) s
    low_term Γ g (root (metavariable m) S) (base c) (x, l) (A, e, q, d) = ((A, e, subst (λ z. L z ≡ true) (sym q ∙ target_is A) l), subst (MetavariablesInSpine LowMeta) (sym d.same) (in_pattern LowMeta (skeleton A) d.variables))

    pub low_spine : (Γ : List Skeleton) → AllLayered L Γ → (S : Spine) (t u : Skeleton) → Low L t → ArePatternArguments Σ Ψ Γ S t u → MetavariablesInSpine LowMeta S
    low_spine Γ g nil t u l p = tt
    low_spine Γ g (app M S) (arrow a b) u l (p, s) = (low_term Γ g M a (low_domain L a b l) p, low_spine Γ g S b u (low_rest L a b l) s)
    low_spine Γ g (app M S) (base c) u l p = absurd p

  kind_spine : (Γ : List Skeleton) → AllLayered L Γ → (K : Kind) (a : ℕ) (I : Spine) → KindFamiliesIn L K → ArePatternArguments Σ Ψ Γ I (kind_skeleton a K) (base a) → MetavariablesInSpine LowMeta I
  kind_spine Γ g K a nil k p = tt
  kind_spine Γ g star a (app M I) k p = absurd p
  kind_spine Γ g (kind_pi A K) a (app M I) (f, k) (p, s) = (low_term Γ g M (skeleton A) (families_low L A f) p, kind_spine Γ g K a I k s)

  module _ (below : ℕ → ℕ → Bool) (down : (f b : ℕ) → L f ≡ true → below f b ≡ true → L b ≡ true) where
    -- The types of families of T, which are indexed by families of L, mention metavariables of such alone.
    pub types_low : (T : ℕ → Bool) → ((a : ℕ) (K : Kind) → T a ≡ true → Σ.kinds a ≡ Some K → KindFamiliesIn L K) → (Γ : List Skeleton) → AllLayered L Γ → (A : LfType) → QuantifiersAreBelow below A → FamiliesIn T A → IsPatternType Σ Ψ Γ A → MetavariablesInType LowMeta A
    types_low T indices Γ g (pi A B) (q, a, b) (f, h) (p, r) = (types_low T indices Γ g A a f p, types_low T indices (skeleton A ∷ Γ) (below_layered L below down A a, g) B b h r)
    types_low T indices Γ g (atom a I) q f (t, e, s) = by (Σ.kinds a) refl e
      where
        by : (y : Option Kind) → Σ.kinds a ≡ y → family_skeleton a y ≡ Some t → MetavariablesInSpine LowMeta I
        by None q e = absurd cc
        by (Some K) q e = kind_spine Γ g K a I (indices a K f q) (subst (λ u. ArePatternArguments Σ Ψ Γ I u (base a)) (sym (one e)) s)
          where
            one : Some (kind_skeleton a K) ≡ Some t → kind_skeleton a K ≡ t
            one e = cc

    -- A type of a family of L has no indices.
    pub plain_low : HaveNoIndices Σ L → (Γ : List Skeleton) (A : LfType) → QuantifiersAreBelow below A → L (target A) ≡ true → IsPatternType Σ Ψ Γ A → PlainType A
    plain_low none Γ (pi A B) (q, a, b) l (p, r) = (plain_low none Γ A a (down (target B) (target A) l q) p, plain_low none (skeleton A ∷ Γ) B b l r)
    plain_low none Γ (atom a I) q l (t, e, s) = by I (subst (λ u. ArePatternArguments Σ Ψ Γ I u (base a)) (one (sym e ∙ ap (family_skeleton a) (none a l))) s)
      where
        one : Some t ≡ Some (base a) → t ≡ base a
        one e = cc

        by : (I : Spine) → ArePatternArguments Σ Ψ Γ I (base a) (base a) → I ≡ nil
        by nil p = refl
        by (app M I) p = absurd p
