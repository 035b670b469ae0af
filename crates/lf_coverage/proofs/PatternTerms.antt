-- Patterns under renaming, and back: what stands on distinct bound variables still does.
use Rattle.std.proofs.Common.{◌≡◌, ℕ, zero, suc, List, [], ◌∷◌, length, refl, sym, ap, ap₂, ◌∙◌, subst}
use Rattle.std.specs.Prelude.{Option, Some}
use Rattle.lf.specs.Syntax.{constant, variable, metavariable, Term, Spine, lambda, root, nil, app, LfType, pi, atom, Skeleton, base, arrow, skeleton, lift_renaming, rename, rename_spine, rename_type}
use Rattle.lf.specs.SkeletonTyping.{TermSkeleton, SpineSkeleton, RenamingBySkeletons}
use Rattle.lf.specs.Eta.{eta_expand}
use Rattle.lf.specs.Typing.{Signature}
use Rattle.lf.proofs.AtOnce.{eta_long_has_skeleton}
use Rattle.lf.proofs.Eta.{rename_eta_expand}
use Rattle.lf.proofs.TypeLaws.{skeleton_renamed}
use Rattle.lf_unification.specs.OpenTyping.{skeletons_of}
use Rattle.lf_unification.specs.Patterns.{FreeVariablesIn, InImage, Injective, LiftedSet, PatternFits, eta_variable, extend_renaming, pattern, pattern_renaming, skeleton_target}
use Rattle.lf_unification.specs.Skeletons.{as_head_skeletons, skeleton_or_default, total_skeletons}
use Rattle.lf_unification.proofs.Inverse.{only_rename, rename_injective, up_injective}
use Rattle.lf_unification.proofs.Prune.{SkeletonsBack, SkeletonsBack-lift_renaming}
use Rattle.lf_coverage.specs.TermMatching.{over}
use Rattle.lf_coverage.specs.PatternStores.{AreDistinct, ArePatternArguments, IsPatternTerm, IsPatternType}

-- the variables renamed
abbrev pub renamed_all : (ℕ → ℕ) → List ℕ → List ℕ
renamed_all ρ [] = []
renamed_all ρ (x ∷ xs) = ρ x ∷ renamed_all ρ xs

pub pattern_renamed : (ρ : ℕ → ℕ) (t : Skeleton) (xs : List ℕ) → rename_spine ρ (pattern t xs) ≡ pattern t (renamed_all ρ xs)
pattern_renamed ρ (base c) xs = refl
pattern_renamed ρ (arrow a b) [] = refl
pattern_renamed ρ (arrow a b) (x ∷ xs) = ap₂ app (rename_eta_expand ρ a (variable x) nil) (pattern_renamed ρ b xs)

pub fits_renamed : (Γ Δ : List Skeleton) (ρ : ℕ → ℕ) (t : Skeleton) (xs : List ℕ) → RenamingBySkeletons Γ Δ ρ → PatternFits Γ t xs → PatternFits Δ t (renamed_all ρ xs)
fits_renamed Γ Δ ρ (base c) [] g p = tt
fits_renamed Γ Δ ρ (base c) (x ∷ xs) g p = absurd p
fits_renamed Γ Δ ρ (arrow a b) [] g p = absurd p
fits_renamed Γ Δ ρ (arrow a b) (x ∷ xs) g (e, p) = (g x a e, fits_renamed Γ Δ ρ b xs g p)

fits_back : (Γ Δ : List Skeleton) (ρ : ℕ → ℕ) (t : Skeleton) (xs : List ℕ) → SkeletonsBack Γ Δ ρ → PatternFits Δ t (renamed_all ρ xs) → PatternFits Γ t xs
fits_back Γ Δ ρ (base c) [] g p = tt
fits_back Γ Δ ρ (base c) (x ∷ xs) g p = absurd p
fits_back Γ Δ ρ (arrow a b) [] g p = absurd p
fits_back Γ Δ ρ (arrow a b) (x ∷ xs) g (e, p) = (g x a e, fits_back Γ Δ ρ b xs g p)

extended : (ρ : ℕ → ℕ) (x : ℕ) (τ υ : ℕ → ℕ) → ((i : ℕ) → υ i ≡ ρ (τ i)) → (i : ℕ) → extend_renaming (ρ x) υ i ≡ ρ (extend_renaming x τ i)
extended ρ x τ υ h zero = refl
extended ρ x τ υ h (suc i) = h i

pub renaming_renamed : (ρ : ℕ → ℕ) (t : Skeleton) (xs : List ℕ) (τ υ : ℕ → ℕ) → ((i : ℕ) → υ i ≡ ρ (τ i)) → (i : ℕ) → pattern_renaming t (renamed_all ρ xs) υ i ≡ ρ (pattern_renaming t xs τ i)
renaming_renamed ρ (base c) xs τ υ h i = h i
renaming_renamed ρ (arrow a b) [] τ υ h i = h i
renaming_renamed ρ (arrow a b) (x ∷ xs) τ υ h i = renaming_renamed ρ b xs (extend_renaming x τ) (extend_renaming (ρ x) υ) (extended ρ x τ υ h) i

-- A renaming that takes the variables of Γ to different ones of Δ, and what stands outside to what stands outside.
pub record Moves (Γ Δ : List Skeleton) (ρ : ℕ → ℕ) : Type 0 where
  pub distinct : Injective ρ
  pub outer : (i : ℕ) → over (length Δ) i ≡ ρ (over (length Γ) i)

pub moves_under : (Γ Δ : List Skeleton) (ρ : ℕ → ℕ) (a : Skeleton) → Moves Γ Δ ρ → Moves (a ∷ Γ) (a ∷ Δ) (lift_renaming ρ)
moves_under Γ Δ ρ a m = record { distinct = up_injective ρ m.distinct; outer = λ i. ap suc (m.outer i) }

skeletons_under : (Γ Δ : List Skeleton) (ρ : ℕ → ℕ) (a : Skeleton) → RenamingBySkeletons Γ Δ ρ → RenamingBySkeletons (a ∷ Γ) (a ∷ Δ) (lift_renaming ρ)
skeletons_under Γ Δ ρ a g zero t h = h
skeletons_under Γ Δ ρ a g (suc i) t h = g i t h

distinct_renamed : (Γ Δ : List Skeleton) (ρ : ℕ → ℕ) (t : Skeleton) (S : Spine) → Moves Γ Δ ρ → RenamingBySkeletons Γ Δ ρ → AreDistinct Γ t S → AreDistinct Δ t (rename_spine ρ S)
distinct_renamed Γ Δ ρ t S m g d = record {
  variables = renamed_all ρ d.variables;
  same = ap (rename_spine ρ) d.same ∙ pattern_renamed ρ t d.variables;
  places = fits_renamed Γ Δ ρ t d.variables g d.places;
  distinct = λ i j e. d.distinct i j (m.distinct _ _ (sym (renaming_renamed ρ t d.variables (over (length Γ)) (over (length Δ)) m.outer i) ∙ e ∙ renaming_renamed ρ t d.variables (over (length Γ)) (over (length Δ)) m.outer j));
}

-- an eta-long variable that comes by renaming comes from one
pub head_in : (P : ℕ → Type 0) (a : Skeleton) (x : ℕ) (S : Spine) → FreeVariablesIn P (eta_expand a (variable x) S) → P x
head_in P (base c) x S o = o.0
head_in P (arrow a b) x S o = head_in (LiftedSet P) b (suc x) _ o

pub variable_back : (ρ : ℕ → ℕ) → Injective ρ → (a : Skeleton) (x : ℕ) (M : Term) → rename ρ M ≡ eta_variable a x → (y : ℕ) × (ρ y ≡ x) × (M ≡ eta_variable a y)
variable_back ρ inj a x M e =
    let (y, q) = head_in (InImage ρ) a x nil (subst (FreeVariablesIn (InImage ρ)) e (only_rename ρ M)) in
    (y, q, rename_injective ρ inj M (eta_variable a y) (e ∙ ap (eta_variable a) (sym q) ∙ sym (rename_eta_expand ρ a (variable y) nil)))

pattern_back : (ρ : ℕ → ℕ) → Injective ρ → (Δ : List Skeleton) (t : Skeleton) (xs : List ℕ) (S : Spine) → PatternFits Δ t xs → rename_spine ρ S ≡ pattern t xs → (ys : List ℕ) × (xs ≡ renamed_all ρ ys) × (S ≡ pattern t ys)
pattern_back ρ inj Δ (base c) [] nil p e = ([], refl, refl)
pattern_back ρ inj Δ (base c) [] (app M S) p e = absurd cc
pattern_back ρ inj Δ (base c) (x ∷ xs) S p e = absurd p
pattern_back ρ inj Δ (arrow a b) [] S p e = absurd p
pattern_back ρ inj Δ (arrow a b) (x ∷ xs) nil p e = absurd cc
pattern_back ρ inj Δ (arrow a b) (x ∷ xs) (app M S) (h, p) e =
    let (y, q, r) = variable_back ρ inj a x M (first e) in
    let (ys, u, v) = pattern_back ρ inj Δ b xs S p (rest e) in
    (y ∷ ys, ap₂ (λ z zs. z ∷ zs) (sym q) u, ap₂ app r v)
  where
    first : {X Y : Term} {A B : Spine} → app X A ≡ app Y B → X ≡ Y
    first e = cc

    rest : {X Y : Term} {A B : Spine} → app X A ≡ app Y B → A ≡ B
    rest e = cc

distinct_back : (Γ Δ : List Skeleton) (ρ : ℕ → ℕ) (t : Skeleton) (S : Spine) → Moves Γ Δ ρ → SkeletonsBack Γ Δ ρ → AreDistinct Δ t (rename_spine ρ S) → AreDistinct Γ t S
distinct_back Γ Δ ρ t S m g d =
    let (ys, u, v) = pattern_back ρ m.distinct Δ t d.variables S d.places d.same in
    record {
      variables = ys;
      same = v;
      places = fits_back Γ Δ ρ t ys g (subst (PatternFits Δ t) u d.places);
      distinct = λ i j e. subst (λ zs. Injective (pattern_renaming t zs (over (length Δ)))) u d.distinct i j (renaming_renamed ρ t ys (over (length Γ)) (over (length Δ)) m.outer i ∙ ap ρ e ∙ sym (renaming_renamed ρ t ys (over (length Γ)) (over (length Δ)) m.outer j));
    }

-- variables that fit are arguments of the skeleton
pub distinct_fit : (Σ : Signature) (μ : ℕ → Skeleton) (Γ : List Skeleton) (t : Skeleton) (xs : List ℕ) → PatternFits Γ t xs → SpineSkeleton (as_head_skeletons (total_skeletons Σ μ)) Γ (pattern t xs) t (base (skeleton_target t))
distinct_fit Σ μ Γ (base c) [] p = refl
distinct_fit Σ μ Γ (base c) (x ∷ xs) p = absurd p
distinct_fit Σ μ Γ (arrow a b) [] p = absurd p
distinct_fit Σ μ Γ (arrow a b) (x ∷ xs) (e, p) = (eta_long_has_skeleton (as_head_skeletons (total_skeletons Σ μ)) Γ a (variable x) e, distinct_fit Σ μ Γ b xs p)

module _ (Σ : Signature) (Ψ : ℕ → Option LfType) where
  mutual
    pub term_renamed : (Γ Δ : List Skeleton) (ρ : ℕ → ℕ) (M : Term) (t : Skeleton) → Moves Γ Δ ρ → RenamingBySkeletons Γ Δ ρ → IsPatternTerm Σ Ψ Γ M t → IsPatternTerm Σ Ψ Δ (rename ρ M) t
    term_renamed Γ Δ ρ (lambda M) (arrow a b) m g p = term_renamed (a ∷ Γ) (a ∷ Δ) (lift_renaming ρ) M b (moves_under Γ Δ ρ a m) (skeletons_under Γ Δ ρ a g) p
    term_renamed Γ Δ ρ (lambda M) (base c) m g p = absurd p
    term_renamed Γ Δ ρ (root h S) (arrow a b) m g p = absurd p
    term_renamed Γ Δ ρ (root (constant k) S) (base c) m g (t, e, s) = (t, e, arguments_renamed Γ Δ ρ S t (base c) m g s)
    term_renamed Γ Δ ρ (root (variable i) S) (base c) m g (t, e, s) = (t, g i t e, arguments_renamed Γ Δ ρ S t (base c) m g s)
    term_renamed Γ Δ ρ (root (metavariable n) S) (base c) m g (A, e, q, d) = (A, e, q, distinct_renamed Γ Δ ρ (skeleton A) S m g d)

    pub arguments_renamed : (Γ Δ : List Skeleton) (ρ : ℕ → ℕ) (S : Spine) (t u : Skeleton) → Moves Γ Δ ρ → RenamingBySkeletons Γ Δ ρ → ArePatternArguments Σ Ψ Γ S t u → ArePatternArguments Σ Ψ Δ (rename_spine ρ S) t u
    arguments_renamed Γ Δ ρ nil t u m g p = p
    arguments_renamed Γ Δ ρ (app M S) (arrow a b) u m g (p, s) = (term_renamed Γ Δ ρ M a m g p, arguments_renamed Γ Δ ρ S b u m g s)
    arguments_renamed Γ Δ ρ (app M S) (base c) u m g p = absurd p

  mutual
    pub term_back : (Γ Δ : List Skeleton) (ρ : ℕ → ℕ) (M : Term) (t : Skeleton) → Moves Γ Δ ρ → SkeletonsBack Γ Δ ρ → IsPatternTerm Σ Ψ Δ (rename ρ M) t → IsPatternTerm Σ Ψ Γ M t
    term_back Γ Δ ρ (lambda M) (arrow a b) m g p = term_back (a ∷ Γ) (a ∷ Δ) (lift_renaming ρ) M b (moves_under Γ Δ ρ a m) (SkeletonsBack-lift_renaming Γ Δ ρ a g) p
    term_back Γ Δ ρ (lambda M) (base c) m g p = absurd p
    term_back Γ Δ ρ (root (constant k) S) (arrow a b) m g p = absurd p
    term_back Γ Δ ρ (root (variable i) S) (arrow a b) m g p = absurd p
    term_back Γ Δ ρ (root (metavariable n) S) (arrow a b) m g p = absurd p
    term_back Γ Δ ρ (root (constant k) S) (base c) m g (t, e, s) = (t, e, arguments_back Γ Δ ρ S t (base c) m g s)
    term_back Γ Δ ρ (root (variable i) S) (base c) m g (t, e, s) = (t, g i t e, arguments_back Γ Δ ρ S t (base c) m g s)
    term_back Γ Δ ρ (root (metavariable n) S) (base c) m g (A, e, q, d) = (A, e, q, distinct_back Γ Δ ρ (skeleton A) S m g d)

    pub arguments_back : (Γ Δ : List Skeleton) (ρ : ℕ → ℕ) (S : Spine) (t u : Skeleton) → Moves Γ Δ ρ → SkeletonsBack Γ Δ ρ → ArePatternArguments Σ Ψ Δ (rename_spine ρ S) t u → ArePatternArguments Σ Ψ Γ S t u
    arguments_back Γ Δ ρ nil t u m g p = p
    arguments_back Γ Δ ρ (app M S) (arrow a b) u m g (p, s) = (term_back Γ Δ ρ M a m g p, arguments_back Γ Δ ρ S b u m g s)
    arguments_back Γ Δ ρ (app M S) (base c) u m g p = absurd p

  pub type_renamed : (Γ Δ : List Skeleton) (ρ : ℕ → ℕ) (A : LfType) → Moves Γ Δ ρ → RenamingBySkeletons Γ Δ ρ → IsPatternType Σ Ψ Γ A → IsPatternType Σ Ψ Δ (rename_type ρ A)
  type_renamed Γ Δ ρ (pi A B) m g (a, b) = (type_renamed Γ Δ ρ A m g a, subst (λ u. IsPatternType Σ Ψ (u ∷ Δ) (rename_type (lift_renaming ρ) B)) (sym (skeleton_renamed ρ A)) (type_renamed (skeleton A ∷ Γ) (skeleton A ∷ Δ) (lift_renaming ρ) B (moves_under Γ Δ ρ (skeleton A) m) (skeletons_under Γ Δ ρ (skeleton A) g) b))
  type_renamed Γ Δ ρ (atom a S) m g (t, e, s) = (t, e, arguments_renamed Γ Δ ρ S t (base a) m g s)

  pub type_back : (Γ Δ : List Skeleton) (ρ : ℕ → ℕ) (A : LfType) → Moves Γ Δ ρ → SkeletonsBack Γ Δ ρ → IsPatternType Σ Ψ Δ (rename_type ρ A) → IsPatternType Σ Ψ Γ A
  type_back Γ Δ ρ (pi A B) m g (a, b) = (type_back Γ Δ ρ A m g a, type_back (skeleton A ∷ Γ) (skeleton A ∷ Δ) (lift_renaming ρ) B (moves_under Γ Δ ρ (skeleton A) m) (SkeletonsBack-lift_renaming Γ Δ ρ (skeleton A) g) (subst (λ u. IsPatternType Σ Ψ (u ∷ Δ) (rename_type (lift_renaming ρ) B)) (skeleton_renamed ρ A) b))
  type_back Γ Δ ρ (atom a S) m g (t, e, s) = (t, e, arguments_back Γ Δ ρ S t (base a) m g s)

  -- and it has the skeleton
  mutual
    pub term_has : (Γ : List Skeleton) (M : Term) (t : Skeleton) → IsPatternTerm Σ Ψ Γ M t → TermSkeleton (as_head_skeletons (total_skeletons Σ (skeletons_of Ψ))) Γ M t
    term_has Γ (lambda M) (arrow a b) p = term_has (a ∷ Γ) M b p
    term_has Γ (lambda M) (base c) p = absurd p
    term_has Γ (root h S) (arrow a b) p = absurd p
    term_has Γ (root (constant k) S) (base c) (t, e, s) = (t, e, arguments_have Γ S t (base c) s)
    term_has Γ (root (variable i) S) (base c) (t, e, s) = (t, e, arguments_have Γ S t (base c) s)
    term_has Γ (root (metavariable n) S) (base c) (A, e, q, d) = (skeleton A, ap Some (ap skeleton_or_default e), subst (λ b. SpineSkeleton (as_head_skeletons (total_skeletons Σ (skeletons_of Ψ))) Γ S (skeleton A) (base b)) q (subst (λ T. SpineSkeleton (as_head_skeletons (total_skeletons Σ (skeletons_of Ψ))) Γ T (skeleton A) (base (skeleton_target (skeleton A)))) (sym d.same) (distinct_fit Σ (skeletons_of Ψ) Γ (skeleton A) d.variables d.places)))

    pub arguments_have : (Γ : List Skeleton) (S : Spine) (t u : Skeleton) → ArePatternArguments Σ Ψ Γ S t u → SpineSkeleton (as_head_skeletons (total_skeletons Σ (skeletons_of Ψ))) Γ S t u
    arguments_have Γ nil t u p = p
    arguments_have Γ (app M S) (arrow a b) u (p, s) = (term_has Γ M a p, arguments_have Γ S b u s)
    arguments_have Γ (app M S) (base c) u p = absurd p

-- more may be declared
module _ (Σ : Signature) (Ψ Φ : ℕ → Option LfType) (grows : (m : ℕ) (A : LfType) → Ψ m ≡ Some A → Φ m ≡ Some A) where
  mutual
    pub term_grows : (Γ : List Skeleton) (M : Term) (t : Skeleton) → IsPatternTerm Σ Ψ Γ M t → IsPatternTerm Σ Φ Γ M t
    term_grows Γ (lambda M) (arrow a b) p = term_grows (a ∷ Γ) M b p
    term_grows Γ (lambda M) (base c) p = absurd p
    term_grows Γ (root h S) (arrow a b) p = absurd p
    term_grows Γ (root (constant k) S) (base c) (t, e, s) = (t, e, arguments_grow Γ S t (base c) s)
    term_grows Γ (root (variable i) S) (base c) (t, e, s) = (t, e, arguments_grow Γ S t (base c) s)
    term_grows Γ (root (metavariable n) S) (base c) (A, e, q, d) = (A, grows n A e, q, d)

    pub arguments_grow : (Γ : List Skeleton) (S : Spine) (t u : Skeleton) → ArePatternArguments Σ Ψ Γ S t u → ArePatternArguments Σ Φ Γ S t u
    arguments_grow Γ nil t u p = p
    arguments_grow Γ (app M S) (arrow a b) u (p, s) = (term_grows Γ M a p, arguments_grow Γ S b u s)
    arguments_grow Γ (app M S) (base c) u p = absurd p

  pub type_grows : (Γ : List Skeleton) (A : LfType) → IsPatternType Σ Ψ Γ A → IsPatternType Σ Φ Γ A
  type_grows Γ (pi A B) (a, b) = (type_grows Γ A a, type_grows (skeleton A ∷ Γ) B b)
  type_grows Γ (atom a S) (t, e, s) = (t, e, arguments_grow Γ S t (base a) s)
