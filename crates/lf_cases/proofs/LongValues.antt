-- Values in which variables are put as their eta-long forms: they make of what is typed the same as the values themselves.
use Rattle.std.proofs.Common.{◌≡◌, ℕ, zero, suc, List, [], ◌∷◌, refl, sym, ap, ap₂, ◌∙◌, subst}
use Rattle.std.specs.Prelude.{Bool, Option}
use Rattle.lf.specs.Syntax.{variable, nil, LfType, pi, atom, Skeleton, base, skeleton, rename_type, lift_renaming}
use Rattle.lf.specs.Substitution.{Image, keep, put, lift, substitute, substitute_type, substitute_image, reduce, after}
use Rattle.lf.specs.SkeletonTyping.{HeadSkeletons, TermSkeleton, ImageSkeleton, TypeBySkeletons, SubstitutionBySkeletons, RenamingBySkeletons}
use Rattle.lf.specs.Skeletons.{constant_skeletons, family_skeletons, context_skeletons}
use Rattle.lf.specs.Typing.{Signature, TypeAt, HasType, ImageHasType, IsType, IsContext, IsSignature}
use Rattle.lf.specs.Eta.{eta_long}
use Rattle.lf.specs.Variables.{onto, Values, SameOn}
use Rattle.lf.proofs.Agreement.{agree_on_type}
use Rattle.lf.proofs.Eta.{EtaLike, Fits, AtSkel, Fits-lift, EtaLike-lift, eta_both, eta_rename_spine, eta_expand_has_skeleton, substitute_eta_expand, reduce_nil}
use Rattle.lf.proofs.EtaTyping.{eta_long_has_type}
use Rattle.lf.proofs.Partial.{skeletons_beside}
use Rattle.lf.proofs.Patch.{patch, patch_same, patched}
use Rattle.lf.proofs.SkeletonTypes.{substitutions_compose_type}
use Rattle.lf.proofs.SkeletonTyping.{renaming_by_skeletons_under_binder}
use Rattle.lf.proofs.ToSkeletons.{type_by_skeletons}
use Rattle.lf.proofs.TypeLaws.{skeleton_renamed, skeleton_substituted}
use Rattle.lf_cases.proofs.Raised.{rename_identity_type}
use Rattle.lf_cases.specs.Case.{as_term}
use mathlib.Core.Path.{fun_ext}

-- the values of the variables of a context, as terms; and of those behind some others, which keep theirs
abbrev pub long_at : List LfType → (ℕ → Image) → ℕ → Image
long_at [] σ i = σ i
long_at (A ∷ O) σ zero = put (skeleton A) (as_term (skeleton A) (σ zero))
long_at (A ∷ O) σ (suc i) = long_at O (λ j. σ (suc j)) i

abbrev pub long_past : List LfType → List LfType → (ℕ → Image) → ℕ → Image
long_past [] O σ i = long_at O σ i
long_past (A ∷ X) O σ zero = σ zero
long_past (A ∷ X) O σ (suc i) = long_past X O (λ j. σ (suc j)) i

-- each of them depends on its own value
at_same : (O : List LfType) (σ τ : ℕ → Image) (i : ℕ) → σ i ≡ τ i → long_at O σ i ≡ long_at O τ i
at_same [] σ τ i e = e
at_same (A ∷ O) σ τ zero e = ap (λ x. put (skeleton A) (as_term (skeleton A) x)) e
at_same (A ∷ O) σ τ (suc i) e = at_same O (λ j. σ (suc j)) (λ j. τ (suc j)) i e

past_same : (X O : List LfType) (σ τ : ℕ → Image) (i : ℕ) → σ i ≡ τ i → long_past X O σ i ≡ long_past X O τ i
past_same [] O σ τ i e = at_same O σ τ i e
past_same (A ∷ X) O σ τ zero e = e
past_same (A ∷ X) O σ τ (suc i) e = past_same X O (λ j. σ (suc j)) (λ j. τ (suc j)) i e

module _ (κ : HeadSkeletons) where
  pub term_has_skeleton : (Δ : List Skeleton) (a : Skeleton) (x : Image) → ImageSkeleton κ Δ x a → TermSkeleton κ Δ (as_term a x) a
  term_has_skeleton Δ a (keep j) h = eta_expand_has_skeleton κ a a Δ (variable j) nil h refl
  term_has_skeleton Δ a (put b N) (e, n) = subst (TermSkeleton κ Δ N) e n

  -- they have the skeletons of the values
  at_fits : (O : List LfType) (Δ : List Skeleton) (σ : ℕ → Image) → SubstitutionBySkeletons κ (context_skeletons O) Δ σ → SubstitutionBySkeletons κ (context_skeletons O) Δ (long_at O σ)
  at_fits [] Δ σ s i t g = s i t g
  at_fits (A ∷ O) Δ σ s zero t e = (e, term_has_skeleton Δ (skeleton A) (σ zero) (s zero (skeleton A) refl))
  at_fits (A ∷ O) Δ σ s (suc i) t g = at_fits O Δ (λ j. σ (suc j)) (λ j. s (suc j)) i t g

  pub long_fits : (X O : List LfType) (Δ : List Skeleton) (σ : ℕ → Image) → SubstitutionBySkeletons κ (context_skeletons (onto X O)) Δ σ → SubstitutionBySkeletons κ (context_skeletons (onto X O)) Δ (long_past X O σ)
  long_fits [] O Δ σ s i t g = at_fits O Δ σ s i t g
  long_fits (A ∷ X) O Δ σ s zero t e = s zero t e
  long_fits (A ∷ X) O Δ σ s (suc i) t g = long_fits X O Δ (λ j. σ (suc j)) (λ j. s (suc j)) i t g

  -- a value put in for an eta-long variable is the value as a term
  pub value_of_long : (Δ : List Skeleton) (a : Skeleton) (σ : ℕ → Image) (i : ℕ) (x : Image) → σ i ≡ x → ImageSkeleton κ Δ x a → substitute reduce σ (eta_long a (variable i)) ≡ as_term a x
  value_of_long Δ a σ i (keep j) e h = substitute_eta_expand σ a (variable i) (variable j) nil e
  value_of_long Δ a σ i (put b N) e (q, n) = (eta_both κ a).1 Δ σ i b N nil e n q ∙ reduce_nil b N

  after_at : (O : List LfType) (Δ : List Skeleton) (σ : ℕ → Image) (ρ : ℕ → ℕ) → SubstitutionBySkeletons κ (context_skeletons O) Δ (λ i. σ (ρ i)) → (i : ℕ) → substitute_image σ (long_at O (λ j. keep (ρ j)) i) ≡ long_at O (λ j. σ (ρ j)) i
  after_at [] Δ σ ρ s i = refl
  after_at (A ∷ O) Δ σ ρ s zero = ap (put (skeleton A)) (value_of_long Δ (skeleton A) σ (ρ zero) (σ (ρ zero)) refl (s zero (skeleton A) refl))
  after_at (A ∷ O) Δ σ ρ s (suc i) = after_at O Δ σ (λ j. ρ (suc j)) (λ j. s (suc j)) i

  after_past : (X O : List LfType) (Δ : List Skeleton) (σ : ℕ → Image) (ρ : ℕ → ℕ) → SubstitutionBySkeletons κ (context_skeletons (onto X O)) Δ (λ i. σ (ρ i)) → (i : ℕ) → substitute_image σ (long_past X O (λ j. keep (ρ j)) i) ≡ long_past X O (λ j. σ (ρ j)) i
  after_past [] O Δ σ ρ s i = after_at O Δ σ ρ s i
  after_past (A ∷ X) O Δ σ ρ s zero = refl
  after_past (A ∷ X) O Δ σ ρ s (suc i) = after_past X O Δ σ (λ j. ρ (suc j)) (λ j. s (suc j)) i

  -- the eta-long variables themselves rename by the identity
  at_like : (O : List LfType) (ρ : ℕ → ℕ) → EtaLike (λ c. Unit {0}) (long_at O (λ j. keep (ρ j))) ρ
  at_like [] ρ i = refl
  at_like (A ∷ O) ρ zero = (tt, refl)
  at_like (A ∷ O) ρ (suc i) = at_like O (λ j. ρ (suc j)) i

  past_like : (X O : List LfType) (ρ : ℕ → ℕ) → EtaLike (λ c. Unit {0}) (long_past X O (λ j. keep (ρ j))) ρ
  past_like [] O ρ i = at_like O ρ i
  past_like (A ∷ X) O ρ zero = refl
  past_like (A ∷ X) O ρ (suc i) = past_like X O (λ j. ρ (suc j)) i

  at_skeleton : (Δ : List Skeleton) (x : Image) (t : Skeleton) → ImageSkeleton κ Δ x t → AtSkel x t
  at_skeleton Δ (keep i) t h = tt
  at_skeleton Δ (put a N) t h = h.0

  eta_renames_type : (φ : ℕ → Option Skeleton) (Γ Δ : List Skeleton) (σ : ℕ → Image) (ρ : ℕ → ℕ) (A : LfType) → EtaLike (λ c. Unit {0}) σ ρ → Fits Γ σ → RenamingBySkeletons Γ Δ ρ → TypeBySkeletons φ κ Γ A → substitute_type reduce σ A ≡ rename_type ρ A
  eta_renames_type φ Γ Δ σ ρ (pi A B) e f w (a, b) = ap₂ pi (eta_renames_type φ Γ Δ σ ρ A e f w a) (eta_renames_type φ (skeleton A ∷ Γ) (skeleton A ∷ Δ) (lift σ) (lift_renaming ρ) B (EtaLike-lift (λ c. Unit {0}) σ ρ e) (Fits-lift Γ (skeleton A) σ f) (renaming_by_skeletons_under_binder Γ Δ ρ (skeleton A) w) b)
  eta_renames_type φ Γ Δ σ ρ (atom a S) e f w (t, g, s) = ap (atom a) (eta_rename_spine κ (λ c. Unit {0}) (λ c z. (eta_both κ c).0) Γ Δ σ ρ S t (base a) e f w s)

  -- The identity: eta-long forms in place of variables change nothing of a type that is typed by skeletons
  pub long_same : (φ : ℕ → Option Skeleton) (X O : List LfType) (Δ : List Skeleton) (σ : ℕ → Image) (A : LfType) → SubstitutionBySkeletons κ (context_skeletons (onto X O)) Δ σ → TypeBySkeletons φ κ (context_skeletons (onto X O)) A → substitute_type reduce (long_past X O σ) A ≡ substitute_type reduce σ A
  long_same φ X O Δ σ A s t =
      let Γ : List Skeleton = context_skeletons (onto X O) in
      let ε : ℕ → Image = long_past X O keep in
      let es : SubstitutionBySkeletons κ Γ Γ ε = long_fits X O Γ keep (λ i u g. g) in
      let same : after σ ε ≡ long_past X O σ = fun_ext (λ i. after_past X O Δ σ (λ j. j) s i) in
      ap (λ f. substitute_type reduce f A) (sym same) ∙ sym (substitutions_compose_type φ κ Γ Γ Δ ε σ A es s t) ∙ ap (substitute_type reduce σ) (eta_renames_type φ Γ Γ ε (λ j. j) A (past_like X O (λ j. j)) (λ i u g. at_skeleton Γ (ε i) u (es i u g)) (λ i u g. g) t ∙ rename_identity_type A)

beside_nothing : (C : List LfType) → skeletons_beside [] C ≡ context_skeletons C
beside_nothing [] = refl
beside_nothing (A ∷ C) = ap (λ Γ. skeleton A ∷ Γ) (beside_nothing C)

module _ (Σ : Signature) (ok : IsSignature Σ) where
  -- a typed value is typed as a term
  pub term_typed : (G : List LfType) → IsContext Σ G → (a : Skeleton) (x : Image) (Z : LfType) → skeleton Z ≡ a → ImageHasType Σ G x Z → HasType Σ G (as_term a x) Z
  term_typed G c a (keep j) Z e g = subst (λ b. HasType Σ G (eta_long b (variable j)) Z) e (eta_long_has_type Σ ok G (variable j) Z c g)
  term_typed G c a (put b N) Z e (q, n) = n

  pub at_typed : (G : List LfType) → IsContext Σ G → (O : List LfType) (σ : ℕ → Image) (i : ℕ) (Y Z : LfType) → TypeAt O i Y → skeleton Z ≡ skeleton Y → ImageHasType Σ G (σ i) Z → ImageHasType Σ G (long_at O σ i) Z
  at_typed G c [] σ i Y Z g e h = h
  at_typed G c (A ∷ O) σ zero Y Z g e h = let q : skeleton Z ≡ skeleton A = e ∙ ap skeleton g ∙ skeleton_renamed suc A in (q, term_typed G c (skeleton A) (σ zero) Z q h)
  at_typed G c (A ∷ O) σ (suc i) Y Z (C, g, q) e h = at_typed G c O (λ j. σ (suc j)) i C Z g (e ∙ ap skeleton q ∙ skeleton_renamed suc C) h

  long_typed : (G : List LfType) → IsContext Σ G → (X O : List LfType) (σ : ℕ → Image) (i : ℕ) (Y Z : LfType) → TypeAt (onto X O) i Y → skeleton Z ≡ skeleton Y → ImageHasType Σ G (σ i) Z → ImageHasType Σ G (long_past X O σ i) Z
  long_typed G c [] O σ i Y Z g e h = at_typed G c O σ i Y Z g e h
  long_typed G c (A ∷ X) O σ zero Y Z g e h = h
  long_typed G c (A ∷ X) O σ (suc i) Y Z (C, g, q) e h = long_typed G c X O (λ j. σ (suc j)) i C Z g (e ∙ ap skeleton q ∙ skeleton_renamed suc C) h

  module _ (X O G : List LfType) (U : ℕ → Bool) (σ : ℕ → Image) (ct : IsContext Σ (onto X O)) (cg : IsContext Σ G) (v : Values Σ U (onto X O) G σ) where
    -- values of all variables, typed by skeletons, that are σ on U
    abbrev pub whole : ℕ → Image
    whole = patch U G σ

    pub whole_same : SameOn U σ whole
    whole_same = patch_same U G σ

    pub whole_long_same : SameOn U (long_past X O σ) (long_past X O whole)
    whole_long_same i u = past_same X O σ whole i (whole_same i u)

    -- on these the identity holds
    pub whole_type : (A : LfType) → IsType Σ (onto X O) A → substitute_type reduce (long_past X O whole) A ≡ substitute_type reduce whole A
    whole_type A t = long_same (constant_skeletons Σ) (family_skeletons Σ) X O (skeletons_beside (skeletons_beside [] (onto X O)) G) whole A (subst (λ Γ. SubstitutionBySkeletons (constant_skeletons Σ) Γ (skeletons_beside (skeletons_beside [] (onto X O)) G) whole) (beside_nothing (onto X O)) ((patched Σ ok U (onto X O) G σ ct cg v).sk)) (type_by_skeletons Σ (onto X O) A t)

    pub long_values : ((i : ℕ) (A : LfType) → TypeAt (onto X O) i A → IsType Σ (onto X O) A) → Values Σ U (onto X O) G (long_past X O σ)
    long_values types = record {
      typed = λ i A g u. subst (ImageHasType Σ G (long_past X O σ i)) (agree_on_type reduce U σ whole A whole_same (v.closed i A g u) ∙ sym (whole_type A (types i A g)) ∙ sym (agree_on_type reduce U (long_past X O σ) (long_past X O whole) A whole_long_same (v.closed i A g u))) (long_typed G cg X O σ i A (substitute_type reduce σ A) g (skeleton_substituted reduce σ A) (v.typed i A g u));
      closed = v.closed;
    }
