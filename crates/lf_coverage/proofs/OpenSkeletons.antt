-- Skeletons of what has metavariables for variables; and a filling as values of these variables.
use Rattle.std.proofs.Common.{◌≡◌, ℕ, zero, suc, List, [], ◌∷◌, length, refl, sym, ap, ◌∙◌, subst}
use Rattle.std.specs.Prelude.{Option, Some, None}
use Rattle.lf.specs.Syntax.{Head, constant, variable, metavariable, Term, Spine, lambda, root, nil, app, LfType, pi, atom, Kind, kind_pi, star, Skeleton, base, arrow, skeleton, rename_head}
use Rattle.lf.specs.Substitution.{Image, put, substitute, substitute_type, reduce}
use Rattle.lf.specs.SkeletonTyping.{HeadSkeletons, HeadSkeleton, SkeletonAt, TermSkeleton, SpineSkeleton, TypeBySkeletons, KindBySkeletons, ImageSkeleton, SubstitutionBySkeletons}
use Rattle.lf.specs.Skeletons.{constant_skeletons, family_skeletons, context_skeletons, type_skeleton}
use Rattle.lf.specs.Typing.{Signature, TypeAt}
use Rattle.lf.specs.Variables.{onto}
use Rattle.lf.specs.Worlds.{lift_over, instance}
use Rattle.lf.proofs.ToSkeletons.{skeleton_has_variable}
use Rattle.lf_unification.specs.Filling.{fill, fill_type}
use Rattle.lf_unification.specs.OpenTyping.{MetavariablesIn, MetavariablesInSpine, skeletons_of, under_locals}
use Rattle.lf_unification.specs.PartialInstance.{PartialInstance, ValueBySkeletons, ValueIsPlain}
use Rattle.lf_unification.specs.Patterns.{local_skeletons}
use Rattle.lf_unification.specs.Skeletons.{as_head_skeletons, total_skeletons, skeleton_or_default}
use Rattle.lf_cases.specs.Case.{as_term}
use Rattle.lf_cases.proofs.OutputItems.{lifted}
use Rattle.lf_coverage.specs.SplitStore.{open_variable, open_term, open_spine, open_type, open_locals, open_some, context_metavariables, answer_image}
use Rattle.lf_coverage.proofs.Meeting.{stand_under}
use Rattle.lf_coverage.proofs.OpenTyped.{open_kind}
use Rattle.lf_coverage.proofs.OpenTerms.{fill_open, fill_open_type}
use Rattle.lf_coverage.proofs.StoreSolution.{looked_up, skeleton_open}
use Rattle.lf_coverage.proofs.Parts.{some_same}

-- a metavariable for a variable has its skeleton, by any skeletons that give it this one
module _ (Σ : Signature) (X : List LfType) (κ : HeadSkeletons) (constants : (c : ℕ) → κ.constant_skeleton c ≡ type_skeleton (Σ.types c)) (variables : (i : ℕ) (A : LfType) → TypeAt X i A → κ.metavariable_skeleton i ≡ Some (skeleton A)) where
  abbrev HeadsOpened : ℕ → List Skeleton → List Skeleton → Type 0
  HeadsOpened k Γ Δ = (i : ℕ) (t : Skeleton) → SkeletonAt Γ i t → HeadSkeleton κ Δ (open_variable k i) t

  head_next : (Δ : List Skeleton) (a : Skeleton) (h : Head) (t : Skeleton) → HeadSkeleton κ Δ h t → HeadSkeleton κ (a ∷ Δ) (rename_head suc h) t
  head_next Δ a (constant c) t g = g
  head_next Δ a (variable i) t g = g
  head_next Δ a (metavariable m) t g = g

  opened_under : (k : ℕ) (Γ Δ : List Skeleton) (a : Skeleton) → HeadsOpened k Γ Δ → HeadsOpened (suc k) (a ∷ Γ) (a ∷ Δ)
  opened_under k Γ Δ a h zero t g = g
  opened_under k Γ Δ a h (suc i) t g = head_next Δ a (open_variable k i) t (h i t g)

  mutual
    opened_skeleton : (k : ℕ) (Γ Δ : List Skeleton) → HeadsOpened k Γ Δ → (M : Term) (t : Skeleton) → TermSkeleton (constant_skeletons Σ) Γ M t → TermSkeleton κ Δ (open_term k M) t
    opened_skeleton k Γ Δ h (lambda M) (arrow a b) m = opened_skeleton (suc k) (a ∷ Γ) (a ∷ Δ) (opened_under k Γ Δ a h) M b m
    opened_skeleton k Γ Δ h (lambda M) (base c) m = absurd m
    opened_skeleton k Γ Δ h (root g S) (arrow a b) m = absurd m
    opened_skeleton k Γ Δ h (root (constant c) S) (base d) (t, g, m) = (t, constants c ∙ g, opened_spine_skeleton k Γ Δ h S t (base d) m)
    opened_skeleton k Γ Δ h (root (metavariable c) S) (base d) (t, g, m) = absurd cc
    opened_skeleton k Γ Δ h (root (variable i) S) (base d) (t, g, m) = (t, h i t g, opened_spine_skeleton k Γ Δ h S t (base d) m)

    opened_spine_skeleton : (k : ℕ) (Γ Δ : List Skeleton) → HeadsOpened k Γ Δ → (S : Spine) (t u : Skeleton) → SpineSkeleton (constant_skeletons Σ) Γ S t u → SpineSkeleton κ Δ (open_spine k S) t u
    opened_spine_skeleton k Γ Δ h nil t u m = m
    opened_spine_skeleton k Γ Δ h (app M S) (arrow a b) u (m, n) = (opened_skeleton k Γ Δ h M a m, opened_spine_skeleton k Γ Δ h S b u n)
    opened_spine_skeleton k Γ Δ h (app M S) (base c) u m = absurd m

  opened_type_skeletons : (k : ℕ) (Γ Δ : List Skeleton) → HeadsOpened k Γ Δ → (A : LfType) → TypeBySkeletons (family_skeletons Σ) (constant_skeletons Σ) Γ A → TypeBySkeletons (family_skeletons Σ) κ Δ (open_type k A)
  opened_type_skeletons k Γ Δ h (pi A B) (a, b) = (opened_type_skeletons k Γ Δ h A a, subst (λ s. TypeBySkeletons (family_skeletons Σ) κ (s ∷ Δ) (open_type (suc k) B)) (sym (skeleton_open k A)) (opened_type_skeletons (suc k) (skeleton A ∷ Γ) (skeleton A ∷ Δ) (opened_under k Γ Δ (skeleton A) h) B b))
  opened_type_skeletons k Γ Δ h (atom a S) (t, e, m) = (t, e, opened_spine_skeleton k Γ Δ h S t (base a) m)

  opened_kind_skeletons : (k : ℕ) (Γ Δ : List Skeleton) → HeadsOpened k Γ Δ → (K : Kind) → KindBySkeletons (family_skeletons Σ) (constant_skeletons Σ) Γ K → KindBySkeletons (family_skeletons Σ) κ Δ (open_kind k K)
  opened_kind_skeletons k Γ Δ h (kind_pi A K) (a, b) = (opened_type_skeletons k Γ Δ h A a, subst (λ s. KindBySkeletons (family_skeletons Σ) κ (s ∷ Δ) (open_kind (suc k) K)) (sym (skeleton_open k A)) (opened_kind_skeletons (suc k) (skeleton A ∷ Γ) (skeleton A ∷ Δ) (opened_under k Γ Δ (skeleton A) h) K b))
  opened_kind_skeletons k Γ Δ h star b = tt

  heads_opened : (L : List LfType) (Δ : List Skeleton) → HeadsOpened (length L) (context_skeletons (onto L X)) (local_skeletons (open_locals L) Δ)
  heads_opened [] Δ i t g = let (A, h, e) = skeleton_has_variable X i t g in variables i A h ∙ ap Some e
  heads_opened (A ∷ L) Δ zero t g = skeleton_open (length L) A ∙ g
  heads_opened (A ∷ L) Δ (suc i) t g = head_next (local_skeletons (open_locals L) Δ) (skeleton (open_type (length L) A)) (open_variable (length L) i) t (heads_opened L Δ i t g)

  pub type_opened_by : (L : List LfType) (Δ : List Skeleton) (A : LfType) → TypeBySkeletons (family_skeletons Σ) (constant_skeletons Σ) (context_skeletons (onto L X)) A → TypeBySkeletons (family_skeletons Σ) κ (local_skeletons (open_locals L) Δ) (open_type (length L) A)
  type_opened_by L Δ A k = opened_type_skeletons (length L) (context_skeletons (onto L X)) (local_skeletons (open_locals L) Δ) (heads_opened L Δ) A k

  pub spine_opened_by : (L : List LfType) (Δ : List Skeleton) (S : Spine) (t u : Skeleton) → SpineSkeleton (constant_skeletons Σ) (context_skeletons (onto L X)) S t u → SpineSkeleton κ (local_skeletons (open_locals L) Δ) (open_spine (length L) S) t u
  spine_opened_by L Δ S t u m = opened_spine_skeleton (length L) (context_skeletons (onto L X)) (local_skeletons (open_locals L) Δ) (heads_opened L Δ) S t u m

  pub kind_opened_by : (L : List LfType) (Δ : List Skeleton) (K : Kind) → KindBySkeletons (family_skeletons Σ) (constant_skeletons Σ) (context_skeletons (onto L X)) K → KindBySkeletons (family_skeletons Σ) κ (local_skeletons (open_locals L) Δ) (open_kind (length L) K)
  kind_opened_by L Δ K k = opened_kind_skeletons (length L) (context_skeletons (onto L X)) (local_skeletons (open_locals L) Δ) (heads_opened L Δ) K k

pub type_by_opened : (Σ : Signature) (X L : List LfType) (Δ : List Skeleton) (A : LfType) → TypeBySkeletons (family_skeletons Σ) (constant_skeletons Σ) (context_skeletons (onto L X)) A → TypeBySkeletons (family_skeletons Σ) (as_head_skeletons (total_skeletons Σ (skeletons_of (context_metavariables X)))) (local_skeletons (open_locals L) Δ) (open_type (length L) A)
type_by_opened Σ X = type_opened_by Σ X (as_head_skeletons (total_skeletons Σ (skeletons_of (context_metavariables X)))) (λ c. refl) (λ i A h. ap Some (ap (λ y. skeleton_or_default (open_some y)) (looked_up X i A h) ∙ skeleton_open zero A))

-- What has no metavariable has its skeleton whatever skeletons these have.
module _ (Σ : Signature) (ν : ℕ → Skeleton) where
  mutual
    plain_skeleton : (Γ : List Skeleton) (M : Term) (t : Skeleton) → MetavariablesIn (λ m. ⊥) M → TermSkeleton (as_head_skeletons (total_skeletons Σ ν)) Γ M t → TermSkeleton (constant_skeletons Σ) Γ M t
    plain_skeleton Γ (lambda M) (arrow a b) p m = plain_skeleton (a ∷ Γ) M b p m
    plain_skeleton Γ (lambda M) (base c) p m = absurd m
    plain_skeleton Γ (root g S) (arrow a b) p m = absurd m
    plain_skeleton Γ (root (constant c) S) (base d) p (t, g, m) = (t, g, plain_spine_skeleton Γ S t (base d) p m)
    plain_skeleton Γ (root (metavariable c) S) (base d) p m = absurd p.0
    plain_skeleton Γ (root (variable i) S) (base d) p (t, g, m) = (t, g, plain_spine_skeleton Γ S t (base d) p m)

    plain_spine_skeleton : (Γ : List Skeleton) (S : Spine) (t u : Skeleton) → MetavariablesInSpine (λ m. ⊥) S → SpineSkeleton (as_head_skeletons (total_skeletons Σ ν)) Γ S t u → SpineSkeleton (constant_skeletons Σ) Γ S t u
    plain_spine_skeleton Γ nil t u p m = m
    plain_spine_skeleton Γ (app M S) (arrow a b) u (p, q) (m, n) = (plain_skeleton Γ M a p m, plain_spine_skeleton Γ S b u q n)
    plain_spine_skeleton Γ (app M S) (base c) u p m = absurd m

-- A filling typed by skeletons gives the variables values.
module _ (Σ : Signature) (X F : List LfType) (β : ℕ → Option Term) (w : PartialInstance Σ [] (context_metavariables X) (λ m. ⊥) F β) where
  abbrev ν : ℕ → Skeleton
  ν = skeletons_of (context_metavariables X)

  abbrev pub filled_values : ℕ → Image
  filled_values m = answer_image (skeletons_of (context_metavariables X) m) (β m)

  pub filled_value : (i : ℕ) (A : LfType) → TypeAt X i A → (N : Term) × (β i ≡ Some N) × (filled_values i ≡ put (skeleton A) N) × TermSkeleton (constant_skeletons Σ) (context_skeletons F) N (skeleton A)
  filled_value i A k = by (context_metavariables X i) (β i) (ap open_some (looked_up X i A k)) refl (w.by_skeletons i) (w.plain_values i)
    where
      by : (y : Option LfType) (z : Option Term) → y ≡ Some (open_type zero A) → β i ≡ z → ValueBySkeletons Σ F ν y z → ValueIsPlain z → (N : Term) × (β i ≡ Some N) × (filled_values i ≡ put (skeleton A) N) × TermSkeleton (constant_skeletons Σ) (context_skeletons F) N (skeleton A)
      by None z e q v p = absurd cc
      by (Some Y) None e q v p = absurd v
      by (Some Y) (Some N) e q v p =
          let s : skeleton Y ≡ skeleton A = ap skeleton (some_same e) ∙ skeleton_open zero A in (
            N,
            q,
            ap (answer_image (skeletons_of (context_metavariables X) i)) q ∙ ap (λ a. put a N) (ap (λ y. skeleton_or_default (open_some y)) (looked_up X i A k) ∙ skeleton_open zero A),
            plain_skeleton Σ ν (context_skeletons F) N (skeleton A) p (subst (TermSkeleton (as_head_skeletons (total_skeletons Σ ν)) (context_skeletons F) N) s v),
          )

  pub filled_stand : (i : ℕ) (A : LfType) → TypeAt X i A → (ν i ≡ skeleton A) × (β i ≡ Some (as_term (skeleton A) (filled_values i)))
  filled_stand i A k = let (N, b, q, m) = filled_value i A k in (ap (λ y. skeleton_or_default (open_some y)) (looked_up X i A k) ∙ skeleton_open zero A, b ∙ ap Some (ap (as_term (skeleton A)) (sym q)))

  pub filled_fits : SubstitutionBySkeletons (constant_skeletons Σ) (context_skeletons X) (context_skeletons F) filled_values
  filled_fits i t k =
      let (A, h, e) = skeleton_has_variable X i t k in
      let (N, b, q, m) = filled_value i A h in
      subst (λ x. ImageSkeleton (constant_skeletons Σ) (context_skeletons F) x t) (sym q) (e, m)

  pub fits_under : (L : List LfType) → SubstitutionBySkeletons (constant_skeletons Σ) (context_skeletons (onto L X)) (context_skeletons (onto (instance L filled_values) F)) (lift_over L filled_values)
  fits_under L = lifted Σ L X F filled_values filled_fits

  -- what is filled has these values put in
  pub filled_term : (L : List LfType) (M : Term) (t : Skeleton) → TermSkeleton (constant_skeletons Σ) (context_skeletons (onto L X)) M t → fill ν (under_locals L β) (open_term (length L) M) ≡ substitute reduce (lift_over L filled_values) M
  filled_term L M t m = fill_open Σ ν (length L) (context_skeletons (onto L X)) (context_skeletons (onto (instance L filled_values) F)) (lift_over L filled_values) (under_locals L β) (stand_under Σ ν β X F filled_values filled_fits filled_stand L) (fits_under L) M t m

  pub filled_type : (L : List LfType) (A : LfType) → TypeBySkeletons (family_skeletons Σ) (constant_skeletons Σ) (context_skeletons (onto L X)) A → fill_type ν (under_locals L β) (open_type (length L) A) ≡ substitute_type reduce (lift_over L filled_values) A
  filled_type L A k = fill_open_type Σ ν (family_skeletons Σ) (length L) (context_skeletons (onto L X)) (context_skeletons (onto (instance L filled_values) F)) (lift_over L filled_values) (under_locals L β) (stand_under Σ ν β X F filled_values filled_fits filled_stand L) (fits_under L) A k
