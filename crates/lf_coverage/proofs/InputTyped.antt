-- The goal of inputs is typed beside each head of its family.
use Rattle.std.proofs.Common.{◌≡◌, ℕ, zero, suc, ◌+◌, ◌⊎◌, List, [], ◌∷◌, length, inl, inr, refl, sym, ap, ap₂, ◌∙◌, subst, arith}
use Rattle.std.specs.Prelude.{Bool, true, false, Option, Some}
use Rattle.lf.specs.Syntax.{constant, variable, metavariable, Term, Spine, lambda, root, nil, app, LfType, pi, atom, Kind, kind_pi, star, Skeleton, base, arrow, skeleton, kind_skeleton, weaken, lift_renaming, rename, rename_spine, rename_type}
use Rattle.lf.specs.Substitution.{Image, keep, put, rename_image, apply_image, single, lift, substitute, substitute_spine, substitute_type, substitute_kind, substitute_image, after, reduce}
use Rattle.lf.specs.SkeletonTyping.{HeadSkeletons, SkeletonAt, TermSkeleton, SpineSkeleton, TypeBySkeletons, KindBySkeletons, SubstitutionBySkeletons}
use Rattle.lf.specs.Skeletons.{constant_skeletons, family_skeletons, context_skeletons}
use Rattle.lf.specs.AtOnce.{in_front, shift_by}
use Rattle.lf.specs.Eta.{eta_long}
use Rattle.lf.specs.Typing.{Signature, TypeAt, HasType, IsType, IsKind, IsContext, IsSignature, instantiate_kind}
use Rattle.lf.specs.Variables.{target, target_arguments, onto, under, hide, nothing, Uses, UsesSpine, UsesType, Values, IsTypedRenamingOn}
use Rattle.lf.specs.Subordination.{Block, AreTypedBlocks}
use Rattle.lf.proofs.Agreement.{agree_on_type}
use Rattle.lf.proofs.Eta.{eta_expand_has_skeleton, reduction_eta, rename_eta_expand}
use Rattle.lf.proofs.EtaTyping.{eta_long_has_type}
use Rattle.lf.proofs.Partial.{partial_substitution_keeps_types, skeletons_beside}
use Rattle.lf.proofs.Patch.{patch, patch_same, patched}
use Rattle.lf.proofs.Renaming.{substitute_weakened}
use Rattle.lf.proofs.SkeletonTypes.{substitutions_compose_kind}
use Rattle.lf.proofs.SkeletonTyping.{lift_by_skeletons, single_by_skeletons, substitution_keeps_spine_skeletons}
use Rattle.lf.proofs.ToSkeletons.{type_by_skeletons, kind_by_skeletons, kind_spine_has_skeleton, typed_has_skeleton, variable_has_skeleton}
use Rattle.lf.proofs.TypeLaws.{skeleton_renamed, skeleton_substituted, renamings_compose_type, substitute_identity_kind, substitution_as_renaming_type}
use Rattle.lf.proofs.Uses.{uses_type_renamed}
use Rattle.lf_checks.specs.Clause.{Clause, scope}
use Rattle.lf_checks.specs.Marks.{MentionChosenOnly}
use Rattle.lf_cases.specs.Case.{Item, free_variable, items_context, past_place, goal_items, chosen_count, goal_arguments, input_goal}
use Rattle.lf_cases.specs.Pattern.{Origin, is_given, head_pattern}
use Rattle.lf_cases.specs.Candidates.{given_images}
use Rattle.lf_cases.specs.Missing.{AreTypedItems}
use Rattle.lf_coverage.specs.Heads.{HaveSkeletons, IsTypedCase}
use Rattle.lf_coverage.specs.TypedLocal.{HasTypedLocal}
use Rattle.lf_coverage.specs.Leaf.{IsTypedPattern}
use Rattle.lf_coverage.specs.TypedCase.{TypedArguments, IsTypedBeside}
use Rattle.lf_coverage.specs.Matching.{HoldsTypes}
use Rattle.lf_coverage.proofs.Forms.{no_shift_type, near_type}
use Rattle.lf_coverage.proofs.GivenValues.{given_fits, onto_context, values_near}
use Rattle.lf_coverage.proofs.ItemsContext.{items_are_context}
use Rattle.lf_coverage.proofs.Parts.{some_same, no_arrow}
use Rattle.lf_coverage.proofs.Strip.{under_binder}
use mathlib.Core.Path.{fun_ext}

-- Values that are eta-long variables do what a renaming does, to a text that uses only these.
abbrev pub Likes : (ℕ → Bool) → List Skeleton → (ℕ → Image) → (ℕ → ℕ) → Type 0
Likes U Γ σ ρ = (i : ℕ) (t : Skeleton) → SkeletonAt Γ i t → U i ≡ true → (σ i ≡ keep (ρ i)) ⊎ (σ i ≡ put t (eta_long t (variable (ρ i))))

pub likes_under : (U : ℕ → Bool) (Γ : List Skeleton) (a : Skeleton) (σ : ℕ → Image) (ρ : ℕ → ℕ) → Likes U Γ σ ρ → Likes (under U) (a ∷ Γ) (lift σ) (lift_renaming ρ)
likes_under U Γ a σ ρ h zero t g u = inl refl
likes_under U Γ a σ ρ h (suc i) t g u = by (h i t g u)
  where
    by : (σ i ≡ keep (ρ i)) ⊎ (σ i ≡ put t (eta_long t (variable (ρ i)))) → (rename_image suc (σ i) ≡ keep (suc (ρ i))) ⊎ (rename_image suc (σ i) ≡ put t (eta_long t (variable (suc (ρ i)))))
    by (inl e) = inl (ap (rename_image suc) e)
    by (inr e) = inr (ap (rename_image suc) e ∙ ap (put t) (rename_eta_expand suc t (variable (ρ i)) nil))

module _ (κ : HeadSkeletons) where
  mutual
    pub eta_on : (U : ℕ → Bool) (Γ Δ : List Skeleton) (σ : ℕ → Image) (ρ : ℕ → ℕ) → SubstitutionBySkeletons κ Γ Δ σ → Likes U Γ σ ρ → (M : Term) (t : Skeleton) → TermSkeleton κ Γ M t → Uses U M → substitute reduce σ M ≡ rename ρ M
    eta_on U Γ Δ σ ρ s h (lambda M) (arrow a b) m u = ap lambda (eta_on (under U) (a ∷ Γ) (a ∷ Δ) (lift σ) (lift_renaming ρ) (lift_by_skeletons κ a Γ Δ σ s) (likes_under U Γ a σ ρ h) M b m u)
    eta_on U Γ Δ σ ρ s h (lambda M) (base c) m u = absurd m
    eta_on U Γ Δ σ ρ s h (root g S) (arrow a b) m u = absurd m
    eta_on U Γ Δ σ ρ s h (root (constant c) S) (base d) (t, g, m) u = ap (root (constant c)) (eta_on_spine U Γ Δ σ ρ s h S t (base d) m u)
    eta_on U Γ Δ σ ρ s h (root (metavariable c) S) (base d) (t, g, m) u = ap (root (metavariable c)) (eta_on_spine U Γ Δ σ ρ s h S t (base d) m u)
    eta_on U Γ Δ σ ρ s h (root (variable i) S) (base d) (t, g, m) (v, u) = by (h i t g v) (eta_on_spine U Γ Δ σ ρ s h S t (base d) m u)
      where
        by : (σ i ≡ keep (ρ i)) ⊎ (σ i ≡ put t (eta_long t (variable (ρ i)))) → substitute_spine reduce σ S ≡ rename_spine ρ S → apply_image reduce (σ i) (substitute_spine reduce σ S) ≡ root (variable (ρ i)) (rename_spine ρ S)
        by (inl e) q = ap (λ x. apply_image reduce x (substitute_spine reduce σ S)) e ∙ ap (root (variable (ρ i))) q
        by (inr e) q = ap (λ x. apply_image reduce x (substitute_spine reduce σ S)) e ∙ reduction_eta κ t Δ (variable (ρ i)) (substitute_spine reduce σ S) d (substitution_keeps_spine_skeletons κ Γ Δ σ S t (base d) s m) ∙ ap (root (variable (ρ i))) q

    eta_on_spine : (U : ℕ → Bool) (Γ Δ : List Skeleton) (σ : ℕ → Image) (ρ : ℕ → ℕ) → SubstitutionBySkeletons κ Γ Δ σ → Likes U Γ σ ρ → (S : Spine) (t v : Skeleton) → SpineSkeleton κ Γ S t v → UsesSpine U S → substitute_spine reduce σ S ≡ rename_spine ρ S
    eta_on_spine U Γ Δ σ ρ s h nil t v m u = refl
    eta_on_spine U Γ Δ σ ρ s h (app M S) (arrow a b) v (m, n) (u, w) = ap₂ app (eta_on U Γ Δ σ ρ s h M a m u) (eta_on_spine U Γ Δ σ ρ s h S b v n w)
    eta_on_spine U Γ Δ σ ρ s h (app M S) (base c) v m u = absurd m

  pub eta_on_type : (φ : ℕ → Option Skeleton) (U : ℕ → Bool) (Γ Δ : List Skeleton) (σ : ℕ → Image) (ρ : ℕ → ℕ) → SubstitutionBySkeletons κ Γ Δ σ → Likes U Γ σ ρ → (A : LfType) → TypeBySkeletons φ κ Γ A → UsesType U A → substitute_type reduce σ A ≡ rename_type ρ A
  eta_on_type φ U Γ Δ σ ρ s h (pi A B) (a, b) (u, v) = ap₂ pi (eta_on_type φ U Γ Δ σ ρ s h A a u) (eta_on_type φ (under U) (skeleton A ∷ Γ) (skeleton A ∷ Δ) (lift σ) (lift_renaming ρ) (lift_by_skeletons κ (skeleton A) Γ Δ σ s) (likes_under U Γ (skeleton A) σ ρ h) B b v)
  eta_on_type φ U Γ Δ σ ρ s h (atom a S) (t, e, m) u = ap (atom a) (eta_on_spine U Γ Δ σ ρ s h S t (base a) m u)

-- one more argument put in
pub front_pointwise : (a : Skeleton) (N : Term) (σ : ℕ → Image) (i : ℕ) → after (single a N) (lift σ) i ≡ in_front (put a N) σ i
front_pointwise a N σ zero = refl
front_pointwise a N σ (suc i) = around (σ i)
  where
    around : (x : Image) → substitute_image (single a N) (rename_image suc x) ≡ x
    around (keep k) = refl
    around (put b P) = ap (put b) (substitute_weakened reduce a N P)

pub kind_front : (κ : HeadSkeletons) (φ : ℕ → Option Skeleton) (Γ Δ : List Skeleton) (σ : ℕ → Image) (A : LfType) (M : Term) (K : Kind) → SubstitutionBySkeletons κ Γ Δ σ → TermSkeleton κ Δ M (skeleton A) → KindBySkeletons φ κ (skeleton A ∷ Γ) K → instantiate_kind (substitute_type reduce σ A) M (substitute_kind reduce (lift σ) K) ≡ substitute_kind reduce (in_front (put (skeleton A) M) σ) K
kind_front κ φ Γ Δ σ A M K s m k =
    ap (λ t. substitute_kind reduce (single t M) (substitute_kind reduce (lift σ) K)) (skeleton_substituted reduce σ A)
    ∙ substitutions_compose_kind φ κ (skeleton A ∷ Γ) (skeleton A ∷ Δ) Δ (lift σ) (single (skeleton A) M) K (lift_by_skeletons κ (skeleton A) Γ Δ σ s) (single_by_skeletons κ (skeleton A) Δ M m) k
    ∙ ap (λ f. substitute_kind reduce f K) (fun_ext (front_pointwise (skeleton A) M σ))

pub front_fits : (κ : HeadSkeletons) (Γ Δ : List Skeleton) (a : Skeleton) (N : Term) (σ : ℕ → Image) → TermSkeleton κ Δ N a → SubstitutionBySkeletons κ Γ Δ σ → SubstitutionBySkeletons κ (a ∷ Γ) Δ (in_front (put a N) σ)
front_fits κ Γ Δ a N σ m s zero t g = (g, m)
front_fits κ Γ Δ a N σ m s (suc i) t g = s i t g

pub closed_chosen : (V : ℕ → Bool) (G : List LfType) (A : LfType) → UsesType V A → HoldsTypes V G → HoldsTypes (under V) (A ∷ G)
closed_chosen V G A u c zero B e v = subst (UsesType (under V)) (sym e) (uses_type_renamed V (under V) suc A (λ i w. w) u)
closed_chosen V G A u c (suc i) B (C, g, e) v = subst (UsesType (under V)) (sym e) (uses_type_renamed V (under V) suc C (λ j w. w) (c i C g v))

pub closed_other : (V : ℕ → Bool) (G : List LfType) (A : LfType) → HoldsTypes V G → HoldsTypes (hide V) (A ∷ G)
closed_other V G A c zero B e v = absurd cc
closed_other V G A c (suc i) B (C, g, e) v = subst (UsesType (hide V)) (sym e) (uses_type_renamed V (hide V) suc C (λ j w. w) (c i C g v))

pub renames_other : (V : ℕ → Bool) (G D : List LfType) (ρ : ℕ → ℕ) (A : LfType) → IsTypedRenamingOn V G D ρ → IsTypedRenamingOn (hide V) (A ∷ G) D (past_place ρ)
renames_other V G D ρ A r zero B e v = absurd cc
renames_other V G D ρ A r (suc i) B (C, g, e) v = subst (TypeAt D (ρ i)) (sym (ap (rename_type (past_place ρ)) e ∙ renamings_compose_type (past_place ρ) suc C)) (r i C g v)

module _ (Σ : Signature) (ok : IsSignature Σ) (W : List Block) (typed : AreTypedBlocks Σ W) where
  pub renamed_type : (V : ℕ → Bool) (G D : List LfType) (ρ : ℕ → ℕ) (B : LfType) → IsContext Σ G → IsContext Σ D → IsTypedRenamingOn V G D ρ → HoldsTypes V G → IsType Σ G B → UsesType V B → IsType Σ D (rename_type ρ B)
  renamed_type V G D ρ B cg cd r c t u =
      let σ : ℕ → Image = λ i. keep (ρ i) in
      let v : Values Σ V G D σ = record { typed = λ i A g w. subst (TypeAt D (ρ i)) (sym (substitution_as_renaming_type reduce ρ A)) (r i A g w); closed = c } in
      subst (IsType Σ D) (sym (agree_on_type reduce V σ (patch V D σ) B (patch_same V D σ) u) ∙ substitution_as_renaming_type reduce ρ B) (partial_substitution_keeps_types Σ ok (skeletons_beside [] G) [] V G D (patch V D σ) B (patched Σ ok V G D σ cg cd v) u t)

  -- the items
  goal_items_typed : (V : ℕ → Bool) (b : List Bool) (K : Kind) (G : List LfType) (ρ : ℕ → ℕ) (I : List Item) → IsContext Σ G → IsKind Σ G K → MentionChosenOnly V b K → IsTypedRenamingOn V G (items_context I) ρ → HoldsTypes V G → AreTypedItems Σ W I → AreTypedItems Σ W (goal_items b K ρ I)
  goal_items_typed V [] K G ρ I cg k m r c a = a
  goal_items_typed V (b ∷ bs) star G ρ I cg k m r c a = a
  goal_items_typed V (true ∷ bs) (kind_pi A K) G ρ I cg (t, k) (u, m) r c a = goal_items_typed (under V) bs K (A ∷ G) (lift_renaming ρ) (free_variable (rename_type ρ A) ∷ I) (cg, t) k m (under_binder V G (items_context I) ρ A r) (closed_chosen V G A u c) (a, renamed_type V G (items_context I) ρ A cg (items_are_context Σ ok W typed I a) r c t u)
  goal_items_typed V (false ∷ bs) (kind_pi A K) G ρ I cg (t, k) m r c a = goal_items_typed (hide V) bs K (A ∷ G) (past_place ρ) I (cg, t) k m (renames_other V G (items_context I) ρ A r) (closed_other V G A c) a

  -- an item stands behind those of the later places
  pub goal_behind : (b : List Bool) (K : Kind) (ρ : ℕ → ℕ) (I : List Item) (i : ℕ) (B : LfType) → TypeAt (items_context I) i B → TypeAt (items_context (goal_items b K ρ I)) (i + chosen_count b K) (rename_type (shift_by (chosen_count b K)) B)
  goal_behind [] K ρ I i B g = subst (λ j. TypeAt (items_context I) j (rename_type (shift_by 0) B)) (none i) (subst (TypeAt (items_context I) i) (sym (no_shift_type B)) g)
    where
      none : (i : ℕ) → i ≡ i + 0
      none i = omega arith
  goal_behind (b ∷ bs) star ρ I i B g = subst (λ j. TypeAt (items_context I) j (rename_type (shift_by 0) B)) (none i) (subst (TypeAt (items_context I) i) (sym (no_shift_type B)) g)
    where
      none : (i : ℕ) → i ≡ i + 0
      none i = omega arith
  goal_behind (true ∷ bs) (kind_pi A K) ρ I i B g =
      let n : ℕ = chosen_count bs K in
      let J : List Item = goal_items bs K (lift_renaming ρ) (free_variable (rename_type ρ A) ∷ I) in
      subst (λ j. TypeAt (items_context J) j (rename_type (shift_by (suc n)) B)) (next i n) (subst (TypeAt (items_context J) (suc i + n)) (renamings_compose_type (shift_by n) suc B ∙ ap (λ f. rename_type f B) (fun_ext (λ j. next j n))) (goal_behind bs K (lift_renaming ρ) (free_variable (rename_type ρ A) ∷ I) (suc i) (weaken B) (B, g, refl)))
    where
      next : (i n : ℕ) → suc i + n ≡ i + suc n
      next i n = omega arith
  goal_behind (false ∷ bs) (kind_pi A K) ρ I i B g = goal_behind bs K (past_place ρ) I i B g

  -- the arguments
  goal_have : (b : List Bool) (K : Kind) (ρ : ℕ → ℕ) (I : List Item) → HaveSkeletons (constant_skeletons Σ) (context_skeletons (items_context (goal_items b K ρ I))) (goal_arguments b K)
  goal_have [] K ρ I = tt
  goal_have (b ∷ bs) star ρ I = tt
  goal_have (true ∷ bs) (kind_pi A K) ρ I =
      let n : ℕ = chosen_count bs K in
      let J : List Item = goal_items bs K (lift_renaming ρ) (free_variable (rename_type ρ A) ∷ I) in
      let at : TypeAt (items_context J) n (rename_type (shift_by n) (weaken (rename_type ρ A))) = subst (λ j. TypeAt (items_context J) j (rename_type (shift_by n) (weaken (rename_type ρ A)))) (none n) (goal_behind bs K (lift_renaming ρ) (free_variable (rename_type ρ A) ∷ I) zero (weaken (rename_type ρ A)) refl) in
      let s : skeleton (rename_type (shift_by n) (weaken (rename_type ρ A))) ≡ skeleton A = skeleton_renamed (shift_by n) (weaken (rename_type ρ A)) ∙ skeleton_renamed suc (rename_type ρ A) ∙ skeleton_renamed ρ A in
      ((skeleton A, eta_expand_has_skeleton (constant_skeletons Σ) (skeleton A) (skeleton A) (context_skeletons (items_context J)) (variable n) nil (subst (SkeletonAt (context_skeletons (items_context J)) n) s (variable_has_skeleton (items_context J) n (rename_type (shift_by n) (weaken (rename_type ρ A))) at)) refl), goal_have bs K (lift_renaming ρ) (free_variable (rename_type ρ A) ∷ I))
    where
      none : (n : ℕ) → 0 + n ≡ n
      none n = omega arith
  goal_have (false ∷ bs) (kind_pi A K) ρ I = goal_have bs K (past_place ρ) I

  goal_arguments_typed : (Q : List LfType) → IsContext Σ Q → (V : ℕ → Bool) (b : List Bool) (K : Kind) (G : List LfType) (ρ : ℕ → ℕ) (I : List Item) (τ : ℕ → Image) (T : Spine) → IsContext Σ G → IsKind Σ G K → MentionChosenOnly V b K → AreTypedItems Σ W (goal_items b K ρ I) → SubstitutionBySkeletons (constant_skeletons Σ) (context_skeletons G) (context_skeletons (onto (items_context (goal_items b K ρ I)) Q)) τ → Likes V (context_skeletons G) τ (λ i. ρ i + chosen_count b K) → SpineSkeleton (constant_skeletons Σ) (context_skeletons (onto (items_context (goal_items b K ρ I)) Q)) T (kind_skeleton 0 K) (base 0) → TypedArguments Σ (onto (items_context (goal_items b K ρ I)) Q) (goal_arguments b K) T (substitute_kind reduce τ K)
  goal_arguments_typed Q cq V [] star G ρ I τ nil cg k m a s h t = tt
  goal_arguments_typed Q cq V [] star G ρ I τ (app N T) cg k m a s h t = absurd t
  goal_arguments_typed Q cq V [] (kind_pi A K) G ρ I τ T cg k m a s h t = absurd m
  goal_arguments_typed Q cq V (b ∷ bs) star G ρ I τ T cg k m a s h t = absurd m
  goal_arguments_typed Q cq V (true ∷ bs) (kind_pi A K) G ρ I τ nil cg k m a s h t = absurd (no_arrow t)
  goal_arguments_typed Q cq V (false ∷ bs) (kind_pi A K) G ρ I τ nil cg k m a s h t = absurd (no_arrow t)
  goal_arguments_typed Q cq V (true ∷ bs) (kind_pi A K) G ρ I τ (app N T) cg (t, k) (u, m) a s h (tn, ts) =
      let n : ℕ = chosen_count bs K in
      let B : LfType = rename_type ρ A in
      let J : List Item = goal_items bs K (lift_renaming ρ) (free_variable B ∷ I) in
      let X : List LfType = onto (items_context J) Q in
      let Z : LfType = rename_type (shift_by n) (weaken B) in
      let cx : IsContext Σ X = onto_context Σ ok (items_context J) Q (items_are_context Σ ok W typed J a) cq in
      let at : TypeAt X n Z = near_type (items_context J) Q n Z (subst (λ j. TypeAt (items_context J) j Z) (none n) (goal_behind bs K (lift_renaming ρ) (free_variable B ∷ I) zero (weaken B) refl)) in
      let z : Z ≡ substitute_type reduce τ A = renamings_compose_type (shift_by n) suc B ∙ renamings_compose_type (λ i. suc i + n) ρ A ∙ ap (λ f. rename_type f A) (fun_ext (λ i. next (ρ i) n)) ∙ sym (eta_on_type (constant_skeletons Σ) (family_skeletons Σ) V (context_skeletons G) (context_skeletons X) τ (λ i. ρ i + suc n) s h A (type_by_skeletons Σ G A t) u) in
      let M : Term = eta_long (skeleton A) (variable n) in
      let zs : skeleton Z ≡ skeleton A = ap skeleton z ∙ skeleton_substituted reduce τ A in
      let mt : HasType Σ X M (substitute_type reduce τ A) = subst (HasType Σ X M) z (subst (λ q. HasType Σ X (eta_long q (variable n)) Z) zs (eta_long_has_type Σ ok X (variable n) Z cx at)) in
      let mk : TermSkeleton (constant_skeletons Σ) (context_skeletons X) M (skeleton A) = subst (TermSkeleton (constant_skeletons Σ) (context_skeletons X) M) (skeleton_substituted reduce τ A) (typed_has_skeleton Σ X M (substitute_type reduce τ A) mt) in (
        mt,
        subst (TypedArguments Σ X (goal_arguments bs K) T) (sym (kind_front (constant_skeletons Σ) (family_skeletons Σ) (context_skeletons G) (context_skeletons X) τ A M K s mk (kind_by_skeletons Σ (A ∷ G) K k)))
            (goal_arguments_typed Q cq (under V) bs K (A ∷ G) (lift_renaming ρ) (free_variable B ∷ I) (in_front (put (skeleton A) M) τ) T (cg, t) k m a (front_fits (constant_skeletons Σ) (context_skeletons G) (context_skeletons X) (skeleton A) M τ mk s) (likes_chosen V (context_skeletons G) (skeleton A) τ ρ n h) ts),
      )
    where
      none : (n : ℕ) → 0 + n ≡ n
      none n = omega arith

      next : (i n : ℕ) → suc i + n ≡ i + suc n
      next i n = omega arith

      likes_chosen : (V : ℕ → Bool) (Γ : List Skeleton) (x : Skeleton) (τ : ℕ → Image) (ρ : ℕ → ℕ) (n : ℕ) → Likes V Γ τ (λ i. ρ i + suc n) → Likes (under V) (x ∷ Γ) (in_front (put x (eta_long x (variable n))) τ) (λ i. lift_renaming ρ i + n)
      likes_chosen V Γ x τ ρ n h zero t g v = inr (ap₂ (λ y j. put y (eta_long y (variable j))) g (sym (none n)))
      likes_chosen V Γ x τ ρ n h (suc i) t g v = by (h i t g v)
        where
          by : (τ i ≡ keep (ρ i + suc n)) ⊎ (τ i ≡ put t (eta_long t (variable (ρ i + suc n)))) → (τ i ≡ keep (suc (ρ i) + n)) ⊎ (τ i ≡ put t (eta_long t (variable (suc (ρ i) + n))))
          by (inl e) = inl (e ∙ ap keep (sym (next (ρ i) n)))
          by (inr e) = inr (e ∙ ap (λ j. put t (eta_long t (variable j))) (sym (next (ρ i) n)))
  goal_arguments_typed Q cq V (false ∷ bs) (kind_pi A K) G ρ I τ (app N T) cg (t, k) m a s h (tn, ts) =
      let X : List LfType = onto (items_context (goal_items bs K (past_place ρ) I)) Q in
      subst (TypedArguments Σ X (goal_arguments bs K) T) (sym (kind_front (constant_skeletons Σ) (family_skeletons Σ) (context_skeletons G) (context_skeletons X) τ A N K s tn (kind_by_skeletons Σ (A ∷ G) K k)))
      (goal_arguments_typed Q cq (hide V) bs K (A ∷ G) (past_place ρ) I (in_front (put (skeleton A) N) τ) T (cg, t) k m a (front_fits (constant_skeletons Σ) (context_skeletons G) (context_skeletons X) (skeleton A) N τ tn s) (likes_other V (context_skeletons G) (skeleton A) N τ ρ (chosen_count bs K) h) ts)
    where
      likes_other : (V : ℕ → Bool) (Γ : List Skeleton) (x : Skeleton) (N : Term) (τ : ℕ → Image) (ρ : ℕ → ℕ) (n : ℕ) → Likes V Γ τ (λ i. ρ i + n) → Likes (hide V) (x ∷ Γ) (in_front (put x N) τ) (λ i. past_place ρ i + n)
      likes_other V Γ x N τ ρ n h zero t g v = absurd cc
      likes_other V Γ x N τ ρ n h (suc i) t g v = h i t g v

  -- The lemma
  pub input_goal_typed : (a : ℕ) (b : List Bool) (K : Kind) → Σ.kinds a ≡ Some K → MentionChosenOnly nothing b K → (c : Clause) (o : Origin c) → IsTypedPattern Σ (head_pattern c o) → target c.type ≡ a → IsTypedBeside Σ W (input_goal a b K) (head_pattern c o)
  input_goal_typed a b K e m c o tp q =
      let I : List Item = goal_items b K (λ i. i) [] in
      let O : List LfType = items_context I in
      let Q : List LfType = scope c in
      let X : List LfType = onto O Q in
      let S : Spine = target_arguments c.type in
      let g : ℕ → Image = given_images Q [] (length O) in
      let k : IsKind Σ [] K = ok.kinds_ok a K e in
      let items : AreTypedItems Σ W I = goal_items_typed nothing b K [] (λ i. i) [] tt k m (λ i A h u. absurd h) (λ i A h u. absurd h) tt in
      let v : Values Σ (is_given []) Q O g = record { typed = λ i A h u. absurd cc; closed = λ i A h u. absurd cc } in
      let f : (L : Kind) → Σ.kinds (target c.type) ≡ Some L → Some L ≡ Some K = λ L r. sym r ∙ ap Σ.kinds q ∙ e in
      let ss : SpineSkeleton (constant_skeletons Σ) (context_skeletons Q) S (kind_skeleton 0 K) (base 0) = spine_of c tp K f in
      let ts : SpineSkeleton (constant_skeletons Σ) (context_skeletons X) (substitute_spine reduce g S) (kind_skeleton 0 K) (base 0) = substitution_keeps_spine_skeletons (constant_skeletons Σ) (context_skeletons Q) (context_skeletons X) g S (kind_skeleton 0 K) (base 0) (given_fits Σ O Q [] (values_near Σ ok (is_given []) Q O Q g v)) ss in
      record {
        by_skeletons = record { items = items; given = tt; arguments = goal_have b K (λ i. i) [] };
        local_typed = items_are_context Σ ok W typed I items;
        same_family = q;
        kind = K;
        of_family = e;
        given = v;
        local = refl;
        arguments = subst (TypedArguments Σ X (goal_arguments b K) (substitute_spine reduce g S)) (substitute_identity_kind reduce K) (goal_arguments_typed Q tp.clause_typed nothing b K [] (λ i. i) [] keep (substitute_spine reduce g S) tt k m items (λ i t z. absurd z) (λ i t z u. absurd z) ts);
      }
    where
      spine_of : (c : Clause) {o : Origin c} → IsTypedPattern Σ (head_pattern c o) → (K : Kind) → ((L : Kind) → Σ.kinds (target c.type) ≡ Some L → Some L ≡ Some K) → SpineSkeleton (constant_skeletons Σ) (context_skeletons (scope c)) (target_arguments c.type) (kind_skeleton 0 K) (base 0)
      spine_of c tp K f = by tp.type_typed
        where
          by : IsType Σ (scope c) (atom (target c.type) (target_arguments c.type)) → SpineSkeleton (constant_skeletons Σ) (context_skeletons (scope c)) (target_arguments c.type) (kind_skeleton 0 K) (base 0)
          by (L, r, s) = subst (λ N. SpineSkeleton (constant_skeletons Σ) (context_skeletons (scope c)) (target_arguments c.type) (kind_skeleton 0 N) (base 0)) (some_same (f L r)) (kind_spine_has_skeleton Σ 0 (scope c) (target_arguments c.type) L s)

  -- and without a head
  pub input_goal_alone : (a : ℕ) (b : List Bool) (K : Kind) → Σ.kinds a ≡ Some K → MentionChosenOnly nothing b K → IsTypedCase Σ W (input_goal a b K) × HasTypedLocal Σ (input_goal a b K)
  input_goal_alone a b K e m =
      let I : List Item = goal_items b K (λ i. i) [] in
      let items : AreTypedItems Σ W I = goal_items_typed nothing b K [] (λ i. i) [] tt (ok.kinds_ok a K e) m (λ i A h u. absurd h) (λ i A h u. absurd h) tt in
      (record { items = items; given = tt; arguments = goal_have b K (λ i. i) [] }, items_are_context Σ ok W typed I items)
