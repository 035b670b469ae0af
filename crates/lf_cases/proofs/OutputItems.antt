-- The output variables of a goal have values that give the outputs.
use Rattle.std.proofs.Common.{◌≡◌, ℕ, zero, suc, List, [], ◌∷◌, ◌+◌, length, refl, sym, ap, ap₂, ◌∙◌, subst, arith}
use Rattle.std.specs.Prelude.{Bool, true, false, Option, Some, None}
use Rattle.lf.specs.Syntax.{variable, Term, Spine, nil, app, LfType, Kind, pi, kind_pi, star, Skeleton, base, arrow, skeleton, kind_skeleton, rename, rename_spine, rename_type, rename_kind, lift_renaming}
use Rattle.lf.specs.Substitution.{Image, keep, put, rename_image, lift, single, substitute, substitute_spine, substitute_type, substitute_kind, reduce}
use Rattle.lf.specs.SkeletonTyping.{HeadSkeletons, SkeletonAt, TermSkeleton, SpineSkeleton, KindBySkeletons, SubstitutionBySkeletons, RenamingBySkeletons}
use Rattle.lf.specs.Skeletons.{constant_skeletons, family_skeletons, context_skeletons}
use Rattle.lf.specs.Typing.{Signature, HasType, SpineFitsKind, instantiate_kind, IsContext, IsKind, IsSignature}
use Rattle.lf.specs.Eta.{add_last, eta_expand, eta_long}
use Rattle.lf.specs.AtOnce.{in_front, shift_by, lift_renaming_by}
use Rattle.lf.specs.Variables.{target, onto, hide, everything, at_variable, ImageUses, SameOn, Uses, UsesType, Within}
use Rattle.lf.specs.Subordination.{Block}
use Rattle.lf.specs.Worlds.{World, lift_over, instance}
use Rattle.lf.proofs.Eta.{eta_both, eta_expand_has_skeleton, substitute_eta_expand}
use Rattle.lf.proofs.Renaming.{lift_up, lifted_substitution_weakened, reduction_is_natural, substitute_renamed, substitute_renamed_spine}
use Rattle.lf.proofs.SkeletonTyping.{renaming_keeps_skeletons, renaming_by_skeletons_under_binder, lift_by_skeletons}
use Rattle.lf.proofs.SkeletonTypes.{substitute_single_kind, single_kind_by_skeletons, substitution_keeps_kinds_by_skeletons}
use Rattle.lf.proofs.Target.{target_of}
use Rattle.lf.proofs.TypeLaws.{skeleton_renamed, skeleton_substituted, substitute_renamed_type, rename_substituted_type, substitute_renamed_kind, substitution_as_renaming_kind}
use Rattle.lf_checks.specs.Marks.{Mark, input, output, free, input_places, output_places, NoneFree, SamePlaces}
use Rattle.lf_cases.specs.Case.{Item, free_variable, IsGroundInstance, HasArguments, items_context, chosen_count}
use Rattle.lf_cases.specs.Raised.{raise_by, locals_by, raised_over, first_mask, other_masks, low, LowPlaces}
use Rattle.lf_cases.specs.Pattern.{FirstInstance}
use Rattle.lf_cases.specs.Split.{IsDistinct}
use Rattle.lf_cases.specs.OutputGoal.{renumber, over_item, raised_variable, output_masks, output_items, output_arguments}
use Rattle.lf_cases.proofs.Raised.{CanBeRaised, kept_by, can_raise, low_kept_by, raised, locals_fit as raised_locals_fit}
use Rattle.lf.proofs.Kept.{substitute_uses_type}
use Rattle.lf.proofs.Uses.{uses_renamed}
use Rattle.lf.proofs.Partial.{uses_all}
use Rattle.lf.proofs.Agreement.{agree_on_type, uses_within}
use Rattle.lf.proofs.Regular.{substitution_keeps_kinds}
use Rattle.lf.proofs.Substitution.{single_substitution_typed, skeleton_context_of}
use Rattle.lf.proofs.ToSkeletons.{typed_has_skeleton, kind_skeleton_substituted, type_by_skeletons}
use mathlib.Core.Path.{fun_ext}

-- Local contexts, renumbered.
pub lift_renumber : (ρ : ℕ → ℕ) (D : List LfType) (τ : ℕ → Image) → lift_over (renumber ρ D) τ ≡ lift_over D τ
lift_renumber ρ [] τ = refl
lift_renumber ρ (A ∷ D) τ = ap lift (lift_renumber ρ D τ)

pub length_renumber : (ρ : ℕ → ℕ) (D : List LfType) → length (renumber ρ D) ≡ length D
length_renumber ρ [] = refl
length_renumber ρ (A ∷ D) = ap suc (length_renumber ρ D)

pub length_instance : (D : List LfType) (τ : ℕ → Image) → length (instance D τ) ≡ length D
length_instance [] τ = refl
length_instance (A ∷ D) τ = ap suc (length_instance D τ)

-- values under a local context, after a renumbering of what stands outside it
pub lift_after : (D : List LfType) (ρ : ℕ → ℕ) (τ : ℕ → Image) → (λ i. lift_over D τ (lift_renaming_by (length D) ρ i)) ≡ lift_over D (λ i. τ (ρ i))
lift_after [] ρ τ = refl
lift_after (A ∷ D) ρ τ = fun_ext (lift_up (lift_over D τ) (lift_renaming_by (length D) ρ)) ∙ ap lift (lift_after D ρ τ)

pub instance_renumber : (ρ : ℕ → ℕ) (D : List LfType) (τ : ℕ → Image) → instance (renumber ρ D) τ ≡ instance D (λ i. τ (ρ i))
instance_renumber ρ [] τ = refl
instance_renumber ρ (A ∷ D) τ = ap₂ ◌∷◌ (ap (λ f. substitute_type reduce f (rename_type (lift_renaming_by (length D) ρ) A)) (lift_renumber ρ D τ) ∙ substitute_renamed_type reduce (lift_over D τ) (lift_renaming_by (length D) ρ) A ∙ ap (λ f. substitute_type reduce f A) (lift_after D ρ τ)) (instance_renumber ρ D τ)

-- a variable outside the local context
pub lift_over_far : (D : List LfType) (τ : ℕ → Image) (n : ℕ) → lift_over D τ (n + length D) ≡ rename_image (shift_by (length D)) (τ n)
lift_over_far [] τ n = ap τ (none n) ∙ sym (image_same (τ n))
  where
    none : (n : ℕ) → n + 0 ≡ n
    none n = omega arith

    image_same : (x : Image) → rename_image (shift_by 0) x ≡ x
    image_same (keep i) = ap keep (none i)
    image_same (put a N) = ap (put a) (ap (λ f. rename f N) (fun_ext none) ∙ Rattle.lf_cases.proofs.Raised.rename_identity N)
lift_over_far (A ∷ D) τ n = ap (lift (lift_over D τ)) (next n (length D)) ∙ ap (rename_image suc) (lift_over_far D τ n) ∙ image_next (τ n)
  where
    next : (n k : ℕ) → n + suc k ≡ suc (n + k)
    next n k = omega arith

    image_next : (x : Image) → rename_image suc (rename_image (shift_by (length D)) x) ≡ rename_image (shift_by (suc (length D))) x
    image_next (keep i) = ap keep (sym (next i (length D)))
    image_next (put a N) = ap (put a) (sym (Rattle.lf_cases.proofs.Raised.shift_next (length D) N))

-- The local variables that a mask chooses depend on skeletons alone.
add_same : (S S' : Spine) (a a' : Skeleton) → S ≡ S' → a ≡ a' → add_last (rename_spine suc S) (eta_long a (variable zero)) ≡ add_last (rename_spine suc S') (eta_long a' (variable zero))
add_same S S' a a' e f = ap₂ (λ U x. add_last (rename_spine suc U) (eta_long x (variable zero))) e f

pub low_renumber : (ks : List Bool) (ρ : ℕ → ℕ) (D : List LfType) → locals_by ks (renumber ρ D) ≡ locals_by ks D
low_renumber ks ρ [] = refl
low_renumber [] ρ (A ∷ D) = refl
low_renumber (true ∷ ks) ρ (A ∷ D) = add_same (locals_by ks (renumber ρ D)) (locals_by ks D) (skeleton (rename_type (lift_renaming_by (length D) ρ) A)) (skeleton A) (low_renumber ks ρ D) (skeleton_renamed (lift_renaming_by (length D) ρ) A)
low_renumber (false ∷ ks) ρ (A ∷ D) = ap (rename_spine suc) (low_renumber ks ρ D)

pub low_instance : (ks : List Bool) (D : List LfType) (τ : ℕ → Image) → locals_by ks (instance D τ) ≡ locals_by ks D
low_instance ks [] τ = refl
low_instance [] (A ∷ D) τ = refl
low_instance (true ∷ ks) (A ∷ D) τ = add_same (locals_by ks (instance D τ)) (locals_by ks D) (skeleton (substitute_type reduce (lift_over D τ) A)) (skeleton A) (low_instance ks D τ) (skeleton_substituted reduce (lift_over D τ) A)
low_instance (false ∷ ks) (A ∷ D) τ = ap (rename_spine suc) (low_instance ks D τ)

add_last_substituted : (σ : ℕ → Image) (S : Spine) (N : Term) → substitute_spine reduce σ (add_last S N) ≡ add_last (substitute_spine reduce σ S) (substitute reduce σ N)
add_last_substituted σ nil N = refl
add_last_substituted σ (app M S) N = ap (app (substitute reduce σ M)) (add_last_substituted σ S N)

weakened_substituted : (σ : ℕ → Image) (S : Spine) → substitute_spine reduce (lift σ) (rename_spine suc S) ≡ rename_spine suc (substitute_spine reduce σ S)
weakened_substituted σ nil = refl
weakened_substituted σ (app M S) = ap₂ app (lifted_substitution_weakened reduce reduction_is_natural σ M) (weakened_substituted σ S)

-- they stay where they are
pub low_kept : (ks : List Bool) (D : List LfType) (τ : ℕ → Image) → substitute_spine reduce (lift_over D τ) (locals_by ks D) ≡ locals_by ks D
low_kept ks [] τ = refl
low_kept [] (A ∷ D) τ = refl
low_kept (true ∷ ks) (A ∷ D) τ = add_last_substituted (lift (lift_over D τ)) (rename_spine suc (locals_by ks D)) (eta_long (skeleton A) (variable zero)) ∙ ap₂ add_last (weakened_substituted (lift_over D τ) (locals_by ks D) ∙ ap (rename_spine suc) (low_kept ks D τ)) (substitute_eta_expand (lift (lift_over D τ)) (skeleton A) (variable zero) (variable zero) nil refl)
low_kept (false ∷ ks) (A ∷ D) τ = weakened_substituted (lift_over D τ) (locals_by ks D) ∙ ap (rename_spine suc) (low_kept ks D τ)

-- A raised type, under values, is the raised type of the instance.
dropped : (σ : ℕ → Image) (B : LfType) → UsesType (hide everything) B → substitute_type reduce σ (rename_type (at_variable zero) B) ≡ rename_type (at_variable zero) (substitute_type reduce (lift σ) B)
dropped σ B u = substitute_renamed_type reduce σ (at_variable zero) B ∙ agree_on_type reduce (hide everything) (λ i. σ (at_variable zero i)) (λ i. rename_image (at_variable zero) (lift σ i)) B same u ∙ sym (rename_substituted_type reduce reduction_is_natural (at_variable zero) (lift σ) B)
  where
    back : (x : Image) → x ≡ rename_image (at_variable zero) (rename_image suc x)
    back (keep i) = refl
    back (put a N) = ap (put a) (sym (Rattle.lf.proofs.Renaming.renamings_compose (at_variable zero) suc N ∙ Rattle.lf_cases.proofs.Raised.rename_identity N))

    same : SameOn (hide everything) (λ i. σ (at_variable zero i)) (λ i. rename_image (at_variable zero) (lift σ i))
    same zero e = absurd cc
    same (suc i) e = back (σ i)

pub raise_substituted : (ks : List Bool) (D : List LfType) (B : LfType) (τ : ℕ → Image) → CanBeRaised ks D B → substitute_type reduce τ (raise_by ks D B) ≡ raise_by ks (instance D τ) (substitute_type reduce (lift_over D τ) B)
raise_substituted ks [] B τ r = refl
raise_substituted [] (A ∷ D) B τ r = absurd r
raise_substituted (true ∷ ks) (A ∷ D) B τ r = raise_substituted ks D (pi A B) τ r
raise_substituted (false ∷ ks) (A ∷ D) B τ (u, r) = raise_substituted ks D (rename_type (at_variable zero) B) τ r ∙ ap (raise_by ks (instance D τ)) (dropped (lift_over D τ) B u)

-- what can be raised stays so under values
dropped_uses : (σ : ℕ → Image) (B : LfType) → UsesType (hide everything) B → UsesType (hide everything) (substitute_type reduce (lift σ) B)
dropped_uses σ B u = substitute_uses_type (hide everything) (hide everything) (lift σ) B images u
  where
    images : (i : ℕ) → hide everything i ≡ true → ImageUses (hide everything) (lift σ i)
    images zero e = absurd cc
    images (suc i) e = moved (σ i)
      where
        moved : (x : Image) → ImageUses (hide everything) (rename_image suc x)
        moved (keep j) = refl
        moved (put a N) = uses_renamed everything (hide everything) suc N (λ j v. refl) (uses_all everything N (λ j. refl))

pub can_substituted : (ks : List Bool) (D : List LfType) (B : LfType) (τ : ℕ → Image) → CanBeRaised ks D B → CanBeRaised ks (instance D τ) (substitute_type reduce (lift_over D τ) B)
can_substituted ks [] B τ r = tt
can_substituted [] (A ∷ D) B τ r = absurd r
can_substituted (true ∷ ks) (A ∷ D) B τ r = can_substituted ks D (pi A B) τ r
can_substituted (false ∷ ks) (A ∷ D) B τ (u, r) = (dropped_uses (lift_over D τ) B u, subst (CanBeRaised ks (instance D τ)) (dropped (lift_over D τ) B u) (can_substituted ks D (rename_type (at_variable zero) B) τ r))

-- its skeleton depends on skeletons alone
pub raise_skeleton : (ks : List Bool) (D : List LfType) (τ : ℕ → Image) (B B' : LfType) → skeleton B' ≡ skeleton B → skeleton (raise_by ks (instance D τ) B') ≡ skeleton (raise_by ks D B)
raise_skeleton ks [] τ B B' e = e
raise_skeleton [] (A ∷ D) τ B B' e = e
raise_skeleton (true ∷ ks) (A ∷ D) τ B B' e = raise_skeleton ks D τ (pi A B) (pi (substitute_type reduce (lift_over D τ) A) B') (ap₂ arrow (skeleton_substituted reduce (lift_over D τ) A) e)
raise_skeleton (false ∷ ks) (A ∷ D) τ B B' e = raise_skeleton ks D τ (rename_type (at_variable zero) B) (rename_type (at_variable zero) B') (skeleton_renamed (at_variable zero) B' ∙ e ∙ sym (skeleton_renamed (at_variable zero) B))

-- the chosen local variables, and those of lower families, under values
low_under : (T : ℕ → Bool) (D : List LfType) (τ : ℕ → Image) (i : ℕ) → low T (instance D τ) i ≡ true → low T D i ≡ true
low_under T [] τ i e = refl
low_under T (A ∷ D) τ zero e = ap T (sym (target_of reduce (lift_over D τ) A)) ∙ e
low_under T (A ∷ D) τ (suc i) e = low_under T D τ i e

kept_under : (ks : List Bool) (D : List LfType) (τ : ℕ → Image) (i : ℕ) → kept_by ks D i ≡ true → kept_by ks (instance D τ) i ≡ true
kept_under ks [] τ i e = refl
kept_under [] (A ∷ D) τ i e = e
kept_under (k ∷ ks) (A ∷ D) τ zero e = e
kept_under (k ∷ ks) (A ∷ D) τ (suc i) e = kept_under ks D τ i e

-- The arguments of the goal depend on targets and skeletons alone.
pub count_substituted : (m : List Bool) (σ : ℕ → Image) (K : Kind) → chosen_count m (substitute_kind reduce σ K) ≡ chosen_count m K
count_substituted [] σ K = refl
count_substituted (b ∷ m) σ star = refl
count_substituted (true ∷ m) σ (kind_pi A K) = ap suc (count_substituted m (lift σ) K)
count_substituted (false ∷ m) σ (kind_pi A K) = count_substituted m (lift σ) K

variable_same : (k : List Bool) (D : List LfType) (A A' : LfType) (n n' : ℕ) → skeleton A' ≡ skeleton A → n' ≡ n → raised_variable k D A' n' ≡ raised_variable k D A n
variable_same k D A A' n n' f g = ap (λ s. eta_expand s (variable (n' + length D)) (locals_by k D)) f ∙ ap (λ l. eta_expand (skeleton A) (variable (l + length D)) (locals_by k D)) g

pub arguments_substituted : (ks : List (List Bool)) (D : List LfType) (m : List Bool) (σ : ℕ → Image) (K : Kind) → output_arguments ks D m (substitute_kind reduce σ K) ≡ output_arguments ks D m K
arguments_substituted ks D [] σ K = refl
arguments_substituted ks D (b ∷ m) σ star = refl
arguments_substituted ks D (true ∷ m) σ (kind_pi A K) = ap₂ (λ M Ms. Some M ∷ Ms) (variable_same (first_mask ks) D A (substitute_type reduce σ A) (chosen_count m K) (chosen_count m (substitute_kind reduce (lift σ) K)) (skeleton_substituted reduce σ A) (count_substituted m (lift σ) K)) (arguments_substituted (other_masks ks) D m (lift σ) K)
arguments_substituted ks D (false ∷ m) σ (kind_pi A K) = ap (λ Ms. None ∷ Ms) (arguments_substituted ks D m (lift σ) K)

pub arguments_renumber : (ks : List (List Bool)) (ρ : ℕ → ℕ) (D : List LfType) (m : List Bool) (K : Kind) → output_arguments ks (renumber ρ D) m K ≡ output_arguments ks D m K
arguments_renumber ks ρ D [] K = refl
arguments_renumber ks ρ D (b ∷ m) star = refl
arguments_renumber ks ρ D (true ∷ m) (kind_pi A K) = ap₂ (λ M Ms. Some M ∷ Ms) (ap₂ (λ k S. eta_expand (skeleton A) (variable (chosen_count m K + k)) S) (length_renumber ρ D) (low_renumber (first_mask ks) ρ D)) (arguments_renumber (other_masks ks) ρ D m K)
arguments_renumber ks ρ D (false ∷ m) (kind_pi A K) = ap (λ Ms. None ∷ Ms) (arguments_renumber ks ρ D m K)

-- a renaming does to a kind what it does as a substitution
as_substitution : (ρ : ℕ → ℕ) (K : Kind) → rename_kind ρ K ≡ substitute_kind reduce (λ i. keep (ρ i)) K
as_substitution ρ K = sym (substitution_as_renaming_kind reduce ρ K)

put_in_renamed : (m : List Bool) (s : ℕ → Image) (ρ : ℕ → ℕ) (K : Kind) → chosen_count m (substitute_kind reduce s (rename_kind ρ K)) ≡ chosen_count m K
put_in_renamed m s ρ K = count_substituted m s (rename_kind ρ K) ∙ ap (chosen_count m) (as_substitution ρ K) ∙ count_substituted m (λ i. keep (ρ i)) K

arguments_put_in : (ks : List (List Bool)) (D : List LfType) (m : List Bool) (s : ℕ → Image) (ρ : ℕ → ℕ) (K : Kind) → output_arguments ks D m (substitute_kind reduce s (rename_kind ρ K)) ≡ output_arguments ks D m K
arguments_put_in ks D m s ρ K = arguments_substituted ks D m s (rename_kind ρ K) ∙ ap (output_arguments ks D m) (as_substitution ρ K) ∙ arguments_substituted ks D m (λ i. keep (ρ i)) K

kind_put_in : (a : ℕ) (s : ℕ → Image) (ρ : ℕ → ℕ) (K : Kind) → kind_skeleton a (substitute_kind reduce s (rename_kind ρ K)) ≡ kind_skeleton a K
kind_put_in a s ρ K = kind_skeleton_substituted a reduce s (rename_kind ρ K) ∙ ap (kind_skeleton a) (as_substitution ρ K) ∙ kind_skeleton_substituted a reduce (λ i. keep (ρ i)) K

pub locals_same : (ρ : ℕ → ℕ) (D X : List LfType) → context_skeletons (onto (renumber ρ D) X) ≡ context_skeletons (onto D X)
locals_same ρ [] X = refl
locals_same ρ (A ∷ D) X = ap₂ ◌∷◌ (skeleton_renamed (lift_renaming_by (length D) ρ) A) (locals_same ρ D X)

-- The input places of a spine fit this skeleton.
abbrev pub InputsFit : HeadSkeletons → List Skeleton → List Mark → Spine → Skeleton → Type 0
InputsFit κ Γ [] S t = Unit {0}
InputsFit κ Γ (b ∷ m) nil t = Unit {0}
InputsFit κ Γ (b ∷ m) (app M S) (base c) = Unit {0}
InputsFit κ Γ (input ∷ m) (app M S) (arrow a t) = TermSkeleton κ Γ M a × InputsFit κ Γ m S t
InputsFit κ Γ (output ∷ m) (app M S) (arrow a t) = InputsFit κ Γ m S t
InputsFit κ Γ (free ∷ m) (app M S) (arrow a t) = InputsFit κ Γ m S t

inputs_renamed : (κ : HeadSkeletons) (Γ Δ : List Skeleton) (ρ : ℕ → ℕ) (m : List Mark) (S : Spine) (t : Skeleton) → RenamingBySkeletons Γ Δ ρ → InputsFit κ Γ m S t → InputsFit κ Δ m (rename_spine ρ S) t
inputs_renamed κ Γ Δ ρ [] S t g h = tt
inputs_renamed κ Γ Δ ρ (b ∷ m) nil t g h = tt
inputs_renamed κ Γ Δ ρ (b ∷ m) (app M S) (base c) g h = tt
inputs_renamed κ Γ Δ ρ (input ∷ m) (app M S) (arrow a t) g (k, h) = (renaming_keeps_skeletons κ Γ Δ ρ M a g k, inputs_renamed κ Γ Δ ρ m S t g h)
inputs_renamed κ Γ Δ ρ (output ∷ m) (app M S) (arrow a t) g h = inputs_renamed κ Γ Δ ρ m S t g h
inputs_renamed κ Γ Δ ρ (free ∷ m) (app M S) (arrow a t) g h = inputs_renamed κ Γ Δ ρ m S t g h

module _ (Σ : Signature) where
  abbrev κ : HeadSkeletons
  κ = constant_skeletons Σ

  abbrev under_locals : List LfType → List LfType → List Skeleton
  under_locals D X = context_skeletons (onto D X)

  -- the local variables that are chosen take the raised type's skeleton to its own
  locals_fit : (k : List Bool) (D X : List LfType) (B : LfType) → SpineSkeleton κ (under_locals D X) (locals_by k D) (skeleton (raise_by k D B)) (skeleton B)
  locals_fit k D X B = raised_locals_fit Σ k D X B

  -- a variable outside the local context, by skeletons
  far_at : (D X : List LfType) (n : ℕ) (t : Skeleton) → SkeletonAt (context_skeletons X) n t → SkeletonAt (under_locals D X) (n + length D) t
  far_at [] X n t g = subst (λ k. SkeletonAt (context_skeletons X) k t) (none n) g
    where
      none : (n : ℕ) → n ≡ n + 0
      none n = omega arith
  far_at (A ∷ D) X n t g = subst (λ k. SkeletonAt (skeleton A ∷ under_locals D X) k t) (next n (length D)) (far_at D X n t g)
    where
      next : (n k : ℕ) → suc (n + k) ≡ n + suc k
      next n k = omega arith

  pub variable_fits : (k : List Bool) (D X : List LfType) (B : LfType) (n : ℕ) → SkeletonAt (context_skeletons X) n (skeleton (raise_by k D B)) → TermSkeleton κ (under_locals D X) (raised_variable k D B n) (skeleton B)
  variable_fits k D X B n g = eta_expand_has_skeleton κ (skeleton B) (skeleton (raise_by k D B)) (under_locals D X) (variable (n + length D)) (locals_by k D) (far_at D X n (skeleton (raise_by k D B)) g) (locals_fit k D X B)

  -- values by skeletons, under a local context
  pub lifted : (D X G : List LfType) (τ : ℕ → Image) → SubstitutionBySkeletons κ (context_skeletons X) (context_skeletons G) τ → SubstitutionBySkeletons κ (under_locals D X) (under_locals (instance D τ) G) (lift_over D τ)
  lifted [] X G τ s = s
  lifted (A ∷ D) X G τ s = subst (λ a. SubstitutionBySkeletons κ (skeleton A ∷ under_locals D X) (a ∷ under_locals (instance D τ) G) (lift (lift_over D τ))) (sym (skeleton_substituted reduce (lift_over D τ) A)) (lift_by_skeletons κ (skeleton A) (under_locals D X) (under_locals (instance D τ) G) (lift_over D τ) (lifted D X G τ s))

  -- one more item
  over_item_fits : (D X : List LfType) (Y : LfType) → RenamingBySkeletons (under_locals D X) (under_locals (renumber suc D) (Y ∷ X)) (over_item D)
  over_item_fits [] X Y i t g = g
  over_item_fits (A ∷ D) X Y i t g = (subst (λ a. RenamingBySkeletons (skeleton A ∷ under_locals D X) (a ∷ under_locals (renumber suc D) (Y ∷ X)) (over_item (A ∷ D))) (sym (skeleton_renamed (lift_renaming_by (length D) suc) A)) (renaming_by_skeletons_under_binder (under_locals D X) (under_locals (renumber suc D) (Y ∷ X)) (over_item D) (skeleton A) (λ i t g. over_item_fits D X Y i t g))) i t g

  -- what a raised variable is, where its value gives the output
  value_of_variable : (k : List Bool) (D : List LfType) (B : LfType) (G : List LfType) (τ : ℕ → Image) (n : ℕ) (N M : Term) (t : Skeleton) → t ≡ skeleton (raise_by k D B) → τ n ≡ put t N → TermSkeleton κ (context_skeletons G) N t → reduce t (rename (shift_by (length D)) N) (locals_by k D) ≡ M → substitute reduce (lift_over D τ) (raised_variable k D B n) ≡ M
  value_of_variable k D B G τ n N M t q e s r =
      let Δ : List Skeleton = under_locals (instance D τ) G in
      let N' : Term = rename (shift_by (length D)) N in
      let n' : TermSkeleton κ Δ N' t = subst (λ l. TermSkeleton κ Δ (rename (shift_by l) N) t) (length_instance D τ) (shifted (instance D τ) G N t s) in
      let fit : SpineSkeleton κ Δ (substitute_spine reduce (lift_over D τ) (locals_by k D)) t (skeleton B) = subst (λ S. SpineSkeleton κ Δ S t (skeleton B)) (low_instance k D τ ∙ sym (low_kept k D τ)) (subst (λ a. SpineSkeleton κ Δ (locals_by k (instance D τ)) a (skeleton B)) (sym q) (instance_fit k D G B τ)) in
      (eta_both κ (skeleton B)).1 Δ (lift_over D τ) (n + length D) t N' (locals_by k D) (lift_over_far D τ n ∙ ap (rename_image (shift_by (length D))) e) n' fit ∙ ap (reduce t N') (low_kept k D τ) ∙ r
    where
      shifted : (D G : List LfType) (N : Term) (t : Skeleton) → TermSkeleton κ (context_skeletons G) N t → TermSkeleton κ (under_locals D G) (rename (shift_by (length D)) N) t
      shifted [] G N t n = subst (λ M. TermSkeleton κ (context_skeletons G) M t) (sym (ap (λ f. rename f N) (fun_ext (λ i. no_shift i)) ∙ Rattle.lf_cases.proofs.Raised.rename_identity N)) n
        where
          no_shift : (i : ℕ) → i + 0 ≡ i
          no_shift i = omega arith
      shifted (A ∷ D) G N t n = subst (λ M. TermSkeleton κ (skeleton A ∷ under_locals D G) M t) (sym (Rattle.lf_cases.proofs.Raised.shift_next (length D) N)) (renaming_keeps_skeletons κ (under_locals D G) (skeleton A ∷ under_locals D G) suc (rename (shift_by (length D)) N) t (λ i u g. g) (shifted D G N t n))

      instance_fit : (k : List Bool) (D G : List LfType) (B : LfType) (τ : ℕ → Image) → SpineSkeleton κ (under_locals (instance D τ) G) (locals_by k (instance D τ)) (skeleton (raise_by k D B)) (skeleton B)
      instance_fit k D G B τ = subst (λ a. SpineSkeleton κ (under_locals (instance D τ) G) (locals_by k (instance D τ)) a (skeleton B)) (raise_skeleton k D τ B (substitute_type reduce (lift_over D τ) B) (skeleton_substituted reduce (lift_over D τ) B)) (subst (SpineSkeleton κ (under_locals (instance D τ) G) (locals_by k (instance D τ)) (skeleton (raise_by k (instance D τ) (substitute_type reduce (lift_over D τ) B)))) (skeleton_substituted reduce (lift_over D τ) B) (locals_fit k (instance D τ) G (substitute_type reduce (lift_over D τ) B)))

pub in_front_fits : (κ : HeadSkeletons) (Γ Δ : List Skeleton) (a : Skeleton) (N : Term) (τ : ℕ → Image) → TermSkeleton κ Δ N a → SubstitutionBySkeletons κ Γ Δ τ → SubstitutionBySkeletons κ (a ∷ Γ) Δ (in_front (put a N) τ)
in_front_fits κ Γ Δ a N τ n s zero t e = (e, n)
in_front_fits κ Γ Δ a N τ n s (suc i) t g = s i t g

-- The items J go on from I: the first block variable stands for the same instance, and different ones for different instances.
abbrev pub Follows : {Σ : Signature} {W : List Block} {S : ℕ → Bool} {G : List LfType} (w : World Σ W S G) (I : List Item) (τ : ℕ → Image) → IsGroundInstance w I τ → (J : List Item) (φ : ℕ → Image) → IsGroundInstance w J φ → Type 0
Follows w I τ g J φ h = ((B : Block) (ψ : ℕ → Image) → FirstInstance w I τ g B ψ → FirstInstance w J φ h B ψ) × (IsDistinct w I τ g → IsDistinct w J φ h)

module _ (Σ : Signature) (ok : IsSignature Σ) (below : ℕ → ℕ → Bool) {W : List Block} {S : ℕ → Bool} {G : List LfType} (w : World Σ W S G) where
  -- the values found for the output variables, which keep the earlier ones, with the outputs T that they give
  abbrev pub Found : List (List Bool) → List LfType → List Bool → Spine → Kind → (I : List Item) (τ : ℕ → Image) → IsGroundInstance w I τ → Spine → Type 0
  Found ks D m S K I τ g T = (φ : ℕ → Image) × (gφ : IsGroundInstance w (output_items ks D m S K I) φ) × Follows w I τ g (output_items ks D m S K I) φ gφ × HasArguments (lift_over D φ) (output_arguments ks D m K) T × ((k : ℕ) → φ (k + chosen_count m K) ≡ τ k)

  abbrev φκ : ℕ → Option Skeleton
  φκ = family_skeletons Σ

  -- an input of the subgoal put in, under values
  input_put_in : (D : List LfType) (I : List Item) (τ : ℕ → Image) (A : LfType) (M : Term) (K : Kind) → SubstitutionBySkeletons (constant_skeletons Σ) (context_skeletons (items_context I)) (context_skeletons G) τ → TermSkeleton (constant_skeletons Σ) (context_skeletons (onto D (items_context I))) M (skeleton A) → KindBySkeletons φκ (constant_skeletons Σ) (skeleton A ∷ context_skeletons (onto D (items_context I))) K → substitute_kind reduce (lift_over D τ) (instantiate_kind A M K) ≡ instantiate_kind (substitute_type reduce (lift_over D τ) A) (substitute reduce (lift_over D τ) M) (substitute_kind reduce (lift (lift_over D τ)) K)
  input_put_in D I τ A M K s m k = substitute_single_kind φκ (constant_skeletons Σ) (context_skeletons (onto D (items_context I))) (context_skeletons (onto (instance D τ) G)) (lift_over D τ) (skeleton A) M K (lifted Σ D (items_context I) G τ s) m k ∙ ap (λ a. substitute_kind reduce (single a (substitute reduce (lift_over D τ) M)) (substitute_kind reduce (lift (lift_over D τ)) K)) (sym (skeleton_substituted reduce (lift_over D τ) A))

  -- What is asked of the masks: at each output place the type can be raised, over the variables of lower families and maybe more.
  abbrev pub MayRaise : List (List Bool) → List LfType → List Bool → Spine → Kind → Type 0
  MayRaise ks D [] S K = Unit {0}
  MayRaise ks D (b ∷ m) nil K = Unit {0}
  MayRaise ks D (b ∷ m) (app M S) star = Unit {0}
  MayRaise ks D (false ∷ m) (app M S) (kind_pi A K) = MayRaise ks D m S (instantiate_kind A M K)
  MayRaise ks D (true ∷ m) (app M S) (kind_pi A K) = CanBeRaised (first_mask ks) D A × Within (low (below (target A)) D) (kept_by (first_mask ks) D) × MayRaise (other_masks ks) (renumber suc D) m (rename_spine (over_item D) S) (instantiate_kind A (raised_variable (first_mask ks) D A zero) (rename_kind (lift_renaming (over_item D)) K))

  pub masks_may : (D : List LfType) (m : List Bool) (S : Spine) (K : Kind) → MayRaise (output_masks below D m S K) D m S K
  masks_may D [] S K = tt
  masks_may D (b ∷ m) nil K = tt
  masks_may D (b ∷ m) (app M S) star = tt
  masks_may D (false ∷ m) (app M S) (kind_pi A K) = masks_may D m S (instantiate_kind A M K)
  masks_may D (true ∷ m) (app M S) (kind_pi A K) = (can_raise (below (target A)) D A, low_kept_by (below (target A)) D A, masks_may (renumber suc D) m (rename_spine (over_item D) S) (instantiate_kind A (raised_variable (raised_over (below (target A)) D A) D A zero) (rename_kind (lift_renaming (over_item D)) K)))

  -- a kind with an argument put in
  kind_put : (C : List LfType) (A : LfType) (N : Term) (K : Kind) → IsContext Σ C → IsKind Σ C (kind_pi A K) → HasType Σ C N A → IsKind Σ C (instantiate_kind A N K)
  kind_put C A N K c (a, k) t = substitution_keeps_kinds Σ ok (A ∷ C) C (single (skeleton A) N) K (single_substitution_typed Σ ok C A N (skeleton_context_of Σ ok C c) (type_by_skeletons Σ C A a) t) k

  pub found : (ks : List (List Bool)) (D : List LfType) (m : List Mark) (S : Spine) (K : Kind) (a : ℕ) (I : List Item) (τ : ℕ → Image) (T : Spine) → NoneFree m → (g : IsGroundInstance w I τ) → SubstitutionBySkeletons (constant_skeletons Σ) (context_skeletons (items_context I)) (context_skeletons G) τ → KindBySkeletons φκ (constant_skeletons Σ) (context_skeletons (onto D (items_context I))) K → InputsFit (constant_skeletons Σ) (context_skeletons (onto D (items_context I))) m S (kind_skeleton a K) → IsContext Σ (onto (instance D τ) G) → IsKind Σ (onto (instance D τ) G) (substitute_kind reduce (lift_over D τ) K) → MayRaise ks D (output_places m) S K → SamePlaces (input_places m) (substitute_spine reduce (lift_over D τ) S) T → SpineFitsKind Σ (onto (instance D τ) G) T (substitute_kind reduce (lift_over D τ) K) → LowPlaces below (instance D τ) (output_places m) T (substitute_kind reduce (lift_over D τ) K) → Found ks D (output_places m) S K I τ g T
  found ks D [] nil K a I τ nil n g s kb fit c ik r p t h = (τ, g, ((λ B ψ z. z), (λ z. z)), tt, λ k. ap τ (none k))
    where
      none : (k : ℕ) → k + 0 ≡ k
      none k = omega arith
  found ks D [] nil K a I τ (app M T) n g s kb fit c ik r p t h = absurd p
  found ks D [] (app M S) K a I τ T n g s kb fit c ik r p t h = absurd p
  found ks D (b ∷ m) nil K a I τ T n g s kb fit c ik r p t h = absurd p
  found ks D (b ∷ m) (app M S) K a I τ nil n g s kb fit c ik r p t h = absurd p
  found ks D (b ∷ m) (app M S) star a I τ (app N T) n g s kb fit c ik r p t h = absurd t
  found ks D (input ∷ m) (app M S) (kind_pi A K) a I τ (app N T) n g s (ka, kb) (fm, fit) c ik r (e, p) (t, ts) h =
      let κ : HeadSkeletons = constant_skeletons Σ in
      let Γ : List Skeleton = context_skeletons (onto D (items_context I)) in
      let q : instantiate_kind (substitute_type reduce (lift_over D τ) A) N (substitute_kind reduce (lift (lift_over D τ)) K) ≡ substitute_kind reduce (lift_over D τ) (instantiate_kind A M K) = ap (λ X. instantiate_kind (substitute_type reduce (lift_over D τ) A) X (substitute_kind reduce (lift (lift_over D τ)) K)) (sym e) ∙ sym (input_put_in D I τ A M K s fm kb) in
      let (φ, g', fi, args, keeps) = found ks D m S (instantiate_kind A M K) a I τ T n g s (single_kind_by_skeletons φκ κ (skeleton A) Γ M K fm kb) (subst (InputsFit κ Γ m S) (sym (kind_skeleton_substituted a reduce (single (skeleton A) M) K)) fit) c (subst (IsKind Σ (onto (instance D τ) G)) q (kind_put (onto (instance D τ) G) (substitute_type reduce (lift_over D τ) A) N (substitute_kind reduce (lift (lift_over D τ)) K) c ik t)) r p (subst (SpineFitsKind Σ (onto (instance D τ) G) T) q ts) (subst (LowPlaces below (instance D τ) (output_places m) T) q h) in
      (φ, g', fi, subst (λ Ms. HasArguments (lift_over D φ) Ms T) (arguments_substituted ks D (output_places m) (single (skeleton A) M) K) args, λ k. ap φ (ap (λ c. k + c) (sym (count_substituted (output_places m) (single (skeleton A) M) K))) ∙ keeps k)
  found ks D (output ∷ m) (app M S) (kind_pi A K) a I τ (app N T) n g s (ka, kb) fit c ik (ra, rl, r) p (t, ts) (un, h) =
      let κ : HeadSkeletons = constant_skeletons Σ in
      let k0 : List Bool = first_mask ks in
      let X : LfType = raise_by k0 D A in
      let I' : List Item = free_variable X ∷ I in
      let D' : List LfType = renumber suc D in
      let Γ : List Skeleton = context_skeletons (onto D (items_context I)) in
      let Γ' : List Skeleton = context_skeletons (onto D' (items_context I')) in
      let Ag : LfType = substitute_type reduce (lift_over D τ) A in
      let tg : target Ag ≡ target A = target_of reduce (lift_over D τ) A in
      let used : Uses (kept_by k0 (instance D τ)) N = uses_within (low (below (target Ag)) (instance D τ)) (kept_by k0 (instance D τ)) N (λ i e. kept_under k0 D τ i (rl i (low_under (below (target A)) D τ i (ap (λ o. low (below o) (instance D τ) i) (sym tg) ∙ e)))) un in
      let (N', nt, ne) = raised Σ ok k0 (instance D τ) G c N Ag ik.0 t (can_substituted k0 D A τ ra) used in
      let nt' : HasType Σ G N' (substitute_type reduce τ X) = subst (HasType Σ G N') (sym (raise_substituted k0 D A τ ra)) nt in
      let sn : TermSkeleton κ (context_skeletons G) N' (skeleton X) = subst (TermSkeleton κ (context_skeletons G) N') (skeleton_substituted reduce τ X) (typed_has_skeleton Σ G N' (substitute_type reduce τ X) nt') in
      let τ' : ℕ → Image = in_front (put (skeleton X) N') τ in
      let s' : SubstitutionBySkeletons κ (skeleton X ∷ context_skeletons (items_context I)) (context_skeletons G) τ' = in_front_fits κ (context_skeletons (items_context I)) (context_skeletons G) (skeleton X) N' τ sn s in
      let through : (λ i. lift_over D' τ' (over_item D i)) ≡ lift_over D τ = ap (λ f i. f (over_item D i)) (lift_renumber suc D τ') ∙ lift_after D suc τ' in
      let ed : instance D' τ' ≡ instance D τ = instance_renumber suc D τ' in
      let ne2 : reduce (skeleton X) (rename (shift_by (length D)) N') (locals_by k0 D) ≡ N = subst (λ L. reduce (skeleton X) (rename (shift_by (length D)) N') L ≡ N) (low_instance k0 D τ) (subst (λ l. reduce (skeleton X) (rename (shift_by l) N') (locals_by k0 (instance D τ)) ≡ N) (length_instance D τ) (subst (λ x. reduce x (rename (shift_by (length (instance D τ))) N') (locals_by k0 (instance D τ)) ≡ N) (raise_skeleton k0 D τ A Ag (skeleton_substituted reduce (lift_over D τ) A)) ne)) in
      let value : (φ : ℕ → Image) (k : ℕ) → φ k ≡ put (skeleton X) N' → substitute reduce (lift_over D φ) (raised_variable k0 D A k) ≡ N = λ φ k e. value_of_variable Σ k0 D A G φ k N' N (skeleton X) refl e sn ne2 in
      let M0 : Term = raised_variable k0 D A zero in
      let ρ : ℕ → ℕ = lift_renaming (over_item D) in
      let one : ℕ → Image = single (skeleton A) M0 in
      let m0 : TermSkeleton κ Γ' M0 (skeleton A) = subst (λ Δ. TermSkeleton κ Δ M0 (skeleton A)) (sym (locals_same suc D (items_context I'))) (variable_fits Σ k0 D (items_context I') A zero refl) in
      let fits : RenamingBySkeletons Γ Γ' (over_item D) = over_item_fits Σ D (items_context I) X in
      let kr : KindBySkeletons φκ κ (skeleton A ∷ Γ') (rename_kind ρ K) = subst (KindBySkeletons φκ κ (skeleton A ∷ Γ')) (sym (as_substitution ρ K)) (substitution_keeps_kinds_by_skeletons φκ κ (skeleton A ∷ Γ) (skeleton A ∷ Γ') (λ i. keep (ρ i)) K (renaming_by_skeletons_under_binder Γ Γ' (over_item D) (skeleton A) fits) kb) in
      let K' : Kind = instantiate_kind A M0 (rename_kind ρ K) in
      let deep : substitute_kind reduce (lift (lift_over D' τ')) (rename_kind ρ K) ≡ substitute_kind reduce (lift (lift_over D τ)) K = substitute_renamed_kind reduce (lift (lift_over D' τ')) ρ K ∙ ap (λ f. substitute_kind reduce f K) (fun_ext (lift_up (lift_over D' τ') (over_item D)) ∙ ap lift through) in
      let here : substitute reduce (lift_over D' τ') M0 ≡ N = ap (λ f. substitute reduce f M0) (lift_renumber suc D τ') ∙ value τ' zero refl in
      let kk : substitute_kind reduce (lift_over D' τ') K' ≡ instantiate_kind Ag N (substitute_kind reduce (lift (lift_over D τ)) K) = input_put_in D' I' τ' A M0 (rename_kind ρ K) s' m0 kr ∙ ap (λ x. substitute_kind reduce (single x (substitute reduce (lift_over D' τ') M0)) (substitute_kind reduce (lift (lift_over D' τ')) (rename_kind ρ K))) (skeleton_substituted reduce (lift_over D' τ') A ∙ sym (skeleton_substituted reduce (lift_over D τ) A)) ∙ ap₂ (λ Y L. substitute_kind reduce (single (skeleton Ag) Y) L) here deep in
      let fit' : InputsFit κ Γ' m (rename_spine (over_item D) S) (kind_skeleton a K') = subst (InputsFit κ Γ' m (rename_spine (over_item D) S)) (sym (kind_put_in a one ρ K)) (inputs_renamed κ Γ Γ' (over_item D) m S (kind_skeleton a K) fits fit) in
      let same : substitute_spine reduce (lift_over D' τ') (rename_spine (over_item D) S) ≡ substitute_spine reduce (lift_over D τ) S = substitute_renamed_spine reduce (lift_over D' τ') (over_item D) S ∙ ap (λ f. substitute_spine reduce f S) through in
      let (φ, gφ, fi, args, keeps) = found (other_masks ks) D' m (rename_spine (over_item D) S) K' a I' τ' T n (N', τ, g, nt', refl) s' (single_kind_by_skeletons φκ κ (skeleton A) Γ' M0 (rename_kind ρ K) m0 kr) fit' (subst (λ E. IsContext Σ (onto E G)) (sym ed) c) (subst (λ E. IsKind Σ (onto E G) (substitute_kind reduce (lift_over D' τ') K')) (sym ed) (subst (IsKind Σ (onto (instance D τ) G)) (sym kk) (kind_put (onto (instance D τ) G) Ag N (substitute_kind reduce (lift (lift_over D τ)) K) c ik t))) r (subst (λ H. SamePlaces (input_places m) H T) (sym same) p) (subst (λ E. SpineFitsKind Σ (onto E G) T (substitute_kind reduce (lift_over D' τ') K')) (sym ed) (subst (SpineFitsKind Σ (onto (instance D τ) G) T) (sym kk) ts)) (subst (λ E. LowPlaces below E (output_places m) T (substitute_kind reduce (lift_over D' τ') K')) (sym ed) (subst (LowPlaces below (instance D τ) (output_places m) T) (sym kk) h)) in
      let n0 : ℕ = chosen_count (output_places m) K in
      let cc' : chosen_count (output_places m) K' ≡ n0 = put_in_renamed (output_places m) one ρ K in
      let first : φ n0 ≡ put (skeleton X) N' = ap φ (at_front n0 ∙ ap (λ x. zero + x) (sym cc')) ∙ keeps zero in
      (φ, gφ, fi, (sym (value φ n0 first), subst (λ Ms. HasArguments (lift_over D φ) Ms T) (arguments_renumber (other_masks ks) suc D (output_places m) K' ∙ arguments_put_in (other_masks ks) D (output_places m) one ρ K) (subst (λ f. HasArguments f (output_arguments (other_masks ks) D' (output_places m) K') T) (lift_renumber suc D φ) args)), λ k. ap φ (one_more k n0 ∙ ap (λ x. suc k + x) (sym cc')) ∙ keeps (suc k))
    where
      at_front : (n : ℕ) → n ≡ zero + n
      at_front n = omega arith

      one_more : (j n : ℕ) → j + suc n ≡ suc j + n
      one_more j n = omega arith
  found ks D (free ∷ m) (app M S) (kind_pi A K) a I τ (app N T) n g s kb fit c ik r p t h = absurd n
