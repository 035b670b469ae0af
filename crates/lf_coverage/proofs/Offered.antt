-- Where a root has a head with arguments that use variables of lower families, the new variables of the head have values that give these arguments.
use Rattle.std.proofs.Common.{◌≡◌, ℕ, zero, suc, List, ◌∷◌, ◌+◌, refl, sym, ap, ◌∙◌, subst}
use Rattle.std.specs.Prelude.{Bool}
use Rattle.lf.specs.Syntax.{Spine, nil, app, LfType, Kind, Skeleton, base, arrow, atom, kind_skeleton}
use Rattle.lf.specs.Substitution.{Image, substitute_spine, substitute_type, substitute_kind, reduce}
use Rattle.lf.specs.SkeletonTyping.{HeadSkeletons, SubstitutionBySkeletons, KindBySkeletons, TypeBySkeletons}
use Rattle.lf.specs.Skeletons.{constant_skeletons, family_skeletons, context_skeletons}
use Rattle.lf.specs.Typing.{Signature, SpineType, SpineFitsKind, IsType, IsKind, IsContext, IsSignature}
use Rattle.lf.specs.Variables.{onto}
use Rattle.lf.specs.Subordination.{Block}
use Rattle.lf.specs.Worlds.{World, lift_over, instance}
use Rattle.lf.proofs.ToSkeletons.{type_by_skeletons}
use Rattle.lf_checks.specs.Marks.{Mark, output_places}
use Rattle.lf_checks.specs.ModeForms.{argument_count}
use Rattle.lf_cases.specs.Case.{Item, items_context, IsGroundInstance}
use Rattle.lf_cases.specs.Raised.{LowPlaces}
use Rattle.lf_cases.specs.Reached.{arguments_count, head_masks, head_items, head_spine}
use Rattle.lf_cases.proofs.OutputItems.{InputsFit, Follows, MayRaise, masks_may, found}
use Rattle.lf_coverage.proofs.HeadItems.{type_kind, outputs, kind_substituted, same_items, same_masks, count_is, arguments_are, none_free, no_inputs, fits_kind, length_is, count_substituted}

outputs_fit : (κ : HeadSkeletons) (Γ : List Skeleton) (n : ℕ) (S : Spine) (t : Skeleton) → InputsFit κ Γ (outputs n) S t
outputs_fit κ Γ zero S t = tt
outputs_fit κ Γ (suc n) nil t = tt
outputs_fit κ Γ (suc n) (app M S) (base c) = tt
outputs_fit κ Γ (suc n) (app M S) (arrow a t) = outputs_fit κ Γ n S t

pub length_kept : (σ : ℕ → Image) (S : Spine) → argument_count (substitute_spine reduce σ S) ≡ argument_count S
length_kept σ nil = refl
length_kept σ (app M S) = ap suc (length_kept σ S)

kind_by_type : (φ : ℕ → Rattle.std.specs.Prelude.Option Skeleton) (κ : HeadSkeletons) (Γ : List Skeleton) (A : LfType) → TypeBySkeletons φ κ Γ A → KindBySkeletons φ κ Γ (type_kind A)
kind_by_type φ κ Γ (Rattle.lf.specs.Syntax.pi A B) (a, b) = (a, kind_by_type φ κ (Rattle.lf.specs.Syntax.skeleton A ∷ Γ) B b)
kind_by_type φ κ Γ (atom a S) t = tt

-- a typed type is a typed kind
kind_of_type : (Σ : Signature) (G : List LfType) (A : LfType) → IsType Σ G A → IsKind Σ G (type_kind A)
kind_of_type Σ G (Rattle.lf.specs.Syntax.pi A B) (a, b) = (a, kind_of_type Σ (A ∷ G) B b)
kind_of_type Σ G (atom a S) t = tt

module _ (Σ : Signature) (ok : IsSignature Σ) (below : ℕ → ℕ → Bool) {W : List Block} {S : ℕ → Bool} {G : List LfType} (w : World Σ W S G) where
  -- values of the items J that go on from τ, and give the arguments T
  abbrev pub Given : (I : List Item) (τ : ℕ → Image) → IsGroundInstance w I τ → List LfType → LfType → Spine → List Item → Type 0
  Given I τ g D A T J = (φ : ℕ → Image) × (h : IsGroundInstance w J φ) × Follows w I τ g J φ h × ((k : ℕ) → φ (k + arguments_count A) ≡ τ k) × (T ≡ substitute_spine reduce (lift_over D φ) (head_spine (head_masks below D (arguments_count A) A) D A))

  pub offered : (D : List LfType) (A : LfType) (I : List Item) (τ : ℕ → Image) (g : IsGroundInstance w I τ) → SubstitutionBySkeletons (constant_skeletons Σ) (context_skeletons (items_context I)) (context_skeletons G) τ → IsType Σ (onto D (items_context I)) A → IsContext Σ (onto (instance D τ) G) → IsType Σ (onto (instance D τ) G) (substitute_type reduce (lift_over D τ) A) → (T : Spine) (a : ℕ) (V : Spine) → SpineType Σ (onto (instance D τ) G) T (substitute_type reduce (lift_over D τ) A) (atom a V) → LowPlaces below (instance D τ) (output_places (outputs (arguments_count A))) T (type_kind (substitute_type reduce (lift_over D τ) A)) → Given I τ g D A T (head_items (head_masks below D (arguments_count A) A) D (arguments_count A) A I)
  offered D A I τ g s ta c ty T a V st r =
      let n : ℕ = arguments_count A in
      let m : List Mark = outputs n in
      let K : Kind = type_kind A in
      let κ : HeadSkeletons = constant_skeletons Σ in
      let Γ : List Skeleton = context_skeletons (onto D (items_context I)) in
      let Y : LfType = substitute_type reduce (lift_over D τ) A in
      let l : argument_count T ≡ n = length_is Σ (onto (instance D τ) G) T Y a V st ∙ count_substituted (lift_over D τ) A in
      let kb : KindBySkeletons (family_skeletons Σ) κ Γ K = kind_by_type (family_skeletons Σ) κ Γ A (type_by_skeletons Σ (onto D (items_context I)) A ta) in
      let fit : SpineFitsKind Σ (onto (instance D τ) G) T (substitute_kind reduce (lift_over D τ) K) = subst (SpineFitsKind Σ (onto (instance D τ) G) T) (kind_substituted (lift_over D τ) A) (fits_kind Σ (onto (instance D τ) G) T Y a V st) in
      let h : LowPlaces below (instance D τ) (output_places m) T (substitute_kind reduce (lift_over D τ) K) = subst (LowPlaces below (instance D τ) (output_places m) T) (kind_substituted (lift_over D τ) A) r in
      let ks : List (List Bool) = head_masks below D n A in
      let ik : IsKind Σ (onto (instance D τ) G) (substitute_kind reduce (lift_over D τ) K) = subst (IsKind Σ (onto (instance D τ) G)) (kind_substituted (lift_over D τ) A) (kind_of_type Σ (onto (instance D τ) G) Y ty) in
      let (φ, gφ, fo, args, keeps) = found Σ ok below w ks D m T K zero I τ T (none_free n) g s kb (outputs_fit κ Γ n T (kind_skeleton zero K)) c ik (subst (λ k. MayRaise Σ ok below w k D (output_places m) T K) (same_masks below D n T A l) (masks_may Σ ok below w D (output_places m) T K)) (no_inputs n (substitute_spine reduce (lift_over D τ) T) T (length_kept (lift_over D τ) T ∙ l) l) fit h in
      subst (Given I τ g D A T) (same_items ks D n T A I l) (φ, gφ, fo, (λ k. ap (λ c. φ (k + c)) (sym (count_is A)) ∙ keeps k), arguments_are ks D A (lift_over D φ) T args)
