-- A value with a head on terms, of which the further arguments use only local variables of lower families, makes the variable this head on these terms.
use Rattle.std.proofs.Common.{◌≡◌, ℕ, List, [], ◌+◌, length, refl, sym, ap, ap₂, ◌∙◌, subst, arith}
use Rattle.std.specs.Prelude.{Bool}
use Rattle.lf.specs.Syntax.{Head, Term, Spine, root, LfType, atom, skeleton, rename_type, rename_head, rename_spine}
use Rattle.lf.specs.Substitution.{Image, put, substitute, substitute_spine, substitute_type, reduce}
use Rattle.lf.specs.AtOnce.{shift_by, lift_renaming_by}
use Rattle.lf.specs.Eta.{append, lambdas}
use Rattle.lf.specs.Typing.{Signature, TypeAt, SpineType, IsTypedSubstitution, IsType, IsContext, IsSignature}
use Rattle.lf.specs.Variables.{target, target_arguments, onto, binders}
use Rattle.lf.specs.Subordination.{Block, AreTypedBlocks}
use Rattle.lf.specs.Worlds.{World, lift_over, instance}
use Rattle.lf.proofs.Substitution.{typed_substitution_by_skeletons}
use Rattle.lf.proofs.Target.{target_of}
use Rattle.lf.proofs.ToSkeletons.{type_by_skeletons}
use Rattle.lf_unification.specs.Offering.{pi_over}
use Rattle.lf_checks.specs.Marks.{output_places}
use Rattle.lf_cases.specs.Case.{Item, items_context, as_term, IsGroundInstance}
use Rattle.lf_cases.specs.Missing.{AreTypedItems}
use Rattle.lf_cases.specs.Raised.{LowPlaces}
use Rattle.lf_cases.specs.Reached.{arguments_count, head_masks, head_items, head_spine, taken, split_items}
use Rattle.lf_coverage.specs.Heads.{result_type, term_type}
use Rattle.lf_coverage.specs.AppliedStore.{applied_term}
use Rattle.lf_coverage.proofs.Forms.{lambdas_substituted, lift_same, as_pis, pis_substituted}
use Rattle.lf_coverage.proofs.GroundSkeletons.{ground_fits}
use Rattle.lf_coverage.proofs.GroundTyped.{ground_typed}
use Rattle.lf_coverage.proofs.HeadItems.{type_kind, outputs}
use Rattle.lf_coverage.proofs.Offered.{offered}
use Rattle.lf_coverage.proofs.ResultType.{result_is}
use Rattle.lf_coverage.proofs.SomeHead.{same_type, taken_is, same_local, same_length}
use mathlib.Core.Path.{fun_ext}

same_zero : (σ : ℕ → Image) (k : ℕ) → σ (k + 0) ≡ σ k
same_zero σ k = ap σ (none k)
  where
    none : (k : ℕ) → k + 0 ≡ k
    none k = omega arith

-- Values of the items after the split that give x the head on the terms U and its new variables, and the types of both are the same.
pub record MakesApplied {Σ : Signature} {W : List Block} {S : ℕ → Bool} {G : List LfType} (w : World Σ W S G) (below : ℕ → ℕ → Bool) (x : ℕ) (X : LfType) (I : List Item) (h : Head) (U : Spine) (A : LfType) (σ : ℕ → Image) (T : Spine) (φ : ℕ → Image) : Type 0 where
  pub is_ground : IsGroundInstance w (split_items below X I 0 A) φ
  pub same : as_term (skeleton X) (φ (x + (0 + arguments_count A))) ≡ substitute reduce φ (applied_term below (taken (rename_type (shift_by 0) X)) h U A)
  pub same_type : substitute_type reduce φ (rename_type (shift_by (0 + arguments_count A)) X) ≡ substitute_type reduce φ (term_type below X 0 A)
  pub keeps : (k : ℕ) → φ (k + (0 + arguments_count A)) ≡ σ k
  pub arguments : T ≡ substitute_spine reduce (lift_over (taken (rename_type (shift_by 0) X)) φ) (head_spine (head_masks below (taken (rename_type (shift_by 0) X)) (arguments_count A) A) (taken (rename_type (shift_by 0) X)) A)

module _ (Σ : Signature) (ok : IsSignature Σ) (below : ℕ → ℕ → Bool) {W : List Block} {S : ℕ → Bool} {G : List LfType} (w : World Σ W S G) (typed : AreTypedBlocks Σ W) (I : List Item) (ti : AreTypedItems Σ W I) (σ : ℕ → Image) (g : IsGroundInstance w I σ) (x : ℕ) (X : LfType) (at : TypeAt (items_context I) x X) (local : IsContext Σ (onto (instance (taken X) σ) G)) (N : Term) (T : Spine) (h h1 : Head) (U U1 : Spine) (A : LfType) (at_x : σ x ≡ put (skeleton X) N) (form_is : N ≡ lambdas (length (taken X)) (root h1 (append U1 T))) (st : SpineType Σ (onto (instance (taken X) σ) G) T (substitute_type reduce (lift_over (taken (rename_type (shift_by 0) X)) σ) A) (atom (target X) (target_arguments (substitute_type reduce σ X)))) (ta : IsType Σ (onto (taken (rename_type (shift_by 0) X)) (items_context I)) A) (ty : IsType Σ (onto (instance (taken X) σ) G) (substitute_type reduce (lift_over (taken (rename_type (shift_by 0) X)) σ) A)) (under : (φ : ℕ → Image) → ((k : ℕ) → φ (k + arguments_count A) ≡ σ k) → (R : Spine) → substitute reduce (lift_over (taken (rename_type (shift_by 0) X)) φ) (root (rename_head (lift_renaming_by (length (taken (rename_type (shift_by 0) X))) (shift_by (arguments_count A))) h) (append (rename_spine (lift_renaming_by (length (taken (rename_type (shift_by 0) X))) (shift_by (arguments_count A))) U) R)) ≡ root h1 (append U1 (substitute_spine reduce (lift_over (taken (rename_type (shift_by 0) X)) φ) R))) (r : LowPlaces below (instance (taken X) σ) (output_places (outputs (arguments_count A))) T (type_kind (substitute_type reduce (lift_over (taken (rename_type (shift_by 0) X)) σ) A))) where
  abbrev c : ℕ
  c = arguments_count A

  abbrev D : List LfType
  D = taken (rename_type (shift_by 0) X)

  abbrev E : List LfType
  E = instance (taken X) σ

  abbrev V : Spine
  V = target_arguments (substitute_type reduce σ X)

  ground : IsTypedSubstitution Σ (items_context I) G σ
  ground = ground_typed Σ ok W typed w I σ ti g

  pub made_applied : (φ : ℕ → Image) × MakesApplied w below x X I h U A σ T φ
  made_applied =
      let Y : LfType = substitute_type reduce (lift_over D σ) A in
      let sl : instance D σ ≡ E = same_local X σ 0 σ (same_zero σ) in
      let (φ, gφ, fo, keeps, args) = offered Σ ok below w D A I σ g (typed_substitution_by_skeletons Σ ok (items_context I) G σ ground) ta (subst (λ L. IsContext Σ (onto L G)) (sym sl) local) (subst (λ L. IsType Σ (onto L G) Y) (sym sl) ty) T (target X) V (subst (λ L. SpineType Σ (onto L G) T Y (atom (target X) V)) (sym sl) st) (subst (λ L. LowPlaces below L (output_places (outputs c)) T (type_kind Y)) (sym sl) r) in
      let all : (k : ℕ) → φ (k + (0 + c)) ≡ σ k = λ k. ap φ (sums k c) ∙ keeps (k + 0) ∙ same_zero σ k in
      let ρ : ℕ → ℕ = lift_renaming_by (length D) (shift_by c) in
      let right : substitute reduce φ (applied_term below D h U A) ≡ N = lambdas_substituted D φ (root (rename_head ρ h) (append (rename_spine ρ U) (head_spine (head_masks below D c A) D A))) ∙ ap (lambdas (length D)) (under φ keeps (head_spine (head_masks below D c A) D A) ∙ ap (λ R. root h1 (append U1 R)) (sym args)) ∙ ap (λ l. lambdas l (root h1 (append U1 T))) (same_length X σ 0 σ (same_zero σ)) ∙ sym form_is in
      let X2 : LfType = rename_type (shift_by (0 + c)) X in
      let left : substitute_type reduce φ X2 ≡ substitute_type reduce σ X = same_type X σ (0 + c) φ all in
      let res : substitute_type reduce (lift_over D φ) (result_type (head_masks below D c A) D c A) ≡ atom (target X) V = result_is Σ (head_masks below D c A) G c D A I refl φ (ground_fits Σ ok w (head_items (head_masks below D c A) D c A I) φ gφ) (type_by_skeletons Σ (onto D (items_context I)) A ta) T (target X) V (subst (λ f. SpineType Σ (onto (instance D f) G) T (substitute_type reduce (lift_over D f) A) (atom (target X) V)) (sym (fun_ext keeps)) (subst (λ L. SpineType Σ (onto L G) T Y (atom (target X) V)) (sym sl) st)) args in
      let ll : length (taken X2) ≡ length D = same_length X σ (0 + c) φ all ∙ sym (same_length X σ 0 σ (same_zero σ)) in
      let types : substitute_type reduce φ X2 ≡ substitute_type reduce φ (term_type below X 0 A) = left ∙ as_pis (substitute_type reduce σ X) [] ∙ ap₂ (λ L Z. pi_over L Z) (ap (binders []) (sym left) ∙ sym (taken_is X σ (0 + c) φ all φ X2)) (ap₂ atom (target_of reduce σ X) refl ∙ sym res ∙ ap (λ f. substitute_type reduce f (result_type (head_masks below D c A) D c A)) (lift_same D (taken X2) φ (sym ll))) ∙ sym (pis_substituted φ (taken X2) (result_type (head_masks below D c A) D c A)) in
      (φ, record { is_ground = gφ; same = ap (as_term (skeleton X)) (all x ∙ at_x) ∙ sym right; same_type = types; keeps = all; arguments = args })
    where
      sums : (k c : ℕ) → k + (0 + c) ≡ (k + 0) + c
      sums k c = omega arith
