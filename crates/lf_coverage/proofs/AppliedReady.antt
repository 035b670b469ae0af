-- The store of a split of a typed case by a head that is applied to terms already is well formed.
use Rattle.std.proofs.Common.{◌≡◌, ℕ, zero, ◌+◌, List, [], ◌∷◌, length, refl, sym, ap, ◌∙◌, subst}
use Rattle.std.specs.Prelude.{Bool, Option, Some}
use Rattle.lf.specs.Syntax.{Head, variable, Term, Spine, LfType, pi, atom, Kind, arrow, skeleton, rename_type}
use Rattle.lf.specs.SkeletonTyping.{KindBySkeletons}
use Rattle.lf.specs.Skeletons.{family_skeletons, context_skeletons}
use Rattle.lf.specs.AtOnce.{shift_by}
use Rattle.lf.specs.Eta.{eta_long}
use Rattle.lf.specs.Typing.{Signature, TypeAt, HasType, SpineFitsKind, IsType, IsContext, IsSignature}
use Rattle.lf.specs.Variables.{target, target_arguments, onto}
use Rattle.lf.specs.Subordination.{Block, AreTypedBlocks}
use Rattle.lf.proofs.EtaTyping.{eta_long_has_type}
use Rattle.lf.proofs.Substitution.{family_kind}
use Rattle.lf.proofs.Target.{target_renamed}
use Rattle.lf.proofs.ToSkeletons.{type_by_skeletons}
use Rattle.lf.proofs.TypeLaws.{skeleton_renamed}
use Rattle.lf.proofs.Weakening.{declared_is_type}
use Rattle.lf_unification.specs.Filling.{fill_spine, fill_type}
use Rattle.lf_unification.specs.Offering.{pi_over, spine_equations}
use Rattle.lf_unification.specs.OpenTyping.{OpenHasType, OpenIsContext, OpenSpineFitsKind, TypesAgree, fill_locals, skeletons_of, under_locals}
use Rattle.lf_unification.specs.PartialInstance.{EquationsAreTyped, IsFilling, LocalBySkeletonsUpTo, PartialInstance}
use Rattle.lf_unification.specs.Patterns.{local_skeletons}
use Rattle.lf_unification.specs.Skeletons.{as_head_skeletons, total_skeletons}
use Rattle.lf_unification.specs.Solving.{IsWellFormed}
use Rattle.lf_unification.specs.Unifiers.{SolvesAll}
use Rattle.lf_unification.proofs.Decompose.{OpenHasType-convert}
use Rattle.lf_unification.proofs.Exhaust.{local_skeleton_context}
use Rattle.lf_unification.proofs.Fillings.{LocalBySkeletonsUpTo-of}
use Rattle.lf_unification.proofs.Generic.{open_skeletons_kind}
use Rattle.lf_unification.proofs.Indices.{indices_ok}
use Rattle.lf_unification.proofs.OfferForm.{indices_equal}
use Rattle.lf_unification.proofs.Raise.{fill_pis}
use Rattle.lf_unification.proofs.ToSkeletons.{kind_by_skeletons}
use Rattle.lf_cases.specs.Case.{Item, items_context}
use Rattle.lf_cases.specs.OutputGoal.{renumber}
use Rattle.lf_cases.specs.Missing.{AreTypedItems}
use Rattle.lf_cases.specs.Reached.{arguments_count, head_masks, taken, split_items}
use Rattle.lf_cases.proofs.Assemble.{binders_typed, end_typed}
use Rattle.lf_totality.proofs.RaisedOutputs.{binders_over}
use Rattle.lf_coverage.specs.Heads.{result_type, term_type}
use Rattle.lf_coverage.specs.AppliedStore.{applied_term, applied_store}
use Rattle.lf_coverage.specs.SplitStore.{open_term, open_spine, open_type, open_locals, context_metavariables}
use Rattle.lf_coverage.proofs.ContextStore.{context_declared, context_store_ready}
use Rattle.lf_coverage.proofs.Forms.{as_pis}
use Rattle.lf_coverage.proofs.HeadTerm.{taken_length}
use Rattle.lf_coverage.proofs.MeetReady.{skU, MS, ok_opened}
use Rattle.lf_coverage.proofs.AppliedHead.{AppliesTo, applied_context, applied_place, locals_moved, made, term_typed}
use Rattle.lf_coverage.proofs.OpenSkeletons.{type_by_opened}
use Rattle.lf_coverage.proofs.OpenTyped.{open_kind, family_open, indices_opened, term_opened, type_opened}
use Rattle.lf_coverage.proofs.ResultType.{result_atom}
use Rattle.lf_coverage.proofs.StoreSolution.{open_pis, skeleton_open}
use Rattle.lf_coverage.proofs.Parts.{some_same}

skeleton_pis : (D : List LfType) (P Q : LfType) → skeleton P ≡ skeleton Q → skeleton (pi_over D P) ≡ skeleton (pi_over D Q)
skeleton_pis [] P Q e = e
skeleton_pis (A ∷ D) P Q e = skeleton_pis D (pi A P) (pi A Q) (ap (arrow (skeleton A)) e)

module _ (Σ : Signature) (ok : IsSignature Σ) (W : List Block) (typed : AreTypedBlocks Σ W) (below : ℕ → ℕ → Bool) (x : ℕ) (X : LfType) (J : List Item) (n : ℕ) (h : Head) (H : Spine) (A : LfType) (tj : AreTypedItems Σ W J) (at : TypeAt (items_context J) (x + n) (rename_type (shift_by n) X)) (ta : IsType Σ (onto (taken (rename_type (shift_by n) X)) (items_context J)) A) (same_target : target A ≡ target X) (applied : AppliesTo Σ (onto (taken (rename_type (shift_by n) X)) (items_context J)) h H A) where
  abbrev c : ℕ
  c = arguments_count A

  abbrev D0 : List LfType
  D0 = taken (rename_type (shift_by n) X)

  abbrev ks : List (List Bool)
  ks = head_masks below (taken (rename_type (shift_by n) X)) (arguments_count A) A

  abbrev C : List LfType
  C = items_context (split_items below X J n A)

  abbrev R : LfType
  R = result_type ks (taken (rename_type (shift_by n) X)) (arguments_count A) A

  abbrev X2 : LfType
  X2 = rename_type (shift_by (n + arguments_count A)) X

  abbrev D : List LfType
  D = taken (rename_type (shift_by (n + arguments_count A)) X)

  cc0 : IsContext Σ C
  cc0 = applied_context Σ ok W typed below x X J n h H A tj at ta same_target applied

  place : TypeAt C (x + (n + c)) X2
  place = applied_place Σ ok W typed below x X J n h H A tj at ta same_target applied

  moved : renumber (shift_by c) D0 ≡ D
  moved = locals_moved Σ ok W typed below x X J n h H A tj at ta same_target applied

  result_typed : IsType Σ (onto D C) R
  result_typed = subst (λ L. IsType Σ (onto L C) R) moved (made Σ ok W typed below x X J n h H A tj at ta same_target applied).result

  module _ (K : Kind) (of_family : Σ.kinds (target X) ≡ Some K) where
    abbrev U : (ℕ → Option Term) → Type 0
    U = IsFilling Σ [] (applied_store below x X J n h H A K)

    abbrev Ψ : ℕ → Option LfType
    Ψ = context_metavariables C

    abbrev half : (β : ℕ → Option Term) → U β → (F : List LfType) × PartialInstance Σ [] (context_metavariables C) (λ m. ⊥) F β
    half β (F, w, u) = (F, w)

    abbrev E : List LfType
    E = open_locals (taken (rename_type (shift_by (n + arguments_count A)) X))

    abbrev S1 : Spine
    S1 = target_arguments (rename_type (shift_by (n + arguments_count A)) X)

    abbrev S2 : Spine
    S2 = target_arguments R

    pub applied_type : IsType Σ C X2
    applied_type = declared_is_type Σ ok C (x + (n + c)) X2 cc0 place

    pub applied_under : IsContext Σ (onto D C)
    applied_under = subst (IsContext Σ) (binders_over [] X2 C) (binders_typed Σ ok X2 C cc0 applied_type)

    fits_of : (G : List LfType) (a : ℕ) (S : Spine) → IsType Σ G (atom a S) → a ≡ target X → SpineFitsKind Σ G S K
    fits_of G a S (L, e, s) q = subst (SpineFitsKind Σ G S) (some_same (sym e ∙ ap Σ.kinds q ∙ of_family)) s

    pub applied_fits : SpineFitsKind Σ (onto D C) S1 K
    applied_fits = fits_of (onto D C) (target X2) S1 (subst (λ G. IsType Σ G (atom (target X2) S1)) (binders_over [] X2 C) (end_typed Σ ok X2 C applied_type)) (target_renamed (shift_by (n + c)) X)

    second_fits : SpineFitsKind Σ (onto D C) S2 K
    second_fits = fits_of (onto D C) (target A) S2 (subst (IsType Σ (onto D C)) (result_atom Σ ks c D0 A refl) result_typed) same_target

    kind_same : open_kind (length D) K ≡ K
    kind_same = family_open Σ ok C U (length D) (target X) K of_family

    first_open : OpenSpineFitsKind Σ [] Ψ U E (open_spine (length D) S1) K
    first_open = subst (OpenSpineFitsKind Σ [] Ψ U E (open_spine (length D) S1)) kind_same (indices_opened Σ ok C U D S1 K applied_fits)

    second_open : OpenSpineFitsKind Σ [] Ψ U E (open_spine (length D) S2) K
    second_open = subst (OpenSpineFitsKind Σ [] Ψ U E (open_spine (length D) S2)) kind_same (indices_opened Σ ok C U D S2 K second_fits)

    local_ok : LocalBySkeletonsUpTo Σ [] Ψ U E
    local_ok = LocalBySkeletonsUpTo-of Σ ok [] Ψ U E (opened D applied_under)
      where
        opened : (L : List LfType) → IsContext Σ (onto L C) → OpenIsContext Σ [] Ψ U (open_locals L)
        opened [] d = tt
        opened (B ∷ L) (d, t) = (opened L d, type_opened Σ ok C U L B t)

    pub applied_length : length D ≡ length (taken X)
    applied_length = taken_length (shift_by (n + c)) X [] [] refl

    -- a filling of the store solves the equations of the indices
    solved : (β : ℕ → Option Term) → U β → SolvesAll (skeletons_of Ψ) β (spine_equations E K (open_spine (length D) S1) (open_spine (length D) S2))
    solved β (F, w, (b, (first, rest))) = subst (λ k. SolvesAll (skeletons_of Ψ) β (spine_equations E K (open_spine k S1) (open_spine k S2))) (sym applied_length) rest

    indices : EquationsAreTyped Σ [] Ψ U (spine_equations E K (open_spine (length D) S1) (open_spine (length D) S2))
    indices = indices_ok Σ ok [] Ψ U (context_declared Σ ok C cc0 U) half E local_ok K K (open_spine (length D) S1) (open_spine (length D) S2) kind_known kind_known (refl, λ β u. refl) first_open second_open solved
      where
        kind_known : (F : List LfType) (β : ℕ → Option Term) → PartialInstance Σ [] Ψ (λ m. ⊥) F β → U β → KindBySkeletons (family_skeletons Σ) (as_head_skeletons (total_skeletons Σ (skeletons_of Ψ))) (local_skeletons E (context_skeletons F)) K
        kind_known F β w u = subst (λ Γ. KindBySkeletons (family_skeletons Σ) (as_head_skeletons (total_skeletons Σ (skeletons_of Ψ))) Γ K) (local_skeleton_context E F) (kind_by_skeletons Σ (skeletons_of Ψ) (onto E F) K (family_kind Σ ok (onto E F) (target X) K of_family))

    -- so it makes the types of both sides the same
    same_indices : (β : ℕ → Option Term) (u : U β) → fill_spine (skeletons_of Ψ) (under_locals E β) (open_spine (length D) S1) ≡ fill_spine (skeletons_of Ψ) (under_locals E β) (open_spine (length D) S2)
    same_indices β u = indices_equal (skeletons_of Ψ) β (total_skeletons Σ (skeletons_of Ψ)) (local_skeletons E []) (target X) E K (open_spine (length D) S1) (open_spine (length D) S2) (open_skeletons_kind Σ (skeletons_of Ψ) ok Ψ U (target X) E [] (open_spine (length D) S1) K first_open) (open_skeletons_kind Σ (skeletons_of Ψ) ok Ψ U (target X) E [] (open_spine (length D) S2) K second_open) (solved β u)

    first_form : X2 ≡ pi_over D (atom (target X) S1)
    first_form = as_pis X2 [] ∙ ap (λ a. pi_over D (atom a S1)) (target_renamed (shift_by (n + c)) X)

    second_form : term_type below X n A ≡ pi_over D (atom (target X) S2)
    second_form = ap (pi_over D) (result_atom Σ ks c D0 A refl ∙ ap (λ a. atom a S2) same_target)

    filled_pis : (β : ℕ → Option Term) (S : Spine) → fill_type (skeletons_of Ψ) β (open_type zero (pi_over D (atom (target X) S))) ≡ pi_over (fill_locals (skeletons_of Ψ) β E) (atom (target X) (fill_spine (skeletons_of Ψ) (under_locals E β) (open_spine (length D) S)))
    filled_pis β S = ap (fill_type (skeletons_of Ψ) β) (open_pis D (target X) S) ∙ fill_pis (skeletons_of Ψ) β E (atom (target X) (open_spine (length D) S))

    types_agree : TypesAgree Σ [] Ψ U [] (open_type zero X2) (open_type zero (term_type below X n A))
    types_agree = (
      skeleton_open zero X2 ∙ ap skeleton first_form ∙ skeleton_pis D (atom (target X) S1) (atom (target X) S2) refl ∙ sym (ap skeleton second_form) ∙ sym (skeleton_open zero (term_type below X n A)),
      λ β u.
          ap (λ Z. fill_type (skeletons_of Ψ) β (open_type zero Z)) first_form
          ∙ filled_pis β S1
          ∙ ap (λ S. pi_over (fill_locals (skeletons_of Ψ) β E) (atom (target X) S)) (same_indices β u)
          ∙ sym (filled_pis β S2)
          ∙ ap (λ Z. fill_type (skeletons_of Ψ) β (open_type zero Z)) (sym second_form),
    )

    pub term_is_type : IsType Σ C (term_type below X n A)
    term_is_type = closed_over D R result_typed applied_under
      where
        closed_over : (L : List LfType) (B : LfType) → IsType Σ (onto L C) B → IsContext Σ (onto L C) → IsType Σ C (pi_over L B)
        closed_over [] B t d = t
        closed_over (Y ∷ L) B t d = closed_over L (pi Y B) (d.1, t) d.0

    -- The lemma
    pub applied_ready : IsWellFormed Σ (applied_store below x X J n h H A K)
    applied_ready =
        let V : Term = eta_long (skeleton X) (variable (x + (n + c))) in
        let M : Term = applied_term below D0 h H A in
        let left : OpenHasType Σ [] Ψ U [] (open_term zero V) (open_type zero X2) = term_opened Σ ok C U [] V X2 (subst (λ a. HasType Σ C (eta_long a (variable (x + (n + c)))) X2) (skeleton_renamed (shift_by (n + c)) X) (eta_long_has_type Σ ok C (variable (x + (n + c))) X2 cc0 place)) in
        let k1 = type_by_skeletons Σ C X2 applied_type in
        let k2 = type_by_skeletons Σ C (term_type below X n A) term_is_type in
        let right : OpenHasType Σ [] Ψ U [] (open_term zero M) (open_type zero X2) = OpenHasType-convert Σ ok [] Ψ U (skU Σ ok C cc0 U half) (MS Σ ok C cc0 U half) [] (λ j Y g. absurd g) (open_term zero M) (open_type zero X2) (open_type zero (term_type below X n A)) (ok_opened Σ ok C cc0 U half [] X2 k1) (ok_opened Σ ok C cc0 U half [] (term_type below X n A) k2) types_agree (term_opened Σ ok C U [] M (term_type below X n A) (term_typed Σ ok W typed below x X J n h H A tj at ta same_target applied)) in
        context_store_ready Σ ok C cc0 (applied_store below x X J n h H A K).equations (
          record { local_typed = tt; type_typed = λ F β w u. type_by_opened Σ C [] (context_skeletons F) X2 k1; left_typed = left; right_typed = right },
          subst (λ k. EquationsAreTyped Σ [] Ψ U (spine_equations E K (open_spine k S1) (open_spine k S2))) applied_length indices,
        )
