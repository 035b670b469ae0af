-- A typed case by number with one more block variable is typed, and on own terms.
use Rattle.std.proofs.Common.{◌≡◌, ℕ, List, [], ◌∷◌, ◌++◌, length, Option, Some, None, refl, sym, ap, ◌∙◌, subst}
use Rattle.lf.specs.Syntax.{constant, variable, metavariable, Term, Spine, lambda, root, nil, app, LfType, pi, atom, Skeleton, base, arrow, skeleton, lift_renaming, rename, rename_spine, rename_type}
use Rattle.lf.specs.AtOnce.{shift_by, lift_renaming_by}
use Rattle.lf.specs.SkeletonTyping.{RenamingBySkeletons, SkeletonAt, SpineSkeleton, TermSkeleton, TypeBySkeletons}
use Rattle.lf.specs.Skeletons.{constant_skeletons, family_skeletons, context_skeletons}
use Rattle.lf.specs.Typing.{Signature, IsTypedRenaming, IsContext, IsSignature}
use Rattle.lf.specs.Variables.{onto, nothing}
use Rattle.lf.specs.Subordination.{Block, Member, AreTypedBlocks}
use Rattle.lf.specs.Extension.{Extends}
use Rattle.lf.proofs.SkeletonTyping.{renaming_keeps_skeletons}
use Rattle.lf.proofs.ToSkeletons.{skeleton_has_variable, type_by_skeletons, variable_has_skeleton}
use Rattle.lf.proofs.TypeLaws.{skeleton_renamed}
use Rattle.lf_unification.specs.Offering.{local_arguments}
use Rattle.lf_cases.specs.OutputGoal.{renumber}
use Rattle.lf_coverage.specs.Heads.{HaveSkeletons}
use Rattle.lf_coverage.proofs.Forms.{far_type}
use Rattle.lf_coverage.proofs.GivenValues.{local_context, local_renames}
use Rattle.lf_coverage.proofs.MoreConstants.{term_more}
use Rattle.lf_numbered.specs.EntryConstants.{with_entries, IsFreeFrom}
use Rattle.lf_numbered.specs.NewBlock.{rename_all, with_new_block}
use Rattle.lf_numbered.specs.NumberedCase.{NumberedCase, AreTypedVariables}
use Rattle.lf_numbered.specs.OwnStores.{NewBlockStaysTyped}
use Rattle.lf_numbered.specs.OwnTerms.{BlockVariable, blocks_of, own_terms, weaken_own, BeginsWith, OnOwnTerms, SpineOnOwnTerms, TypeOnOwnTerms, AllOnOwnTerms, rename_blocks}
use Rattle.lf_numbered.specs.TypedNumbered.{own_over, LocalOnOwnTerms, IsTypedNumberedCase}
use Rattle.lf_numbered.proofs.EntrySignature.{grown_contexts, earlier_kept}
use Rattle.lf_numbered.proofs.NewBlockTyped.{new_block_is_typed}
use Rattle.lf_numbered.proofs.NumberedArguments.{constant_is_old}
use Rattle.lf_numbered.proofs.NumberedTyped.{blocks_end, renamed_terms}
use Rattle.lf_numbered.proofs.NumberingBlocks.{blocks_renamed}
use Rattle.lf_numbered.proofs.OwnStoresEntry.{ok₁}
use Rattle.lf_numbered.proofs.OwnStoresHeads.{over_renumbered}
use Rattle.lf_numbered.proofs.OwnTerms.{rename_under as weaken_renamed, begins_renamed, own_stays, rename_own}

-- Renaming, where the constants of a signature have the renamed own terms
module _ (Σ : Signature) where
  abbrev Renames : (ℕ → Option Spine) → (ℕ → Option Spine) → (ℕ → ℕ) → Type 0
  Renames o p ρ = (c : ℕ) (A : LfType) → Σ.types c ≡ Some A → p c ≡ rename_own ρ (o c)

  renames_under : (o p : ℕ → Option Spine) (ρ : ℕ → ℕ) → Renames o p ρ → Renames (λ c. weaken_own (o c)) (λ c. weaken_own (p c)) (lift_renaming ρ)
  renames_under o p ρ h c A e = ap weaken_own (h c A e) ∙ weaken_renamed ρ (o c)

  mutual
    known_renamed : (Γ : List Skeleton) (o p : ℕ → Option Spine) (ρ : ℕ → ℕ) (M : Term) (t : Skeleton) → Renames o p ρ → TermSkeleton (constant_skeletons Σ) Γ M t → OnOwnTerms o M → OnOwnTerms p (rename ρ M)
    known_renamed Γ o p ρ (lambda M) (arrow a b) h k m = known_renamed (a ∷ Γ) (λ c. weaken_own (o c)) (λ c. weaken_own (p c)) (lift_renaming ρ) M b (renames_under o p ρ h) k m
    known_renamed Γ o p ρ (lambda M) (base d) h k m = absurd k
    known_renamed Γ o p ρ (root g S) (arrow a b) h k m = absurd k
    known_renamed Γ o p ρ (root (constant c) S) (base d) h (t, g, k) (b, s) = let (A, e) = constant_is_old Σ c t (Σ.types c) refl g in (subst (λ u. BeginsWith u (rename_spine ρ S)) (sym (h c A e)) (begins_renamed ρ (o c) S b), spine_known Γ o p ρ S t (base d) h k s)
    known_renamed Γ o p ρ (root (variable i) S) (base d) h (t, g, k) s = spine_known Γ o p ρ S t (base d) h k s
    known_renamed Γ o p ρ (root (metavariable m) S) (base d) h (t, g, k) s = spine_known Γ o p ρ S t (base d) h k s

    spine_known : (Γ : List Skeleton) (o p : ℕ → Option Spine) (ρ : ℕ → ℕ) (S : Spine) (t u : Skeleton) → Renames o p ρ → SpineSkeleton (constant_skeletons Σ) Γ S t u → SpineOnOwnTerms o S → SpineOnOwnTerms p (rename_spine ρ S)
    spine_known Γ o p ρ nil t u h k s = tt
    spine_known Γ o p ρ (app M S) (arrow a b) u h (k, l) (m, s) = (known_renamed Γ o p ρ M a h k m, spine_known Γ o p ρ S b u h l s)
    spine_known Γ o p ρ (app M S) (base d) u h k s = absurd k

  type_known : (φ : ℕ → Option Skeleton) (Γ : List Skeleton) (o p : ℕ → Option Spine) (ρ : ℕ → ℕ) (A : LfType) → Renames o p ρ → TypeBySkeletons φ (constant_skeletons Σ) Γ A → TypeOnOwnTerms o A → TypeOnOwnTerms p (rename_type ρ A)
  type_known φ Γ o p ρ (pi A B) h (k, l) (a, b) = (type_known φ Γ o p ρ A h k a, type_known φ (skeleton A ∷ Γ) (λ c. weaken_own (o c)) (λ c. weaken_own (p c)) (lift_renaming ρ) B (renames_under o p ρ h) l b)
  type_known φ Γ o p ρ (atom a S) h (t, e, k) s = spine_known Γ o p ρ S t (base a) h k s

  over_renames : (D : List LfType) (o p : ℕ → Option Spine) (ρ : ℕ → ℕ) → Renames o p ρ → Renames (own_over D o) (own_over D p) (lift_renaming_by (length D) ρ)
  over_renames [] o p ρ h = h
  over_renames (A ∷ D) o p ρ h = renames_under (own_over D o) (own_over D p) (lift_renaming_by (length D) ρ) (over_renames D o p ρ h)

  all_known : (Γ : List Skeleton) (o p : ℕ → Option Spine) (ρ : ℕ → ℕ) (Ms : List (Option Term)) → Renames o p ρ → HaveSkeletons (constant_skeletons Σ) Γ Ms → AllOnOwnTerms o Ms → AllOnOwnTerms p (rename_all ρ Ms)
  all_known Γ o p ρ [] h k a = tt
  all_known Γ o p ρ (Some M ∷ Ms) h ((t, k), l) (m, a) = (known_renamed Γ o p ρ M t h k m, all_known Γ o p ρ Ms h l a)
  all_known Γ o p ρ (None ∷ Ms) h k a = all_known Γ o p ρ Ms h k a

  local_known : (D X : List LfType) (o p : ℕ → Option Spine) (ρ : ℕ → ℕ) → Renames o p ρ → IsContext Σ (onto D X) → LocalOnOwnTerms o D → LocalOnOwnTerms p (renumber ρ D)
  local_known [] X o p ρ h c l = tt
  local_known (A ∷ D) X o p ρ h (c, t) (l, a) = (local_known D X o p ρ h c l, subst (λ f. TypeOnOwnTerms f (rename_type (lift_renaming_by (length D) ρ) A)) (sym (over_renumbered ρ D p)) (type_known (family_skeletons Σ) (context_skeletons (onto D X)) (own_over D o) (own_over D p) (lift_renaming_by (length D) ρ) A (over_renames D o p ρ h) (type_by_skeletons Σ (onto D X) A t) a))

module _ (Σ : Signature) (ok : IsSignature Σ) (W : List Block) (typed : AreTypedBlocks Σ W) (first : ℕ) (free : IsFreeFrom Σ first) (C : NumberedCase) (tc : IsTypedNumberedCase Σ first W C) (B : Block) (member : Member B W) where
  abbrev D : NumberedCase
  D = with_new_block B C

  abbrev ρ : ℕ → ℕ
  ρ = shift_by (length B.some)

  abbrev X : List LfType
  X = C.variables

  abbrev Y : List LfType
  Y = onto B.some C.variables

  abbrev Σ₁ : Signature
  Σ₁ = with_entries Σ first (blocks_of C.blocks)

  abbrev new : BlockVariable
  new = record { block = B; terms = local_arguments B.some }

  abbrev Σ₂ : Signature
  Σ₂ = with_entries Σ first (blocks_of (rename_blocks (shift_by (length B.some)) C.blocks ++ record { block = B; terms = local_arguments B.some } ∷ []))

  variables : AreTypedVariables Σ first W (with_new_block B C)
  variables = new_block_is_typed Σ ok W typed first free C tc.variables B member

  okN : IsSignature Σ₂
  okN = ok₁ Σ ok W typed first free D variables

  kept : (c : ℕ) (A : LfType) → Σ₁.types c ≡ Some A → Σ₂.types c ≡ Some A
  kept c A e = subst (λ Ds. (with_entries Σ first Ds).types c ≡ Some A) (sym (blocks_end (rename_blocks ρ C.blocks) new ∙ ap (λ Ds. Ds ++ B ∷ []) (blocks_renamed ρ C.blocks))) (earlier_kept Σ first (blocks_of C.blocks) (B ∷ []) c A e)

  pub extends : Extends nothing Σ₁ Σ₂
  extends = record { ok = okN; types_stay = kept; kinds_stay = λ a K e. e; no_new = λ c A e s. absurd cc }

  pub renames : IsTypedRenaming X Y ρ
  renames i A g = far_type B.some X i A g

  own : Renames Σ₁ (own_terms first C.blocks) (own_terms first (rename_blocks ρ C.blocks ++ new ∷ [])) ρ
  own c A e = own_stays Σ first free (rename_blocks ρ C.blocks) (new ∷ []) c A (subst (λ Ds. (with_entries Σ first Ds).types c ≡ Some A) (sym (blocks_renamed ρ C.blocks)) e) ∙ renamed_terms first ρ C.blocks c

  by_skeletons : (G H : List LfType) (l : ℕ → ℕ) → IsTypedRenaming G H l → RenamingBySkeletons (context_skeletons G) (context_skeletons H) l
  by_skeletons G H l w i t g = let (A, a, e) = skeleton_has_variable G i t g in subst (SkeletonAt (context_skeletons H) (l i)) (skeleton_renamed l A ∙ e) (variable_has_skeleton H (l i) (rename_type l A) (w i A a))

  all_moved : (G H : List LfType) (l : ℕ → ℕ) → IsTypedRenaming G H l → (Ms : List (Option Term)) → HaveSkeletons (constant_skeletons Σ₁) (context_skeletons G) Ms → HaveSkeletons (constant_skeletons Σ₂) (context_skeletons H) (rename_all l Ms)
  all_moved G H l w [] h = tt
  all_moved G H l w (Some M ∷ Ms) ((t, m), h) = ((t, renaming_keeps_skeletons (constant_skeletons Σ₂) (context_skeletons G) (context_skeletons H) l M t (by_skeletons G H l w) (term_more Σ₁ Σ₂ extends.types_stay (context_skeletons G) M t m)), all_moved G H l w Ms h)
  all_moved G H l w (None ∷ Ms) h = all_moved G H l w Ms h

  stays_typed : IsTypedNumberedCase Σ first W (with_new_block B C)
  stays_typed = record {
    variables = variables;
    local = local_context Σ₂ okN C.local X Y ρ renames (grown_contexts Σ₁ Σ₂ kept (λ a K e. e) (onto C.local X) tc.local) variables.variables;
    local_on_own = local_known Σ₁ C.local X (own_terms first C.blocks) (own_terms first (rename_blocks ρ C.blocks ++ new ∷ [])) ρ own tc.local tc.local_on_own;
    given = all_moved X Y ρ renames C.given tc.given;
    given_on_own = all_known Σ₁ (context_skeletons X) (own_terms first C.blocks) (own_terms first (rename_blocks ρ C.blocks ++ new ∷ [])) ρ C.given own tc.given tc.given_on_own;
    arguments = all_moved (onto C.local X) (onto (renumber ρ C.local) Y) (lift_renaming_by (length C.local) ρ) (local_renames Σ₂ okN C.local X Y ρ renames) C.arguments tc.arguments;
    arguments_on_own = subst (λ f. AllOnOwnTerms f (rename_all (lift_renaming_by (length C.local) ρ) C.arguments)) (sym (over_renumbered ρ C.local (own_terms first (rename_blocks ρ C.blocks ++ new ∷ [])))) (all_known Σ₁ (context_skeletons (onto C.local X)) (own_over C.local (own_terms first C.blocks)) (own_over C.local (own_terms first (rename_blocks ρ C.blocks ++ new ∷ []))) (lift_renaming_by (length C.local) ρ) C.arguments (over_renames Σ₁ C.local (own_terms first C.blocks) (own_terms first (rename_blocks ρ C.blocks ++ new ∷ [])) ρ own) tc.arguments tc.arguments_on_own);
  }

pub new_block_stays_typed : NewBlockStaysTyped
new_block_stays_typed Σ ok W typed first free C tc B member = stays_typed Σ ok W typed first free C tc B member
