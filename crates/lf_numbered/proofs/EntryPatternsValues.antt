-- The values of a clause in a case with block variables by number, read and put into a ground instance of the case, are values of the clause there.
use Rattle.std.proofs.Common.{◌≡◌, ℕ, ◌+◌, List, [], ◌∷◌, length, refl, sym, ap, ◌∙◌, subst, inl, inr}
use Rattle.std.specs.Prelude.{Bool, true, false, Option, None, ◌⊎◌}
use Rattle.lf.specs.Syntax.{Term, LfType, Skeleton, skeleton}
use Rattle.lf.specs.Substitution.{Image, keep, put, substitute, substitute_image, substitute_type, reduce, after}
use Rattle.lf.specs.SkeletonTyping.{HeadSkeletons, SkeletonAt, ImageSkeleton, TermSkeleton, SubstitutionBySkeletons}
use Rattle.lf.specs.Skeletons.{constant_skeletons, family_skeletons, context_skeletons}
use Rattle.lf.specs.Typing.{Signature, TypeAt, ImageHasType, IsType, IsContext, IsSignature}
use Rattle.lf.specs.Variables.{onto, Uses, UsesType, Values}
use Rattle.lf.specs.Subordination.{Block, AreTypedBlocks}
use Rattle.lf.specs.Worlds.{World}
use Rattle.lf.specs.Extension.{Extends}
use Rattle.lf.proofs.Agreement.{agree_on, agree_on_type}
use Rattle.lf.proofs.AtOnce.{rename_identity}
use Rattle.lf.proofs.Composition.{substitutions_compose}
use Rattle.lf.proofs.ExtensionTyping.{extension_keeps_types}
use Rattle.lf.proofs.Growth.{growth_keeps_types}
use Rattle.lf.proofs.Patch.{pick}
use Rattle.lf.proofs.SkeletonTypes.{substitutions_compose_type}
use Rattle.lf.proofs.SkeletonTyping.{renaming_keeps_skeletons}
use Rattle.lf.proofs.ToSkeletons.{typed_has_skeleton, variable_has_skeleton, skeleton_has_variable, type_by_skeletons}
use Rattle.lf.proofs.TypeLaws.{skeleton_substituted}
use Rattle.lf.proofs.Weakening.{declared_is_type}
use Rattle.lf_coverage.proofs.Composing.{composed}
use Rattle.lf_coverage.proofs.Parts.{none_some}
use Rattle.lf_coverage.proofs.StayTyped.{value_type}
use Rattle.lf_coverage.proofs.Transfer.{onto_skeleton}
use Rattle.lf_coverage.proofs.NearOrFar.{onto_cases}
use Rattle.lf_numbered.specs.EntryConstants.{with_entries, IsFreeFrom}
use Rattle.lf_numbered.specs.NumberedCase.{NumberedCase, AreTypedVariables, IsNumberedInstance}
use Rattle.lf_numbered.specs.OwnTerms.{blocks_of, own_terms, TypeOnOwnTerms, ImageOnOwnTerms}
use Rattle.lf_numbered.specs.Reading.{read, read_type, read_entry, entry_reading}
use Rattle.lf_numbered.proofs.EntrySignature.{entries_kept}
use Rattle.lf_numbered.proofs.NumberedArguments.{skeleton_only}
use Rattle.lf_numbered.proofs.NumberedTyped.{put_old_type}
use Rattle.lf_numbered.proofs.NumberedTypedFree.{old_own}
use Rattle.lf_numbered.proofs.OwnTerms.{old_is_none}
use Rattle.lf_numbered.proofs.ReadInstance.{heads, reading_keeps_typing}
use Rattle.lf_numbered.proofs.ReadBlocks.{ok₁}
use Rattle.lf_numbered.proofs.ReadValues.{values_fit, value_past, values_typed, inside_onto}
use Rattle.lf_numbered.proofs.ReadSkeletons.{read_has_skeleton}
use Rattle.lf_numbered.proofs.Reading.{IsOld, type_only, none_read, none_read_type, read_image, skeleton_read, FollowsRead, read_substituted, read_type_substituted}

-- what has a skeleton has it in a larger context
inside_term : (κ : HeadSkeletons) (Γ Δ : List Skeleton) (M : Term) (t : Skeleton) → ((i : ℕ) (s : Skeleton) → SkeletonAt Γ i s → SkeletonAt Δ i s) → TermSkeleton κ Γ M t → TermSkeleton κ Δ M t
inside_term κ Γ Δ M t h m = subst (λ N. TermSkeleton κ Δ N t) (rename_identity M) (renaming_keeps_skeletons κ Γ Δ (λ i. i) M t h m)

-- what has a type in a context has a skeleton in a larger one
pub typed_inside : (Σ : Signature) (G O : List LfType) (y : Image) (A : LfType) → ImageHasType Σ G y A → ImageSkeleton (constant_skeletons Σ) (context_skeletons (onto G O)) y (skeleton A)
typed_inside Σ G O (keep j) A h = inside_onto G O j (skeleton A) (variable_has_skeleton G j A h)
typed_inside Σ G O (put a N) A (e, n) = (sym e, inside_term (constant_skeletons Σ) (context_skeletons G) (context_skeletons (onto G O)) N a (inside_onto G O) (subst (TermSkeleton (constant_skeletons Σ) (context_skeletons G) N) e (typed_has_skeleton Σ G N A n)))

module _ (Σ Σ' : Signature) (ok : IsSignature Σ) (S : ℕ → Bool) (x : Extends S Σ Σ') (W : List Block) (typed : AreTypedBlocks Σ W) (first : ℕ) (free : IsFreeFrom Σ first) (C : NumberedCase) (tv : AreTypedVariables Σ first W C) {G : List LfType} (w : World Σ' W S G) (θ : ℕ → ℕ → Image) (σ : ℕ → Image) (inst : IsNumberedInstance w first C θ σ) (O : List LfType) (ct : IsContext Σ O) (U : ℕ → Bool) (τ : ℕ → Image) (vs : Values (with_entries Σ first (blocks_of C.blocks)) U O C.variables τ) (own : (i : ℕ) → U i ≡ true → ImageOnOwnTerms (own_terms first C.blocks) (τ i)) where
  abbrev X : List LfType
  X = C.variables

  abbrev Σ₁ : Signature
  Σ₁ = with_entries Σ first (blocks_of C.blocks)

  abbrev f : ℕ → Option (ℕ × ℕ)
  f = entry_reading first (blocks_of C.blocks) θ (length X)

  abbrev κ' : HeadSkeletons
  κ' = constant_skeletons Σ'

  abbrev Θ : List Skeleton
  Θ = context_skeletons (onto X (onto G O))

  abbrev patched : ℕ → Image
  patched i = pick (U i) (τ i) (keep ((i + length G) + length X))

  patched_same : (i : ℕ) → U i ≡ true → τ i ≡ patched i
  patched_same i u = sym (ap (λ b. pick b (τ i) (keep ((i + length G) + length X))) u)

  abbrev seen : ℕ → Image
  seen i = read_image f (patched i)

  -- the values, read and put into the instance
  abbrev pub carried : ℕ → Image
  carried = after σ seen

  pub carried_is : (i : ℕ) → U i ≡ true → carried i ≡ substitute_image σ (read_image f (τ i))
  carried_is i u = ap (λ y. substitute_image σ (read_image f y)) (sym (patched_same i u))

  signature₁ : IsSignature Σ₁
  signature₁ = ok₁ Σ Σ' ok S x W typed first free C tv w θ σ inst

  inside_all : (i : ℕ) (s : Skeleton) → SkeletonAt (context_skeletons (onto X G)) i s → SkeletonAt Θ i s
  inside_all i s g = by (onto_cases X G i s g)
    where
      by : SkeletonAt (context_skeletons X) i s ⊎ ((j : ℕ) × (i ≡ j + length X) × SkeletonAt (context_skeletons G) j s) → SkeletonAt Θ i s
      by (inl h) = inside_onto X (onto G O) i s h
      by (inr (j, e, h)) = subst (λ k. SkeletonAt Θ k s) (sym e) (onto_skeleton X (onto G O) j s (inside_onto G O j s h))

  seen_fits : SubstitutionBySkeletons κ' (context_skeletons O) Θ seen
  seen_fits i t g = by (U i) refl
    where
      at : (y : Image) (A : LfType) → ImageHasType Σ₁ X y A → ImageOnOwnTerms (own_terms first C.blocks) y → ImageSkeleton κ' Θ (read_image f y) (skeleton A)
      at (keep j) A h p = inside_onto X (onto G O) j (skeleton A) (variable_has_skeleton X j A h)
      at (put a N) A (e, n) p = (sym e, subst (TermSkeleton κ' Θ (read f N)) e (inside_term κ' (context_skeletons (onto X G)) Θ (read f N) (skeleton A) inside_all (read_has_skeleton (constant_skeletons Σ₁) κ' (λ j s q. none_some q) (context_skeletons X) (context_skeletons (onto X G)) f (own_terms first C.blocks) N (skeleton A) (inside_onto X G) (heads Σ Σ' ok S x W typed first free C tv w θ σ inst) (typed_has_skeleton Σ₁ X N A n) p)))

      by : (b : Bool) → U i ≡ b → ImageSkeleton κ' Θ (seen i) t
      by true u =
          let (A, h, e) = skeleton_has_variable O i t g in
          subst (λ y. ImageSkeleton κ' Θ (read_image f y) t) (patched_same i u) (subst (ImageSkeleton κ' Θ (read_image f (τ i))) (skeleton_substituted reduce τ A ∙ e) (at (τ i) (substitute_type reduce τ A) (vs.typed i A h u) (own i u)))
      by false u = subst (λ b. ImageSkeleton κ' Θ (read_image f (pick b (τ i) (keep ((i + length G) + length X)))) t) (sym u) (onto_skeleton X (onto G O) (i + length G) t (onto_skeleton G O i t g))

  σ_fits : SubstitutionBySkeletons κ' Θ (context_skeletons (onto G O)) σ
  σ_fits i t g = by (onto_cases X (onto G O) i t g)
    where
      into : (y : Image) → ImageSkeleton κ' (context_skeletons G) y t → ImageSkeleton κ' (context_skeletons (onto G O)) y t
      into (keep j) h = inside_onto G O j t h
      into (put a N) (e, n) = (e, inside_term κ' (context_skeletons G) (context_skeletons (onto G O)) N a (inside_onto G O) n)

      by : SkeletonAt (context_skeletons X) i t ⊎ ((j : ℕ) × (i ≡ j + length X) × SkeletonAt (context_skeletons (onto G O)) j t) → ImageSkeleton κ' (context_skeletons (onto G O)) (σ i) t
      by (inl h) = into (σ i) (values_fit Σ' x.ok G first (blocks_of C.blocks) θ X σ inst.values i t (inside_onto X G i t h))
      by (inr (j, e, h)) = subst (λ y. ImageSkeleton κ' (context_skeletons (onto G O)) y t) (sym (ap σ e ∙ value_past Σ' x.ok G first (blocks_of C.blocks) θ X σ inst.values j)) h

  pub carried_fits : SubstitutionBySkeletons κ' (context_skeletons O) (context_skeletons (onto G O)) carried
  carried_fits = composed κ' (context_skeletons O) Θ (context_skeletons (onto G O)) seen σ seen_fits σ_fits

  -- what is read of old terms and types
  follows : (c : ℕ) → IsOld Σ c → FollowsRead patched None (f c)
  follows c (A, e) = subst (FollowsRead patched None) (sym (ap (read_entry θ (length X)) (old_is_none Σ first free (blocks_of C.blocks) c A e))) tt

  read_type_of : (A : LfType) → IsType Σ O A → read_type f (substitute_type reduce patched A) ≡ substitute_type reduce seen A
  read_type_of A t = read_type_substituted (IsOld Σ) (λ c. None) f patched A follows (type_only Σ O A t) ∙ ap (substitute_type reduce seen) (none_read_type (IsOld Σ) (λ c. None) A (λ c h. refl) (type_only Σ O A t))

  value_of_type : (A : LfType) → IsType Σ O A → UsesType U A → substitute_type reduce σ (read_type f (substitute_type reduce τ A)) ≡ substitute_type reduce carried A
  value_of_type A t u =
      ap (λ B. substitute_type reduce σ (read_type f B)) (agree_on_type reduce U τ patched A patched_same u)
      ∙ ap (substitute_type reduce σ) (read_type_of A t)
      ∙ substitutions_compose_type (family_skeletons Σ') κ' (context_skeletons O) Θ (context_skeletons (onto G O)) seen σ A seen_fits σ_fits (type_by_skeletons Σ' O A (extension_keeps_types S Σ Σ' x O A t))

  pub carried_term : (Q : Term) (t : Skeleton) → TermSkeleton (constant_skeletons Σ) (context_skeletons O) Q t → TermSkeleton κ' (context_skeletons O) Q t → Uses U Q → substitute reduce σ (read f (substitute reduce τ Q)) ≡ substitute reduce carried Q
  carried_term Q t q q' u =
      let only = skeleton_only Σ (context_skeletons O) Q t q in
      ap (λ M. substitute reduce σ (read f M)) (agree_on reduce U τ patched Q patched_same u)
      ∙ ap (substitute reduce σ) (read_substituted (IsOld Σ) (λ c. None) f patched Q follows only ∙ ap (substitute reduce seen) (none_read (IsOld Σ) (λ c. None) Q (λ c h. refl) only))
      ∙ substitutions_compose κ' (context_skeletons O) Θ (context_skeletons (onto G O)) seen σ Q t seen_fits σ_fits q'

  -- the values of U are typed
  more_context : (D : List LfType) → IsContext Σ D → IsContext Σ₁ D
  more_context [] c = c
  more_context (A ∷ D) (c, a) = (more_context D c, growth_keeps_types Σ Σ₁ (entries_kept Σ first (blocks_of C.blocks)) (λ b K q. q) D A a)

  patched_own : (i : ℕ) → ImageOnOwnTerms (own_terms first C.blocks) (patched i)
  patched_own i = by (U i) refl
    where
      by : (b : Bool) → U i ≡ b → ImageOnOwnTerms (own_terms first C.blocks) (patched i)
      by true u = subst (ImageOnOwnTerms (own_terms first C.blocks)) (patched_same i u) (own i u)
      by false u = subst (λ b. ImageOnOwnTerms (own_terms first C.blocks) (pick b (τ i) (keep ((i + length G) + length X)))) (sym u) tt

  type_on_own : (A : LfType) → IsType Σ O A → UsesType U A → TypeOnOwnTerms (own_terms first C.blocks) (substitute_type reduce τ A)
  type_on_own A t u = subst (TypeOnOwnTerms (own_terms first C.blocks)) (sym (agree_on_type reduce U τ patched A patched_same u)) (put_old_type Σ O (own_terms first C.blocks) patched A (old_own Σ ok W typed first free C.blocks) (λ i B g. patched_own i) t)

  pub carried_typed : (i : ℕ) (A : LfType) → TypeAt O i A → U i ≡ true → ImageHasType Σ' G (carried i) (substitute_type reduce carried A)
  carried_typed i A h u =
      let t = declared_is_type Σ ok O i A ct h in
      let uses = vs.closed i A h u in
      subst (ImageHasType Σ' G (carried i)) (value_of_type A t uses) (subst (λ y. ImageHasType Σ' G y (substitute_type reduce σ (read_type f (substitute_type reduce τ A)))) (sym (carried_is i u)) (at (τ i) (substitute_type reduce τ A) (vs.typed i A h u) (own i u) (value_type Σ₁ signature₁ U O X τ A (more_context O ct) tv.variables vs (growth_keeps_types Σ Σ₁ (entries_kept Σ first (blocks_of C.blocks)) (λ b K q. q) O A t) uses) (type_on_own A t uses)))
    where
      at : (y : Image) (B : LfType) → ImageHasType Σ₁ X y B → ImageOnOwnTerms (own_terms first C.blocks) y → IsType Σ₁ X B → TypeOnOwnTerms (own_terms first C.blocks) B → ImageHasType Σ' G (substitute_image σ (read_image f y)) (substitute_type reduce σ (read_type f B))
      at (keep j) B h p t o = values_typed Σ' x.ok G first (blocks_of C.blocks) θ X σ inst.values j B h
      at (put a N) B (e, n) p t o = (skeleton_substituted reduce σ (read_type f B) ∙ skeleton_read f B ∙ e, reading_keeps_typing Σ Σ' ok S x W typed first free C tv G w θ σ inst N B t o n p)
