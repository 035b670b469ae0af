-- A case and its numbered form hold the same tuples.
use Rattle.std.proofs.Common.{◌≡◌, ℕ, zero, suc, List, [], ◌∷◌, length, Option, Some, None, refl, sym, ap, ◌∙◌, subst}
use Rattle.std.specs.Prelude.{Bool}
use Rattle.lf.specs.Syntax.{constant, variable, metavariable, Term, Spine, lambda, root, nil, app, LfType, atom, Skeleton, base, arrow, skeleton, rename}
use Rattle.lf.specs.Substitution.{Image, keep, put, rename_image, substitute, reduce, after}
use Rattle.lf.specs.SkeletonTyping.{HeadSkeletons, TermSkeleton, SpineSkeleton, ImageSkeleton, SubstitutionBySkeletons}
use Rattle.lf.specs.Skeletons.{type_skeleton, constant_skeletons, context_skeletons}
use Rattle.lf.specs.Typing.{Signature, TypeAt, IsSignature}
use Rattle.lf.specs.Variables.{onto}
use Rattle.lf.specs.Subordination.{Block, AreTypedBlocks}
use Rattle.lf.specs.Worlds.{World, lift_over, instance}
use Rattle.lf.specs.Extension.{Extends}
use Rattle.lf.proofs.Composition.{substitutions_compose}
use Rattle.lf.proofs.ExtensionTyping.{extension_keeps_contexts}
use Rattle.lf.proofs.Substitution.{typed_substitution_by_skeletons}
use Rattle.lf.proofs.ToSkeletons.{skeleton_has_variable, variable_has_skeleton}
use Rattle.lf.proofs.TypeLaws.{skeleton_renamed}
use Rattle.lf_cases.specs.Case.{Case, items_context, as_term, IsGroundInstance, HasArguments}
use Rattle.lf_cases.specs.Missing.{AreTypedItems, put_in}
use Rattle.lf_cases.proofs.LongValues.{long_at, long_same}
use Rattle.lf_cases.proofs.OutputItems.{lifted}
use Rattle.lf_coverage.specs.Heads.{HaveSkeletons}
use Rattle.lf_coverage.proofs.Composing.{composed}
use Rattle.lf_coverage.proofs.GroundTyped.{ground_typed, items_extended, long_equal}
use Rattle.lf_coverage.proofs.Transfer.{same_in, lift_instance, after_over}
use Rattle.lf_coverage.proofs.MoreConstants.{term_more}
use Rattle.lf_coverage.proofs.Parts.{none_some}
use Rattle.lf_numbered.specs.EntryConstants.{with_entries, IsFreeFrom}
use Rattle.lf_numbered.specs.OwnTerms.{blocks_of, own_terms, ImageOnOwnTerms}
use Rattle.lf_numbered.specs.Reading.{weaken_read, read, read_entry, entry_reading}
use Rattle.lf_numbered.specs.NumberedCase.{IsNumberedInstance}
use Rattle.lf_numbered.specs.Numbering.{numbering, numbered, HasSameValues}
use Rattle.lf_numbered.specs.NumberedArguments.{read_over, read_all, NumberedHoldsSameTuples}
use Rattle.lf_numbered.proofs.EntryValues.{read_as_term, put_term}
use Rattle.lf_numbered.proofs.NumberedTyped.{rename_as_term, typed_numbering, numbered_is_typed}
use Rattle.lf_numbered.proofs.OwnTerms.{old_is_none}
use Rattle.lf_numbered.proofs.ReadInstance.{heads}
use Rattle.lf_numbered.proofs.ReadBlocks.{ok₁}
use Rattle.lf_numbered.proofs.ReadValues.{values_fit, inside_onto}
use Rattle.lf_numbered.proofs.ReadSkeletons.{read_has_skeleton}
use Rattle.lf_numbered.proofs.Reading.{OnlyConstants, SpineOnlyConstants, IsOld, none_read, read_image, FollowsRead, image_read_under, read_substituted}
use mathlib.Core.Path.{fun_ext}

-- the constants of what has a skeleton
module _ (Σ : Signature) where
  pub constant_is_old : (c : ℕ) (t : Skeleton) (y : Option LfType) → Σ.types c ≡ y → type_skeleton y ≡ Some t → IsOld Σ c
  constant_is_old c t None e q = absurd cc
  constant_is_old c t (Some A) e q = (A, e)

  mutual
    pub skeleton_only : (Γ : List Skeleton) (M : Term) (t : Skeleton) → TermSkeleton (constant_skeletons Σ) Γ M t → OnlyConstants (IsOld Σ) M
    skeleton_only Γ (lambda M) (arrow a b) m = skeleton_only (a ∷ Γ) M b m
    skeleton_only Γ (lambda M) (base d) m = absurd m
    skeleton_only Γ (root h S) (arrow a b) m = absurd m
    skeleton_only Γ (root (constant c) S) (base d) (t, g, s) = (constant_is_old c t (Σ.types c) refl g, skeleton_spine_only Γ S t (base d) s)
    skeleton_only Γ (root (variable i) S) (base d) (t, g, s) = skeleton_spine_only Γ S t (base d) s
    skeleton_only Γ (root (metavariable m) S) (base d) (t, g, s) = skeleton_spine_only Γ S t (base d) s

    skeleton_spine_only : (Γ : List Skeleton) (S : Spine) (t u : Skeleton) → SpineSkeleton (constant_skeletons Σ) Γ S t u → SpineOnlyConstants (IsOld Σ) S
    skeleton_spine_only Γ nil t u s = tt
    skeleton_spine_only Γ (app M S) (arrow a b) u (m, s) = (skeleton_only Γ M a m, skeleton_spine_only Γ S b u s)
    skeleton_spine_only Γ (app M S) (base d) u s = absurd s

-- under a local context
pub over_none : (D : List LfType) (f : ℕ → Option (ℕ × ℕ)) (c : ℕ) → f c ≡ None → read_over D f c ≡ None
over_none [] f c e = e
over_none (A ∷ D) f c e = ap weaken_read (over_none D f c e)

pub over_instance : (D : List LfType) (δ : ℕ → Image) (f : ℕ → Option (ℕ × ℕ)) → read_over (instance D δ) f ≡ read_over D f
over_instance [] δ f = refl
over_instance (A ∷ D) δ f = ap (λ g c. weaken_read (g c)) (over_instance D δ f)

pub over_images : (D : List LfType) (f : ℕ → Option (ℕ × ℕ)) (δ : ℕ → Image) (i : ℕ) → read_image (read_over D f) (lift_over D δ i) ≡ lift_over D (λ j. read_image f (δ j)) i
over_images [] f δ i = refl
over_images (A ∷ D) f δ zero = refl
over_images (A ∷ D) f δ (suc i) = sym (image_read_under (read_over D f) (lift_over D δ i)) ∙ ap (rename_image suc) (over_images D f δ i)

pub over_agree : (D C : List LfType) (σ τ : ℕ → Image) → ((i : ℕ) (A : LfType) → TypeAt C i A → as_term (skeleton A) (σ i) ≡ as_term (skeleton A) (τ i)) → (i : ℕ) (A : LfType) → TypeAt (onto D C) i A → as_term (skeleton A) (lift_over D σ i) ≡ as_term (skeleton A) (lift_over D τ i)
over_agree [] C σ τ h i A g = h i A g
over_agree (B ∷ D) C σ τ h zero A g = refl
over_agree (B ∷ D) C σ τ h (suc i) A (F, g, e) =
    ap (λ a. as_term a (rename_image suc (lift_over D σ i))) (ap skeleton e ∙ skeleton_renamed suc F)
    ∙ sym (rename_as_term suc (skeleton F) (lift_over D σ i))
    ∙ ap (rename suc) (over_agree D C σ τ h i F g)
    ∙ rename_as_term suc (skeleton F) (lift_over D τ i)
    ∙ ap (λ a. as_term a (rename_image suc (lift_over D τ i))) (sym (ap skeleton e ∙ skeleton_renamed suc F))

module _ (κ : HeadSkeletons) where
  long_term : (O : List LfType) (Δ : List Skeleton) (σ : ℕ → Image) (N : Term) (t : Skeleton) → SubstitutionBySkeletons κ (context_skeletons O) Δ σ → TermSkeleton κ (context_skeletons O) N t → substitute reduce (long_at O σ) N ≡ substitute reduce σ N
  long_term O Δ σ N t s n = argument (long_same κ (λ a. Some (arrow t (base 0))) [] O Δ σ (atom 0 (app N nil)) s (arrow t (base 0), refl, (n, refl)))
    where
      argument : atom 0 (app (substitute reduce (long_at O σ) N) nil) ≡ atom 0 (app (substitute reduce σ N) nil) → substitute reduce (long_at O σ) N ≡ substitute reduce σ N
      argument e = cc

  -- values that are the same as terms
  pub agreeing : (O : List LfType) (Δ Δ' : List Skeleton) (σ τ : ℕ → Image) (N : Term) (t : Skeleton) → SubstitutionBySkeletons κ (context_skeletons O) Δ σ → SubstitutionBySkeletons κ (context_skeletons O) Δ' τ → ((i : ℕ) (A : LfType) → TypeAt O i A → as_term (skeleton A) (σ i) ≡ as_term (skeleton A) (τ i)) → TermSkeleton κ (context_skeletons O) N t → substitute reduce σ N ≡ substitute reduce τ N
  agreeing O Δ Δ' σ τ N t s u h n =
      sym (long_term O Δ σ N t s n)
      ∙ same_in κ (context_skeletons O) (long_at O σ) (long_at O τ) (λ i v g. let (B, k, e) = skeleton_has_variable O i v g in long_equal O σ τ h i B k) N t n
      ∙ long_term O Δ' τ N t u n

-- values of values
pub twice : (Σ : Signature) (C J G : List LfType) (σ ρ : ℕ → Image) → SubstitutionBySkeletons (constant_skeletons Σ) (context_skeletons C) (context_skeletons J) σ → SubstitutionBySkeletons (constant_skeletons Σ) (context_skeletons J) (context_skeletons G) ρ → (D : List LfType) (M : Term) (t : Skeleton) → TermSkeleton (constant_skeletons Σ) (context_skeletons (onto D C)) M t → substitute reduce (lift_over D (after ρ σ)) M ≡ substitute reduce (lift_over D ρ) (substitute reduce (lift_over D σ) M)
twice Σ C J G σ ρ s r D M t m = sym (substitutions_compose (constant_skeletons Σ) (context_skeletons (onto D C)) (context_skeletons (onto (instance D σ) J)) (context_skeletons (onto (instance (instance D σ) ρ) G)) (lift_over D σ) (lift_over D ρ) M t (lifted Σ D C J σ s) (subst (SubstitutionBySkeletons (constant_skeletons Σ) (context_skeletons (onto (instance D σ) J)) (context_skeletons (onto (instance (instance D σ) ρ) G))) (lift_instance D σ ρ) (lifted Σ (instance D σ) J G ρ r)) m ∙ ap (λ f. substitute reduce f M) (after_over D σ ρ))

module _ (Σ Σ' : Signature) (ok : IsSignature Σ) (S : ℕ → Bool) (x : Extends S Σ Σ') (W : List Block) (typed : AreTypedBlocks Σ W) (first : ℕ) (free : IsFreeFrom Σ first) (C : Case) (a : AreTypedItems Σ W C.items) {G : List LfType} (w : World Σ' W S G) (σ : ℕ → Image) (g : IsGroundInstance w C.items σ) (θ : ℕ → ℕ → Image) (ρ : ℕ → Image) (inst : IsNumberedInstance w first (numbered first C) θ ρ) (same : HasSameValues first C σ θ ρ) where
  abbrev κ' : HeadSkeletons
  κ' = constant_skeletons Σ'

  abbrev X : List LfType
  X = (numbering first C.items).variables

  abbrev δ : ℕ → Image
  δ = (numbering first C.items).images

  abbrev f : ℕ → Option (ℕ × ℕ)
  f = entry_reading first (blocks_of (numbering first C.items).blocks) θ (length X)

  abbrev seen : ℕ → Image
  seen i = read_image f (δ i)

  typed' : AreTypedBlocks Σ' W
  typed' B m = extension_keeps_contexts S Σ Σ' x (onto B.entries B.some) (typed B m)

  ρ_fits : SubstitutionBySkeletons κ' (context_skeletons (onto X G)) (context_skeletons G) ρ
  ρ_fits = values_fit Σ' x.ok G first (blocks_of (numbering first C.items).blocks) θ X ρ inst.values

  σ_fits : SubstitutionBySkeletons κ' (context_skeletons (items_context C.items)) (context_skeletons G) σ
  σ_fits = typed_substitution_by_skeletons Σ' x.ok (items_context C.items) G σ (ground_typed Σ' x.ok W typed' w C.items σ (items_extended S Σ Σ' x W C.items a) g)

  seen_fits : SubstitutionBySkeletons κ' (context_skeletons (items_context C.items)) (context_skeletons (onto X G)) seen
  seen_fits i t h =
      let r = typed_numbering Σ ok W typed first free C.items a in
      let tv = numbered_is_typed Σ ok W typed first free C a in
      let Σ₁ : Signature = with_entries Σ first (blocks_of (numbering first C.items).blocks) in
      let (A, k, e) = skeleton_has_variable (items_context C.items) i t h in
      by (δ i) (typed_substitution_by_skeletons Σ₁ (ok₁ Σ Σ' ok S x W typed first free (numbered first C) tv w θ ρ inst) (items_context C.items) X δ r.images i t h) (r.own_images i A k)
    where
      by : (y : Image) → ImageSkeleton (constant_skeletons (with_entries Σ first (blocks_of (numbering first C.items).blocks))) (context_skeletons X) y t → ImageOnOwnTerms (own_terms first (numbering first C.items).blocks) y → ImageSkeleton κ' (context_skeletons (onto X G)) (read_image f y) t
      by (keep j) p q = inside_onto X G j t p
      by (put c N) (e, n) q = (e, read_has_skeleton (constant_skeletons (with_entries Σ first (blocks_of (numbering first C.items).blocks))) κ' (λ j u z. none_some z) (context_skeletons X) (context_skeletons (onto X G)) f (own_terms first (numbering first C.items).blocks) N c (inside_onto X G) (heads Σ Σ' ok S x W typed first free (numbered first C) (numbered_is_typed Σ ok W typed first free C a) w θ ρ inst) n q)

  agree : (i : ℕ) (A : LfType) → TypeAt (items_context C.items) i A → as_term (skeleton A) (σ i) ≡ as_term (skeleton A) (after ρ seen i)
  agree i A k = same i A k ∙ ap (substitute reduce ρ) (read_as_term f (skeleton A) (δ i)) ∙ put_term κ' (context_skeletons (onto X G)) (context_skeletons G) ρ ρ_fits (skeleton A) (seen i) (seen_fits i (skeleton A) (variable_has_skeleton (items_context C.items) i A k))

  -- a term under a local context
  pub under_same : (D : List LfType) (M : Term) (t : Skeleton) → TermSkeleton (constant_skeletons Σ) (context_skeletons (onto D (items_context C.items))) M t → substitute reduce (lift_over D σ) M ≡ substitute reduce (lift_over D ρ) (read (read_over D f) (substitute reduce (lift_over D δ) M))
  under_same D M t m =
      let O : List LfType = onto D (items_context C.items) in
      let m' : TermSkeleton κ' (context_skeletons (onto D (items_context C.items))) M t = term_more Σ Σ' x.types_stay (context_skeletons (onto D (items_context C.items))) M t m in
      let both : SubstitutionBySkeletons κ' (context_skeletons (items_context C.items)) (context_skeletons G) (after ρ seen) = composed κ' (context_skeletons (items_context C.items)) (context_skeletons (onto X G)) (context_skeletons G) seen ρ seen_fits ρ_fits in
      agreeing κ' O (context_skeletons (onto (instance D σ) G)) (context_skeletons (onto (instance D (after ρ seen)) G)) (lift_over D σ) (lift_over D (after ρ seen)) M t (lifted Σ' D (items_context C.items) G σ σ_fits) (lifted Σ' D (items_context C.items) G (after ρ seen) both) (over_agree D (items_context C.items) σ (after ρ seen) agree) m'
      ∙ twice Σ' (items_context C.items) (onto X G) G seen ρ seen_fits ρ_fits D M t m'
      ∙ ap (substitute reduce (lift_over D ρ)) (sym (
      read_substituted (IsOld Σ) (λ c. None) (read_over D f) (lift_over D δ) M follows (skeleton_only Σ (context_skeletons (onto D (items_context C.items))) M t m)
      ∙ ap (λ τ. substitute reduce τ (read (λ c. None) M)) (fun_ext (over_images D f δ))
      ∙ ap (substitute reduce (lift_over D seen)) (none_read (IsOld Σ) (λ c. None) M (λ c h. refl) (skeleton_only Σ (context_skeletons (onto D (items_context C.items))) M t m))))
    where
      follows : (c : ℕ) → IsOld Σ c → FollowsRead (lift_over D δ) None (read_over D f c)
      follows c (A, e) = subst (FollowsRead (lift_over D δ) None) (sym (over_none D f c (ap (read_entry θ (length X)) (old_is_none Σ first free (blocks_of (numbering first C.items).blocks) c A e)))) tt

  held : (D : List LfType) (Ms : List (Option Term)) (T : Spine) → HaveSkeletons (constant_skeletons Σ) (context_skeletons (onto D (items_context C.items))) Ms → HasArguments (lift_over D σ) Ms T → HasArguments (lift_over D ρ) (read_all (read_over D f) (put_in (lift_over D δ) Ms)) T
  held D [] nil h k = tt
  held D [] (app N T) h k = k
  held D (Some M ∷ Ms) nil h k = k
  held D (None ∷ Ms) nil h k = k
  held D (Some M ∷ Ms) (app N T) ((t, m), h) (e, k) = (e ∙ under_same D M t m, held D Ms T h k)
  held D (None ∷ Ms) (app N T) h k = held D Ms T h k

  back : (D : List LfType) (Ms : List (Option Term)) (T : Spine) → HaveSkeletons (constant_skeletons Σ) (context_skeletons (onto D (items_context C.items))) Ms → HasArguments (lift_over D ρ) (read_all (read_over D f) (put_in (lift_over D δ) Ms)) T → HasArguments (lift_over D σ) Ms T
  back D [] nil h k = tt
  back D [] (app N T) h k = k
  back D (Some M ∷ Ms) nil h k = k
  back D (None ∷ Ms) nil h k = k
  back D (Some M ∷ Ms) (app N T) ((t, m), h) (e, k) = (e ∙ sym (under_same D M t m), back D Ms T h k)
  back D (None ∷ Ms) (app N T) h k = back D Ms T h k

pub numbered_holds_same_tuples : NumberedHoldsSameTuples
numbered_holds_same_tuples Σ Σ' ok S x W typed first free C a k G w σ g θ ρ inst same T =
    let D : List LfType = C.local in
    let δ : ℕ → Image = (numbering first C.items).images in
    let f : ℕ → Option (ℕ × ℕ) = entry_reading first (blocks_of (numbering first C.items).blocks) θ (length (numbering first C.items).variables) in
    let Ms : List (Option Term) = put_in (lift_over C.local δ) C.arguments in
    let shape : HasArguments (lift_over (instance D δ) ρ) (read_all (read_over (instance D δ) f) Ms) T ≡ HasArguments (lift_over D ρ) (read_all (read_over D f) Ms) T = ap (λ τ. HasArguments τ (read_all (read_over (instance D δ) f) Ms) T) (lift_instance D δ ρ) ∙ ap (λ h. HasArguments (lift_over D ρ) (read_all h Ms) T) (over_instance D δ f) in (
      λ h. subst (λ Y. Y) (sym shape) (held Σ Σ' ok S x W typed first free C a w σ g θ ρ inst same D C.arguments T k h),
      λ h. back Σ Σ' ok S x W typed first free C a w σ g θ ρ inst same D C.arguments T k (subst (λ Y. Y) shape h),
    )
