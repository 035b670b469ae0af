-- The numbered form of a typed case is typed, and on own terms.
use Rattle.std.proofs.Common.{◌≡◌, ℕ, zero, suc, List, [], ◌∷◌, Option, Some, None, refl, sym, ap, subst}
use Rattle.lf.specs.Syntax.{constant, variable, metavariable, Term, Spine, lambda, root, nil, app, LfType, Skeleton, base, arrow}
use Rattle.lf.specs.Substitution.{Image, lift, substitute, substitute_spine, substitute_type, reduce}
use Rattle.lf.specs.SkeletonTyping.{SkeletonAt, TermSkeleton, SpineSkeleton, SubstitutionBySkeletons}
use Rattle.lf.specs.Skeletons.{constant_skeletons, context_skeletons}
use Rattle.lf.specs.Typing.{Signature, TypeAt, IsTypedSubstitution, IsType, IsContext, IsSignature}
use Rattle.lf.specs.Variables.{onto, nothing}
use Rattle.lf.specs.Subordination.{Block, AreTypedBlocks}
use Rattle.lf.specs.Worlds.{lift_over, instance}
use Rattle.lf.specs.Extension.{Extends}
use Rattle.lf.proofs.Growth.{growth_keeps_types}
use Rattle.lf.proofs.Renaming.{OnPut-all}
use Rattle.lf.proofs.SkeletonTyping.{substitution_keeps_skeletons}
use Rattle.lf.proofs.Substitution.{TypedSubstitution, skeleton_context_of, lifted_substitution_typed, substitution_keeps_types, typed_substitution_by_skeletons}
use Rattle.lf.proofs.ToSkeletons.{skeleton_has_variable, type_by_skeletons}
use Rattle.lf_cases.specs.Case.{Case, items_context}
use Rattle.lf_cases.specs.Missing.{put_in}
use Rattle.lf_cases.proofs.OutputItems.{lifted}
use Rattle.lf_coverage.specs.Heads.{HaveSkeletons, IsTypedCase}
use Rattle.lf_coverage.specs.TypedLocal.{HasTypedLocal}
use Rattle.lf_coverage.proofs.MoreConstants.{term_more}
use Rattle.lf_numbered.specs.EntryConstants.{with_entries, IsFreeFrom}
use Rattle.lf_numbered.specs.Numbering.{Numbering, numbering, numbered}
use Rattle.lf_numbered.specs.OwnTerms.{blocks_of, own_terms, weaken_own, BeginsWith, OnOwnTerms, SpineOnOwnTerms, TypeOnOwnTerms, AllOnOwnTerms, ImageOnOwnTerms}
use Rattle.lf_numbered.specs.TypedNumbered.{own_over, LocalOnOwnTerms, IsTypedNumberedCase, NumberedCaseIsTyped}
use Rattle.lf_numbered.proofs.EntrySignature.{grown_contexts, with_entries_is_signature, entries_kept}
use Rattle.lf_numbered.proofs.NumberedArguments.{constant_is_old}
use Rattle.lf_numbered.proofs.NumberedTyped.{typed_numbering, numbered_is_typed, put_old_type}
use Rattle.lf_numbered.proofs.NumberedTypedFree.{IsTypedNumbering, among_worlds, old_own}
use Rattle.lf_numbered.proofs.OwnTerms.{RedOwn, image_under, plug_own, reduce_own}
use Rattle.lf_numbered.proofs.Reading.{IsOld}

-- Own terms under a local context
own_over_none : (D : List LfType) (o : ℕ → Option Spine) (c : ℕ) → o c ≡ None → own_over D o c ≡ None
own_over_none [] o c e = e
own_over_none (A ∷ D) o c e = ap weaken_own (own_over_none D o c e)

own_over_instance : (D : List LfType) (δ : ℕ → Image) (o : ℕ → Option Spine) → own_over (instance D δ) o ≡ own_over D o
own_over_instance [] δ o = refl
own_over_instance (A ∷ D) δ o = ap (λ p c. weaken_own (p c)) (own_over_instance D δ o)

own_over_images : (D C : List LfType) (o : ℕ → Option Spine) (δ : ℕ → Image) → ((i : ℕ) (A : LfType) → TypeAt C i A → ImageOnOwnTerms o (δ i)) → (i : ℕ) (A : LfType) → TypeAt (onto D C) i A → ImageOnOwnTerms (own_over D o) (lift_over D δ i)
own_over_images [] C o δ h i A g = h i A g
own_over_images (B ∷ D) C o δ h zero A g = tt
own_over_images (B ∷ D) C o δ h (suc i) A (F, g, e) = image_under (own_over D o) (lift_over D δ i) (own_over_images D C o δ h i F g)

-- Values on own terms in what has a skeleton
module _ (Σ : Signature) where
  known_under : (Γ : List Skeleton) (a : Skeleton) (o : ℕ → Option Spine) (σ : ℕ → Image) → ((i : ℕ) (t : Skeleton) → SkeletonAt Γ i t → ImageOnOwnTerms o (σ i)) → (i : ℕ) (t : Skeleton) → SkeletonAt (a ∷ Γ) i t → ImageOnOwnTerms (λ c. weaken_own (o c)) (lift σ i)
  known_under Γ a o σ v zero t g = tt
  known_under Γ a o σ v (suc i) t g = image_under o (σ i) (v i t g)

  mutual
    pub put_known : (Γ : List Skeleton) (o : ℕ → Option Spine) (σ : ℕ → Image) (M : Term) (t : Skeleton) → ((c : ℕ) → IsOld Σ c → o c ≡ None) → ((i : ℕ) (u : Skeleton) → SkeletonAt Γ i u → ImageOnOwnTerms o (σ i)) → TermSkeleton (constant_skeletons Σ) Γ M t → OnOwnTerms o (substitute reduce σ M)
    put_known Γ o σ (lambda M) (arrow a b) h v m = put_known (a ∷ Γ) (λ c. weaken_own (o c)) (lift σ) M b (λ c p. ap weaken_own (h c p)) (known_under Γ a o σ v) m
    put_known Γ o σ (lambda M) (base d) h v m = absurd m
    put_known Γ o σ (root k S) (arrow a b) h v m = absurd m
    put_known Γ o σ (root (constant c) S) (base d) h v (t, g, s) = (subst (λ u. BeginsWith u (substitute_spine reduce σ S)) (sym (h c (constant_is_old Σ c t (Σ.types c) refl g))) tt, put_known_spine Γ o σ S t (base d) h v s)
    put_known Γ o σ (root (metavariable m) S) (base d) h v (t, g, s) = put_known_spine Γ o σ S t (base d) h v s
    put_known Γ o σ (root (variable i) S) (base d) h v (t, g, s) = plug_own o (σ i) (substitute_spine reduce σ S) (OnPut-all RedOwn reduce_own (σ i)) (v i t g) (put_known_spine Γ o σ S t (base d) h v s)

    put_known_spine : (Γ : List Skeleton) (o : ℕ → Option Spine) (σ : ℕ → Image) (S : Spine) (t u : Skeleton) → ((c : ℕ) → IsOld Σ c → o c ≡ None) → ((i : ℕ) (u : Skeleton) → SkeletonAt Γ i u → ImageOnOwnTerms o (σ i)) → SpineSkeleton (constant_skeletons Σ) Γ S t u → SpineOnOwnTerms o (substitute_spine reduce σ S)
    put_known_spine Γ o σ nil t u h v s = tt
    put_known_spine Γ o σ (app M S) (arrow a b) u h v (m, s) = (put_known Γ o σ M a h v m, put_known_spine Γ o σ S b u h v s)
    put_known_spine Γ o σ (app M S) (base d) u h v s = absurd s

  put_known_all : (Γ : List Skeleton) (o : ℕ → Option Spine) (σ : ℕ → Image) (Ms : List (Option Term)) → ((c : ℕ) → IsOld Σ c → o c ≡ None) → ((i : ℕ) (u : Skeleton) → SkeletonAt Γ i u → ImageOnOwnTerms o (σ i)) → HaveSkeletons (constant_skeletons Σ) Γ Ms → AllOnOwnTerms o (put_in σ Ms)
  put_known_all Γ o σ [] h v k = tt
  put_known_all Γ o σ (Some M ∷ Ms) h v ((t, m), k) = (put_known Γ o σ M t h v m, put_known_all Γ o σ Ms h v k)
  put_known_all Γ o σ (None ∷ Ms) h v k = put_known_all Γ o σ Ms h v k

module _ (Σ : Signature) (ok : IsSignature Σ) (W : List Block) (typed : AreTypedBlocks Σ W) (first : ℕ) (free : IsFreeFrom Σ first) (C : Case) (tc : IsTypedCase Σ W C) (tl : HasTypedLocal Σ C) where
  abbrev n : Numbering
  n = numbering first C.items

  abbrev Σ₁ : Signature
  Σ₁ = with_entries Σ first (blocks_of (numbering first C.items).blocks)

  abbrev o : ℕ → Option Spine
  o = own_terms first (numbering first C.items).blocks

  r : IsTypedNumbering Σ ok W typed first free C.items
  r = typed_numbering Σ ok W typed first free C.items tc.items

  ok₁ : IsSignature Σ₁
  ok₁ = with_entries_is_signature Σ ok first free (blocks_of n.blocks) (λ B m. typed B (among_worlds Σ ok W typed first free Σ₁ n.variables o n.blocks r.blocks B m))

  fits : SubstitutionBySkeletons (constant_skeletons Σ₁) (context_skeletons (items_context C.items)) (context_skeletons (numbering first C.items).variables) (numbering first C.items).images
  fits = typed_substitution_by_skeletons Σ₁ ok₁ (items_context C.items) n.variables n.images r.images

  pub extends : Extends nothing Σ Σ₁
  extends = record { ok = ok₁; types_stay = entries_kept Σ first (blocks_of n.blocks); kinds_stay = λ a K e. e; no_new = λ c A e s. absurd cc }

  put_all : (Γ Δ : List Skeleton) (σ : ℕ → Image) → SubstitutionBySkeletons (constant_skeletons Σ₁) Γ Δ σ → (Ms : List (Option Term)) → HaveSkeletons (constant_skeletons Σ) Γ Ms → HaveSkeletons (constant_skeletons Σ₁) Δ (put_in σ Ms)
  put_all Γ Δ σ s [] h = tt
  put_all Γ Δ σ s (Some M ∷ Ms) ((t, m), h) = ((t, substitution_keeps_skeletons (constant_skeletons Σ₁) Γ Δ σ M t s (term_more Σ Σ₁ extends.types_stay Γ M t m)), put_all Γ Δ σ s Ms h)
  put_all Γ Δ σ s (None ∷ Ms) h = put_all Γ Δ σ s Ms h

  -- the local context
  local_typed : (D : List LfType) → IsContext Σ (onto D (items_context C.items)) → IsContext Σ₁ (onto (instance D n.images) n.variables) × IsTypedSubstitution Σ₁ (onto D (items_context C.items)) (onto (instance D n.images) n.variables) (lift_over D n.images)
  local_typed [] c = (r.context, r.images)
  local_typed (A ∷ D) (c, t) =
      let (d, s) = local_typed D c in
      let Γ : List LfType = onto D (items_context C.items) in
      let Δ : List LfType = onto (instance D n.images) n.variables in
      let t₁ : IsType Σ₁ (onto D (items_context C.items)) A = growth_keeps_types Σ Σ₁ (entries_kept Σ first (blocks_of n.blocks)) (λ a K e. e) (onto D (items_context C.items)) A t in
      let w : TypedSubstitution Σ₁ ok₁ (onto D (items_context C.items)) (onto (instance D n.images) n.variables) (lift_over D n.images) = record { typed = s; source_skeletons = skeleton_context_of Σ₁ ok₁ Γ (grown_contexts Σ Σ₁ (entries_kept Σ first (blocks_of n.blocks)) (λ a K e. e) Γ c); target_skeletons = skeleton_context_of Σ₁ ok₁ Δ d } in
      ((d, substitution_keeps_types Σ₁ ok₁ Γ Δ (lift_over D n.images) A w t₁), (lifted_substitution_typed Σ₁ ok₁ Γ Δ (lift_over D n.images) A w (type_by_skeletons Σ₁ Γ A t₁)).typed)

  old_over : (D : List LfType) (c : ℕ) → IsOld Σ c → own_over D o c ≡ None
  old_over D c h = own_over_none D o c (old_own Σ ok W typed first free n.blocks c h)

  local_own : (D : List LfType) → IsContext Σ (onto D (items_context C.items)) → LocalOnOwnTerms (own_terms first (numbering first C.items).blocks) (instance D (numbering first C.items).images)
  local_own [] c = tt
  local_own (A ∷ D) (c, t) = (local_own D c, subst (λ p. TypeOnOwnTerms p (substitute_type reduce (lift_over D n.images) A)) (sym (own_over_instance D n.images o)) (put_old_type Σ (onto D (items_context C.items)) (own_over D o) (lift_over D n.images) A (old_over D) (own_over_images D (items_context C.items) o n.images r.own_images) t))

  images_known : (D : List LfType) (i : ℕ) (u : Skeleton) → SkeletonAt (context_skeletons (onto D (items_context C.items))) i u → ImageOnOwnTerms (own_over D (own_terms first (numbering first C.items).blocks)) (lift_over D (numbering first C.items).images i)
  images_known D i u g = let (A, h, e) = skeleton_has_variable (onto D (items_context C.items)) i u g in own_over_images D (items_context C.items) o n.images r.own_images i A h

  typed_case : IsTypedNumberedCase Σ first W (numbered first C)
  typed_case = record {
    variables = numbered_is_typed Σ ok W typed first free C tc.items;
    local = (local_typed C.local tl).0;
    local_on_own = local_own C.local tl;
    given = put_all (context_skeletons (items_context C.items)) (context_skeletons n.variables) n.images fits C.given tc.given;
    given_on_own = put_known_all Σ (context_skeletons (items_context C.items)) o n.images C.given (old_over []) (images_known []) tc.given;
    arguments = put_all (context_skeletons (onto C.local (items_context C.items))) (context_skeletons (onto (instance C.local n.images) n.variables)) (lift_over C.local n.images) (lifted Σ₁ C.local (items_context C.items) n.variables n.images fits) C.arguments tc.arguments;
    arguments_on_own = subst (λ p. AllOnOwnTerms p (put_in (lift_over C.local n.images) C.arguments)) (sym (own_over_instance C.local n.images o)) (put_known_all Σ (context_skeletons (onto C.local (items_context C.items))) (own_over C.local o) (lift_over C.local n.images) C.arguments (old_over C.local) (images_known C.local) tc.arguments);
  }

pub numbered_case_is_typed : NumberedCaseIsTyped
numbered_case_is_typed Σ ok W typed first free C tc tl = typed_case Σ ok W typed first free C tc tl
