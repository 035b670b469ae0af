-- The walk over a typed case makes its numbered form.
use Rattle.std.proofs.Common.{◌≡◌, ℕ, zero, suc, ◌+◌, List, [], ◌∷◌, ◌++◌, length, refl, sym, ap, ap₂, ◌∙◌, subst}
use Rattle.std.specs.Prelude.{Option, Some, None}
use Rattle.lf.specs.Syntax.{Term, Spine, constant, variable, metavariable, lambda, root, nil, app, LfType, star, pi, atom, Skeleton, base, arrow, skeleton, kind_skeleton}
use Rattle.lf.specs.Substitution.{Image, put, rename_image, lift, apply_image, substitute, substitute_spine, substitute_type, reduce}
use Rattle.lf.specs.SkeletonTyping.{HeadSkeletons, SpineSkeleton, SubstitutionBySkeletons, TermSkeleton, TypeBySkeletons}
use Rattle.lf.specs.Skeletons.{constant_skeletons, context_skeletons, family_skeletons}
use Rattle.lf.specs.Eta.{append, eta_expand}
use Rattle.lf.specs.Typing.{Signature, IsContext, IsSignature, IsType, IsTypedSubstitution, SpineFitsKind}
use Rattle.lf.specs.Variables.{everything, nothing, onto, Values}
use Rattle.lf.specs.Subordination.{Block, Member, AreTypedBlocks}
use Rattle.lf.specs.Worlds.{instance, lift_over}
use Rattle.lf.specs.Extension.{Extends}
use Rattle.lf.proofs.Eta.{eta_both, rename_eta_expand}
use Rattle.lf.proofs.SkeletonTyping.{lift_by_skeletons, substitution_keeps_spine_skeletons}
use Rattle.lf.proofs.Substitution.{typed_substitution_by_skeletons}
use Rattle.lf.proofs.ToSkeletons.{kind_spine_has_skeleton, type_by_skeletons}
use Rattle.lf.proofs.TypeLaws.{skeleton_substituted}
use Rattle.lf_cases.specs.Case.{Item, free_variable, block_variable, Case, items_context}
use Rattle.lf_cases.specs.Missing.{AreTypedItems, put_in}
use Rattle.lf_cases.proofs.OutputItems.{lifted}
use Rattle.lf_coverage.specs.Heads.{HaveSkeletons, IsTypedCase}
use Rattle.lf_coverage.specs.TypedLocal.{HasTypedLocal}
use Rattle.lf_coverage.proofs.ItemsContext.{items_are_context, outer_context}
use Rattle.lf_coverage.proofs.Transfer.{have_more}
use Rattle.lf_numbered.specs.EntryConstants.{IsFreeFrom, entry_images, with_entries}
use Rattle.lf_numbered.specs.EntryTypesExamples.{EntryIsWalked, ItemsAreWalked}
use Rattle.lf_numbered.specs.EntryTypesWalk.{NumberedIsWalked, ReadDropsFirst, Standing, StandsFor, WalkIsSubstitution, WalkedItems, as_constant, as_variable, entries_become, standing_behind, standing_image, standing_on, under_binder, under_binders, walked, walked_all, walked_case, walked_items, walked_local, walked_spine, walked_type}
use Rattle.lf_numbered.specs.NumberedCase.{NumberedCase, some_spine}
use Rattle.lf_numbered.specs.NumberedCallsStores.{some_kind}
use Rattle.lf_numbered.specs.Numbering.{entries_of, numbered, numbering, own_spine}
use Rattle.lf_numbered.specs.OwnTerms.{BlockVariable, blocks_of, rename_blocks}
use Rattle.lf_numbered.specs.Reading.{drop_arguments, read_constant, read_spine}
use Rattle.lf_numbered.proofs.EntrySignature.{entries_kept, grown_image}
use Rattle.lf_numbered.proofs.EntryValues.{put_some}
use Rattle.lf_numbered.proofs.MeetsReadyIdentities.{some_fit}
use Rattle.lf_numbered.proofs.NumberedTyped.{typed_numbering}
use Rattle.lf_numbered.proofs.NumberedTypedFree.{IsTypedNumbering, more, more_type, ok₁}

-- Under a binder what is put in is weakened.
behind_image : (t : Skeleton) (x : Standing) → rename_image suc (standing_image t x) ≡ standing_image t (standing_behind x)
behind_image t (as_variable i) = refl
behind_image t (as_constant c U) = ap (put t) (rename_eta_expand suc t (constant c) U)

stands_under : (a : Skeleton) (Γ : List Skeleton) (w : ℕ → Standing) (σ : ℕ → Image) → StandsFor Γ w σ → StandsFor (a ∷ Γ) (under_binder w) (lift σ)
stands_under a Γ w σ f zero t e = refl
stands_under a Γ w σ f (suc i) t e = ap (rename_image suc) (f i t e) ∙ behind_image t (w i)

module _ (κ : HeadSkeletons) where
  standing_applied : (Δ : List Skeleton) (x : Standing) (y : Image) (t : Skeleton) (c : ℕ) (S T : Spine) → y ≡ standing_image t x → SpineSkeleton κ Δ S t (base c) → S ≡ T → apply_image reduce y S ≡ standing_on x T
  standing_applied Δ (as_variable i) y t c S T e s q = ap (λ z. apply_image reduce z S) e ∙ ap (root (variable i)) q
  standing_applied Δ (as_constant d U) y t c S T e s q = ap (λ z. apply_image reduce z S) e ∙ (eta_both κ t).0 Δ (constant d) U S c s ∙ ap (λ R. root (constant d) (append U R)) q

  mutual
    pub walk_is : (Γ Δ : List Skeleton) (w : ℕ → Standing) (σ : ℕ → Image) → SubstitutionBySkeletons κ Γ Δ σ → StandsFor Γ w σ → (M : Term) (t : Skeleton) → TermSkeleton κ Γ M t → substitute reduce σ M ≡ walked w M
    walk_is Γ Δ w σ s f (lambda M) (arrow a b) m = ap lambda (walk_is (a ∷ Γ) (a ∷ Δ) (under_binder w) (lift σ) (lift_by_skeletons κ a Γ Δ σ s) (stands_under a Γ w σ f) M b m)
    walk_is Γ Δ w σ s f (lambda M) (base c) m = absurd m
    walk_is Γ Δ w σ s f (root h S) (arrow a b) m = absurd m
    walk_is Γ Δ w σ s f (root (constant c) S) (base d) (t, k, m) = ap (root (constant c)) (walk_spine_is Γ Δ w σ s f S t (base d) m)
    walk_is Γ Δ w σ s f (root (metavariable c) S) (base d) (t, k, m) = ap (root (metavariable c)) (walk_spine_is Γ Δ w σ s f S t (base d) m)
    walk_is Γ Δ w σ s f (root (variable i) S) (base d) (t, k, m) = standing_applied Δ (w i) (σ i) t d (substitute_spine reduce σ S) (walked_spine w S) (f i t k) (substitution_keeps_spine_skeletons κ Γ Δ σ S t (base d) s m) (walk_spine_is Γ Δ w σ s f S t (base d) m)

    pub walk_spine_is : (Γ Δ : List Skeleton) (w : ℕ → Standing) (σ : ℕ → Image) → SubstitutionBySkeletons κ Γ Δ σ → StandsFor Γ w σ → (S : Spine) (t u : Skeleton) → SpineSkeleton κ Γ S t u → substitute_spine reduce σ S ≡ walked_spine w S
    walk_spine_is Γ Δ w σ s f nil t u m = refl
    walk_spine_is Γ Δ w σ s f (app M S) (arrow a b) u (m, r) = ap₂ app (walk_is Γ Δ w σ s f M a m) (walk_spine_is Γ Δ w σ s f S b u r)
    walk_spine_is Γ Δ w σ s f (app M S) (base c) u m = absurd m

  pub walk_type_is : (φ : ℕ → Option Skeleton) (Γ Δ : List Skeleton) (w : ℕ → Standing) (σ : ℕ → Image) → SubstitutionBySkeletons κ Γ Δ σ → StandsFor Γ w σ → (A : LfType) → TypeBySkeletons φ κ Γ A → substitute_type reduce σ A ≡ walked_type w A
  walk_type_is φ Γ Δ w σ s f (pi A B) (a, b) = ap₂ pi (walk_type_is φ Γ Δ w σ s f A a) (walk_type_is φ (skeleton A ∷ Γ) (skeleton A ∷ Δ) (under_binder w) (lift σ) (lift_by_skeletons κ (skeleton A) Γ Δ σ s) (stands_under (skeleton A) Γ w σ f) B b)
  walk_type_is φ Γ Δ w σ s f (atom a S) (t, k, m) = ap (atom a) (walk_spine_is Γ Δ w σ s f S t (base a) m)

  walk_all_is : (Γ Δ : List Skeleton) (w : ℕ → Standing) (σ : ℕ → Image) → SubstitutionBySkeletons κ Γ Δ σ → StandsFor Γ w σ → (Ms : List (Option Term)) → HaveSkeletons κ Γ Ms → put_in σ Ms ≡ walked_all w Ms
  walk_all_is Γ Δ w σ s f [] h = refl
  walk_all_is Γ Δ w σ s f (Some M ∷ Ms) ((t, m), h) = ap₂ (λ N Ns. Some N ∷ Ns) (walk_is Γ Δ w σ s f M t m) (walk_all_is Γ Δ w σ s f Ms h)
  walk_all_is Γ Δ w σ s f (None ∷ Ms) h = ap (λ Ns. None ∷ Ns) (walk_all_is Γ Δ w σ s f Ms h)

pub walk_is_substitution : WalkIsSubstitution
walk_is_substitution κ Γ Δ w σ s f M t m = walk_is κ Γ Δ w σ s f M t m

-- So it is with local contexts.
stands_over : (L X : List LfType) (w : ℕ → Standing) (σ : ℕ → Image) → StandsFor (context_skeletons X) w σ → StandsFor (context_skeletons (onto L X)) (under_binders L w) (lift_over L σ)
stands_over [] X w σ f = f
stands_over (A ∷ L) X w σ f = stands_under (skeleton A) (context_skeletons (onto L X)) (under_binders L w) (lift_over L σ) (stands_over L X w σ f)

walk_local_is : (Σ : Signature) (L X G : List LfType) (w : ℕ → Standing) (σ : ℕ → Image) → SubstitutionBySkeletons (constant_skeletons Σ) (context_skeletons X) (context_skeletons G) σ → StandsFor (context_skeletons X) w σ → IsContext Σ (onto L X) → instance L σ ≡ walked_local L w
walk_local_is Σ [] X G w σ s f c = refl
walk_local_is Σ (A ∷ L) X G w σ s f (c, t) = ap₂ (λ B K. B ∷ K) (walk_type_is (constant_skeletons Σ) (family_skeletons Σ) (context_skeletons (onto L X)) (context_skeletons (onto (instance L σ) G)) (under_binders L w) (lift_over L σ) (lifted Σ L X G σ s) (stands_over L X w σ f) A (type_by_skeletons Σ (onto L X) A t)) (walk_local_is Σ L X G w σ s f c)

-- The entries of a block variable become its constants.
entries_stand : (n : ℕ) (U : Spine) (es : List LfType) (υ : ℕ → Image) (C : List LfType) (w : ℕ → Standing) (σ : ℕ → Image) → StandsFor (context_skeletons C) w σ → StandsFor (context_skeletons (onto (instance es υ) C)) (entries_become n U es w) (entry_images n U es σ)
entries_stand n U [] υ C w σ f i t e = f i t e
entries_stand n U (E ∷ es) υ C w σ f zero t e = ap (λ a. put a (eta_expand a (constant (n + length es)) U)) (sym (skeleton_substituted reduce (lift_over es υ) E) ∙ e)
entries_stand n U (E ∷ es) υ C w σ f (suc i) t e = entries_stand n U es υ C w σ f i t e

-- So both make the same of the items.
record AreWalked (first : ℕ) (I : List Item) : Type 0 where
  blocks : (numbering first I).blocks ≡ (walked_items first I).blocks
  variables : (numbering first I).variables ≡ (walked_items first I).variables
  stands : StandsFor (context_skeletons (items_context I)) (walked_items first I).standings (numbering first I).images

module _ (Σ : Signature) (ok : IsSignature Σ) (W : List Block) (typed : AreTypedBlocks Σ W) (first : ℕ) (free : IsFreeFrom Σ first) where
  module _ (I : List Item) (a : AreTypedItems Σ W I) where
    abbrev X : List LfType
    X = (numbering first I).variables

    abbrev δ : ℕ → Image
    δ = (numbering first I).images

    abbrev Bs : List Block
    Bs = blocks_of (numbering first I).blocks

    abbrev Σ₁ : Signature
    Σ₁ = with_entries Σ first (blocks_of (numbering first I).blocks)

    numbers : IsTypedNumbering Σ ok W typed first free I
    numbers = typed_numbering Σ ok W typed first free I a

    okE : IsSignature Σ₁
    okE = ok₁ Σ ok W typed first free I a numbers

    extended : Extends nothing Σ Σ₁
    extended = record { ok = okE; types_stay = entries_kept Σ first Bs; kinds_stay = λ c K e. e; no_new = λ c A e s. absurd cc }

    fits : SubstitutionBySkeletons (constant_skeletons Σ₁) (context_skeletons (items_context I)) (context_skeletons X) δ
    fits = typed_substitution_by_skeletons Σ₁ okE (items_context I) X δ numbers.images

    type_is : (w : ℕ → Standing) → StandsFor (context_skeletons (items_context I)) w δ → (A : LfType) → IsType Σ (items_context I) A → substitute_type reduce δ A ≡ walked_type w A
    type_is w f A t = walk_type_is (constant_skeletons Σ₁) (family_skeletons Σ₁) (context_skeletons (items_context I)) (context_skeletons X) w δ fits f A (type_by_skeletons Σ₁ (items_context I) A (more_type Σ ok W typed first free Bs (items_context I) A t))

    some_is : (w : ℕ → Standing) → StandsFor (context_skeletons (items_context I)) w δ → (B : Block) (υ : ℕ → Image) → Member B W → Values Σ everything B.some (items_context I) υ → own_spine B υ (numbering first I) ≡ walked_spine w (some_spine B.some υ)
    some_is w f B υ m v =
        let O : List LfType = B.some in
        let C : List LfType = items_context I in
        let υ_typed : IsTypedSubstitution Σ₁ O C υ = λ i A g. grown_image Σ Σ₁ (entries_kept Σ first Bs) (λ b K q. q) C (υ i) (substitute_type reduce υ A) (v.typed i A g refl) in
        let s : SpineFitsKind Σ₁ C (some_spine O υ) (some_kind O star) = some_fit Σ₁ okE C (more Σ ok W typed first free Bs C (items_are_context Σ ok W typed I a)) O (some_spine O υ) (more Σ ok W typed first free Bs O (outer_context Σ B.entries O (typed B m))) (υ, υ_typed, refl) in
        sym (put_some (constant_skeletons Σ₁) O (context_skeletons C) (context_skeletons X) υ δ (typed_substitution_by_skeletons Σ₁ okE O C υ υ_typed) fits)
        ∙ walk_spine_is (constant_skeletons Σ₁) (context_skeletons C) (context_skeletons X) w δ fits f (some_spine O υ) (kind_skeleton 0 (some_kind O star)) (base 0) (kind_spine_has_skeleton Σ₁ 0 C (some_spine O υ) (some_kind O star) s)

  items_walked : (I : List Item) → AreTypedItems Σ W I → AreWalked first I
  items_walked [] a = record { blocks = refl; variables = refl; stands = λ i t e. absurd e }
  items_walked (free_variable A ∷ I) (a, t) =
      let h : AreWalked first I = items_walked I a in
      record { blocks = ap (rename_blocks suc) h.blocks; variables = ap₂ (λ B X. B ∷ X) (type_is I a (walked_items first I).standings h.stands A t) h.variables; stands = stands_under (skeleton A) (context_skeletons (items_context I)) (walked_items first I).standings (numbering first I).images h.stands }
  items_walked (block_variable B υ ∷ I) (a, m, v) =
      let h : AreWalked first I = items_walked I a in
      let w : WalkedItems = walked_items first I in
      let q : own_spine B υ (numbering first I) ≡ walked_spine w.standings (some_spine B.some υ) = some_is I a w.standings h.stands B υ m v in
      record {
        blocks = ap₂ (λ bs U. bs ++ record { block = B; terms = U } ∷ []) h.blocks q;
        variables = h.variables;
        stands = subst (λ bs. StandsFor (context_skeletons (items_context (block_variable B υ ∷ I))) (entries_become (first + entries_of (blocks_of bs)) (walked_spine w.standings (some_spine B.some υ)) B.entries w.standings) (numbering first (block_variable B υ ∷ I)).images) h.blocks
            (subst (λ U. StandsFor (context_skeletons (items_context (block_variable B υ ∷ I))) (entries_become (first + entries_of (blocks_of (numbering first I).blocks)) U B.entries w.standings) (numbering first (block_variable B υ ∷ I)).images) q (entries_stand (first + entries_of (blocks_of (numbering first I).blocks)) (own_spine B υ (numbering first I)) B.entries υ (items_context I) w.standings (numbering first I).images h.stands));
      }

  module _ (C : Case) (tc : IsTypedCase Σ W C) (tl : HasTypedLocal Σ C) where
    abbrev I : List Item
    I = C.items

    abbrev w : ℕ → Standing
    w = (walked_items first C.items).standings

    h : AreWalked first C.items
    h = items_walked C.items tc.items

    abbrev κ : HeadSkeletons
    κ = constant_skeletons (Σ₁ C.items tc.items)

    abbrev case_of : List BlockVariable → List LfType → List (Option Term) → List LfType → List (Option Term) → NumberedCase
    case_of bs Y Ms L Ns = record { blocks = bs; variables = Y; given = Ms; local = L; family = C.family; arguments = Ns }

    walked_is : numbered first C ≡ walked_case first C
    walked_is =
        let s : SubstitutionBySkeletons κ (context_skeletons (items_context I)) (context_skeletons (X I tc.items)) (δ I tc.items) = fits I tc.items in
        let bs : List BlockVariable = (walked_items first I).blocks in
        let Y : List LfType = (walked_items first I).variables in
        let Ms : List (Option Term) = walked_all w C.given in
        let L : List LfType = walked_local C.local w in
        ap (λ cs. case_of cs (numbered first C).variables (numbered first C).given (numbered first C).local (numbered first C).arguments) h.blocks
        ∙ ap (λ Z. case_of bs Z (numbered first C).given (numbered first C).local (numbered first C).arguments) h.variables
        ∙ ap (λ Ns. case_of bs Y Ns (numbered first C).local (numbered first C).arguments) (walk_all_is κ (context_skeletons (items_context I)) (context_skeletons (X I tc.items)) w (δ I tc.items) s h.stands C.given (have_more nothing Σ (Σ₁ I tc.items) (extended I tc.items) _ C.given tc.given))
        ∙ ap (λ K. case_of bs Y Ms K (numbered first C).arguments) (walk_local_is (Σ₁ I tc.items) C.local (items_context I) (X I tc.items) w (δ I tc.items) s h.stands (more Σ ok W typed first free (Bs I tc.items) (onto C.local (items_context I)) tl))
        ∙ ap (case_of bs Y Ms L) (walk_all_is κ (context_skeletons (onto C.local (items_context I))) (context_skeletons (onto (instance C.local (δ I tc.items)) (X I tc.items))) (under_binders C.local w) (lift_over C.local (δ I tc.items)) (lifted (Σ₁ I tc.items) C.local (items_context I) (X I tc.items) (δ I tc.items) s) (stands_over C.local (items_context I) w (δ I tc.items) h.stands) C.arguments (have_more nothing Σ (Σ₁ I tc.items) (extended I tc.items) _ C.arguments tc.arguments))

pub numbered_is_walked : NumberedIsWalked
numbered_is_walked Σ ok W typed first free C tc tl = walked_is Σ ok W typed first free C tc tl

-- To drop arguments and to read them commute.
drop_read : (f : ℕ → Option (ℕ × ℕ)) (n : ℕ) (S : Spine) → drop_arguments n (read_spine f S) ≡ read_spine f (drop_arguments n S)
drop_read f zero S = refl
drop_read f (suc n) nil = refl
drop_read f (suc n) (app M S) = drop_read f n S

pub read_drops_first : ReadDropsFirst
read_drops_first f c n v e S = ap (λ y. read_constant y c (read_spine f S)) e ∙ ap (root (variable v)) (drop_read f n S)

-- The worked rows compute.
pub entry_is_walked : EntryIsWalked
entry_is_walked = (refl, refl, refl, refl)

pub items_are_walked : ItemsAreWalked
items_are_walked = refl
