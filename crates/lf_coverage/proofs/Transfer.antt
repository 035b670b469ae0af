-- What a case holds, one that comes of it by values holds too.
use Rattle.std.proofs.Common.{◌≡◌, ℕ, zero, suc, List, [], ◌∷◌, ◌+◌, length, inl, inr, refl, sym, ap, ap₂, ◌∙◌, subst, arith}
use Rattle.std.specs.Prelude.{Bool, Option, Some, None}
use Rattle.lf.specs.Syntax.{constant, variable, metavariable, Term, Spine, lambda, root, nil, app, LfType, pi, atom, Skeleton, base, arrow, skeleton, rename_type, lift_renaming}
use Rattle.lf.specs.Substitution.{Image, keep, put, rename_image, apply_image, lift, substitute, substitute_spine, reduce, after}
use Rattle.lf.specs.SkeletonTyping.{HeadSkeletons, SkeletonAt, ImageSkeleton, TermSkeleton, SpineSkeleton, SubstitutionBySkeletons}
use Rattle.lf.specs.Skeletons.{constant_skeletons, context_skeletons}
use Rattle.lf.specs.AtOnce.{in_front, shift_by}
use Rattle.lf.specs.Typing.{Signature, instantiate_type}
use Rattle.lf.specs.Variables.{onto}
use Rattle.lf.specs.Subordination.{Block}
use Rattle.lf.specs.Worlds.{lift_over, instance}
use Rattle.lf.proofs.Composition.{substitutions_compose, after_lift}
use Rattle.lf.proofs.SkeletonTyping.{renaming_keeps_skeletons}
use Rattle.lf.proofs.Substitution.{typed_substitution_by_skeletons}
use Rattle.lf.proofs.ToSkeletons.{typed_has_skeleton}
use Rattle.lf.proofs.TypeLaws.{skeleton_substituted}
use Rattle.lf_cases.specs.Case.{Item, free_variable, block_variable, items_context, entries_in_front, HasArguments}
use Rattle.lf_cases.specs.Pattern.{given_at, HasGiven}
use Rattle.lf_cases.specs.OutputGoal.{renumber, over_item, raised_variable}
use Rattle.lf_cases.specs.Raised.{raise_by, first_mask, other_masks}
use Rattle.lf_cases.specs.Missing.{AreTypedItems, BlockAmong, IsTypedInstance, put_in}
use Rattle.lf_cases.specs.Reached.{arguments_count, head_items}
use Rattle.lf_cases.proofs.OutputItems.{lifted, length_instance}
use Rattle.lf_coverage.specs.Heads.{HaveSkeletons}
use Rattle.lf_coverage.proofs.HeadItems.{count_substituted, count_renamed}
use Rattle.lf_coverage.proofs.MoreConstants.{term_more}
use Rattle.lf_coverage.proofs.Parts.{suc_same}
use mathlib.Core.Path.{fun_ext}

-- Substitutions that are the same on a context do the same to what is typed in it by skeletons.
abbrev pub SameIn : List Skeleton → (ℕ → Image) → (ℕ → Image) → Type 0
SameIn Γ σ τ = (i : ℕ) (t : Skeleton) → SkeletonAt Γ i t → σ i ≡ τ i

same_lifted : (Γ : List Skeleton) (a : Skeleton) (σ τ : ℕ → Image) → SameIn Γ σ τ → SameIn (a ∷ Γ) (lift σ) (lift τ)
same_lifted Γ a σ τ h zero t g = refl
same_lifted Γ a σ τ h (suc i) t g = ap (rename_image suc) (h i t g)

module _ (κ : HeadSkeletons) where
  mutual
    pub same_in : (Γ : List Skeleton) (σ τ : ℕ → Image) → SameIn Γ σ τ → (M : Term) (t : Skeleton) → TermSkeleton κ Γ M t → substitute reduce σ M ≡ substitute reduce τ M
    same_in Γ σ τ h (lambda M) (arrow a b) m = ap lambda (same_in (a ∷ Γ) (lift σ) (lift τ) (same_lifted Γ a σ τ h) M b m)
    same_in Γ σ τ h (lambda M) (base c) m = absurd m
    same_in Γ σ τ h (root k S) (arrow a b) m = absurd m
    same_in Γ σ τ h (root (constant c) S) (base d) (t, g, s) = ap (root (constant c)) (same_in_spine Γ σ τ h S t (base d) s)
    same_in Γ σ τ h (root (metavariable c) S) (base d) (t, g, s) = ap (root (metavariable c)) (same_in_spine Γ σ τ h S t (base d) s)
    same_in Γ σ τ h (root (variable i) S) (base d) (t, g, s) = ap₂ (apply_image reduce) (h i t g) (same_in_spine Γ σ τ h S t (base d) s)

    same_in_spine : (Γ : List Skeleton) (σ τ : ℕ → Image) → SameIn Γ σ τ → (S : Spine) (t u : Skeleton) → SpineSkeleton κ Γ S t u → substitute_spine reduce σ S ≡ substitute_spine reduce τ S
    same_in_spine Γ σ τ h nil t u s = refl
    same_in_spine Γ σ τ h (app M S) (arrow a b) u (m, s) = ap₂ app (same_in Γ σ τ h M a m) (same_in_spine Γ σ τ h S b u s)
    same_in_spine Γ σ τ h (app M S) (base c) u s = absurd s

-- under a local context
pub lift_instance : (L : List LfType) (σ ρ : ℕ → Image) → lift_over (instance L σ) ρ ≡ lift_over L ρ
lift_instance [] σ ρ = refl
lift_instance (A ∷ L) σ ρ = ap lift (lift_instance L σ ρ)

-- what is put in under a local context that has had something put in
pub lifted_instance : (Σ : Signature) (J G L : List LfType) (σ ρ : ℕ → Image) → SubstitutionBySkeletons (constant_skeletons Σ) (context_skeletons J) (context_skeletons G) ρ → SubstitutionBySkeletons (constant_skeletons Σ) (context_skeletons (onto (instance L σ) J)) (context_skeletons (onto (instance (instance L σ) ρ) G)) (lift_over L ρ)
lifted_instance Σ J G L σ ρ f = subst (SubstitutionBySkeletons (constant_skeletons Σ) (context_skeletons (onto (instance L σ) J)) (context_skeletons (onto (instance (instance L σ) ρ) G))) (lift_instance L σ ρ) (lifted Σ (instance L σ) J G ρ f)

pub after_over : (L : List LfType) (σ ρ : ℕ → Image) → after (lift_over L ρ) (lift_over L σ) ≡ lift_over L (after ρ σ)
after_over [] σ ρ = refl
after_over (A ∷ L) σ ρ = sym (fun_ext (after_lift (lift_over L ρ) (lift_over L σ))) ∙ ap lift (after_over L σ ρ)

pub same_over : (L C : List LfType) (σ τ : ℕ → Image) → SameIn (context_skeletons C) σ τ → SameIn (context_skeletons (onto L C)) (lift_over L σ) (lift_over L τ)
same_over [] C σ τ h i t g = h i t g
same_over (A ∷ L) C σ τ h i t g = same_lifted (context_skeletons (onto L C)) (skeleton A) (lift_over L σ) (lift_over L τ) (same_over L C σ τ h) i t g

-- values of values
module _ (Σ : Signature) (C J G : List LfType) (σ ρ τ : ℕ → Image) (fσ : SubstitutionBySkeletons (constant_skeletons Σ) (context_skeletons C) (context_skeletons J) σ) (fρ : SubstitutionBySkeletons (constant_skeletons Σ) (context_skeletons J) (context_skeletons G) ρ) (same : SameIn (context_skeletons C) τ (after ρ σ)) where
  twice : (L : List LfType) (M : Term) (t : Skeleton) → TermSkeleton (constant_skeletons Σ) (context_skeletons (onto L C)) M t → substitute reduce (lift_over L τ) M ≡ substitute reduce (lift_over L ρ) (substitute reduce (lift_over L σ) M)
  twice L M t m =
      same_in (constant_skeletons Σ) (context_skeletons (onto L C)) (lift_over L τ) (lift_over L (after ρ σ)) (same_over L C τ (after ρ σ) same) M t m
      ∙ sym (substitutions_compose (constant_skeletons Σ) (context_skeletons (onto L C)) (context_skeletons (onto (instance L σ) J)) (context_skeletons (onto (instance (instance L σ) ρ) G)) (lift_over L σ) (lift_over L ρ) M t (lifted Σ L C J σ fσ) (subst (SubstitutionBySkeletons (constant_skeletons Σ) (context_skeletons (onto (instance L σ) J)) (context_skeletons (onto (instance (instance L σ) ρ) G))) (lift_instance L σ ρ) (lifted Σ (instance L σ) J G ρ fρ)) m
      ∙ ap (λ f. substitute reduce f M) (after_over L σ ρ))

  pub arguments_held : (L : List LfType) (Ms : List (Option Term)) (T : Spine) → HaveSkeletons (constant_skeletons Σ) (context_skeletons (onto L C)) Ms → HasArguments (lift_over L τ) Ms T → HasArguments (lift_over L ρ) (put_in (lift_over L σ) Ms) T
  arguments_held L [] nil h a = tt
  arguments_held L [] (app N T) h a = a
  arguments_held L (Some M ∷ Ms) nil h a = a
  arguments_held L (None ∷ Ms) nil h a = a
  arguments_held L (Some M ∷ Ms) (app N T) ((t, m), h) (e, a) = (e ∙ twice L M t m, arguments_held L Ms T h a)
  arguments_held L (None ∷ Ms) (app N T) h a = arguments_held L Ms T h a

  given_from : (Ms : List (Option Term)) (i : ℕ) (N : Term) → HaveSkeletons (constant_skeletons Σ) (context_skeletons C) Ms → given_at (put_in σ Ms) i ≡ Some N → (M : Term) × (given_at Ms i ≡ Some M) × (substitute reduce τ M ≡ substitute reduce ρ N)
  given_from [] i N h e = absurd cc
  given_from (Some M ∷ Ms) zero N ((t, m), h) e = (M, refl, twice [] M t m ∙ ap (substitute reduce ρ) (some_same e))
    where
      some_same : Some (substitute reduce σ M) ≡ Some N → substitute reduce σ M ≡ N
      some_same e = cc
  given_from (None ∷ Ms) zero N h e = absurd cc
  given_from (Some M ∷ Ms) (suc i) N (m, h) e = given_from Ms i N h e
  given_from (None ∷ Ms) (suc i) N h e = given_from Ms i N h e

  pub given_held : (Ms : List (Option Term)) (θ : ℕ → Image) → HaveSkeletons (constant_skeletons Σ) (context_skeletons C) Ms → HasGiven τ Ms θ → HasGiven ρ (put_in σ Ms) θ
  given_held Ms θ h g i N e = let (M, p, q) = given_from Ms i N h e in let (a, r) = g i M p in (a, r ∙ ap (put a) q)

-- A typed instance has the skeletons of the items.
moved_fits : (κ : HeadSkeletons) (Γ Δ : List Skeleton) (n : ℕ) → ((i : ℕ) (t : Skeleton) → SkeletonAt Γ i t → SkeletonAt Δ (i + n) t) → (x : Image) (t : Skeleton) → ImageSkeleton κ Γ x t → ImageSkeleton κ Δ (rename_image (shift_by n) x) t
moved_fits κ Γ Δ n h (keep i) t g = h i t g
moved_fits κ Γ Δ n h (put a N) t (e, m) = (e, renaming_keeps_skeletons κ Γ Δ (shift_by n) N a h m)

pub onto_skeleton : (ds C : List LfType) (i : ℕ) (t : Skeleton) → SkeletonAt (context_skeletons C) i t → SkeletonAt (context_skeletons (onto ds C)) (i + length ds) t
onto_skeleton [] C i t g = subst (λ k. SkeletonAt (context_skeletons C) k t) (none i) g
  where
    none : (i : ℕ) → i ≡ i + 0
    none i = omega arith
onto_skeleton (D ∷ ds) C i t g = subst (λ k. SkeletonAt (context_skeletons (onto (D ∷ ds) C)) k t) (next i (length ds)) (onto_skeleton ds C i t g)
  where
    next : (i n : ℕ) → suc (i + n) ≡ i + suc n
    next i n = omega arith

module _ (Σ : Signature) (ok : Rattle.lf.specs.Typing.IsSignature Σ) (W : List Block) where
  κ : HeadSkeletons
  κ = constant_skeletons Σ

  among_fits : (J : List Item) → AreTypedItems Σ W J → (B : Block) (θ : ℕ → Image) → BlockAmong J B θ → SubstitutionBySkeletons (constant_skeletons Σ) (context_skeletons (onto B.entries B.some)) (context_skeletons (items_context J)) θ
  among_fits [] a B θ b = absurd b
  among_fits (free_variable A ∷ J) (a, t) B θ (τ, b, e) = subst (SubstitutionBySkeletons (constant_skeletons Σ) (context_skeletons (onto B.entries B.some)) (skeleton A ∷ context_skeletons (items_context J))) (sym (e ∙ ap (λ ρ i. rename_image ρ (τ i)) (fun_ext one))) (λ i u g. moved_fits (constant_skeletons Σ) (context_skeletons (items_context J)) (skeleton A ∷ context_skeletons (items_context J)) 1 (λ k v h. subst (λ m. SkeletonAt (skeleton A ∷ context_skeletons (items_context J)) m v) (one k) h) (τ i) u (among_fits J a B τ b i u g))
    where
      one : (i : ℕ) → suc i ≡ i + 1
      one i = omega arith
  among_fits (block_variable C υ ∷ J) (a, m, v) B θ (inl (e, p)) = subst (λ D. SubstitutionBySkeletons (constant_skeletons Σ) (context_skeletons (onto D.entries D.some)) (context_skeletons (onto (instance C.entries υ) (items_context J))) θ) e (subst (SubstitutionBySkeletons (constant_skeletons Σ) (context_skeletons (onto C.entries C.some)) (context_skeletons (onto (instance C.entries υ) (items_context J)))) (sym p) (lifted Σ C.entries C.some (items_context J) υ (typed_substitution_by_skeletons Σ ok C.some (items_context J) υ (λ i A g. v.typed i A g refl))))
  among_fits (block_variable C υ ∷ J) (a, m, v) B θ (inr (τ, b, e)) = subst (SubstitutionBySkeletons (constant_skeletons Σ) (context_skeletons (onto B.entries B.some)) (context_skeletons (onto (instance C.entries υ) (items_context J)))) (sym e) (λ i u g. moved_fits (constant_skeletons Σ) (context_skeletons (items_context J)) (context_skeletons (onto (instance C.entries υ) (items_context J))) (length C.entries) (λ k t h. subst (λ n. SkeletonAt (context_skeletons (onto (instance C.entries υ) (items_context J))) (k + n) t) (length_instance C.entries υ) (onto_skeleton (instance C.entries υ) (items_context J) k t h)) (τ i) u (among_fits J a B τ b i u g))

  front_fits : (ds O C : List LfType) (Δ : List Skeleton) (υ θ τ : ℕ → Image) → SubstitutionBySkeletons (constant_skeletons Σ) (context_skeletons (onto ds O)) Δ θ → SubstitutionBySkeletons (constant_skeletons Σ) (context_skeletons C) Δ τ → SubstitutionBySkeletons (constant_skeletons Σ) (context_skeletons (onto (instance ds υ) C)) Δ (entries_in_front ds θ τ)
  front_fits [] O C Δ υ θ τ t s i u g = s i u g
  front_fits (D ∷ ds) O C Δ υ θ τ t s zero u g = t zero u (sym (skeleton_substituted reduce (lift_over ds υ) D) ∙ g)
  front_fits (D ∷ ds) O C Δ υ θ τ t s (suc i) u g = front_fits ds O C Δ υ (λ j. θ (suc j)) τ (λ j. t (suc j)) s i u g

  in_front_skeleton : (Γ Δ : List Skeleton) (a : Skeleton) (N : Term) (τ : ℕ → Image) → TermSkeleton (constant_skeletons Σ) Δ N a → SubstitutionBySkeletons (constant_skeletons Σ) Γ Δ τ → SubstitutionBySkeletons (constant_skeletons Σ) (a ∷ Γ) Δ (in_front (put a N) τ)
  in_front_skeleton Γ Δ a N τ n s zero t e = (e, n)
  in_front_skeleton Γ Δ a N τ n s (suc i) t g = s i t g

  pub instance_fits : (J : List Item) → AreTypedItems Σ W J → (I : List Item) (σ : ℕ → Image) → IsTypedInstance Σ J I σ → SubstitutionBySkeletons (constant_skeletons Σ) (context_skeletons (items_context I)) (context_skeletons (items_context J)) σ
  instance_fits K a [] σ i = λ k t g. absurd g
  instance_fits K a (free_variable A ∷ I) σ (N, τ, i, n, e) = subst (SubstitutionBySkeletons (constant_skeletons Σ) (skeleton A ∷ context_skeletons (items_context I)) (context_skeletons (items_context K))) (sym e) (in_front_skeleton (context_skeletons (items_context I)) (context_skeletons (items_context K)) (skeleton A) N τ (subst (TermSkeleton (constant_skeletons Σ) (context_skeletons (items_context K)) N) (skeleton_substituted reduce τ A) (typed_has_skeleton Σ (items_context K) N (Rattle.lf.specs.Substitution.substitute_type reduce τ A) n)) (instance_fits K a I τ i))
  instance_fits K a (block_variable B υ ∷ I) σ (θ, τ, i, b, q, e) = subst (SubstitutionBySkeletons (constant_skeletons Σ) (context_skeletons (onto (instance B.entries υ) (items_context I))) (context_skeletons (items_context K))) (sym e) (front_fits B.entries B.some (items_context I) (context_skeletons (items_context K)) υ θ τ (among_fits K a B θ b) (instance_fits K a I τ i))

-- The items of a case stand behind those of a head.
pub behind_head : (ks : List (List Bool)) (D : List LfType) (n : ℕ) (A : LfType) (I : List Item) → arguments_count A ≡ n → (i : ℕ) (t : Skeleton) → SkeletonAt (context_skeletons (items_context I)) i t → SkeletonAt (context_skeletons (items_context (head_items ks D n A I))) (i + n) t
behind_head ks D zero A I e i t g = subst (λ k. SkeletonAt (context_skeletons (items_context I)) k t) (none i) g
  where
    none : (i : ℕ) → i ≡ i + 0
    none i = omega arith
behind_head ks D (suc n) (atom a S) I e i t g = absurd (no e)
  where
    no : zero ≡ suc n → ⊥
    no e = omega arith
behind_head ks D (suc n) (pi A B) I e i t g =
    let N : Term = raised_variable (first_mask ks) D A zero in
    let ρ : ℕ → ℕ = lift_renaming (over_item D) in
    let B' : LfType = instantiate_type A N (rename_type ρ B) in
    subst (λ k. SkeletonAt (context_skeletons (items_context (head_items (other_masks ks) (renumber suc D) n B' (free_variable (raise_by (first_mask ks) D A) ∷ I)))) k t) (next i n) (behind_head (other_masks ks) (renumber suc D) n B' (free_variable (raise_by (first_mask ks) D A) ∷ I) (count_substituted (Rattle.lf.specs.Substitution.single (skeleton A) N) (rename_type ρ B) ∙ count_renamed ρ B ∙ suc_same e) (suc i) t g)
  where
    next : (i n : ℕ) → suc i + n ≡ i + suc n
    next i n = omega arith

-- What has a skeleton has it in each extension.
module _ (S : ℕ → Bool) (Σ Σ' : Signature) (x : Rattle.lf.specs.Extension.Extends S Σ Σ') where
  image_more : (Δ : List Skeleton) (y : Image) (t : Skeleton) → ImageSkeleton (constant_skeletons Σ) Δ y t → ImageSkeleton (constant_skeletons Σ') Δ y t
  image_more Δ (keep i) t g = g
  image_more Δ (put a N) t (e, n) = (e, term_more Σ Σ' x.types_stay Δ N a n)

  pub fits_more : (Γ Δ : List Skeleton) (σ : ℕ → Image) → SubstitutionBySkeletons (constant_skeletons Σ) Γ Δ σ → SubstitutionBySkeletons (constant_skeletons Σ') Γ Δ σ
  fits_more Γ Δ σ s i t g = image_more Δ (σ i) t (s i t g)

  pub have_more : (Γ : List Skeleton) (Ms : List (Option Term)) → HaveSkeletons (constant_skeletons Σ) Γ Ms → HaveSkeletons (constant_skeletons Σ') Γ Ms
  have_more Γ [] h = tt
  have_more Γ (Some M ∷ Ms) ((a, m), h) = ((a, term_more Σ Σ' x.types_stay Γ M a m), have_more Γ Ms h)
  have_more Γ (None ∷ Ms) h = have_more Γ Ms h
