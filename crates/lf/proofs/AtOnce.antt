-- A term applied to a whole spine at once is the term applied to its arguments one by one; what substitutions under several
-- binders give; eta-long forms at once.
use Rattle.std.proofs.Common.{◌≡◌, ℕ, zero, suc, ◌+◌, ◌-◌, ◌<◌, ◌≤◌, List, [], ◌∷◌, ◌++◌, length, drop, slice_get, Some, refl, sym, ap, ap₂, ◌∙◌, subst, arith}
use mathlib.Core.Path.{fun_ext}
use Rattle.lf.specs.Syntax.{Head, constant, variable, metavariable, Term, Spine, lambda, root, nil, app, Skeleton, base, arrow, lift_renaming, rename_head, rename, rename_spine}
use Rattle.lf.specs.Substitution.{Image, keep, put, rename_image, lift, single, apply_image, substitute, reduce, after}
use Rattle.lf.specs.AtOnce.{shift_by, in_front, images_then_shift, lift_by, lift_renaming_by, body_under, spine_images, argument_skeletons, skeleton_size, ImagesAreBelow}
use Rattle.lf.specs.SkeletonTyping.{HeadSkeletons, SkeletonAt, HeadSkeleton, TermSkeleton, SpineSkeleton, SubstitutionBySkeletons, RenamingBySkeletons}
use Rattle.lf.specs.Eta.{add_last, eta_expand, eta_long, append, arity, lambdas, eta_arguments}
use Rattle.lf.proofs.Renaming.{renamings_compose, renamings_compose_spine, substitute_identity, substitute_identity_spine, reduction_beta}
use Rattle.lf.proofs.SkeletonTyping.{lift_by_skeletons, single_by_skeletons}
use Rattle.lf.proofs.Composition.{around_image, substitutions_compose}
use Rattle.lf.proofs.TypeLaws.{substitution_as_renaming, substitution_as_renaming_spine}
use Rattle.lf.proofs.Eta.{rename_eta_expand, rename_add_last, append_add_last, reduce_nil, eta_expand_has_skeleton}

pub rename_identity : (M : Term) → rename (λ i. i) M ≡ M
rename_identity M = sym (substitution_as_renaming reduce (λ i. i) M) ∙ substitute_identity reduce M

pub rename_spine_identity : (S : Spine) → rename_spine (λ i. i) S ≡ S
rename_spine_identity S = sym (substitution_as_renaming_spine reduce (λ i. i) S) ∙ substitute_identity_spine reduce S

shift_by_zero : (i : ℕ) → shift_by 0 i ≡ i
shift_by_zero i = omega arith

pub shift_by_nothing : shift_by 0 ≡ (λ i. i)
shift_by_nothing = fun_ext shift_by_zero

pub shift_zero : (M : Term) → rename (shift_by 0) M ≡ M
shift_zero M = ap (λ ρ. rename ρ M) shift_by_nothing ∙ rename_identity M

pub shift_spine_zero : (S : Spine) → rename_spine (shift_by 0) S ≡ S
shift_spine_zero S = ap (λ ρ. rename_spine ρ S) shift_by_nothing ∙ rename_spine_identity S

shift_after_one : (n i : ℕ) → shift_by n (suc i) ≡ shift_by (suc n) i
shift_after_one n i = omega arith

one_after_shift : (n i : ℕ) → suc (shift_by n i) ≡ shift_by (suc n) i
one_after_shift n i = omega arith

-- two shifts are one
pub shifts_add : (m n : ℕ) (M : Term) → rename (shift_by m) (rename (shift_by n) M) ≡ rename (shift_by (n + m)) M
shifts_add m n M = renamings_compose (shift_by m) (shift_by n) M ∙ ap (λ ρ. rename ρ M) (fun_ext added)
  where
    added : (i : ℕ) → i + n + m ≡ i + (n + m)
    added i = omega arith

-- with no images, the substitution is the shift
pub no_images : (l : ℕ) (N : Term) → rename (shift_by l) N ≡ substitute reduce (images_then_shift [] l) N
no_images l N = sym (substitution_as_renaming reduce (shift_by l) N)

-- a substitution for the newest variable is one image and no shift
pub single_as_images : (a : Skeleton) (N : Term) → images_then_shift (put a N ∷ []) 0 ≡ single a N
single_as_images a N = fun_ext same
  where
    same : (i : ℕ) → images_then_shift (put a N ∷ []) 0 i ≡ single a N i
    same zero = refl
    same (suc i) = ap keep (shift_by_zero i)

-- What `lift_by` gives, case by case.
pub lift_by_bound : (n i : ℕ) (σ : ℕ → Image) → i < n → lift_by n σ i ≡ keep i
lift_by_bound zero i σ h = absurd (omega arith)
lift_by_bound (suc n) zero σ h = refl
lift_by_bound (suc n) (suc i) σ h = let k : i < n = omega arith in ap (rename_image suc) (lift_by_bound n i σ k)

rename_image_zero : (x : Image) → x ≡ rename_image (shift_by 0) x
rename_image_zero (keep i) = ap keep (sym (shift_by_zero i))
rename_image_zero (put a N) = ap (put a) (sym (shift_zero N))

rename_image_one : (n : ℕ) (x : Image) → rename_image suc (rename_image (shift_by n) x) ≡ rename_image (shift_by (suc n)) x
rename_image_one n (keep i) = ap keep (one_after_shift n i)
rename_image_one n (put a N) = ap (put a) (renamings_compose suc (shift_by n) N ∙ ap (λ ρ. rename ρ N) (fun_ext (one_after_shift n)))

lift_by_shifted : (n j : ℕ) (σ : ℕ → Image) → lift_by n σ (j + n) ≡ rename_image (shift_by n) (σ j)
lift_by_shifted zero j σ = ap σ (shift_by_zero j) ∙ rename_image_zero (σ j)
lift_by_shifted (suc n) j σ = ap (lift (lift_by n σ)) (sym (one_after_shift n j)) ∙ ap (rename_image suc) (lift_by_shifted n j σ) ∙ rename_image_one n (σ j)

pub lift_by_free : (n i : ℕ) (σ : ℕ → Image) → n ≤ i → lift_by n σ i ≡ rename_image (shift_by n) (σ (i - n))
lift_by_free n i σ h = let e : i ≡ (i - n) + n = omega arith in ap (lift_by n σ) e ∙ lift_by_shifted n (i - n) σ

pub images_at : (xs : List Image) (b i : ℕ) (x : Image) → slice_get xs i ≡ Some x → images_then_shift xs b i ≡ x
images_at [] b i x h = absurd (cc)
images_at (y ∷ xs) b zero x h = cc
images_at (y ∷ xs) b (suc i) x h = images_at xs b i x h

pub images_past : (xs : List Image) (b i : ℕ) → length xs ≤ i → images_then_shift xs b i ≡ keep (i - length xs + b)
images_past [] b i h = let e : i + b ≡ i - 0 + b = omega arith in ap keep e
images_past (y ∷ xs) b zero h = absurd (omega arith)
images_past (y ∷ xs) b (suc i) h =
    let k : length xs ≤ i = omega arith in
    let e : i - length xs + b ≡ suc i - suc (length xs) + b = omega arith in
    images_past xs b i k ∙ ap keep e

-- images and a shift under n binders: a bound variable stays, one with an image gets it, moved by n, each other is moved
pub at_bound_variable : (n i b : ℕ) (xs : List Image) → i < n → lift_by n (images_then_shift xs b) i ≡ keep i
at_bound_variable n i b xs h = lift_by_bound n i (images_then_shift xs b) h

pub at_image : (n i b : ℕ) (xs : List Image) (a : Skeleton) (N : Term) → n ≤ i → slice_get xs (i - n) ≡ Some (put a N) → lift_by n (images_then_shift xs b) i ≡ put a (rename (shift_by n) N)
at_image n i b xs a N h e = lift_by_free n i (images_then_shift xs b) h ∙ ap (rename_image (shift_by n)) (images_at xs b (i - n) (put a N) e)

pub at_free_variable : (n i b : ℕ) (xs : List Image) → n + length xs ≤ i → lift_by n (images_then_shift xs b) i ≡ keep (i - length xs + b)
at_free_variable n i b xs h =
    let k : n ≤ i = omega arith in
    let l : length xs ≤ i - n = omega arith in
    let e : i - n - length xs + b + n ≡ i - length xs + b = omega arith in
    lift_by_free n i (images_then_shift xs b) k ∙ ap (rename_image (shift_by n)) (images_past xs b (i - n) l) ∙ ap keep e

-- a renaming under n binders
pub lift_renaming_by_bound : (n i : ℕ) (ρ : ℕ → ℕ) → i < n → lift_renaming_by n ρ i ≡ i
lift_renaming_by_bound zero i ρ h = absurd (omega arith)
lift_renaming_by_bound (suc n) zero ρ h = refl
lift_renaming_by_bound (suc n) (suc i) ρ h = let k : i < n = omega arith in ap suc (lift_renaming_by_bound n i ρ k)

lift_renaming_by_shifted : (n j : ℕ) (ρ : ℕ → ℕ) → lift_renaming_by n ρ (j + n) ≡ ρ j + n
lift_renaming_by_shifted zero j ρ = ap ρ (shift_by_zero j) ∙ sym (shift_by_zero (ρ j))
lift_renaming_by_shifted (suc n) j ρ = ap (lift_renaming (lift_renaming_by n ρ)) (sym (one_after_shift n j)) ∙ ap suc (lift_renaming_by_shifted n j ρ) ∙ one_after_shift n (ρ j)

pub lift_renaming_by_free : (n i : ℕ) (ρ : ℕ → ℕ) → n ≤ i → lift_renaming_by n ρ i ≡ ρ (i - n) + n
lift_renaming_by_free n i ρ h = let e : i ≡ (i - n) + n = omega arith in ap (lift_renaming_by n ρ) e ∙ lift_renaming_by_shifted n (i - n) ρ

pub shift_under : (n b i : ℕ) → n ≤ i → lift_renaming_by n (shift_by b) i ≡ i + b
shift_under n b i h = let e : i - n + b + n ≡ i + b = omega arith in lift_renaming_by_free n i (shift_by b) h ∙ e

-- Contexts of skeletons.
pub skeleton_at_get : (Γ : List Skeleton) (i : ℕ) (t : Skeleton) → slice_get Γ i ≡ Some t → SkeletonAt Γ i t
skeleton_at_get [] i t e = absurd (cc)
skeleton_at_get (a ∷ Γ) zero t e = cc
skeleton_at_get (a ∷ Γ) (suc i) t e = skeleton_at_get Γ i t e

pub get_skeleton_at : (Γ : List Skeleton) (i : ℕ) (t : Skeleton) → SkeletonAt Γ i t → slice_get Γ i ≡ Some t
get_skeleton_at [] i t g = absurd g
get_skeleton_at (a ∷ Γ) zero t e = ap Some e
get_skeleton_at (a ∷ Γ) (suc i) t g = get_skeleton_at Γ i t g

-- what stands outside l variables is moved by l
pub shift_by_skeletons : (Ξ Γ : List Skeleton) → RenamingBySkeletons Γ (Ξ ++ Γ) (shift_by (length Ξ))
shift_by_skeletons [] Γ i t g = subst (λ j. SkeletonAt Γ j t) (sym (shift_by_zero i)) g
shift_by_skeletons (a ∷ Ξ) Γ i t g = subst (λ j. SkeletonAt (a ∷ Ξ ++ Γ) j t) (one_after_shift (length Ξ) i) (shift_by_skeletons Ξ Γ i t g)

pub drop_by_skeletons : (l : ℕ) (Δ : List Skeleton) → RenamingBySkeletons (drop l Δ) Δ (shift_by l)
drop_by_skeletons zero Δ i t g = subst (λ j. SkeletonAt Δ j t) (sym (shift_by_zero i)) g
drop_by_skeletons (suc l) [] i t g = absurd g
drop_by_skeletons (suc l) (a ∷ Δ) i t g = subst (λ j. SkeletonAt (a ∷ Δ) j t) (one_after_shift l i) (drop_by_skeletons l Δ i t g)

module _ (κ : HeadSkeletons) where
  pub lift_by_by_skeletons : (Ξ Γ Δ : List Skeleton) (σ : ℕ → Image) → SubstitutionBySkeletons κ Γ Δ σ → SubstitutionBySkeletons κ (Ξ ++ Γ) (Ξ ++ Δ) (lift_by (length Ξ) σ)
  lift_by_by_skeletons [] Γ Δ σ w = w
  lift_by_by_skeletons (a ∷ Ξ) Γ Δ σ w = lift_by_skeletons κ a (Ξ ++ Γ) (Ξ ++ Δ) (lift_by (length Ξ) σ) (lift_by_by_skeletons Ξ Γ Δ σ w)

  -- one more image in front
  pub in_front_by_skeletons : (Γ Δ : List Skeleton) (σ : ℕ → Image) (a : Skeleton) (N : Term) → SubstitutionBySkeletons κ Γ Δ σ → TermSkeleton κ Δ N a → SubstitutionBySkeletons κ (a ∷ Γ) Δ (in_front (put a N) σ)
  in_front_by_skeletons Γ Δ σ a N w n zero t e = (e, n)
  in_front_by_skeletons Γ Δ σ a N w n (suc i) t g = w i t g

  -- with no images
  pub shift_substitution_by_skeletons : (Γ Δ : List Skeleton) (l : ℕ) → RenamingBySkeletons Γ Δ (shift_by l) → SubstitutionBySkeletons κ Γ Δ (images_then_shift [] l)
  shift_substitution_by_skeletons Γ Δ l w i t g = w i t g

  -- an argument put in for the variable of a lambda: one more image, one lambda less
  pub argument_at_once : (Γ Δ : List Skeleton) (σ : ℕ → Image) (a b : Skeleton) (M N : Term) (S : Spine) → SubstitutionBySkeletons κ Γ Δ σ → TermSkeleton κ (a ∷ Γ) M b → TermSkeleton κ Δ N a → reduce (arrow a b) (substitute reduce σ (lambda M)) (app N S) ≡ reduce b (substitute reduce (in_front (put a N) σ) M) S
  argument_at_once Γ Δ σ a b M N S w m n =
      reduction_beta a b (substitute reduce (lift σ) M) N S
      ∙ ap (λ X. reduce b X S) (substitutions_compose κ (a ∷ Γ) (a ∷ Δ) Δ (lift σ) (single a N) M b (lift_by_skeletons κ a Γ Δ σ w) (single_by_skeletons κ a Δ N n) m ∙ ap (λ f. substitute reduce f M) (fun_ext joined))
    where
      joined : (i : ℕ) → after (single a N) (lift σ) i ≡ in_front (put a N) σ i
      joined zero = refl
      joined (suc i) = sym (around_image a N (σ i))

  -- the rest of a spine, after the images xs of the arguments before it
  pub rest_at_once : (Γ Δ : List Skeleton) (xs : List Image) (l : ℕ) (t : Skeleton) (N : Term) (S : Spine) (c : ℕ) → SubstitutionBySkeletons κ Γ Δ (images_then_shift xs l) → TermSkeleton κ Γ N t → SpineSkeleton κ Δ S t (base c) → reduce t (substitute reduce (images_then_shift xs l) N) S ≡ substitute reduce (images_then_shift (spine_images t S xs) l) (body_under S N)
  rest_at_once Γ Δ xs l t N nil c w n s = reduce_nil t (substitute reduce (images_then_shift xs l) N)
  rest_at_once Γ Δ xs l (base d) N (app M S) c w n s = absurd s
  rest_at_once Γ Δ xs l (arrow a b) (root h T) (app M S) c w n s = absurd n
  rest_at_once Γ Δ xs l (arrow a b) (lambda N) (app M S) c w n (m, s) =
      argument_at_once Γ Δ (images_then_shift xs l) a b N M S w n m
      ∙ rest_at_once (a ∷ Γ) Δ (put a M ∷ xs) l b N S c (in_front_by_skeletons Γ Δ (images_then_shift xs l) a M w m) n s

  -- THE theorem: a term that stands outside l variables, applied to a spine under them
  pub reduction_at_once : (Γ Δ : List Skeleton) (l : ℕ) (t : Skeleton) (N : Term) (S : Spine) (c : ℕ) → RenamingBySkeletons Γ Δ (shift_by l) → TermSkeleton κ Γ N t → SpineSkeleton κ Δ S t (base c) → reduce t (rename (shift_by l) N) S ≡ substitute reduce (images_then_shift (spine_images t S []) l) (body_under S N)
  reduction_at_once Γ Δ l t N S c w n s = ap (λ X. reduce t X S) (no_images l N) ∙ rest_at_once Γ Δ [] l t N S c (shift_substitution_by_skeletons Γ Δ l w) n s

  -- the body, and the images that are put into it, have skeletons
  pub body_has_skeleton : (Γ Δ : List Skeleton) (t : Skeleton) (N : Term) (S : Spine) (c : ℕ) → TermSkeleton κ Γ N t → SpineSkeleton κ Δ S t (base c) → TermSkeleton κ (argument_skeletons t S Γ) (body_under S N) (base c)
  body_has_skeleton Γ Δ t N nil c n s = subst (TermSkeleton κ Γ N) s n
  body_has_skeleton Γ Δ (base d) N (app M S) c n s = absurd s
  body_has_skeleton Γ Δ (arrow a b) (root h T) (app M S) c n s = absurd n
  body_has_skeleton Γ Δ (arrow a b) (lambda N) (app M S) c n (m, s) = body_has_skeleton (a ∷ Γ) Δ b N S c n s

  pub images_by_skeletons : (Γ Δ : List Skeleton) (xs : List Image) (l : ℕ) (t : Skeleton) (S : Spine) (c : ℕ) → SubstitutionBySkeletons κ Γ Δ (images_then_shift xs l) → SpineSkeleton κ Δ S t (base c) → SubstitutionBySkeletons κ (argument_skeletons t S Γ) Δ (images_then_shift (spine_images t S xs) l)
  images_by_skeletons Γ Δ xs l t nil c w s = w
  images_by_skeletons Γ Δ xs l (base d) (app M S) c w s = absurd s
  images_by_skeletons Γ Δ xs l (arrow a b) (app M S) c w (m, s) = images_by_skeletons (a ∷ Γ) Δ (put a M ∷ xs) l b S c (in_front_by_skeletons Γ Δ (images_then_shift xs l) a M w m) s

  -- THE step at a variable with an image, under the binders Ξ: the image's body with all arguments put in at once
  pub image_applied_at_once : (Ξ Δ : List Skeleton) (i b : ℕ) (xs : List Image) (a : Skeleton) (N : Term) (S : Spine) (c : ℕ) → length Ξ ≤ i → slice_get xs (i - length Ξ) ≡ Some (put a N) → TermSkeleton κ Δ N a → SpineSkeleton κ (Ξ ++ Δ) S a (base c) → apply_image reduce (lift_by (length Ξ) (images_then_shift xs b) i) S ≡ substitute reduce (images_then_shift (spine_images a S []) (length Ξ)) (body_under S N)
  image_applied_at_once Ξ Δ i b xs a N S c h e n s =
      ap (λ x. apply_image reduce x S) (at_image (length Ξ) i b xs a N h e)
      ∙ reduction_at_once Δ (Ξ ++ Δ) (length Ξ) a N S c (shift_by_skeletons Ξ Δ) n s

  -- an eta-long head has the head's skeleton
  pub eta_long_has_skeleton : (Γ : List Skeleton) (a : Skeleton) (h : Head) → HeadSkeleton κ Γ h a → TermSkeleton κ Γ (eta_long a h) a
  eta_long_has_skeleton Γ a h g = eta_expand_has_skeleton κ a a Γ h nil g refl

-- The images of arguments have lesser skeletons than the term that takes them.
arrow_above : (a b k : Skeleton) → skeleton_size (arrow a b) ≤ skeleton_size k → (skeleton_size a < skeleton_size k) × (skeleton_size b ≤ skeleton_size k)
arrow_above a b k h = (omega arith, omega arith)

pub arguments_below : (k t : Skeleton) (S : Spine) (xs : List Image) → skeleton_size t ≤ skeleton_size k → ImagesAreBelow (skeleton_size k) xs → ImagesAreBelow (skeleton_size k) (spine_images t S xs)
arguments_below k t nil xs h w = w
arguments_below k (base c) (app M S) xs h w = w
arguments_below k (arrow a b) (app M S) xs h w = let (l, r) = arrow_above a b k h in arguments_below k b S (put a M ∷ xs) r (l, w)

pub images_below : (t : Skeleton) (S : Spine) → ImagesAreBelow (skeleton_size t) (spine_images t S [])
images_below t S = let e : skeleton_size t ≤ skeleton_size t = omega arith in arguments_below t t S [] e tt

pub image_below : (k : ℕ) (xs : List Image) (i : ℕ) (a : Skeleton) (N : Term) → ImagesAreBelow k xs → slice_get xs i ≡ Some (put a N) → skeleton_size a < k
image_below k [] i a N w e = absurd (cc)
image_below k (keep j ∷ xs) zero a N w e = absurd (cc)
image_below k (put b M ∷ xs) zero a N w e = let f : b ≡ a = cc in subst (λ x. skeleton_size x < k) f w.0
image_below k (keep j ∷ xs) (suc i) a N w e = image_below k xs i a N w e
image_below k (put b M ∷ xs) (suc i) a N w e = image_below k xs i a N w.1 e

-- Eta-long forms: all lambdas at once, over the head applied to all their variables.
head_zero : (h : Head) → h ≡ rename_head (shift_by 0) h
head_zero (constant c) = refl
head_zero (variable i) = ap variable (sym (shift_by_zero i))
head_zero (metavariable m) = refl

head_after_one : (n : ℕ) (h : Head) → rename_head (shift_by n) (rename_head suc h) ≡ rename_head (shift_by (suc n)) h
head_after_one n (constant c) = refl
head_after_one n (variable i) = ap variable (shift_after_one n i)
head_after_one n (metavariable m) = refl

spine_after_one : (n : ℕ) (S : Spine) → rename_spine (shift_by n) (rename_spine suc S) ≡ rename_spine (shift_by (suc n)) S
spine_after_one n S = renamings_compose_spine (shift_by n) suc S ∙ ap (λ ρ. rename_spine ρ S) (fun_ext (shift_after_one n))

shift_of_zero : (n : ℕ) → shift_by n 0 ≡ n
shift_of_zero n = omega arith

pub eta_expand_at_once : (a : Skeleton) (h : Head) (S : Spine) → eta_expand a h S ≡ lambdas (arity a) (root (rename_head (shift_by (arity a)) h) (append (rename_spine (shift_by (arity a)) S) (eta_arguments a)))
eta_expand_at_once (base c) h S = ap₂ root (head_zero h) (sym (shift_spine_zero S) ∙ sym (append_end (rename_spine (shift_by 0) S)))
  where
    append_end : (T : Spine) → append T nil ≡ T
    append_end nil = refl
    append_end (app M T) = ap (app M) (append_end T)
eta_expand_at_once (arrow a b) h S =
    let n = arity b in
    let X = eta_long a (variable zero) in
    let e : rename_spine (shift_by n) (add_last (rename_spine suc S) X) ≡ add_last (rename_spine (shift_by (suc n)) S) (eta_long a (variable n)) =
    rename_add_last (shift_by n) (rename_spine suc S) X ∙ ap₂ add_last (spine_after_one n S) (rename_eta_expand (shift_by n) a (variable zero) nil ∙ ap (λ i. eta_long a (variable i)) (shift_of_zero n)) in
    ap lambda (eta_expand_at_once b (rename_head suc h) (add_last (rename_spine suc S) X)
    ∙ ap (lambdas n) (ap₂ root (head_after_one n h) (ap (λ T. append T (eta_arguments b)) e ∙ append_add_last (rename_spine (shift_by (suc n)) S) (eta_long a (variable n)) (eta_arguments b))))

-- THE form
pub eta_at_once : (a : Skeleton) (h : Head) → eta_long a h ≡ lambdas (arity a) (root (rename_head (shift_by (arity a)) h) (eta_arguments a))
eta_at_once a h = eta_expand_at_once a h nil

-- the spine of it, one argument after another
pub next_eta_argument : (P : Spine) (a b : Skeleton) → append (add_last P (eta_long a (variable (arity b)))) (eta_arguments b) ≡ append P (eta_arguments (arrow a b))
next_eta_argument P a b = append_add_last P (eta_long a (variable (arity b))) (eta_arguments b)
