-- The skeletons of a context, one after the other.
use Rattle.std.proofs.Common.{◌≡◌, ℕ, zero, suc, ◌+◌, List, [], ◌∷◌, ◌++◌, map, drop, Option, Some, Result, Ok, Err, IfOk, option_map, Bool, IsTrue, ◌↔◌, refl, sym, ap, ap₂, ◌∙◌, subst, add-one}
use Rattle.std.specs.List.{slice_get}
use Rattle.lf.specs.Skeletons.{context_skeletons}
use Rattle.std.specs.declared.alloc.AllocError.{AllocError}
use Rattle.lf.proofs.AtOnce.{skeleton_at_get, get_skeleton_at}
use Rattle.lf.specs.SkeletonTyping.{HeadSkeletons, HeadSkeleton, SpineSkeleton, TermSkeleton, TypeBySkeletons}
use Rattle.lf.specs.Syntax.{Head, variable, Term, Spine, root, LfType, atom, Skeleton, base, skeleton}
use Rattle.tw_terms.specs.View.{skeleton_of}
use Rattle.tw_terms.specs.declared.canonical.Skeleton.{Skeleton as RustSkeleton}

at : (G : List LfType) (k : ℕ) (A : LfType) → slice_get G k ≡ Some A → drop k G ≡ A ∷ drop (suc k) G
at [] k A e = absurd cc
at (B ∷ G) zero A e = let same : B ≡ A = cc in ap (λ X. X ∷ G) same
at (B ∷ G) (suc k) A e = at G k A e

pushed : (vs : List RustSkeleton) (s : RustSkeleton) (rest : List Skeleton) → map skeleton_of (vs ++ s ∷ []) ++ rest ≡ map skeleton_of vs ++ skeleton_of s ∷ rest
pushed [] s rest = refl
pushed (v ∷ vs) s rest = ap (λ xs. skeleton_of v ∷ xs) (pushed vs s rest)

pub one_skeleton : (vs ws : List RustSkeleton) (s : RustSkeleton) (G : List LfType) (i : ℕ) (A : LfType) (whole : List Skeleton) → slice_get G i ≡ Some A → skeleton_of s ≡ skeleton A → ws ≡ vs ++ s ∷ []
    → map skeleton_of vs ++ context_skeletons (drop i G) ≡ whole → map skeleton_of ws ++ context_skeletons (drop (i + 1) G) ≡ whole
one_skeleton vs ws s G i A whole g e p w =
    ap₂ (λ xs k. map skeleton_of xs ++ context_skeletons (drop k G)) p (add-one i) ∙ pushed vs s (context_skeletons (drop (suc i) G))
    ∙ ap (λ t. map skeleton_of vs ++ t ∷ context_skeletons (drop (suc i) G)) e ∙ sym (ap (λ X. map skeleton_of vs ++ context_skeletons X) (at G i A g)) ∙ w

some_inj : {X : Type 0} {x y : X} → Some x ≡ Some y → x ≡ y
some_inj e = cc

-- the skeleton of a variable is that of its head
pub of_variable : (κ : HeadSkeletons) (vs : List Skeleton) (h : Head) (i : ℕ) (r : Result (Option RustSkeleton) AllocError) → h ≡ variable i → IfOk r (λ o. option_map skeleton_of o ≡ slice_get vs i) →
    IfOk r (λ o. (t : Skeleton) → (option_map skeleton_of o ≡ Some t) ↔ HeadSkeleton κ vs h t)
of_variable κ vs h i (Err e) q k = k
of_variable κ vs h i (Ok o) q k = λ t. subst (λ g. (option_map skeleton_of o ≡ Some t) ↔ HeadSkeleton κ vs g t) (sym q) ((λ e. skeleton_at_get vs i t (sym k ∙ e)), (λ g. k ∙ get_skeleton_at vs i t g))

-- A root has the skeletons to which its spine takes that of its head.
pub of_root : (κ : HeadSkeletons) (vs : List Skeleton) (M : Term) (h : Head) (S : Spine) (u m : Skeleton) (a : ℕ) (r : Result Bool AllocError) → M ≡ root h S → m ≡ base a → ((t : Skeleton) → (Some u ≡ Some t) ↔ HeadSkeleton κ vs h t) →
    IfOk r (λ b. IsTrue b ↔ SpineSkeleton κ vs S u m) → IfOk r (λ b. IsTrue b ↔ TermSkeleton κ vs M m)
of_root κ vs M h S u m a (Err e) p q f k = k
of_root κ vs M h S u m a (Ok b) p q f k =
    subst (λ N. IsTrue b ↔ TermSkeleton κ vs N m) (sym p) (subst (λ n. IsTrue b ↔ TermSkeleton κ vs (root h S) n) (sym q)
    (let c = subst (λ n. IsTrue b ↔ SpineSkeleton κ vs S u n) q k in
    ((λ e. (u, (f u).0 refl, c.0 e)), (λ (t, g, s). c.1 (subst (λ x. SpineSkeleton κ vs S x (base a)) (sym (some_inj ((f t).1 g))) s)))))

-- An atom is typed where its spine takes the skeleton of its family to the end.
pub of_atom : (φ : ℕ → Option Skeleton) (κ : HeadSkeletons) (vs : List Skeleton) (A : LfType) (a : ℕ) (S : Spine) (u m : Skeleton) (r : Result Bool AllocError) → A ≡ atom a S → m ≡ base a → Some u ≡ φ a →
    IfOk r (λ b. IsTrue b ↔ SpineSkeleton κ vs S u m) → IfOk r (λ b. IsTrue b ↔ TypeBySkeletons φ κ vs A)
of_atom φ κ vs A a S u m (Err e) p q f k = k
of_atom φ κ vs A a S u m (Ok b) p q f k =
    subst (λ B. IsTrue b ↔ TypeBySkeletons φ κ vs B) (sym p)
    (let c = subst (λ n. IsTrue b ↔ SpineSkeleton κ vs S u n) q k in
    ((λ e. (u, sym f, c.0 e)), (λ (t, g, s). c.1 (subst (λ x. SpineSkeleton κ vs S x (base a)) (sym (some_inj (f ∙ g))) s))))
