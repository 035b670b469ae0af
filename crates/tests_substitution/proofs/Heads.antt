-- Typing by skeletons at heads, roots, atoms and quantified types.
use Rattle.std.proofs.Common.{◌≡◌, ℕ, List, ◌∷◌, Option, Some, None, Result, Ok, Err, IfOk, IfSome, Bool, IsTrue, option_map, sym, ap, ◌∙◌, subst}
use Rattle.std.specs.List.{slice_get}
use Rattle.std.specs.declared.alloc.AllocError.{AllocError}
use Rattle.lf.proofs.AtOnce.{skeleton_at_get}
use Rattle.lf.specs.SkeletonTyping.{HeadSkeletons, HeadSkeleton, SpineSkeleton, TermSkeleton, TypeBySkeletons}
use Rattle.lf.specs.Syntax.{Head, LfType, Spine, Term, atom, base, pi, root, skeleton, variable, Skeleton}
use Rattle.tw_terms.specs.View.{skeleton_of}
use Rattle.tw_terms.specs.declared.canonical.Skeleton.{Skeleton as RustSkeleton}

-- the skeleton of a variable is that of its head
pub of_variable : (κ : HeadSkeletons) (vs : List Skeleton) (h : Head) (i : ℕ) (r : Result (Option RustSkeleton) AllocError) → h ≡ variable i → IfOk r (λ o. option_map skeleton_of o ≡ slice_get vs i) →
    IfOk r (λ o. IfSome o (λ t. HeadSkeleton κ vs h (skeleton_of t)))
of_variable κ vs h i (Err e) q k = k
of_variable κ vs h i (Ok None) q k = tt
of_variable κ vs h i (Ok (Some t)) q k = subst (λ g. HeadSkeleton κ vs g (skeleton_of t)) (sym q) (skeleton_at_get vs i (skeleton_of t) (sym k))

-- a root has the skeleton to which its spine takes that of its head
pub of_root : (κ : HeadSkeletons) (vs : List Skeleton) (M : Term) (h : Head) (S : Spine) (u m : Skeleton) (a : ℕ) (r : Result Bool AllocError) → M ≡ root h S → m ≡ base a → HeadSkeleton κ vs h u →
    IfOk r (λ b. IsTrue b → SpineSkeleton κ vs S u m) → IfOk r (λ b. IsTrue b → TermSkeleton κ vs M m)
of_root κ vs M h S u m a (Err e) p q f k = k
of_root κ vs M h S u m a (Ok b) p q f k = λ x.
    subst (λ N. TermSkeleton κ vs N m) (sym p) (subst (TermSkeleton κ vs (root h S)) (sym q) (u, f, subst (SpineSkeleton κ vs S u) q (k x)))

-- an atom is typed where its spine takes the skeleton of its family to the end
pub of_atom : (φ : ℕ → Option Skeleton) (κ : HeadSkeletons) (vs : List Skeleton) (A : LfType) (a : ℕ) (S : Spine) (u m : Skeleton) (r : Result Bool AllocError) → A ≡ atom a S → m ≡ base a → Some u ≡ φ a →
    IfOk r (λ b. IsTrue b → SpineSkeleton κ vs S u m) → IfOk r (λ b. IsTrue b → TypeBySkeletons φ κ vs A)
of_atom φ κ vs A a S u m (Err e) p q f k = k
of_atom φ κ vs A a S u m (Ok b) p q f k = λ x. subst (TypeBySkeletons φ κ vs) (sym p) (u, sym f, subst (SpineSkeleton κ vs S u) q (k x))

-- a quantified type is typed where its domain is, and its range under one more variable
pub of_pi : (φ : ℕ → Option Skeleton) (κ : HeadSkeletons) (vs ws : List Skeleton) (C A B : LfType) (u : Skeleton) (r : Result Bool AllocError) → C ≡ pi A B → u ≡ skeleton A → ws ≡ u ∷ vs → TypeBySkeletons φ κ vs A →
    IfOk r (λ b. IsTrue b → TypeBySkeletons φ κ ws B) → IfOk r (λ b. IsTrue b → TypeBySkeletons φ κ vs C)
of_pi φ κ vs ws C A B u (Err e) p q w a k = k
of_pi φ κ vs ws C A B u (Ok b) p q w a k = λ x. subst (TypeBySkeletons φ κ vs) (sym p) (a, subst (λ xs. TypeBySkeletons φ κ xs B) (w ∙ ap (λ s. s ∷ vs) q) (k x))
