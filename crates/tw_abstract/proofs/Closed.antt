-- What the values are put into mentions no variable more than before.
use Rattle.std.proofs.Common.{◌≡◌, ℕ, zero, suc, ◌+◌, ◌<◌, List, [], ◌∷◌, length, drop, Option, sym, subst, arith}
use Rattle.lf.specs.AtOnce.{shift_by}
use Rattle.lf.specs.SkeletonTyping.{SkeletonAt, SpineSkeleton, TermSkeleton, TypeBySkeletons}
use Rattle.lf.specs.Syntax.{LfType, Skeleton, Spine, Term, app, arrow, atom, base, constant, lambda, metavariable, nil, pi, root, skeleton, variable}
use Rattle.lf.specs.Typing.{Signature}
use Rattle.lf.proofs.AtOnce.{drop_by_skeletons}
use Rattle.lf_unification.specs.Filling.{fill, moved}
use Rattle.lf_unification.specs.OpenTyping.{skeletons_of}
use Rattle.lf_unification.specs.Patterns.{FreeVariablesIn, FreeVariablesInSpine, LiftedSet}
use Rattle.lf_unification.specs.Putting.{PutsIn, PutsInSpine, PutsInType, put_in_argument, put_in_atom, put_in_pi, put_nowhere}
use Rattle.lf_unification.specs.Skeletons.{TotalSkeletons, as_head_skeletons, total_skeletons}
use Rattle.lf_unification.specs.Unifiers.{Binding}
use Rattle.lf_unification.proofs.Filling.{TermSkeleton-fill}
use Rattle.lf_unification.proofs.Inverse.{FreeVariablesIn-weaker, FreeVariablesInSpine-weaker, LiftedSet-weaker}
use Rattle.tw_metas.specs.State.{State}
use Rattle.tw_putting.specs.Fits.{BindingsBySkeletons, HaveOrder, PutFits, PutTypeFits, declared_skeletons}
use Rattle.tw_putting.specs.Stores.{Puts, PutsType, bindings_of, types_of}
use Rattle.tw_putting.specs.Values.{values_to}
use Rattle.tw_putting.proofs.Filled.{declared_heads, more_heads, more_heads_type}
use Rattle.tw_putting.proofs.PutTotal.{Outside, puts_once, under_fills}
use Rattle.tw_abstract.specs.Reordered.{FreeVariablesInType}

-- a variable that has a skeleton is of the context
variable_within : (Δ : List Skeleton) (i : ℕ) (t : Skeleton) → SkeletonAt Δ i t → i < length Δ
variable_within [] i t g = absurd g
variable_within (a ∷ Δ) zero t g = omega arith
variable_within (a ∷ Δ) (suc i) t g = let h : i < length Δ = variable_within Δ i t g in omega (arith, h)

within_lifted : (n i : ℕ) → i < suc n → LiftedSet (λ j. j < n) i
within_lifted n zero h = tt
within_lifted n (suc i) h = omega arith

type_weaker : (P Q : ℕ → Type 0) → ((i : ℕ) → P i → Q i) → (A : LfType) → FreeVariablesInType P A → FreeVariablesInType Q A
type_weaker P Q h (pi A B) (a, b) = (type_weaker P Q h A a, type_weaker (LiftedSet P) (LiftedSet Q) (LiftedSet-weaker P Q h) B b)
type_weaker P Q h (atom a S) s = FreeVariablesInSpine-weaker P Q h S s

module _ (κ : TotalSkeletons) where
  mutual
    skeleton_within : (Δ : List Skeleton) (M : Term) (t : Skeleton) → TermSkeleton (as_head_skeletons κ) Δ M t → FreeVariablesIn (λ i. i < length Δ) M
    skeleton_within Δ (lambda M) (arrow a b) m = FreeVariablesIn-weaker (λ i. i < suc (length Δ)) (LiftedSet (λ i. i < length Δ)) (within_lifted (length Δ)) M (skeleton_within (a ∷ Δ) M b m)
    skeleton_within Δ (lambda M) (base c) m = absurd m
    skeleton_within Δ (root h S) (arrow a b) m = absurd m
    skeleton_within Δ (root (constant c) S) (base n) (t, g, s) = spine_within Δ S t (base n) s
    skeleton_within Δ (root (variable i) S) (base n) (t, g, s) = (variable_within Δ i t g, spine_within Δ S t (base n) s)
    skeleton_within Δ (root (metavariable m) S) (base n) (t, g, s) = spine_within Δ S t (base n) s

    spine_within : (Δ : List Skeleton) (S : Spine) (t u : Skeleton) → SpineSkeleton (as_head_skeletons κ) Δ S t u → FreeVariablesInSpine (λ i. i < length Δ) S
    spine_within Δ nil t u s = tt
    spine_within Δ (app M S) (arrow a b) u (m, s) = (skeleton_within Δ M a m, spine_within Δ S b u s)
    spine_within Δ (app M S) (base c) u s = absurd s

module _ (Σ : Signature) (Ψ : ℕ → Option LfType) (Γ : List Skeleton) (bs : List Binding) (w : BindingsBySkeletons Σ Ψ Γ bs) (o : HaveOrder bs) where
  -- the values under k binders
  abbrev under : ℕ → ℕ → Option Term
  under k = moved (shift_by k) (values_to (skeletons_of Ψ) bs (length bs))

  put_within : {k : ℕ} {M M' : Term} → PutsIn Ψ bs k M M' → (Δ : List Skeleton) (t : Skeleton) → Outside k Γ Δ → TermSkeleton (as_head_skeletons (total_skeletons Σ (skeletons_of Ψ))) Δ M t → FreeVariablesIn (λ i. i < length Δ) M'
  put_within {k = k} {M = M} {M' = M'} d Δ t p m = subst (FreeVariablesIn (λ i. i < length Δ)) (sym (puts_once Σ Ψ Γ bs w o k Δ M t p m M' d))
      (skeleton_within (total_skeletons Σ (skeletons_of Ψ)) Δ (fill (skeletons_of Ψ) (under k) M) t (TermSkeleton-fill (total_skeletons Σ (skeletons_of Ψ)) Δ (under k) M t (under_fills Σ Ψ Γ bs w o k Δ p) m))

  put_within_spine : {k : ℕ} {S S' : Spine} → PutsInSpine Ψ bs k S S' → (Δ : List Skeleton) (t u : Skeleton) → Outside k Γ Δ → SpineSkeleton (as_head_skeletons (total_skeletons Σ (skeletons_of Ψ))) Δ S t u → FreeVariablesInSpine (λ i. i < length Δ) S'
  put_within_spine put_nowhere Δ t u p s = tt
  put_within_spine (put_in_argument d e) Δ (arrow a b) u p (m, s) = (put_within d Δ a p m, put_within_spine e Δ b u p s)
  put_within_spine (put_in_argument d e) Δ (base c) u p s = absurd s

  further : (k : ℕ) (Δ : List Skeleton) (a : Skeleton) → Outside k Γ Δ → Outside (suc k) Γ (a ∷ Δ)
  further k Δ a p i t g = let e : i + suc k ≡ suc (i + k) = omega arith in subst (λ j. SkeletonAt (a ∷ Δ) j t) (sym e) (p i t g)

  put_within_type : {k : ℕ} {A A' : LfType} → PutsInType Ψ bs k A A' → (φ : ℕ → Option Skeleton) (Δ : List Skeleton) → Outside k Γ Δ → TypeBySkeletons φ (as_head_skeletons (total_skeletons Σ (skeletons_of Ψ))) Δ A → FreeVariablesInType (λ i. i < length Δ) A'
  put_within_type (put_in_atom {a = a} d) φ Δ p (t, e, s) = put_within_spine d Δ t (base a) p s
  put_within_type {k = k} (put_in_pi {A = A} {B' = B'} d e) φ Δ p (x, y) = (
    put_within_type d φ Δ p x,
    type_weaker (λ i. i < suc (length Δ)) (LiftedSet (λ i. i < length Δ)) (within_lifted (length Δ)) B' (put_within_type e φ (skeleton A ∷ Δ) (further k Δ (skeleton A) p) y),
  )

-- with the values put in, there are the variables of the context
module _ (s : State) (k : ℕ) where
  pub term_within : (M M' : Term) (f : PutFits s k M) → Puts s k M M' → FreeVariablesIn (λ i. i < length f.context) M'
  term_within M M' f d = put_within f.signature (types_of s) (drop k f.context) (bindings_of s) f.store_typed.values f.store_typed.ordered d f.context f.term_skeleton (drop_by_skeletons k f.context)
      (more_heads (declared_skeletons f.signature (types_of s)) (as_head_skeletons (total_skeletons f.signature (skeletons_of (types_of s)))) (declared_heads f.signature (types_of s)) f.context M f.term_skeleton f.term_typed)

  pub type_within : (A A' : LfType) (f : PutTypeFits s k A) → PutsType s k A A' → FreeVariablesInType (λ i. i < length f.context) A'
  type_within A A' f d = put_within_type f.signature (types_of s) (drop k f.context) (bindings_of s) f.store_typed.values f.store_typed.ordered d f.families f.context (drop_by_skeletons k f.context)
      (more_heads_type f.families (declared_skeletons f.signature (types_of s)) (as_head_skeletons (total_skeletons f.signature (skeletons_of (types_of s)))) (declared_heads f.signature (types_of s)) f.context A f.type_typed)
