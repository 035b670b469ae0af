-- Typing by skeletons, argument by argument.
use Rattle.std.proofs.Common.{◌≡◌, ℕ, ◌<◌, List, [], ◌∷◌, length, get_or, map, ◌++◌, Option, slice_get, Some, IfSome, None, refl, sym, subst, arith, zero, suc}
use Rattle.lf.specs.Syntax.{Head, variable, Term, LfType, Skeleton}
use Rattle.lf.specs.SkeletonTyping.{HeadSkeletons, HeadSkeleton, TermSkeleton, TypeBySkeletons}
use Rattle.lf.proofs.AtOnce.{skeleton_at_get}
use Rattle.tw_hered.specs.Fits.{put_at, TermFits, TypeFits}
use Rattle.tw_hered.proofs.FromTyping.{term_fits, type_fits}
use Rattle.tw_hered.specs.Known.{heads_of}

pub get-map : {A : Type 0} (f : A → Skeleton) (xs : List A) (i : ℕ) (d : A) → i < length xs → slice_get (map f xs) i ≡ Some (f (get_or xs i d))
get-map f [] i d h = absurd (omega arith)
get-map f (x ∷ xs) zero d h = refl
get-map f (x ∷ xs) (suc i) d h = get-map f xs i d (omega arith)

pub known_variable : (cs vs : List Skeleton) (h : Head) (i : ℕ) (t : Skeleton) → h ≡ variable i → slice_get vs i ≡ Some t → HeadSkeleton (heads_of cs) vs h t
known_variable cs vs h i t e g = subst (λ k. HeadSkeleton (heads_of cs) vs k t) (sym e) (skeleton_at_get vs i t g)

-- what is known of a result, further on
pub if_some_map : {T : Type 0} (r : Option T) (P Q : T → Type 0) → ((x : T) → P x → Q x) → IfSome r P → IfSome r Q
if_some_map (Some x) P Q f p = f x p
if_some_map None P Q f p = p

pub term_fits_by : (κ : HeadSkeletons) (Ξ Γ Θ : List Skeleton) (n : ℕ) (a : Skeleton) (N M : Term) (t : Skeleton) → n ≡ length Ξ → Θ ≡ Ξ ++ (a ∷ Γ) → TermSkeleton κ Γ N a → TermSkeleton κ Θ M t → TermFits (put_at n a N) M
term_fits_by κ Ξ Γ Θ n a N M t e q x y = subst (λ k. TermFits (put_at k a N) M) (sym e) (term_fits κ Ξ Γ a N M t x (subst (λ X. TermSkeleton κ X M t) q y))

pub type_fits_by : (φ : ℕ → Option Skeleton) (κ : HeadSkeletons) (Ξ Γ Θ : List Skeleton) (n : ℕ) (a : Skeleton) (N : Term) (A : LfType) → n ≡ length Ξ → Θ ≡ Ξ ++ (a ∷ Γ) → TermSkeleton κ Γ N a → TypeBySkeletons φ κ Θ A → TypeFits (put_at n a N) A
type_fits_by φ κ Ξ Γ Θ n a N A e q x y = subst (λ k. TypeFits (put_at k a N) A) (sym e) (type_fits φ κ Ξ Γ a N A x (subst (λ X. TypeBySkeletons φ κ X A) q y))
