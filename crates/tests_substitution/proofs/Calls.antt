-- What the calls need, from typing by skeletons that was decided by running it.
use Rattle.std.proofs.Common.{◌≡◌, ℕ, List, ◌∷◌, ◌++◌, length, drop, Option, Result, Ok, Err, IfOk, Bool, IsTrue, refl, sym, ap, ◌∙◌, subst}
use Rattle.std.proofs.Math.Seq.{drop-append_seam}
use Rattle.std.specs.declared.alloc.AllocError.{AllocError}
use Rattle.lf.specs.Entries.{Entry, signature_of}
use Rattle.lf.specs.SkeletonTyping.{HeadSkeletons, SpineSkeleton, TermSkeleton, TypeBySkeletons}
use Rattle.lf.specs.Syntax.{LfType, Skeleton, Spine, Term, base}
use Rattle.tw_hered.specs.Fits.{Applies, TermFits, TypeFits, put_at}
use Rattle.tw_hered.proofs.FromTyping.{applies}
use Rattle.tw_hered.proofs.Known.{term_fits_by, type_fits_by}
use Rattle.tw_metas.specs.State.{State}
use Rattle.tw_putting.specs.Fits.{PutFits, PutSpineFits, PutTypeFits, StoreBySkeletons}
use Rattle.tests_substitution.specs.Kept.{IsBound, heads_of}

-- A term for a variable of the skeleton b, outside of the variables Ξ.
pub term_fits_in : (κ : HeadSkeletons) (Ξ Γ : List Skeleton) (n : ℕ) (a b : Skeleton) (N M : Term) (t : Skeleton) (r : Result Bool AllocError) → b ≡ a → n ≡ length Ξ → TermSkeleton κ Γ N b → IfOk r (λ x. IsTrue x → TermSkeleton κ (Ξ ++ (b ∷ Γ)) M t) → IfOk r (λ x. IsTrue x → TermFits (put_at n a N) M)
term_fits_in κ Ξ Γ n a b N M t (Err e) p q x k = k
term_fits_in κ Ξ Γ n a b N M t (Ok y) p q x k = λ h. subst (λ c. TermFits (put_at n c N) M) p (term_fits_by κ Ξ Γ (Ξ ++ (b ∷ Γ)) n b N M t q refl x (k h))

pub type_fits_in : (φ : ℕ → Option Skeleton) (κ : HeadSkeletons) (Ξ Γ : List Skeleton) (n : ℕ) (a b : Skeleton) (N : Term) (A : LfType) (r : Result Bool AllocError) → b ≡ a → n ≡ length Ξ → TermSkeleton κ Γ N b → IfOk r (λ x. IsTrue x → TypeBySkeletons φ κ (Ξ ++ (b ∷ Γ)) A) → IfOk r (λ x. IsTrue x → TypeFits (put_at n a N) A)
type_fits_in φ κ Ξ Γ n a b N A (Err e) p q x k = k
type_fits_in φ κ Ξ Γ n a b N A (Ok y) p q x k = λ h. subst (λ c. TypeFits (put_at n c N) A) p (type_fits_by φ κ Ξ Γ (Ξ ++ (b ∷ Γ)) n b N A q refl x (k h))

-- A term on arguments that lead to a base skeleton.
pub applies_in : (κ : HeadSkeletons) (Γ : List Skeleton) (a b t : Skeleton) (N : Term) (S : Spine) (r : Result Bool AllocError) → b ≡ a → (c : ℕ) × (t ≡ base c) → TermSkeleton κ Γ N b → IfOk r (λ x. IsTrue x → SpineSkeleton κ Γ S b t) → IfOk r (λ x. IsTrue x → Applies a N S)
applies_in κ Γ a b t N S (Err e) p c x k = k
applies_in κ Γ a b t N S (Ok y) p (c, q) x k = λ h. subst (λ d. Applies d N S) p (applies κ Γ b N S c x (subst (SpineSkeleton κ Γ S b) q (k h)))

-- Values put in under the variables Ξ.
outside : (σ : List Entry) (Ξ Γ Θ : List Skeleton) (s : State) (k : ℕ) → k ≡ length Ξ → Θ ≡ Ξ ++ Γ → IsBound σ Γ s → StoreBySkeletons (signature_of σ) (drop k Θ) s
outside σ Ξ Γ Θ s k e q b =
    let d : drop k Θ ≡ Γ = ap (λ n. drop n Θ) e ∙ ap (drop (length Ξ)) q ∙ drop-append_seam Ξ Γ in
    subst (λ Δ. StoreBySkeletons (signature_of σ) Δ s) (sym d) b.typed

pub put_fits : (σ : List Entry) (Ξ Γ Θ : List Skeleton) (s : State) (k : ℕ) (M : Term) (t : Skeleton) (r : Result Bool AllocError) → k ≡ length Ξ → Θ ≡ Ξ ++ Γ → IsBound σ Γ s → IfOk r (λ x. IsTrue x → TermSkeleton (heads_of σ s) Θ M t) → IfOk r (λ x. IsTrue x → PutFits s k M)
put_fits σ Ξ Γ Θ s k M t (Err e) p q b m = m
put_fits σ Ξ Γ Θ s k M t (Ok y) p q b m = λ h. record { signature = signature_of σ; context = Θ; term_skeleton = t; term_typed = m h; store_typed = outside σ Ξ Γ Θ s k p q b }

pub put_spine_fits : (σ : List Entry) (Ξ Γ Θ : List Skeleton) (s : State) (k : ℕ) (S : Spine) (t u : Skeleton) (r : Result Bool AllocError) → k ≡ length Ξ → Θ ≡ Ξ ++ Γ → IsBound σ Γ s → IfOk r (λ x. IsTrue x → SpineSkeleton (heads_of σ s) Θ S t u) → IfOk r (λ x. IsTrue x → PutSpineFits s k S)
put_spine_fits σ Ξ Γ Θ s k S t u (Err e) p q b m = m
put_spine_fits σ Ξ Γ Θ s k S t u (Ok y) p q b m = λ h. record { signature = signature_of σ; context = Θ; head_skeleton = t; result_skeleton = u; spine_typed = m h; store_typed = outside σ Ξ Γ Θ s k p q b }

pub put_type_fits : (σ : List Entry) (φ : ℕ → Option Skeleton) (Ξ Γ Θ : List Skeleton) (s : State) (k : ℕ) (A : LfType) (r : Result Bool AllocError) → k ≡ length Ξ → Θ ≡ Ξ ++ Γ → IsBound σ Γ s → IfOk r (λ x. IsTrue x → TypeBySkeletons φ (heads_of σ s) Θ A) → IfOk r (λ x. IsTrue x → PutTypeFits s k A)
put_type_fits σ φ Ξ Γ Θ s k A (Err e) p q b m = m
put_type_fits σ φ Ξ Γ Θ s k A (Ok y) p q b m = λ h. record { families = φ; signature = signature_of σ; context = Θ; type_typed = m h; store_typed = outside σ Ξ Γ Θ s k p q b }
