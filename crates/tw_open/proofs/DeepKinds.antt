-- Kinds that come out deep where something is put into them, part by part, and one argument after another.
use Rattle.std.proofs.Common.{◌≡◌, ℕ, suc, ◌+◌, ◌<◌, inl, inr, List, Result, Err, IsErrOf, sym, subst, arith}
use Rattle.std.proofs.Math.Nat.{le-max_left, le-max_right}
use Rattle.lf.specs.Depth.{depth_limit, kind_depth, type_depth}
use Rattle.lf.specs.Substitution.{Image, lift, reduce, substitute_kind, substitute_type}
use Rattle.lf.specs.Syntax.{Kind, LfType, Skeleton, Spine, Term, app, kind_pi}
use Rattle.lf.specs.Typing.{instantiate_kind}
use Rattle.lf_unification.specs.Unifiers.{Equation}
use Rattle.tw_hered.specs.Fits.{put_at}
use Rattle.tw_open.specs.Deep.{HasDeepDomain, KindTakesDeep}
use Rattle.tw_open.specs.Indices.{TakesBoth}
use Rattle.tw_open.specs.declared.indices.Wanted.{Wanted}

-- the same fault
pub fault_of_call : {T U E : Type 0} (r : Result T E) (x y : E) → r ≡ Err x → IsErrOf r y → IsErrOf {T = U} (Err x) y
fault_of_call r x y e f = cc (e, f)

-- a kind is deeper than its domain, and than its range
pub domain_deep : (σ : ℕ → Image) (K L : Kind) (A : LfType) → K ≡ kind_pi A L → depth_limit < type_depth (substitute_type reduce σ A) → depth_limit < kind_depth (substitute_kind reduce σ K)
domain_deep σ K L A e h =
    let m = le-max_left (type_depth (substitute_type reduce σ A)) (kind_depth (substitute_kind reduce (lift σ) L)) in
    subst (λ X. depth_limit < kind_depth (substitute_kind reduce σ X)) (sym e) (omega (arith, h, m))

pub range_deep : (n m : ℕ) (a : Skeleton) (N : Term) (K L : Kind) (A : LfType) → m ≡ n + 1 → K ≡ kind_pi A L → depth_limit < kind_depth (substitute_kind reduce (put_at m a N) L) → depth_limit < kind_depth (substitute_kind reduce (put_at n a N) K)
range_deep n m a N K L A q e h =
    let one : m ≡ suc n = omega (arith, q) in
    let k : depth_limit < kind_depth (substitute_kind reduce (put_at (suc n) a N) L) = subst (λ i. depth_limit < kind_depth (substitute_kind reduce (put_at i a N) L)) one h in
    let l = le-max_right (type_depth (substitute_type reduce (put_at n a N) A)) (kind_depth (substitute_kind reduce (put_at (suc n) a N) L)) in
    subst (λ X. depth_limit < kind_depth (substitute_kind reduce (put_at n a N) X)) (sym e) (omega (arith, k, l))

-- the same of the domains
pub first_domain_deep : (σ : ℕ → Image) (K L : Kind) (A : LfType) → K ≡ kind_pi A L → depth_limit < type_depth (substitute_type reduce σ A) → HasDeepDomain depth_limit (substitute_kind reduce σ K)
first_domain_deep σ K L A e h = subst (λ X. HasDeepDomain depth_limit (substitute_kind reduce σ X)) (sym e) (inl h)

pub later_domain_deep : (n m : ℕ) (a : Skeleton) (N : Term) (K L : Kind) (A : LfType) → m ≡ n + 1 → K ≡ kind_pi A L → HasDeepDomain depth_limit (substitute_kind reduce (put_at m a N) L) → HasDeepDomain depth_limit (substitute_kind reduce (put_at n a N) K)
later_domain_deep n m a N K L A q e h =
    let one : m ≡ suc n = omega (arith, q) in
    let k : HasDeepDomain depth_limit (substitute_kind reduce (put_at (suc n) a N) L) = subst (λ i. HasDeepDomain depth_limit (substitute_kind reduce (put_at i a N) L)) one h in
    subst (λ X. HasDeepDomain depth_limit (substitute_kind reduce (put_at n a N) X)) (sym e) (inr k)

-- behind the first argument, and behind a later one
pub takes_first_deep : (K L : Kind) (A : LfType) (M : Term) (S : Spine) → K ≡ kind_pi A L → HasDeepDomain depth_limit (instantiate_kind A M L) → KindTakesDeep depth_limit K (app M S)
takes_first_deep K L A M S e h = subst (λ X. KindTakesDeep depth_limit X (app M S)) (sym e) (inl h)

pub takes_later_deep : (w : Wanted) (D : List LfType) (K L : Kind) (M N : Term) (S T : Spine) (old new : List Equation) → T ≡ app M S → TakesBoth w D K M N L old new → KindTakesDeep depth_limit L S → KindTakesDeep depth_limit K T
takes_later_deep w D K L M N S T old new e o h =
    subst (λ X. KindTakesDeep depth_limit X T) (sym o.is) (subst (KindTakesDeep depth_limit (kind_pi o.domain o.range)) (sym e) (inr (subst (λ X. KindTakesDeep depth_limit X S) o.left_over h)))
