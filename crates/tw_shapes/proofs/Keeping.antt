-- What callers keep from call to call: a shape within the store, solutions that only narrow, and skeletons.
use Rattle.std.proofs.Common.{◌≡◌, ◌<◌, Bool, true, false, Result, Ok, Err, IfOk, OnErr, arith, subst}
use Rattle.tw_shapes.specs.Shapes.{Shape, Store, Solves, Unifies, OnlyNarrows}
use Rattle.tw_shapes.specs.Laws.{StaysWithin, UnifyingNarrows, SkeletonStays}
use Rattle.tw_shapes.proofs.Variables.{all-map}

pub stays-within : StaysWithin
stays-within m n S le h = all-map (λ i. i < m) (λ i. i < n) (λ i lt. omega arith) S h

pub same-narrows : (old new : Store) → new ≡ old → OnlyNarrows old new
same-narrows old new e = λ θ h. subst (Solves θ) e h

pub narrows-twice : (first middle last : Store) → OnlyNarrows first middle → OnlyNarrows middle last → OnlyNarrows first last
narrows-twice first middle last f g = λ θ h. f θ (g θ h)

pub unifying-narrows : UnifyingNarrows
unifying-narrows old new S T true u = λ θ h. ((u.solutions θ).0 h).0
unifying-narrows old new S T false u = same-narrows old new u.1

pub skeleton-stays : SkeletonStays
skeleton-stays old new S k n h = λ θ w. h θ (n θ w)

-- the same of all that a call of `unify` may answer
pub answer-narrows : {E : Type 0} (old new : Store) (S T : Shape) (answer : Result Bool E) → IfOk answer (λ b. Unifies old new S T b) → OnErr answer (new ≡ old) → OnlyNarrows old new
answer-narrows old new S T (Ok b) ok err = unifying-narrows old new S T b ok
answer-narrows old new S T (Err e) ok err = same-narrows old new err
