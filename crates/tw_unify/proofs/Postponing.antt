-- The postponed equations, one after the other.
use Rattle.std.proofs.Common.{Box, Global, ◌≡◌, ℕ, zero, suc, ◌+◌, ◌<◌, List, [], ◌∷◌, ◌++◌, length, map, take, get_or, Bool, true, false, Some, inl, inr, refl, sym, ap, ◌∙◌, subst, arith}
use Rattle.std.specs.Bool.{OnTrue}
use Rattle.std.specs.List.{remove, slice_get}
use Rattle.std.proofs.lemmas.List.{length-map, map-append, take_more}
use Rattle.lf.specs.Subordination.{Member}
use Rattle.lf.specs.Typing.{Signature}
use Rattle.lf_unification.specs.Lists.{followed}
use Rattle.lf_unification.specs.ReachedRuns.{ReachedRun}
use Rattle.lf_unification.specs.Steps.{next_equation}
use Rattle.lf_unification.specs.Unifiers as unifiers
use Rattle.tw_metas.specs.State.{State, without_equation}
use Rattle.tw_metas.specs.View.{kept_equation_of}
use Rattle.tw_metas.specs.declared.equation.Equation.{Equation}
use Rattle.tw_putting.specs.Stores.{bindings_of, types_of}
use Rattle.tw_unify.specs.Outcomes.{Explains}
use Rattle.tw_unify.specs.Sides.{AllLeft, AllMayBeLeft, BlamesDepth, BlamesSome, IsLeft, MayBeLeft}
use Rattle.tw_putting.specs.Whole.{whole}
use Rattle.tw_unify.specs.declared.fault.UnifyFault.{UnifyFault}
use Rattle.tw_unify.specs.declared.fault.UnifyFault.TheVariants.{NoMemory, TooDeep}
use Rattle.tw_unify.proofs.Fitting.{deep_sides}
use Rattle.tw_unify.proofs.Orders.{one_step}

pub still_on : (b : Bool) (P : Type 0) → b ≡ true → OnTrue b P → P
still_on true P e p = p
still_on false P e p = absurd cc

-- a place of the postponed equations
pub place_within : (items : List (Box Equation Global)) (es : List unifiers.Equation) (at : ℕ) → map kept_equation_of items ≡ es → at < length es → at < length items
place_within items es at is h = subst (λ n. at < n) (sym (ap length is) ∙ length-map items kept_equation_of) h

may_be_left_here : (s : State) (items : List (Box Equation Global)) (i : ℕ) (x : Box Equation Global) → i < length items → x ≡ get_or items i x → AllMayBeLeft s (map kept_equation_of items) → MayBeLeft s (kept_equation_of x)
may_be_left_here s [] i x h e a = absurd (omega arith)
may_be_left_here s (y ∷ items) zero x h e (m, a) = subst (λ z. MayBeLeft s (kept_equation_of z)) (sym e) m
may_be_left_here s (y ∷ items) (suc i) x h e (m, a) = may_be_left_here s items i x (omega arith) e a

pub may_be_left_at : (s : State) (items : List (Box Equation Global)) (es : List unifiers.Equation) (i : ℕ) (x : Box Equation Global) → map kept_equation_of items ≡ es → i < length items → x ≡ get_or items i x → AllMayBeLeft s es → MayBeLeft s (kept_equation_of x)
may_be_left_at s items es i x is h e a = may_be_left_here s items i x h e (subst (AllMayBeLeft s) (sym is) a)

member_here : (items : List (Box Equation Global)) (i : ℕ) (x : Box Equation Global) → i < length items → x ≡ get_or items i x → Member (kept_equation_of x) (map kept_equation_of items)
member_here [] i x h e = absurd (omega arith)
member_here (y ∷ items) zero x h e = inl (ap kept_equation_of e)
member_here (y ∷ items) (suc i) x h e = inr (member_here items i x (omega arith) e)

pub blames_one : (f : UnifyFault) (s : State) (items : List (Box Equation Global)) (es : List unifiers.Equation) (i : ℕ) (x : Box Equation Global) → map kept_equation_of items ≡ es → i < length items → x ≡ get_or items i x → BlamesDepth f s (kept_equation_of x) → BlamesSome f s es
blames_one TooDeep s items es i x is h e b = (kept_equation_of x, subst (Member (kept_equation_of x)) is (member_here items i x h e), b)
blames_one NoMemory s items es i x is h e b = tt

pub explains_some : (Σ : Signature) (f : UnifyFault) (s : State) → BlamesSome f s s.equations → Explains f Σ (whole [] s)
explains_some Σ TooDeep s (e, i, b) = deep_sides Σ s [] e i b
explains_some Σ NoMemory s b = tt

left_last : (s : State) (es : List unifiers.Equation) (e : unifiers.Equation) → AllLeft s es → IsLeft s e → AllLeft s (es ++ e ∷ [])
left_last s [] e a l = (l, tt)
left_last s (d ∷ es) e (k, a) l = (k, left_last s es e a l)

pub all_left_next : (s : State) (items : List (Box Equation Global)) (i : ℕ) (x : Box Equation Global) → i < length items → x ≡ get_or items i x → AllLeft s (map kept_equation_of (take i items)) → IsLeft s (kept_equation_of x) → AllLeft s (map kept_equation_of (take (i + 1) items))
all_left_next s items i x h e a l =
    let is : take (i + 1) items ≡ take i items ++ x ∷ [] = take_more items i x h ∙ ap (λ y. take i items ++ y ∷ []) (sym e) in
    subst (λ xs. AllLeft s (map kept_equation_of xs)) (sym is)
    (subst (AllLeft s) (sym (map-append kept_equation_of (take i items) (x ∷ []))) (left_last s (map kept_equation_of (take i items)) (kept_equation_of x) a l))

-- The equation at a place, taken out.
record TakenOut (items : List (Box Equation Global)) (i : ℕ) (x : Box Equation Global) : Type 0 where
  before : List unifiers.Equation
  behind : List unifiers.Equation
  whole_is : map kept_equation_of items ≡ followed before (kept_equation_of x ∷ behind)
  rest_is : remove (map kept_equation_of items) i ≡ followed before behind

taken_out : (items : List (Box Equation Global)) (i : ℕ) (x : Box Equation Global) → i < length items → x ≡ get_or items i x → TakenOut items i x
taken_out [] i x h e = absurd (omega arith)
taken_out (y ∷ items) zero x h e = record { before = []; behind = map kept_equation_of items; whole_is = ap (λ z. kept_equation_of z ∷ map kept_equation_of items) (sym e); rest_is = refl }
taken_out (y ∷ items) (suc i) x h e =
    let t = taken_out items i x (omega arith) e in
    record { before = kept_equation_of y ∷ t.before; behind = t.behind; whole_is = ap (λ zs. kept_equation_of y ∷ zs) t.whole_is; rest_is = ap (λ zs. kept_equation_of y ∷ zs) t.rest_is }

abbrev holding : State → List unifiers.Equation → unifiers.Store
holding s es = record { metavariables = types_of s; bindings = bindings_of s; equations = es }

-- a postponed equation is woken
pub wake_runs : (Σ : Signature) (s : State) (items : List (Box Equation Global)) (i : ℕ) (x : Box Equation Global) (d : unifiers.Equation) → map kept_equation_of items ≡ s.equations → i < length items → x ≡ get_or items i x → d ≡ kept_equation_of x → ReachedRun Σ (whole [] s) (whole (d ∷ []) (without_equation s i))
wake_runs Σ s items i x d is h e k =
    let t = taken_out items i x h e in
    let stepped : ReachedRun Σ (holding s (followed t.before (kept_equation_of x ∷ t.behind))) (holding s (kept_equation_of x ∷ followed t.before t.behind)) = one_step Σ (next_equation t.before (kept_equation_of x) t.behind) tt in
    let from : ReachedRun Σ (whole [] s) (holding s (kept_equation_of x ∷ followed t.before t.behind)) =
    subst (λ es. ReachedRun Σ (holding s es) (holding s (kept_equation_of x ∷ followed t.before t.behind))) (sym t.whole_is ∙ is) stepped in
    let to : followed t.before t.behind ≡ remove s.equations i = sym t.rest_is ∙ ap (λ es. remove es i) is in
    subst (λ f. ReachedRun Σ (whole [] s) (whole (f ∷ []) (without_equation s i))) (sym k) (subst (λ es. ReachedRun Σ (whole [] s) (holding s (kept_equation_of x ∷ es))) to from)

element_here : (items : List (Box Equation Global)) (i : ℕ) (x : Box Equation Global) → i < length items → x ≡ get_or items i x → slice_get (map kept_equation_of items) i ≡ Some (kept_equation_of x)
element_here [] i x h e = absurd (omega arith)
element_here (y ∷ items) zero x h e = ap (λ z. Some (kept_equation_of z)) (sym e)
element_here (y ∷ items) (suc i) x h e = element_here items i x (omega arith) e

-- the postponed equation at a place
pub equation_at : (items : List (Box Equation Global)) (es : List unifiers.Equation) (i : ℕ) (x : Box Equation Global) → map kept_equation_of items ≡ es → i < length es → x ≡ get_or items i x → slice_get es i ≡ Some (kept_equation_of x)
equation_at items es i x is h e = subst (λ ds. slice_get ds i ≡ Some (kept_equation_of x)) is (element_here items i x (place_within items es i is h) e)
