-- Arguments that are made before a closure takes them.
use Rattle.std.proofs.Common.{◌≡◌, ℕ, ◌+◌, ◌<◌, List, [], ◌∷◌, ◌++◌, length, get_or, Option, Some, None, refl, sym, ap, ◌∙◌, subst, arith}
use Rattle.lf.specs.Syntax as lf
use Rattle.lf.specs.Syntax.{lambda, app, Skeleton, arrow}
use Rattle.lf_closures.specs.Environments as pure
use Rattle.lf_closures.specs.Environments.{applied_in}
use Rattle.lf_closures.specs.Typing.{ClosureApplies}
use Rattle.lf_closures.proofs.Steps.{Taken, argument_taken, made_argument_taken}
use Rattle.tw_terms.specs.View.{term_of}
use Rattle.tw_terms.specs.declared.canonical.Term.{Term}
use Rattle.tw_hered.specs.Made.{IsMade, AreMade, with_argument}

-- a lambda takes an argument as it is made, or else as a closure
pub either_taken : (t a b : Skeleton) (M N : lf.Term) (x : Term) (m : Option Term) (e e' : pure.Environment) (S T : lf.Spine) (c : pure.Environment) → t ≡ arrow a b → N ≡ lambda M → S ≡ app (term_of x) T → IsMade c m x → e' ≡ with_argument a (term_of x) m c e → ClosureApplies t N e S c → Taken b M e' T c (applied_in t N e S c)
either_taken t a b M N x (Some k) e e' S T c p q r is u f = made_argument_taken t a b M N (term_of x) (term_of k) e e' S T c p q r is u f
either_taken t a b M N x None e e' S T c p q r is u f = argument_taken t a b M N (term_of x) e e' S T c p q r u f

pub none_made : (e : pure.Environment) (ts : List Term) → AreMade e [] ts
none_made e [] = tt
none_made e (t ∷ ts) = (tt, none_made e ts)

-- one more is made
made-push : (e : pure.Environment) (ms : List (Option Term)) (m : Option Term) (ts : List Term) (d : Term) → length ms < length ts → IsMade e m (get_or ts (length ms) d) → AreMade e ms ts → AreMade e (ms ++ m ∷ []) ts
made-push e ms m [] d l is h = tt
made-push e [] m (t ∷ ts) d l is h = (is, none_made e ts)
made-push e (x ∷ ms) m (t ∷ ts) d l is h = (h.0, made-push e ms m ts d (omega arith) is h.1)

pub made-push-by : (e : pure.Environment) (ms ns : List (Option Term)) (m : Option Term) (ts : List Term) (i : ℕ) (x : Term) → ns ≡ ms ++ m ∷ [] → length ms ≡ i → i < length ts → x ≡ get_or ts i x → IsMade e m x → AreMade e ms ts → AreMade e ns ts
made-push-by e ms ns m ts i x p q l is made h =
    let k : length ms < length ts = omega (arith, q, l) in
    let y : x ≡ get_or ts (length ms) x = subst (λ j. x ≡ get_or ts j x) (sym q) is in
    subst (λ z. AreMade e z ts) (sym p) (made-push e ms m ts x k (subst (IsMade e m) y made) h)

length-push : (ms : List (Option Term)) (m : Option Term) → length (ms ++ m ∷ []) ≡ length ms + 1
length-push [] m = refl
length-push (x ∷ ms) m = let r = length-push ms m in omega (arith, r)

pub made-count : (ms ns : List (Option Term)) (m : Option Term) (i : ℕ) → ns ≡ ms ++ m ∷ [] → length ms ≡ i → length ns ≡ i + 1
made-count ms ns m i p q = let r : length ns ≡ length ms + 1 = ap length p ∙ length-push ms m in omega (arith, q, r)
