-- The arguments of a spine, one by one.
use Rattle.std.proofs.Common.{◌≡◌, ℕ, zero, suc, ◌<◌, ◌≤◌, List, [], ◌∷◌, ◌++◌, map, length, get_or, Result, Ok, Err, IsErrOf, refl, sym, ap, subst, arith}
use Rattle.std.proofs.lemmas.Grind.{common_steps}
use Rattle.lf.specs.Syntax.{Spine, app}
use Rattle.lf.specs.Depth.{depth, spine_depth}
use Rattle.lf.proofs.Depth.{deep_first, deep_rest}
use Rattle.lf_closures.specs.Environments.{Environment, value_in, spine_value_in}
use Rattle.lf_closures.specs.Typing.{ClosureFits, SpineClosureFits}
use Rattle.lf_closures.proofs.Steps.{first_fits, rest_fits}
use Rattle.tw_terms.specs.View.{term_of, args_of, spine_from}
use Rattle.tw_terms.specs.declared.canonical.Term.{Term}

argument_fits : (e : Environment) (ts : List Term) (i : ℕ) (d : Term) → i < length ts → SpineClosureFits e (args_of ts) → ClosureFits e (term_of (get_or ts i d))
argument_fits e [] i d h f = absurd (omega arith)
argument_fits e (t ∷ ts) zero d h f = first_fits e (term_of t) (args_of ts) f
argument_fits e (t ∷ ts) (suc i) d h f = argument_fits e ts i d (omega arith) (rest_fits e (term_of t) (args_of ts) f)

pub argument_fits_by : (e : Environment) (S : Spine) (ts : List Term) (i : ℕ) (x : Term) → S ≡ args_of ts → x ≡ get_or ts i x → i < length ts → SpineClosureFits e S → ClosureFits e (term_of x)
argument_fits_by e S ts i x p q h f = subst (λ y. ClosureFits e (term_of y)) (sym q) (argument_fits e ts i x h (subst (SpineClosureFits e) p f))

pub arguments_value : (e : Environment) (ts : List Term) → spine_value_in e (args_of ts) ≡ spine_from (map (λ t. value_in e (term_of t)) ts)
arguments_value e [] = refl
arguments_value e (t ∷ ts) = ap (app (value_in e (term_of t))) (arguments_value e ts)

-- no argument's value is deeper than that of the spine
argument_deep : (e : Environment) (ts : List Term) (i k : ℕ) (d : Term) → i < length ts → k < depth (value_in e (term_of (get_or ts i d))) → k < spine_depth (spine_value_in e (args_of ts))
argument_deep e [] i k d h l = absurd (omega arith)
argument_deep e (t ∷ ts) zero k d h l = deep_first k (value_in e (term_of t)) (spine_value_in e (args_of ts)) l
argument_deep e (t ∷ ts) (suc i) k d h l = deep_rest k (value_in e (term_of t)) (spine_value_in e (args_of ts)) (argument_deep e ts i k d (omega arith) l)

pub argument_deep_by : (e : Environment) (S : Spine) (ts : List Term) (i k : ℕ) (x : Term) → S ≡ args_of ts → x ≡ get_or ts i x → i < length ts → k < depth (value_in e (term_of x)) → k < spine_depth (spine_value_in e S)
argument_deep_by e S ts i k x p q h l = subst (λ X. k < spine_depth (spine_value_in e X)) (sym p) (argument_deep e ts i k x h (subst (λ y. k < depth (value_in e (term_of y))) q l))

pub shallow-push : (ts : List Term) (t : Term) (n : ℕ) → spine_depth (args_of ts) ≤ n → depth (term_of t) ≤ n → spine_depth (args_of (ts ++ t ∷ [])) ≤ n
shallow-push [] t n h k = grind (arith, common_steps)
shallow-push (u ∷ ts) t n h k =
    let a : depth (term_of u) ≤ n = grind (arith, common_steps) in
    let b : spine_depth (args_of ts) ≤ n = grind (arith, common_steps) in
    let r : spine_depth (args_of (ts ++ t ∷ [])) ≤ n = shallow-push ts t n b k in
    grind (arith, common_steps, a, r)

-- the fault of one result is the fault of another that has it
abbrev fault_or : {T E : Type 0} → E → Result T E → E
fault_or d (Ok x) = d
fault_or d (Err e) = e

pub same_fault : {T U E : Type 0} (x y : E) → IsErrOf {T = T} (Err x) y → IsErrOf {T = U} (Err x) y
same_fault x y h = ap Err (ap (fault_or y) h)

pub ruleset arguments = (shallow-push, arguments_value)
