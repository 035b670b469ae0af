-- The arguments of a spine, one by one.
use Rattle.std.proofs.Common.{◌≡◌, ℕ, zero, suc, ◌<◌, ◌≤◌, List, [], ◌∷◌, ◌++◌, map, length, get_or, Result, Ok, Err, IsErrOf, refl, sym, ap, subst, arith}
use Rattle.std.proofs.lemmas.Grind.{common_steps}
use Rattle.lf.specs.Syntax.{Spine, app, rename, rename_spine}
use Rattle.lf.specs.Depth.{depth, spine_depth}
use Rattle.lf.proofs.Depth.{deep_first, deep_rest}
use Rattle.lf_closures.specs.Environments.{Environment}
use Rattle.tw_metas.specs.State.{State}
use Rattle.tw_terms.specs.View.{spine_from}
use Rattle.tw_terms.specs.OpenView.{open_term_of, open_args_of}
use Rattle.tw_terms.specs.declared.open_terms.Open.{Open}
use Rattle.tw_putting.specs.Frames.{WalkFits, WalkSpineFits}
use Rattle.tw_putting.specs.Values.{put_value, put_spine_value}
use Rattle.tw_putting.proofs.Frames.{first_walk, rest_walk}

argument_walk : (s : State) (k : ℕ) (e : Environment) (ts : List Open) (i : ℕ) (d : Open) → i < length ts → WalkSpineFits s k e (open_args_of ts) → WalkFits s k e (open_term_of (get_or ts i d))
argument_walk s k e [] i d h f = absurd (omega arith)
argument_walk s k e (t ∷ ts) zero d h f = first_walk s k e (open_term_of t) (open_args_of ts) f
argument_walk s k e (t ∷ ts) (suc i) d h f = argument_walk s k e ts i d (omega arith) (rest_walk s k e (open_term_of t) (open_args_of ts) f)

pub argument_walk_by : (s : State) (k : ℕ) (e : Environment) (S : Spine) (ts : List Open) (i : ℕ) (x : Open) → S ≡ open_args_of ts → x ≡ get_or ts i x → i < length ts → WalkSpineFits s k e S → WalkFits s k e (open_term_of x)
argument_walk_by s k e S ts i x p q h f = subst (λ y. WalkFits s k e (open_term_of y)) (sym q) (argument_walk s k e ts i x h (subst (WalkSpineFits s k e) p f))

pub arguments_put : (s : State) (k : ℕ) (e : Environment) (ts : List Open) → put_spine_value s k e (open_args_of ts) ≡ spine_from (map (λ t. put_value s k e (open_term_of t)) ts)
unfolding put_value put_spine_value
arguments_put s k e [] = refl
arguments_put s k e (t ∷ ts) = ap (app (put_value s k e (open_term_of t))) (arguments_put s k e ts)

first_put : (s : State) (k : ℕ) (e : Environment) (t : Open) (ts : List Open) → put_spine_value s k e (open_args_of (t ∷ ts)) ≡ app (put_value s k e (open_term_of t)) (put_spine_value s k e (open_args_of ts))
unfolding put_value put_spine_value
first_put s k e t ts = refl

-- no argument's value is deeper than that of the spine
argument_deep : (s : State) (k : ℕ) (e : Environment) (ts : List Open) (i l : ℕ) (d : Open) → i < length ts → l < depth (put_value s k e (open_term_of (get_or ts i d))) → l < spine_depth (put_spine_value s k e (open_args_of ts))
argument_deep s k e [] i l d h x = absurd (omega arith)
argument_deep s k e (t ∷ ts) zero l d h x = subst (λ X. l < spine_depth X) (sym (first_put s k e t ts)) (deep_first l (put_value s k e (open_term_of t)) (put_spine_value s k e (open_args_of ts)) x)
argument_deep s k e (t ∷ ts) (suc i) l d h x = subst (λ X. l < spine_depth X) (sym (first_put s k e t ts)) (deep_rest l (put_value s k e (open_term_of t)) (put_spine_value s k e (open_args_of ts)) (argument_deep s k e ts i l d (omega arith) x))

pub argument_deep_by : (s : State) (k : ℕ) (e : Environment) (S : Spine) (ts : List Open) (i l : ℕ) (x : Open) → S ≡ open_args_of ts → x ≡ get_or ts i x → i < length ts → l < depth (put_value s k e (open_term_of x)) → l < spine_depth (put_spine_value s k e S)
argument_deep_by s k e S ts i l x p q h y = subst (λ X. l < spine_depth (put_spine_value s k e X)) (sym p) (argument_deep s k e ts i l x h (subst (λ z. l < depth (put_value s k e (open_term_of z))) q y))

pub shallow-push : (ts : List Open) (t : Open) (n : ℕ) → spine_depth (open_args_of ts) ≤ n → depth (open_term_of t) ≤ n → spine_depth (open_args_of (ts ++ t ∷ [])) ≤ n
shallow-push [] t n h k = grind (arith, common_steps)
shallow-push (u ∷ ts) t n h k =
    let a : depth (open_term_of u) ≤ n = grind (arith, common_steps) in
    let b : spine_depth (open_args_of ts) ≤ n = grind (arith, common_steps) in
    let r : spine_depth (open_args_of (ts ++ t ∷ [])) ≤ n = shallow-push ts t n b k in
    grind (arith, common_steps, a, r)

-- the renamings of the arguments of a spine
pub arguments_renamed : (ρ : ℕ → ℕ) (ts : List Open) → rename_spine ρ (open_args_of ts) ≡ spine_from (map (λ t. rename ρ (open_term_of t)) ts)
arguments_renamed ρ [] = refl
arguments_renamed ρ (t ∷ ts) = ap (app (rename ρ (open_term_of t))) (arguments_renamed ρ ts)

-- the fault of one result is the fault of another that has it
abbrev fault_or : {T E : Type 0} → E → Result T E → E
fault_or d (Ok x) = d
fault_or d (Err e) = e

pub same_fault : {T U E : Type 0} (x y : E) → IsErrOf {T = T} (Err x) y → IsErrOf {T = U} (Err x) y
same_fault x y h = ap Err (ap (fault_or y) h)

pub ruleset arguments = (shallow-push, arguments_put)
