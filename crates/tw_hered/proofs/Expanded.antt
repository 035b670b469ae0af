-- Eta-long forms as they are built.
use Rattle.std.proofs.Common.{◌≡◌, ℕ, ◌+◌, ◌-◌, ◌<◌, ◌≤◌, List, [], ◌∷◌, ◌++◌, refl, sym, ap, ap₂, ◌∙◌, subst, arith, add-one, Vec, Global}
use Rattle.lf.specs.Syntax.{Head, variable, Term, Spine, lambda, root, nil, app, Skeleton, arrow, rename_head}
use Rattle.lf.specs.AtOnce.{shift_by}
use Rattle.lf.specs.Depth.{depth, spine_depth}
use Rattle.lf.specs.Eta.{append, arity, lambdas, eta_long, eta_arguments}
use Rattle.lf.proofs.AtOnce.{eta_at_once}
use Rattle.lf.proofs.Depth.{eta_depth, deep_first}
use Rattle.tw_terms.specs.View.{head_of, term_of, args_of}
use Rattle.tw_terms.proofs.Views.{term_of-Root, spine_of-roll}
use Rattle.tw_terms.specs.declared.canonical.Head.{Head as ProgramHead}
use Rattle.tw_terms.specs.declared.canonical.Spine.{roll-Spine}
use Rattle.tw_terms.specs.declared.canonical.Term.{Term as ProgramTerm, Root}
use Rattle.tw_hered.proofs.Arguments.{arguments}
use Rattle.tw_hered.proofs.Environments.{environments}

pub append-push : (ts : List ProgramTerm) (t : ProgramTerm) (T : Spine) → append (args_of (ts ++ t ∷ [])) T ≡ append (args_of ts) (app (term_of t) T)
append-push [] t T = refl
append-push (u ∷ ts) t T = ap (app (term_of u)) (append-push ts t T)

pub append-nil : (S : Spine) → append S nil ≡ S
append-nil nil = refl
append-nil (app M S) = ap (app M) (append-nil S)

pub lambdas-one-more : (n : ℕ) (M : Term) → lambdas (n + 1) M ≡ lambda (lambdas n M)
lambdas-one-more n M = ap (λ k. lambdas k M) (add-one n)

pub root_of : (h : ProgramHead) (v : Vec ProgramTerm Global) → term_of (Root h (roll-Spine (record { args = v }))) ≡ root (head_of h) (args_of v.items)
root_of h v = term_of-Root h (roll-Spine (record { args = v })) ∙ ap (root (head_of h)) (spine_of-roll v)

pub expanded_form : (a : Skeleton) (h g : Head) (n : ℕ) (M : Term) (T : Spine) → n ≡ arity a → M ≡ root g T → g ≡ rename_head (shift_by n) h → T ≡ eta_arguments a → lambdas n M ≡ eta_long a h
expanded_form a h g n M T e q r s = ap (lambdas n) (q ∙ ap₂ root r s) ∙ ap (λ k. lambdas k (root (rename_head (shift_by k) h) (eta_arguments a))) e ∙ sym (eta_at_once a h)

-- the depth of an eta-long form, from its lambdas and its arguments
pub too_few_levels : (a : Skeleton) (h : Head) (n k : ℕ) → n ≡ arity a → k ≤ n → k < depth (eta_long a h)
too_few_levels a h n k e l = let d = eta_depth a h in omega (arith, d, e, l)

pub arguments_too_deep : (a : Skeleton) (h : Head) (n k : ℕ) → n ≡ arity a → n < k → k - n - 1 < spine_depth (eta_arguments a) → k < depth (eta_long a h)
arguments_too_deep a h n k e l m = let d = eta_depth a h in omega (arith, d, e, l, m)

pub shallow_form : (a : Skeleton) (h : Head) (n k : ℕ) (S : Spine) (R : Term) → n ≡ arity a → n < k → S ≡ eta_arguments a → spine_depth S ≤ k - n - 1 → R ≡ eta_long a h → depth R ≤ k
shallow_form a h n k S R e l q m r =
    let d = eta_depth a h in
    let s : spine_depth S ≡ spine_depth (eta_arguments a) = ap spine_depth q in
    let t : depth R ≡ depth (eta_long a h) = ap depth r in
    omega (arith, d, e, l, s, m, t)

-- an argument too deep
pub argument_too_deep : (r a b : Skeleton) (i n k m : ℕ) → r ≡ arrow a b → n ≡ arity r → i ≡ n - 1 → k < depth (eta_long a (variable i)) → spine_depth (eta_arguments r) ≤ m → k < m
argument_too_deep r a b i n k m p q u h l =
    let c : n ≡ arity (arrow a b) = q ∙ ap arity p in
    let j : i ≡ arity b = omega (arith, c, u) in
    let f : k < spine_depth (app (eta_long a (variable (arity b))) (eta_arguments b)) = deep_first k (eta_long a (variable (arity b))) (eta_arguments b) (subst (λ x. k < depth (eta_long a (variable x))) j h) in
    let g : k < spine_depth (eta_arguments r) = subst (λ x. k < spine_depth (eta_arguments x)) (sym p) f in
    omega (arith, g, l)

pub ruleset expanded = (environments, arguments, append-push, append-nil, lambdas-one-more)
