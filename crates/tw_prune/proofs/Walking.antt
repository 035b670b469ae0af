-- The rulesets of the walks, and what holds of the arguments that a loop has passed.
use Rattle.std.proofs.Common.{◌≡◌, ◌⊎◌, inl, inr, ℕ, ◌+◌, ◌-◌, ◌<◌, List, [], ◌∷◌, ◌++◌, length, get_or, drop, Option, Some, None, refl, sym, ap, ap₂, ◌∙◌, arith, add-one, drop-cons}
use Rattle.std.specs.Prelude.{option_map, true, false, nat_eq, if◌then◌else◌}
use Rattle.std.proofs.lemmas.Bool.Decides.{eqb_tells}
use Rattle.lf.specs.Eta.{append, arity, eta_arguments, lambdas}
use Rattle.lf.specs.Syntax.{LfType, Skeleton, Spine, Term, app, arrow, base, lambda, nil, pi, root, skeleton, variable}
use Rattle.lf.proofs.AtOnce.{eta_at_once}
use Rattle.tw_terms.specs.OpenView.{open_args_of, open_term_of}
use Rattle.std.proofs.Common.{Global, Vec}
use Rattle.tw_terms.proofs.OpenViews.{open_head_of-Var, open_spine_of-roll, open_term_of-Root}
use Rattle.tw_terms.specs.declared.open_terms.Open.{Open, Root}
use Rattle.tw_terms.specs.declared.open_terms.OpenHead.TheVariants.{Var}
use Rattle.tw_terms.specs.declared.open_terms.OpenSpine.{roll-OpenSpine}
use Rattle.tw_terms.proofs.OpenArgs.{open_types}
use Rattle.lf_unification.specs.Patterns.{eta_variable, lambdas_of}
use Rattle.tw_prune.specs.Kept.{kept_arguments}
use Rattle.tw_prune.specs.Walks.{Table, both, unrenamed}

pub ruleset walks = (open_types)

-- what is still to come, from the next argument on
pub rest_is : (ts : List Open) (i : ℕ) (x : Open) → i < length ts → x ≡ get_or ts i x → open_args_of (drop i ts) ≡ app (open_term_of x) (open_args_of (drop (i + 1) ts))
rest_is ts i x h e = ap open_args_of (drop-cons ts i x h) ∙ ap₂ (λ y n. app (open_term_of y) (open_args_of (drop n ts))) (sym e) (sym (add-one i))

pub append-push : (ts : List Open) (t : Open) (R : Spine) → append (open_args_of (ts ++ t ∷ [])) R ≡ append (open_args_of ts) (app (open_term_of t) R)
append-push [] t R = refl
append-push (u ∷ ts) t R = ap (app (open_term_of u)) (append-push ts t R)

pub append-nil : (S : Spine) → append S nil ≡ S
append-nil nil = refl
append-nil (app M S) = ap (app M) (append-nil S)

-- one more argument that is taken back
pub next_taken_back : (T : Table) (k : ℕ) (acc : List Open) (y : Open) (M : Term) (rest : Option Spine) → Some (open_term_of y) ≡ unrenamed T k M → option_map (append (open_args_of acc)) (both app (unrenamed T k M) rest) ≡ option_map (append (open_args_of (acc ++ y ∷ []))) rest
next_taken_back T k acc y M None e = ap (λ o. option_map (append (open_args_of acc)) (both app o None)) (sym e)
next_taken_back T k acc y M (Some R) e = ap (λ o. option_map (append (open_args_of acc)) (both app o (Some R))) (sym e) ∙ ap Some (sym (append-push acc y R))

pub root_of : (v : ℕ) (args : Vec Open Global) → open_term_of (Root (Var v) (roll-OpenSpine (record { args = args }))) ≡ root (variable v) (open_args_of args.items)
root_of v args = open_term_of-Root (Var v) (roll-OpenSpine (record { args = args })) ∙ ap₂ root (open_head_of-Var v) (open_spine_of-roll args)

-- lambdas over a body
pub lambda_in : (t : Skeleton) (M : Term) → lambda (lambdas_of t M) ≡ lambdas_of t (lambda M)
lambda_in (base c) M = refl
lambda_in (arrow a b) M = ap lambda (lambda_in b M)

lambdas_are : (t : Skeleton) (M : Term) → lambdas_of t M ≡ lambdas (arity t) M
lambdas_are (base c) M = refl
lambdas_are (arrow a b) M = ap lambda (lambdas_are b M)

-- the eta-long form, by its parts
pub eta_parts : (a : Skeleton) (x n : ℕ) (S : Spine) (M : Term) → n ≡ arity a → S ≡ eta_arguments a → M ≡ root (variable (x + n)) S → lambdas_of a M ≡ eta_variable a x
eta_parts a x n S M e f g =
    ap (lambdas_of a) (g ∙ ap₂ (λ i R. root (variable (x + i)) R) e f) ∙ lambdas_are a (root (variable (x + arity a)) (eta_arguments a)) ∙ sym (eta_at_once a (variable x))

-- one more eta-long variable
pub next_newest : (a b : Skeleton) (n : ℕ) (ts : List Open) (t : Open) (us : List Open) → n ≡ arity (arrow a b) → open_term_of t ≡ eta_variable a (n - 1) → open_args_of us ≡ append (open_args_of (ts ++ t ∷ [])) (eta_arguments b) → open_args_of us ≡ append (open_args_of ts) (eta_arguments (arrow a b))
next_newest a b n ts t us e f g =
    let q : n - 1 ≡ arity b = omega (arith, e) in
    g ∙ append-push ts t (eta_arguments b) ∙ ap (λ M. append (open_args_of ts) (app M (eta_arguments b))) (f ∙ ap (eta_variable a) q)

pub next_kept : (A B : LfType) (n place : ℕ) (ts : List Open) (t : Open) (us : List Open) → n ≡ arity (skeleton (pi A B)) → (place ≡ 0 → ⊥) → open_term_of t ≡ eta_variable (skeleton A) (n - 1) → open_args_of us ≡ append (open_args_of (ts ++ t ∷ [])) (kept_arguments (place - 1) B) → open_args_of us ≡ append (open_args_of ts) (kept_arguments place (pi A B))
next_kept A B n place ts t us e p f g =
    let q : n - 1 ≡ arity (skeleton B) = omega (arith, e) in
    g ∙ append-push ts t (kept_arguments (place - 1) B) ∙ ap (λ M. append (open_args_of ts) (app M (kept_arguments (place - 1) B))) (f ∙ ap (eta_variable (skeleton A)) q)
    ∙ ap (λ b. append (open_args_of ts) (if b then eta_arguments (skeleton B) else app (eta_variable (skeleton A) (arity (skeleton B))) (kept_arguments (place - 1) B))) (sym (go (eqb_tells place 0)))
  where
    go : ((nat_eq place 0 ≡ true) × (place ≡ 0)) ⊎ ((nat_eq place 0 ≡ false) × (place ≡ 0 → ⊥)) → nat_eq place 0 ≡ false
    go (inl (h, z)) = absurd (p z)
    go (inr (h, z)) = h

-- for functions that make arguments
pub ruleset expanding = (open_types, append-push, append-nil, lambda_in)
