-- Eta-long forms of variables and constants.
use Rattle.std.specs.Prelude.{ℕ, zero, suc}
use Rattle.lf.specs.Syntax.{Head, variable, Term, Spine, lambda, root, nil, app, Skeleton, base, arrow, rename_head, rename_spine}

-- one more argument at the end
abbrev pub add_last : Spine → Term → Spine
add_last nil N = app N nil
add_last (app M S) N = app M (add_last S N)

-- the head applied to the spine, made eta-long at a skeleton
abbrev pub eta_expand : Skeleton → Head → Spine → Term
eta_expand (base c) h S = root h S
eta_expand (arrow a b) h S = lambda (eta_expand b (rename_head suc h) (add_last (rename_spine suc S) (eta_expand a (variable zero) nil)))

-- the eta-long form of a head at its skeleton
abbrev pub eta_long : Skeleton → Head → Term
eta_long a h = eta_expand a h nil

-- the arguments of both, in order
abbrev pub append : Spine → Spine → Spine
append nil T = T
append (app M S) T = app M (append S T)

-- how many arguments a skeleton takes
abbrev pub arity : Skeleton → ℕ
arity (base c) = zero
arity (arrow a b) = suc (arity b)

-- n lambdas over a term
abbrev pub lambdas : ℕ → Term → Term
lambdas zero M = M
lambdas (suc n) M = lambda (lambdas n M)

-- the variables bound by the leading lambdas of an eta-long form, each eta-long, the outermost first
abbrev pub eta_arguments : Skeleton → Spine
eta_arguments (base c) = nil
eta_arguments (arrow a b) = app (eta_long a (variable (arity b))) (eta_arguments b)
