-- Typing judgements that hold, and such that don't, by computation.
use Rattle.std.proofs.Common.{[], ◌∷◌, refl}
use Rattle.lf.specs.Syntax.{constant, variable, metavariable, lambda, root, nil, pi, atom}
use Rattle.lf.specs.Typing.{HasType, IsType}
use Rattle.lf.proofs.Checker.{check_sound, check_type_sound, refused, type_refused}
use Rattle.lf.proofs.ExampleSignature.{Σ₀, v, c, nat, vec, exp, z, s, vnil, vcons, ap, lam, same, one_argument, two_arguments}

-- s (s z) : nat
pub two : HasType Σ₀ [] (s (s z)) nat
two = check_sound Σ₀ [] (s (s z)) nat refl

-- vcons z (s z) vnil : vec (s z), where the first argument is the implicit length
pub one_long : HasType Σ₀ [] (vcons z (s z) vnil) (vec (s z))
one_long = check_sound Σ₀ [] (vcons z (s z) vnil) (vec (s z)) refl

-- vcons (s z) z (vcons z z vnil) : vec (s (s z))
pub two_long : HasType Σ₀ [] (vcons (s z) z (vcons z z vnil)) (vec (s (s z)))
two_long = check_sound Σ₀ [] (vcons (s z) z (vcons z z vnil)) (vec (s (s z))) refl

-- [n] [x] vcons n z x : {n:nat} vec n -> vec (s n)
pub longer : HasType Σ₀ [] (lambda (lambda (vcons (v 1) z (v 0)))) (pi nat (pi (vec (v 0)) (vec (s (v 1)))))
longer = check_sound Σ₀ [] (lambda (lambda (vcons (v 1) z (v 0)))) (pi nat (pi (vec (v 0)) (vec (s (v 1))))) refl

-- in the context n:nat, x:vec n : x : vec n, with the type moved over x
pub newest : HasType Σ₀ (vec (v 0) ∷ nat ∷ []) (v 0) (vec (v 1))
newest = check_sound Σ₀ (vec (v 0) ∷ nat ∷ []) (v 0) (vec (v 1)) refl

-- lam [x] x : exp
pub identity : HasType Σ₀ [] (lam (v 0)) exp
identity = check_sound Σ₀ [] (lam (v 0)) exp refl

-- lam [x] lam [y] ap x y : exp
pub nested : HasType Σ₀ [] (lam (lam (ap (v 1) (v 0)))) exp
nested = check_sound Σ₀ [] (lam (lam (ap (v 1) (v 0)))) exp refl

-- in the context f:exp -> exp : lam [x] f x : exp
pub function_variable : HasType Σ₀ (pi exp exp ∷ []) (lam (root (variable 1) (one_argument (v 0)))) exp
function_variable = check_sound Σ₀ (pi exp exp ∷ []) (lam (root (variable 1) (one_argument (v 0)))) exp refl

-- iter [f] f (f z) : nat, an argument of third order
pub third_order : HasType Σ₀ [] (root (constant 12) (one_argument (lambda (root (variable 0) (one_argument (root (variable 0) (one_argument z))))))) nat
third_order = check_sound Σ₀ [] (root (constant 12) (one_argument (lambda (root (variable 0) (one_argument (root (variable 0) (one_argument z))))))) nat refl

-- in the context g:(nat -> nat) -> nat : g [x] s x : nat
pub lambda_as_argument : HasType Σ₀ (pi (pi nat nat) nat ∷ []) (root (variable 0) (one_argument (lambda (s (v 0))))) nat
lambda_as_argument = check_sound Σ₀ (pi (pi nat nat) nat ∷ []) (root (variable 0) (one_argument (lambda (s (v 0))))) nat refl

-- itself z vnil : same z vnil vnil
pub dependent_twice : HasType Σ₀ [] (root (constant 11) (two_arguments z vnil)) (same z vnil vnil)
dependent_twice = check_sound Σ₀ [] (root (constant 11) (two_arguments z vnil)) (same z vnil vnil) refl

-- in the context n:nat, f:{m:nat} vec m : f n : vec n
pub dependent_variable : HasType Σ₀ (pi nat (vec (v 0)) ∷ nat ∷ []) (root (variable 0) (one_argument (v 1))) (vec (v 1))
dependent_variable = check_sound Σ₀ (pi nat (vec (v 0)) ∷ nat ∷ []) (root (variable 0) (one_argument (v 1))) (vec (v 1)) refl

-- in the context P:nat -> nat, f:{x:nat} vec (P x) : f z : vec (P z)
pub index_of_the_argument : HasType Σ₀ (pi nat (vec (root (variable 1) (one_argument (v 0)))) ∷ pi nat nat ∷ []) (root (variable 0) (one_argument z)) (vec (root (variable 1) (one_argument z)))
index_of_the_argument = check_sound Σ₀ (pi nat (vec (root (variable 1) (one_argument (v 0)))) ∷ pi nat nat ∷ []) (root (variable 0) (one_argument z)) (vec (root (variable 1) (one_argument z))) refl

-- in the context f:{g:nat -> nat} vec (g z) : f [x] s x : vec (s z), a redex reduced in the type
pub reduced_index : HasType Σ₀ (pi (pi nat nat) (vec (root (variable 0) (one_argument z))) ∷ []) (root (variable 0) (one_argument (lambda (s (v 0))))) (vec (s z))
reduced_index = check_sound Σ₀ (pi (pi nat nat) (vec (root (variable 0) (one_argument z))) ∷ []) (root (variable 0) (one_argument (lambda (s (v 0))))) (vec (s z)) refl

-- {n:nat} {x:vec n} same n x x is a type
pub dependent_type : IsType Σ₀ [] (pi nat (pi (vec (v 0)) (same (v 1) (v 0) (v 0))))
dependent_type = check_type_sound Σ₀ [] (pi nat (pi (vec (v 0)) (same (v 1) (v 0) (v 0)))) refl

-- What is refused.

-- a wrong index: vnil : vec (s z)
pub wrong_index : HasType Σ₀ [] vnil (vec (s z)) → ⊥
wrong_index = refused Σ₀ [] vnil (vec (s z)) refl

-- a wrong index inside: vcons (s z) z vnil : vec (s (s z)), where vnil is no vec (s z)
pub wrong_inner_index : HasType Σ₀ [] (vcons (s z) z vnil) (vec (s (s z))) → ⊥
wrong_inner_index = refused Σ₀ [] (vcons (s z) z vnil) (vec (s (s z))) refl

-- a wrong family: z : exp
pub wrong_family : HasType Σ₀ [] z exp → ⊥
wrong_family = refused Σ₀ [] z exp refl

-- too few arguments: vcons z z : vec (s z)
pub too_few : HasType Σ₀ [] (root (constant 6) (two_arguments z z)) (vec (s z)) → ⊥
too_few = refused Σ₀ [] (root (constant 6) (two_arguments z z)) (vec (s z)) refl

-- too many arguments: s z z : nat
pub too_many : HasType Σ₀ [] (root (constant 4) (two_arguments z z)) nat → ⊥
too_many = refused Σ₀ [] (root (constant 4) (two_arguments z z)) nat refl

-- eta-short: s : nat -> nat
pub eta_short : HasType Σ₀ [] (c 4) (pi nat nat) → ⊥
eta_short = refused Σ₀ [] (c 4) (pi nat nat) refl

-- eta-short as an argument: in the context f:exp -> exp, lam f : exp
pub eta_short_argument : HasType Σ₀ (pi exp exp ∷ []) (root (constant 8) (one_argument (v 0))) exp → ⊥
eta_short_argument = refused Σ₀ (pi exp exp ∷ []) (root (constant 8) (one_argument (v 0))) exp refl

-- a head that is not declared
pub unknown_head : HasType Σ₀ [] (c 13) nat → ⊥
unknown_head = refused Σ₀ [] (c 13) nat refl

-- a family as the head of a term
pub family_as_head : HasType Σ₀ [] (c 0) nat → ⊥
family_as_head = refused Σ₀ [] (c 0) nat refl

-- a variable one binder off: [n] [x] vcons n z n : {n:nat} vec n -> vec (s n)
pub one_binder_off : HasType Σ₀ [] (lambda (lambda (vcons (v 1) z (v 1)))) (pi nat (pi (vec (v 0)) (vec (s (v 1))))) → ⊥
one_binder_off = refused Σ₀ [] (lambda (lambda (vcons (v 1) z (v 1)))) (pi nat (pi (vec (v 0)) (vec (s (v 1))))) refl

-- a type that was not moved over the variable: in the context n:nat, x:vec n : x : vec x
pub type_not_moved : HasType Σ₀ (vec (v 0) ∷ nat ∷ []) (v 0) (vec (v 0)) → ⊥
type_not_moved = refused Σ₀ (vec (v 0) ∷ nat ∷ []) (v 0) (vec (v 0)) refl

-- a variable outside the context
pub no_such_variable : HasType Σ₀ (nat ∷ []) (v 1) nat → ⊥
no_such_variable = refused Σ₀ (nat ∷ []) (v 1) nat refl

-- a definition as the head
pub definition_as_head : HasType Σ₀ [] (c 9) nat → ⊥
definition_as_head = refused Σ₀ [] (c 9) nat refl

-- a metavariable as the head
pub metavariable_as_head : HasType Σ₀ [] (root (metavariable 0) nil) nat → ⊥
metavariable_as_head = refused Σ₀ [] (root (metavariable 0) nil) nat refl

-- a lambda at a base type
pub lambda_at_base : HasType Σ₀ [] (lambda (v 0)) nat → ⊥
lambda_at_base = refused Σ₀ [] (lambda (v 0)) nat refl

-- two lambdas at one quantifier
pub one_lambda_more : HasType Σ₀ [] (lambda (lambda (v 0))) (pi nat nat) → ⊥
one_lambda_more = refused Σ₀ [] (lambda (lambda (v 0))) (pi nat nat) refl

-- the type of the argument's family, not of its value: itself z vnil : same z vnil (vcons z z vnil)
pub not_the_same : HasType Σ₀ [] (root (constant 11) (two_arguments z vnil)) (same z vnil (vcons z z vnil)) → ⊥
not_the_same = refused Σ₀ [] (root (constant 11) (two_arguments z vnil)) (same z vnil (vcons z z vnil)) refl

-- a family without its argument: vec, nat z, same z vnil are no types
pub index_missing : IsType Σ₀ [] (atom 1 nil) → ⊥
index_missing = type_refused Σ₀ [] (atom 1 nil) refl

pub index_too_many : IsType Σ₀ [] (atom 0 (one_argument z)) → ⊥
index_too_many = type_refused Σ₀ [] (atom 0 (one_argument z)) refl

pub last_index_missing : IsType Σ₀ [] (atom 10 (two_arguments z vnil)) → ⊥
last_index_missing = type_refused Σ₀ [] (atom 10 (two_arguments z vnil)) refl

-- an index of a wrong length: same (s z) vnil vnil
pub index_of_wrong_type : IsType Σ₀ [] (same (s z) vnil vnil) → ⊥
index_of_wrong_type = type_refused Σ₀ [] (same (s z) vnil vnil) refl

-- a constant as a family
pub constant_as_family : IsType Σ₀ [] (atom 3 nil) → ⊥
constant_as_family = type_refused Σ₀ [] (atom 3 nil) refl
