-- Arguments whose canonical forms are made before a closure takes them.
use Rattle.std.specs.Prelude.{◌≡◌, ℕ, zero, suc, List, [], ◌∷◌, Option, Some, None, Bool, true, false}
use Rattle.lf.specs.Syntax as lf
use Rattle.lf_closures.specs.Environments as pure
use Rattle.lf_closures.specs.Environments.{value_in, found, stays, closure}
use Rattle.tw_terms.specs.View.{term_of}
use Rattle.tw_terms.specs.declared.canonical.Term.{Term}

-- what is made of an argument is its canonical form in e
abbrev pub IsMade : pure.Environment → Option Term → Term → Type 0
IsMade e (Some m) t = term_of m ≡ value_in e (term_of t)
IsMade e None t = Unit {0}

-- past the end of the list none is made
abbrev pub first_made : List (Option Term) → Option Term
first_made [] = None
first_made (m ∷ ms) = m

abbrev pub rest_made : List (Option Term) → List (Option Term)
rest_made [] = []
rest_made (m ∷ ms) = ms

-- so is each
abbrev pub AreMade : pure.Environment → List (Option Term) → List Term → Type 0
AreMade e ms [] = Unit {0}
AreMade e ms (t ∷ ts) = IsMade e (first_made ms) t × AreMade e (rest_made ms) ts

-- an environment with an argument in front: as it is made, or else in c
abbrev pub with_argument : lf.Skeleton → lf.Term → Option Term → pure.Environment → pure.Environment → pure.Environment
with_argument a N (Some m) c e = pure.extended a (term_of m) pure.outside e
with_argument a N None c e = pure.extended a N c e

-- a closure was found, and no variable
abbrev pub is_closure : pure.Found → Bool
is_closure (stays i) = false
is_closure (closure a N c n) = true

-- Under n binders of a function the term applies what e has a closure for: [y] g (g y) does where g is one, [y] y doesn't, and g itself is no function.
abbrev pub applies_closure : pure.Environment → ℕ → lf.Term → Bool
applies_closure e n (lf.lambda M) = applies_closure e (suc n) M
applies_closure e n (lf.root (lf.constant c) S) = false
applies_closure e n (lf.root (lf.metavariable m) S) = false
applies_closure e zero (lf.root (lf.variable i) S) = false
applies_closure e (suc n) (lf.root (lf.variable i) S) = is_closure (found (pure.under (suc n) e) i)
