-- The clause `r : {F:nat -> nat} {y:nat} p (F y)` at the local variable x : nat, with the metavariables 5 and 6.
use Rattle.std.proofs.Common.{◌≡◌, ℕ, zero, [], ◌∷◌, refl}
use Rattle.lf.specs.Syntax.{LfType, Spine, Term, app, atom, metavariable, nil, pi, root, variable}
use Rattle.lf.specs.Typing.{instantiate_type}
use Rattle.lf_search.specs.AppliedHeads.{taken_heads, type_with_applied, under_applied}
use Rattle.lf_search.specs.Goals.{type_with_heads}
use Rattle.lf_unification.specs.Offering.{raised}
use Rattle.lf.specs.Syntax.{Head}

abbrev nat : LfType
nat = atom 0 nil

abbrev x : Term
x = root (variable 0) nil

-- the variable i on one argument, and a metavariable on x and one more
abbrev on : ℕ → Term → Term
on i M = root (variable i) (app M nil)

abbrev on_x : ℕ → Spine → Term
on_x m S = root (metavariable m) (app x S)

abbrev p : Term → LfType
p M = atom 1 (app M nil)

-- what is left under both quantifiers, and under the first alone
abbrev target : LfType
target = p (on 1 (root (variable 0) nil))

abbrev rest : LfType
rest = pi nat target

-- both at once
pub both_at_once : type_with_applied (taken_heads (app x nil) (5 ∷ 6 ∷ [])) target ≡ p (on_x 5 (app (on_x 6 nil) nil))
unfolding taken_heads
both_at_once = refl

-- the first alone, where y is bound: it is moved over y
pub first_alone : type_with_applied (taken_heads (app x nil) (5 ∷ [])) rest ≡ pi nat (p (root (metavariable 5) (app (root (variable 1) nil) (app (root (variable 0) nil) nil))))
unfolding taken_heads
first_alone = refl

-- one after the other gives the same
pub one_after_the_other : instantiate_type nat (raised (nat ∷ []) nat 6) (type_with_applied (under_applied (taken_heads (app x nil) (5 ∷ []))) target) ≡ p (on_x 5 (app (on_x 6 nil) nil))
unfolding taken_heads
one_after_the_other = refl

-- the first is its eta-long form put in
pub first_is_put_in : instantiate_type (pi nat nat) (raised (nat ∷ []) (pi nat nat) 5) rest ≡ type_with_applied (taken_heads (app x nil) (5 ∷ [])) rest
unfolding taken_heads
first_is_put_in = refl

-- a head without the local variable is another type
abbrev bare_metavariable : ℕ → Head
bare_metavariable zero = metavariable 6
bare_metavariable i = metavariable 5

pub local_variable_is_wanted : type_with_heads bare_metavariable target ≡ type_with_applied (taken_heads (app x nil) (5 ∷ 6 ∷ [])) target → ⊥
unfolding taken_heads
local_variable_is_wanted e = cc

-- and so is one with the metavariables the other way round
pub order_matters : type_with_applied (taken_heads (app x nil) (5 ∷ 6 ∷ [])) target ≡ p (on_x 6 (app (on_x 5 nil) nil)) → ⊥
unfolding taken_heads
order_matters e = cc
