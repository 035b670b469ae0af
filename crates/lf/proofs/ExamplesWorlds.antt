-- Contexts of worlds, and a set of families that is self-contained.
use Rattle.std.proofs.Common.{ℕ, zero, suc, List, [], ◌∷◌, Bool, true, false, refl, inl}
use Rattle.lf.specs.Syntax.{LfType}
use Rattle.lf.specs.Substitution.{keep}
use Rattle.lf.specs.Typing.{HasType, IsContext}
use Rattle.lf.specs.Variables.{everything, Values}
use Rattle.lf.specs.Subordination.{Block, IsTypedBlock}
use Rattle.lf.specs.Worlds.{World, no_variables, single_variable, whole_instance, begin_instance, next_entry}
use Rattle.lf.proofs.Worlds.{world_is_context}
use Rattle.lf.proofs.Checker.{check_sound, check_type_sound, type_refused}
use Rattle.lf.proofs.ExampleSignature.{Σ₀, v, nat, vec, exp, ap, lam}

-- the block x : exp, with the label l
abbrev B₀ : Block
B₀ = record { label = 108 ∷ []; some = []; entries = exp ∷ [] }

-- some {n:nat} block {x:vec n} {y:vec n} is typed
pub typed_block : IsTypedBlock Σ₀ (record { label = 108 ∷ []; some = nat ∷ []; entries = vec (v 1) ∷ vec (v 0) ∷ [] })
typed_block = (((tt, check_type_sound Σ₀ [] nat refl), check_type_sound Σ₀ (nat ∷ []) (vec (v 0)) refl), check_type_sound Σ₀ (vec (v 0) ∷ nat ∷ []) (vec (v 1)) refl)

-- block {x:vec n} {n:nat} isn't, though each of its entries is a type in some context
pub untyped_block : IsTypedBlock Σ₀ (record { label = 108 ∷ []; some = []; entries = nat ∷ vec (v 0) ∷ [] }) → ⊥
untyped_block ((w, t), u) = type_refused Σ₀ [] (vec (v 0)) refl t

-- the set of exp alone
abbrev S₀ : ℕ → Bool
S₀ zero = false
S₀ (suc zero) = false
S₀ (suc (suc zero)) = true
S₀ (suc (suc (suc a))) = false

no_values : (G : List LfType) → Values Σ₀ everything [] G keep
no_values G = record { typed = λ i A g u. absurd g; closed = λ i A g u. absurd g }

one_more : (G : List LfType) → World Σ₀ (B₀ ∷ []) S₀ G → World Σ₀ (B₀ ∷ []) S₀ (exp ∷ G)
one_more G w = whole_instance B₀ (inl refl) refl (next_entry exp (begin_instance w (no_values G)) (check_type_sound Σ₀ G exp refl))

-- two instances, and between them a variable of nat, which is not in the set
pub two_instances : World Σ₀ (B₀ ∷ []) S₀ (exp ∷ nat ∷ exp ∷ [])
two_instances = one_more (nat ∷ exp ∷ []) (single_variable (one_more [] no_variables) (check_type_sound Σ₀ (exp ∷ []) nat refl) refl)

pub a_context : IsContext Σ₀ (exp ∷ nat ∷ exp ∷ [])
a_context = world_is_context two_instances

-- lam [x] ap x y in it, where y is the oldest variable
pub in_the_world : HasType Σ₀ (exp ∷ nat ∷ exp ∷ []) (lam (ap (v 0) (v 3))) exp
in_the_world = check_sound Σ₀ (exp ∷ nat ∷ exp ∷ []) (lam (ap (v 0) (v 3))) exp refl
