-- Where no part may nest nothing fits.
use Rattle.std.proofs.Common.{ℕ, zero, suc, ◌<◌, ◌≤◌, arith}
use Rattle.lf_elaboration.specs.Written.{Written, WrittenType, applied, arrow, ascribed, bound, declared, family, family_applied, family_ascribed, free, function, hole, quantified, type_hole}
use Rattle.tw_elaborate.specs.Nesting.{term_nesting, type_nesting}

term_nests : (M : Written) → 0 < term_nesting M
term_nests (free i at) = omega arith
term_nests (bound i) = omega arith
term_nests (declared c at) = omega arith
term_nests (hole t at) = omega arith
term_nests (function d M) = omega arith
term_nests (applied M P) = omega arith
term_nests (ascribed M U) = omega arith

type_nests : (U : WrittenType) → 0 < type_nesting U
type_nests (type_hole t at) = omega arith
type_nests (arrow U V) = omega arith
type_nests (quantified d V) = omega arith
type_nests (family a at) = omega arith
type_nests (family_applied U P) = omega arith
type_nests (family_ascribed U k) = omega arith

none_below : (l n : ℕ) → (1 ≤ l → ⊥) → 0 < n → l < n
none_below zero n e p = p
none_below (suc l) n e p = absurd (e (omega arith))

pub no_term_within : (l : ℕ) (M : Written) → (1 ≤ l → ⊥) → l < term_nesting M
no_term_within l M e = none_below l (term_nesting M) e (term_nests M)

pub no_type_within : (l : ℕ) (U : WrittenType) → (1 ≤ l → ⊥) → l < type_nesting U
no_type_within l U e = none_below l (type_nesting U) e (type_nests U)
