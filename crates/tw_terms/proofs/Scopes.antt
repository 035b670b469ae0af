-- The first types of a row, as a context.
use Rattle.std.proofs.Common.{◌≡◌, sym, ◌∙◌, ap, ℕ, zero, suc, ◌-◌, ◌<◌, ◌≤◌, arith, List, [], ◌∷◌, drop, get_or, length, reverse, take, take-suc}
use Rattle.std.proofs.lemmas.List.{map-append, reverse-append, take-map}
use Rattle.lf.specs.Syntax.{LfType, atom, nil}
use Rattle.tw_terms.proofs.OpenArgs.{open_types}

-- the innermost of one more is the last one of these
pub reverse-take-suc : (As : List LfType) (n : ℕ) → n < length As → reverse (take (suc n) As) ≡ get_or As n (atom 0 nil) ∷ reverse (take n As)
reverse-take-suc As n p = ap reverse (take-suc As n (atom 0 nil) p) ∙ reverse-append (take n As) (get_or As n (atom 0 nil) ∷ [])

pub one_fewer : (As : List LfType) (n : ℕ) → zero < n → n ≤ length As → reverse (take (n - 1) As) ≡ drop 1 (reverse (take n As))
one_fewer As zero p q = elim p [ ]
one_fewer As (suc n) p q = let e : suc n - 1 ≡ n = omega arith in rw e (ap (drop 1) (sym (reverse-take-suc As n q)))

-- for functions over contexts that share rows of types
pub ruleset rows = (open_types, map-append, take-map, one_fewer)
