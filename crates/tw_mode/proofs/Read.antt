-- What stands outside a clause that is read off a constant or an entry.
use Rattle.std.proofs.Common.{◌≡◌, ℕ, zero, suc, ◌-◌, List, [], ◌∷◌, Bool, true, false, Option, Some, None, length, refl, sym, ap, ◌∙◌, arith}
use Rattle.std.specs.Prelude.{cond, option_map}
use Rattle.lf.specs.Subordination.{Block}
use Rattle.lf.specs.Syntax.{LfType}
use Rattle.lf.specs.Variables.{nothing, same_number}
use Rattle.lf.proofs.Checker.{number_is}
use Rattle.lf_checks.specs.Clause.{Clause, among, entry_clause}
use Rattle.tw_clause.specs.Entries.{entry_clause_at}
use Rattle.tw_clause.specs.Patterns.{newest}
use Rattle.tw_clause.specs.View.{origin_of}
use Rattle.tw_clause.specs.declared.block.Origin.{Origin}
use Rattle.tw_mode.specs.Before.{ClausesAreRead, older_entries}
use mathlib.Core.Path.{fun_ext}

among_at : (es : List LfType) (i : ℕ) → among es i ≡ newest (length es) i
among_at [] i = refl
among_at (E ∷ es) zero = refl
among_at (E ∷ es) (suc i) = among_at es i

pub entry_fixed : (B : Block) (k : ℕ) (es : List LfType) (c : Clause) → entry_clause_at B k es ≡ Some c → c.fixed ≡ newest (k - 1)
entry_fixed B k [] c e = absurd cc
entry_fixed B k (E ∷ es) c e = by (same_number (suc (length es)) k) refl e (entry_fixed B k es c)
  where
    some_equal : Some (entry_clause B es E) ≡ Some c → entry_clause B es E ≡ c
    some_equal q = cc

    by : (b : Bool) → same_number (suc (length es)) k ≡ b → cond b (Some (entry_clause B es E)) (entry_clause_at B k es) ≡ Some c → (entry_clause_at B k es ≡ Some c → c.fixed ≡ newest (k - 1)) → c.fixed ≡ newest (k - 1)
    by true s q f =
        let n = number_is (suc (length es)) k s in
        let m : length es ≡ k - 1 = omega (arith, n) in
        sym (ap (λ x. x.fixed) (some_equal q)) ∙ fun_ext (among_at es) ∙ ap newest m
    by false s q f = f q

-- what is read off types and entries
older_of : (o : Option Origin) (B : Block) (k : ℕ) → option_map origin_of o ≡ Some (B, k) → k - 1 ≡ older_entries o
older_of None B k e = absurd cc
older_of (Some o) B k e = ap (λ n. n - 1) (sym (ap (λ p. p.1) (pair_equal (origin_of o) (B, k) e)))
  where
    pair_equal : (p q : Block × ℕ) → Some p ≡ Some q → p ≡ q
    pair_equal p q r = cc

pub clauses_read : ClausesAreRead
clauses_read d = (λ U o p. record { parts = sym p; fixed = nothing_newest ∙ ap (λ x. newest (older_entries x)) (sym o) }, λ B k c o e p. record { parts = sym p; fixed = entry_fixed B k B.entries c e ∙ ap newest (older_of d.origin B k o) })
  where
    nothing_newest : nothing ≡ newest 0
    nothing_newest = refl
