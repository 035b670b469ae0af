-- Sets of variables by their numbers.
use Rattle.std.proofs.Common.{◌≡◌, ℕ, zero, suc, ◌+◌, ◌<◌, ◌≤◌, List, [], ◌∷◌, Bool, true, false, length, refl, sym, ap, ◌∙◌, arith, true≢false}
use Rattle.lf.specs.Entries.{quantifiers}
use Rattle.lf.specs.Syntax.{LfType, pi, atom}
use Rattle.lf.specs.Variables.{hide, nothing, under}
use Rattle.lf_checks.specs.Clause.{among, outside}
use Rattle.lf_checks.specs.Descent.{inside}
use Rattle.tw_order.specs.Scopes.{newest_and, past}
use mathlib.Core.Path.{fun_ext}

pub newest_in : (n i : ℕ) (V : ℕ → Bool) → i < n → newest_and n V i ≡ true
newest_in zero i V h = absurd (omega (arith, h))
newest_in (suc n) zero V h = refl
newest_in (suc n) (suc i) V h = newest_in n i V (omega (arith, h))

pub newest_out : (n i k : ℕ) (V : ℕ → Bool) → i ≡ n + k → newest_and n V i ≡ V k
newest_out zero i k V e = ap V (omega (arith, e))
newest_out (suc n) zero k V e = absurd (omega (arith, e))
newest_out (suc n) (suc i) k V e = newest_out n i k V (omega (arith, e))

pub past_in : (n i : ℕ) (V : ℕ → Bool) → i < n → past n V i ≡ false
past_in zero i V h = absurd (omega (arith, h))
past_in (suc n) zero V h = refl
past_in (suc n) (suc i) V h = past_in n i V (omega (arith, h))

pub past_out : (n i k : ℕ) (V : ℕ → Bool) → i ≡ n + k → past n V i ≡ V k
past_out zero i k V e = ap V (omega (arith, e))
past_out (suc n) zero k V e = absurd (omega (arith, e))
past_out (suc n) (suc i) k V e = past_out n i k V (omega (arith, e))

pub newest_none : (n i : ℕ) → n ≤ i → newest_and n nothing i ≡ false
newest_none zero i h = refl
newest_none (suc n) zero h = absurd (omega (arith, h))
newest_none (suc n) (suc i) h = newest_none n i (omega (arith, h))

pub newest_below : (n i : ℕ) → newest_and n nothing i ≡ true → i < n
newest_below zero i e = absurd (true≢false (sym e))
newest_below (suc n) zero e = omega arith
newest_below (suc n) (suc i) e = let h = newest_below n i e in omega (arith, h)

-- a variable by its number: one of the newest, of the next, or of those past these
pub parameter_next : (n m e i : ℕ) → n ≤ i → i < n + m → newest_and n (past m (newest_and e nothing)) i ≡ false
parameter_next zero m e i l h = past_in m i (newest_and e nothing) (omega (arith, h))
parameter_next (suc n) m e zero l h = absurd (omega (arith, l))
parameter_next (suc n) m e (suc i) l h = parameter_next n m e i (omega (arith, l)) (omega (arith, h))

pub parameter_past : (n m e i k : ℕ) → i ≡ n + m + k → newest_and n (past m (newest_and e nothing)) i ≡ newest_and e nothing k
parameter_past n m e i k q = newest_out n i (m + k) (past m (newest_and e nothing)) (omega (arith, q)) ∙ past_out m (m + k) k (newest_and e nothing) refl

-- the sets of the theory are these
newest_deeper : (n : ℕ) (V : ℕ → Bool) → newest_and n (under V) ≡ under (newest_and n V)
newest_deeper zero V = refl
newest_deeper (suc n) V = ap under (newest_deeper n V)

past_deeper : (n : ℕ) (V : ℕ → Bool) → past n (hide V) ≡ hide (past n V)
past_deeper zero V = refl
past_deeper (suc n) V = ap hide (past_deeper n V)

pub inside_is : (A : LfType) (V : ℕ → Bool) → inside A V ≡ newest_and (quantifiers A) V
inside_is (pi A B) V = inside_is B (under V) ∙ newest_deeper (quantifiers B) V
inside_is (atom a S) V = refl

pub outside_is : (A : LfType) (V : ℕ → Bool) → outside A V ≡ past (quantifiers A) V
outside_is (pi A B) V = outside_is B (hide V) ∙ past_deeper (quantifiers B) V
outside_is (atom a S) V = refl

newest_more : (V : ℕ → Bool) (E : LfType) (es : List LfType) → among es ≡ V → among (E ∷ es) ≡ under V
newest_more V E es e = fun_ext at
  where
    at : (i : ℕ) → among (E ∷ es) i ≡ under V i
    at zero = refl
    at (suc i) = ap (λ W. W i) e

none_among : among [] ≡ nothing
none_among = fun_ext (λ i. refl)

pub among_is : (es : List LfType) → among es ≡ newest_and (length es) nothing
among_is [] = none_among
among_is (E ∷ es) = newest_more (newest_and (length es) nothing) E es (among_is es)
