-- The sets that marks and a scope stand for.
use Rattle.std.proofs.Common.{◌≡◌, ℕ, zero, suc, ◌+◌, ◌<◌, ◌≤◌, List, [], ◌∷◌, ◌++◌, Bool, true, false, length, get_or, refl, sym, ap, ◌∙◌, arith}
use Rattle.std.specs.Prelude.{cond}
use Rattle.lf.specs.Variables.{hide, same_number, under}
use Rattle.lf_checks.specs.Clause.{with_newest}
use Rattle.lf_checks.specs.Tests.{either}
use Rattle.tw_signature.specs.Marks.{marked}
use Rattle.lf.proofs.Checker.{number_is}
use Rattle.tw_signature.proofs.Marking.{same_not, same_self}
use Rattle.tw_mode.specs.Scopes.{in_marks}
use mathlib.Core.Path.{fun_ext}

pub same_turned : (i j : ℕ) → same_number i j ≡ same_number j i
same_turned zero zero = refl
same_turned zero (suc j) = refl
same_turned (suc i) zero = refl
same_turned (suc i) (suc j) = same_turned i j

-- past the variables in scope
pub in_marks_past : (b : Bool) (d i : ℕ) (ms : List Bool) → d ≤ i → in_marks b d ms i ≡ b
in_marks_past b zero i ms h = refl
in_marks_past b (suc d) i [] h = refl
in_marks_past b (suc d) i (m ∷ ms) h = ap (λ t. cond t m (in_marks b d ms i)) (same_not i d (λ q. omega (arith, q, h))) ∙ in_marks_past b d i ms (omega (arith, h))

-- a variable without a mark
pub in_marks_short : (b : Bool) (d i : ℕ) (ms : List Bool) → i + length ms < d → in_marks b d ms i ≡ b
in_marks_short b zero i ms h = refl
in_marks_short b (suc d) i [] h = refl
in_marks_short b (suc d) i (m ∷ ms) h = ap (λ t. cond t m (in_marks b d ms i)) (same_not i d (λ q. omega (arith, q, h))) ∙ in_marks_short b d i ms (omega (arith, h))

-- the mark of a variable
pub in_marks_at : (b : Bool) (d i k : ℕ) (ms : List Bool) → i + k + 1 ≡ d → k < length ms → in_marks b d ms i ≡ get_or ms k false
in_marks_at b zero i k ms e h = absurd (omega (arith, e))
in_marks_at b (suc d) i k [] e h = absurd (omega (arith, h))
in_marks_at b (suc d) i zero (m ∷ ms) e h = let q : i ≡ d = omega (arith, e) in ap (λ t. cond t m (in_marks b d ms i)) (ap (λ n. same_number n d) q ∙ same_self d)
in_marks_at b (suc d) i (suc k) (m ∷ ms) e h = ap (λ t. cond t m (in_marks b d ms i)) (same_not i d (λ q. omega (arith, q, e))) ∙ in_marks_at b d i k ms (omega (arith, e)) (omega (arith, h))

-- under one more variable, which has no mark
pub in_marks_inside : (b : Bool) (d i : ℕ) (ms : List Bool) → length ms ≤ d → in_marks b (suc d) ms (suc i) ≡ in_marks b d ms i
in_marks_inside b zero i [] h = refl
in_marks_inside b zero i (m ∷ ms) h = absurd (omega (arith, h))
in_marks_inside b (suc d) i [] h = refl
in_marks_inside b (suc d) i (m ∷ ms) h = ap (cond (same_number i d) m) (in_marks_inside b d i ms (omega (arith, h)))

hidden_at : (d i : ℕ) (ms : List Bool) → length ms ≤ d → in_marks false (suc d) ms i ≡ hide (in_marks false d ms) i
hidden_at d zero ms h = in_marks_short false (suc d) zero ms (omega (arith, h))
hidden_at d (suc i) ms h = in_marks_inside false d i ms h

pub hidden : (d : ℕ) (ms : List Bool) → length ms ≤ d → in_marks false (suc d) ms ≡ hide (in_marks false d ms)
hidden d ms h = fun_ext (λ i. hidden_at d i ms h)

added_at : (d i : ℕ) (ms : List Bool) → length ms ≤ d → in_marks true (suc d) ms i ≡ under (in_marks true d ms) i
added_at d zero ms h = in_marks_short true (suc d) zero ms (omega (arith, h))
added_at d (suc i) ms h = in_marks_inside true d i ms h

pub added : (d : ℕ) (ms : List Bool) → length ms ≤ d → in_marks true (suc d) ms ≡ under (in_marks true d ms)
added d ms h = fun_ext (λ i. added_at d i ms h)

either_cond : (t m a b : Bool) → either (cond t m a) b ≡ cond t (either m b) (either a b)
either_cond true m a b = refl
either_cond false m a b = refl

at_number : (f : ℕ → Bool) (i d : ℕ) (t m x : Bool) → same_number i d ≡ t → cond t (either m (f d)) x ≡ cond t (either m (f i)) x
at_number f i d true m x e = ap (λ n. either m (f n)) (sym (number_is i d e))
at_number f i d false m x e = refl

-- the set where those for which a test says yes are marked too
marked_set_at : (f : ℕ → Bool) (d i : ℕ) (ms : List Bool) → in_marks true d (marked d f ms) i ≡ either (in_marks true d ms i) (f i)
marked_set_at f zero i ms = refl
marked_set_at f (suc d) i [] = refl
marked_set_at f (suc d) i (m ∷ ms) =
    ap (cond (same_number i d) (either m (f d))) (marked_set_at f d i ms)
    ∙ at_number f i d (same_number i d) m (either (in_marks true d ms i) (f i)) refl
    ∙ sym (either_cond (same_number i d) m (in_marks true d ms i) (f i))

pub marked_set : (f : ℕ → Bool) (d : ℕ) (ms : List Bool) → in_marks true d (marked d f ms) ≡ (λ i. either (in_marks true d ms i) (f i))
marked_set f d ms = fun_ext (λ i. marked_set_at f d i ms)

-- a mark behind the others, of one more variable, which is the newest
pushed_newest : (b x : Bool) (d : ℕ) (ms : List Bool) → length ms ≡ d → in_marks b (suc d) (ms ++ x ∷ []) zero ≡ x
pushed_newest b x zero [] h = refl
pushed_newest b x zero (m ∷ ms) h = absurd (omega (arith, h))
pushed_newest b x (suc d) [] h = absurd (omega (arith, h))
pushed_newest b x (suc d) (m ∷ ms) h = pushed_newest b x d ms (omega (arith, h))

pushed_older : (b x : Bool) (d i : ℕ) (ms : List Bool) → length ms ≡ d → in_marks b (suc d) (ms ++ x ∷ []) (suc i) ≡ in_marks b d ms i
pushed_older b x zero i [] h = refl
pushed_older b x zero i (m ∷ ms) h = absurd (omega (arith, h))
pushed_older b x (suc d) i [] h = absurd (omega (arith, h))
pushed_older b x (suc d) i (m ∷ ms) h = ap (cond (same_number i d) m) (pushed_older b x d i ms (omega (arith, h)))

pushed_hidden_at : (d i : ℕ) (ms : List Bool) → length ms ≡ d → in_marks true (suc d) (ms ++ false ∷ []) i ≡ hide (in_marks true d ms) i
pushed_hidden_at d zero ms h = pushed_newest true false d ms h
pushed_hidden_at d (suc i) ms h = pushed_older true false d i ms h

pub pushed_hidden : (d : ℕ) (ms : List Bool) → length ms ≡ d → in_marks true (suc d) (ms ++ false ∷ []) ≡ hide (in_marks true d ms)
pushed_hidden d ms h = fun_ext (λ i. pushed_hidden_at d i ms h)

-- the set with one more mark, behind the others
pushed_set_at : (b x : Bool) (d i : ℕ) (ms : List Bool) → length ms ≡ d → in_marks b (suc d) (ms ++ x ∷ []) i ≡ with_newest x (in_marks b d ms) i
pushed_set_at b x d zero ms h = pushed_newest b x d ms h
pushed_set_at b x d (suc i) ms h = pushed_older b x d i ms h

pub pushed_set : (b x : Bool) (d : ℕ) (ms : List Bool) → length ms ≡ d → in_marks b (suc d) (ms ++ x ∷ []) ≡ with_newest x (in_marks b d ms)
pushed_set b x d ms h = fun_ext (λ i. pushed_set_at b x d i ms h)

newest_under_at : (V : ℕ → Bool) (i : ℕ) → with_newest true V i ≡ under V i
newest_under_at V zero = refl
newest_under_at V (suc i) = refl

pub newest_under : (V : ℕ → Bool) → with_newest true V ≡ under V
newest_under V = fun_ext (newest_under_at V)

newest_hide_at : (V : ℕ → Bool) (i : ℕ) → with_newest false V i ≡ hide V i
newest_hide_at V zero = refl
newest_hide_at V (suc i) = refl

pub newest_hide : (V : ℕ → Bool) → with_newest false V ≡ hide V
newest_hide V = fun_ext (newest_hide_at V)
