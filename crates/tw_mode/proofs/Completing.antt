-- The marks of implicit places, one place before the other.
use Rattle.std.proofs.Common.{◌≡◌, ℕ, zero, suc, ◌≤◌, List, [], ◌∷◌, Bool, true, false, cond, length, map, refl, sym, ap, ◌∙◌, subst, arith}
use Rattle.lf.specs.Syntax.{LfType, Kind, kind_pi, star}
use Rattle.lf_unification.specs.Search.{occurs_type}
use Rattle.lf_checks.specs.Marks.{Mark, input, output, free}
use Rattle.lf_checks.specs.ModeForms.{completed_marks, implicit_mark, occurs_in_types}
use Rattle.lf_checks.specs.Tests.{both, either}
use Rattle.tw_signature.specs.Marks.{marked}
use Rattle.tw_signature.proofs.Marking.{marked_length, marked_nothing, marked_shift, marked_twice}
use Rattle.tw_clause.specs.View.{mark_of}
use Rattle.tw_clause.specs.declared.name.Mark3.{Mark3}
use Rattle.tw_mode.specs.Rows.{places_with}
use mathlib.Core.Path.{fun_ext}

pub type_chosen : (d : ℕ) (b : Bool) (A : LfType) (ms ns : List Bool) → b ≡ true → ns ≡ marked d (λ i. occurs_type i A) ms → ns ≡ marked d (λ i. both b (occurs_type i A)) ms
type_chosen d b A ms ns e f = f ∙ ap (λ t. marked d (λ i. both t (occurs_type i A)) ms) (sym e)

pub type_left : (d : ℕ) (b : Bool) (A : LfType) (ms : List Bool) → b ≡ false → ms ≡ marked d (λ i. both b (occurs_type i A)) ms
type_left d b A ms e = sym (ap (λ t. marked d (λ i. both t (occurs_type i A)) ms) e ∙ marked_nothing d (λ i. false) ms (λ i. refl))

place_first : (b : Bool) (m : List Bool) (i : ℕ) (A : LfType) (L : Kind) → either (both b (occurs_type i A)) (occurs_in_types m (suc i) L) ≡ occurs_in_types (b ∷ m) i (kind_pi A L)
place_first true m i A L = refl
place_first false m i A L = refl

-- a place, and then those behind it
pub types_marked : (d e : ℕ) (b : Bool) (m n : List Bool) (K L : Kind) (A : LfType) (ss ns rs : List Bool) → n ≡ b ∷ m → K ≡ kind_pi A L → e ≡ suc d → length ss ≤ d → ns ≡ marked d (λ i. both b (occurs_type i A)) ss → rs ≡ marked e (λ i. occurs_in_types m i L) ns → rs ≡ marked d (λ i. occurs_in_types n i K) ss
types_marked d e b m n K L A ss ns rs p q g h k l =
    l ∙ ap (λ c. marked c (λ i. occurs_in_types m i L) ns) g
    ∙ marked_shift (λ i. occurs_in_types m i L) d ns (subst (λ c. c ≤ d) (sym (ap length k ∙ marked_length d (λ i. both b (occurs_type i A)) ss)) h)
    ∙ ap (marked d (λ i. occurs_in_types m (suc i) L)) k
    ∙ marked_twice d (λ i. both b (occurs_type i A)) (λ i. occurs_in_types m (suc i) L) ss
    ∙ ap (λ f. marked d f ss) (fun_ext (λ i. place_first b m i A L))
    ∙ ap (λ X. marked d (λ i. occurs_in_types (b ∷ m) i X) ss) (sym q)
    ∙ ap (λ x. marked d (λ i. occurs_in_types x i K) ss) (sym p)

nothing_behind : (m : List Bool) (i : ℕ) → occurs_in_types m i star ≡ false
nothing_behind [] i = refl
nothing_behind (true ∷ m) i = refl
nothing_behind (false ∷ m) i = refl

pub types_end : (d : ℕ) (m : List Bool) (K : Kind) (ss : List Bool) → K ≡ star → ss ≡ marked d (λ i. occurs_in_types m i K) ss
types_end d m K ss q = sym (ap (λ X. marked d (λ i. occurs_in_types m i X) ss) q ∙ marked_nothing d (λ i. occurs_in_types m i star) ss (nothing_behind m))

pub types_unmarked : (d : ℕ) (w : Mark3) (ms : List Mark3) (K : Kind) (ss : List Bool) → length ms ≤ 0 → ss ≡ marked d (λ i. occurs_in_types (places_with w (map mark_of ms)) i K) ss
types_unmarked d w [] K ss h = sym (marked_nothing d (λ i. false) ss (λ i. refl))
types_unmarked d w (m ∷ ms) K ss h = absurd (omega (arith, h))

pub mark_is_input : (p q : Bool) → p ≡ true → input ≡ cond p input (cond q free output)
mark_is_input p q e = sym (ap (λ b. cond b input (cond q free output)) e)

pub mark_is_free : (p q : Bool) → p ≡ false → q ≡ true → free ≡ cond p input (cond q free output)
mark_is_free p q e f = sym (ap (λ b. cond b input (cond q free output)) e ∙ ap (λ b. cond b free output) f)

pub mark_is_output : (p q : Bool) → p ≡ false → q ≡ false → output ≡ cond p input (cond q free output)
mark_is_output p q e f = sym (ap (λ b. cond b input (cond q free output)) e ∙ ap (λ b. cond b free output) f)

pub completed_none : (n : ℕ) (m : List Mark) (K : Kind) → n ≡ 0 → m ≡ completed_marks n m K
completed_none n m K e = sym (ap (λ k. completed_marks k m K) e)

star_has_none : (n : ℕ) (m : List Mark) → m ≡ completed_marks n m star
star_has_none zero m = refl
star_has_none (suc n) m = refl

pub completed_star : (n : ℕ) (m : List Mark) (K : Kind) → K ≡ star → m ≡ completed_marks n m K
completed_star n m K e = star_has_none n m ∙ ap (completed_marks n m) (sym e)

pub completed_next : (n k : ℕ) (m rest : List Mark) (b : Mark) (K L : Kind) (A : LfType) → n ≡ suc k → K ≡ kind_pi A L → rest ≡ completed_marks k m L → b ≡ implicit_mark rest L → b ∷ rest ≡ completed_marks n m K
completed_next n k m rest b K L A e q r i =
    ap (λ x. x ∷ rest) i
    ∙ ap (λ xs. implicit_mark xs L ∷ xs) r
    ∙ ap (completed_marks (suc k) m) (sym q)
    ∙ ap (λ x. completed_marks x m K) (sym e)
