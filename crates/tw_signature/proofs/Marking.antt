-- Marks, one after the other, and what they come to over a whole type.
use Rattle.std.proofs.Common.{◌≡◌, ℕ, zero, suc, ◌+◌, ◌-◌, ◌<◌, ◌≤◌, List, [], ◌∷◌, ◌++◌, length, Bool, true, false, Result, Ok, Err, OnOk, drop, get_or, add-one, drop-cons, length-append, refl, sym, ap, ap₂, ◌∙◌, subst, arith}
use Rattle.std.specs.List.{slice_set}
use Rattle.lf.specs.Variables.{same_number}
use mathlib.Core.Path.{fun_ext}
use Rattle.std.proofs.Math.ListN.{drop_of_length-le}
use Rattle.lf.specs.Syntax.{Head, constant, variable, metavariable, Term, Spine, lambda, root, app, LfType, pi}
use Rattle.tw_terms.specs.View.{term_of, args_of}
use Rattle.tw_terms.specs.declared.canonical.Term.{Term as RustTerm}
use Rattle.lf_unification.specs.Search.{either, occurs, occurs_spine, occurs_type}
use Rattle.lf_checks.specs.Parts.{shape}
use Rattle.tw_signature.specs.Marks.{is_variable, marked}

or_assoc : (a b c : Bool) → either (either a b) c ≡ either a (either b c)
or_assoc true b c = refl
or_assoc false b c = refl

or_false : (a : Bool) → either a false ≡ a
or_false true = refl
or_false false = refl

-- by one test and then by another
pub marked_twice : (d : ℕ) (f g : ℕ → Bool) (ms : List Bool) → marked d g (marked d f ms) ≡ marked d (λ i. either (f i) (g i)) ms
marked_twice zero f g ms = refl
marked_twice (suc d) f g [] = refl
marked_twice (suc d) f g (m ∷ ms) = ap₂ (λ x xs. x ∷ xs) (or_assoc m (f d) (g d)) (marked_twice d f g ms)

-- by no variable
pub marked_nothing : (d : ℕ) (f : ℕ → Bool) (ms : List Bool) → ((i : ℕ) → f i ≡ false) → marked d f ms ≡ ms
marked_nothing zero f ms h = refl
marked_nothing (suc d) f [] h = refl
marked_nothing (suc d) f (m ∷ ms) h = ap₂ (λ x xs. x ∷ xs) (ap (λ b. either m b) (h d) ∙ or_false m) (marked_nothing d f ms h)

pub marked_length : (d : ℕ) (f : ℕ → Bool) (ms : List Bool) → length (marked d f ms) ≡ length ms
marked_length zero f ms = refl
marked_length (suc d) f [] = refl
marked_length (suc d) f (m ∷ ms) = ap suc (marked_length d f ms)

-- under one more variable, whose mark stands behind the others
pub marked_under : (f : ℕ → Bool) (ms : List Bool) (m : Bool) (d : ℕ) → d ≡ length ms → marked (suc d) f (ms ++ m ∷ []) ≡ marked d (λ i. f (suc i)) ms ++ either m (f 0) ∷ []
marked_under f [] m zero e = refl
marked_under f [] m (suc d) e = absurd (omega (arith, e))
marked_under f (n ∷ ms) m zero e = absurd (omega (arith, e))
marked_under f (n ∷ ms) m (suc d) e = ap (λ xs. either n (f (suc d)) ∷ xs) (marked_under f ms m d (omega (arith, e)))

append_two : (xs ys : List Bool) (b : Bool) → (xs ++ b ∷ []) ++ ys ≡ xs ++ b ∷ ys
append_two [] ys b = refl
append_two (x ∷ xs) ys b = ap (λ zs. x ∷ zs) (append_two xs ys b)

pushed_length : (ms ps : List Bool) (f : ℕ → Bool) → ps ≡ marked (length ms) f ms ++ false ∷ [] → length ps ≡ suc (length ms)
pushed_length ms ps f e = let l = length-append (marked (length ms) f ms) (false ∷ []) in let k = marked_length (length ms) f ms in let n = ap length e in omega (arith, l, k, n)

-- a quantifier: its domain, its own mark, and then the rest
pub rest_marked : (d : ℕ) (f g : ℕ → Bool) (ms rs : List Bool) → d ≡ length ms → marked (suc d) g (marked d f ms ++ false ∷ []) ++ rs ≡ marked d (λ i. either (f i) (g (suc i))) ms ++ g 0 ∷ rs
rest_marked d f g ms rs e =
    ap (λ xs. xs ++ rs) (marked_under g (marked d f ms) false d (e ∙ sym (marked_length d f ms)))
    ∙ append_two (marked d (λ i. g (suc i)) (marked d f ms)) rs (g 0)
    ∙ ap (λ xs. xs ++ g 0 ∷ rs) (marked_twice d f (λ i. g (suc i)) ms)

marked_below : (d : ℕ) (f : ℕ → Bool) (ms : List Bool) → ((i : ℕ) → i < d → f i ≡ false) → marked d f ms ≡ ms
marked_below zero f ms h = refl
marked_below (suc d) f [] h = refl
marked_below (suc d) f (m ∷ ms) h = ap₂ (λ x xs. x ∷ xs) (ap (λ b. either m b) (h d (omega arith)) ∙ or_false m) (marked_below d f ms (λ i l. h i (omega (arith, l))))

or_true : (b : Bool) → either b true ≡ true
or_true true = refl
or_true false = refl

-- by one variable alone
marked_one : (d v k : ℕ) (f : ℕ → Bool) (ms : List Bool) → v + k + 1 ≡ d → k < length ms → f v ≡ true → ((i : ℕ) → (i ≡ v → ⊥) → f i ≡ false) → slice_set ms k true ≡ marked d f ms
marked_one zero v k f ms e l y n = absurd (omega (arith, e))
marked_one (suc d) v k f [] e l y n = absurd (omega (arith, l))
marked_one (suc d) v zero f (m ∷ ms) e l y n =
    let same : d ≡ v = omega (arith, e) in
    ap₂ (λ x xs. x ∷ xs) (sym (ap (λ b. either m b) (ap f same ∙ y) ∙ or_true m)) (sym (marked_below d f ms (λ i j. n i (λ q. omega (arith, j, q, same)))))
marked_one (suc d) v (suc k) f (m ∷ ms) e l y n =
    ap₂ (λ x xs. x ∷ xs) (sym (ap (λ b. either m b) (n d (λ q. omega (arith, q, e))) ∙ or_false m)) (marked_one d v k f ms (omega (arith, e)) (omega (arith, l)) y n)

pub same_self : (v : ℕ) → same_number v v ≡ true
same_self zero = refl
same_self (suc v) = same_self v

pub same_not : (i v : ℕ) → (i ≡ v → ⊥) → same_number i v ≡ false
same_not zero zero n = absurd (n refl)
same_not zero (suc v) n = refl
same_not (suc i) zero n = refl
same_not (suc i) (suc v) n = same_not i v (λ q. n (ap suc q))

pub marked_variable : (d v : ℕ) (ms : List Bool) → v < d → d - 1 - v < length ms → slice_set ms (d - 1 - v) true ≡ marked d (λ i. same_number i v) ms
marked_variable d v ms h k = marked_one d v (d - 1 - v) (λ i. same_number i v) ms (omega (arith, h)) k (same_self v) (λ i n. same_not i v n)

-- by a variable that has no mark
pub marked_outside : (d v : ℕ) (ms : List Bool) → (v < d → d - 1 - v < length ms → ⊥) → ms ≡ marked d (λ i. same_number i v) ms
marked_outside zero v ms h = refl
marked_outside (suc d) v [] h = refl
marked_outside (suc d) v (m ∷ ms) h =
    let apart : d ≡ v → ⊥ = λ q. h (omega (arith, q)) (omega (arith, q)) in
    ap₂ (λ x xs. x ∷ xs) (sym (ap (λ b. either m b) (same_not d v apart) ∙ or_false m)) (marked_outside d v ms (λ a b. h (omega (arith, a)) (omega (arith, a, b))))

-- under a binder, whose variable has no mark
pub marked_shift : (f : ℕ → Bool) (d : ℕ) (ms : List Bool) → length ms ≤ d → marked (suc d) f ms ≡ marked d (λ i. f (suc i)) ms
marked_shift f zero [] h = refl
marked_shift f zero (m ∷ ms) h = absurd (omega (arith, h))
marked_shift f (suc d) [] h = refl
marked_shift f (suc d) (m ∷ ms) h = ap (λ xs. either m (f (suc d)) ∷ xs) (marked_shift f d ms (omega (arith, h)))

-- a spine from an argument on
pub args_at : (ts : List RustTerm) (i : ℕ) (x : RustTerm) → i < length ts → x ≡ get_or ts i x → args_of (drop i ts) ≡ app (term_of x) (args_of (drop (i + 1) ts))
args_at ts i x h e = rw (add-one, drop-cons ts i x) (ap (λ y. app (term_of y) (args_of (drop (suc i) ts))) (sym e))

-- an outcome that is good in one way is good in another
pub on_ok : {T E : Type 0} (r : Result T E) (P Q : Type 0) → (P → Q) → OnOk r P → OnOk r Q
on_ok (Ok x) P Q f h = f h
on_ok (Err e) P Q f h = h

pub spine_step : (d : ℕ) (S R : Spine) (M : Term) (ms ns : List Bool) → S ≡ app M R → ns ≡ marked d (λ i. occurs i M) ms → marked d (λ i. occurs_spine i R) ns ≡ marked d (λ i. occurs_spine i S) ms
spine_step d S R M ms ns e f = ap (marked d (λ i. occurs_spine i R)) f ∙ marked_twice d (λ i. occurs i M) (λ i. occurs_spine i R) ms ∙ ap (λ T. marked d (λ i. occurs_spine i T) ms) (sym e)

pub spine_done : (d k : ℕ) (ts : List RustTerm) (S : Spine) (ms ns : List Bool) → length ts ≤ k → marked d (λ i. occurs_spine i (args_of (drop k ts))) ns ≡ marked d (λ i. occurs_spine i (args_of ts)) ms → S ≡ args_of ts → ns ≡ marked d (λ i. occurs_spine i S) ms
spine_done d k ts S ms ns h e f =
    sym (marked_nothing d (λ i. false) ns (λ i. refl))
    ∙ ap (λ xs. marked d (λ i. occurs_spine i (args_of xs)) ns) (sym (drop_of_length-le ts h))
    ∙ e ∙ ap (λ T. marked d (λ i. occurs_spine i T) ms) (sym f)

pub lambda_marked : (d e : ℕ) (M N : Term) (ms ns : List Bool) → M ≡ lambda N → e ≡ suc d → length ms ≤ d → ns ≡ marked e (λ i. occurs i N) ms → ns ≡ marked d (λ i. occurs i M) ms
lambda_marked d e M N ms ns q f h k = k ∙ ap (λ n. marked n (λ i. occurs i N) ms) f ∙ marked_shift (λ i. occurs i N) d ms h ∙ ap (λ X. marked d (λ i. occurs i X) ms) (sym q)

occurs_root : (i : ℕ) (h : Head) (S : Spine) → either (is_variable i h) (occurs_spine i S) ≡ occurs i (root h S)
occurs_root i (constant c) S = refl
occurs_root i (variable j) S = refl
occurs_root i (metavariable m) S = refl

pub root_marked : (d : ℕ) (M : Term) (h : Head) (S : Spine) (ms ns rs : List Bool) → M ≡ root h S → ns ≡ marked d (λ i. is_variable i h) ms → rs ≡ marked d (λ i. occurs_spine i S) ns → rs ≡ marked d (λ i. occurs i M) ms
root_marked d M h S ms ns rs q e f =
    f ∙ ap (marked d (λ i. occurs_spine i S)) e ∙ marked_twice d (λ i. is_variable i h) (λ i. occurs_spine i S) ms
    ∙ ap (λ t. marked d t ms) (fun_ext (λ i. occurs_root i h S)) ∙ ap (λ X. marked d (λ i. occurs i X) ms) (sym q)

pub pi_marked : (d e : ℕ) (C A B : LfType) (ms ns rs : List Bool) → C ≡ pi A B → e ≡ suc d → length ms ≤ d → ns ≡ marked d (λ i. occurs_type i A) ms → rs ≡ marked e (λ i. occurs_type i B) ns → rs ≡ marked d (λ i. occurs_type i C) ms
pi_marked d e C A B ms ns rs q g h k l =
    l ∙ ap (λ n. marked n (λ i. occurs_type i B) ns) g
    ∙ marked_shift (λ i. occurs_type i B) d ns (subst (λ n. n ≤ d) (sym (ap length k ∙ marked_length d (λ i. occurs_type i A) ms)) h)
    ∙ ap (marked d (λ i. occurs_type (suc i) B)) k
    ∙ marked_twice d (λ i. occurs_type i A) (λ i. occurs_type (suc i) B) ms
    ∙ ap (λ X. marked d (λ i. occurs_type i X) ms) (sym q)

-- The loop over the quantifiers: what the marks so far and the rest of the type come to.
pub shape_step : (C A B : LfType) (ms ps : List Bool) → C ≡ pi A B → ps ≡ marked (length ms) (λ i. occurs_type i A) ms ++ false ∷ [] → marked (length ps) (λ i. occurs_type i B) ps ++ shape B ≡ marked (length ms) (λ i. occurs_type i C) ms ++ shape C
shape_step C A B ms ps q g =
    ap (λ n. marked n (λ i. occurs_type i B) ps ++ shape B) (pushed_length ms ps (λ i. occurs_type i A) g)
    ∙ ap (λ xs. marked (suc (length ms)) (λ i. occurs_type i B) xs ++ shape B) g
    ∙ rest_marked (length ms) (λ i. occurs_type i A) (λ i. occurs_type i B) ms (shape B) refl
    ∙ ap (λ X. marked (length ms) (λ i. occurs_type i X) ms ++ shape X) (sym q)
