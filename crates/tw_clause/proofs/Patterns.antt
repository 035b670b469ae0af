-- Eta-variables and patterns, as they are read one argument after the other.
use Rattle.std.proofs.Common.{◌≡◌, ℕ, zero, suc, ◌+◌, ◌<◌, ◌≤◌, List, [], ◌∷◌, ◌++◌, Bool, true, false, Option, Some, None, Result, Ok, Err, IfOk, length, drop, get_or, refl, sym, ap, ap₂, ◌∙◌, arith}
use Rattle.std.specs.Prelude.{not}
use Rattle.lf.specs.Syntax.{Term, Spine, nil, app, root, variable}
use Rattle.lf.specs.Variables.{same_number}
use Rattle.lf_checks.specs.Strict.{eta_at, head_variable, is_bound, lower, new_arguments, pattern_arguments, with_seen}
use Rattle.lf_checks.specs.Tests.{both, either, is_in}
use Rattle.std.proofs.Math.ListN.{drop_of_length-le}
use Rattle.tw_terms.specs.View.{args_of}
use Rattle.tw_terms.specs.declared.canonical.Term.{Term as RustTerm}
use Rattle.tw_signature.proofs.Marking.{same_not, same_self}
use Rattle.tw_clause.specs.Patterns.{heads, newest}

-- what is so of an outcome's value in one way is so in another
pub on_value : {T E : Type 0} (r : Result T E) (P Q : T → Type 0) → ((x : T) → P x → Q x) → IfOk r P → IfOk r Q
on_value (Ok x) P Q f h = f x h
on_value (Err e) P Q f h = h

pub eta_same : (n y j : ℕ) (S : Spine) → j ≡ y → eta_at n y (root (variable j) S) ≡ new_arguments n S
eta_same n y j S e = ap (λ t. both t (new_arguments n S)) (ap (same_number j) (sym e) ∙ same_self j)

pub eta_other : (n y j : ℕ) (S : Spine) → (j ≡ y → ⊥) → eta_at n y (root (variable j) S) ≡ false
eta_other n y j S h = ap (λ t. both t (new_arguments n S)) (same_not j y h)

pub lower_in : (n j : ℕ) → j < n → lower n j ≡ None
lower_in zero j h = absurd (omega (arith, h))
lower_in (suc n) zero h = refl
lower_in (suc n) (suc j) h = lower_in n j (omega (arith, h))

pub lower_out : (n j k : ℕ) → j ≡ n + k → lower n j ≡ Some k
lower_out zero j k h = ap Some (omega (arith, h))
lower_out (suc n) zero k h = absurd (omega (arith, h))
lower_out (suc n) (suc j) k h = lower_out n j k (omega (arith, h))

either_turned : (a b c : Bool) → either a (either b c) ≡ either b (either a c)
either_turned true true c = refl
either_turned true false c = refl
either_turned false true c = refl
either_turned false false c = refl

pub is_in_push : (y x : ℕ) (xs : List ℕ) → is_in y (xs ++ x ∷ []) ≡ is_in y (x ∷ xs)
is_in_push y x [] = refl
is_in_push y x (z ∷ xs) = ap (either (same_number y z)) (is_in_push y x xs) ∙ either_turned (same_number y z) (same_number y x) (is_in y xs)

same_step : (B : ℕ → Bool) (s t : List ℕ) (M : Term) (S : Spine) → ((y : ℕ) → is_in y s ≡ is_in y t) → (v : Option ℕ) → ((y : ℕ) → ((z : ℕ) → is_in z (y ∷ s) ≡ is_in z (y ∷ t)) → pattern_arguments B (y ∷ s) S ≡ pattern_arguments B (y ∷ t) S) → both (is_bound B s M v) (pattern_arguments B (with_seen v s) S) ≡ both (is_bound B t M v) (pattern_arguments B (with_seen v t) S)
same_step B s t M S h None f = refl
same_step B s t M S h (Some y) f = ap₂ (λ b c. both (both (eta_at zero y M) (both (B y) (not b))) c) (h y) (f y (λ z. ap (either (same_number z y)) (h z)))

pattern_same : (B : ℕ → Bool) (s t : List ℕ) (S : Spine) → ((y : ℕ) → is_in y s ≡ is_in y t) → pattern_arguments B s S ≡ pattern_arguments B t S
pattern_same B s t nil h = refl
pattern_same B s t (app M S) h = same_step B s t M S h (head_variable zero M) (λ y k. pattern_same B (y ∷ s) (y ∷ t) S k)

-- an argument that is the next variable
pub pattern_next : (B : ℕ → Bool) (s : List ℕ) (M : Term) (S R : Spine) (y : ℕ) → S ≡ app M R → Some y ≡ head_variable zero M → true ≡ is_bound B s M (Some y) → pattern_arguments B (s ++ y ∷ []) R ≡ pattern_arguments B s S
pattern_next B s M S R y e v h =
    pattern_same B (s ++ y ∷ []) (y ∷ s) R (λ z. is_in_push z y s)
    ∙ ap (λ b. both b (pattern_arguments B (y ∷ s) R)) h
    ∙ ap (λ w. both (is_bound B s M w) (pattern_arguments B (with_seen w s) R)) v
    ∙ ap (pattern_arguments B s) (sym e)

-- an argument that isn't
pub pattern_fails : (B : ℕ → Bool) (s : List ℕ) (M : Term) (S R : Spine) (v : Option ℕ) → S ≡ app M R → v ≡ head_variable zero M → false ≡ is_bound B s M v → false ≡ pattern_arguments B s S
pattern_fails B s M S R v e w h =
    ap (λ b. both b (pattern_arguments B (with_seen v s) R)) h
    ∙ ap (λ u. both (is_bound B s M u) (pattern_arguments B (with_seen u s) R)) w
    ∙ ap (pattern_arguments B s) (sym e)

pub is_in_at : (y : ℕ) (xs : List ℕ) (i : ℕ) → i < length xs → is_in y (drop i xs) ≡ either (same_number y (get_or xs i 0)) (is_in y (drop (suc i) xs))
is_in_at y [] i h = absurd (omega (arith, h))
is_in_at y (x ∷ xs) zero h = refl
is_in_at y (x ∷ xs) (suc i) h = is_in_at y xs i (omega (arith, h))

pub is_in_found : (y : ℕ) (xs : List ℕ) (i : ℕ) → i < length xs → get_or xs i 0 ≡ y → is_in y (drop i xs) ≡ true
is_in_found y xs i h e = is_in_at y xs i h ∙ ap (λ t. either t (is_in y (drop (suc i) xs))) (ap (same_number y) e ∙ same_self y)

pub is_in_passed : (y : ℕ) (xs : List ℕ) (i : ℕ) → i < length xs → (get_or xs i 0 ≡ y → ⊥) → is_in y (drop (i + 1) xs) ≡ is_in y (drop i xs)
is_in_passed y xs i h n = ap (λ k. is_in y (drop k xs)) (let q : i + 1 ≡ suc i = omega arith in q) ∙ ap (λ t. either t (is_in y (drop (suc i) xs))) (sym (same_not y (get_or xs i 0) (λ q. n (sym q)))) ∙ sym (is_in_at y xs i h)

pub pattern_done : (B : ℕ → Bool) (s : List ℕ) (ts : List RustTerm) (k : ℕ) → length ts ≤ k → true ≡ pattern_arguments B s (args_of (drop k ts))
pattern_done B s ts k h = ap (λ xs. pattern_arguments B s (args_of xs)) (sym (drop_of_length-le ts h))

append_one : (xs ys : List ℕ) (y : ℕ) → (xs ++ y ∷ []) ++ ys ≡ xs ++ y ∷ ys
append_one [] ys y = refl
append_one (x ∷ xs) ys y = ap (λ zs. x ∷ zs) (append_one xs ys y)

-- the heads so far, with that of the next argument
pub heads_next : (s : List ℕ) (M : Term) (S R : Spine) (y : ℕ) → S ≡ app M R → Some y ≡ head_variable zero M → (s ++ y ∷ []) ++ heads R ≡ s ++ heads S
heads_next s M S R y e v = append_one s (heads R) y ∙ ap (λ w. s ++ with_seen w (heads R)) v ∙ ap (λ X. s ++ heads X) (sym e)

append_none : (xs : List ℕ) → xs ++ [] ≡ xs
append_none [] = refl
append_none (x ∷ xs) = ap (λ zs. x ∷ zs) (append_none xs)

pub heads_done : (s : List ℕ) (ts : List RustTerm) (k : ℕ) → length ts ≤ k → s ≡ s ++ heads (args_of (drop k ts))
heads_done s ts k h = sym (append_none s) ∙ ap (λ xs. s ++ heads (args_of xs)) (sym (drop_of_length-le ts h))

pub newest_in : (n i : ℕ) → i < n → newest n i ≡ true
newest_in zero i h = absurd (omega (arith, h))
newest_in (suc n) zero h = refl
newest_in (suc n) (suc i) h = newest_in n i (omega (arith, h))

pub newest_out : (n i : ℕ) → n ≤ i → newest n i ≡ false
newest_out zero i h = refl
newest_out (suc n) zero h = absurd (omega (arith, h))
newest_out (suc n) (suc i) h = newest_out n i (omega (arith, h))
