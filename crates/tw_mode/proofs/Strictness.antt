-- The marks of strict occurrences, level by level.
use Rattle.std.proofs.Common.{◌≡◌, ℕ, zero, suc, ◌+◌, ◌≤◌, List, [], ◌∷◌, Bool, true, false, length, drop, get_or, refl, sym, ap, ◌∙◌, arith}
use Rattle.std.proofs.Math.ListN.{drop_of_length-le}
use Rattle.lf.specs.Syntax.{Term, Spine, nil, app, root, constant, variable, lambda, LfType, pi, atom}
use Rattle.lf.specs.Variables.{hide, same_number, under}
use Rattle.lf_checks.specs.Strict.{pattern_arguments, strict, strict_at, strict_goal, strict_spine}
use Rattle.lf_checks.specs.Tests.{both, either}
use Rattle.tw_signature.specs.Marks.{marked}
use Rattle.tw_signature.proofs.Marking.{marked_twice, marked_nothing, marked_shift}
use Rattle.tw_terms.specs.View.{args_of}
use Rattle.tw_terms.specs.declared.canonical.Term.{Term as RustTerm}
use mathlib.Core.Path.{fun_ext}

pub either_false : (a : Bool) → either a false ≡ a
either_false true = refl
either_false false = refl

pub strict_lambda : (B F B' F' : ℕ → Bool) (d e : ℕ) (M N : Term) (ms ns : List Bool) → M ≡ lambda N → e ≡ suc d → B' ≡ under B → F' ≡ hide F → length ms ≤ d → ns ≡ marked e (λ i. strict B' F' i N) ms → ns ≡ marked d (λ i. strict B F i M) ms
strict_lambda B F B' F' d e M N ms ns q f b h l k =
    k ∙ ap (λ n. marked n (λ i. strict B' F' i N) ms) f
    ∙ ap (λ X. marked (suc d) (λ i. strict X F' i N) ms) b
    ∙ ap (λ X. marked (suc d) (λ i. strict (under B) X i N) ms) h
    ∙ marked_shift (λ i. strict (under B) (hide F) i N) d ms l
    ∙ ap (λ X. marked d (λ i. strict B F i X) ms) (sym q)

pub strict_constant : (B F : ℕ → Bool) (d k : ℕ) (M : Term) (S : Spine) (ms ns : List Bool) → M ≡ root (constant k) S → ns ≡ marked d (λ i. strict_spine B F i S) ms → ns ≡ marked d (λ i. strict B F i M) ms
strict_constant B F d k M S ms ns q e = e ∙ ap (λ X. marked d (λ i. strict B F i X) ms) (sym q)

pub strict_rigid : (B F : ℕ → Bool) (d j : ℕ) (M : Term) (S : Spine) (ms ns rs : List Bool) → M ≡ root (variable j) S → ns ≡ marked d (λ i. both (same_number j i) (pattern_arguments B [] S)) ms → true ≡ either (B j) (F j) → rs ≡ marked d (λ i. strict_spine B F i S) ns → rs ≡ marked d (λ i. strict B F i M) ms
strict_rigid B F d j M S ms ns rs q e t f =
    f ∙ ap (marked d (λ i. strict_spine B F i S)) e
    ∙ marked_twice d (λ i. both (same_number j i) (pattern_arguments B [] S)) (λ i. strict_spine B F i S) ms
    ∙ ap (λ b. marked d (λ i. either (both (same_number j i) (pattern_arguments B [] S)) (both b (strict_spine B F i S))) ms) t
    ∙ ap (λ X. marked d (λ i. strict B F i X) ms) (sym q)

pub strict_flexible : (B F : ℕ → Bool) (d j : ℕ) (M : Term) (S : Spine) (ms ns : List Bool) → M ≡ root (variable j) S → ns ≡ marked d (λ i. both (same_number j i) (pattern_arguments B [] S)) ms → false ≡ either (B j) (F j) → ns ≡ marked d (λ i. strict B F i M) ms
strict_flexible B F d j M S ms ns q e t =
    e ∙ ap (λ f. marked d f ms) (fun_ext (λ i. sym (either_false (both (same_number j i) (pattern_arguments B [] S)))))
    ∙ ap (λ b. marked d (λ i. either (both (same_number j i) (pattern_arguments B [] S)) (both b (strict_spine B F i S))) ms) t
    ∙ ap (λ X. marked d (λ i. strict B F i X) ms) (sym q)

pub strict_next : (B F : ℕ → Bool) (d : ℕ) (S R : Spine) (M : Term) (ms ns : List Bool) → S ≡ app M R → ns ≡ marked d (λ i. strict B F i M) ms → marked d (λ i. strict_spine B F i R) ns ≡ marked d (λ i. strict_spine B F i S) ms
strict_next B F d S R M ms ns e f = ap (marked d (λ i. strict_spine B F i R)) f ∙ marked_twice d (λ i. strict B F i M) (λ i. strict_spine B F i R) ms ∙ ap (λ T. marked d (λ i. strict_spine B F i T) ms) (sym e)

pub strict_done : (B F : ℕ → Bool) (d k : ℕ) (ts : List RustTerm) (S : Spine) (ms ns : List Bool) → length ts ≤ k → marked d (λ i. strict_spine B F i (args_of (drop k ts))) ns ≡ marked d (λ i. strict_spine B F i (args_of ts)) ms → S ≡ args_of ts → ns ≡ marked d (λ i. strict_spine B F i S) ms
strict_done B F d k ts S ms ns h e f =
    sym (marked_nothing d (λ i. false) ns (λ i. refl))
    ∙ ap (λ xs. marked d (λ i. strict_spine B F i (args_of xs)) ns) (sym (drop_of_length-le ts h))
    ∙ e ∙ ap (λ T. marked d (λ i. strict_spine B F i T) ms) (sym f)

both_false : (a : Bool) → both a false ≡ false
both_false true = refl
both_false false = refl

both_true : (a : Bool) → both a true ≡ a
both_true true = refl
both_true false = refl

-- no pattern marks nothing, and a pattern its variable
pub no_pattern : (d j : ℕ) (p : Bool) (ms : List Bool) → p ≡ false → ms ≡ marked d (λ i. both (same_number j i) p) ms
no_pattern d j p ms e = sym (ap (λ b. marked d (λ i. both (same_number j i) b) ms) e ∙ marked_nothing d (λ i. both (same_number j i) false) ms (λ i. both_false (same_number j i)))

pub a_pattern : (d j : ℕ) (p : Bool) (ms ns : List Bool) → p ≡ true → ns ≡ marked d (λ i. same_number j i) ms → ns ≡ marked d (λ i. both (same_number j i) p) ms
a_pattern d j p ms ns e f = f ∙ ap (λ g. marked d g ms) (fun_ext (λ i. sym (both_true (same_number j i)))) ∙ ap (λ b. marked d (λ i. both (same_number j i) b) ms) (sym e)

-- Chosen places.

pub not_chosen : (B F : ℕ → Bool) (d : ℕ) (b : Bool) (M : Term) (ms : List Bool) → b ≡ false → ms ≡ marked d (λ i. both b (strict B F i M)) ms
not_chosen B F d b M ms e = sym (ap (λ t. marked d (λ i. both t (strict B F i M)) ms) e ∙ marked_nothing d (λ i. false) ms (λ i. refl))

pub chosen_one : (B F : ℕ → Bool) (d : ℕ) (b : Bool) (M : Term) (ms ns : List Bool) → b ≡ true → ns ≡ marked d (λ i. strict B F i M) ms → ns ≡ marked d (λ i. both b (strict B F i M)) ms
chosen_one B F d b M ms ns e f = f ∙ ap (λ t. marked d (λ i. both t (strict B F i M)) ms) (sym e)

place_at : (B F : ℕ → Bool) (i k : ℕ) (m : List Bool) (M : Term) (R : Spine) → either (both (get_or m k false) (strict B F i M)) (strict_at (drop (suc k) m) B F i R) ≡ strict_at (drop k m) B F i (app M R)
place_at B F i zero [] M R = refl
place_at B F i (suc k) [] M R = refl
place_at B F i zero (true ∷ m) M R = refl
place_at B F i zero (false ∷ m) M R = refl
place_at B F i (suc k) (b ∷ m) M R = place_at B F i k m M R

pub place_next : (B F : ℕ → Bool) (d k : ℕ) (m : List Bool) (S R : Spine) (M : Term) (ms ns : List Bool) → S ≡ app M R → ns ≡ marked d (λ i. both (get_or m k false) (strict B F i M)) ms → marked d (λ i. strict_at (drop (k + 1) m) B F i R) ns ≡ marked d (λ i. strict_at (drop k m) B F i S) ms
place_next B F d k m S R M ms ns e f =
    ap (λ n. marked d (λ i. strict_at (drop n m) B F i R) ns) (let q : k + 1 ≡ suc k = omega arith in q)
    ∙ ap (marked d (λ i. strict_at (drop (suc k) m) B F i R)) f
    ∙ marked_twice d (λ i. both (get_or m k false) (strict B F i M)) (λ i. strict_at (drop (suc k) m) B F i R) ms
    ∙ ap (λ g. marked d g ms) (fun_ext (λ i. place_at B F i k m M R))
    ∙ ap (λ T. marked d (λ i. strict_at (drop k m) B F i T) ms) (sym e)

no_places : (B F : ℕ → Bool) (i : ℕ) (m : List Bool) → strict_at m B F i nil ≡ false
no_places B F i [] = refl
no_places B F i (b ∷ m) = refl

pub places_done : (B F : ℕ → Bool) (d k : ℕ) (m : List Bool) (ts : List RustTerm) (S : Spine) (ms ns : List Bool) → length ts ≤ k → marked d (λ i. strict_at (drop k m) B F i (args_of (drop k ts))) ns ≡ marked d (λ i. strict_at m B F i (args_of ts)) ms → S ≡ args_of ts → ns ≡ marked d (λ i. strict_at m B F i S) ms
places_done B F d k m ts S ms ns h e f =
    sym (marked_nothing d (λ i. strict_at (drop k m) B F i nil) ns (λ i. no_places B F i (drop k m)))
    ∙ ap (λ xs. marked d (λ i. strict_at (drop k m) B F i (args_of xs)) ns) (sym (drop_of_length-le ts h))
    ∙ e ∙ ap (λ T. marked d (λ i. strict_at m B F i T) ms) (sym f)

pub goal_inside : (m : List Bool) (B F B' F' : ℕ → Bool) (d e : ℕ) (T A C : LfType) (ms ns : List Bool) → T ≡ pi A C → e ≡ suc d → B' ≡ under B → F' ≡ hide F → length ms ≤ d → ns ≡ marked e (λ i. strict_goal m B' F' i C) ms → ns ≡ marked d (λ i. strict_goal m B F i T) ms
goal_inside m B F B' F' d e T A C ms ns q f b h l k =
    k ∙ ap (λ n. marked n (λ i. strict_goal m B' F' i C) ms) f
    ∙ ap (λ X. marked (suc d) (λ i. strict_goal m X F' i C) ms) b
    ∙ ap (λ X. marked (suc d) (λ i. strict_goal m (under B) X i C) ms) h
    ∙ marked_shift (λ i. strict_goal m (under B) (hide F) i C) d ms l
    ∙ ap (λ X. marked d (λ i. strict_goal m B F i X) ms) (sym q)

pub goal_atom : (m : List Bool) (B F : ℕ → Bool) (d a : ℕ) (T : LfType) (S : Spine) (ms ns : List Bool) → T ≡ atom a S → ns ≡ marked d (λ i. strict_at m B F i S) ms → ns ≡ marked d (λ i. strict_goal m B F i T) ms
goal_atom m B F d a T S ms ns q e = e ∙ ap (λ X. marked d (λ i. strict_goal m B F i X) ms) (sym q)
