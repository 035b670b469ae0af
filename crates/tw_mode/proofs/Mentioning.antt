-- The variables that occur in chosen places, one argument after the other.
use Rattle.std.proofs.Common.{◌≡◌, ℕ, zero, suc, ◌+◌, ◌≤◌, List, [], ◌∷◌, Bool, true, false, length, drop, get_or, refl, sym, ap, ◌∙◌, arith}
use Rattle.std.proofs.Math.ListN.{drop_of_length-le}
use Rattle.lf.specs.Syntax.{Term, Spine, nil, app, LfType, pi, atom}
use Rattle.lf_unification.specs.Search.{occurs}
use Rattle.lf_checks.specs.Modes.{occurs_at, occurs_goal}
use Rattle.lf_checks.specs.Tests.{both, either}
use Rattle.tw_signature.specs.Marks.{marked}
use Rattle.tw_signature.proofs.Marking.{marked_twice, marked_nothing, marked_shift}
use Rattle.tw_terms.specs.View.{args_of}
use Rattle.tw_terms.specs.declared.canonical.Term.{Term as RustTerm}
use mathlib.Core.Path.{fun_ext}

pub not_chosen : (d : ℕ) (b : Bool) (M : Term) (ms : List Bool) → b ≡ false → ms ≡ marked d (λ i. both b (occurs i M)) ms
not_chosen d b M ms e = sym (ap (λ t. marked d (λ i. both t (occurs i M)) ms) e ∙ marked_nothing d (λ i. false) ms (λ i. refl))

pub chosen_one : (d : ℕ) (b : Bool) (M : Term) (ms ns : List Bool) → b ≡ true → ns ≡ marked d (λ i. occurs i M) ms → ns ≡ marked d (λ i. both b (occurs i M)) ms
chosen_one d b M ms ns e f = f ∙ ap (λ t. marked d (λ i. both t (occurs i M)) ms) (sym e)

place_at : (i k : ℕ) (m : List Bool) (M : Term) (R : Spine) → either (both (get_or m k false) (occurs i M)) (occurs_at (drop (suc k) m) i R) ≡ occurs_at (drop k m) i (app M R)
place_at i zero [] M R = refl
place_at i (suc k) [] M R = refl
place_at i zero (true ∷ m) M R = refl
place_at i zero (false ∷ m) M R = refl
place_at i (suc k) (b ∷ m) M R = place_at i k m M R

pub place_next : (d k : ℕ) (m : List Bool) (S R : Spine) (M : Term) (ms ns : List Bool) → S ≡ app M R → ns ≡ marked d (λ i. both (get_or m k false) (occurs i M)) ms → marked d (λ i. occurs_at (drop (k + 1) m) i R) ns ≡ marked d (λ i. occurs_at (drop k m) i S) ms
place_next d k m S R M ms ns e f =
    ap (λ n. marked d (λ i. occurs_at (drop n m) i R) ns) (let q : k + 1 ≡ suc k = omega arith in q)
    ∙ ap (marked d (λ i. occurs_at (drop (suc k) m) i R)) f
    ∙ marked_twice d (λ i. both (get_or m k false) (occurs i M)) (λ i. occurs_at (drop (suc k) m) i R) ms
    ∙ ap (λ g. marked d g ms) (fun_ext (λ i. place_at i k m M R))
    ∙ ap (λ T. marked d (λ i. occurs_at (drop k m) i T) ms) (sym e)

no_places : (i : ℕ) (m : List Bool) → occurs_at m i nil ≡ false
no_places i [] = refl
no_places i (b ∷ m) = refl

pub places_done : (d k : ℕ) (m : List Bool) (ts : List RustTerm) (S : Spine) (ms ns : List Bool) → length ts ≤ k → marked d (λ i. occurs_at (drop k m) i (args_of (drop k ts))) ns ≡ marked d (λ i. occurs_at m i (args_of ts)) ms → S ≡ args_of ts → ns ≡ marked d (λ i. occurs_at m i S) ms
places_done d k m ts S ms ns h e f =
    sym (marked_nothing d (λ i. occurs_at (drop k m) i nil) ns (λ i. no_places i (drop k m)))
    ∙ ap (λ xs. marked d (λ i. occurs_at (drop k m) i (args_of xs)) ns) (sym (drop_of_length-le ts h))
    ∙ e ∙ ap (λ T. marked d (λ i. occurs_at m i T) ms) (sym f)

pub goal_inside : (m : List Bool) (d e : ℕ) (T A C : LfType) (ms ns : List Bool) → T ≡ pi A C → e ≡ suc d → length ms ≤ d → ns ≡ marked e (λ i. occurs_goal m i C) ms → ns ≡ marked d (λ i. occurs_goal m i T) ms
goal_inside m d e T A C ms ns q f l k =
    k ∙ ap (λ n. marked n (λ i. occurs_goal m i C) ms) f
    ∙ marked_shift (λ i. occurs_goal m i C) d ms l
    ∙ ap (λ X. marked d (λ i. occurs_goal m i X) ms) (sym q)

pub goal_atom : (m : List Bool) (d a : ℕ) (T : LfType) (S : Spine) (ms ns : List Bool) → T ≡ atom a S → ns ≡ marked d (λ i. occurs_at m i S) ms → ns ≡ marked d (λ i. occurs_goal m i T) ms
goal_atom m d a T S ms ns q e = e ∙ ap (λ X. marked d (λ i. occurs_goal m i X) ms) (sym q)
