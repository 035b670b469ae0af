-- The root of a search, step by step.
use Rattle.std.proofs.Common.{◌≡◌, ℕ, zero, suc, ◌+◌, ◌-◌, ◌<◌, ◌≤◌, List, [], ◌∷◌, drop, length, length-append, map, Result, Ok, Err, OnOk, Option, Some, refl, sym, ap, ap₂, ◌∙◌, subst, arith}
use Rattle.std.proofs.lemmas.List.{length-drop}
use mathlib.Core.Path.{fun_ext}
use Rattle.std.specs.List.{slice_get}
use Rattle.lf.specs.Syntax.{Head, LfType, Spine, Term, app, lambda, metavariable, pi, rename_head, root, variable}
use Rattle.lf_search.specs.Goals.{metavariables_of, over_metavariables, spine_with_heads, type_with_heads, under_head, variable_heads, with_heads}
use Rattle.lf_unification.specs.OpenTyping.{set_at}
use Rattle.tw_metas.specs.State.{State, empty_state, with_declared}
use Rattle.tw_putting.specs.Stores.{types_of}
use Rattle.tw_putting.proofs.Changes.{consistent_with_declared, types_with_declared}
use Rattle.tw_terms.specs.View.{args_of, spine_from, term_of}
use Rattle.tw_terms.specs.declared.canonical.Term.{Term as ClosedTerm}
use Rattle.tw_terms.proofs.Args.{types_and_skeletons}
use Rattle.tw_terms.proofs.OpenArgs.{open_types}
use Rattle.tw_search.specs.Roots.{IsDeclaredAs, head_with, heads_at, heads_inside}

-- a variable under binders
inside_bound : (b : ℕ) (h : ℕ → Head) (i : ℕ) → i < b → heads_inside b h i ≡ variable i
inside_bound zero h i l = absurd (omega arith)
inside_bound (suc b) h zero l = refl
inside_bound (suc b) h (suc i) l = ap (rename_head suc) (inside_bound b h i (omega arith))

pub inside_itself : (b n i : ℕ) → i < b → variable i ≡ heads_at n b i
unfolding heads_at
inside_itself b n i l = sym (inside_bound b (head_with n) i l)

move : ℕ → Head → Head
move zero h = h
move (suc b) h = rename_head suc (move b h)

outside_of : (b : ℕ) (h : ℕ → Head) (j : ℕ) → heads_inside b h (b + j) ≡ move b (h j)
unfolding move
outside_of zero h j = ap h (omega arith)
outside_of (suc b) h j = let n : suc b + j ≡ suc (b + j) = omega arith in ap (under_head (heads_inside b h)) n ∙ ap (rename_head suc) (outside_of b h j)

moved_meta : (b m : ℕ) → move b (metavariable m) ≡ metavariable m
unfolding move
moved_meta zero m = refl
moved_meta (suc b) m = ap (rename_head suc) (moved_meta b m)

moved_variable : (b i : ℕ) → move b (variable i) ≡ variable (b + i)
unfolding move
moved_variable zero i = ap variable (omega arith)
moved_variable (suc b) i = let n : suc (b + i) ≡ suc b + i = omega arith in ap (rename_head suc) (moved_variable b i) ∙ ap variable n

within_count : (n j : ℕ) → j < n → head_with n j ≡ metavariable (n - 1 - j)
within_count zero j l = absurd (omega arith)
within_count (suc n) zero l = let e : n ≡ suc n - 1 - zero = omega arith in ap metavariable e
within_count (suc n) (suc j) l = let e : n - 1 - j ≡ suc n - 1 - suc j = omega arith in within_count n j (omega arith) ∙ ap metavariable e

past_count : (n j : ℕ) → n ≤ j → head_with n j ≡ variable (j - n)
past_count zero j l = let e : j ≡ j - zero = omega arith in ap variable e
past_count (suc n) zero l = absurd (omega arith)
past_count (suc n) (suc j) l = let e : j - n ≡ suc j - suc n = omega arith in past_count n j (omega arith) ∙ ap variable e

pub inside_meta : (b n i : ℕ) → b ≤ i → i - b < n → metavariable (n - 1 - (i - b)) ≡ heads_at n b i
unfolding heads_at
inside_meta b n i l h =
    let e : b + (i - b) ≡ i = omega arith in
    sym (ap (heads_inside b (head_with n)) (sym e) ∙ outside_of b (head_with n) (i - b) ∙ ap (move b) (within_count n (i - b) h) ∙ moved_meta b (n - 1 - (i - b)))

pub inside_past : (b n i : ℕ) → b ≤ i → n ≤ i - b → variable (i - n) ≡ heads_at n b i
unfolding heads_at
inside_past b n i l h =
    let e : b + (i - b) ≡ i = omega arith in
    let d : b + (i - b - n) ≡ i - n = omega arith in
    sym (ap (heads_inside b (head_with n)) (sym e) ∙ outside_of b (head_with n) (i - b) ∙ ap (move b) (past_count n (i - b) h) ∙ moved_variable b (i - b - n) ∙ ap variable d)

-- the heads of a context
heads_of_context : (G : List LfType) (i : ℕ) → variable_heads G i ≡ head_with (length G) i
heads_of_context [] i = refl
heads_of_context (A ∷ G) zero = refl
heads_of_context (A ∷ G) (suc i) = heads_of_context G i

pub over_context : (G : List LfType) (n : ℕ) (A : LfType) → length G ≡ n → type_with_heads (heads_at n zero) A ≡ over_metavariables G A
unfolding heads_at
over_context G n A e = ap (λ h. type_with_heads h A) (fun_ext (λ i. ap (λ k. head_with k i) (sym e) ∙ sym (heads_of_context G i)))

-- one variable more
pub declared_more : (G : List LfType) (A Y : LfType) (E : List LfType) (s t : State) → Y ≡ over_metavariables G A → t ≡ with_declared s E Y → IsDeclaredAs G s → IsDeclaredAs (A ∷ G) t
declared_more G A Y E s t y e d = subst (IsDeclaredAs (A ∷ G)) (sym e) (record {
  types = types_with_declared s E Y ∙ ap₂ (λ n (f : ℕ → Option LfType). set_at n (Some Y) f) d.count d.types ∙ ap (λ X. set_at (length G) (Some X) (metavariables_of G)) y;
  count = length-append s.declared (record { context = E; of_type = Y } ∷ []) ∙ (let c = d.count in omega (arith, c));
  bound = d.bound;
  equations = d.equations;
  consistent = consistent_with_declared s E Y d.consistent;
})

pub nothing_declared : IsDeclaredAs [] empty_state
nothing_declared = record {
  types = fun_ext (λ m. none_there m);
  count = refl;
  bound = refl;
  equations = refl;
  consistent = record { places = refl; bound_have_values = λ m i. absurd i; values_are_bound = λ m N e. absurd cc; distinct = tt };
}
  where
    none_there : (m : ℕ) → types_of empty_state m ≡ metavariables_of [] m
    none_there zero = refl
    none_there (suc m) = refl

-- the variables from one on
pub drop_one : (G : List LfType) (i : ℕ) (A : LfType) → Some A ≡ slice_get G i → drop i G ≡ A ∷ drop (i + 1) G
drop_one [] i A e = absurd cc
drop_one (B ∷ G) zero A e = let p : A ≡ B = cc in ap (λ X. X ∷ G) (sym p)
drop_one (B ∷ G) (suc i) A e = let n : suc (i + 1) ≡ suc i + 1 = omega arith in drop_one G i A e ∙ ap (λ k. A ∷ drop k (B ∷ G)) n

-- what stands for parts
pub heads_under_lambda : (b n m : ℕ) (T M B R : Term) → n ≡ suc b → T ≡ lambda M → B ≡ with_heads (heads_at m n) M → R ≡ lambda B → R ≡ with_heads (heads_at m b) T
unfolding heads_at
heads_under_lambda b n m T M B R e t i r = r ∙ ap lambda (i ∙ ap (λ k. with_heads (heads_inside k (head_with m)) M) e) ∙ sym (ap (with_heads (heads_inside b (head_with m))) t)

pub heads_in_product : (b n m : ℕ) (T A B X Y R : LfType) → n ≡ suc b → T ≡ pi A B → X ≡ type_with_heads (heads_at m b) A → Y ≡ type_with_heads (heads_at m n) B → R ≡ pi X Y → R ≡ type_with_heads (heads_at m b) T
unfolding heads_at
heads_in_product b n m T A B X Y R e t x y r = r ∙ ap₂ pi x (y ∙ ap (λ k. type_with_heads (heads_inside k (head_with m)) B) e) ∙ sym (ap (type_with_heads (heads_inside b (head_with m))) t)

pub root_with_heads : (h : ℕ → Head) (T : Term) (i : ℕ) (S U : Spine) (g : Head) (R : Term) → T ≡ root (variable i) S → U ≡ spine_with_heads h S → g ≡ h i → R ≡ root g U → R ≡ with_heads h T
root_with_heads h T i S U g R t u e r = r ∙ ap₂ root e u ∙ sym (ap (with_heads h) t)

pub on_ok : {T E P Q : Type 0} (r : Result T E) → (P → Q) → OnOk r P → OnOk r Q
on_ok (Ok x) f p = f p
on_ok (Err e) f p = tt

pub same_length : (G : List LfType) (n i : ℕ) → n ≡ length G → i ≤ n → length (drop (n - i) G) ≡ i
same_length G n i e h = length-drop (n - i) G ∙ (omega (arith, e, h))

-- arguments
pub spine_with_heads-args_of : (h : ℕ → Head) (ts : List ClosedTerm) → spine_with_heads h (args_of ts) ≡ spine_from (map (λ t. with_heads h (term_of t)) ts)
spine_with_heads-args_of h [] = refl
spine_with_heads-args_of h (t ∷ ts) = ap (app (with_heads h (term_of t))) (spine_with_heads-args_of h ts)

pub ruleset rooting = (types_and_skeletons, open_types, spine_with_heads-args_of)
