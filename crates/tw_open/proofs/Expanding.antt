-- Eta-long forms as they are built, the variables in scope as arguments, and types closed over them.
use Rattle.std.proofs.Common.{◌≡◌, ℕ, zero, suc, ◌+◌, ◌<◌, ◌≤◌, List, [], ◌∷◌, ◌++◌, length, drop, Option, Some, None, refl, sym, ap, ap₂, ◌∙◌, arith, add-one, Vec, Global}
use Rattle.std.specs.List.{slice_get}
use Rattle.std.proofs.lemmas.List.{drop_all}
use Rattle.lf.specs.AtOnce.{shift_by}
use Rattle.lf.specs.Eta.{add_last, append, arity, eta_arguments, eta_expand, lambdas}
use Rattle.lf.specs.Syntax.{Head, LfType, Skeleton, Spine, Term, app, arrow, base, lambda, nil, pi, rename_head, rename_spine, root, skeleton, variable}
use Rattle.lf.proofs.AtOnce.{eta_expand_at_once}
use Rattle.lf.proofs.Eta.{rename_eta_expand}
use Rattle.lf_unification.specs.Offering.{local_arguments, pi_over}
use Rattle.lf_unification.specs.Patterns.{eta_variable, lambdas_of}
use Rattle.tw_terms.specs.OpenView.{open_args_of, open_head_of, open_term_of}
use Rattle.tw_terms.specs.declared.open_terms.Open.{Open, Root}
use Rattle.tw_terms.specs.declared.open_terms.OpenHead.{OpenHead}
use Rattle.tw_terms.specs.declared.open_terms.OpenSpine.{roll-OpenSpine}
use Rattle.tw_terms.proofs.OpenViews.{open_spine_of-roll, open_term_of-Root}
use Rattle.tw_prune.proofs.Walking.{append-nil, append-push}

pub root_of : (h : OpenHead) (v : Vec Open Global) → open_term_of (Root h (roll-OpenSpine (record { args = v }))) ≡ root (open_head_of h) (open_args_of v.items)
root_of h v = open_term_of-Root h (roll-OpenSpine (record { args = v })) ∙ ap (root (open_head_of h)) (open_spine_of-roll v)

lambdas_are : (t : Skeleton) (M : Term) → lambdas_of t M ≡ lambdas (arity t) M
lambdas_are (base c) M = refl
lambdas_are (arrow a b) M = ap lambda (lambdas_are b M)

-- the eta-long form, by its parts
pub expanded_form : (a : Skeleton) (h g : Head) (n : ℕ) (S T U : Spine) (M : Term) → n ≡ arity a → g ≡ rename_head (shift_by n) h → T ≡ rename_spine (shift_by n) S → U ≡ append T (eta_arguments a) → M ≡ root g U → lambdas_of a M ≡ eta_expand a h S
expanded_form a h g n S T U M e k t u m =
    let p : root g U ≡ root (rename_head (shift_by n) h) (append (rename_spine (shift_by n) S) (eta_arguments a)) = ap₂ root k (u ∙ ap (λ x. append x (eta_arguments a)) t) in
    ap (lambdas_of a) (m ∙ p ∙ ap (λ i. root (rename_head (shift_by i) h) (append (rename_spine (shift_by i) S) (eta_arguments a))) e)
    ∙ lambdas_are a (root (rename_head (shift_by (arity a)) h) (append (rename_spine (shift_by (arity a)) S) (eta_arguments a)))
    ∙ sym (eta_expand_at_once a h S)

-- the newest n variables of D as arguments, the oldest first
argument_of : Option LfType → ℕ → Spine → Spine
argument_of None k S = S
argument_of (Some A) k S = app (eta_variable (skeleton A) k) S

pub newest_arguments : ℕ → List LfType → Spine
newest_arguments zero D = nil
newest_arguments (suc k) D = argument_of (slice_get D k) k (newest_arguments k D)

older_with : (o : Option LfType) (k : ℕ) (A : LfType) (D : List LfType) → add_last (rename_spine suc (newest_arguments k D)) (eta_variable (skeleton A) zero) ≡ newest_arguments (suc k) (A ∷ D) →
    add_last (rename_spine suc (argument_of o k (newest_arguments k D))) (eta_variable (skeleton A) zero) ≡ argument_of o (suc k) (newest_arguments (suc k) (A ∷ D))
unfolding argument_of
older_with None k A D e = e
older_with (Some B) k A D e = ap₂ app (rename_eta_expand suc (skeleton B) (variable k) nil) e

one_older : (k : ℕ) (A : LfType) (D : List LfType) → add_last (rename_spine suc (newest_arguments k D)) (eta_variable (skeleton A) zero) ≡ newest_arguments (suc k) (A ∷ D)
unfolding newest_arguments argument_of
one_older zero A D = refl
one_older (suc k) A D = older_with (slice_get D k) k A D (one_older k A D)

pub all_arguments : (D : List LfType) → local_arguments D ≡ newest_arguments (length D) D
unfolding newest_arguments
all_arguments [] = refl
all_arguments (A ∷ D) =
    let n : suc (length D) ≡ length (A ∷ D) = omega arith in
    ap (λ S. add_last (rename_spine suc S) (eta_variable (skeleton A) zero)) (all_arguments D) ∙ one_older (length D) A D ∙ ap (λ k. newest_arguments k (A ∷ D)) n

pub start_arguments : (D : List LfType) (n : ℕ) → n ≡ length D → local_arguments D ≡ append nil (newest_arguments n D)
start_arguments D n e = all_arguments D ∙ ap (λ k. newest_arguments k D) (sym e)

pub next_argument : (D : List LfType) (n k : ℕ) (A : LfType) (ts us : List Open) (t : Open) (R : Spine) → n ≡ k + 1 → Some A ≡ slice_get D k → open_term_of t ≡ eta_variable (skeleton A) k → us ≡ ts ++ t ∷ [] → R ≡ append (open_args_of ts) (newest_arguments n D) → R ≡ append (open_args_of us) (newest_arguments k D)
unfolding newest_arguments argument_of
next_argument D n k A ts us t R e g m u r =
    let here : newest_arguments (suc k) D ≡ app (open_term_of t) (newest_arguments k D) = ap (λ o. argument_of o k (newest_arguments k D)) (sym g) ∙ ap (λ M. app M (newest_arguments k D)) (sym m) in
    r ∙ ap (λ j. append (open_args_of ts) (newest_arguments j D)) (e ∙ add-one k) ∙ ap (append (open_args_of ts)) here ∙ sym (append-push ts t (newest_arguments k D)) ∙ ap (λ l. append (open_args_of l) (newest_arguments k D)) (sym u)

pub no_more_arguments : (D : List LfType) (n : ℕ) (ts : List Open) (R : Spine) → n ≡ 0 → R ≡ append (open_args_of ts) (newest_arguments n D) → open_args_of ts ≡ R
unfolding newest_arguments
no_more_arguments D n ts R e r = sym (r ∙ ap (λ k. append (open_args_of ts) (newest_arguments k D)) e ∙ append-nil (open_args_of ts))

pub there_is : (D : List LfType) (i : ℕ) → i < length D → slice_get D i ≡ None → ⊥
there_is [] i h e = absurd (omega (arith, h))
there_is (A ∷ D) zero h e = cc
there_is (A ∷ D) (suc i) h e = there_is D i (omega (arith, h)) e

-- a type closed over more of the variables
pub drop_first : (D : List LfType) (i : ℕ) (A : LfType) → Some A ≡ slice_get D i → drop i D ≡ A ∷ drop (i + 1) D
drop_first [] i A e = absurd cc
drop_first (B ∷ D) zero A e = let p : A ≡ B = cc in ap (λ X. X ∷ D) (sym p)
drop_first (B ∷ D) (suc i) A e = let n : suc (i + 1) ≡ suc i + 1 = omega arith in drop_first D i A e ∙ ap (λ k. A ∷ drop k (B ∷ D)) n

pub close_one : (D : List LfType) (i : ℕ) (A P Q R : LfType) → Some A ≡ slice_get D i → Q ≡ pi A P → R ≡ pi_over (drop i D) P → R ≡ pi_over (drop (i + 1) D) Q
close_one D i A P Q R g q r = r ∙ ap (λ E. pi_over E P) (drop_first D i A g) ∙ ap (pi_over (drop (i + 1) D)) (sym q)

pub closed_step : (D : List LfType) (i : ℕ) (A P : LfType) → Some A ≡ slice_get D i → pi_over (drop (i + 1) D) (pi A P) ≡ pi_over (drop i D) P
closed_step D i A P g = sym (ap (λ E. pi_over E P) (drop_first D i A g))

pub all_closed : (D : List LfType) (i : ℕ) (P R : LfType) → length D ≤ i → R ≡ pi_over (drop i D) P → P ≡ R
all_closed D i P R h r = sym (r ∙ ap (λ E. pi_over E P) (drop_all i D h))

-- one more argument at the end
pub push_last : (ts : List Open) (t : Open) → open_args_of (ts ++ t ∷ []) ≡ add_last (open_args_of ts) (open_term_of t)
push_last [] t = refl
push_last (u ∷ ts) t = ap (app (open_term_of u)) (push_last ts t)
