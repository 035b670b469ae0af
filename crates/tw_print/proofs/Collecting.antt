-- Arguments, collected one by one.
use Rattle.std.proofs.Common.{◌≡◌, ℕ, ◌≤◌, List, [], ◌∷◌, ◌++◌, map, drop, length, None, true, false, ◌||◌, refl, sym, ap, ap₂, ◌∙◌, subst, reverse, arith}
use Rattle.std.proofs.lemmas.List.{append-nil, reverse-append, reverse-reverse}
use Rattle.std.proofs.Math.ListN.{drop_of_length-le}
use Rattle.lf.specs.Syntax.{Term, Spine, nil, app, LfType, pi, atom, Skeleton, skeleton}
use Rattle.lf.specs.Substitution.{single, substitute_type, reduce}
use Rattle.lf.specs.Typing.{Signature}
use Rattle.tw_hered.specs.Fits.{TypeFits}
use Rattle.tw_terms.specs.View.{args_of, term_of}
use Rattle.tw_terms.specs.declared.canonical.Term.{Term as RustTerm}
use Rattle.tw_print.specs.Arguments as spec
use Rattle.tw_print.specs.ArgumentView.{argument_of, lambda_test, any_lambda}
use Rattle.tw_print.specs.Showable.{Takes}
use Rattle.tw_print.specs.declared.arguments.Argument.{Argument}

pushed : (xs : List Argument) (a : Argument) (rs : List spec.Argument) → map argument_of (xs ++ a ∷ []) ++ rs ≡ map argument_of xs ++ argument_of a ∷ rs
pushed [] a rs = refl
pushed (x ∷ xs) a rs = ap (λ ys. argument_of x ∷ ys) (pushed xs a rs)

pub finished : (xs : List Argument) (ys : List spec.Argument) → map argument_of xs ++ [] ≡ ys → map argument_of xs ≡ ys
finished xs ys e = sym (append-nil (map argument_of xs)) ∙ e

pub bare_step : (xs zs : List Argument) (a : Argument) (T R : Spine) (M : Term) (X : List spec.Argument) → T ≡ app M R → zs ≡ xs ++ a ∷ [] → argument_of a ≡ (M, None) → map argument_of xs ++ spec.bare_arguments T ≡ X → map argument_of zs ++ spec.bare_arguments R ≡ X
bare_step xs zs a T R M X e f g h =
    ap (λ ys. map argument_of ys ++ spec.bare_arguments R) f ∙ pushed xs a (spec.bare_arguments R)
    ∙ ap (λ b. map argument_of xs ++ b ∷ spec.bare_arguments R) g ∙ ap (λ U. map argument_of xs ++ spec.bare_arguments U) (sym e) ∙ h

pub bare_done : (xs : List Argument) (k : ℕ) (ts : List RustTerm) (X : List spec.Argument) → length ts ≤ k → map argument_of xs ++ spec.bare_arguments (args_of (drop k ts)) ≡ X → map argument_of xs ≡ X
bare_done xs k ts X l h = finished xs X (ap (λ us. map argument_of xs ++ spec.bare_arguments (args_of us)) (sym (drop_of_length-le ts l)) ∙ h)

pub typed_step : (xs zs : List Argument) (a : Argument) (T R : Spine) (M : Term) (C A B D : LfType) (b : Skeleton) (X : List spec.Argument) → T ≡ app M R → C ≡ pi A B → zs ≡ xs ++ a ∷ [] → argument_of a ≡ spec.with_type M A
    → b ≡ skeleton A → D ≡ substitute_type reduce (single b M) B → map argument_of xs ++ spec.arguments C T ≡ X → map argument_of zs ++ spec.arguments D R ≡ X
typed_step xs zs a T R M C A B D b X e f g h i j k =
    ap (λ ys. map argument_of ys ++ spec.arguments D R) g ∙ pushed xs a (spec.arguments D R)
    ∙ ap₂ (λ x E. map argument_of xs ++ x ∷ spec.arguments E R) h (j ∙ ap (λ c. substitute_type reduce (single c M) B) i)
    ∙ ap₂ (λ E U. map argument_of xs ++ spec.arguments E U) (sym f) (sym e) ∙ k

pub typed_done : (xs : List Argument) (k : ℕ) (ts : List RustTerm) (C : LfType) (X : List spec.Argument) → length ts ≤ k → map argument_of xs ++ spec.arguments C (args_of (drop k ts)) ≡ X → map argument_of xs ≡ X
typed_done xs k ts C X l h = finished xs X (ap (λ us. map argument_of xs ++ spec.arguments C (args_of us)) (sym (drop_of_length-le ts l)) ∙ h)

module _ (Σ : Signature) (G : List LfType) where
  pub takes_at : (T R : Spine) (M : Term) (C A B : LfType) → T ≡ app M R → C ≡ pi A B → Takes Σ G T C → Takes Σ G (app M R) (pi A B)
  takes_at T R M C A B e f t = subst (λ X. Takes Σ G X (pi A B)) e (subst (Takes Σ G T) f t)

  pub takes_fit : (T R : Spine) (M : Term) (C A B : LfType) (b : Skeleton) → T ≡ app M R → C ≡ pi A B → b ≡ skeleton A → Takes Σ G T C → TypeFits (single b M) B
  takes_fit T R M C A B b e f i t = subst (λ c. TypeFits (single c M) B) (sym i) (takes_at T R M C A B e f t).2

  pub takes_rest : (T R : Spine) (M : Term) (C A B D : LfType) (b : Skeleton) → T ≡ app M R → C ≡ pi A B → b ≡ skeleton A → D ≡ substitute_type reduce (single b M) B → Takes Σ G T C → Takes Σ G R D
  takes_rest T R M C A B D b e f i j t = subst (Takes Σ G R) (sym (j ∙ ap (λ c. substitute_type reduce (single c M) B) i)) (takes_at T R M C A B e f t).3

  pub takes_no_atom : (T R : Spine) (M : Term) (C : LfType) (a : ℕ) (S : Spine) → T ≡ app M R → C ≡ atom a S → Takes Σ G T C → ⊥
  takes_no_atom T R M C a S e f t = subst (λ X. Takes Σ G X (atom a S)) e (subst (Takes Σ G T) f t)

pub lambda_found : (T S R : Spine) (M : Term) → T ≡ app M R → lambda_test M ≡ true → any_lambda T ≡ any_lambda S → true ≡ any_lambda S
lambda_found T S R M e y h = sym (ap (λ b. b || any_lambda R) y) ∙ sym (ap any_lambda e) ∙ h

pub lambda_next : (T S R : Spine) (M : Term) → T ≡ app M R → lambda_test M ≡ false → any_lambda T ≡ any_lambda S → any_lambda R ≡ any_lambda S
lambda_next T S R M e y h = sym (ap (λ b. b || any_lambda R) y) ∙ sym (ap any_lambda e) ∙ h

pub lambda_none : (k : ℕ) (ts : List RustTerm) → length ts ≤ k → any_lambda (args_of (drop k ts)) ≡ any_lambda (args_of ts) → false ≡ any_lambda (args_of ts)
lambda_none k ts l h = ap (λ us. any_lambda (args_of us)) (sym (drop_of_length-le ts l)) ∙ h

-- arguments that stand last first, without the first of them
pub popped_terms : (old new : List RustTerm) (x : RustTerm) → old ≡ new ++ x ∷ [] → args_of (reverse old) ≡ app (term_of x) (args_of (reverse new))
popped_terms old new x e = ap (λ ts. args_of (reverse ts)) e ∙ ap args_of (reverse-append new (x ∷ []))

-- no argument is collected yet
pub typed_begun : (xs : List Argument) (rest args : List RustTerm) (A : LfType) → xs ≡ [] → rest ≡ reverse args → map argument_of xs ++ spec.arguments A (args_of (reverse rest)) ≡ spec.arguments A (args_of args)
typed_begun xs rest args A e f = ap (λ us. map argument_of us ++ spec.arguments A (args_of (reverse rest))) e ∙ ap (λ ts. spec.arguments A (args_of (reverse ts))) f ∙ ap (λ ts. spec.arguments A (args_of ts)) (reverse-reverse args)

pub bare_begun : (xs : List Argument) (rest args : List RustTerm) → xs ≡ [] → rest ≡ reverse args → map argument_of xs ++ spec.bare_arguments (args_of (reverse rest)) ≡ spec.bare_arguments (args_of args)
bare_begun xs rest args e f = ap (λ us. map argument_of us ++ spec.bare_arguments (args_of (reverse rest))) e ∙ ap (λ ts. spec.bare_arguments (args_of (reverse ts))) f ∙ ap (λ ts. spec.bare_arguments (args_of ts)) (reverse-reverse args)

-- all are
none_left : (ts : List RustTerm) → length ts ≡ 0 → args_of (reverse ts) ≡ nil
none_left [] e = refl
none_left (t ∷ ts) e = absurd (omega (arith, e))

no_argument : (A : LfType) → spec.arguments A nil ≡ []
no_argument (pi A B) = refl
no_argument (atom a S) = refl

pub typed_all : (xs : List Argument) (ts : List RustTerm) (C : LfType) (X : List spec.Argument) → length ts ≡ 0 → map argument_of xs ++ spec.arguments C (args_of (reverse ts)) ≡ X → map argument_of xs ≡ X
typed_all xs ts C X l h = finished xs X (ap (λ us. map argument_of xs ++ us) (sym (ap (spec.arguments C) (none_left ts l) ∙ no_argument C)) ∙ h)

pub bare_all : (xs : List Argument) (ts : List RustTerm) (X : List spec.Argument) → length ts ≡ 0 → map argument_of xs ++ spec.bare_arguments (args_of (reverse ts)) ≡ X → map argument_of xs ≡ X
bare_all xs ts X l h = finished xs X (ap (λ us. map argument_of xs ++ us) (sym (ap spec.bare_arguments (none_left ts l))) ∙ h)

pub reversed_takes : (Σ : Signature) (G : List LfType) (A : LfType) (rest args : List RustTerm) → rest ≡ reverse args → Takes Σ G (args_of args) A → Takes Σ G (args_of (reverse rest)) A
reversed_takes Σ G A rest args e t = subst (λ ts. Takes Σ G (args_of ts) A) (sym (ap reverse e ∙ reverse-reverse args)) t
