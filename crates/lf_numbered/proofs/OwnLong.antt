-- Eta-long forms of variables and of constants on own terms are on own terms.
use Rattle.std.proofs.Common.{◌≡◌, ℕ, zero, suc, List, [], ◌∷◌, Option, Some, None, refl, sym, ap, ◌∙◌, subst}
use Rattle.lf.specs.Syntax.{constant, variable, Term, Spine, nil, app, LfType, Skeleton, base, arrow, skeleton, rename_spine, weaken}
use Rattle.lf.specs.Substitution.{Image, keep, put}
use Rattle.lf.specs.Eta.{add_last, append, eta_expand}
use Rattle.lf.specs.Typing.{TypeAt}
use Rattle.lf_cases.specs.Case.{as_term}
use Rattle.lf_numbered.specs.NumberedCase.{some_spine}
use Rattle.lf_numbered.specs.OwnTerms.{weaken_own, BeginsWith, OnOwnTerms, SpineOnOwnTerms, ImageOnOwnTerms}
use Rattle.lf_numbered.proofs.OwnTerms.{begins_renamed, spine_renamed, own_as_renamed}

-- Own terms of eta-long forms
pub own_add : (o : ℕ → Option Spine) (S : Spine) (N : Term) → SpineOnOwnTerms o S → OnOwnTerms o N → SpineOnOwnTerms o (add_last S N)
own_add o nil N s n = (n, tt)
own_add o (app M S) N (m, s) n = (m, own_add o S N s n)

add_append : (U V : Spine) (N : Term) → add_last (append U V) N ≡ append U (add_last V N)
add_append nil V N = refl
add_append (app M U) V N = ap (app M) (add_append U V N)

begins_add : (u : Option Spine) (S : Spine) (N : Term) → BeginsWith u S → BeginsWith u (add_last S N)
begins_add None S N b = tt
begins_add (Some U) S N (V, q) = (add_last V N, ap (λ T. add_last T N) q ∙ add_append U V N)

pub variable_own : (o : ℕ → Option Spine) (a : Skeleton) (j : ℕ) (T : Spine) → SpineOnOwnTerms o T → OnOwnTerms o (eta_expand a (variable j) T)
variable_own o (base c) j T s = s
variable_own o (arrow a b) j T s = variable_own (λ c. weaken_own (o c)) b (suc j) (add_last (rename_spine suc T) (eta_expand a (variable zero) nil)) (own_add (λ c. weaken_own (o c)) (rename_spine suc T) (eta_expand a (variable zero) nil) (spine_renamed o (λ c. weaken_own (o c)) suc T (λ c. own_as_renamed (o c)) s) (variable_own (λ c. weaken_own (o c)) a zero nil tt))

pub constant_own : (o : ℕ → Option Spine) (a : Skeleton) (c : ℕ) (T : Spine) → BeginsWith (o c) T → SpineOnOwnTerms o T → OnOwnTerms o (eta_expand a (constant c) T)
constant_own o (base d) c T b s = (b, s)
constant_own o (arrow a b) c T q s = constant_own (λ d. weaken_own (o d)) b c (add_last (rename_spine suc T) (eta_expand a (variable zero) nil))
    (begins_add (weaken_own (o c)) (rename_spine suc T) (eta_expand a (variable zero) nil) (subst (λ u. BeginsWith u (rename_spine suc T)) (sym (own_as_renamed (o c))) (begins_renamed suc (o c) T q)))
    (own_add (λ d. weaken_own (o d)) (rename_spine suc T) (eta_expand a (variable zero) nil) (spine_renamed o (λ d. weaken_own (o d)) suc T (λ d. own_as_renamed (o d)) s) (variable_own (λ d. weaken_own (o d)) a zero nil tt))

image_own : (o : ℕ → Option Spine) (a : Skeleton) (x : Image) → ImageOnOwnTerms o x → OnOwnTerms o (as_term a x)
image_own o a (keep j) h = variable_own o a j nil tt
image_own o a (put b N) h = h

pub some_all_own : (o : ℕ → Option Spine) (O : List LfType) (ψ : ℕ → Image) → ((i : ℕ) (A : LfType) → TypeAt O i A → ImageOnOwnTerms o (ψ i)) → SpineOnOwnTerms o (some_spine O ψ)
some_all_own o [] ψ h = tt
some_all_own o (A ∷ O) ψ h = own_add o (some_spine O (λ i. ψ (suc i))) (as_term (skeleton A) (ψ zero)) (some_all_own o O (λ i. ψ (suc i)) (λ i B g. h (suc i) (weaken B) (B, g, refl))) (image_own o (skeleton A) (ψ zero) (h zero (weaken A) refl))
