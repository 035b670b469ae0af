-- The eta-long form of a metavariable is a pattern.
use Rattle.std.proofs.Common.{◌≡◌, ℕ, zero, suc, List, [], ◌∷◌, length, refl, sym, ap, ◌∙◌, subst}
use Rattle.std.specs.Prelude.{Option, Some}
use Rattle.lf.specs.Eta.{arity, eta_arguments, eta_long, lambdas}
use Rattle.lf.specs.SkeletonTyping.{SkeletonAt}
use Rattle.lf.specs.Syntax.{variable, metavariable, Term, lambda, root, app, LfType, Skeleton, base, arrow, skeleton}
use Rattle.lf.specs.Typing.{Signature}
use Rattle.lf.proofs.AtOnce.{eta_at_once}
use Rattle.lf_unification.specs.Patterns.{PatternFits, context_under, extend_renaming, lambdas_of, past, pattern, pattern_renaming}
use Rattle.lf_unification.proofs.Shrink.{RenamingBySkeletons-past}
use Rattle.lf_coverage.specs.PatternStores.{IsPatternTerm}
use Rattle.lf_coverage.specs.TermMatching.{over}
use Rattle.lf_coverage.proofs.PatternMoves.{past_over}
use Rattle.lf_coverage.proofs.PatternSides.{closed}
use mathlib.Core.Path.{fun_ext}

-- the eta-long form of a metavariable
abbrev pub countdown : Skeleton → List ℕ
countdown (base c) = []
countdown (arrow a b) = arity b ∷ countdown b

pub past_suc : (t : Skeleton) (i : ℕ) → past t (suc i) ≡ suc (past t i)
past_suc (base c) i = refl
past_suc (arrow a b) i = past_suc b (suc i)

pub past_zero : (t : Skeleton) → past t zero ≡ arity t
past_zero (base c) = refl
past_zero (arrow a b) = past_suc b zero ∙ ap suc (past_zero b)

pub same_lambdas : (t : Skeleton) (M : Term) → lambdas (arity t) M ≡ lambdas_of t M
same_lambdas (base c) M = refl
same_lambdas (arrow a b) M = ap lambda (same_lambdas b M)

pub arguments_are : (t : Skeleton) → eta_arguments t ≡ pattern t (countdown t)
arguments_are (base c) = refl
arguments_are (arrow a b) = ap (app (eta_long a (variable (arity b)))) (arguments_are b)

pub fits_eta : (t : Skeleton) (Γ : List Skeleton) → PatternFits (context_under t Γ) t (countdown t)
fits_eta (base c) Γ = tt
fits_eta (arrow a b) Γ = (subst (λ i. SkeletonAt (context_under b (a ∷ Γ)) i a) (past_zero b) (RenamingBySkeletons-past b (a ∷ Γ) zero a refl), fits_eta b (a ∷ Γ))

next_past : (a b : Skeleton) (i : ℕ) → extend_renaming (arity b) (past (arrow a b)) i ≡ past b i
next_past a b zero = sym (past_zero b)
next_past a b (suc i) = refl

pub counted : (t : Skeleton) (i : ℕ) → pattern_renaming t (countdown t) (past t) i ≡ i
counted (base c) i = refl
counted (arrow a b) i = ap (λ τ. pattern_renaming b (countdown b) τ i) (fun_ext (next_past a b)) ∙ counted b i

pub eta_is_pattern : (Σ : Signature) (Ψ : ℕ → Option LfType) (n : ℕ) (A : LfType) → Ψ n ≡ Some A → IsPatternTerm Σ Ψ [] (eta_long (skeleton A) (metavariable n)) (skeleton A)
eta_is_pattern Σ Ψ n A e =
    let t : Skeleton = skeleton A in
    subst (λ M. IsPatternTerm Σ Ψ [] M t) (sym (eta_at_once t (metavariable n) ∙ same_lambdas t (root (metavariable n) (eta_arguments t)))) (closed Σ Ψ t [] (root (metavariable n) (eta_arguments t)) (
      A,
      e,
      refl,
      record {
        variables = countdown t;
        same = arguments_are t;
        places = fits_eta t [];
        distinct = λ i j q. sym (at t i) ∙ q ∙ at t j;
      },
    ))
  where
    at : (t : Skeleton) (i : ℕ) → pattern_renaming t (countdown t) (over (length (context_under t []))) i ≡ i
    at t i = ap (λ τ. pattern_renaming t (countdown t) τ i) (fun_ext (λ j. sym (past_over t [] j))) ∙ counted t i
