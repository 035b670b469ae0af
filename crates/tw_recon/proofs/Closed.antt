-- One more variable closed over.
use Rattle.std.proofs.Common.{◌≡◌, ℕ, zero, suc, ◌+◌, ◌<◌, List, [], ◌∷◌, length, drop, Some, refl, sym, ap, ◌∙◌, subst, arith}
use Rattle.std.specs.List.{slice_get}
use Rattle.std.proofs.lemmas.List.{drop_all}
use Rattle.lf.specs.Entries.{Body, BodyIsTyped, declare_constant, declare_definition, declare_family}
use Rattle.lf.specs.Syntax.{Kind, LfType, Term, kind_pi, lambda, pi}
use Rattle.lf.specs.Typing.{HasType, IsContext, IsKind, IsType, Signature}
use Rattle.lf_elaboration.specs.Kinds.{kind_over}
use Rattle.lf_elaboration.specs.Principal.{BodyIsTypedIn, body_over}
use Rattle.lf_unification.specs.Offering.{lambda_over, pi_over}
use Rattle.tw_recon.proofs.Steps.{steps}

-- what is left, and its first
pub drop_first : (D : List LfType) (i : ℕ) (A : LfType) → Some A ≡ slice_get D i → drop i D ≡ A ∷ drop (i + 1) D
drop_first [] i A e = absurd cc
drop_first (B ∷ D) zero A e = let p : A ≡ B = cc in ap (λ X. X ∷ D) (sym p)
drop_first (B ∷ D) (suc i) A e = let n : suc (i + 1) ≡ suc i + 1 = omega arith in drop_first D i A e ∙ ap (λ k. A ∷ drop k (B ∷ D)) n

pub type_step : (D : List LfType) (i : ℕ) (A P : LfType) → Some A ≡ slice_get D i → pi_over (drop (i + 1) D) (pi A P) ≡ pi_over (drop i D) P
type_step D i A P g = sym (ap (λ E. pi_over E P) (drop_first D i A g))

pub kind_step : (D : List LfType) (i : ℕ) (A : LfType) (K : Kind) → Some A ≡ slice_get D i → kind_over (drop (i + 1) D) (kind_pi A K) ≡ kind_over (drop i D) K
kind_step D i A K g = sym (ap (λ E. kind_over E K) (drop_first D i A g))

-- and a lambda
pub term_step : (D : List LfType) (i : ℕ) (M : Term) → i < length D → lambda_over (drop (i + 1) D) (lambda M) ≡ lambda_over (drop i D) M
term_step [] i M h = absurd (omega arith)
term_step (A ∷ D) zero M h = refl
term_step (A ∷ D) (suc i) M h = let n : suc i + 1 ≡ suc (i + 1) = omega arith in let l : i < length D = omega arith in ap (λ k. lambda_over (drop k (A ∷ D)) (lambda M)) n ∙ term_step D i M l

-- and all of them
pub all_dropped : (D : List LfType) → drop (length D) D ≡ []
all_dropped D = drop_all (length D) D (omega arith)

-- what is typed over a context is typed closed over it
module _ (Σ : Signature) where
  closed_type_over : (F : List LfType) (A : LfType) → IsContext Σ F → IsType Σ F A → IsType Σ [] (pi_over F A)
  closed_type_over [] A w a = a
  closed_type_over (B ∷ F) A (w, b) a = closed_type_over F (pi B A) w (b, a)

  closed_kind_over : (F : List LfType) (K : Kind) → IsContext Σ F → IsKind Σ F K → IsKind Σ [] (kind_over F K)
  closed_kind_over [] K w k = k
  closed_kind_over (B ∷ F) K (w, b) k = closed_kind_over F (kind_pi B K) w (b, k)

  closed_term_over : (F : List LfType) (R : Term) (A : LfType) → HasType Σ F R A → HasType Σ [] (lambda_over F R) (pi_over F A)
  closed_term_over [] R A r = r
  closed_term_over (B ∷ F) R A r = closed_term_over F (lambda R) (pi B A) r

  pub closed_typed : (F : List LfType) (b c : Body) → c ≡ body_over F b → IsContext Σ F → BodyIsTypedIn Σ F b → BodyIsTyped Σ c
  closed_typed F b c e w t = subst (BodyIsTyped Σ) (sym e) (typed b t)
    where
      typed : (b : Body) → BodyIsTypedIn Σ F b → BodyIsTyped Σ (body_over F b)
      typed (declare_family K) k = closed_kind_over F K w k
      typed (declare_constant A) a = closed_type_over F A w a
      typed (declare_definition N A d) (a, m) = (closed_type_over F A w a, closed_term_over F N A m)

pub ruleset closings = (steps, type_step, kind_step, term_step, all_dropped)
