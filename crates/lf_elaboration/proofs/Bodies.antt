-- What is declared of a solved store is typed.
use Rattle.std.proofs.Common.{◌≤◌, ◌+◌, List, [], ◌∷◌, length, arith}
use Rattle.lf.specs.Entries.{Body, declare_constant, declare_definition, declare_family, kind_quantifiers, quantifiers, signature_of}
use Rattle.lf.specs.Syntax.{Kind, LfType, Term, kind_pi, lambda, pi}
use Rattle.lf.specs.Typing.{HasType, IsContext, IsKind, IsType, Signature}
use Rattle.lf_unification.specs.Dependency.{free_context}
use Rattle.lf_unification.specs.Offering.{lambda_over, pi_over}
use Rattle.lf_unification.specs.OpenTyping.{skeletons_of}
use Rattle.lf_elaboration.specs.Kinds.{kind_over}
use Rattle.lf_elaboration.specs.Laws.{BodyMayStand, SolvedBodyIsTyped}
use Rattle.lf_elaboration.specs.Principal.{BodyIsTypedIn, body_over}
use Rattle.lf_elaboration.specs.PrincipalLaws.{PrincipalMayStand}
use Rattle.lf_elaboration.proofs.SolvedKinds.{solved_kind_typed}
use Rattle.lf_elaboration.proofs.SolvedTyped.{solved_term_typed, solved_type_typed}

module _ (Σ : Signature) where
  closed_type_over : (F : List LfType) (A : LfType) → IsContext Σ F → IsType Σ F A → IsType Σ [] (pi_over F A)
  closed_type_over [] A w a = a
  closed_type_over (B ∷ F) A (w, b) a = closed_type_over F (pi B A) w (b, a)

  closed_kind_over : (F : List LfType) (K : Kind) → IsContext Σ F → IsKind Σ F K → IsKind Σ [] (kind_over F K)
  closed_kind_over [] K w k = k
  closed_kind_over (B ∷ F) K (w, b) k = closed_kind_over F (kind_pi B K) w (b, k)

  closed_term_over : (F : List LfType) (R : Term) (A : LfType) → HasType Σ F R A → HasType Σ [] (lambda_over F R) (pi_over F A)
  closed_term_over [] R A r = r
  closed_term_over (B ∷ F) R A r = closed_term_over F (lambda R) (pi B A) r

quantifiers_over : (F : List LfType) (A : LfType) → length F + quantifiers A ≤ quantifiers (pi_over F A)
quantifiers_over [] A = omega arith
quantifiers_over (B ∷ F) A = let h = quantifiers_over F (pi B A) in omega (arith, h)

kind_quantifiers_over : (F : List LfType) (K : Kind) → length F + kind_quantifiers K ≤ kind_quantifiers (kind_over F K)
kind_quantifiers_over [] K = omega arith
kind_quantifiers_over (B ∷ F) K = let h = kind_quantifiers_over F (kind_pi B K) in omega (arith, h)

at_least : (F : List LfType) (A : LfType) → length F ≤ quantifiers (pi_over F A)
at_least F A = let h = quantifiers_over F A in omega (arith, h)

kind_at_least : (F : List LfType) (K : Kind) → length F ≤ kind_quantifiers (kind_over F K)
kind_at_least F K = let h = kind_quantifiers_over F K in omega (arith, h)

pub solved_body : SolvedBodyIsTyped
solved_body Σ ok s after w =
    let F : List LfType = free_context (skeletons_of after.metavariables) w.well_formed.order in (
      (λ A made. let (c, a) = solved_type_typed Σ ok s A made after w in (closed_type_over Σ F _ c a, at_least F _)),
      (λ R A b made.
          let (c, a) = solved_type_typed Σ ok s A made.of_type after w in
          ((closed_type_over Σ F _ c a, closed_term_over Σ F _ _ (solved_term_typed Σ ok s R A made after w)), at_least F _)),
      (λ K made. let (c, k) = solved_kind_typed Σ ok s K made after w in (closed_kind_over Σ F _ c k, kind_at_least F _)),
    )

-- and so is a principal completion
pub principal_stands : PrincipalMayStand
principal_stands es ts w c p = go c.body p.typed
  where
    go : (b : Body) → BodyIsTypedIn (signature_of es) c.quantifiers b → BodyMayStand (signature_of es) (length c.quantifiers) (body_over c.quantifiers b)
    go (declare_family K) k = (closed_kind_over (signature_of es) c.quantifiers K p.completion.context k, kind_at_least c.quantifiers K)
    go (declare_constant A) a = (closed_type_over (signature_of es) c.quantifiers A p.completion.context a, at_least c.quantifiers A)
    go (declare_definition N A b) (a, m) = ((closed_type_over (signature_of es) c.quantifiers A p.completion.context a, closed_term_over (signature_of es) c.quantifiers N A m), at_least c.quantifiers A)
