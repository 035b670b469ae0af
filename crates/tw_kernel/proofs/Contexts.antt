-- The outer parts of a context.
use Rattle.std.proofs.Common.{◌≡◌, ℕ, zero, suc, List, [], ◌∷◌, drop, Some, inl, inr, sym, ap, ◌∙◌, subst}
use Rattle.std.specs.List.{slice_get}
use Rattle.lf.specs.Syntax.{LfType}
use Rattle.lf.specs.Depth.{depth_limit}
use Rattle.lf.specs.DeepTyping.{TypeReachesDeep, ContextReachesDeep}
use Rattle.lf.specs.Typing.{Signature, IsType, IsContext}
use Rattle.tw_kernel.specs.Outcome.{Blames}
use Rattle.tw_kernel.specs.declared.fault.Fault.{Fault}
use Rattle.tw_kernel.proofs.Spines.{blames_map}

some_inj : {X : Type 0} {x y : X} → Some x ≡ Some y → x ≡ y
some_inj e = cc

-- the outer part with one more variable
pub one_inner : (G : List LfType) (i : ℕ) (A : LfType) → slice_get G i ≡ Some A → drop i G ≡ A ∷ drop (suc i) G
one_inner [] i A e = absurd cc
one_inner (X ∷ G) zero A e = ap (λ Y. Y ∷ G) (some_inj e)
one_inner (X ∷ G) (suc i) A e = one_inner G i A e

module _ (Σ : Signature) where
  outer_context : (n : ℕ) (G : List LfType) → IsContext Σ G → IsContext Σ (drop n G)
  outer_context zero G g = g
  outer_context (suc n) [] g = g
  outer_context (suc n) (X ∷ G) (g, x) = outer_context n G g

  outer_deep : (n : ℕ) (G : List LfType) → ContextReachesDeep depth_limit Σ (drop n G) → ContextReachesDeep depth_limit Σ G
  outer_deep zero G d = d
  outer_deep (suc n) [] d = d
  outer_deep (suc n) (X ∷ G) d = inl (outer_deep n G d)

  -- a fault at one variable is one of the context
  pub variable_refused : (f : Fault) (i : ℕ) (G H : List LfType) (A : LfType) → slice_get G i ≡ Some A → H ≡ drop (suc i) G → IsContext Σ H → Blames f (IsType Σ H A) (TypeReachesDeep depth_limit Σ H A)
      → Blames f (IsContext Σ G) (ContextReachesDeep depth_limit Σ G)
  variable_refused f i G H A e is g =
      let inner : drop i G ≡ A ∷ H = one_inner G i A e ∙ ap (λ X. A ∷ X) (sym is) in
      blames_map f _ _ _ _ (λ c. (subst (IsContext Σ) inner (outer_context i G c)).1) (λ d. outer_deep i G (subst (ContextReachesDeep depth_limit Σ) (sym inner) (inr (g, d))))
