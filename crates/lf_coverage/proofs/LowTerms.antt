-- A term mentions only variables of families below its own, where types quantify over what is below.
use Rattle.std.proofs.Common.{◌≡◌, ℕ, zero, suc, List, ◌∷◌, refl, sym, ap, ap₂, ◌∙◌, subst}
use Rattle.std.specs.Prelude.{Bool, true, Some}
use Rattle.lf.specs.Syntax.{constant, variable, metavariable, Term, Spine, lambda, root, nil, app, LfType, pi, atom, Skeleton, skeleton}
use Rattle.lf.specs.Substitution.{Image, lift, single, substitute_type, reduce}
use Rattle.lf.specs.Typing.{Signature, TypeAt, instantiate_type, HasType, SpineType}
use Rattle.lf.specs.Variables.{target, under, Uses, UsesSpine, Within}
use Rattle.lf.proofs.Target.{target_of, target_renamed}
use Rattle.lf_coverage.specs.Subordinate.{QuantifiersAreBelow, AllQuantifiersAreBelow}
use Rattle.lf_coverage.proofs.Subordinate.{below_at}

module _ (Σ : Signature) (below : ℕ → ℕ → Bool) (through : (f g : ℕ) → below f g ≡ true → Within (below g) (below f)) (itself : (f : ℕ) → below f f ≡ true) (constants : (c : ℕ) (U : LfType) → Σ.types c ≡ Some U → QuantifiersAreBelow below U) where
  pub below_substituted : (r : Skeleton → Term → Spine → Term) (σ : ℕ → Image) (A : LfType) → QuantifiersAreBelow below A → QuantifiersAreBelow below (substitute_type r σ A)
  below_substituted r σ (pi A B) (q, a, b) = (ap₂ below (target_of r (lift σ) B) (target_of r σ A) ∙ q, below_substituted r σ A a, below_substituted r (lift σ) B b)
  below_substituted r σ (atom a T) q = tt

  pub spine_target : (G : List LfType) (S : Spine) (A C : LfType) → SpineType Σ G S A C → target A ≡ target C
  spine_target G nil A C e = ap target e
  spine_target G (app M S) (pi A B) C (m, s) = sym (target_of reduce (single (skeleton A) M) B) ∙ spine_target G S (instantiate_type A M B) C s
  spine_target G (app M S) (atom a T) C s = absurd s

  -- each variable whose family is below f is in U
  abbrev pub Low : List LfType → (ℕ → Bool) → ℕ → Type 0
  Low G U f = (i : ℕ) (X : LfType) → TypeAt G i X → below f (target X) ≡ true → U i ≡ true

  mutual
    -- a term mentions only variables whose families are below its own
    pub low_term : (G : List LfType) (U : ℕ → Bool) (M : Term) (A : LfType) → AllQuantifiersAreBelow below G → QuantifiersAreBelow below A → Low G U (target A) → HasType Σ G M A → Uses U M
    low_term G U (lambda M) (pi A B) g (q, a, b) h m = low_term (A ∷ G) (under U) M B (a, g) b at m
      where
        at : Low (A ∷ G) (under U) (target B)
        at zero X e l = refl
        at (suc i) X (Y, k, e) l = h i Y k (subst (λ f. below (target B) f ≡ true) (ap target e ∙ target_renamed suc Y) l)
    low_term G U (lambda M) (atom a T) g q h m = absurd m
    low_term G U (root k S) (pi A B) g q h m = absurd m
    low_term G U (root (constant c) S) (atom a T) g q h (X, k, s) = low_spine G U S X (atom a T) g (constants c X k) h s
    low_term G U (root (metavariable c) S) (atom a T) g q h (X, k, s) = absurd k
    low_term G U (root (variable i) S) (atom a T) g q h (X, k, s) = (h i X k (subst (λ f. below a f ≡ true) (sym (spine_target G S X (atom a T) s)) (itself a)), low_spine G U S X (atom a T) g (below_at below G g i X k) h s)

    low_spine : (G : List LfType) (U : ℕ → Bool) (S : Spine) (A C : LfType) → AllQuantifiersAreBelow below G → QuantifiersAreBelow below A → Low G U (target C) → SpineType Σ G S A C → UsesSpine U S
    low_spine G U nil A C g q h s = tt
    low_spine G U (app M S) (pi A B) C g (q, a, b) h (m, s) =
        let e : target B ≡ target C = sym (target_of reduce (single (skeleton A) M) B) ∙ spine_target G S (instantiate_type A M B) C s in
        (low_term G U M A g a (λ i X k l. h i X k (through (target C) (target A) (subst (λ f. below f (target A) ≡ true) e q) (target X) l)) m, low_spine G U S (instantiate_type A M B) C g (below_substituted reduce (single (skeleton A) M) B b) h s)
    low_spine G U (app M S) (atom a T) C g q h s = absurd s
