-- What is typed stays typed in an extension of the signature.
use Rattle.std.proofs.Common.{ℕ, List, [], ◌∷◌}
use Rattle.std.specs.Prelude.{Bool}
use Rattle.lf.specs.Syntax.{Head, constant, variable, metavariable, Term, Spine, lambda, root, nil, app, LfType, Kind, pi, atom, kind_pi, star}
use Rattle.lf.specs.Substitution.{Image, keep, put, substitute_type, reduce}
use Rattle.lf.specs.Typing.{ImageHasType, Signature, HeadHasType, instantiate_type, instantiate_kind, HasType, SpineType, SpineFitsKind, IsType, IsContext}
use Rattle.lf.specs.Variables.{target, Values, Within}
use Rattle.lf.specs.Extension.{Extends}

-- What is typed stays typed in an extension.
module _ (S : ℕ → Bool) (Σ Σ' : Signature) (x : Extends S Σ Σ') where
  HeadHasType-more : (G : List LfType) (h : Head) (A : LfType) → HeadHasType Σ G h A → HeadHasType Σ' G h A
  HeadHasType-more G (constant c) A e = x.types_stay c A e
  HeadHasType-more G (metavariable m) A e = e
  HeadHasType-more G (variable i) A g = g

  mutual
    pub extension_keeps_typing : (G : List LfType) (M : Term) (A : LfType) → HasType Σ G M A → HasType Σ' G M A
    extension_keeps_typing G (lambda M) (pi A B) m = extension_keeps_typing (A ∷ G) M B m
    extension_keeps_typing G (lambda M) (atom a T) m = m
    extension_keeps_typing G (root h T) (pi A B) m = m
    extension_keeps_typing G (root h T) (atom a U) (A, g, s) = (A, HeadHasType-more G h A g, extension_keeps_spine_typing G T A (atom a U) s)

    pub extension_keeps_spine_typing : (G : List LfType) (T : Spine) (A C : LfType) → SpineType Σ G T A C → SpineType Σ' G T A C
    extension_keeps_spine_typing G nil A C e = e
    extension_keeps_spine_typing G (app M T) (pi A B) C (m, s) = (extension_keeps_typing G M A m, extension_keeps_spine_typing G T (instantiate_type A M B) C s)
    extension_keeps_spine_typing G (app M T) (atom a U) C s = absurd s

  pub extension_keeps_kind_spines : (G : List LfType) (T : Spine) (K : Kind) → SpineFitsKind Σ G T K → SpineFitsKind Σ' G T K
  extension_keeps_kind_spines G nil (kind_pi A K) s = absurd s
  extension_keeps_kind_spines G nil star s = s
  extension_keeps_kind_spines G (app M T) (kind_pi A K) (m, s) = (extension_keeps_typing G M A m, extension_keeps_kind_spines G T (instantiate_kind A M K) s)
  extension_keeps_kind_spines G (app M T) star s = absurd s

  pub extension_keeps_types : (G : List LfType) (A : LfType) → IsType Σ G A → IsType Σ' G A
  extension_keeps_types G (pi A B) (a, b) = (extension_keeps_types G A a, extension_keeps_types (A ∷ G) B b)
  extension_keeps_types G (atom a T) (K, e, s) = (K, x.kinds_stay a K e, extension_keeps_kind_spines G T K s)

  pub extension_keeps_contexts : (G : List LfType) → IsContext Σ G → IsContext Σ' G
  extension_keeps_contexts [] c = c
  extension_keeps_contexts (A ∷ G) (c, a) = (extension_keeps_contexts G c, extension_keeps_types G A a)

  ImageHasType-more : (G : List LfType) (y : Image) (A : LfType) → ImageHasType Σ G y A → ImageHasType Σ' G y A
  ImageHasType-more G (keep j) A g = g
  ImageHasType-more G (put a N) A (e, n) = (e, extension_keeps_typing G N A n)

  pub extension_keeps_values : (U : ℕ → Bool) (C G : List LfType) (σ : ℕ → Image) → Values Σ U C G σ → Values Σ' U C G σ
  extension_keeps_values U C G σ v = record { typed = λ i A g u. ImageHasType-more G (σ i) (substitute_type reduce σ A) (v.typed i A g u); closed = v.closed }

-- an extension over S is one over less
pub extension_over_less : (S T : ℕ → Bool) (Σ Σ' : Signature) → Within T S → Extends S Σ Σ' → Extends T Σ Σ'
extension_over_less S T Σ Σ' h x = record { ok = x.ok; types_stay = x.types_stay; kinds_stay = x.kinds_stay; no_new = λ c A e t. x.no_new c A e (h (target A) t) }

pub extensions_compose : (S : ℕ → Bool) (Σ Σ' Σ'' : Signature) → Extends S Σ Σ' → Extends S Σ' Σ'' → Extends S Σ Σ''
extensions_compose S Σ Σ' Σ'' x y = record {
  ok = y.ok;
  types_stay = λ c A e. y.types_stay c A (x.types_stay c A e);
  kinds_stay = λ a K e. y.kinds_stay a K (x.kinds_stay a K e);
  no_new = λ c A e s. x.no_new c A (y.no_new c A e s) s;
}
