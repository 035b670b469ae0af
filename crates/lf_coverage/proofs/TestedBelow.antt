-- A relation is the test of what is below where it is reflexive and transitive, and the declared types and kinds quantify only over what it has.
use Rattle.std.proofs.Common.{◌≡◌, ℕ, [], inl, inr, sym, ap, ap₂, ◌∙◌}
use Rattle.std.specs.Prelude.{Bool, true, Some}
use Rattle.lf.specs.Syntax.{LfType, Kind, pi, atom, kind_pi, star}
use Rattle.lf.specs.Typing.{Signature}
use Rattle.lf.specs.Variables.{target, same_number, Within}
use Rattle.lf.specs.Subordination.{Quantifies, KindQuantifies, Below, below_itself, below_through, below_in_constant, below_in_kind, below_in_entry}
use Rattle.lf_coverage.specs.Subordinate.{QuantifiersAreBelow}
use Rattle.lf_coverage.proofs.Examples.{same_is}

abbrev pub KindIsBelow : (ℕ → ℕ → Bool) → ℕ → Kind → Type 0
KindIsBelow below f (kind_pi A K) = (below f (target A) ≡ true) × QuantifiersAreBelow below A × KindIsBelow below f K
KindIsBelow below f star = Unit {0}

module _ (below : ℕ → ℕ → Bool) where
  quantified_is_below : (A : LfType) → QuantifiersAreBelow below A → (a b : ℕ) → Quantifies a b A → below b a ≡ true
  quantified_is_below (pi A B) (q, h, k) a b (inl (e, f)) = ap₂ below (sym f) (sym e) ∙ q
  quantified_is_below (pi A B) (q, h, k) a b (inr (inl r)) = quantified_is_below A h a b r
  quantified_is_below (pi A B) (q, h, k) a b (inr (inr r)) = quantified_is_below B k a b r
  quantified_is_below (atom c S) h a b q = absurd q

  kind_is_below : (f : ℕ) (K : Kind) → KindIsBelow below f K → (a b : ℕ) → KindQuantifies f a b K → below b a ≡ true
  kind_is_below f (kind_pi A K) (q, h, k) a b (inl (e, g)) = ap₂ below (sym g) (sym e) ∙ q
  kind_is_below f (kind_pi A K) (q, h, k) a b (inr (inl r)) = quantified_is_below A h a b r
  kind_is_below f (kind_pi A K) (q, h, k) a b (inr (inr r)) = kind_is_below f K k a b r
  kind_is_below f star h a b q = absurd q

  pub equals_have : {f g : ℕ} → g ≡ f → Within (below g) (below f)
  equals_have e i h = ap (λ a. below a i) (sym e) ∙ h

  module _ (Σ : Signature) (itself : (f : ℕ) → below f f ≡ true) (through : (f g : ℕ) → below f g ≡ true → Within (below g) (below f)) (types : (c : ℕ) (U : LfType) → Σ.types c ≡ Some U → QuantifiersAreBelow below U) (kinds : (f : ℕ) (K : Kind) → Σ.kinds f ≡ Some K → KindIsBelow below f K) where
    pub below_is_tested : {a b : ℕ} → Below Σ [] a b → below b a ≡ true
    below_is_tested (below_itself {a = a}) = itself a
    below_is_tested (below_through {a = a} {b = b} {c = c} p q) = through c b (below_is_tested q) a (below_is_tested p)
    below_is_tested (below_in_constant {a = a} {b = b} c U e q) = quantified_is_below U (types c U e) a b q
    below_is_tested (below_in_kind {a = a} {b = b} f K e q) = kind_is_below f K (kinds f K e) a b q
    below_is_tested (below_in_entry B E i j q) = absurd i

-- the set of one family
pub only : (n : ℕ) (S : ℕ → Bool) → S n ≡ true → Within (same_number n) S
only n S s i h = ap S (same_is n i h) ∙ s
