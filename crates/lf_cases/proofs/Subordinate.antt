-- The subordination of a signature and blocks is a test of subordination, and it fits the places of every kind.
use Rattle.std.proofs.Common.{◌≡◌, ℕ, List, refl, inl, inr}
use Rattle.std.specs.Prelude.{Bool, true, Some}
use Rattle.lf.specs.Syntax.{Kind, kind_pi, star}
use Rattle.lf.specs.Typing.{Signature, IsSignature}
use Rattle.lf.specs.Variables.{target}
use Rattle.lf.specs.Subordination.{Block, IsDeclared, AreTypedBlocks, IsBelowTest, Below, below_itself, below_through, below_in_kind, KindQuantifies}
use Rattle.lf.proofs.Declared.{below_self_contained}
use Rattle.lf.proofs.Strength.{all_quantified}
use Rattle.lf_cases.specs.Raised.{PlacesBelow}
use Rattle.lf_checks.specs.Below.{IsSubordination}

module _ (Σ : Signature) (ok : IsSignature Σ) (W : List Block) (typed : AreTypedBlocks Σ W) (below : ℕ → ℕ → Bool) (test : (f : ℕ) → IsBelowTest Σ W (below f) f) where
  pub below_is_subordination : IsSubordination Σ W below
  below_is_subordination = record {
    itself = λ f. (test f f).1 below_itself;
    through = λ f g h b e. (test f b).1 (below_through ((test g b).0 e) ((test f g).0 h));
    self_contained = λ f d. below_self_contained Σ W (below f) f ok typed d (test f);
  }

  places : (a f : ℕ) (K : Kind) → IsDeclared Σ a → Below Σ W f a → ((c d : ℕ) → KindQuantifies f c d K → Below Σ W c d) → PlacesBelow Σ below a K
  places a f (kind_pi A K) d p h =
      let b : below a (target A) ≡ true = (test a (target A)).1 (below_through (h (target A) f (inl (refl, refl))) p) in
      ((below_is_subordination.self_contained a d).declared (target A) b, b, all_quantified (below (target A)) A (λ x y q e. (test (target A) x).1 (below_through (h x y (inr (inl q))) ((test (target A) y).0 e))) ((test (target A) (target A)).1 below_itself), places a f K d p (λ x y q. h x y (inr (inr q))))
  places a f star d p h = tt

  pub kind_places_below : (a f : ℕ) (K : Kind) → IsDeclared Σ a → below a f ≡ true → Σ.kinds f ≡ Some K → PlacesBelow Σ below a K
  kind_places_below a f K d b e = places a f K d ((test a f).0 b) (λ x y q. below_in_kind f K e q)
