-- A test of subordination over a signature and blocks.
use Rattle.std.specs.Prelude.{◌≡◌, ℕ, List, Bool, true}
use Rattle.lf.specs.Typing.{Signature}
use Rattle.lf.specs.Variables.{Within}
use Rattle.lf.specs.Subordination.{Block, IsDeclared, SelfContained}

-- A test of subordination over a signature and blocks: each family is below itself, a family below one below f is below f,
-- and the families below a declared family are self-contained.
pub record IsSubordination (Σ : Signature) (W : List Block) (below : ℕ → ℕ → Bool) : Type 0 where
  pub itself : (f : ℕ) → below f f ≡ true
  pub through : (f g : ℕ) → below f g ≡ true → Within (below g) (below f)
  pub self_contained : (f : ℕ) → IsDeclared Σ f → SelfContained Σ W (below f)
