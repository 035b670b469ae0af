-- Blocks taken in one after the other, each once.
use Rattle.std.specs.Prelude.{◌≡◌, List, ◌++◌, reverse}
use Rattle.lf.specs.Subordination.{Block}
use Rattle.lf_checks.specs.OrderFaults.{EachOnce}

-- J became K as these blocks were taken in, each that wasn't there: what follows is taken in behind K as it is behind J and these.
pub record TakesIn (J Bs K : List Block) : Type 0 where
  pub added : List Block
  pub stands : K ≡ J ++ added
  pub goes_on : (rest W : List Block) → EachOnce (reverse K) rest W → EachOnce (reverse J) (Bs ++ rest) (added ++ W)
