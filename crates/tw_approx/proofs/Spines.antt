-- The skeleton behind a name's arguments.
use Rattle.std.proofs.Common.{◌≡◌, ℕ, suc, None, ap}
use Rattle.lf.specs.Syntax.{Skeleton, base, arrow}
use Rattle.tw_approx.specs.Skeletons.{behind}
use Rattle.tw_parse.proofs.Spines.{applied_to-push}
use Rattle.tw_approx.proofs.Views.{shapes}

pub behind-arrow : (n m : ℕ) (s t : Skeleton) → n ≡ suc m → behind n (arrow s t) ≡ behind m t
behind-arrow n m s t e = ap (λ i. behind i (arrow s t)) e

pub behind-base : (n m a : ℕ) → n ≡ suc m → behind n (base a) ≡ None
behind-base n m a e = ap (λ i. behind i (base a)) e

pub ruleset spines = (shapes, applied_to-push)
