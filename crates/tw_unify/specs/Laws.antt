-- The laws of what solving answers, which functions of this crate carry.
use Rattle.std.specs.Prelude.{ℕ, [], Option}
use Rattle.lf.specs.Syntax.{LfType}
use Rattle.lf_unification.specs.Solving.{AllLeftOver}
use Rattle.tw_metas.specs.State.{State}
use Rattle.tw_putting.specs.Whole.{whole}
use Rattle.tw_unify.specs.Sides.{AllLeft}

-- Where solving answers that equations are left over, all of them are left, as solving on asks for it.
abbrev pub AllLeftOverAreLeft : Type 0
AllLeftOverAreLeft = (given : ℕ → Option LfType) (s : State) → AllLeftOver given (whole [] s) s.equations → AllLeft s s.equations
