-- How much is left to drop of a term.
use Rattle.std.specs.Prelude.{ℕ, ◌+◌, ◌*◌, ◌<◌, Option, None, Some, Box}
use Rattle.std.specs.Global.{Global}
use Rattle.tw_parse.specs.declared.term.ExtTerm.{ExtTerm, fold-ExtTerm, size-ExtTerm}
use Rattle.tw_parse.specs.declared.term.ExtTerm.TheOpen.{ExtTerm-F}
use Rattle.tw_parse.specs.declared.term.Parts.{Parts}
use Rattle.tw_parse.specs.declared.term.Parts.TheVariants as parts

-- what stands first counts twice, since its own parts are put behind one another
abbrev pub two_weigh : ℕ → ℕ → ℕ
two_weigh m n = 2 * m + n + 1

abbrev pub bound_weighs : Option (Box ℕ Global) → ℕ → ℕ
bound_weighs None n = n + 1
bound_weighs (Some m) n = two_weigh m.value n

abbrev pub weight_step : ExtTerm-F ℕ → ℕ
weight_step (ExtTerm-F.Ident name at) = 1
weight_step (ExtTerm-F.Hole at) = 1
weight_step ExtTerm-F.Star = 1
weight_step (ExtTerm-F.Arrow A B) = two_weigh A.value B.value
weight_step (ExtTerm-F.Pi x at A B) = bound_weighs A B.value
weight_step (ExtTerm-F.Lam x at A M) = bound_weighs A M.value
weight_step (ExtTerm-F.App M N) = two_weigh M.value N.value
weight_step (ExtTerm-F.Ascribe M A) = two_weigh M.value A.value

unfoldable pub weight : ExtTerm → ℕ
weight = fold-ExtTerm ℕ weight_step

-- the weight of a term that has these parts
abbrev pub weight_of : Parts → ℕ
weight_of parts.None = 1
weight_of (parts.One M) = weight M.value + 1
weight_of (parts.Two M N) = two_weigh (weight M.value) (weight N.value)

-- a term of this size has these parts: the first one is smaller, and no term has size 0
abbrev pub AreSmaller : Parts → ℕ → Type 0
AreSmaller parts.None n = 0 < n
AreSmaller (parts.One M) n = size-ExtTerm M.value < n
AreSmaller (parts.Two M N) n = size-ExtTerm M.value < n
