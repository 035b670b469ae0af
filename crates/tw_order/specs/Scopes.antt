-- Which variables in scope are local, and which are parameters.
use Rattle.std.specs.Prelude.{ℕ, zero, suc, Bool}
use Rattle.lf.specs.Variables.{hide, nothing, under}
use Rattle.tw_order.specs.declared.scope.Scope.{Scope}

-- the n newest variables, and V among those past them
abbrev pub newest_and : ℕ → (ℕ → Bool) → ℕ → Bool
newest_and zero V = V
newest_and (suc n) V = under (newest_and n V)

-- V among those past the n newest, and none of these
abbrev pub past : ℕ → (ℕ → Bool) → ℕ → Bool
past zero V = V
past (suc n) V = hide (past n V)

-- With two local variables, three variables of the clause and one entry, 0 and 1 are local, and 0, 1 and 5 are parameters.
abbrev pub local_in : Scope → ℕ → Bool
local_in s = newest_and s.locals nothing

abbrev pub fixed_in : Scope → ℕ → Bool
fixed_in s = newest_and s.locals (past s.own (newest_and s.entries nothing))
