-- Sets of variables that a scope and its marks stand for.
use Rattle.std.specs.Prelude.{ℕ, zero, suc, List, [], ◌∷◌, Bool, false, cond}
use Rattle.lf.specs.Variables.{same_number}
use Rattle.tw_clause.specs.Patterns.{newest}
use Rattle.tw_mode.specs.declared.scope.Scope.{Scope}

-- The set of these marks, the first being that of the outermost of `depth` variables; a variable without a mark is in it where b says so. With two variables in scope
-- and the mark `true` of the outer one, variable 1 is in `in_marks false 2 (true ∷ [])` alone.
abbrev pub in_marks : Bool → ℕ → List Bool → ℕ → Bool
in_marks b zero ms i = b
in_marks b (suc depth) [] i = b
in_marks b (suc depth) (m ∷ ms) i = cond (same_number i depth) m (in_marks b depth ms i)

abbrev pub bound_in : Scope → ℕ → Bool
bound_in s = newest s.bound

abbrev pub fixed_in : Scope → ℕ → Bool
fixed_in s = in_marks false s.depth s.fixed.now
