-- Numbers of variables where the subgoals are left out of the scope.
use Rattle.std.specs.Prelude.{ℕ, suc, ◌+◌, ◌-◌, List, [], ◌∷◌, Bool, cond, get_or}
use Rattle.tw_clause.specs.declared.renumbering.Numbers.{Numbers}

-- For each number of quantifiers, none first: how many of so many are variables, and m more. Of the shape true, false, true these are 0, 1, 1, 2.
abbrev pub counts_from : ℕ → List Bool → List ℕ
counts_from m [] = m ∷ []
counts_from m (b ∷ bs) = m ∷ counts_from (cond b (suc m) m) bs

-- The number of variable i inside `level` quantifiers, in a scope of `count` variables: how many variables are newer, and how far it stands outside. With the
-- counts 0, 1, 1, 2, level 3 and count 2, variable 2 is the outermost and gets the number 1; variable 3 stands outside and gets 2.
abbrev pub renumber : List ℕ → ℕ → ℕ → ℕ → ℕ
renumber before level count i = (count - get_or before (level - i) 0) + (i - level)

abbrev pub numbering : Numbers → ℕ → ℕ
numbering n = renumber n.before.now n.level n.count
