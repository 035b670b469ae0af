-- Types as clauses, and the numbers of their variables.
use Rattle.std.proofs.Common.{◌≡◌, ℕ, [], ◌∷◌, refl}
use Rattle.std.specs.Prelude.{true, false, Some, None}
use Rattle.lf.specs.Syntax.{constant, variable, Term, LfType, root, nil, app, pi, atom}
use Rattle.lf.specs.Subordination.{Block}
use Rattle.lf_checks.specs.Clause.{entry_clause}
use Rattle.tw_clause.specs.Entries.{entry_clause_at}
use Rattle.tw_clause.specs.Numbers.{counts_from, renumber}
use Rattle.tw_clause.specs.View.{type_parts}

-- the signature: 0 nat, 1 z, 2 s, 3 plus, 4 c, 5 f
abbrev nat : LfType
nat = atom 0 nil

abbrev at : ℕ → Term
at i = root (variable i) nil

abbrev z : Term
z = root (constant 1) nil

abbrev s : Term → Term
s M = root (constant 2) (app M nil)

abbrev plus : Term → Term → Term → LfType
plus L M N = atom 3 (app L (app M (app N nil)))

-- plus-s : {X:nat} {Y:nat} {Z:nat} plus X Y Z -> plus (s X) Y (s Z)
plus_s : type_parts (pi nat (pi nat (pi nat (pi (plus (at 2) (at 1) (at 0)) (plus (s (at 3)) (at 2) (s (at 1))))))) ≡ record { variables = nat ∷ nat ∷ nat ∷ []; shape = true ∷ true ∷ true ∷ false ∷ []; family = 3; head = app (s (at 2)) (app (at 1) (app (s (at 0)) nil)); subgoals = plus (at 2) (at 1) (at 0) ∷ [] }
plus_s = refl

-- A subgoal between two variables, in the types of which nothing of it stands: {X:nat} (plus X X X) -> {Y:nat} plus X Y Y. What stands outside moves too.
between : type_parts (pi nat (pi (plus (at 0) (at 0) (at 3)) (pi nat (plus (at 2) (at 0) (at 5))))) ≡ record { variables = nat ∷ nat ∷ []; shape = true ∷ false ∷ true ∷ []; family = 3; head = app (at 1) (app (at 0) (app (at 4) nil)); subgoals = plus (at 1) (at 1) (at 4) ∷ [] }
between = refl

-- u : {y:nat} c (F y), where F stands outside: y is a variable
local_variable : type_parts (pi nat (atom 4 (app (root (variable 1) (app (at 0) nil)) nil))) ≡ record { variables = nat ∷ []; shape = true ∷ []; family = 4; head = app (root (variable 1) (app (at 0) nil)) nil; subgoals = [] }
local_variable = refl

-- f-1 : nat -> f z: the quantifier is a subgoal
subgoal_of_nat : type_parts (pi nat (atom 5 (app z nil))) ≡ record { variables = []; shape = false ∷ []; family = 5; head = app z nil; subgoals = nat ∷ [] }
subgoal_of_nat = refl

-- c <- a <- b: the last quantifier's subgoal is the first
solving_order : type_parts (pi (atom 4 (app z nil)) (pi (atom 5 (app z nil)) nat)) ≡ record { variables = []; shape = false ∷ false ∷ []; family = 0; head = nil; subgoals = atom 5 (app z nil) ∷ atom 4 (app z nil) ∷ [] }
solving_order = refl

-- block {x:nat} {u:plus x x x}: entry 2 is that of u, with x outside, and there is no entry 0
abbrev block : Block
block = record { label = 108 ∷ []; some = []; entries = plus (at 0) (at 0) (at 0) ∷ nat ∷ [] }

second : entry_clause_at block 2 (plus (at 0) (at 0) (at 0) ∷ nat ∷ []) ≡ Some (entry_clause block (nat ∷ []) (plus (at 0) (at 0) (at 0)))
second = refl

none : entry_clause_at block 0 (plus (at 0) (at 0) (at 0) ∷ nat ∷ []) ≡ None
none = refl

-- the counts of true, false, true, and two numbers by them
counts : counts_from 0 (true ∷ false ∷ true ∷ []) ≡ 0 ∷ 1 ∷ 1 ∷ 2 ∷ []
counts = refl

outermost : renumber (0 ∷ 1 ∷ 1 ∷ 2 ∷ []) 3 2 2 ≡ 1
outermost = refl

outside : renumber (0 ∷ 1 ∷ 1 ∷ 2 ∷ []) 3 2 3 ≡ 2
outside = refl
