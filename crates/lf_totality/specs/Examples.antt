-- Worked declarations: addition of natural numbers, and copying of lambda terms under a binder.
use Rattle.std.specs.Prelude.{◌≡◌, refl, ℕ, zero, suc, List, [], ◌∷◌, Bool, true, Option, Some, None}
use Rattle.lf.specs.Syntax.{constant, variable, Term, lambda, root, nil, app, LfType, Kind, pi, atom, kind_pi, star}
use Rattle.lf.specs.Typing.{Signature, HasType}
use Rattle.lf.specs.Variables.{same_number, everything}
use Rattle.lf.specs.Worlds.{World}
use Rattle.lf.specs.Subordination.{Block}
use Rattle.lf_checks.specs.Clause.{Clause, constant_clause, entry_clause}
use Rattle.lf_checks.specs.Marks.{Mark, input, output, input_places}
use Rattle.lf_checks.specs.Order.{Order, place}
use Rattle.lf_cases.specs.Case.{Case, free_variable, block_variable, input_goal}
use Rattle.lf_checks.specs.Ground.{ground_first}
use Rattle.lf_cases.specs.Pattern.{Pattern, of_constant, of_entry, head_pattern, IsCoveredCase}
use Rattle.lf_cases.specs.OutputGoal.{output_goal}
use Rattle.lf_cases.specs.Split.{IsSplit, IsInstanceCase, Ends}
use Rattle.lf.specs.Substitution.{keep}
use Rattle.lf_totality.specs.Group.{Checked, IsRight, GroupChecked}

-- a variable alone
abbrev pub var : ℕ → Term
var i = root (variable i) nil

-- a variable applied to a variable
abbrev pub applied_to : ℕ → ℕ → Term
applied_to i j = root (variable i) (app (var j) nil)

-- families on two and on three arguments
abbrev pub on_two : ℕ → Term → Term → LfType
on_two a M N = atom a (app M (app N nil))

abbrev pub on_three : ℕ → Term → Term → Term → LfType
on_three a M N P = atom a (app M (app N (app P nil)))

-- of two families the first is below the second
abbrev pub first_below_second : ℕ → ℕ → Bool
first_below_second zero b = same_number zero b
first_below_second (suc zero) zero = true
first_below_second (suc zero) (suc b) = same_number zero b
first_below_second (suc (suc n)) b = same_number (suc (suc n)) b

-- the order that names the first place
abbrev pub first_place : ℕ → Order
first_place a = place 1

-- Addition. Families: nat = 0, plus = 1. Constants: z = 0, s = 1, plus-z = 2, plus-s = 3.

-- nat : type
abbrev pub nat : LfType
nat = atom 0 nil

-- z : nat
abbrev pub z : Term
z = root (constant 0) nil

-- s : nat -> nat, applied
abbrev pub successor : Term → Term
successor M = root (constant 1) (app M nil)

-- plus-z : {Y:nat} plus z Y Y
abbrev pub plus_z : Clause
plus_z = constant_clause (pi nat (on_three 1 z (var 0) (var 0)))

-- plus-s : {X:nat} {Y:nat} {Z:nat} plus X Y Z -> plus (s X) Y (s Z)
abbrev pub plus_s : Clause
plus_s = constant_clause (pi nat (pi nat (pi nat (pi (on_three 1 (var 2) (var 1) (var 0)) (on_three 1 (successor (var 3)) (var 2) (successor (var 1)))))))

-- plus : nat -> nat -> nat -> type
abbrev pub plus_kind : Kind
plus_kind = kind_pi nat (kind_pi nat (kind_pi nat star))

-- the types of the constants, by number
abbrev pub addition_types : ℕ → Option LfType
addition_types zero = Some nat
addition_types (suc zero) = Some (pi nat nat)
addition_types (suc (suc zero)) = Some plus_z.type
addition_types (suc (suc (suc zero))) = Some plus_s.type
addition_types (suc (suc (suc (suc n)))) = None

-- the kinds of the families
abbrev pub addition_kinds : ℕ → Option Kind
addition_kinds zero = Some star
addition_kinds (suc zero) = Some plus_kind
addition_kinds (suc (suc n)) = None

-- both
abbrev pub Addition : Signature
Addition = record { types = addition_types; kinds = addition_kinds }

-- plus +X +Y -Z
abbrev pub addition_marks : ℕ → List Mark
addition_marks zero = []
addition_marks (suc n) = input ∷ input ∷ output ∷ []

-- plus, in the empty world
abbrev pub addition_record : Checked
addition_record = record { families = 1 ∷ []; marks = addition_marks; worlds = []; below = first_below_second; frozen = first_below_second 1 }

-- plus lasts: it is total now and in every later signature, beside all variables of other families
abbrev pub AdditionLasts : Type 0
AdditionLasts = IsRight Addition addition_record

-- so each two numbers have a sum, with its proof
abbrev pub NumbersHaveSums : Type 0
NumbersHaveSums = (M N : Term) → HasType Addition [] M nat → HasType Addition [] N nat → (P : Term) × (D : Term) × HasType Addition [] D (on_three 1 M N P)

-- The goal of input coverage: plus X Y _. It is split at X into plus z Y _ and plus (s X) Y _, which are instances of the clauses.
abbrev pub plus_input_goal : Case
plus_input_goal = input_goal 1 (input_places (addition_marks 1)) plus_kind

abbrev pub plus_zero_case : Case
plus_zero_case = record { items = free_variable nat ∷ []; given = []; local = []; family = 1; arguments = Some z ∷ Some (var 0) ∷ None ∷ [] }

abbrev pub plus_successor_case : Case
plus_successor_case = record { items = free_variable nat ∷ free_variable nat ∷ []; given = []; local = []; family = 1; arguments = Some (successor (var 1)) ∷ Some (var 0) ∷ None ∷ [] }

-- the heads of plus-z and plus-s
abbrev pub plus_heads : List Pattern
plus_heads = head_pattern plus_z (of_constant plus_z.type) ∷ head_pattern plus_s (of_constant plus_s.type) ∷ []

-- and so the goal is covered
abbrev pub PlusIsCoveredBySplits : Type 0
PlusIsCoveredBySplits = IsSplit Addition [] (first_below_second 1) plus_input_goal (plus_zero_case ∷ plus_successor_case ∷ []) × Ends (IsInstanceCase Addition [] (first_below_second 1) plus_heads) (IsSplit Addition [] (first_below_second 1)) plus_input_goal × IsCoveredCase Addition [] (first_below_second 1) plus_heads plus_input_goal

-- The goal of output coverage of the subgoal of plus-s, where X and Y are ground: the case of a new variable for Z.
abbrev pub plus_output_case : Case
plus_output_case = record { items = free_variable nat ∷ free_variable nat ∷ free_variable nat ∷ []; given = None ∷ None ∷ Some (var 1) ∷ Some (var 2) ∷ []; local = []; family = 1; arguments = None ∷ None ∷ Some (var 0) ∷ [] }

abbrev pub PlusOutputGoal : Type 0
PlusOutputGoal = output_goal first_below_second addition_marks (of_constant plus_s.type) (ground_first addition_marks plus_s) (on_three 1 (var 3) (var 2) (var 1)) plus_kind ≡ plus_output_case

-- More declarations after these: b : type and mk : nat -> b, the family 2 and the constant 4.
abbrev pub later_types : ℕ → Option LfType
later_types zero = addition_types zero
later_types (suc zero) = addition_types 1
later_types (suc (suc zero)) = addition_types 2
later_types (suc (suc (suc zero))) = addition_types 3
later_types (suc (suc (suc (suc zero)))) = Some (pi nat (atom 2 nil))
later_types (suc (suc (suc (suc (suc n))))) = None

-- the kinds of the families
abbrev pub later_kinds : ℕ → Option Kind
later_kinds zero = addition_kinds zero
later_kinds (suc zero) = addition_kinds 1
later_kinds (suc (suc zero)) = Some star
later_kinds (suc (suc (suc n))) = None

-- both
abbrev pub Later : Signature
Later = record { types = later_types; kinds = later_kinds }

-- the record of plus is checked there too
abbrev pub AdditionStaysChecked : Type 0
AdditionStaysChecked = GroupChecked Later addition_record first_place []

-- Copying. Families: exp = 0, cp = 1. Constants: lam = 0, cp-lam = 1, app = 2, cp-app = 3.

-- exp : type
abbrev pub exp : LfType
exp = atom 0 nil

-- exp -> exp
abbrev pub function : LfType
function = pi exp exp

-- cp : exp -> exp -> type, applied
abbrev pub cp : Term → Term → LfType
cp M N = on_two 1 M N

-- lam [x] M
abbrev pub lam : Term → Term
lam M = root (constant 0) (app (lambda M) nil)

-- app M N
abbrev pub application : Term → Term → Term
application M N = root (constant 2) (app M (app N nil))

-- cp-lam : {E:exp -> exp} {F:exp -> exp} ({x:exp} cp x x -> cp (E x) (F x)) -> cp (lam [x] E x) (lam [x] F x)
abbrev pub cp_lam : Clause
cp_lam = constant_clause (pi function (pi function (pi (pi exp (pi (cp (var 0) (var 0)) (cp (applied_to 3 1) (applied_to 2 1)))) (cp (lam (applied_to 3 0)) (lam (applied_to 2 0))))))

-- cp-app : {E1} {E2} {F1} {F2} cp E2 F2 -> cp E1 F1 -> cp (app E1 E2) (app F1 F2)
abbrev pub cp_app : Clause
cp_app = constant_clause (pi exp (pi exp (pi exp (pi exp (pi (cp (var 2) (var 0)) (pi (cp (var 4) (var 2)) (cp (application (var 5) (var 4)) (application (var 3) (var 2)))))))))

-- the kind of cp
abbrev pub cp_kind : Kind
cp_kind = kind_pi exp (kind_pi exp star)

-- the types of the constants, by number
abbrev pub copying_types : ℕ → Option LfType
copying_types zero = Some (pi function exp)
copying_types (suc zero) = Some cp_lam.type
copying_types (suc (suc zero)) = Some (pi exp (pi exp exp))
copying_types (suc (suc (suc zero))) = Some cp_app.type
copying_types (suc (suc (suc (suc n)))) = None

-- the kinds of the families
abbrev pub copying_kinds : ℕ → Option Kind
copying_kinds zero = Some star
copying_kinds (suc zero) = Some cp_kind
copying_kinds (suc (suc n)) = None

-- both
abbrev pub Copying : Signature
Copying = record { types = copying_types; kinds = copying_kinds }

-- block {x:exp} {u:cp x x}
abbrev pub copy_block : Block
copy_block = record { label = 108 ∷ []; some = []; entries = cp (var 0) (var 0) ∷ exp ∷ [] }

-- cp +E -F
abbrev pub copying_marks : ℕ → List Mark
copying_marks zero = []
copying_marks (suc n) = input ∷ output ∷ []

-- cp, in the worlds of its block
abbrev pub copying_record : Checked
copying_record = record { families = 1 ∷ []; marks = copying_marks; worlds = copy_block ∷ []; below = first_below_second; frozen = first_below_second 1 }

-- cp lasts, in every context of its block
abbrev pub CopyingLasts : Type 0
CopyingLasts = IsRight Copying copying_record

-- so in each context of the block each term has a copy, with its proof
abbrev pub TermsHaveCopies : Type 0
TermsHaveCopies = (G : List LfType) → World Copying (copy_block ∷ []) everything G → (M : Term) → HasType Copying G M exp → (N : Term) × (D : Term) × HasType Copying G D (cp M N)

-- The goal of output coverage of the subgoal of cp-lam, {x:exp} cp x x -> cp (E x) _, where E is ground. Its output is raised over x, whose
-- family is below its own, and not over the hypothesis: a new variable F : exp -> exp, at F x.
abbrev pub copy_output_case : Case
copy_output_case = record { items = free_variable function ∷ free_variable function ∷ []; given = None ∷ None ∷ Some (lambda (applied_to 2 0)) ∷ []; local = cp (var 0) (var 0) ∷ exp ∷ []; family = 1; arguments = None ∷ Some (applied_to 2 1) ∷ [] }

-- the subgoal of cp-lam, under its other quantifiers
abbrev pub copy_subgoal : LfType
copy_subgoal = pi exp (pi (cp (var 0) (var 0)) (cp (applied_to 4 1) (applied_to 3 1)))

-- this is its goal
abbrev pub CopyOutputGoal : Type 0
CopyOutputGoal = output_goal first_below_second copying_marks (of_constant cp_lam.type) (ground_first copying_marks cp_lam) copy_subgoal cp_kind ≡ copy_output_case

-- The case cp x _ for a block variable {x:exp} {u:cp x x}, and that the block's entry covers it.
abbrev pub block_case : Case
block_case = record { items = block_variable copy_block keep ∷ []; given = []; local = []; family = 1; arguments = Some (var 1) ∷ None ∷ [] }

-- the entry u : cp x x of the block
abbrev pub copy_entry : Clause
copy_entry = entry_clause copy_block (exp ∷ []) (cp (var 0) (var 0))

-- the heads of cp-lam, cp-app and the entry
abbrev pub copy_heads : List Pattern
copy_heads = head_pattern cp_lam (of_constant cp_lam.type) ∷ head_pattern cp_app (of_constant cp_app.type) ∷ head_pattern copy_entry (of_entry copy_block [] (cp (var 0) (var 0)) (exp ∷ []) refl) ∷ []

abbrev pub BlockCaseIsCovered : Type 0
BlockCaseIsCovered = IsCoveredCase Copying (copy_block ∷ []) (first_below_second 1) copy_heads block_case
