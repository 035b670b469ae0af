-- Heads of goals, marks of subgoals, and the numbers of a root's variables.
use Rattle.std.proofs.Common.{◌≡◌, ℕ, zero, suc, [], ◌∷◌, Option, Some, None, inl, inr, refl}
use Rattle.std.specs.Prelude.{true, false}
use Rattle.lf.specs.Syntax.{constant, kind_pi, lambda, metavariable, star, variable, Term, LfType, root, nil, app, pi, atom}
use Rattle.lf.specs.Typing.{Signature}
use Rattle.lf_checks.specs.Parts.{shape}
use Rattle.lf_search.specs.AppliedHeads.{AppliedHead, spine_with_applied, with_applied}
use Rattle.lf_search.specs.Goals.{type_with_heads}
use Rattle.lf_search.specs.Heads.{clash_here, outer_head, variable_head}
use Rattle.tw_metas.specs.State.{State}
use Rattle.tw_search.specs.Beside.{FirstDiffers, IndicesComeApart, IndicesDiffer, arguments_differ, constants_differ, differs_here, equation_between, index_differs, leads_by_value, leads_to_itself, next_argument, next_index, no_argument, no_index, same_constants, stays}
use Rattle.tw_search.specs.Choosing.{locals_for}
use Rattle.tw_search.specs.Clashing.{TypeClashes, head_under}
use Rattle.tw_search.specs.Offers.{unmarked}
use Rattle.tw_search.specs.Reducing.{is_loose}
use Rattle.tw_search.specs.Roots.{head_with, heads_at}
use Rattle.tw_search.specs.Taking.{numbers_from}

-- the signature: 0 nat, 1 z, 2 s, 3 plus
abbrev nat : LfType
nat = atom 0 nil

abbrev at : ℕ → Term
at i = root (variable i) nil

abbrev s : Term → Term
s M = root (constant 2) (app M nil)

abbrev plus : Term → Term → Term → LfType
plus L M N = atom 3 (app L (app M (app N nil)))

-- plus-s : {X:nat} {Y:nat} {Z:nat} plus X Y Z -> plus (s X) Y (s Z)
abbrev plus_s : LfType
plus_s = pi nat (pi nat (pi nat (pi (plus (at 2) (at 1) (at 0)) (plus (s (at 3)) (at 2) (s (at 1))))))

-- its fourth quantifier is a subgoal, as its variable doesn't occur in the rest
fourth_is_subgoal : shape plus_s ≡ true ∷ true ∷ true ∷ false ∷ []
fourth_is_subgoal = refl

-- with 7 as the first new metavariable, its hole is 10
hole_of_subgoal : unmarked (shape plus_s) (numbers_from 7 plus_s) ≡ 10 ∷ []
hole_of_subgoal = refl

-- the head of [x] s x is s
head_of_lambda : head_under (lambda (s (at 0))) ≡ constant 2
head_of_lambda = refl

-- of two local variables, a goal of the one clashes with an assumption of the other, which has one quantifier of its own
locals_clash : TypeClashes [] (app (at 0) nil) (pi nat (atom 3 (app (at 2) nil)))
locals_clash = clash_here (outer_head (variable_head 0 refl)) (outer_head (variable_head 1 refl)) (λ e. cc)

-- of the local variables x:nat, u:plus x x x and y:nat, the newest first, those for plus are u alone
local_for_plus : locals_for 3 0 (nat ∷ plus (at 0) (at 0) (at 0) ∷ nat ∷ []) ≡ variable 1 ∷ []
local_for_plus = refl

-- and those for nat are y and x
locals_for_nat : locals_for 0 0 (nat ∷ plus (at 0) (at 0) (at 0) ∷ nat ∷ []) ≡ variable 0 ∷ variable 2 ∷ []
locals_for_nat = refl

-- of three variables of a goal, the newest is metavariable 2 and the outermost 0; one more is outside
heads_of_three : head_with 3 0 ∷ head_with 3 2 ∷ head_with 3 3 ∷ [] ≡ metavariable 2 ∷ metavariable 0 ∷ variable 0 ∷ []
heads_of_three = refl

-- the goal {x:nat} plus x X x, where X is the one variable outside
under_a_binder : type_with_heads (heads_at 1 0) (pi nat (plus (at 0) (at 1) (at 0))) ≡ pi nat (plus (at 0) (root (metavariable 0) nil) (at 0))
unfolding heads_at
under_a_binder = refl

-- the types of z and s, and no kinds
abbrev numeral_type : ℕ → Option LfType
numeral_type zero = None
numeral_type (suc zero) = Some nat
numeral_type (suc (suc c)) = Some (pi nat nat)

abbrev numerals : Signature
numerals = record { types = numeral_type; kinds = λ a. None }

abbrev open_at : ℕ → Term
open_at m = root (metavariable m) nil

-- s X and Y beside s x and y leave X beside x and Y beside y
apart_at_s : (p : ℕ → AppliedHead) → IndicesComeApart numerals [] p (app (s (open_at 0)) (app (open_at 1) nil)) (app (s (at 1)) (app (at 0) nil)) (kind_pi nat (kind_pi nat star)) (equation_between (open_at 0) (with_applied p (at 1)) nat ∷ equation_between (open_at 1) (with_applied p (at 0)) nat ∷ [])
apart_at_s p = next_index (same_constants leads_to_itself refl (tt, tt) (next_argument (stays leads_to_itself) no_argument)) (next_index (stays leads_to_itself) no_index)

-- where X is z, X and s x differ
differ_at_value : (p : ℕ → AppliedHead) → IndicesDiffer numerals (record { of = 0; value = root (constant 1) nil } ∷ []) (app (open_at 0) nil) (spine_with_applied p (app (s (at 0)) nil)) (kind_pi nat star)
differ_at_value p = index_differs (constants_differ (leads_by_value (record { of = 0; value = root (constant 1) nil }) (inl refl) leads_to_itself) leads_to_itself (λ e. cc))

-- where X is z and Y is s z, s X and s Y differ
differ_at_values : FirstDiffers numerals (record { of = 0; value = root (constant 1) nil } ∷ record { of = 1; value = s (root (constant 1) nil) } ∷ []) (equation_between (s (open_at 0)) (s (open_at 1)) nat ∷ [])
differ_at_values =
    let x = leads_by_value (record { of = 0; value = root (constant 1) nil }) (inl refl) leads_to_itself in
    let y = leads_by_value (record { of = 1; value = s (root (constant 1) nil) }) (inr (inl refl)) leads_to_itself in
    (refl, arguments_differ leads_to_itself leads_to_itself refl (tt, tt) (differs_here (constants_differ x y (λ e. cc))))

-- metavariables 0 and 1 are of the type nat, and 1 is bound to z
abbrev two_numerals : State
two_numerals = record { declared = record { context = []; of_type = nat } ∷ record { context = []; of_type = nat } ∷ []; values = None ∷ Some (root (constant 1) nil) ∷ []; bound = 1 ∷ []; equations = [] }

-- so a metavariable 2 of the goal can take s 0, and neither s 1 nor, were it 0, s 0
loose_ones : is_loose two_numerals 2 0 ∷ is_loose two_numerals 2 1 ∷ is_loose two_numerals 0 0 ∷ [] ≡ true ∷ false ∷ false ∷ []
loose_ones = refl
