-- Worked: a split at which types are circular, so that an equation is left; the tuples that make it true, and values
-- that don't. And the head of an instance.
use Rattle.std.specs.Prelude.{ℕ, zero, suc, [], ◌∷◌, Bool, Option, Some, None}
use Rattle.lf.specs.Syntax.{Term, constant, metavariable, variable, app, arrow, base, lambda, root, nil, LfType, Kind, pi, kind_pi, star}
use Rattle.lf.specs.Substitution.{Image, keep, put}
use Rattle.lf.specs.AtOnce.{in_front}
use Rattle.lf.specs.Typing.{Signature}
use Rattle.lf.specs.Variables.{nothing}
use Rattle.lf.specs.Worlds.{World}
use Rattle.lf_unification.specs.Unifiers.{Equation, Solution, Store}
use Rattle.lf_totality.specs.Examples.{nat, on_two, var, z}
use Rattle.lf_totality.specs.ExamplesGroups.{on_one}
use Rattle.lf_coverage.specs.SplitStore.{context_metavariables}
use Rattle.lf_numbered.specs.LeftEquations.{GivesHead, HoldsTrue, shown_store}
use Rattle.lf_numbered.specs.LeftUnifiers.{HasHead, read_store}
use Rattle.lf_numbered.specs.NewBlock.{with_new_block}
use Rattle.lf_numbered.specs.NumberedBesideInstances.{newer, older, two_instances}
use Rattle.lf_numbered.specs.NumberedCalls.{NumberedSplitIs, outside_over}
use Rattle.lf_numbered.specs.NumberedCase.{NumberedCase}
use Rattle.lf_numbered.specs.NumberedSplits.{NumberedOffer}
use Rattle.lf_numbered.specs.NumberedSplitsExamples.{Bare, exp, exp_block, open_case}

-- The families are nat : type (0), vec : nat -> type (1), eq : nat -> nat -> type (2) and p : {T:nat} {K:vec T -> nat}
-- {W:vec T} eq T (K W) -> type (3). The constants are z : nat (0), a : nat (1), n : vec z (2) and refl : {Z:nat} eq Z Z
-- (3).
abbrev pub refl_type : LfType
refl_type = pi nat (on_two 2 (var 0) (var 0))

abbrev pub circle_types : ℕ → Option LfType
circle_types zero = Some nat
circle_types (suc zero) = Some nat
circle_types (suc (suc zero)) = Some (on_one 1 z)
circle_types (suc (suc (suc zero))) = Some refl_type
circle_types (suc (suc (suc (suc c)))) = None

-- eq T (K W), where W, K and T are the variables 0, 1 and 2
abbrev pub circle_index : LfType
circle_index = on_two 2 (var 2) (root (variable 1) (app (var 0) nil))

abbrev pub p_kind : Kind
p_kind = kind_pi nat (kind_pi (pi (on_one 1 (var 0)) nat) (kind_pi (on_one 1 (var 1)) (kind_pi circle_index star)))

abbrev pub circle_kinds : ℕ → Option Kind
circle_kinds zero = Some star
circle_kinds (suc zero) = Some (kind_pi nat star)
circle_kinds (suc (suc zero)) = Some (kind_pi nat (kind_pi nat star))
circle_kinds (suc (suc (suc zero))) = Some p_kind
circle_kinds (suc (suc (suc (suc f)))) = None

abbrev pub Circle : Signature
Circle = record { types = circle_types; kinds = circle_kinds }

-- The case is p T K W X at its last place, and the other has the variable Z of refl Z in front.
abbrev pub circle_case : NumberedCase
circle_case = record { blocks = []; variables = on_two 2 (var 2) (root (variable 1) (app (var 0) nil)) ∷ on_one 1 (var 1) ∷ pi (on_one 1 (var 0)) nat ∷ nat ∷ []; given = []; local = []; family = 3; arguments = None ∷ None ∷ None ∷ Some (var 0) ∷ [] }

abbrev pub circle_over : NumberedCase
circle_over = record { blocks = []; variables = nat ∷ on_two 2 (var 2) (root (variable 1) (app (var 0) nil)) ∷ on_one 1 (var 1) ∷ pi (on_one 1 (var 0)) nat ∷ nat ∷ []; given = []; local = []; family = 3; arguments = None ∷ None ∷ None ∷ Some (var 1) ∷ [] }

-- K W = T, where W, K and T have the numbers 2, 3 and 4
abbrev pub circle_left : Equation
circle_left = record { local = []; left = root (metavariable 3) (app (root (metavariable 2) nil) nil); right = root (metavariable 4) nil; of_type = nat }

-- The split of X by refl leaves K W = T: with T := K W the types of K and W would mention themselves. It isn't refuted,
-- and gives no case.
abbrev pub CircleIsLeft : Type 0
CircleIsLeft = (below : ℕ → ℕ → Bool) → NumberedSplitIs Circle 4 [] below circle_case 0 (outside_over circle_over circle_left)

-- The tuple p z ([x] z) n (refl z) makes it true, as each with refl for X: K W and T are z. With K = [x] a it is a = z,
-- and false.
abbrev pub refl_z : Term
refl_z = root (constant 3) (app z nil)

abbrev pub circle_values : ℕ → Image
circle_values = in_front (put (base 0) z) (in_front (put (base 2) refl_z) (in_front (put (base 1) (root (constant 2) nil)) (in_front (put (arrow (base 1) (base 0)) (lambda z)) (in_front (put (base 0) z) keep))))

abbrev pub circle_terms : Term → ℕ → Option Term
circle_terms M zero = Some z
circle_terms M (suc zero) = Some refl_z
circle_terms M (suc (suc zero)) = Some (root (constant 2) nil)
circle_terms M (suc (suc (suc zero))) = Some (lambda M)
circle_terms M (suc (suc (suc (suc zero)))) = Some z
circle_terms M (suc (suc (suc (suc (suc i))))) = None

-- The store that unification comes to: Z is T and X is refl Z.
abbrev pub circle_after : Store
circle_after = record { metavariables = context_metavariables circle_over.variables; bindings = record { of = 0; value = root (metavariable 4) nil } ∷ record { of = 1; value = root (constant 3) (app (root (metavariable 0) nil) nil) } ∷ []; equations = record { local = []; left = root (metavariable 3) (app (root (metavariable 2) nil) nil); right = root (metavariable 0) nil; of_type = nat } ∷ [] }

abbrev pub CircleIsTrue : Type 0
CircleIsTrue = ((w : World Circle [] nothing []) (υ : ℕ → Image) → HoldsTrue w 4 circle_over circle_after circle_left None υ (app z (app (lambda z) (app (root (constant 2) nil) (app refl_z nil))))) × ((θ : ℕ → ℕ → Image) → Solution Circle [] (read_store 4 [] θ (shown_store circle_after circle_left)) [] (circle_terms (root (constant 1) nil)) → ⊥)

-- In the context {x:exp} {u:p x} {y:exp} {v:p y}, where b stands for the older instance: X is the head b.x where it is
-- x, and isn't where it is y.
abbrev pub entry_offer : NumberedOffer
entry_offer = record { case = record { blocks = record { block = exp_block; terms = nil } ∷ []; variables = exp ∷ []; given = []; local = []; family = 1; arguments = Some (root (variable 0) nil) ∷ [] }; variable = 0; type = exp; head = constant 2; terms = nil; left = exp }

abbrev pub OlderIsHead : Type 0
OlderIsHead = HasHead 2 entry_offer (λ k. older) (in_front (put (base 0) (root (variable 3) nil)) keep) × (HasHead 2 entry_offer (λ k. older) (in_front (put (base 0) (root (variable 1) nil)) keep) → ⊥) × HasHead 2 entry_offer (λ k. newer) (in_front (put (base 0) (root (variable 1) nil)) keep)

-- p X has no block variable: there x is given as the head b.x of a new one, which stands for its instance.
abbrev pub new_offer : NumberedOffer
new_offer = record { case = with_new_block exp_block open_case; variable = 0; type = exp; head = constant 2; terms = nil; left = exp }

abbrev pub OlderIsGiven : Type 0
OlderIsGiven = (w : World Bare (exp_block ∷ []) nothing two_instances) × GivesHead w 2 open_case (λ k i. keep i) (in_front (put (base 0) (root (variable 3) nil)) keep) 0 new_offer
