-- Worked: a split that leaves an equation with a metavariable that solving made. It is no variable of the case that the
-- equation is shown over.
use Rattle.std.specs.Prelude.{ℕ, zero, suc, ◌≤◌, [], ◌∷◌, length, Bool, Option, Some, None}
use Rattle.lf.specs.Syntax.{variable, metavariable, Term, lambda, root, nil, app, LfType, pi, atom, Kind, kind_pi, star}
use Rattle.lf.specs.Typing.{Signature}
use Rattle.lf_unification.specs.Reach.{Mentions}
use Rattle.lf_unification.specs.Unifiers.{Equation}
use Rattle.lf_totality.specs.Examples.{nat, successor, var, z}
use Rattle.lf_numbered.specs.NumberedCalls.{NumberedSplitIs, outside_over}
use Rattle.lf_numbered.specs.NumberedCase.{NumberedCase}

-- The families are nat (0) and t : (nat -> nat -> nat) -> nat -> type (1); the constants are z (0), s (1) and
-- h : {H:nat -> nat} t ([x] [y] H x) z (2).
abbrev pub one_nat : LfType
one_nat = pi nat nat

abbrev pub two_nat : LfType
two_nat = pi nat one_nat

abbrev pub t_kind : Kind
t_kind = kind_pi two_nat (kind_pi nat star)

abbrev pub t_of : Term → Term → LfType
t_of M N = atom 1 (app M (app N nil))

abbrev pub h_type : LfType
h_type = pi one_nat (t_of (lambda (lambda (root (variable 2) (app (var 1) nil)))) z)

abbrev pub made_types : ℕ → Option LfType
made_types zero = Some nat
made_types (suc zero) = Some one_nat
made_types (suc (suc zero)) = Some h_type
made_types (suc (suc (suc c))) = None

abbrev pub made_kinds : ℕ → Option Kind
made_kinds zero = Some star
made_kinds (suc zero) = Some t_kind
made_kinds (suc (suc a)) = None

abbrev pub Made : Signature
Made = record { types = made_types; kinds = made_kinds }

-- V : t ([x] [y] s (G x y)) (G z z), where G is the variable i
abbrev pub v_type : ℕ → LfType
v_type i = t_of (lambda (lambda (successor (root (variable (suc (suc i))) (app (var 1) (app (var 0) nil)))))) (root (variable i) (app z (app z nil)))

-- The case has V and G; it is of the family nat, which has no places. With H in front, for the argument of h, it is
-- what the equation is shown over.
abbrev pub made_case : NumberedCase
made_case = record { blocks = []; variables = v_type 0 ∷ two_nat ∷ []; given = []; local = []; family = 0; arguments = [] }

abbrev pub made_over : NumberedCase
made_over = record { blocks = []; variables = one_nat ∷ v_type 0 ∷ two_nat ∷ []; given = []; local = []; family = 0; arguments = [] }

-- Of s (G x y) = H x and G z z = z solving makes G the function [x] [y] G' x and H [x] s (G' x), and leaves G' z = z.
-- G' has the number 3.
abbrev pub made_left : Equation
made_left = record { local = []; left = root (metavariable 3) (app z nil); right = z; of_type = nat }

abbrev pub MadeBySolving : Type 0
MadeBySolving = (below : ℕ → ℕ → Bool) → NumberedSplitIs Made 3 [] below made_case 0 (outside_over made_over made_left) × Mentions 3 made_left.left × (length made_over.variables ≤ 3)
