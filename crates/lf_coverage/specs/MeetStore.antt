-- The store in which a case is unified with a pattern of a constant's clause: whether they meet.
use Rattle.std.specs.Prelude.{◌≡◌, ℕ, zero, suc, ◌⊎◌, List, [], ◌∷◌, length, Option, Some, None}
use Rattle.lf.specs.Syntax.{variable, Term, Spine, nil, app, LfType, Kind, kind_pi, star, skeleton, rename_spine}
use Rattle.lf.specs.AtOnce.{shift_by, lift_renaming_by}
use Rattle.lf.specs.Depth.{depth_limit}
use Rattle.lf.specs.Eta.{eta_long}
use Rattle.lf.specs.Typing.{Signature, instantiate_kind}
use Rattle.lf.specs.Variables.{target_arguments, binders, onto}
use Rattle.lf_unification.specs.DeepEquations.{AreDeep}
use Rattle.lf_unification.specs.Lists.{followed}
use Rattle.lf_unification.specs.Solving.{Left}
use Rattle.lf_unification.specs.Unifiers.{Equation, Store}
use Rattle.lf_checks.specs.Clause.{Clause, scope}
use Rattle.lf_cases.specs.Case.{Case, items_context}
use Rattle.lf_cases.specs.OutputGoal.{renumber}
use Rattle.lf_cases.specs.Pattern.{Origin, of_constant, of_entry, Pattern}
use Rattle.lf_cases.specs.Split.{HasNoBlockVariable}
use Rattle.lf_coverage.specs.SplitStore.{open_term, open_spine, open_type, open_locals, type_in, context_metavariables}

-- the arguments of a case under n local variables, with its free variables as metavariables
abbrev pub open_arguments : ℕ → List (Option Term) → List (Option Term)
open_arguments n [] = []
open_arguments n (Some M ∷ Ms) = Some (open_term n M) ∷ open_arguments n Ms
open_arguments n (None ∷ Ms) = None ∷ open_arguments n Ms

-- The equations of the arguments at the covered places, the case's on the left. K is the kind of the family; a place's type has the pattern's
-- arguments put in.
abbrev pub place_equations : List LfType → List (Option Term) → Spine → Kind → List Equation
place_equations D [] S K = []
place_equations D (M ∷ Ms) nil K = []
place_equations D (M ∷ Ms) (app Q S) star = []
place_equations D (Some M ∷ Ms) (app Q S) (kind_pi A K) = record { local = D; left = M; right = Q; of_type = A } ∷ place_equations D Ms S (instantiate_kind A Q K)
place_equations D (None ∷ Ms) (app Q S) (kind_pi A K) = place_equations D Ms S (instantiate_kind A Q K)

-- the equation of the variable k with what is given for it
abbrev pub one_given : ℕ → Option LfType → Option Term → List Equation → List Equation
one_given k None M es = es
one_given k (Some A) None es = es
one_given k (Some A) (Some M) es = record { local = []; left = open_term zero (eta_long (skeleton A) (variable k)); right = open_term zero M; of_type = open_type zero A } ∷ es

-- for each variable of the clause, from the number k on, the given term; X has the types
abbrev pub given_equations : List LfType → ℕ → List (Option Term) → List Equation
given_equations X k [] = []
given_equations X k (M ∷ Ms) = one_given k (type_in X k) M (given_equations X (suc k) Ms)

-- The items of the case and, behind them, the variables of the clause are metavariables. What is given is equated first, and then the arguments at
-- the covered places. K is the kind of the family.
abbrev pub meet_store : Case → Pattern → Kind → Store
meet_store C p K =
    let X : List LfType = onto (items_context C.items) (scope p.clause) in
    let n : ℕ = length (items_context C.items) in
    let D : List LfType = binders [] p.type in
    record {
      metavariables = context_metavariables X;
      bindings = [];
      equations = followed (given_equations X n C.given) (place_equations (open_locals (renumber (shift_by n) D)) (open_arguments (length D) C.arguments) (open_spine (length D) (rename_spine (lift_renaming_by (length D) (shift_by n)) (target_arguments p.type))) K);
    }

-- the clause is a constant's
abbrev pub IsConstants : {c : Clause} → Origin c → Type 0
IsConstants (of_constant U) = Unit {0}
IsConstants (of_entry B later E es e) = ⊥

-- Unification of the case with a pattern of a constant decides nothing: it leaves equations outside the pattern fragment, or they are deep.
pub record IsOpen (Σ : Signature) (C : Case) (p : Pattern) : Type 0 where
  pub kind : Kind
  pub of_family : Σ.kinds C.family ≡ Some kind
  pub no_block : HasNoBlockVariable C.items
  pub of_a_constant : IsConstants p.origin
  pub undecided : AreDeep depth_limit Σ (meet_store C p kind) ⊎ ((after : Store) × Left Σ (meet_store C p kind) after)
