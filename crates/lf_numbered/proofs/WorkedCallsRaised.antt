-- The worked goal that is raised, and its split.
use Rattle.std.proofs.Common.{◌≡◌, ℕ, zero, suc, List, [], ◌∷◌, inl, inr, refl, sym, ap, ◌∙◌, subst, arith}
use Rattle.std.specs.Prelude.{Option, Some, None}
use Rattle.lf.specs.Syntax.{Skeleton, constant, lambda, metavariable, Term, root, nil, app, LfType, arrow, base, pi, star}
use Rattle.lf.specs.AtOnce.{in_front}
use Rattle.lf.specs.Substitution.{Image, keep, put, substitute_type, reduce}
use Rattle.lf.specs.Typing.{TypeAt, ImageHasType, IsSignature, Signature}
use Rattle.lf.specs.Variables.{UsesType, same_number}
use Rattle.lf.specs.Subordination.{AreTypedBlocks}
use Rattle.lf_unification.specs.Dependency.{IsDependencyOrder, IsListed, ListedMetavariable}
use Rattle.lf_unification.specs.Inversion.{IsPattern}
use Rattle.lf_unification.specs.OpenTyping.{MetavariablesInType, OpenHasType}
use Rattle.lf_unification.specs.Outside.{Holds}
use Rattle.lf_unification.specs.PartialInstance.{IsFilling}
use Rattle.lf_unification.specs.Patterns.{beyond, pattern_renaming}
use Rattle.lf_unification.specs.Solving.{IsWellFormed, Solved}
use Rattle.lf_unification.specs.Steps.{Run, bind, no_step, open_lambdas, then_run}
use Rattle.lf_unification.specs.Unifiers.{Store, on_left}
use Rattle.lf_unification.proofs.Runs.{run_solved}
use Rattle.lf_checks.specs.Clause.{scope}
use Rattle.lf_checks.specs.Worlded.{IsTerm}
use Rattle.lf_cases.specs.Cover.{before}
use Rattle.lf_cases.specs.Pattern.{given_at}
use Rattle.lf_totality.specs.Examples.{applied_to, var}
use Rattle.lf_coverage.specs.ExamplesTwins.{up_to}
use Rattle.lf_coverage.specs.Listed.{with_case, no_offer}
use Rattle.lf_coverage.specs.SplitStore.{context_metavariables}
use Rattle.lf_coverage.proofs.OtherNumbers.{not_among}
use Rattle.lf_coverage.proofs.Parts.{none_some, some_same}
use Rattle.lf_coverage.proofs.UsedVariables.{at_one, types_at_one}
use Rattle.lf_numbered.specs.EntryConstants.{with_entries}
use Rattle.lf_numbered.specs.EntryPatterns.{IsInstanceOfPattern, variable_images}
use Rattle.lf_numbered.specs.NumberedCallsOrder.{one_in_order, signature_rank}
use Rattle.lf_numbered.specs.NumberedSplits.{NumberedUnifierFinds}
use Rattle.lf_numbered.specs.OwnStores.{numbered_store}
use Rattle.lf_numbered.specs.OwnTerms.{ImageOnOwnTerms, own_terms}
use Rattle.lf_numbered.specs.WorkedCallsRaised.{MentionedOutputIsSplit, Raising, asked_both, constant_goal, d_kind, d_of, fam_a, fam_b, g_of, g_type, raised_goal, raising_block, raising_clause, raising_worlds}
use Rattle.lf_numbered.proofs.EntrySignature.{with_entries_is_signature}
use Rattle.lf_numbered.proofs.NumberedCallsLaws.{answered_by_number_is_split_answer}
use Rattle.lf_numbered.proofs.OwnStoresStart.{numbered_store_is_ready}
use Rattle.lf_numbered.proofs.WorkedCallsRaisedBelow.{blocks, free, ok, raising_subordination}
use Rattle.lf_numbered.proofs.WorkedCallsRaisedOffers.{each, every, every_rank, g_offered, of_output, offers, raised_typed, the_offer}

-- Y x = g Z and F x = Z are solved.
abbrev Entries : Signature
Entries = with_entries Raising 5 (raising_block ∷ [])

first_alone : AreTypedBlocks Raising (raising_block ∷ [])
first_alone B (inl e) = blocks B (inl e)
first_alone B (inr m) = absurd m

entries_ok : IsSignature Entries
entries_ok = with_entries_is_signature Raising ok 5 free (raising_block ∷ []) first_alone

abbrev types : ℕ → Option LfType
types = context_metavariables (fam_b ∷ pi fam_a (d_of (applied_to 1 0)) ∷ pi fam_a fam_b ∷ [])

abbrev new_argument : Term
new_argument = root (metavariable 0) nil

abbrev output_value : Term
output_value = lambda (g_of new_argument)

abbrev function_value : Term
function_value = lambda new_argument

abbrev output_type : LfType
output_type = pi fam_a (d_of (root (metavariable 2) (app (var 0) nil)))

abbrev solved_store : Store
solved_store = record { metavariables = types; bindings = record { of = 2; value = function_value } ∷ record { of = 1; value = output_value } ∷ []; equations = [] }

abbrev solved_order : List ListedMetavariable
solved_order = record { of = 1; of_type = output_type; value = Some output_value } ∷ record { of = 2; of_type = pi fam_a fam_b; value = Some function_value } ∷ record { of = 0; of_type = fam_b; value = None } ∷ []

one_kept : (b : ℕ) → IsPattern (fam_a ∷ []) (arrow (base 3) (base b)) (0 ∷ [])
one_kept b = record { places = λ Γ. (refl, tt); distinct = apart }
  where
    apart : (i j : ℕ) → pattern_renaming (arrow (base 3) (base b)) (0 ∷ []) (beyond (fam_a ∷ [])) i ≡ pattern_renaming (arrow (base 3) (base b)) (0 ∷ []) (beyond (fam_a ∷ [])) j → i ≡ j
    apart zero zero e = refl
    apart zero (suc j) e = absurd (omega (arith, e))
    apart (suc i) zero e = absurd (omega (arith, e))
    apart (suc i) (suc j) e = e

abbrev store : Store
store = numbered_store up_to raised_goal 0 of_output (constant 0) nil g_type d_kind

ready : IsWellFormed Entries store
ready = numbered_store_is_ready Raising ok raising_worlds blocks 5 free up_to raised_goal raised_typed 0 of_output refl (constant 0) nil g_type g_offered d_kind refl

run : Run Entries store solved_store
run =
    then_run open_lambdas
    (then_run (bind {A = output_type} on_left (fam_a ∷ []) 1 (0 ∷ []) (g_of new_argument) (d_of (root (metavariable 2) (app (var 0) nil))) refl tt (one_kept 1) (record { inverted = record { inversion = g_of new_argument; is = refl }; reached = same_number 0; avoids = (closed, tt, λ v. v); within = ((tt, tt), tt) }))
    (then_run (bind {A = pi fam_a fam_b} on_left (fam_a ∷ []) 2 (0 ∷ []) new_argument fam_b refl unbound (one_kept 0) (record { inverted = record { inversion = new_argument; is = refl }; reached = same_number 0; avoids = (closed, ((λ v. absurd v), tt), λ v. v); within = (tt, tt) })) no_step))
  where
    closed : (k : ℕ) (A : LfType) → Holds (same_number 0 k) → types k ≡ Some A → MetavariablesInType (λ j. Holds (same_number 0 j)) A
    closed zero A v e = subst (MetavariablesInType (λ j. Holds (same_number 0 j))) (some_same e) tt
    closed (suc k) A v e = absurd v

    unbound : Rattle.lf_unification.specs.Putting.Unbound (record { of = 1; value = output_value } ∷ []) 2
    unbound = ((λ e. omega (arith, e)), tt)

abbrev by_run : Solved Entries store solved_store
by_run = run_solved Entries entries_ok ready run refl

is_order : IsDependencyOrder Entries types (IsFilling Entries [] solved_store) solved_order
is_order = (
  ((tt, refl, (λ h. h), tt, (star, refl, tt), (λ ρ. refl), tt), refl, not_among refl (λ b. b), (tt, tt), ((star, refl, tt), (star, refl, tt)), (λ ρ. refl), ((inl refl, tt), (fam_b, (fam_b, refl, refl), (refl, λ β u. refl)), λ ρ. refl)),
  refl,
  not_among refl (not_among refl (λ b. b)),
  (tt, ((inl refl, (tt, tt)), tt)),
  by_run.well_formed.typed.declarations_typed.metavariables_typed 1 output_type refl,
  (λ ρ. refl),
  (((inr (inl refl), tt), tt), value_typed, λ ρ. refl),
)
  where
    value_typed : OpenHasType Entries [] types (IsFilling Entries [] solved_store) [] output_value output_type
    value_typed = let (A, e, h) = by_run.well_formed.typed.bindings_typed.1.0 in subst (OpenHasType Entries [] types (IsFilling Entries [] solved_store) [] output_value) (sym (some_same e)) h

listed : (m : ℕ) (A : LfType) → types m ≡ Some A → IsListed solved_order m
listed zero A e = inr (inr (inl refl))
listed (suc zero) A e = inl refl
listed (suc (suc zero)) A e = inr (inl refl)
listed (suc (suc (suc m))) A e = absurd (none_some e)

abbrev form : IsWellFormed Entries solved_store
form = record {
  order = solved_order;
  is_order = is_order;
  all_listed = listed;
  bindings_listed = ((pi fam_a fam_b, inr (inl refl)), ((output_type, inl refl), tt));
  values_bound = ((λ N e. inr (inl (ap (λ X. record { of = 1; value = X }) (sym (some_same e))))), ((λ N e. inl (ap (λ X. record { of = 2; value = X }) (sym (some_same e)))), ((λ N e. absurd (none_some e)), tt)));
  typed = by_run.well_formed.typed;
}

abbrev is_solved : Solved Entries store solved_store
is_solved = record { run = run; keeps = by_run.keeps; well_formed = form; none_left = refl }

g_found : NumberedUnifierFinds Raising 5 up_to the_offer d_kind (Some constant_goal)
g_found = (solved_store, is_solved, refl)

-- f is [x] Z.
abbrev constant_outer : ℕ → Image
constant_outer = before [] (variable_images 5 constant_goal.blocks 0 raising_block (app (lambda (var 1)) nil))

abbrev constant_values : ℕ → Image
constant_values = in_front (keep 0) constant_outer

constant_instance : IsInstanceOfPattern Raising 5 constant_goal asked_both
constant_instance = record {
  used = same_number 1;
  values = constant_values;
  typed = record {
    typed = types_at_one 1 (λ i A. ImageHasType Entries (fam_b ∷ []) (constant_values i) (substitute_type reduce constant_values A)) (scope raising_clause) (pi fam_a fam_b) second (refl, (fam_b, (fam_b, refl, refl), refl));
    closed = types_at_one 1 (λ i A. UsesType (same_number 1) A) (scope raising_clause) (pi fam_a fam_b) second (tt, tt);
  };
  on_own_terms = at_one 1 (λ i. ImageOnOwnTerms (own_terms 5 constant_goal.blocks) (constant_values i)) tt;
  uses = (tt, (((refl, ((refl, tt), tt)), tt), tt));
  strict = (tt, (((refl, ((refl, tt), tt)), tt), tt));
  terms = λ i o u. at_one 1 (λ j. IsTerm (constant_values j)) tt i u;
  given = λ j M u e. at_one 1 (λ k. given_at constant_goal.given k ≡ Some M → (a : Skeleton) × (constant_values k ≡ put a M)) (λ p. absurd (none_some p)) j u e;
  stands = (0, app (lambda (var 1)) nil, refl, (λ e. refl), λ k X g. refl);
  same = (refl, tt);
}
  where
    second : (A : LfType) → TypeAt (scope raising_clause) 1 A → A ≡ pi fam_a fam_b
    second A (E, g, e) = e ∙ ap Rattle.lf.specs.Syntax.weaken g

pub mentioned_output_is_split : MentionedOutputIsSplit
mentioned_output_is_split = (
  (refl, refl),
  answered_by_number_is_split_answer Raising ok raising_worlds blocks up_to raising_subordination 5 free raised_goal raised_typed 0 (constant_goal ∷ []) (record {
    unified = record {
      type = of_output;
      at = refl;
      offers = offers;
      each = each;
      every = every;
      listed = with_case (record { kind = d_kind; of_family = refl; finds = g_found }) no_offer;
    };
    ranks = (0 ∷ 0 ∷ []) ∷ [];
    in_order = one_in_order (signature_rank 0 refl refl);
    every_rank = λ o r f h. every_rank o r (every o f) h;
  }),
  constant_instance,
)
