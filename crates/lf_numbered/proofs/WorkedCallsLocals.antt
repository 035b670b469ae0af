-- The worked goal with a local context isn't covered, though the strategy's run ends at an instance.
use Rattle.std.proofs.Common.{◌≡◌, ℕ, zero, suc, [], ◌∷◌, inl, inr, refl, sym, ap, ◌∙◌, subst, arith, true≢false}
use Rattle.std.specs.Prelude.{List, true, None}
use Rattle.lf.specs.Syntax.{lambda, variable, root, nil, app, LfType, arrow, base, weaken, star}
use Rattle.lf.specs.AtOnce.{in_front}
use Rattle.lf.specs.Substitution.{Image, keep, put, substitute_type, reduce}
use Rattle.lf.specs.Typing.{HasType, ImageHasType, IsContext, IsType, Signature, TypeAt}
use Rattle.lf.specs.Variables.{UsesType, Values, same_number}
use Rattle.lf.specs.Subordination.{Member}
use Rattle.lf_checks.specs.Clause.{constant_clause, scope}
use Rattle.lf_checks.specs.Worlded.{IsTerm}
use Rattle.lf_cases.specs.Pattern.{Pattern, is_given}
use Rattle.lf_cases.specs.Split.{at_leaf, by_split, no_case, next_case}
use Rattle.lf_coverage.specs.Leaf.{IsTypedPattern}
use Rattle.lf_coverage.proofs.Parts.{none_some}
use Rattle.lf_coverage.proofs.UsedVariables.{at_one, types_at_one}
use Rattle.lf_numbered.specs.EntryConstants.{with_entries}
use Rattle.lf_numbered.specs.EntryPatterns.{IsInstanceOfPattern}
use Rattle.lf_numbered.specs.NumberedBesideGiven.{IsTypedBesideByNumber}
use Rattle.lf_numbered.specs.NumberedCalls.{IsFor, NumberedSplitIs, numbered_cases}
use Rattle.lf_numbered.specs.NumberedCallsMeeting.{SharesInstance}
use Rattle.lf_numbered.specs.NumberedCallsReached.{numbered_first}
use Rattle.lf_numbered.specs.OwnTerms.{ImageOnOwnTerms, TypeOnOwnTerms, own_terms}
use Rattle.lf_numbered.specs.WorkedCallsLocals.{Locals, LostUnderLocals, asks, fam_d, k_type, local_below, local_clause, local_goal, local_pattern, local_patterns, q_kind, raised_case, the_y, w_type, y_type}
use Rattle.lf_numbered.proofs.NumberedNeedsFor.{subgoal_is_for}
use Rattle.lf_numbered.proofs.NumberedNeedsLaws.{needed_split_is_answer}
use Rattle.lf_numbered.proofs.NumberedReachedInstances.{listed_is_numbered_instance}
use Rattle.lf_numbered.proofs.WorkedCallsLocalsBelow.{ok, setting, tested}
use Rattle.lf_numbered.proofs.WorkedCallsLocalsLost.{uncovered}
use Rattle.lf_numbered.proofs.WorkedCallsLocalsSplit.{goal_typed, lists, of_y}

-- The pattern is one for the goal.
y_long : (G : List LfType) → HasType Locals (y_type ∷ G) the_y y_type
y_long G = (y_type, (y_type, refl, refl), ((fam_d, refl, refl), refl))

asked : (G : List LfType) (i : ℕ) → TypeAt (y_type ∷ fam_d ∷ G) i w_type → IsType Locals G (asks i)
asked G i t = ((star, refl, tt), (((star, refl, tt), (star, refl, tt)), (q_kind, refl, ((k_type, refl, ((w_type, t, (y_long (fam_d ∷ G), refl)), refl)), tt))))

w_typed : IsContext Locals (w_type ∷ [])
w_typed = (tt, (((star, refl, tt), (star, refl, tt)), (star, refl, tt)))

pattern_typed : IsTypedPattern Locals local_pattern
pattern_typed = record { outer_typed = tt; clause_typed = (w_typed, asked (w_type ∷ []) 2 (w_type, (w_type, refl, refl), refl)); type_typed = asked (asks 2 ∷ w_type ∷ []) 3 (w_type, (w_type, (w_type, refl, refl), refl), refl) }

goal_beside : IsTypedBesideByNumber Locals 5 [] local_goal local_pattern
goal_beside = record {
  typed = goal_typed;
  outer = keep;
  stands = tt;
  beside = record {
    by_skeletons = record { items = goal_typed.variables.variables; given = tt; arguments = goal_typed.arguments };
    local_typed = goal_typed.local;
    same_family = refl;
    kind = q_kind;
    of_family = refl;
    given = record { typed = λ i A g u. absurd (none i u); closed = λ i A g u. absurd (none i u) };
    local = refl;
    arguments = ((of_y, (of_y, (of_y, refl, refl), refl), ((fam_d, (fam_d, refl, refl), refl), (y_long (fam_d ∷ of_y ∷ scope (constant_clause local_clause)), refl))), tt);
  };
}
  where
    none : (i : ℕ) → is_given (None ∷ None ∷ []) i ≡ true → ⊥
    none zero e = cc
    none (suc zero) e = cc
    none (suc (suc i)) e = cc

goal_for : IsFor Locals 5 [] local_goal local_pattern
goal_for = subgoal_is_for Locals 5 [] setting.blocks local_goal local_pattern pattern_typed (λ i e. absurd cc) (record { at_first = refl; typed_beside = goal_beside; known_places = (tt, ((tt, tt), tt)) })

-- q (k (Z y)) is an instance of it, where W is Z.
abbrev w_values : ℕ → Image
w_values = in_front (keep 0) (in_front (put (arrow (arrow (base 3) (base 0)) (base 0)) (lambda (root (variable 1) (app the_y nil)))) keep)

abbrev Entries : Signature
Entries = with_entries Locals 5 []

w_value_typed : Values Entries (same_number 1) (scope (constant_clause local_clause)) (w_type ∷ []) w_values
w_value_typed = record {
  typed = types_at_one 1 (λ i A. ImageHasType Entries (w_type ∷ []) (w_values i) (substitute_type reduce w_values A)) (scope (constant_clause local_clause)) w_type second (refl, (w_type, (w_type, refl, refl), (y_long (w_type ∷ []), refl)));
  closed = types_at_one 1 (λ i A. UsesType (same_number 1) A) (scope (constant_clause local_clause)) w_type second ((tt, tt), tt);
}
  where
    second : (A : LfType) → TypeAt (scope (constant_clause local_clause)) 1 A → A ≡ w_type
    second A (B, g, e) = e ∙ ap weaken g

raised_is_instance : IsInstanceOfPattern Locals 5 raised_case local_pattern
raised_is_instance = record {
  used = same_number 1;
  values = w_values;
  typed = w_value_typed;
  on_own_terms = at_one 1 (λ i. ImageOnOwnTerms (own_terms 5 []) (w_values i)) (((tt, tt), tt));
  uses = (tt, ((tt, tt), (((refl, ((refl, ((refl, tt), tt)), tt)), tt), tt)));
  strict = (tt, ((tt, tt), (((refl, ((refl, ((refl, tt), tt)), tt)), tt), tt)));
  terms = λ i o u. at_one 1 (λ j. IsTerm (w_values j)) tt i u;
  given = λ i M u e. absurd (none_some e);
  stands = tt;
  same = (refl, tt);
}

-- So both share it, and the split at Y is the strategy's.
shares : SharesInstance Locals 5 [] local_goal local_pattern
shares =
    let ((σ, i), k) = listed_is_numbered_instance Locals ok [] setting.blocks 5 setting.free local_below local_goal goal_typed 0 (raised_case ∷ []) lists raised_case (inl refl) in
    let r = raised_is_instance in
    record {
      common = raised_case;
      typed_variables = record { variables = w_typed; on_own_terms = own; blocks = tt };
      numbers = λ k. k;
      zeroth = refl;
      values = σ;
      of_case = i;
      of_pattern = record { used = r.used; values = r.values; typed = r.typed; on_own_terms = r.on_own_terms; uses = r.uses; terms = r.terms; given = r.given; stands = r.stands; same = r.same };
    }
  where
    own : (i : ℕ) (A : LfType) → TypeAt (w_type ∷ []) i A → TypeOnOwnTerms (own_terms 5 []) A
    own zero A e = subst (TypeOnOwnTerms (own_terms 5 [])) (sym e) ((tt, tt), tt)
    own (suc i) A (B, g, e) = absurd g

answer : NumberedSplitIs Locals 5 [] local_below local_goal 0 (numbered_cases (raised_case ∷ []))
answer = needed_split_is_answer Locals 5 [] local_below local_goal 0 (record { setting = setting; subordination = tested; case = goal_typed; variable = (of_y, refl) }) (raised_case ∷ []) lists

pub lost_under_locals : LostUnderLocals
lost_under_locals = (
  setting,
  tested,
  goal_typed,
  omega arith,
  only,
  (λ n. true≢false (sym n.locals_below.0.0)),
  by_split (raised_case ∷ []) (0, numbered_first [] (inl shares) refl, answer) (next_case (at_leaf (local_pattern, inl refl, raised_is_instance)) no_case),
  uncovered,
)
  where
    only : (p : Pattern) → Member p local_patterns → IsFor Locals 5 [] local_goal p
    only p (inl e) = subst (IsFor Locals 5 [] local_goal) (sym e) goal_for
    only p (inr m) = absurd m
