-- Worked goals by number.
use Rattle.std.proofs.Common.{◌≡◌, ℕ, zero, suc, ◌+◌, [], ◌∷◌, inl, refl, sym, ap, ◌∙◌, subst, arith}
use Rattle.std.specs.Prelude.{Bool, true, Some, None}
use Rattle.lf.specs.Syntax.{Head, Skeleton, Spine, Term, constant, root, nil, app, LfType, base, pi, atom, star}
use Rattle.lf.specs.Substitution.{Image, apply_image, keep, put, substitute_spine, substitute_type, reduce}
use Rattle.lf.specs.AtOnce.{in_front}
use Rattle.lf.specs.Typing.{TypeAt, ImageHasType, IsTypedSubstitution}
use Rattle.lf.specs.Variables.{UsesType, same_number}
use Rattle.lf.specs.Subordination.{AreTypedBlocks}
use Rattle.lf_checks.specs.Clause.{scope}
use Rattle.lf_checks.specs.Worlded.{IsTerm}
use Rattle.lf_cases.specs.Cover.{AgreesOutside, before}
use Rattle.lf_cases.specs.Pattern.{given_at}
use Rattle.lf_cases.specs.Split.{by_split, no_case}
use Rattle.lf_totality.specs.Examples.{nat, var}
use Rattle.lf_totality.specs.ExamplesReached.{asks_some_block}
use Rattle.lf_coverage.specs.Calls.{PlacesIn}
use Rattle.lf_coverage.specs.Listed.{no_offer}
use Rattle.lf_coverage.proofs.Parts.{none_some, some_same}
use Rattle.lf_coverage.proofs.UsedVariables.{at_one, types_at_one}
use Rattle.lf_numbered.specs.EntryConstants.{with_entries}
use Rattle.lf_numbered.specs.EntryPatterns.{IsInstanceOfPattern, variable_images}
use Rattle.lf_numbered.specs.NumberedCalls.{IsBesideByNumber}
use Rattle.lf_numbered.specs.NumberedCallsMeeting.{HasPattern, SharesInstance}
use Rattle.lf_numbered.specs.NumberedCallsOrder.{none_in_order}
use Rattle.lf_numbered.specs.NumberedCallsReached.{numbered_goal}
use Rattle.lf_numbered.specs.NumberedCase.{NumberedCase}
use Rattle.lf_numbered.specs.NumberedInstance.{block_at, move_spine, moved_constant}
use Rattle.lf_numbered.specs.NumberedSplits.{IsAnsweredByNumber, IsOfferTo, NumberedOffer}
use Rattle.lf_numbered.specs.NumberedSplitsExamples.{Bare, exp, open_case}
use Rattle.lf_numbered.specs.OwnTerms.{BlockVariable, ImageOnOwnTerms, blocks_of, own_terms}
use Rattle.lf_numbered.specs.WorkedCallsGoals.{Asking, MissingHasNoInstance, OutputGoalIsClosed, SomeOutputIsUnsplit, asks_some, asks_some_clause, asks_some_goal}
use Rattle.lf_numbered.specs.TypedNumbered.{IsTypedNumberedCase}
use Rattle.lf_numbered.proofs.NumberedCallsLaws.{answered_by_number_is_covered, answered_by_number_is_split_answer}
use Rattle.lf_numbered.proofs.NumberedSplitsExamples.{bare_ok, free}
use Rattle.lf_numbered.proofs.OffersListed.{heads_are_in}
use Rattle.lf_numbered.proofs.VariableTyped.{value_is_typed, variable_is_typed, variable_on_own}
use Rattle.lf_numbered.proofs.WorkedCallsStuck.{unsplit_alone}

pub output_goal_is_closed : OutputGoalIsClosed
output_goal_is_closed = (refl, refl)

-- q b.x N, for b on N, is shared by the goal and the subgoal.
abbrev shared_goal : NumberedCase
shared_goal = record { blocks = record { block = asks_some_block; terms = app (var 0) nil } ∷ []; variables = nat ∷ []; given = None ∷ []; local = []; family = 2; arguments = None ∷ Some (var 0) ∷ [] }

abbrev shared_outer : ℕ → Image
shared_outer = before [] (variable_images 4 shared_goal.blocks 0 asks_some_block (app (var 0) nil))

abbrev shared_values : ℕ → Image
shared_values = in_front (keep 0) shared_outer

shared_has_pattern : HasPattern Asking 4 shared_goal asks_some
shared_has_pattern = record {
  used = same_number 2;
  values = shared_values;
  typed = record {
    typed = types_at_one 2 (λ i A. ImageHasType (with_entries Asking 4 (asks_some_block ∷ [])) (nat ∷ []) (shared_values i) (substitute_type reduce shared_values A)) (scope asks_some_clause) nat third (refl, (nat, refl, refl));
    closed = types_at_one 2 (λ i A. UsesType (same_number 2) A) (scope asks_some_clause) nat third tt;
  };
  on_own_terms = at_one 2 (λ i. ImageOnOwnTerms (own_terms 4 shared_goal.blocks) (shared_values i)) tt;
  uses = ((refl, tt), tt);
  terms = λ i o u. at_one 2 (λ j. IsTerm (shared_values j)) tt i u;
  given = λ j M u e. at_one 2 (λ k. given_at shared_goal.given k ≡ Some M → (a : Skeleton) × (shared_values k ≡ put a M)) (λ p. absurd (none_some p)) j u e;
  stands = (0, app (var 0) nil, refl, (λ e. refl), agrees);
  same = (refl, tt);
}
  where
    third : (A : LfType) → TypeAt (scope asks_some_clause) 2 A → A ≡ nat
    third A (E, (F, g, p), e) = e ∙ ap Rattle.lf.specs.Syntax.weaken (p ∙ ap Rattle.lf.specs.Syntax.weaken g)

    agrees : AgreesOutside asks_some_clause shared_values shared_outer
    agrees k X g = refl

abbrev shared_both : ℕ → Image
shared_both = in_front (put (base 0) (var 0)) (in_front (put (base 0) (var 0)) (λ i. keep (i + 1)))

abbrev on_number : ℕ → Image
on_number = in_front (put (base 0) (var 0)) keep

abbrev Same : ℕ → BlockVariable → Type 0
Same k b = block_at shared_goal.blocks k ≡ Some (record { block = b.block; terms = substitute_spine reduce shared_both (move_spine (moved_constant 4 (blocks_of asks_some_goal.blocks) (blocks_of shared_goal.blocks) (λ j. j)) b.terms) })

goal_shares : SharesInstance Asking 4 (asks_some_block ∷ []) asks_some_goal asks_some
goal_shares = record {
  common = shared_goal;
  typed_variables = record { variables = (tt, (star, refl, tt)); on_own_terms = variable_on_own (own_terms 4 shared_goal.blocks) 0; blocks = (inl refl, (on_number, on_number_typed, refl), (tt, tt), tt) };
  numbers = λ k. k;
  zeroth = refl;
  values = shared_both;
  of_case = record {
    is_instance = record { blocks = same; values = (var 0, _, (var 0, (λ i. keep (i + 1)), refl, (nat, refl, refl), tt, refl), (nat, refl, refl), tt, refl) };
    family = refl;
    given = refl;
    local = refl;
    arguments = refl;
  };
  of_pattern = shared_has_pattern;
}
  where
    on_number_typed : IsTypedSubstitution (with_entries Asking 4 (asks_some_block ∷ [])) (nat ∷ []) (nat ∷ []) on_number
    on_number_typed = value_is_typed (with_entries Asking 4 (asks_some_block ∷ [])) nat (nat ∷ []) on_number (refl, (nat, refl, refl))

    same : (k : ℕ) (b : BlockVariable) → block_at asks_some_goal.blocks k ≡ Some b → Same k b
    same zero b e = subst (Same zero) (some_same e) refl
    same (suc k) b e = absurd (none_some e)

other_variables : var 0 ≡ var 1 → ⊥
other_variables e = cc

-- n is N, and Y is another variable.
goal_is_none : IsInstanceOfPattern Asking 4 asks_some_goal asks_some → ⊥
goal_is_none i = by i.stands.0 i.stands.1 i.stands.2 i.stands.4
  where
    at_number : i.values 2 ≡ put (base 0) (var 1) → ⊥
    at_number e = other_variables (i.same.0 ∙ ap (λ x. apply_image reduce x nil) e)

    by : (k : ℕ) (U : Spine) → block_at asks_some_goal.blocks k ≡ Some (record { block = asks_some_block; terms = U }) → AgreesOutside asks_some_clause i.values (before [] (variable_images 4 asks_some_goal.blocks k asks_some_block U)) → ⊥
    by zero U e a = at_number (subst (λ V. i.values 2 ≡ before [] (variable_images 4 asks_some_goal.blocks 0 asks_some_block V) 1) (sym (ap (λ (b : BlockVariable). b.terms) (some_same e))) (a 1 nat (nat, refl, refl)))
    by (suc k) U e a = none_some e

pub some_output_is_unsplit : SomeOutputIsUnsplit
some_output_is_unsplit = ((refl, refl), (goal_is_none, inl goal_shares, refl), λ below. unsplit_alone Asking 4 (asks_some_block ∷ []) below asks_some_goal asks_some goal_is_none (inl goal_shares) refl)

-- The empty world
no_blocks : AreTypedBlocks Bare []
no_blocks B m = absurd m

open_alone : IsTypedNumberedCase Bare 2 [] open_case
open_alone = variable_is_typed Bare 2 [] 0 1 refl [] tt

none_offered : (o : NumberedOffer) → IsOfferTo Bare 2 [] open_case 0 exp o → ⊥
none_offered = heads_are_in Bare 2 open_case 0 exp [] [] refl (λ k V e t. absurd (none_some e)) (λ c U V o e t. absurd (none_some o)) tt

no_split : (below : ℕ → ℕ → Bool) → IsAnsweredByNumber Bare 2 [] below open_case 0 []
no_split below = record { type = exp; at = refl; takes_below = tt; offers = []; each = λ o m. absurd m; every = λ o f. none_offered o f; arguments_below = λ o f. absurd (none_offered o f); listed = no_offer }

exp_in_set : (S : ℕ → Bool) → IsBesideByNumber Bare [] S open_case → S 0 ≡ true
exp_in_set S b = (subst (PlacesIn S (true ∷ [])) (sym (some_same b.of_family)) b.places).0

pub missing_has_no_instance : MissingHasNoInstance
unfolding no_split
missing_has_no_instance below s = (
  answered_by_number_is_split_answer Bare bare_ok [] no_blocks below s 2 free open_case open_alone 0 [] (record {
    unified = record { type = exp; at = refl; offers = []; each = λ o m. absurd m; every = λ o f. none_offered o f; listed = no_offer };
    ranks = [];
    in_order = none_in_order;
    every_rank = λ o r f h. absurd (none_offered o f);
  }),
  answered_by_number_is_covered Bare bare_ok [] no_blocks below s 2 free [] open_case open_alone (omega arith) (by_split [] (0, no_split below, λ S b. exp_in_set S b) no_case),
  (numbered_goal, record { typed = open_alone; apart = λ p m. absurd m }),
)
