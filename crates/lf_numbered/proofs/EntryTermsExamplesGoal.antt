-- The goal of outputs of an entry's subgoal matches it by terms, and so is an instance of it.
use Rattle.std.proofs.Common.{◌≡◌, ℕ, zero, suc, [], ◌∷◌, refl, sym, ap, ◌∙◌, subst}
use Rattle.std.specs.Prelude.{true, false, Some}
use Rattle.lf.specs.Syntax.{nil, app, Spine, LfType, Kind, base, kind_pi, star}
use Rattle.lf.specs.Substitution.{Image, put, substitute_spine, substitute_type, reduce}
use Rattle.lf.specs.Typing.{TypeAt, ImageHasType}
use Rattle.lf.specs.Variables.{UsesType, Values, everything, onto}
use Rattle.lf_checks.specs.Clause.{scope, outside}
use Rattle.lf_cases.specs.Case.{covered_places}
use Rattle.lf_cases.specs.Cover.{before, AreTerms}
use Rattle.lf_cases.specs.Pattern.{ground_in, is_given}
use Rattle.lf_totality.specs.Examples.{exp, var}
use Rattle.lf_totality.specs.ExamplesGroups.{on_one}
use Rattle.lf_coverage.specs.Leaf.{IsTypedPattern}
use Rattle.lf_coverage.specs.TypedCase.{TypedArguments}
use Rattle.lf_coverage.proofs.Parts.{some_same}
use Rattle.lf_numbered.specs.EntryConstants.{with_entries}
use Rattle.lf_numbered.specs.EntryPatterns.{variable_images}
use Rattle.lf_numbered.specs.EntryPatternsExamples.{Laters, asked, asked_goal, asking_block, asking_clause, asking_entry, later_worlds}
use Rattle.lf_numbered.specs.EntryTerms.{IsTried, IsTypedBesideWith, MatchesByNumber, beside_values, known_in, own_values}
use Rattle.lf_numbered.specs.EntryTermsExamples.{AskedMatches, AskedIsInstance, asked_outer, later_goal, odd_goal, odd_outer, z}
use Rattle.lf_numbered.specs.NumberedInstance.{block_at}
use Rattle.lf_numbered.specs.OwnTerms.{BlockVariable}
use Rattle.lf_numbered.proofs.EntryPatternsAsked.{at_some}
use Rattle.lf_numbered.proofs.EntryPatternsGoals.{ok as laters_ok, blocks as laters_blocks, free as laters_free, goal_leaf}
use Rattle.lf_numbered.proofs.EntryTermsDecided.{numbered_goal_is_decided}

asked_terms : AreTerms asking_clause (ground_in asked (covered_places asked_goal.arguments) asked_goal.given) (own_values asked_goal asked asked_outer)
asked_terms zero o u = absurd cc
asked_terms (suc zero) o u = tt
asked_terms (suc (suc i)) o u = absurd cc

asked_match : MatchesByNumber 4 asked_goal asked
asked_match = (asked_outer, (0, app (var 1) nil, refl, (λ e. refl), refl), (((refl, tt), tt), asked_terms, (refl, tt)))

pub asked_matches : AskedMatches
asked_matches = (asked_match, λ (φ, (k, U, e, n, r), m). other k U (n refl) e)
  where
    other : (k : ℕ) (U : Spine) → k ≡ zero → block_at later_goal.blocks k ≡ Some (record { block = asking_block; terms = U }) → ⊥
    other zero U n e = differ (ap (λ (b : BlockVariable). b.block.entries) (some_same e))
      where
        differ : on_one 1 (var 0) ∷ exp ∷ [] ≡ asking_entry ∷ [] → ⊥
        differ q = cc
    other (suc k) U n e = absurd cc

asked_given : Values (with_entries Laters 4 (asking_block ∷ [])) (known_in asked_goal asked) (scope asking_clause) asked_goal.variables (beside_values asked_goal asked asked_outer)
asked_given = record { typed = typed; closed = closed }
  where
    typed : (i : ℕ) (A : LfType) → TypeAt (scope asking_clause) i A → known_in asked_goal asked i ≡ true → ImageHasType (with_entries Laters 4 (asking_block ∷ [])) asked_goal.variables (beside_values asked_goal asked asked_outer i) (substitute_type reduce (beside_values asked_goal asked asked_outer) A)
    typed zero A g u = absurd cc
    typed (suc zero) A g u = absurd cc
    typed (suc (suc zero)) A g u = subst (λ B. ImageHasType (with_entries Laters 4 (asking_block ∷ [])) asked_goal.variables (put (base 0) (var 1)) (substitute_type reduce (beside_values asked_goal asked asked_outer) B)) (sym (at_some A g)) (refl, (exp, (exp, refl, refl), refl))
    typed (suc (suc (suc i))) A (B, (D, (E, g, e), f), q) u = absurd g

    closed : (i : ℕ) (A : LfType) → TypeAt (scope asking_clause) i A → known_in asked_goal asked i ≡ true → UsesType (known_in asked_goal asked) A
    closed zero A g u = absurd cc
    closed (suc zero) A g u = absurd cc
    closed (suc (suc zero)) A g u = subst (UsesType (known_in asked_goal asked)) (sym (at_some A g)) tt
    closed (suc (suc (suc i))) A (B, (D, (E, g, e), f), q) u = absurd g

asked_beside : IsTypedBesideWith Laters 4 asked_goal asked asked_outer
asked_beside = record { kind = kind_pi exp (kind_pi (on_one 1 (var 0)) star); of_family = refl; given = asked_given; local = refl; arguments = ((on_one 1 (var 1), refl, refl), tt) }

pub asked_typed : IsTypedPattern Laters asked
asked_typed = record {
  outer_typed = (tt, (_, refl, tt));
  clause_typed = (((tt, (_, refl, tt)), (_, refl, ((exp, refl, refl), tt))), (_, refl, ((exp, (exp, refl, refl), refl), ((on_one 1 (var 1), refl, refl), tt))));
  type_typed = (_, refl, ((exp, (exp, (exp, refl, refl), refl), refl), ((on_one 1 (var 2), (on_one 1 (var 1), refl, refl), refl), tt)));
}

-- with all that is tried, which is this alone
all_beside : (φ : ℕ → Image) → IsTried 4 asked_goal asked.origin asked.at_first φ → IsTypedBesideWith Laters 4 asked_goal asked φ
all_beside φ (k, U, e, n, r) = by k U (n refl) e r
  where
    by : (k : ℕ) (U : Spine) → k ≡ zero → block_at asked_goal.blocks k ≡ Some (record { block = asking_block; terms = U }) → φ ≡ before [] (variable_images 4 asked_goal.blocks k asking_block U) → IsTypedBesideWith Laters 4 asked_goal asked φ
    by zero U z e r = subst (IsTypedBesideWith Laters 4 asked_goal asked) (sym (r ∙ ap (λ V. before [] (variable_images 4 asked_goal.blocks 0 asking_block V)) (sym (ap (λ (b : BlockVariable). b.terms) (some_same e))))) asked_beside
    by (suc k) U z e r = absurd cc

pub asked_is_instance : AskedIsInstance
asked_is_instance = (
  asked_beside,
  (numbered_goal_is_decided Laters laters_ok later_worlds laters_blocks 4 laters_free asked_goal goal_leaf.typed asked asked_typed own ((refl, tt), tt) all_beside).0.1 asked_match,
  λ b. odd b.kind b.of_family b.arguments,
)
  where
    own : (i : ℕ) → is_given asked_goal.given i ≡ true → outside asking_clause.type everything i ≡ false
    own zero e = absurd cc
    own (suc zero) e = absurd cc
    own (suc (suc i)) e = absurd cc

    differ : on_one 1 (var 1) ≡ on_one 1 (var 2) → ⊥
    differ e = cc

    odd : (K : Kind) → Laters.kinds 2 ≡ Some K → TypedArguments (with_entries Laters 4 (asking_block ∷ [])) (onto [] (onto odd_goal.variables (scope asking_clause))) odd_goal.arguments (substitute_spine reduce (beside_values odd_goal asked odd_outer) (app (var 2) (app (var 1) nil))) K → ⊥
    odd K e a = at (subst (TypedArguments (with_entries Laters 4 (asking_block ∷ [])) (onto [] (onto odd_goal.variables (scope asking_clause))) odd_goal.arguments (substitute_spine reduce (beside_values odd_goal asked odd_outer) (app (var 2) (app (var 1) nil)))) (sym (some_same e)) a)
      where
        at : TypedArguments (with_entries Laters 4 (asking_block ∷ [])) (onto [] (onto odd_goal.variables (scope asking_clause))) odd_goal.arguments (substitute_spine reduce (beside_values odd_goal asked odd_outer) (app (var 2) (app (var 1) nil))) (kind_pi exp (kind_pi (on_one 1 (var 0)) star)) → ⊥
        at ((B, g, s), t) = differ (sym g ∙ s)
