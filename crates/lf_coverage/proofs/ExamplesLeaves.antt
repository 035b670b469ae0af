-- A run of addition that ends at instances of clauses.
use Rattle.std.proofs.Common.{◌≡◌, zero, suc, [], ◌∷◌, refl, sym, ◌∙◌, subst, inl, inr}
use Rattle.lf.specs.Syntax.{Term, Spine, nil, app, base, arrow, skeleton, weaken}
use Rattle.lf.specs.AtOnce.{in_front}
use Rattle.lf.specs.Substitution.{keep, put, substitute_spine, reduce}
use Rattle.lf.specs.Variables.{target_arguments}
use Rattle.lf_checks.specs.Clause.{from_constant}
use Rattle.lf_cases.specs.Case.{free_variable, as_term, HasArguments, covered_places}
use Rattle.lf_checks.specs.Marks.{SamePlaces}
use Rattle.lf_cases.specs.Reached.{IsInstanceOf, LeavesAll}
use Rattle.lf_totality.specs.Examples.{Addition, var, nat, z, successor, plus_kind, plus_z, plus_s, plus_heads, plus_input_goal, plus_zero_case, plus_successor_case, first_below_second}
use Rattle.lf_totality.proofs.Addition.{addition_ok, s_first, s_images, s_values, s_terms}
use Rattle.lf_totality.proofs.ExamplesSplits.{instances_stand}
use Rattle.lf_cases.specs.Pattern.{of_constant, head_pattern}
use Rattle.lf_cases.specs.Split.{Ends, at_leaf, by_split, no_case, next_case}
use Rattle.lf_coverage.specs.UnifiedSplit.{SplitsByUnification}
use Rattle.lf_coverage.specs.Leaf.{IsInstanceLeaf}
use Rattle.lf_coverage.specs.ExamplesLeaves.{PlusEndsAtLeaves}
use Rattle.lf_coverage.proofs.Examples.{goal_typed, plus_subordination}
use Rattle.lf_coverage.proofs.ExamplesUnified.{plus_unified}
use Rattle.lf_coverage.proofs.Leaves.{leaves_cover, head_is_typed}

pub zero_leaf : IsInstanceLeaf Addition [] plus_heads plus_zero_case
zero_leaf = record {
  typed = record { items = (tt, (_, refl, tt)); given = tt; arguments = ((base 0, (base 0, refl, refl)), ((base 0, (base 0, refl, refl)), tt)) };
  pattern = head_pattern plus_z (of_constant plus_z.type);
  listed = inl refl;
  pattern_typed = head_is_typed Addition addition_ok [] (λ B m. absurd m) plus_z (from_constant 2 plus_z.type refl);
  same_length = refl;
  given_own = λ i e. absurd cc;
  is_instance = instances_stand.0;
}

-- plus (s X) Y _ is what it shares with plus-s
successor_instance : IsInstanceOf Addition [] plus_successor_case (head_pattern plus_s (of_constant plus_s.type))
successor_instance = (
  record {
    items = plus_successor_case.items;
    typed_items = ((tt, (_, refl, tt)), (_, refl, tt));
    case_values = in_front (put (base 0) (var 0)) (in_front (put (base 0) (var 1)) keep);
    is_instance = (var 0, in_front (put (base 0) (var 1)) keep, (var 1, keep, tt, (nat, (nat, refl, refl), refl), refl), (nat, refl, refl), refl);
    used = s_first;
    clause_values = s_images (var 1) (var 0);
    typed_values = s_values Addition (nat ∷ nat ∷ []) (var 1) (var 0) (nat, (nat, refl, refl), refl) (nat, refl, refl);
    uses = (((refl, tt), tt), ((refl, tt), tt));
    terms = s_terms (var 1) (var 0);
    given = λ i M e. absurd cc;
    stands = tt;
    tuple = app (successor (var 1)) (app (var 0) (app z nil));
    of_case = (refl, (refl, tt));
    of_clause = (refl, (refl, tt));
  },
  refl,
  all,
  (((refl, tt), tt), ((refl, tt), tt)),
)
  where
    all : LeavesAll (free_variable nat ∷ free_variable nat ∷ []) (in_front (put (base 0) (var 0)) (in_front (put (base 0) (var 1)) keep))
    all zero A q = subst (λ X. var 0 ≡ as_term (skeleton X) (keep 0)) (sym q) refl
    all (suc zero) A (B, q, r) = subst (λ X. var 1 ≡ as_term (skeleton X) (keep 1)) (sym r) (subst (λ X. var 1 ≡ as_term (skeleton (weaken X)) (keep 1)) (sym q) refl)
    all (suc (suc i)) A (B, (C, g, r), r') = absurd g

pub successor_leaf : IsInstanceLeaf Addition [] plus_heads plus_successor_case
successor_leaf = record {
  typed = record { items = ((tt, (_, refl, tt)), (_, refl, tt)); given = tt; arguments = ((base 0, (arrow (base 0) (base 0), refl, ((base 0, refl, refl), refl))), ((base 0, (base 0, refl, refl)), tt)) };
  pattern = head_pattern plus_s (of_constant plus_s.type);
  listed = inr (inl refl);
  pattern_typed = head_is_typed Addition addition_ok [] (λ B m. absurd m) plus_s (from_constant 3 plus_s.type refl);
  same_length = refl;
  given_own = λ i e. absurd cc;
  is_instance = successor_instance;
}

ends : Ends (IsInstanceLeaf Addition [] plus_heads) (SplitsByUnification Addition [] (first_below_second 1) first_below_second) plus_input_goal
ends = by_split (plus_zero_case ∷ plus_successor_case ∷ []) (1, plus_unified) (next_case (at_leaf zero_leaf) (next_case (at_leaf successor_leaf) no_case))

-- s X isn't z
no_zero : IsInstanceOf Addition [] plus_successor_case (head_pattern plus_z (of_constant plus_z.type)) → ⊥
no_zero (s, i, v, st) = by s.tuple s.of_case s.of_clause
  where
    by : (T : Spine) → HasArguments s.case_values plus_successor_case.arguments T → SamePlaces (covered_places plus_successor_case.arguments) T (substitute_spine reduce s.clause_values (target_arguments plus_z.type)) → ⊥
    by nil h p = absurd h
    by (app M T) (e, h) (q, p) = apart (sym e ∙ q)
      where
        apart : {N : Term} → successor N ≡ z → ⊥
        apart e = cc

pub plus_ends_at_leaves : PlusEndsAtLeaves
plus_ends_at_leaves = (ends, leaves_cover Addition addition_ok [] (λ B m. absurd m) first_below_second plus_subordination (first_below_second 1) (plus_subordination.self_contained 1 (plus_kind, refl)) plus_heads plus_input_goal tt goal_typed ends, no_zero)
