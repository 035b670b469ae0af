-- Worked needs of the calls by number: of addition.
use Rattle.std.proofs.Common.{◌≡◌, ℕ, zero, suc, ◌≤◌, [], ◌∷◌, inl, inr, refl, sym, ap, ◌∙◌, subst, arith}
use Rattle.std.specs.Prelude.{Bool, true, false, None}
use Rattle.lf.specs.Syntax.{LfType, weaken}
use Rattle.lf.specs.Typing.{TypeAt}
use Rattle.lf.specs.Variables.{UsesType, everything}
use Rattle.lf_checks.specs.Clause.{from_constant, outside, scope}
use Rattle.lf_checks.specs.Ground.{ground_first}
use Rattle.lf_cases.specs.Pattern.{AreHeadsOf, of_constant}
use Rattle.lf_totality.specs.Examples.{Addition, addition_kinds, addition_marks, addition_types, first_below_second, on_three, plus_heads, plus_input_goal, plus_kind, plus_output_case, plus_s, plus_z, var}
use Rattle.lf_totality.proofs.Addition.{addition_ok}
use Rattle.lf_numbered.specs.EntryConstants.{IsFreeFrom}
use Rattle.lf_coverage.specs.ExamplesLeaves.{plus_asked}
use Rattle.lf_numbered.specs.NumberedCalls.{IsSetting}
use Rattle.lf_numbered.specs.NumberedNeeds.{AreTypedHeads}
use Rattle.lf_numbered.specs.NumberedNeedsExamples.{PlusHasNeeds}
use Rattle.lf_numbered.specs.Numbering.{numbered}
use Rattle.lf_coverage.proofs.ExamplesSubordinate.{addition_is_tested}
use Rattle.lf_numbered.proofs.NumberedNeedsGoals.{clause_heads_are_typed, input_goal_has_needs, output_goal_has_needs}

-- no constant and no family has the number 4 or a greater one
addition_free : IsFreeFrom Addition 4
addition_free = record { types_free = types; kinds_free = kinds }
  where
    types : (c : ℕ) → 4 ≤ c → addition_types c ≡ None
    types zero l = absurd (omega (arith, l))
    types (suc zero) l = absurd (omega (arith, l))
    types (suc (suc zero)) l = absurd (omega (arith, l))
    types (suc (suc (suc zero))) l = absurd (omega (arith, l))
    types (suc (suc (suc (suc c)))) l = refl

    kinds : (a : ℕ) → 4 ≤ a → addition_kinds a ≡ None
    kinds zero l = absurd (omega (arith, l))
    kinds (suc zero) l = absurd (omega (arith, l))
    kinds (suc (suc a)) l = refl

pub addition_setting : IsSetting Addition 4 []
addition_setting = record { signature = addition_ok; blocks = λ B m. absurd m; free = addition_free }

pub plus_clauses : AreHeadsOf Addition [] 1 plus_heads
plus_clauses p (inl e) = (plus_z, from_constant 2 plus_z.type refl, refl, e)
plus_clauses p (inr (inl e)) = (plus_s, from_constant 3 plus_s.type refl, refl, e)
plus_clauses p (inr (inr m)) = absurd m

pub plus_typed : AreTypedHeads Addition 1 plus_heads
plus_typed = clause_heads_are_typed Addition addition_ok [] (λ B m. absurd m) 1 plus_heads plus_clauses

abbrev ground : ℕ → Bool
ground = ground_first addition_marks plus_s

all_outside : (j : ℕ) → outside plus_s.type everything j ≡ true → ground j ≡ true
all_outside zero e = absurd cc
all_outside (suc zero) e = absurd cc
all_outside (suc (suc zero)) e = absurd cc
all_outside (suc (suc (suc zero))) e = absurd cc
all_outside (suc (suc (suc (suc j)))) e = refl

-- X and Y are ground, of the type nat
ground_closed : (i : ℕ) (A : LfType) → TypeAt (scope plus_s) i A → ground i ≡ true → UsesType ground A
ground_closed zero A g u = absurd cc
ground_closed (suc zero) A g u = absurd cc
ground_closed (suc (suc zero)) A (B, (C, e, f), g) u = subst (UsesType ground) (sym (g ∙ ap weaken (f ∙ ap weaken e))) tt
ground_closed (suc (suc (suc zero))) A (B, (C, (D, e, f), g), h) u = subst (UsesType ground) (sym (h ∙ ap weaken (g ∙ ap weaken (f ∙ ap weaken e)))) tt
ground_closed (suc (suc (suc (suc i)))) A (B, (C, (D, (E, e, f), g), h), k) u = absurd e

pub plus_has_needs : PlusHasNeeds
plus_has_needs = (
  input_goal_has_needs Addition 4 [] addition_setting first_below_second addition_is_tested 1 (true ∷ true ∷ false ∷ []) plus_kind (record { signature = addition_ok; free = addition_free; of_family = refl; chosen_only = (tt, (tt, tt)) }) (numbered 4 plus_input_goal) refl plus_heads plus_typed,
  output_goal_has_needs Addition 4 [] first_below_second addition_marks plus_s (of_constant plus_s.type) ground (on_three 1 (var 3) (var 2) (var 1)) plus_kind (record {
    setting = addition_setting;
    subordination = addition_is_tested;
    clause = from_constant 3 plus_s.type refl;
    is_origin = refl;
    outside_ground = all_outside;
    ground_types = ground_closed;
    index = 0;
    subgoal = (refl, refl);
    inputs_ground = ((refl, tt), ((refl, tt), tt));
    sound_marks = (plus_kind, refl, (tt, (tt, tt)));
    two_marks = tt;
    of_family = refl;
  }) (numbered 4 plus_output_case) plus_asked (refl, refl),
)
