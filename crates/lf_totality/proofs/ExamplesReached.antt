-- Candidates; a case that is reached, and one that can't be split.
use Rattle.std.proofs.Common.{◌≡◌, ℕ, zero, suc, List, [], ◌∷◌, refl, sym, ap, ◌∙◌, subst, arith, inl, inr}
use Rattle.std.specs.Prelude.{true, ◌⊎◌}
use Rattle.lf.specs.Syntax.{Spine, lambda, nil, app, LfType, Term, pi, base, arrow}
use Rattle.lf.specs.Substitution.{Image, keep, put, apply_image, substitute_spine, substitute, substitute_type, reduce, after}
use Rattle.lf.specs.AtOnce.{in_front}
use Rattle.lf.specs.Typing.{Signature, TypeAt}
use Rattle.lf.proofs.Eta.{reduce_nil}
use Rattle.lf.specs.Variables.{target_arguments, everything, Values}
use Rattle.lf.specs.Subordination.{Member}
use Rattle.lf_checks.specs.Ground.{UsesGoal}
use Rattle.lf_cases.specs.Pattern.{Pattern, ground_in}
use Rattle.lf_cases.specs.Candidates.{case_candidates}
use Rattle.lf_checks.specs.Marks.{SamePlaces, input_places, output_places}
use Rattle.lf_cases.specs.Case.{Item, free_variable, HasArguments, covered_places, as_term}
use Rattle.lf_totality.specs.Examples.{addition_marks, on_two, nat, z, successor, var, plus_s, plus_input_goal, plus_zero_case, first_below_second}
use Rattle.lf_cases.specs.Missing.{CommonInstance, AreTypedItems, IsTypedInstance}
use Rattle.lf_cases.specs.Reached.{IsInstanceOf, LeavesAll, of_first, goal_is_reached, split_is_reached, split_by, constant_head, Unifies}
use Rattle.lf_totality.specs.ExamplesMissing.{Unfinished, unfinished_heads, eq_r}
use Rattle.lf_totality.specs.ExamplesReached.{CandidatesStand, ZeroIsReached, MentionedIsRaised, Equality, equality_heads, head_of, narrow, Applied, applied_clause, applied_goal, AppliedIsUnsplit, AppliedHasValue, SomeOutputIsNotLinear, eq_goal, EqualityIsUnsplit, NarrowZeroIsMissing, plus_narrow, narrow_goal, narrow_zero, EntryIsLinear, cp_constant, FullClauses}
use Rattle.lf_totality.proofs.Addition.{s_images, s_values, s_terms, s_first}

pub candidates_stand : CandidatesStand
candidates_stand = (refl, refl, refl, refl, refl, refl, refl, refl)

pub mentioned_is_raised : MentionedIsRaised
mentioned_is_raised = (refl, refl)

-- plus X Y _ shares an instance with plus-s
shared : CommonInstance Unfinished [] plus_input_goal (head_of plus_s.type)
shared = record {
  items = free_variable nat ∷ free_variable nat ∷ [];
  typed_items = ((tt, (_, refl, tt)), (_, refl, tt));
  case_values = in_front (put (base 0) (var 0)) (in_front (put (base 0) (successor (var 1))) keep);
  is_instance = (var 0, in_front (put (base 0) (successor (var 1))) keep, (successor (var 1), keep, tt, (pi nat nat, refl, ((nat, (nat, refl, refl), refl), refl)), refl), (nat, refl, refl), refl);
  used = s_first;
  clause_values = s_images (var 1) (var 0);
  typed_values = s_values Unfinished (nat ∷ nat ∷ []) (var 1) (var 0) (nat, (nat, refl, refl), refl) (nat, refl, refl);
  uses = (((refl, tt), tt), ((refl, tt), tt));
  terms = s_terms (var 1) (var 0);
  given = λ i M e. absurd cc;
  stands = tt;
  tuple = app (successor (var 1)) (app (var 0) (app z nil));
  of_case = (refl, (refl, tt));
  of_clause = (refl, (refl, tt));
}

-- a value that leaves its variable as it is
still : (σ : ℕ → Image) (i : ℕ) (N M : Term) → σ i ≡ put (base 0) N → as_term (base 0) (σ i) ≡ M → substitute reduce σ (var i) ≡ M
still σ i N M e s = ap (λ y. apply_image reduce y nil) e ∙ reduce_nil (base 0) N ∙ sym (ap (as_term (base 0)) e) ∙ s

-- but it is no instance of it
pub not_instance : (T : Spine) (σ τ : ℕ → Image) → substitute reduce σ (var 1) ≡ var 1 → HasArguments σ plus_input_goal.arguments T → SamePlaces (covered_places plus_input_goal.arguments) T (substitute_spine reduce τ (target_arguments plus_s.type)) → ⊥
not_instance nil σ τ k a b = a
not_instance (app M T) σ τ k (e, a) (f, b) = let q : var 1 ≡ successor _ = sym (e ∙ k) ∙ f in absurd cc

-- X and Y have terms of nat
pub both_still : {Σ : Signature} (J : List Item) (σ : ℕ → Image) → IsTypedInstance Σ J (free_variable nat ∷ free_variable nat ∷ []) σ → LeavesAll (free_variable nat ∷ free_variable nat ∷ []) σ → (substitute reduce σ (var 0) ≡ var 0) × (substitute reduce σ (var 1) ≡ var 1)
both_still J σ (N, τ, (M, ρ, t, m, d), n, e) v = (still σ 0 N (var 0) (ap (λ f. f 0) e) (v 0 nat refl), still σ 1 M (var 1) (ap (λ f. f 1) e ∙ ap (λ f. f 0) d) (v 1 nat (nat, refl, refl)))

none : (p : Pattern) → Member p unfinished_heads → IsInstanceOf Unfinished [] plus_input_goal p → ⊥
none p (inl e) (s, i, v, st) = not_instance s.tuple s.case_values s.clause_values (both_still s.items s.case_values s.is_instance v).1 s.of_case (subst (λ q. SamePlaces (covered_places plus_input_goal.arguments) s.tuple (target_arguments (substitute_type reduce s.clause_values q.type))) e s.of_clause)
none p (inr e) h = absurd e

zero_values : ℕ → Image
zero_values = in_front (put (base 0) (var 0)) (in_front (put (base 0) z) keep)

pub zero_reached : ZeroIsReached
zero_reached = split_is_reached 1 goal_is_reached none (of_first [] (inl shared) refl) (split_by nat (nat, refl, refl) (constant_head 0 nat refl refl) (record {
  values = in_front (put (base 0) (var 0)) (in_front (put (base 0) z) keep);
  unifier = record {
    typed_items = (tt, (_, refl, tt));
    unifies = record { keeps_apart = tt; is_instance = (var 0, in_front (put (base 0) z) keep, (z, keep, tt, (nat, refl, refl), refl), (nat, refl, refl), refl); same = refl };
    most_general = general;
  };
  given = refl;
  local = refl;
  family = refl;
  arguments = refl;
}))
  where
    general : (F : List Item) (τ : ℕ → Image) → AreTypedItems Unfinished [] F → Unifies Unfinished F (free_variable nat ∷ free_variable nat ∷ []) 1 nat z τ → (ρ : ℕ → Image) × IsTypedInstance Unfinished F (free_variable nat ∷ []) ρ × ((i : ℕ) (A : LfType) → TypeAt (nat ∷ nat ∷ []) i A → as_term (Rattle.lf.specs.Syntax.skeleton A) (τ i) ≡ as_term (Rattle.lf.specs.Syntax.skeleton A) (after ρ (in_front (put (base 0) (var 0)) (in_front (put (base 0) z) keep)) i))
    general F τ t u = by u.is_instance u.same
      where
        by : IsTypedInstance Unfinished F (free_variable nat ∷ free_variable nat ∷ []) τ → as_term (base 0) (τ 1) ≡ z → (ρ : ℕ → Image) × IsTypedInstance Unfinished F (free_variable nat ∷ []) ρ × ((i : ℕ) (A : LfType) → TypeAt (nat ∷ nat ∷ []) i A → as_term (Rattle.lf.specs.Syntax.skeleton A) (τ i) ≡ as_term (Rattle.lf.specs.Syntax.skeleton A) (after ρ (in_front (put (base 0) (var 0)) (in_front (put (base 0) z) keep)) i))
        by (N, υ, g, n, e) s = (in_front (put (base 0) N) keep, (N, keep, tt, n, refl), each)
          where
            each : (i : ℕ) (A : LfType) → TypeAt (nat ∷ nat ∷ []) i A → as_term (Rattle.lf.specs.Syntax.skeleton A) (τ i) ≡ as_term (Rattle.lf.specs.Syntax.skeleton A) (after (in_front (put (base 0) N) keep) (in_front (put (base 0) (var 0)) (in_front (put (base 0) z) keep)) i)
            each zero A q = ap (λ f. as_term (Rattle.lf.specs.Syntax.skeleton A) (f 0)) e
            each (suc zero) A (B, q, r) = ap (λ X. as_term (Rattle.lf.specs.Syntax.skeleton X) (τ 1)) (r ∙ ap Rattle.lf.specs.Syntax.weaken q) ∙ s
            each (suc (suc i)) A (B, (C, q, r), r') = absurd q

-- eq X X is an instance of eq-r; eq X Y is none
eq_images : ℕ → Image
eq_images = in_front (put (base 0) (var 0)) keep

eq_values : Values Equality everything (nat ∷ []) (nat ∷ []) (in_front (put (base 0) (var 0)) keep)
eq_values = record { typed = typed; closed = λ i A g u. Rattle.lf.proofs.Partial.uses_type_all everything A (λ j. refl) }
  where
    typed : (i : ℕ) (A : LfType) → TypeAt (nat ∷ []) i A → everything i ≡ true → Rattle.lf.specs.Typing.ImageHasType Equality (nat ∷ []) (in_front (put (base 0) (var 0)) keep i) (Rattle.lf.specs.Substitution.substitute_type reduce (in_front (put (base 0) (var 0)) keep) A)
    typed zero A q u = subst (λ X. Rattle.lf.specs.Typing.ImageHasType Equality (nat ∷ []) (put (base 0) (var 0)) (Rattle.lf.specs.Substitution.substitute_type reduce (in_front (put (base 0) (var 0)) keep) X)) (sym q) (refl, (nat, refl, refl))
    typed (suc i) A (B, g, r) u = absurd g

eq_terms : Rattle.lf_cases.specs.Cover.AreTerms eq_r everything (in_front (put (base 0) (var 0)) keep)
eq_terms zero o u = tt
eq_terms (suc i) o u = absurd cc

eq_shared : CommonInstance Equality [] eq_goal (head_of eq_r.type)
eq_shared = record {
  items = free_variable nat ∷ [];
  typed_items = (tt, (_, refl, tt));
  case_values = in_front (put (base 0) (var 0)) (in_front (put (base 0) (var 0)) keep);
  is_instance = (var 0, in_front (put (base 0) (var 0)) keep, (var 0, keep, tt, (nat, refl, refl), refl), (nat, refl, refl), refl);
  used = everything;
  clause_values = in_front (put (base 0) (var 0)) keep;
  typed_values = eq_values;
  uses = ((refl, tt), ((refl, tt), tt));
  terms = eq_terms;
  given = λ i M e. absurd cc;
  stands = tt;
  tuple = app (var 0) (app (var 0) nil);
  of_case = (refl, (refl, tt));
  of_clause = (refl, (refl, tt));
}

eq_not_instance : (T : Spine) (σ τ : ℕ → Image) → substitute reduce σ (var 0) ≡ var 0 → substitute reduce σ (var 1) ≡ var 1 → HasArguments σ eq_goal.arguments T → SamePlaces (covered_places eq_goal.arguments) T (substitute_spine reduce τ (target_arguments eq_r.type)) → ⊥
eq_not_instance nil σ τ k l a b = a
eq_not_instance (app M nil) σ τ k l (e, a) b = a
eq_not_instance (app M (app N T)) σ τ k l (e, (e', a)) (f, (f', b)) = let q : var 1 ≡ var 0 = sym (e ∙ l) ∙ f ∙ sym f' ∙ e' ∙ k in absurd cc

pub equality_unsplit : EqualityIsUnsplit
equality_unsplit = record {
  no_instance = none_of;
  meeting = head_of eq_r.type;
  listed = inl refl;
  meets = inl eq_shared;
  no_candidate = nowhere;
}
  where
    none_of : (p : Pattern) → Member p equality_heads → IsInstanceOf Equality [] eq_goal p → ⊥
    none_of p (inl e) (s, i, v, st) = let (x, y) = both_still s.items s.case_values s.is_instance v in eq_not_instance s.tuple s.case_values s.clause_values x y s.of_case (subst (λ q. SamePlaces (covered_places eq_goal.arguments) s.tuple (target_arguments (substitute_type reduce s.clause_values q.type))) e s.of_clause)
    none_of p (inr e) h = absurd e

    nowhere : (p : Pattern) → Member p equality_heads → (case_candidates eq_goal p ≡ []) ⊎ (CommonInstance Equality [] eq_goal p → ⊥)
    nowhere p (inl e) = inl (ap (case_candidates eq_goal) e)
    nowhere p (inr e) = absurd e

-- F has no strict occurrence: the value [x] X makes k X an instance that isn't counted
abbrev applied_values : ℕ → Image
applied_values = in_front (put (arrow (base 0) (base 0)) (lambda (var 1))) keep

applied_typed : Values Applied everything (pi nat nat ∷ []) (nat ∷ []) applied_values
applied_typed = record { typed = typed; closed = λ i A g u. Rattle.lf.proofs.Partial.uses_type_all everything A (λ j. refl) }
  where
    typed : (i : ℕ) (A : LfType) → TypeAt (pi nat nat ∷ []) i A → everything i ≡ true → Rattle.lf.specs.Typing.ImageHasType Applied (nat ∷ []) (applied_values i) (substitute_type reduce applied_values A)
    typed zero A q u = subst (λ X. Rattle.lf.specs.Typing.ImageHasType Applied (nat ∷ []) (put (arrow (base 0) (base 0)) (lambda (var 1))) (substitute_type reduce applied_values X)) (sym q) (refl, (nat, (nat, refl, refl), refl))
    typed (suc i) A (B, g, r) u = absurd g

applied_terms : Rattle.lf_cases.specs.Cover.AreTerms applied_clause everything applied_values
applied_terms zero o u = tt
applied_terms (suc i) o u = absurd cc

applied_shared : CommonInstance Applied [] applied_goal (head_of applied_clause.type)
applied_shared = record {
  items = free_variable nat ∷ [];
  typed_items = (tt, (_, refl, tt));
  case_values = in_front (put (base 0) (var 0)) keep;
  is_instance = (var 0, keep, tt, (nat, refl, refl), refl);
  used = everything;
  clause_values = applied_values;
  typed_values = applied_typed;
  uses = ((refl, (tt, tt)), tt);
  terms = applied_terms;
  given = λ i M e. absurd cc;
  stands = tt;
  tuple = app (var 0) nil;
  of_case = (refl, tt);
  of_clause = (refl, tt);
}

pub applied_has_value : AppliedHasValue
unfolding applied_shared
applied_has_value = (applied_shared, refl, all)
  where
    all : LeavesAll applied_goal.items (in_front (put (base 0) (var 0)) keep)
    all zero A q = subst (λ X. var 0 ≡ as_term (Rattle.lf.specs.Syntax.skeleton X) (keep 0)) (sym q) refl
    all (suc i) A (B, g, r) = absurd g

pub applied_unsplit : AppliedIsUnsplit
applied_unsplit = record {
  no_instance = none_of;
  meeting = head_of applied_clause.type;
  listed = inl refl;
  meets = inl applied_shared;
  no_candidate = nowhere;
}
  where
    none_of : (p : Pattern) → Member p (head_of applied_clause.type ∷ []) → IsInstanceOf Applied [] applied_goal p → ⊥
    none_of p (inl e) (s, i, v, st) = by (subst (λ q. UsesGoal (ground_in q (true ∷ []) []) (true ∷ []) q.type) e st)
      where
        by : UsesGoal (ground_in (head_of applied_clause.type) (true ∷ []) []) (true ∷ []) (head_of applied_clause.type).type → ⊥
        by h = Rattle.std.proofs.Common.true≢false (sym h.0.0)
    none_of p (inr e) h = absurd e

    nowhere : (p : Pattern) → Member p (head_of applied_clause.type ∷ []) → (case_candidates applied_goal p ≡ []) ⊎ (CommonInstance Applied [] applied_goal p → ⊥)
    nowhere p (inl e) = inl (ap (case_candidates applied_goal) e)
    nowhere p (inr e) = absurd e

-- zero is no output of the narrow subgoal
narrow_apart : (T : Spine) (σ τ : ℕ → Image) → HasArguments σ narrow_zero.arguments T → SamePlaces (output_places (addition_marks 1)) T (target_arguments (Rattle.lf.specs.Substitution.substitute_type reduce τ narrow_goal)) → ⊥
narrow_apart nil σ τ a b = a
narrow_apart (app M nil) σ τ a b = a
narrow_apart (app M (app N nil)) σ τ a b = a
narrow_apart (app M (app N (app P T))) σ τ (e, a) (f, b) = let q : z ≡ successor _ = sym e ∙ f in absurd cc

pub narrow_missing : NarrowZeroIsMissing
narrow_missing = record {
  of_goal = record {
    typed_items = ((tt, (_, refl, tt)), (_, refl, tt));
    values = in_front (put (base 0) z) (in_front (put (base 0) (var 0)) (in_front (put (base 0) (var 1)) keep));
    is_instance = (z, in_front (put (base 0) (var 0)) (in_front (put (base 0) (var 1)) keep), (var 0, in_front (put (base 0) (var 1)) keep, (var 1, keep, tt, (nat, (nat, refl, refl), refl), refl), (nat, refl, refl), refl), (nat, refl, refl), refl);
    same_family = refl;
    same_given = refl;
    same_local = refl;
    same_arguments = refl;
  };
  shares_nothing = none_shared;
}
  where
    none_shared : (p : Pattern) → Member p (narrow ∷ []) → CommonInstance Unfinished [] narrow_zero p → ⊥
    none_shared p (inl e) s = narrow_apart s.tuple s.case_values s.clause_values s.of_case (subst (λ q. SamePlaces (covered_places narrow_zero.arguments) s.tuple (target_arguments (substitute_type reduce s.clause_values q.type))) e s.of_clause)
    none_shared p (inr e) s = absurd e

pub entry_linear : EntryIsLinear
entry_linear = ((λ x v o. absurd (Rattle.std.proofs.Common.true≢false o), tt), (0, refl, refl, tt), λ h. by h)
  where
    by : Rattle.lf_cases.specs.Full.OneChosen (Rattle.lf_checks.specs.Clause.among (Rattle.lf_totality.specs.Examples.exp ∷ [])) (input_places (Rattle.lf_totality.specs.Examples.copying_marks 1)) (app (Rattle.lf_totality.specs.Examples.lam (var 1)) (app (var 0) nil)) → ⊥
    by (y, f, e, n) = Rattle.std.proofs.Common.true≢false (sym e)

pub entry_output_goal : Rattle.lf_totality.specs.ExamplesReached.EntryOutputGoal
entry_output_goal = refl

pub goal_closed : Rattle.lf_totality.specs.ExamplesReached.GoalIsClosed
goal_closed = refl

pub some_variable_raised : Rattle.lf_totality.specs.ExamplesReached.SomeVariableIsRaised
some_variable_raised = refl

pub more_candidates_stand : Rattle.lf_totality.specs.ExamplesReached.MoreCandidatesStand
more_candidates_stand = (refl, refl, refl, refl, refl)

-- the subgoal's output is the `some` variable, which is ground
pub some_output_not_linear : SomeOutputIsNotLinear
some_output_not_linear h = let e : ◌≡◌ {A = ℕ} 1 0 = ((h.1 (on_two 2 (var 1) (var 2)) refl).0 2 refl).1 refl in absurd (omega arith)

pub ungiven_not_ground : Rattle.lf_totality.specs.ExamplesReached.UngivenIsNotGround
ungiven_not_ground (s, i, v, st) = Rattle.std.proofs.Common.true≢false (sym st.0.0)
