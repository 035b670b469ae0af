-- The strategy reaches the output that a subgoal doesn't ask for.
use Rattle.std.proofs.Common.{◌≡◌, ℕ, zero, suc, List, [], ◌∷◌, refl, sym, ap, ◌∙◌, subst, inl, inr}
use Rattle.std.specs.Prelude.{Bool, true, false, Some}
use Rattle.lf.specs.Syntax.{Spine, nil, app, LfType, Term, pi, base, skeleton, weaken}
use Rattle.lf.specs.Substitution.{Image, keep, put, apply_image, substitute, substitute_type, reduce, after}
use Rattle.lf.specs.AtOnce.{in_front}
use Rattle.lf.specs.Typing.{Signature, TypeAt, ImageHasType}
use Rattle.lf.proofs.Eta.{reduce_nil}
use Rattle.lf.specs.Variables.{target, target_arguments, Values, everything}
use Rattle.lf_checks.specs.Clause.{scope}
use Rattle.lf_checks.specs.Marks.{SamePlaces, output_places}
use Rattle.lf_cases.specs.Case.{Item, free_variable, HasArguments, as_term}
use Rattle.lf_cases.specs.Cover.{AreTerms}
use Rattle.lf.specs.Subordination.{Member}
use Rattle.lf_cases.specs.Pattern.{Pattern, HasGiven}
use Rattle.lf_totality.specs.Examples.{addition_marks, nat, z, successor, var, plus_output_case}
use Rattle.lf_totality.specs.ExamplesMissing.{Unfinished}
use Rattle.lf_totality.specs.ExamplesReached.{plus_narrow, narrow_goal, narrow, NarrowZeroIsReached}
use Rattle.lf_cases.specs.Missing.{AreTypedItems, IsTypedInstance, CommonInstance}
use Rattle.lf_cases.specs.Reached.{IsInstanceOf, goal_is_reached, split_is_reached, of_first, split_by, constant_head, Unifies, LeavesAll}

some_term : {M N : Term} → Some M ≡ Some N → M ≡ N
some_term e = cc

-- Z alone
abbrev only_third : ℕ → Bool
only_third zero = false
only_third (suc zero) = true
only_third (suc (suc i)) = false

-- X, Y and s Z for the case; X, Y and Z for the clause
abbrev of_case : ℕ → Image
of_case = in_front (put (base 0) (successor (var 0))) (in_front (put (base 0) (var 1)) (in_front (put (base 0) (var 2)) keep))

abbrev of_clause : ℕ → Image
of_clause = in_front (keep 0) (in_front (put (base 0) (var 0)) (in_front (put (base 0) (var 1)) (in_front (put (base 0) (var 2)) keep)))

narrow_values : Values Unfinished only_third (scope plus_narrow) (nat ∷ nat ∷ nat ∷ []) of_clause
narrow_values = record { typed = typed; closed = closed }
  where
    typed : (i : ℕ) (A : LfType) → TypeAt (scope plus_narrow) i A → only_third i ≡ true → ImageHasType Unfinished (nat ∷ nat ∷ nat ∷ []) (of_clause i) (substitute_type reduce of_clause A)
    typed zero A q u = absurd cc
    typed (suc zero) A (B, q, r) u = subst (λ X. ImageHasType Unfinished (nat ∷ nat ∷ nat ∷ []) (put (base 0) (var 0)) (substitute_type reduce of_clause X)) (sym (r ∙ ap weaken q)) (refl, (nat, refl, refl))
    typed (suc (suc i)) A q u = absurd cc

    closed : (i : ℕ) (A : LfType) → TypeAt (scope plus_narrow) i A → only_third i ≡ true → Rattle.lf.specs.Variables.UsesType only_third A
    closed zero A q u = absurd cc
    closed (suc zero) A (B, q, r) u = subst (Rattle.lf.specs.Variables.UsesType only_third) (sym (r ∙ ap weaken q)) tt
    closed (suc (suc i)) A q u = absurd cc

narrow_terms : AreTerms plus_narrow only_third of_clause
narrow_terms zero o u = absurd cc
narrow_terms (suc zero) o u = tt
narrow_terms (suc (suc i)) o u = absurd cc

narrow_given : HasGiven of_case plus_output_case.given of_clause
narrow_given zero M e = absurd cc
narrow_given (suc zero) M e = absurd cc
narrow_given (suc (suc zero)) M e = (base 0, ap (λ N. put (base 0) (substitute reduce of_case N)) (some_term e))
narrow_given (suc (suc (suc zero))) M e = (base 0, ap (λ N. put (base 0) (substitute reduce of_case N)) (some_term e))
narrow_given (suc (suc (suc (suc i)))) M e = absurd cc

pub narrow_shared : CommonInstance Unfinished [] plus_output_case narrow
narrow_shared = record {
  items = free_variable nat ∷ free_variable nat ∷ free_variable nat ∷ [];
  typed_items = (((tt, (_, refl, tt)), (_, refl, tt)), (_, refl, tt));
  case_values = in_front (put (base 0) (successor (var 0))) (in_front (put (base 0) (var 1)) (in_front (put (base 0) (var 2)) keep));
  is_instance = (successor (var 0), in_front (put (base 0) (var 1)) (in_front (put (base 0) (var 2)) keep), (var 1, in_front (put (base 0) (var 2)) keep, (var 2, keep, tt, (nat, (nat, (nat, refl, refl), refl), refl), refl), (nat, (nat, refl, refl), refl), refl), (pi nat nat, refl, ((nat, refl, refl), refl)), refl);
  used = only_third;
  clause_values = of_clause;
  typed_values = narrow_values;
  uses = (((refl, tt), tt), tt);
  terms = narrow_terms;
  given = narrow_given;
  stands = tt;
  tuple = app z (app z (app (successor (var 0)) nil));
  of_case = (refl, tt);
  of_clause = (refl, tt);
}

-- the case has a variable where the outputs have a successor
narrow_not_instance : (T : Spine) (σ τ : ℕ → Image) → substitute reduce σ (var 0) ≡ var 0 → HasArguments σ plus_output_case.arguments T → SamePlaces (output_places (addition_marks 1)) T (target_arguments (substitute_type reduce τ narrow_goal)) → ⊥
narrow_not_instance nil σ τ k a b = a
narrow_not_instance (app M nil) σ τ k a b = a
narrow_not_instance (app M (app N nil)) σ τ k a b = a
narrow_not_instance (app M (app N (app P T))) σ τ k (e, a) (f, b) = let q : var 0 ≡ successor _ = sym (e ∙ k) ∙ f in absurd cc

-- the newest variable has a term of nat
newest_still : {Σ : Signature} (J I : List Item) (σ : ℕ → Image) → IsTypedInstance Σ J (free_variable nat ∷ I) σ → LeavesAll (free_variable nat ∷ I) σ → substitute reduce σ (var 0) ≡ var 0
newest_still J I σ (N, τ, g, n, e) v = let q : σ 0 ≡ put (base 0) N = ap (λ f. f 0) e in ap (λ y. apply_image reduce y nil) q ∙ reduce_nil (base 0) N ∙ sym (ap (as_term (base 0)) q) ∙ v 0 nat refl

abbrev split_values : ℕ → Image
split_values = in_front (put (base 0) z) (in_front (put (base 0) (var 0)) (in_front (put (base 0) (var 1)) keep))

-- so the goal is no instance of the subgoal
narrow_none : (p : Pattern) → Member p (narrow ∷ []) → IsInstanceOf Unfinished [] plus_output_case p → ⊥
narrow_none p (inl e) (s, i, v, st) = narrow_not_instance s.tuple s.case_values s.clause_values (newest_still s.items (free_variable nat ∷ free_variable nat ∷ []) s.case_values s.is_instance v) s.of_case (subst (λ q. SamePlaces (output_places (addition_marks 1)) s.tuple (target_arguments (substitute_type reduce s.clause_values q.type))) e s.of_clause)
narrow_none p (inr e) h = absurd e

pub narrow_reached : NarrowZeroIsReached
narrow_reached = split_is_reached 0 goal_is_reached narrow_none (of_first [] (inl narrow_shared) refl) (split_by nat refl (constant_head 0 nat refl refl) (record {
  values = in_front (put (base 0) z) (in_front (put (base 0) (var 0)) (in_front (put (base 0) (var 1)) keep));
  unifier = record {
    typed_items = ((tt, (_, refl, tt)), (_, refl, tt));
    unifies = record { keeps_apart = tt; is_instance = (z, in_front (put (base 0) (var 0)) (in_front (put (base 0) (var 1)) keep), (var 0, in_front (put (base 0) (var 1)) keep, (var 1, keep, tt, (nat, (nat, refl, refl), refl), refl), (nat, refl, refl), refl), (nat, refl, refl), refl); same = refl };
    most_general = general;
  };
  given = refl;
  local = refl;
  family = refl;
  arguments = refl;
}))
  where
    general : (F : List Item) (τ : ℕ → Image) → AreTypedItems Unfinished [] F → Unifies Unfinished F (free_variable nat ∷ free_variable nat ∷ free_variable nat ∷ []) 0 nat z τ → (ρ : ℕ → Image) × IsTypedInstance Unfinished F (free_variable nat ∷ free_variable nat ∷ []) ρ × ((i : ℕ) (A : LfType) → TypeAt (nat ∷ nat ∷ nat ∷ []) i A → as_term (skeleton A) (τ i) ≡ as_term (skeleton A) (after ρ (in_front (put (base 0) z) (in_front (put (base 0) (var 0)) (in_front (put (base 0) (var 1)) keep))) i))
    general F τ t u = by u.is_instance u.same
      where
        by : IsTypedInstance Unfinished F (free_variable nat ∷ free_variable nat ∷ free_variable nat ∷ []) τ → as_term (base 0) (τ 0) ≡ z → (ρ : ℕ → Image) × IsTypedInstance Unfinished F (free_variable nat ∷ free_variable nat ∷ []) ρ × ((i : ℕ) (A : LfType) → TypeAt (nat ∷ nat ∷ nat ∷ []) i A → as_term (skeleton A) (τ i) ≡ as_term (skeleton A) (after ρ (in_front (put (base 0) z) (in_front (put (base 0) (var 0)) (in_front (put (base 0) (var 1)) keep))) i))
        by (N, υ, g, n, e) s = (υ, g, each g)
          where
            each : IsTypedInstance Unfinished F (free_variable nat ∷ free_variable nat ∷ []) υ → (i : ℕ) (A : LfType) → TypeAt (nat ∷ nat ∷ nat ∷ []) i A → as_term (skeleton A) (τ i) ≡ as_term (skeleton A) (after υ (in_front (put (base 0) z) (in_front (put (base 0) (var 0)) (in_front (put (base 0) (var 1)) keep))) i)
            each h zero A q = ap (λ X. as_term (skeleton X) (τ 0)) q ∙ s
            each (M, χ, (L, ω, t', l, d), m, f) (suc zero) A (B, q, r) = ap (λ p. as_term (skeleton A) (p 1)) e ∙ ap (λ p. as_term (skeleton A) (p 0)) f ∙ ap (λ p. substitute reduce p (var 0)) (sym f)
            each (M, χ, (L, ω, t', l, d), m, f) (suc (suc zero)) A (B, q, r) = ap (λ p. as_term (skeleton A) (p 2)) e ∙ ap (λ p. as_term (skeleton A) (p 1)) f ∙ ap (λ p. as_term (skeleton A) (p 0)) d ∙ sym (ap (λ p. substitute reduce p (var 1)) f ∙ ap (λ p. Rattle.lf.specs.Substitution.apply_image reduce (p 0) nil) d)
            each h (suc (suc (suc i))) A (B, (C, (D, q, r), r'), r'') = absurd q
