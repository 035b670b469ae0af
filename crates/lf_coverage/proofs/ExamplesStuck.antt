-- A worked case of matching: eq z (F z), which the strategy's definition reaches and solving doesn't, is stuck.
use Rattle.std.proofs.Common.{◌≡◌, ℕ, zero, suc, List, [], ◌∷◌, refl, sym, ap, ◌∙◌, subst, inl, inr, true≢false}
use Rattle.std.specs.Prelude.{◌⊎◌, Some}
use Rattle.lf.specs.Syntax.{Kind, kind_pi, star, Spine, Term, variable, lambda, root, nil, app, LfType, pi, base, arrow, skeleton, weaken, rename}
use Rattle.lf.specs.Substitution.{Image, keep, put, substitute_type, single, substitute, substitute_spine, reduce, after}
use Rattle.lf.specs.AtOnce.{in_front}
use Rattle.lf.specs.Eta.{eta_long}
use Rattle.lf.specs.Typing.{Signature, TypeAt, IsType, IsKind, IsSignature}
use Rattle.lf.specs.Variables.{everything, target_arguments, Values}
use Rattle.lf.specs.Subordination.{Member}
use Rattle.lf.proofs.Renaming.{reduction_beta, substitute_weakened}
use Rattle.lf.proofs.Eta.{reduce_nil}
use Rattle.lf.proofs.Weakening.{weakening_renames, renaming_keeps_typing}
use Rattle.lf_checks.specs.Marks.{SamePlaces}
use Rattle.lf_cases.specs.Candidates.{case_candidates}
use Rattle.lf_cases.specs.Case.{Item, free_variable, HasArguments, covered_places, as_term, items_context}
use Rattle.lf_cases.specs.Missing.{CommonInstance, AreTypedItems, IsTypedInstance}
use Rattle.lf_cases.specs.Pattern.{Pattern}
use Rattle.lf_cases.specs.Reached.{IsInstanceOf, IsUnsplit, LeavesAll, Reached, of_first, goal_is_reached, split_is_reached, split_by, constant_head, Unifies}
use Rattle.lf_totality.specs.Examples.{nat, z, var, on_two}
use Rattle.lf_totality.specs.ExamplesReached.{head_of, eq_goal}
use Rattle.lf_totality.proofs.ExamplesReached.{both_still}
use Rattle.lf_coverage.specs.ExamplesStuck.{PatternsStand, BoundIsTaken, Zeros, zeros_below, zero_heads, applied_case, AppliedIsReached, SolvedHasCandidate}
use Rattle.lf_coverage.proofs.Parts.{some_same}

pub patterns_stand : PatternsStand
patterns_stand = (refl, refl, λ h. true≢false (sym h))

pub bound_is_taken : BoundIsTaken
bound_is_taken = ((refl, ((refl, tt), tt)), λ h. true≢false (sym h.1.0.0))

pub zeros_ok : IsSignature Zeros
zeros_ok = record { types_ok = types; kinds_ok = kinds }
  where
    types : (c : ℕ) (A : LfType) → Zeros.types c ≡ Some A → IsType Zeros [] A
    types zero A e = subst (IsType Zeros []) (some_same e) (star, refl, tt)
    types (suc zero) A e = subst (IsType Zeros []) (some_same e) ((star, refl, tt), (star, refl, tt))
    types (suc (suc zero)) A e = subst (IsType Zeros []) (some_same e) (kind_pi nat (kind_pi nat star), refl, ((nat, refl, refl), ((nat, refl, refl), tt)))
    types (suc (suc (suc n))) A e = absurd cc

    kinds : (a : ℕ) (K : Kind) → Zeros.kinds a ≡ Some K → IsKind Zeros [] K
    kinds zero K e = subst (IsKind Zeros []) (some_same e) tt
    kinds (suc zero) K e = absurd cc
    kinds (suc (suc zero)) K e = subst (IsKind Zeros []) (some_same e) ((star, refl, tt), ((star, refl, tt), tt))
    kinds (suc (suc (suc n))) K e = absurd cc

pub no_values : Values Zeros everything [] [] keep
no_values = record { typed = λ i A g u. absurd g; closed = λ i A g u. absurd g }

-- both are z
shared : CommonInstance Zeros [] eq_goal (head_of (on_two 2 z z))
shared = record {
  items = [];
  typed_items = tt;
  case_values = in_front (put (base 0) z) (in_front (put (base 0) z) keep);
  is_instance = (z, in_front (put (base 0) z) keep, (z, keep, tt, (nat, refl, refl), refl), (nat, refl, refl), refl);
  used = everything;
  clause_values = keep;
  typed_values = no_values;
  uses = (tt, (tt, tt));
  terms = λ i o u. absurd (true≢false o);
  given = λ i M e. absurd cc;
  stands = tt;
  tuple = app z (app z nil);
  of_case = (refl, (refl, tt));
  of_clause = (refl, (refl, tt));
}

first_is_zero : (T : Spine) (σ τ : ℕ → Image) → substitute reduce σ (var 1) ≡ var 1 → HasArguments σ eq_goal.arguments T → SamePlaces (covered_places eq_goal.arguments) T (substitute_spine reduce τ (target_arguments (on_two 2 z z))) → ⊥
first_is_zero nil σ τ k a b = a
first_is_zero (app M T) σ τ k (e, a) (f, b) = let q : var 1 ≡ z = sym (e ∙ k) ∙ f in absurd cc

none : (p : Pattern) → Member p zero_heads → IsInstanceOf Zeros [] eq_goal p → ⊥
none p (inl e) (s, i, v, st) = first_is_zero s.tuple s.case_values s.clause_values (both_still s.items s.case_values s.is_instance v).1 s.of_case (subst (λ q. SamePlaces (covered_places eq_goal.arguments) s.tuple (target_arguments (substitute_type reduce s.clause_values q.type))) e s.of_clause)
none p (inr e) h = absurd e

abbrev f_of_z : Term
f_of_z = root (variable 0) (app z nil)

abbrev unifier : ℕ → Image
unifier = in_front (put (base 0) f_of_z) (in_front (put (base 0) z) keep)

-- τ comes from the unifier
abbrev Through : List Item → (ℕ → Image) → Type 0
Through F τ = (ρ : ℕ → Image) × IsTypedInstance Zeros F (free_variable (pi nat nat) ∷ []) ρ × ((i : ℕ) (A : LfType) → TypeAt (nat ∷ nat ∷ []) i A → as_term (skeleton A) (τ i) ≡ as_term (skeleton A) (after ρ unifier i))

reached : Reached Zeros [] (λ C p. ⊥) zeros_below zero_heads eq_goal applied_case
reached = split_is_reached 1 goal_is_reached none (of_first (0 ∷ []) (inl shared) refl) (split_by nat (nat, refl, refl) (constant_head 0 nat refl refl) (record {
  values = unifier;
  unifier = record {
    typed_items = (tt, ((_, refl, tt), (_, refl, tt)));
    unifies = record { keeps_apart = tt; is_instance = (f_of_z, in_front (put (base 0) z) keep, (z, keep, tt, (nat, refl, refl), refl), (pi nat nat, refl, ((nat, refl, refl), refl)), refl); same = refl };
    most_general = general;
  };
  given = refl;
  local = refl;
  family = refl;
  arguments = refl;
}))
  where
    general : (F : List Item) (τ : ℕ → Image) → AreTypedItems Zeros [] F → Unifies Zeros F (free_variable nat ∷ free_variable nat ∷ []) 1 nat z τ → Through F τ
    general F τ t u = by u.is_instance u.same
      where
        by : IsTypedInstance Zeros F (free_variable nat ∷ free_variable nat ∷ []) τ → as_term (base 0) (τ 1) ≡ z → Through F τ
        by (N, υ, g, n, e) s =
            let V : Term = lambda (rename suc N) in
            (in_front (put (arrow (base 0) (base 0)) V) keep, (V, keep, tt, renaming_keeps_typing Zeros zeros_ok (items_context F) (nat ∷ items_context F) suc N nat (weakening_renames (items_context F) nat) n, refl), each)
          where
            each : (i : ℕ) (A : LfType) → TypeAt (nat ∷ nat ∷ []) i A → as_term (skeleton A) (τ i) ≡ as_term (skeleton A) (after (in_front (put (arrow (base 0) (base 0)) (lambda (rename suc N))) keep) unifier i)
            each zero A q = ap (λ f. as_term (skeleton A) (f 0)) e ∙ sym (reduction_beta (base 0) (base 0) (rename suc N) z nil ∙ reduce_nil (base 0) (substitute reduce (single (base 0) z) (rename suc N)) ∙ substitute_weakened reduce (base 0) z N)
            each (suc zero) A (B, q, r) = ap (λ X. as_term (skeleton X) (τ 1)) (r ∙ ap weaken q) ∙ s
            each (suc (suc i)) A (B, (C, q, r), r') = absurd q

-- with F as [x] z
meets : CommonInstance Zeros [] applied_case (head_of (on_two 2 z z))
meets = record {
  items = [];
  typed_items = tt;
  case_values = in_front (put (arrow (base 0) (base 0)) (lambda z)) keep;
  is_instance = (lambda z, keep, tt, (nat, refl, refl), refl);
  used = everything;
  clause_values = keep;
  typed_values = no_values;
  uses = (tt, (tt, tt));
  terms = λ i o u. absurd (true≢false o);
  given = λ i M e. absurd cc;
  stands = tt;
  tuple = app z (app z nil);
  of_case = (refl, (refl, tt));
  of_clause = (refl, (refl, tt));
}

-- F z as it is isn't z
second_is_zero : (T : Spine) (σ τ : ℕ → Image) → substitute reduce σ f_of_z ≡ f_of_z → HasArguments σ applied_case.arguments T → SamePlaces (covered_places applied_case.arguments) T (substitute_spine reduce τ (target_arguments (on_two 2 z z))) → ⊥
second_is_zero nil σ τ k a b = a
second_is_zero (app M nil) σ τ k (e, a) b = a
second_is_zero (app M (app N T)) σ τ k (e, (e', a)) (f, (f', b)) = let q : f_of_z ≡ z = sym (e' ∙ k) ∙ f' in absurd cc

still : {Σ : Signature} (J : List Item) (σ : ℕ → Image) → IsTypedInstance Σ J (free_variable (pi nat nat) ∷ []) σ → LeavesAll (free_variable (pi nat nat) ∷ []) σ → substitute reduce σ f_of_z ≡ f_of_z
still J σ (N, τ, t, n, e) v =
    let q : N ≡ eta_long (arrow (base 0) (base 0)) (variable 0) = sym (ap (λ f. as_term (arrow (base 0) (base 0)) (f 0)) e) ∙ v 0 (pi nat nat) refl in
    ap (λ f. substitute reduce f f_of_z) e ∙ ap (λ X. reduce (arrow (base 0) (base 0)) X (app z nil)) q

stuck : IsUnsplit Zeros [] (λ C p. ⊥) zero_heads applied_case
stuck = record {
  no_instance = none_of;
  meeting = head_of (on_two 2 z z);
  listed = inl refl;
  meets = inl meets;
  no_candidate = nowhere;
}
  where
    none_of : (p : Pattern) → Member p zero_heads → IsInstanceOf Zeros [] applied_case p → ⊥
    none_of p (inl e) (s, i, v, st) = second_is_zero s.tuple s.case_values s.clause_values (still s.items s.case_values s.is_instance v) s.of_case (subst (λ q. SamePlaces (covered_places applied_case.arguments) s.tuple (target_arguments (substitute_type reduce s.clause_values q.type))) e s.of_clause)
    none_of p (inr e) h = absurd e

    nowhere : (p : Pattern) → Member p zero_heads → (case_candidates applied_case p ≡ []) ⊎ (CommonInstance Zeros [] applied_case p → ⊥)
    nowhere p (inl e) = inl (ap (case_candidates applied_case) e)
    nowhere p (inr e) = absurd e

pub applied_is_reached : AppliedIsReached
applied_is_reached = (reached, stuck, (λ x v o. absurd (true≢false o), tt), ((_, refl, ((nat, refl, tt), ((nat, refl, tt), tt))), tt))

pub solved_has_candidate : SolvedHasCandidate
solved_has_candidate = (refl, (tt, (refl, tt)), (λ h. true≢false (sym h.1.0)), (tt, (tt, tt)), λ h. true≢false (sym h.0))
