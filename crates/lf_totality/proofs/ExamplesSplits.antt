-- Heads that give no case, lists of clauses, instances of clauses and of outputs, linear clauses.
use Rattle.std.proofs.Common.{◌≡◌, ℕ, zero, suc, List, [], ◌∷◌, refl, sym, ap, ◌∙◌, subst, arith, inl, inr, true≢false}
use Rattle.std.specs.Prelude.{Bool, true, false, Some, ◌⊎◌}
use Rattle.lf.specs.Syntax.{constant, Spine, root, nil, app, LfType, Term, base, skeleton, weaken}
use Rattle.lf.specs.Substitution.{Image, keep, put, substitute, substitute_type, reduce}
use Rattle.lf.specs.AtOnce.{in_front}
use Rattle.lf.specs.Typing.{TypeAt, HasType, ImageHasType}
use Rattle.lf.specs.Variables.{target, target_arguments, Values, UsesType, everything}
use Rattle.lf.specs.Worlds.{lift_over}
use Rattle.lf.specs.Subordination.{Member}
use Rattle.lf_checks.specs.Clause.{Clause, IsClause, from_constant, from_entry, scope, constant_clause}
use Rattle.lf_checks.specs.Marks.{SamePlaces, output_places}
use Rattle.lf_checks.specs.Ground.{ground_first}
use Rattle.lf_cases.specs.Cover.{AreTerms}
use Rattle.lf_cases.specs.Case.{Item, free_variable, block_variable, HasArguments, as_term, items_context, entries_in_front}
use Rattle.lf_cases.specs.Pattern.{Pattern, of_constant, origin, head_pattern, subgoal_pattern, HasGiven, AreAllHeadsOf}
use Rattle.lf_cases.specs.Candidates.{case_candidates}
use Rattle.lf_cases.specs.Missing.{BlockAmong, IsTypedInstance, KeepsApart, CommonInstance}
use Rattle.lf_cases.specs.Reached.{IsInstanceOf, GivesNoCase, IsUnsplit, LeavesAll}
use Rattle.lf_totality.specs.Examples.{Addition, addition_marks, nat, z, var, successor, on_two, plus_z, plus_s, plus_input_goal, plus_zero_case, plus_output_case, first_below_second, Copying, copy_block, exp, block_case}
use Rattle.lf_totality.specs.ExamplesGroups.{on_one}
use Rattle.lf_totality.specs.ExamplesMissing.{Unfinished, unfinished_heads, eq_r}
use Rattle.lf_totality.specs.ExamplesBlocks.{Numbered, a_z}
use Rattle.lf_totality.specs.ExamplesReached.{Equality, equal_types, equality_heads, head_of, narrow}
use Rattle.lf_totality.specs.ExamplesSplits.{successor_items, NoCaseStands, ClausesStand, InstancesStand, asks_same, two_outputs, any_two, OutputsStand, LinearClausesStand, EntryInstanceStands, BlocksStayApart}
use Rattle.lf_totality.proofs.Addition.{z_images, z_values, z_terms}
use Rattle.lf_totality.proofs.ExamplesMissing.{linear_clauses}
use Rattle.lf_totality.proofs.ExamplesReached.{both_still, not_instance, entry_linear}
use Rattle.lf_totality.proofs.ExamplesOutputs.{narrow_shared}

some_type : {A B : LfType} → Some A ≡ Some B → A ≡ B
some_type e = cc

-- a-z is at z, and the variable at a successor
pub no_case_stands : NoCaseStands
no_case_stands = (refused, given)
  where
    apart : (A : LfType) (P : Term) → Some (on_one 2 z) ≡ Some A → A ≡ on_one 2 (successor P) → ⊥
    apart A P e f = let q : on_one 2 z ≡ on_one 2 (successor P) = some_type e ∙ f in absurd cc

    refused : GivesNoCase Numbered [] first_below_second 0 (on_one 2 (successor (var 1))) successor_items 0 (constant 2) a_z.type
    refused F τ t u = by u.is_instance u.same
      where
        by : IsTypedInstance Numbered F successor_items τ → as_term (base 2) (τ 0) ≡ root (constant 2) nil → ⊥
        by (N, υ, g, n, e) s =
            let q : N ≡ root (constant 2) nil = sym (ap (λ f. as_term (base 2) (f 0)) e) ∙ s in
            let h : HasType Numbered (Rattle.lf_cases.specs.Case.items_context F) (root (constant 2) nil) (substitute_type reduce υ (on_one 2 (successor (var 0)))) = subst (λ M. HasType Numbered (Rattle.lf_cases.specs.Case.items_context F) M (substitute_type reduce υ (on_one 2 (successor (var 0))))) q n in
            let (A, k, f) = h in
            apart A _ k f

    given : GivesNoCase Addition [] first_below_second 1 nat plus_input_goal.items 0 (constant 0) nat → ⊥
    given h = h (free_variable nat ∷ []) (in_front (put (base 0) (var 0)) (in_front (put (base 0) z) keep)) (tt, (_, refl, tt)) (record { is_instance = (var 0, in_front (put (base 0) z) keep, (z, keep, tt, (nat, refl, refl), refl), (nat, refl, refl), refl); keeps_apart = tt; same = refl })

pub clauses_stand : ClausesStand
clauses_stand = ((of_family, every), missing)
  where
    of_family : (p : Pattern) → Member p equality_heads → (c : Clause) × (i : IsClause Equality [] c) × (target c.type ≡ 2) × (p ≡ head_pattern c (origin i))
    of_family p (inl e) = (eq_r, from_constant 2 eq_r.type refl, refl, e)
    of_family p (inr e) = absurd e

    every : (c : Clause) (i : IsClause Equality [] c) → target c.type ≡ 2 → Member (head_pattern c (origin i)) equality_heads
    every c (from_entry B later E es i e) t = absurd i
    every c (from_constant k U e) t = by k U e t
      where
        by : (k : ℕ) (U : LfType) → equal_types k ≡ Some U → target U ≡ 2 → Member (head_pattern (constant_clause U) (of_constant U)) equality_heads
        by zero U e t = let q : ◌≡◌ {A = ℕ} 0 2 = ap target (some_type e) ∙ t in absurd (omega arith)
        by (suc zero) U e t = let q : ◌≡◌ {A = ℕ} 0 2 = ap target (some_type e) ∙ t in absurd (omega arith)
        by (suc (suc zero)) U e t = inl (ap (λ V. head_pattern (constant_clause V) (of_constant V)) (sym (some_type e)))
        by (suc (suc (suc n))) U e t = absurd cc

    missing : AreAllHeadsOf Addition [] 1 unfinished_heads → ⊥
    missing h = by (h.1 plus_z (from_constant 2 plus_z.type refl) refl)
      where
        by : Member (head_pattern plus_z (of_constant plus_z.type)) unfinished_heads → ⊥
        by (inl e) = let q : plus_z.type ≡ plus_s.type = ap (λ p. p.clause.type) e in absurd cc
        by (inr e) = e

-- plus z Y _ is what it shares with plus-z
zero_instance : IsInstanceOf Addition [] plus_zero_case (head_of plus_z.type)
zero_instance = (
  record {
    items = free_variable nat ∷ [];
    typed_items = (tt, (_, refl, tt));
    case_values = in_front (put (base 0) (var 0)) keep;
    is_instance = (var 0, keep, tt, (nat, refl, refl), refl);
    used = ground_first addition_marks plus_z;
    clause_values = z_images (var 0);
    typed_values = z_values Addition (nat ∷ []) (var 0) (nat, refl, refl);
    uses = (tt, ((refl, tt), tt));
    terms = z_terms (var 0);
    given = λ i M e. absurd cc;
    stands = tt;
    tuple = app z (app (var 0) (app z nil));
    of_case = (refl, (refl, tt));
    of_clause = (refl, (refl, tt));
  },
  refl,
  all,
  (tt, ((refl, tt), tt)),
)
  where
    all : LeavesAll (free_variable nat ∷ []) (in_front (put (base 0) (var 0)) keep)
    all zero A q = subst (λ X. var 0 ≡ as_term (skeleton X) (keep 0)) (sym q) refl
    all (suc i) A (B, g, r) = absurd g

pub instances_stand : InstancesStand
instances_stand = (zero_instance, (λ h. h.no_instance (head_of plus_z.type) (inl refl) zero_instance), goal)
  where
    goal : IsInstanceOf Addition [] plus_input_goal (head_of plus_s.type) → ⊥
    goal (s, i, v, st) = not_instance s.tuple s.case_values s.clause_values (both_still s.items s.case_values s.is_instance v).1 s.of_case s.of_clause

-- x is the entry before u
abbrev entry_values : ℕ → Image
entry_values i = lift_over copy_block.entries keep (suc i)

entry_typed : Values Copying everything (exp ∷ []) (items_context block_case.items) entry_values
entry_typed = record { typed = typed; closed = λ i A g u. Rattle.lf.proofs.Partial.uses_type_all everything A (λ j. refl) }
  where
    typed : (i : ℕ) (A : LfType) → TypeAt (exp ∷ []) i A → everything i ≡ true → ImageHasType Copying (items_context block_case.items) (entry_values i) (substitute_type reduce entry_values A)
    typed zero A q u = subst (λ X. ImageHasType Copying (items_context block_case.items) (entry_values 0) (substitute_type reduce entry_values X)) (sym q) (exp, refl, refl)
    typed (suc i) A (B, g, r) u = absurd g

pub entry_instance : EntryInstanceStands
entry_instance m = (
  record {
    items = block_case.items;
    typed_items = (tt, inr m, record { typed = λ i A g u. absurd g; closed = λ i A g u. absurd g });
    case_values = entries_in_front copy_block.entries (lift_over copy_block.entries keep) keep;
    is_instance = (lift_over copy_block.entries keep, keep, tt, inl (refl, refl), (λ i A g. absurd g), refl);
    used = everything;
    clause_values = entry_values;
    typed_values = entry_typed;
    uses = ((refl, tt), tt);
    terms = λ i o u. absurd (true≢false o);
    given = λ i M e. absurd cc;
    stands = (lift_over copy_block.entries keep, inl (refl, refl), λ k X g. refl);
    tuple = app (var 1) (app (var 1) nil);
    of_case = (refl, tt);
    of_clause = (refl, tt);
  },
  refl,
  all,
  ((refl, tt), tt),
)
  where
    all : LeavesAll block_case.items (entries_in_front copy_block.entries (lift_over copy_block.entries keep) keep)
    all zero A q = refl
    all (suc zero) A q = refl
    all (suc (suc i)) A (B, (C, g, r), r') = absurd g

-- two outputs that are the same
abbrev only_second : ℕ → Bool
only_second zero = false
only_second (suc zero) = true
only_second (suc (suc i)) = false

abbrev clause_values : ℕ → Image
clause_values = in_front (keep 0) (in_front (put (base 0) (var 0)) keep)

same_values : Values Equality only_second (scope asks_same) (nat ∷ []) clause_values
same_values = record { typed = typed; closed = closed }
  where
    typed : (i : ℕ) (A : LfType) → TypeAt (scope asks_same) i A → only_second i ≡ true → ImageHasType Equality (nat ∷ []) (clause_values i) (substitute_type reduce clause_values A)
    typed zero A q u = absurd cc
    typed (suc zero) A (B, q, r) u = subst (λ X. ImageHasType Equality (nat ∷ []) (put (base 0) (var 0)) (substitute_type reduce clause_values X)) (sym (r ∙ ap weaken q)) (refl, (nat, refl, refl))
    typed (suc (suc i)) A q u = absurd cc

    closed : (i : ℕ) (A : LfType) → TypeAt (scope asks_same) i A → only_second i ≡ true → UsesType only_second A
    closed zero A q u = absurd cc
    closed (suc zero) A (B, q, r) u = subst (UsesType only_second) (sym (r ∙ ap weaken q)) tt
    closed (suc (suc i)) A q u = absurd cc

same_terms : AreTerms asks_same only_second clause_values
same_terms zero o u = absurd cc
same_terms (suc zero) o u = tt
same_terms (suc (suc i)) o u = absurd cc

none_given : HasGiven (in_front (put (base 0) (var 0)) (in_front (put (base 0) (var 0)) keep)) any_two.given clause_values
none_given zero M e = absurd cc
none_given (suc zero) M e = absurd cc
none_given (suc (suc i)) M e = absurd cc

-- the subgoal as a pattern
abbrev asked : Pattern
asked = subgoal_pattern asks_same (of_constant asks_same.type) (on_two 2 (var 1) (var 1))

two_shared : CommonInstance Equality [] any_two asked
two_shared = record {
  items = free_variable nat ∷ [];
  typed_items = (tt, (_, refl, tt));
  case_values = in_front (put (base 0) (var 0)) (in_front (put (base 0) (var 0)) keep);
  is_instance = (var 0, in_front (put (base 0) (var 0)) keep, (var 0, keep, tt, (nat, refl, refl), refl), (nat, refl, refl), refl);
  used = only_second;
  clause_values = clause_values;
  typed_values = same_values;
  uses = ((refl, tt), ((refl, tt), tt));
  terms = same_terms;
  given = none_given;
  stands = tt;
  tuple = app (var 0) (app (var 0) nil);
  of_case = (refl, (refl, tt));
  of_clause = (refl, (refl, tt));
}

differ : (T : Spine) (σ τ : ℕ → Image) → substitute reduce σ (var 0) ≡ var 0 → substitute reduce σ (var 1) ≡ var 1 → HasArguments σ any_two.arguments T → SamePlaces (output_places (two_outputs 2)) T (target_arguments (substitute_type reduce τ (on_two 2 (var 1) (var 1)))) → ⊥
differ nil σ τ k l a b = a
differ (app M nil) σ τ k l (e, a) b = a
differ (app M (app N T)) σ τ k l (e, (e', a)) (f, (f', b)) = let q : var 1 ≡ var 0 = sym (e ∙ l) ∙ f ∙ sym f' ∙ e' ∙ k in absurd cc

pub outputs_stand : OutputsStand
outputs_stand = (record { no_instance = none; meeting = asked; listed = inl refl; meets = inl two_shared; no_candidate = nowhere }, refused)
  where
    none : (p : Pattern) → Member p (asked ∷ []) → IsInstanceOf Equality [] any_two p → ⊥
    none p (inl e) (s, i, v, st) = let (x, y) = both_still s.items s.case_values s.is_instance v in differ s.tuple s.case_values s.clause_values x y s.of_case (subst (λ q. SamePlaces (output_places (two_outputs 2)) s.tuple (target_arguments (substitute_type reduce s.clause_values q.type))) e s.of_clause)
    none p (inr e) h = absurd e

    nowhere : (p : Pattern) → Member p (asked ∷ []) → (case_candidates any_two p ≡ []) ⊎ (CommonInstance Equality [] any_two p → ⊥)
    nowhere p (inl e) = inl (ap (case_candidates any_two) e)
    nowhere p (inr e) = absurd e

    refused : IsUnsplit Unfinished [] (λ C p. ⊥) (narrow ∷ []) plus_output_case → ⊥
    refused h = by (h.no_candidate narrow (inl refl))
      where
        by : (◌≡◌ {A = List ℕ} (0 ∷ []) []) ⊎ (CommonInstance Unfinished [] plus_output_case narrow → ⊥) → ⊥
        by (inl e) = absurd cc
        by (inr f) = f narrow_shared

pub linear_stand : LinearClausesStand
linear_stand = (linear_clauses.0, (λ i. (entry_linear.0, entry_linear.1)), linear_clauses.1, λ i h. let (y, e, r, n) = h.1 in n)

-- there is one block variable for two
pub blocks_stay_apart : BlocksStayApart
blocks_stay_apart σ g h = by g h
  where
    alike : (θ : ℕ → Image) → BlockAmong (block_variable copy_block keep ∷ []) copy_block θ → θ ≡ lift_over copy_block.entries keep
    alike θ (inl (p, q)) = q
    alike θ (inr (τ, b, q)) = absurd b

    by : (g : IsTypedInstance Copying (block_variable copy_block keep ∷ []) (block_variable copy_block keep ∷ block_variable copy_block keep ∷ []) σ) → KeepsApart Copying (block_variable copy_block keep ∷ []) (block_variable copy_block keep ∷ block_variable copy_block keep ∷ []) σ g → ⊥
    by (θ, τ, (φ, υ, t, c, s, e), b, s', e') (apart, rest) = apart (inl (refl, alike φ c ∙ sym (alike θ b)))
