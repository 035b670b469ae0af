-- The worked run at a candidate that takes a family outside.
use Rattle.std.proofs.Common.{◌≡◌, ℕ, zero, suc, ◌<◌, [], ◌∷◌, length, inl, inr, refl, sym, ap, ◌∙◌, subst, arith}
use Rattle.std.specs.Prelude.{Bool, true, false, Option, Some, None}
use Rattle.lf.specs.Syntax.{constant, Term, lambda, root, nil, LfType, pi, atom, star, base, arrow}
use Rattle.lf.specs.Substitution.{keep}
use Rattle.lf.specs.Typing.{Signature, TypeAt, IsSignature}
use Rattle.lf.specs.Variables.{binders, everything, target}
use Rattle.lf.specs.Subordination.{Member}
use Rattle.lf_unification.specs.Dependency.{IsListed}
use Rattle.lf_unification.specs.Inversion.{IsPattern}
use Rattle.lf_unification.specs.OpenTyping.{DeclarationsAreTyped, OpenHasType, OpenIsType}
use Rattle.lf_unification.specs.PartialInstance.{IsFilling}
use Rattle.lf_unification.specs.Patterns.{beyond, extend_renaming}
use Rattle.lf_unification.specs.Solving.{IsWellFormed, Solved}
use Rattle.lf_unification.specs.Steps.{Run, bind, no_step, open_lambdas, then_run}
use Rattle.lf_unification.specs.Unifiers.{Store, on_left}
use Rattle.lf_unification.proofs.Runs.{run_keeps_unifiers}
use Rattle.lf_checks.specs.Clause.{from_constant, outside}
use Rattle.lf_cases.specs.Pattern.{Pattern, is_given}
use Rattle.lf_cases.specs.Split.{at_leaf, by_split, no_case, next_case}
use Rattle.lf_coverage.specs.Leaf.{IsTypedPattern}
use Rattle.lf_coverage.specs.Listed.{with_case, no_offer}
use Rattle.lf_coverage.specs.SplitStore.{context_metavariables}
use Rattle.lf_coverage.proofs.Leaves.{subgoal_is_typed}
use Rattle.lf_coverage.proofs.Parts.{none_some, some_same}
use Rattle.lf_numbered.specs.EntryConstants.{with_entries}
use Rattle.lf_numbered.specs.EntryPatterns.{IsInstanceOfPattern}
use Rattle.lf_numbered.specs.EntryPatternsRuns.{IsNumberedLeaf}
use Rattle.lf_numbered.specs.NumberedBeside.{IsUnifiedByNumber}
use Rattle.lf_numbered.specs.NumberedCandidatesRaised.{bx, raised_type, Raising, raising_clause, raised_pattern, raised_goal, constant_case, RaisedIsCovered}
use Rattle.lf_numbered.specs.NumberedSplitsExamples.{exp}
use Rattle.lf_numbered.specs.NumberedSplits.{NumberedOffer, IsOfferTo, of_case, of_new_block, NumberedUnifierFinds}
use Rattle.lf_numbered.specs.OwnStores.{IsNumberedOffer, offer_signature, offer_taken, offer_entry, numbered_store}
use Rattle.lf_numbered.specs.TypedNumbered.{IsTypedNumberedCase}
use Rattle.lf_numbered.proofs.EntrySignature.{with_entries_is_signature}
use Rattle.lf_numbered.proofs.NumberedCandidatesRaised.{beside, clause_type, free, no_blocks, raising_ok}
use Rattle.lf_numbered.proofs.NumberedCandidatesRuns.{numbered_candidate_run_covers}
use Rattle.lf_numbered.proofs.OwnStoresSplit.{numbered_split_stays_typed}
use Rattle.lf_numbered.proofs.OwnStoresStart.{numbered_store_is_ready}

-- The one offer
abbrev the_offer : NumberedOffer
the_offer = record { case = raised_goal; variable = 0; type = pi exp bx; head = constant 0; terms = nil; left = bx }

offered : IsNumberedOffer Raising 4 raised_goal (pi exp bx) (constant 0) nil bx
offered = offer_signature 0 bx refl refl

each : (o : NumberedOffer) → Member o (the_offer ∷ []) → IsOfferTo Raising 4 [] raised_goal 0 (pi exp bx) o
each o (inl e) = subst (IsOfferTo Raising 4 [] raised_goal 0 (pi exp bx)) (sym e) (of_case (constant 0) nil bx offered)
each o (inr m) = absurd m

not_out : (A : LfType) (T : LfType) → Some T ≡ Some A → target A ≡ 1 → target T ≡ 1
not_out A T e t = ap target (some_same e) ∙ t

three : suc (suc (suc zero)) ≡ suc zero → ⊥
three e = omega (arith, e)

of_signature : (k : ℕ) (V : LfType) → Raising.types k ≡ Some V → target V ≡ 1 → Member (record { case = raised_goal; variable = 0; type = pi exp bx; head = constant k; terms = nil; left = V }) (the_offer ∷ [])
of_signature zero V e t = inl (ap (λ B. record { case = raised_goal; variable = 0; type = pi exp bx; head = constant 0; terms = nil; left = B }) (sym (some_same e)))
of_signature (suc zero) V e t = absurd (three (not_out V (pi (pi exp bx) (atom 3 nil)) e t))
of_signature (suc (suc zero)) V e t = absurd (three (not_out V (pi raised_type (atom 3 nil)) e t))
of_signature (suc (suc (suc k))) V e t = absurd (none_some e)

no_taken : (j : ℕ) (A : LfType) → j < 1 → TypeAt (binders raised_goal.variables (pi exp bx)) j A → target A ≡ 1 → ⊥
no_taken zero A l g t = zero_one (ap target (sym g) ∙ t)
  where
    zero_one : zero ≡ suc zero → ⊥
    zero_one e = omega (arith, e)
no_taken (suc j) A l g t = omega (arith, l)

every : (o : NumberedOffer) → IsOfferTo Raising 4 [] raised_goal 0 (pi exp bx) o → Member o (the_offer ∷ [])
every o (of_case h U A (offer_signature k V e t)) = of_signature k V e t
every o (of_case h U A (offer_taken j B l g t)) = absurd (no_taken j B l g t)
every o (of_case h U A (offer_entry c S V q e t)) = absurd (none_some q)
every o (of_new_block B c U A m n f) = absurd m

-- Y is bound to that of x. b1.
abbrev Entries : Signature
Entries = with_entries Raising 4 []

entries_ok : IsSignature Entries
entries_ok = with_entries_is_signature Raising raising_ok 4 free [] no_blocks

abbrev types : ℕ → Option LfType
types m = context_metavariables (pi exp bx ∷ []) m

abbrev value : Term
value = lambda (root (constant 0) nil)

abbrev after_store : Store
after_store = record { metavariables = types; bindings = record { of = 0; value = value } ∷ []; equations = [] }

value_typed : (U : (ℕ → Option Term) → Type 0) → OpenHasType Entries [] types U [] value (pi exp bx)
value_typed U = (bx, refl, (refl, λ β u. refl))

declared : (U : (ℕ → Option Term) → Type 0) → DeclarationsAreTyped Entries [] types U
declared U = record { outer_typed = λ i A g. absurd g; metavariables_typed = at }
  where
    at : (m : ℕ) (A : LfType) → types m ≡ Some A → OpenIsType Entries [] types U [] A
    at zero A e = subst (OpenIsType Entries [] types U []) (some_same e) ((star, refl, tt), (star, refl, tt))
    at (suc m) A e = absurd cc

listed : (m : ℕ) (A : LfType) → types m ≡ Some A → IsListed (record { of = 0; of_type = pi exp bx; value = Some value } ∷ []) m
listed zero A e = inl refl
listed (suc m) A e = absurd cc

on_one : IsPattern (exp ∷ []) (arrow (base 0) (base 1)) (0 ∷ [])
on_one = record { places = λ Γ. (refl, tt); distinct = distinct }
  where
    distinct : (i j : ℕ) → extend_renaming 0 (beyond (exp ∷ [])) i ≡ extend_renaming 0 (beyond (exp ∷ [])) j → i ≡ j
    distinct zero zero e = refl
    distinct zero (suc j) e = omega (arith, e)
    distinct (suc i) zero e = omega (arith, e)
    distinct (suc i) (suc j) e = e

module _ (below : ℕ → ℕ → Bool) where
  abbrev store : Store
  store = numbered_store below raised_goal 0 (pi exp bx) (constant 0) nil bx star

  ready : IsWellFormed Entries store
  ready = numbered_store_is_ready Raising raising_ok [] no_blocks 4 free below raised_goal beside.typed 0 (pi exp bx) refl (constant 0) nil bx offered star refl

  run : Run Entries store after_store
  run = then_run open_lambdas (then_run (bind {A = pi exp bx} on_left (exp ∷ []) 0 (0 ∷ []) (root (constant 0) nil) bx refl tt on_one (record { inverted = record { inversion = root (constant 0) nil; is = refl }; reached = λ k. false; avoids = ((λ k A v e. absurd v), tt, λ v. v); within = tt })) no_step)

  abbrev formed : IsWellFormed Entries after_store
  formed = record {
    order = record { of = 0; of_type = pi exp bx; value = Some value } ∷ [];
    is_order = (tt, refl, (λ h. h), (tt, tt), ((star, refl, tt), (star, refl, tt)), (λ ρ. refl), (tt, value_typed (IsFilling Entries [] after_store), λ ρ. refl));
    all_listed = listed;
    bindings_listed = ((pi exp bx, inl refl), tt);
    values_bound = ((λ N e. inl (ap (λ X. record { of = 0; value = X }) (sym (some_same e)))), tt);
    typed = record { declarations_typed = declared (IsFilling Entries [] after_store); bindings_typed = ((pi exp bx, refl, value_typed (IsFilling Entries [] after_store)), tt); equations_typed = tt };
  }

  abbrev solved : Solved Entries store after_store
  solved = record { run = run; keeps = run_keeps_unifiers Entries entries_ok ready run; well_formed = formed; none_left = refl }

  constant_found : NumberedUnifierFinds Raising 4 below the_offer star (Some constant_case)
  constant_found = (after_store, solved, refl)

  raised_unified : IsUnifiedByNumber Raising 4 [] below raised_goal 0 (constant_case ∷ [])
  raised_unified = record { type = pi exp bx; at = refl; offers = the_offer ∷ []; each = each; every = every; listed = with_case (record { kind = star; of_family = refl; finds = constant_found }) no_offer }

  constant_typed : IsTypedNumberedCase Raising 4 [] constant_case
  constant_typed = numbered_split_stays_typed Raising raising_ok [] no_blocks 4 free below raised_goal beside.typed 0 (pi exp bx) refl (constant 0) nil bx offered star refl after_store solved

-- p b1 is an instance of the subgoal.
is_instance : IsInstanceOfPattern Raising 4 constant_case raised_pattern
is_instance = record {
  used = λ i. false;
  values = keep;
  typed = record { typed = λ i A g u. absurd cc; closed = λ i A g u. absurd cc };
  on_own_terms = λ i u. absurd cc;
  uses = (tt, (tt, tt));
  strict = (tt, (tt, tt));
  terms = λ i o u. absurd cc;
  given = λ i M u e. absurd cc;
  stands = tt;
  same = (refl, tt);
}

pattern_typed : IsTypedPattern Raising raised_pattern
pattern_typed = subgoal_is_typed Raising raising_ok [] no_blocks raising_clause (from_constant 2 clause_type refl) 0 raised_type (refl, refl)

constant_leaf : IsNumberedLeaf Raising 4 [] (raised_pattern ∷ []) constant_case
constant_leaf = record {
  typed = constant_typed (λ a b. false);
  pattern = raised_pattern;
  listed = inl refl;
  pattern_typed = pattern_typed;
  same_length = refl;
  given_own = own;
  is_instance = is_instance;
}
  where
    own : (i : ℕ) → is_given (None ∷ []) i ≡ true → outside raised_pattern.clause.type everything i ≡ false
    own zero e = absurd cc
    own (suc i) e = absurd cc

pub raised_is_covered : RaisedIsCovered
raised_is_covered below = (raised_unified below, λ test. numbered_candidate_run_covers Raising raising_ok [] no_blocks below test 4 free (raised_pattern ∷ []) raised_pattern pattern_typed raised_goal (omega arith) beside sizes (tt, tt) (by_split (constant_case ∷ []) (0, raised_pattern, inl refl, inl refl, raised_unified below) (next_case (at_leaf constant_leaf) no_case)))
  where
    sizes : (p : Pattern) → Member p (raised_pattern ∷ []) → 1 ≡ length (binders [] p.type)
    sizes p (inl e) = ap (λ (r : Pattern). length (binders [] r.type)) (sym e)
    sizes p (inr m) = absurd m
