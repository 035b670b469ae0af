-- Worked: the split at which types are circular, the tuples that make its equation true, and the head of an instance.
use Rattle.std.proofs.Common.{◌≡◌, ℕ, zero, suc, List, [], ◌∷◌, inl, inr, refl, sym, ap, ◌∙◌, subst}
use Rattle.std.specs.Prelude.{Bool, true, false, Option, Some}
use Rattle.lf.specs.Syntax.{Term, constant, metavariable, variable, app, arrow, base, lambda, root, nil, LfType, skeleton, weaken}
use Rattle.lf.specs.AtOnce.{in_front}
use Rattle.lf.specs.Substitution.{Image, keep, put}
use Rattle.lf.specs.Variables.{nothing}
use Rattle.lf.specs.Typing.{TypeAt}
use Rattle.lf_unification.specs.OpenTyping.{MetavariablesInType, ValueHasType, skeletons_of}
use Rattle.lf_unification.specs.Outside.{Holds, NoStep, Outside}
use Rattle.lf_unification.specs.Patterns.{pattern}
use Rattle.lf_unification.specs.Putting.{Unbound, put_at_bound, put_at_unbound, put_in_argument, put_nowhere}
use Rattle.lf_unification.specs.Reach.{in_term, in_type, is_given}
use Rattle.lf_unification.specs.Solving.{IsWellFormed, Left, LeftOver}
use Rattle.lf_unification.specs.Steps.{Run, bind, no_step, then_run}
use Rattle.lf_unification.specs.Unifiers.{Binding, Store, on_left, on_right}
use Rattle.lf.specs.Rules.{stop}
use Rattle.lf_unification.proofs.ExamplesOutside.{at_flexible}
use Rattle.lf_unification.proofs.Runs.{run_left}
use Rattle.lf_cases.specs.Case.{as_term}
use Rattle.lf_totality.specs.Examples.{nat, on_two, var, z}
use Rattle.lf_totality.specs.ExamplesGroups.{on_one}
use Rattle.lf_coverage.proofs.FlexibleLeft.{some_left}
use Rattle.lf_numbered.specs.LeftExamples.{Circle, CircleIsLeft, CircleIsTrue, OlderIsGiven, OlderIsHead, circle_case, circle_after, circle_left, circle_over, circle_terms, circle_values, refl_type, refl_z}
use Rattle.lf_numbered.specs.LeftUnifiers.{read_store}
use Rattle.lf_numbered.specs.NumberedBesideInstances.{older, two_instances}
use Rattle.lf_numbered.specs.NumberedSplitsExamples.{Bare, exp, exp_block, open_case}
use Rattle.lf_numbered.specs.NumberedCallsOutside.{SplitLeavesByNumber}
use Rattle.lf_numbered.specs.NumberedCase.{AreGroundValues}
use Rattle.lf_numbered.specs.NumberedSplits.{NumberedOffer, of_case}
use Rattle.lf_numbered.specs.OwnStores.{IsNumberedOffer, numbered_store, offer_signature}
use Rattle.lf_numbered.specs.Reading.{entry_reading}
use Rattle.lf_totality.proofs.After.{Extends-self}
use Rattle.lf_coverage.proofs.NoArgument.{no_argument_of}
use Rattle.lf_coverage.proofs.Parts.{none_some, some_same}
use Rattle.lf_numbered.proofs.LeftEquations.{new_head_is_given}
use Rattle.lf_numbered.proofs.LeftExamplesTyped.{Entries, circle_ok, circle_typed, entries_ok, free, no_blocks, two_nats}
use Rattle.lf_numbered.proofs.NumberedBesideInstances.{two_worlds, older_is}
use Rattle.lf_numbered.proofs.NumberedSplitsExamples.{bare_ok, blocks_typed, free as bare_free, open_typed}
use Rattle.lf_numbered.proofs.OwnStoresStart.{numbered_store_is_ready}

-- The split
abbrev pub types : ℕ → Option LfType
types = circle_after.metavariables

abbrev pub t : Term
t = root (metavariable 4) nil

abbrev pub w : Term
w = root (metavariable 2) nil

abbrev pub k_w : Term
k_w = root (metavariable 3) (app (root (metavariable 2) nil) nil)

abbrev pub refl_open : Term
refl_open = root (constant 3) (app (root (metavariable 0) nil) nil)

abbrev pub found : List Binding
found = circle_after.bindings

zero_is_one : zero ≡ suc zero → ⊥
zero_is_one e = cc

no_pattern : (m : ℕ) (xs : List ℕ) → root (metavariable m) (pattern (skeletons_of types m) xs) ≡ k_w → ⊥
no_pattern m xs e = go m xs (let p : m ≡ 3 = cc in p) (let p : pattern (skeletons_of types m) xs ≡ app w nil = cc in p)
  where
    at_three : (xs : List ℕ) → pattern (arrow (base 1) (base 0)) xs ≡ app (root (metavariable 2) nil) nil → ⊥
    at_three [] q = cc
    at_three (x ∷ xs) q = cc

    go : (m : ℕ) (xs : List ℕ) → m ≡ 3 → pattern (skeletons_of types m) xs ≡ app w nil → ⊥
    go m xs p q = at_three xs (subst (λ j. pattern (skeletons_of types j) xs ≡ app w nil) p q)

pub unbound_two : Unbound found 2
unbound_two = ((λ e. cc), ((λ e. cc), tt))

pub unbound_three : Unbound found 3
unbound_three = ((λ e. cc), ((λ e. cc), tt))

pub unbound_four : Unbound found 4
unbound_four = ((λ e. cc), ((λ e. cc), tt))

-- the types mention nothing that is bound
unbound_types : (k : ℕ) (A : LfType) → types k ≡ Some A → MetavariablesInType (Unbound found) A
unbound_types zero A e = subst (MetavariablesInType (Unbound found)) (some_same e) tt
unbound_types (suc zero) A e = subst (MetavariablesInType (Unbound found)) (some_same e) ((unbound_four, tt), ((unbound_three, ((unbound_two, tt), tt)), tt))
unbound_types (suc (suc zero)) A e = subst (MetavariablesInType (Unbound found)) (some_same e) ((unbound_four, tt), tt)
unbound_types (suc (suc (suc zero))) A e = subst (MetavariablesInType (Unbound found)) (some_same e) (((unbound_four, tt), tt), tt)
unbound_types (suc (suc (suc (suc zero)))) A e = subst (MetavariablesInType (Unbound found)) (some_same e) tt
unbound_types (suc (suc (suc (suc (suc k))))) A e = absurd (none_some e)

pub is_outside : Outside types found circle_left
is_outside = record {
  differ = λ e. (let p : k_w ≡ t = e in cc);
  left_root = λ h. h;
  right_root = λ h. h;
  flexible = inl tt;
  stuck_left = λ m xs p e. absurd (no_pattern m xs (sym e));
  stuck_right = λ m xs p e. (let q : m ≡ 4 = cc in stuck m xs q);
}
  where
    stuck : (m : ℕ) (xs : List ℕ) → m ≡ 4 → NoStep types found [] m xs k_w
    stuck m xs q = record {
      circular = λ i. in_type (in_term {m = 2} (inr (inl (inl refl)))) refl (inl (inl q));
      invertible = λ n. (let p : root (variable n.bad) n.spine ≡ k_w = at_flexible (root (variable n.bad) n.spine) n.depth 3 (app w nil) k_w n.at refl in cc);
      not_inside = λ o. no_pattern m o.ys (at_flexible (root (metavariable m) (pattern (skeletons_of types m) o.ys)) o.depth 3 (app w nil) k_w o.at refl);
      no_drop = λ d. no_pattern d.drop.m d.drop.ys (at_flexible (root (metavariable d.drop.m) (pattern (skeletons_of types d.drop.m) d.drop.ys)) d.drop.depth 3 (app w nil) k_w d.drop.at refl);
      no_agreement = λ a. no_pattern m a.same.ys (sym a.same.is);
      renewed = λ k A r u e. unbound_types k A e;
    }

abbrev pub left_over : LeftOver types circle_after (record { local = []; left = k_w; right = root (metavariable 0) nil; of_type = nat })
left_over = record {
  shown = circle_left;
  same_local = refl;
  put_left = put_at_unbound unbound_three (put_in_argument (put_at_unbound unbound_two put_nowhere) put_nowhere);
  put_right = put_at_bound (record { of = 0; value = root (metavariable 4) nil }) (inl refl) put_nowhere stop (put_at_unbound unbound_four put_nowhere);
  inside_left = (is_given (_, refl), ((is_given (_, refl), tt), tt));
  inside_right = (is_given (_, refl), tt);
  outside = is_outside;
}

abbrev only : ℕ → ℕ → Bool
only zero zero = true
only zero (suc k) = false
only (suc n) zero = false
only (suc n) (suc k) = only n k

abbrev pub index : LfType
index = on_two 2 (var 3) (root (variable 2) (app (var 1) nil))

abbrev pub offer : NumberedOffer
offer = record { case = circle_case; variable = 0; type = index; head = constant 3; terms = nil; left = refl_type }

-- what is reached from refl Z, and from T, has the type nat
closed_zero : (k : ℕ) (A : LfType) → Holds (only 0 k) → types k ≡ Some A → MetavariablesInType (λ j. Holds (only 0 j)) A
closed_zero zero A v e = subst (MetavariablesInType (λ j. Holds (only 0 j))) (some_same e) tt
closed_zero (suc k) A v e = absurd v

closed_four : (k : ℕ) (A : LfType) → Holds (only 4 k) → types k ≡ Some A → MetavariablesInType (λ j. Holds (only 4 j)) A
closed_four zero A v e = absurd v
closed_four (suc zero) A v e = absurd v
closed_four (suc (suc zero)) A v e = absurd v
closed_four (suc (suc (suc zero))) A v e = absurd v
closed_four (suc (suc (suc (suc zero)))) A v e = subst (MetavariablesInType (λ j. Holds (only 4 j))) (some_same e) tt
closed_four (suc (suc (suc (suc (suc k))))) A v e = absurd v

module _ (below : ℕ → ℕ → Bool) where
  pub is_offered : IsNumberedOffer Circle 4 circle_case index (constant 3) nil refl_type
  is_offered = offer_signature 3 refl_type refl refl

  abbrev pub store : Store
  store = numbered_store below circle_case 0 index (constant 3) nil refl_type two_nats

  pub ready : IsWellFormed Entries store
  ready = numbered_store_is_ready Circle circle_ok [] no_blocks 4 free below circle_case circle_typed 0 index refl (constant 3) nil refl_type is_offered two_nats refl

  run : Run Entries store circle_after
  run = then_run
      (bind {A = on_two 2 t k_w} on_left [] 1 [] refl_open (on_two 2 t k_w) refl tt (no_argument_of 2) (record { inverted = record { inversion = refl_open; is = refl }; reached = only 0; avoids = (closed_zero, tt, λ v. v); within = ((tt, tt), tt) }))
      (then_run (bind {A = nat} on_right [] 0 [] t nat refl (zero_is_one, tt) (no_argument_of 0) (record { inverted = record { inversion = t; is = refl }; reached = only 4; avoids = (closed_four, ((λ h. absurd h), tt), λ v. v); within = (tt, tt) })) no_step)

  pub is_left : Left Entries store circle_after
  is_left = run_left Entries entries_ok ready run some_left (left_over, tt)

  abbrev pub circle_leaves : SplitLeavesByNumber Circle 4 [] below circle_case 0 circle_over circle_left
  circle_leaves = record { type = index; at = refl; offer = offer; is_offered = of_case (constant 3) nil refl_type is_offered; is_over = refl; kind = two_nats; of_family = refl; after = circle_after; left = is_left; equation = record { local = []; left = k_w; right = root (metavariable 0) nil; of_type = nat }; listed = inl refl; left_over = left_over; is_shown = refl }

pub circle_is_left : CircleIsLeft
circle_is_left below = circle_leaves below

-- The tuple
abbrev Same : ℕ → LfType → Type 0
Same i A = circle_terms z i ≡ Some (as_term (skeleton A) (circle_values i))

same_values : (i : ℕ) (A : LfType) → TypeAt circle_over.variables i A → Same i A
same_values zero A e = subst (Same 0) (sym e) refl
same_values (suc zero) A (B, g, e) = subst (Same 1) (sym (e ∙ ap weaken g)) refl
same_values (suc (suc zero)) A (B, (D, g, p), e) = subst (Same 2) (sym (e ∙ ap weaken (p ∙ ap weaken g))) refl
same_values (suc (suc (suc zero))) A (B, (D, (F, g, q), p), e) = subst (Same 3) (sym (e ∙ ap weaken (p ∙ ap weaken (q ∙ ap weaken g)))) refl
same_values (suc (suc (suc (suc zero)))) A (B, (D, (F, (H, g, r), q), p), e) = subst (Same 4) (sym (e ∙ ap weaken (p ∙ ap weaken (q ∙ ap weaken (r ∙ ap weaken g))))) refl
same_values (suc (suc (suc (suc (suc i))))) A (B, (D, (F, (H, (J, g, u), r), q), p), e) = absurd g

abbrev n_term : Term
n_term = root (constant 2) nil

ground : AreGroundValues Circle [] (entry_reading 4 [] (λ k i. keep i)) circle_over.variables circle_values
ground = (z, _, (refl_z, _, (n_term, _, (lambda z, _, (z, keep, refl, (nat, refl, refl), refl), (nat, refl, refl), refl), (on_one 1 z, refl, refl), refl), (refl_type, refl, ((nat, refl, refl), refl)), refl), (nat, refl, refl), refl)

a_is_z : root (constant 1) nil ≡ root (constant 0) nil → ⊥
a_is_z e = cc

module _ (θ : ℕ → ℕ → Image) where
  pub value_typed : (m : ℕ) → ValueHasType Circle [] (skeletons_of (read_store 4 [] θ circle_after).metavariables) (circle_terms z) ((read_store 4 [] θ circle_after).metavariables m) (circle_terms z m)
  value_typed zero = (nat, refl, refl)
  value_typed (suc zero) = (refl_type, refl, ((nat, refl, refl), refl))
  value_typed (suc (suc zero)) = (on_one 1 z, refl, refl)
  value_typed (suc (suc (suc zero))) = (nat, refl, refl)
  value_typed (suc (suc (suc (suc zero)))) = (nat, refl, refl)
  value_typed (suc (suc (suc (suc (suc m))))) = tt

pub circle_is_true : CircleIsTrue
circle_is_true = (
  λ w υ. record {
    holds = record { instances = λ k i. keep i; values = circle_values; is_ground = record { values = ground; instances = tt }; zeroth = tt; given = λ i M e. absurd (none_some e); has_arguments = (refl, tt) };
    terms = circle_terms z;
    same = same_values;
    unifier = (record { context = tt; outer = λ i A k. absurd k; typed = value_typed (λ k i. keep i) }, ((refl, (refl, tt)), (refl, tt)));
  },
  λ θ u. a_is_z u.1.1.0,
)

pub older_is_head : OlderIsHead
older_is_head = ((nil, refl), (λ (T, e). cc), (nil, refl))

pub older_is_given : OlderIsGiven
older_is_given = (
  two_worlds,
  new_head_is_given Bare Bare bare_ok nothing (Extends-self nothing Bare bare_ok) (exp_block ∷ []) blocks_typed 2 bare_free open_case open_typed two_instances two_worlds (λ k i. keep i) (in_front (put (base 0) (root (variable 3) nil)) keep)
      (record { values = (root (variable 3) nil, keep, refl, (exp, (exp, (exp, (exp, refl, refl), refl), refl), refl), refl); instances = tt }) (λ j k b c p q. absurd (none_some p)) exp_block (inl refl) older older_is.instances.0 (λ k b p. absurd (none_some p)) 0 exp (constant 2) nil exp nil refl,
)
