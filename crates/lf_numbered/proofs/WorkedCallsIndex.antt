-- The worked run in which an index is split first: f N X is split at N, and f z X is missing.
use Rattle.std.proofs.Common.{◌≡◌, ℕ, zero, suc, ◌+◌, List, [], ◌∷◌, inl, inr, refl, sym, ap, ◌∙◌, subst, arith}
use Rattle.std.specs.Prelude.{Bool, true, false, Option, Some, None}
use Rattle.lf.specs.Syntax.{constant, metavariable, Head, Kind, Spine, Term, root, nil, app, LfType, arrow, base, kind_pi, pi, star}
use Rattle.lf.specs.AtOnce.{in_front}
use Rattle.lf.specs.Substitution.{Image, keep, put, substitute_type, reduce}
use Rattle.lf.specs.Typing.{IsSignature, Signature}
use Rattle.lf.specs.Variables.{target_arguments}
use Rattle.lf.specs.Subordination.{Member}
use Rattle.lf_unification.specs.Dependency.{IsDependencyOrder, IsListed, ListedMetavariable}
use Rattle.lf_unification.specs.PartialInstance.{IsFilling}
use Rattle.lf_unification.specs.Solving.{IsWellFormed, Solved}
use Rattle.lf_unification.specs.Steps.{Run, bind, constants_differ, next_equation, no_step, then_run}
use Rattle.lf_unification.specs.Unifiers.{Store, on_left}
use Rattle.lf_unification.proofs.Runs.{run_solved}
use Rattle.lf_checks.specs.Marks.{SamePlaces}
use Rattle.lf_totality.specs.Examples.{nat, successor, var, z}
use Rattle.lf_totality.specs.ExamplesGroups.{on_one}
use Rattle.lf_coverage.specs.Listed.{without_case, no_offer}
use Rattle.lf_coverage.specs.Matching.{ArePlaces}
use Rattle.lf_coverage.specs.SplitStore.{context_metavariables}
use Rattle.lf_coverage.proofs.ExamplesUnified.{no_argument}
use Rattle.lf_coverage.proofs.OtherNumbers.{not_among}
use Rattle.lf_coverage.proofs.Parts.{none_some, some_same}
use Rattle.lf_numbered.specs.EntryConstants.{with_entries}
use Rattle.lf_numbered.specs.EntryPatterns.{IsInstanceOfPattern}
use Rattle.lf_numbered.specs.NumberedArguments.{HasNumberedArguments}
use Rattle.lf_numbered.specs.NumberedCallsMeeting.{HasPattern, IsApartByNumber, SharesInstance}
use Rattle.lf_numbered.specs.NumberedCallsOrder.{HasNumberedRank, one_in_order, signature_rank}
use Rattle.lf_numbered.specs.NumberedCallsOutside.{IsSplitCaseByNumber}
use Rattle.lf_numbered.specs.NumberedCallsReached.{ReachedByNumber, numbered_first, numbered_goal, numbered_split}
use Rattle.lf_numbered.specs.NumberedCase.{NumberedCase}
use Rattle.lf_numbered.specs.NumberedSplits.{IsOfferTo, NumberedOffer, NumberedUnifierFinds, of_case}
use Rattle.lf_numbered.specs.OwnStores.{IsNumberedOffer, numbered_store, offer_signature}
use Rattle.lf_numbered.specs.WorkedCallsIndex.{IndexIsSplitFirst, Odd, f_goal, f_head, f_zero, odd_one}
use Rattle.lf_numbered.proofs.EntrySignature.{with_entries_is_signature}
use Rattle.lf_numbered.proofs.NumberedCallsCopying.{one_member}
use Rattle.lf_numbered.proofs.NumberedCallsLaws.{answered_by_number_is_split_answer}
use Rattle.lf_numbered.proofs.OffersListed.{ConstantsAreIn, heads_are_in, offer_with, other_target}
use Rattle.lf_numbered.proofs.OwnStoresStart.{numbered_store_is_ready}
use Rattle.lf_numbered.proofs.RanksListed.{signature_rank_in}
use Rattle.lf_numbered.proofs.WorkedCallsIndexTyped.{free, goal_typed, no_blocks, ok, zero_typed}
use Rattle.lf_numbered.proofs.WorkedCallsStuck.{no_truth}

-- The goal shares f (s z) o with f-1, and is none of it.
abbrev f_one : NumberedCase
f_one = record { blocks = []; variables = []; given = []; local = []; family = 2; arguments = Some (successor z) ∷ Some (root (constant 2) nil) ∷ [] }

abbrev none_used : ℕ → Bool
none_used i = false

one_has_pattern : HasPattern Odd 4 f_one f_head
one_has_pattern = record {
  used = none_used;
  values = keep;
  typed = record { typed = λ i A g u. absurd (no_truth u); closed = λ i A g u. absurd (no_truth u) };
  on_own_terms = λ i u. absurd (no_truth u);
  uses = ((tt, tt), (tt, tt));
  terms = λ i o u. absurd (no_truth u);
  given = λ j M u e. absurd (no_truth u);
  stands = tt;
  same = (refl, (refl, tt));
}

goal_shares : SharesInstance Odd 4 [] f_goal f_head
goal_shares = record {
  common = f_one;
  typed_variables = record { variables = tt; on_own_terms = λ i A g. absurd g; blocks = tt };
  numbers = λ k. k;
  zeroth = refl;
  values = in_front (put (base 1) (root (constant 2) nil)) (in_front (put (base 0) (successor z)) (λ i. keep (i + 0)));
  of_case = record {
    is_instance = record { blocks = λ k b e. absurd (none_some e); values = (root (constant 2) nil, _, (successor z, (λ i. keep (i + 0)), refl, (pi nat nat, refl, ((nat, refl, refl), refl)), (tt, ((tt, tt), tt)), refl), (odd_one, refl, refl), (tt, tt), refl) };
    family = refl;
    given = refl;
    local = refl;
    arguments = refl;
  };
  of_pattern = one_has_pattern;
}

variable_or_constant : {i c : ℕ} {S T : Spine} → root (Rattle.lf.specs.Syntax.variable i) S ≡ root (constant c) T → ⊥
variable_or_constant e = cc

goal_is_none : IsInstanceOfPattern Odd 4 f_goal f_head → ⊥
goal_is_none i = variable_or_constant i.same.0

-- f z X is apart from f (s z) o.
zero_or_one : {S : Spine} → z ≡ root (constant 1) S → ⊥
zero_or_one e = cc

not_one : (θ : ℕ → ℕ → Image) (σ : ℕ → Image) (T : Spine) → HasNumberedArguments 4 f_zero θ σ T → (S : Spine) → SamePlaces (true ∷ true ∷ []) T (app (successor z) S) → ⊥
not_one θ σ nil h S s = h
not_one θ σ (app P T) h nil s = zero_or_one (sym h.0 ∙ s.0)
not_one θ σ (app P T) h (app N S) s = zero_or_one (sym h.0 ∙ s.0)

zero_apart : IsApartByNumber Odd 4 [] f_zero f_head
zero_apart = record {
  no_instance = λ s. zero_or_one ((subst (λ Ms. ArePlaces Ms (target_arguments (substitute_type reduce s.of_pattern.values f_head.type))) s.of_case.arguments s.of_pattern.same).0);
  no_tuple = λ V typed S Σ' x G w F σ T h k t. not_one h.instances h.values T h.has_arguments _ t.same;
}

-- N is split by z into f z X.
abbrev z_offer : NumberedOffer
z_offer = record { case = f_goal; variable = 1; type = nat; head = constant 0; terms = nil; left = nat }

abbrev Entries : Signature
Entries = with_entries Odd 4 []

entries_ok : IsSignature Entries
entries_ok = with_entries_is_signature Odd ok 4 free [] no_blocks

abbrev types : ℕ → Option LfType
types = context_metavariables (on_one 1 (var 0) ∷ nat ∷ [])

abbrev odd_open : LfType
odd_open = on_one 1 (root (metavariable 1) nil)

abbrev solved_store : Store
solved_store = record { metavariables = types; bindings = record { of = 1; value = z } ∷ []; equations = [] }

abbrev solved_order : List ListedMetavariable
solved_order = record { of = 0; of_type = odd_open; value = None } ∷ record { of = 1; of_type = nat; value = Some z } ∷ []

z_offered : IsNumberedOffer Odd 4 f_goal nat (constant 0) nil nat
z_offered = offer_signature 0 nat refl refl

module _ (below : ℕ → ℕ → Bool) where
  abbrev store : Store
  store = numbered_store below f_goal 1 nat (constant 0) nil nat star

  ready : IsWellFormed Entries store
  ready = numbered_store_is_ready Odd ok [] no_blocks 4 free below f_goal goal_typed 1 nat (nat, refl, refl) (constant 0) nil nat z_offered star refl

  run : Run Entries store solved_store
  run = then_run (bind {A = nat} on_left [] 1 [] z nat refl tt no_argument (record { inverted = record { inversion = z; is = refl }; reached = λ k. false; avoids = ((λ k A v e. absurd v), tt, λ v. v); within = tt })) no_step

  abbrev by_run : Solved Entries store solved_store
  by_run = run_solved Entries entries_ok ready run refl

  module _ (U : (ℕ → Option Term) → Type 0) where
    is_order : IsDependencyOrder Entries types U solved_order
    is_order = ((tt, refl, (λ h. h), tt, (star, refl, tt), (λ ρ. refl), (tt, (nat, refl, (refl, λ β u. refl)), λ ρ. refl)), refl, not_among refl (λ b. b), ((inl refl, tt), tt), (_, refl, ((nat, (nat, refl, refl), (refl, λ β u. refl)), tt)), (λ ρ. refl), tt)

  listed : (m : ℕ) (A : LfType) → types m ≡ Some A → IsListed solved_order m
  listed zero A e = inl refl
  listed (suc zero) A e = inr (inl refl)
  listed (suc (suc m)) A e = absurd (none_some e)

  abbrev form : IsWellFormed Entries solved_store
  form = record {
    order = solved_order;
    is_order = is_order (IsFilling Entries [] solved_store);
    all_listed = listed;
    bindings_listed = ((nat, inr (inl refl)), tt);
    values_bound = ((λ N e. absurd (none_some e)), ((λ N e. inl (ap (λ X. record { of = 1; value = X }) (sym (some_same e)))), tt));
    typed = by_run.well_formed.typed;
  }

  abbrev is_solved : Solved Entries store solved_store
  is_solved = record { run = run; keeps = by_run.keeps; well_formed = form; none_left = refl }

  zero_given : IsSplitCaseByNumber Odd 4 [] below f_goal 1 f_zero
  zero_given = record { type = nat; at = (nat, refl, refl); offer = z_offer; is_offered = of_case (constant 0) nil nat z_offered; kind = star; of_family = refl; finds = (solved_store, is_solved, refl) }

  zero_reached : ReachedByNumber Odd 4 [] below (f_head ∷ []) f_goal f_zero
  zero_reached = numbered_split 1 numbered_goal (λ p m i. goal_is_none (subst (IsInstanceOfPattern Odd 4 f_goal) (one_member m) i)) (numbered_first (0 ∷ []) (inl goal_shares) refl) zero_given

-- X : odd z isn't split by o.
abbrev odd_zero : LfType
odd_zero = on_one 1 z

abbrev o_offer : NumberedOffer
o_offer = record { case = f_zero; variable = 0; type = odd_zero; head = constant 2; terms = nil; left = odd_one }

abbrev offers : List NumberedOffer
offers = o_offer ∷ []

each : (o : NumberedOffer) → Member o offers → IsOfferTo Odd 4 [] f_zero 0 odd_zero o
each o (inl e) = subst (IsOfferTo Odd 4 [] f_zero 0 odd_zero) (sym e) (of_case (constant 2) nil odd_one (offer_signature 2 odd_one refl refl))
each o (inr m) = absurd m

zero_not_one : zero ≡ suc zero → ⊥
zero_not_one e = omega (arith, e)

constants : ConstantsAreIn Odd 4 f_zero 0 odd_zero offers
constants zero V e t = absurd (other_target e t refl)
constants (suc zero) V e t = absurd (other_target e t refl)
constants (suc (suc zero)) V e t = subst (λ A. Member (offer_with f_zero 0 odd_zero (constant 2) nil A) offers) (some_same e) (inl refl)
constants (suc (suc (suc zero))) V e t = absurd (other_target e t refl)
constants (suc (suc (suc (suc k)))) V e t = absurd (none_some e)

every : (o : NumberedOffer) → IsOfferTo Odd 4 [] f_zero 0 odd_zero o → Member o offers
every = heads_are_in Odd 4 f_zero 0 odd_zero offers [] refl constants (λ c V B p e t. absurd (none_some p)) tt

every_rank : (o : NumberedOffer) (r : List ℕ) → Member o offers → HasNumberedRank 4 [] f_zero o r → Member r ((0 ∷ 2 ∷ []) ∷ [])
every_rank o r (inl e) h = signature_rank_in 4 [] f_zero o 2 e refl refl ((0 ∷ 2 ∷ []) ∷ []) (inl refl) r h
every_rank o r (inr m) h = absurd m

refuted : (below : ℕ → ℕ → Bool) → NumberedUnifierFinds Odd 4 below o_offer (kind_pi nat star) None
refuted below = record { reached = _; run = then_run (next_equation (_ ∷ []) _ []) no_step; refuted = constants_differ zero_not_one }

pub index_is_split_first : IndexIsSplitFirst
index_is_split_first = (
  (goal_is_none, inl goal_shares, refl, (λ e. absurd cc)),
  zero_apart,
  (λ below. (zero_reached below, record { typed = zero_typed; apart = λ p m. subst (IsApartByNumber Odd 4 [] f_zero) (sym (one_member m)) zero_apart })),
  (λ below s. answered_by_number_is_split_answer Odd ok [] no_blocks below s 4 free f_zero zero_typed 0 [] (record {
    unified = record {
      type = odd_zero;
      at = refl;
      offers = offers;
      each = each;
      every = every;
      listed = without_case (record { kind = kind_pi nat star; of_family = refl; finds = refuted below }) no_offer;
    };
    ranks = (0 ∷ 2 ∷ []) ∷ [];
    in_order = one_in_order (signature_rank 2 refl refl);
    every_rank = λ o r f h. every_rank o r (every o f) h;
  })),
)
