-- Worked tuples of what a case by number and a pattern share.
use Rattle.std.proofs.Common.{◌≡◌, ℕ, ◌+◌, [], ◌∷◌, inl, refl, sym, ap₂, subst, arith}
use Rattle.std.specs.Prelude.{false, Some}
use Rattle.lf.specs.Syntax.{Term, Spine, variable, root, nil, app, lambda, base, arrow, star, pi}
use Rattle.lf.specs.Substitution.{Image, keep, lift, put, substitute, reduce}
use Rattle.lf.specs.AtOnce.{in_front}
use Rattle.lf.specs.Subordination.{AreTypedBlocks}
use Rattle.lf.specs.Worlds.{World, no_variables, whole_instance, begin_instance, next_entry}
use Rattle.lf_checks.specs.Clause.{constant_clause, from_constant}
use Rattle.lf_cases.specs.Case.{HasArguments}
use Rattle.lf_totality.specs.Examples.{Copying, copy_block, cp, cp_kind, exp, nat, on_two, var, z}
use Rattle.lf_totality.proofs.After.{Extends-self}
use Rattle.lf_totality.proofs.Copying.{copying_ok}
use Rattle.lf_coverage.specs.Examples.{two_nats}
use Rattle.lf_coverage.specs.ExamplesCopying.{copy_entry_head, copy_worlds}
use Rattle.lf_coverage.specs.ExamplesMeetings.{zeros}
use Rattle.lf_numbered.specs.ExamplesNumbered.{one_copy, two_copies}
use Rattle.lf_coverage.specs.ExamplesStuck.{Zeros}
use Rattle.lf_numbered.specs.NumberedArguments.{HasNumberedArguments}
use Rattle.lf_numbered.specs.NumberedCalls.{IsFor, IsSetting, NumberedCoverNeeds, NumberedMatchedNeeds}
use Rattle.lf_numbered.specs.NumberedCallsExamples.{applied_zero}
use Rattle.lf_numbered.specs.NumberedCallsMeeting.{SharesInstance}
use Rattle.lf_numbered.specs.NumberedCase.{NumberedCase, IsNumberedInstance}
use Rattle.lf_numbered.specs.OwnTerms.{TypeOnOwnTerms, own_terms}
use Rattle.lf_numbered.specs.SharedTuplesExamples.{CopiesShareGround, AppliedZeroIsMet}
use Rattle.lf_numbered.specs.TypedNumbered.{IsTypedNumberedCase}
use Rattle.lf_numbered.proofs.EntryPatternsExamples.{copy_is_instance}
use Rattle.lf_coverage.proofs.ExamplesCopyingSplit.{copy_typed}
use Rattle.lf_numbered.proofs.ExamplesNumbered.{blocks_are_identified}
use Rattle.lf_coverage.proofs.ExamplesStuck.{zeros_ok}
use Rattle.lf_numbered.proofs.FreeFrom.{free_from}
use Rattle.lf_coverage.proofs.Leaves.{head_is_typed}
use Rattle.lf_numbered.proofs.NumberedAnswersExamples.{copies_have_no_applied, two_copies_are_stuck}
use Rattle.lf_numbered.proofs.NumberedCallsCopying.{instance_has_pattern, one_member}
use Rattle.lf_numbered.proofs.NumberedCallsExamples.{applied_is_open}
use Rattle.lf_numbered.proofs.NumberedNeedsFor.{head_is_for}
use Rattle.lf_coverage.proofs.Parts.{none_some}
use Rattle.lf_numbered.proofs.SharedTuples.{back, met_has_tuple, met_shares_tuple, shared_tuple_is_not_apart, unsplit_is_met}
use Rattle.lf_coverage.proofs.UsedVariables.{types_of_one}
use Rattle.lf_numbered.proofs.WorkedCallsStuck.{unsplit_alone}

-- a tuple with these two arguments
pair_is : (M N : Term) (T : Spine) → HasArguments keep (Some M ∷ Some N ∷ []) T → T ≡ app (substitute reduce keep M) (app (substitute reduce keep N) nil)
pair_is M N nil h = absurd h
pair_is M N (app P nil) (e, h) = absurd h
pair_is M N (app P (app Q nil)) (e, (f, h)) = ap₂ (λ A B. app A (app B nil)) e f
pair_is M N (app P (app Q (app R S))) (e, (f, h)) = absurd h

-- the context x:exp, u:cp x x
abbrev pub copy_instance : ℕ → Image
copy_instance = lift (lift keep)

abbrev pub copy_world : World Copying copy_worlds (λ b. false) (cp (var 0) (var 0) ∷ exp ∷ [])
copy_world = whole_instance copy_block (inl refl) refl (next_entry {θ = lift keep} (cp (var 0) (var 0)) (next_entry {θ = keep} exp (begin_instance no_variables (record { typed = λ i A g u. absurd g; closed = λ i A g u. absurd g })) (star, refl, tt)) (cp_kind, refl, ((exp, refl, refl), ((exp, refl, refl), tt))))

-- cp b.x b.x there
abbrev pub copies_share : SharesInstance Copying 4 copy_worlds two_copies copy_entry_head
copies_share = record {
  common = one_copy;
  typed_variables = record { variables = tt; on_own_terms = λ i A g. absurd g; blocks = (inl refl, (keep, (λ i A g. absurd g), refl), tt, tt) };
  numbers = λ k. 0;
  zeroth = refl;
  values = λ i. keep (i + 0);
  of_case = blocks_are_identified.0;
  of_pattern = instance_has_pattern Copying 4 one_copy copy_entry_head copy_is_instance.1;
}

pub copy_ground : IsNumberedInstance copy_world 4 one_copy (λ k. copy_instance) keep
copy_ground = record { values = refl; instances = (inl (refl, refl), refl, tt) }

pub copies_share_ground : CopiesShareGround
copies_share_ground =
    let n : NumberedMatchedNeeds Copying 4 copy_worlds two_copies copy_entry_head = two_copies_are_stuck.0 in
    let x = Extends-self (λ b. false) Copying copying_ok in
    let (t, k) = met_has_tuple Copying 4 copy_worlds two_copies copy_entry_head n copies_share copy_worlds copy_typed (λ b. false) Copying x (cp (var 0) (var 0) ∷ exp ∷ []) copy_world (λ k. copy_instance) keep copy_ground in (
      copy_world,
      copies_share,
      refl,
      (λ k. copy_instance),
      copy_ground,
      back Copying 4 copy_worlds two_copies copy_entry_head n copies_share copy_worlds copy_typed (λ b. false) Copying x copy_world (λ k. copy_instance) keep copy_ground,
      t,
      pair_is (var 1) (var 1) t.tuple k,
      shared_tuple_is_not_apart Copying 4 copy_worlds two_copies copy_entry_head (met_shares_tuple Copying 4 copy_worlds two_copies copy_entry_head n copies_share copy_worlds copy_typed (λ b. false) Copying x (cp (var 0) (var 0) ∷ exp ∷ []) copy_world (λ k. copy_instance) keep copy_ground),
      (λ q. copies_have_no_applied (record { worlds = copy_worlds; typed = copy_typed; set = λ b. false; extension = Copying; extends = x; context = cp (var 0) (var 0) ∷ exp ∷ []; world = copy_world; known = q.known; values = q.values; tuple = q.tuple; holds = q.holds; is_known = q.is_known; has = q.has })),
    )

-- eq z (F z)
no_blocks : AreTypedBlocks Zeros []
no_blocks B m = absurd m

zeros_setting : IsSetting Zeros 3 []
zeros_setting = record { signature = zeros_ok; blocks = no_blocks; free = free_from Zeros 3 (λ c. refl) (λ a. refl) }

applied_typed : IsTypedNumberedCase Zeros 3 [] applied_zero
applied_typed = record {
  variables = record { variables = (tt, ((star, refl, tt), (star, refl, tt))); on_own_terms = types_of_one (λ i A. TypeOnOwnTerms (own_terms 3 applied_zero.blocks) A) (pi nat nat) (tt, tt); blocks = tt };
  local = (tt, ((star, refl, tt), (star, refl, tt)));
  local_on_own = tt;
  given = tt;
  given_on_own = tt;
  arguments = ((base 0, (base 0, refl, refl)), ((base 0, (arrow (base 0) (base 0), refl, ((base 0, refl, refl), refl))), tt));
  arguments_on_own = ((tt, tt), (((tt, tt), tt), tt));
}

applied_for : IsFor Zeros 3 [] applied_zero zeros
applied_for = head_is_for Zeros 3 [] applied_zero zeros (head_is_typed Zeros zeros_ok [] no_blocks (constant_clause (on_two 2 z z)) (from_constant 2 (on_two 2 z z) refl)) tt refl (record { is_head = refl; none_given = refl; no_local = refl; kind = two_nats; of_family = refl; covered_only = (tt, (tt, tt)); tuple = app z (app (root (variable 0) (app z nil)) nil); at_places = (refl, (refl, tt)); typed_places = ((nat, refl, refl), ((pi nat nat, refl, ((nat, refl, refl), refl)), tt)) })

pub applied_needs : NumberedMatchedNeeds Zeros 3 [] applied_zero zeros
applied_needs = record { setting = zeros_setting; case = applied_typed; pattern = applied_for }

-- It shares eq z z, where F is [y] y.
abbrev zero_case : NumberedCase
zero_case = record { blocks = []; variables = []; given = []; local = []; family = 2; arguments = Some z ∷ Some z ∷ [] }

zero_shares : (s : SharesInstance Zeros 3 [] applied_zero zeros) × (s.common ≡ zero_case)
zero_shares = (
  record {
    common = zero_case;
    typed_variables = record { variables = tt; on_own_terms = λ i A g. absurd g; blocks = tt };
    numbers = λ k. k;
    zeroth = refl;
    values = in_front (put (arrow (base 0) (base 0)) (lambda (var 0))) (λ i. keep (i + 0));
    of_case = record {
      is_instance = record { blocks = λ k b e. absurd (none_some e); values = (lambda (var 0), (λ i. keep (i + 0)), refl, (nat, refl, refl), tt, refl) };
      family = refl;
      given = refl;
      local = refl;
      arguments = refl;
    };
    of_pattern = record { used = λ i. false; values = keep; typed = record { typed = λ i A g u. absurd g; closed = λ i A g u. absurd g }; on_own_terms = λ i u. tt; uses = (tt, (tt, tt)); terms = λ i o u. absurd cc; given = λ j M u e. absurd (none_some e); stands = tt; same = (refl, (refl, tt)) };
  },
  refl,
)

zero_world : World Zeros [] (λ b. false) []
zero_world = no_variables

zero_ground : (D : NumberedCase) → D ≡ zero_case → IsNumberedInstance zero_world 3 D (λ k i. keep i) keep
zero_ground D e = subst (λ C. IsNumberedInstance zero_world 3 C (λ k i. keep i) keep) (sym e) (record { values = refl; instances = tt })

pub applied_zero_is_met : AppliedZeroIsMet
applied_zero_is_met below test =
    let n : NumberedCoverNeeds Zeros 3 [] below (zeros ∷ []) applied_zero = record { setting = zeros_setting; subordination = test; case = applied_typed; one_block = omega arith; locals_below = tt; patterns = λ p m. subst (IsFor Zeros 3 [] applied_zero) (sym (one_member m)) applied_for } in
    let (left, (none, meets, no_candidate)) = applied_is_open in
    let u = unsplit_alone Zeros 3 [] below applied_zero zeros none meets no_candidate in
    let (s, e) = zero_shares in
    let (t, k) = unsplit_is_met Zeros 3 [] below (zeros ∷ []) applied_zero n applied_zero u zeros (inl refl) s [] no_blocks (λ b. false) Zeros (Extends-self (λ b. false) Zeros zeros_ok) [] zero_world (λ k i. keep i) keep (zero_ground s.common e) in
    (n, u, zero_world, t, pair_is z z t.tuple (subst (λ D. HasNumberedArguments 3 D (λ k i. keep i) keep t.tuple) e k))
