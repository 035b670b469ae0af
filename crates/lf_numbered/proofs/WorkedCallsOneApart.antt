-- Block variables of two blocks are never one, though the blocks have the same entries.
use Rattle.std.proofs.Common.{◌≡◌, ℕ, ◌+◌, List, [], ◌∷◌, inl, inr, refl, sym, ap, ◌∙◌, subst, arith}
use Rattle.std.specs.Prelude.{Bool, true, Option, Some}
use Rattle.lf.specs.Syntax.{constant, variable, Spine, Term, root, nil, app, base}
use Rattle.lf.specs.Substitution.{Image, keep, put, substitute_spine, substitute_type, reduce}
use Rattle.lf.specs.Typing.{IsSignature, Signature}
use Rattle.lf.specs.Subordination.{Block}
use Rattle.lf.specs.Worlds.{World}
use Rattle.lf_checks.specs.Marks.{SamePlaces}
use Rattle.lf_cases.specs.Cover.{InstanceIn}
use Rattle.lf_cases.proofs.Instances.{instance_typed}
use Rattle.lf_totality.specs.Examples.{exp}
use Rattle.lf_coverage.specs.Matching.{ArePlaces}
use Rattle.lf_coverage.proofs.Parts.{some_same}
use Rattle.lf_coverage.proofs.SameInstance.{instance_unique}
use Rattle.lf_numbered.specs.EntryConstants.{EntryConstant, entry_constant}
use Rattle.lf_numbered.specs.NumberedArguments.{HasNumberedArguments}
use Rattle.lf_numbered.specs.NumberedCallsMeeting.{IsApartByNumber}
use Rattle.lf_numbered.specs.NumberedCallsReached.{numbered_goal}
use Rattle.lf_numbered.specs.NumberedInstance.{block_at, first_constant}
use Rattle.lf_numbered.specs.OwnTerms.{BlockVariable, blocks_of}
use Rattle.lf_numbered.specs.Reading.{variable_past}
use Rattle.lf_numbered.specs.WorkedCallsOne.{OtherBlocksStayApart, Thrice, k_block, l_block, twice_head, two_of_two}
use Rattle.lf_numbered.specs.TypedNumbered.{IsTypedNumberedCase}
use Rattle.lf_numbered.proofs.EntryPatternsOutside.{found_at_number}
use Rattle.lf_numbered.proofs.NumberedCallsCopying.{one_member}
use Rattle.lf_numbered.proofs.WorkedCallsOne.{same_constants}

abbrev label_of : List ℕ → ℕ
label_of [] = 0
label_of (n ∷ ns) = n

other_label : k_block ≡ l_block → ⊥
other_label e = (let p : 107 ≡ 108 = ap (λ (B : Block). label_of B.label) e in omega (arith, p))

-- Over constants: entries with one constant are of one block.
one_block : (J : List BlockVariable) (j k : ℕ) (b c : BlockVariable) → block_at J j ≡ Some b → block_at J k ≡ Some c → b.block ≡ l_block → c.block ≡ k_block → first_constant 3 (blocks_of J) j + 0 ≡ first_constant 3 (blocks_of J) k + 0 → ⊥
one_block J j k b c p q r s e =
    let x : entry_constant 0 3 (blocks_of J) (first_constant 3 (blocks_of J) j + 0) ≡ Some (record { number = 0 + j; block = b.block; from = first_constant 3 (blocks_of J) j; place = 0; entry = exp; before = [] }) = found_at_number 0 3 J j b p [] exp [] (sym (ap (λ (B : Block). B.entries) r)) in
    let y : entry_constant 0 3 (blocks_of J) (first_constant 3 (blocks_of J) k + 0) ≡ Some (record { number = 0 + k; block = c.block; from = first_constant 3 (blocks_of J) k; place = 0; entry = exp; before = [] }) = found_at_number 0 3 J k c q [] exp [] (sym (ap (λ (B : Block). B.entries) s)) in
    other_label (sym s ∙ sym (ap (λ (d : EntryConstant). d.block) (some_same (sym x ∙ ap (entry_constant 0 3 (blocks_of J)) e ∙ y))) ∙ r)

-- In a context: variables that are entries of instances of both are different.
past_nothing : (x : Image) (v : ℕ) → x ≡ keep v → variable_past 0 x ≡ v
past_nothing x v e = ap (variable_past 0) e ∙ plus_zero v
  where
    plus_zero : (v : ℕ) → v + 0 ≡ v
    plus_zero v = omega arith

same_variables : {i j : ℕ} → root (variable i) nil ≡ root (variable j) nil → i ≡ j
same_variables e = cc

module _ (Σ : Signature) (ok : IsSignature Σ) {V : List Block} {S : ℕ → Bool} {G : List _} (w : World Σ V S G) where
  no_one : (θ : ℕ → ℕ → Image) → InstanceIn w l_block (θ 0) → InstanceIn w k_block (θ 1) → variable_past 0 (θ 0 0) ≡ variable_past 0 (θ 1 0) → ⊥
  no_one θ i j e =
      let (u, p) = (instance_typed Σ ok w l_block (θ 0) i).kept 0 refl in
      let (v, q) = (instance_typed Σ ok w k_block (θ 1) j).kept 0 refl in
      let f : v ≡ u = sym (past_nothing (θ 1 0) v q) ∙ sym e ∙ past_nothing (θ 0 0) u p in
      other_label (instance_unique Σ w l_block k_block (θ 0) (θ 1) i j 0 0 u refl refl p (q ∙ ap keep f)).0

two_differ : (θ : ℕ → ℕ → Image) (σ : ℕ → Image) → σ ≡ keep → (T : Spine) → HasNumberedArguments 3 two_of_two θ σ T → (M : Term) → SamePlaces (true ∷ true ∷ []) T (app M (app M nil)) → variable_past 0 (θ 0 0) ≡ variable_past 0 (θ 1 0)
two_differ θ σ e nil h M s = absurd h
two_differ θ σ e (app P nil) h M s = absurd h.1
two_differ θ σ e (app P (app Q T)) h M s = same_variables (subst (λ τ. Rattle.lf.specs.Substitution.substitute reduce τ (root (variable (variable_past 0 (θ 0 0))) nil) ≡ Rattle.lf.specs.Substitution.substitute reduce τ (root (variable (variable_past 0 (θ 1 0))) nil)) e (sym h.0 ∙ s.0 ∙ sym s.1.0 ∙ h.1.0))

both_places : (c d : ℕ) (Ms : List (Option Term)) → Ms ≡ Some (root (constant c) nil) ∷ Some (root (constant d) nil) ∷ [] → (M : Term) → ArePlaces Ms (app M (app M nil)) → c ≡ d
both_places c d Ms e M a = same_constants (places.0 ∙ sym places.1.0)
  where
    places : ArePlaces (Some (root (constant c) nil) ∷ Some (root (constant d) nil) ∷ []) (app M (app M nil))
    places = subst (λ Ns. ArePlaces Ns (app M (app M nil))) e a

apart : IsApartByNumber Thrice 3 (l_block ∷ k_block ∷ []) two_of_two twice_head
apart = record {
  no_instance = λ s. one_block s.common.blocks (s.numbers 0) (s.numbers 1) (record { block = l_block; terms = nil }) (record { block = k_block; terms = nil }) (s.of_case.is_instance.blocks 0 (record { block = l_block; terms = nil }) refl) (s.of_case.is_instance.blocks 1 (record { block = k_block; terms = nil }) refl) refl refl (both_places _ _ s.common.arguments s.of_case.arguments _ s.of_pattern.same);
  no_tuple = λ V typed S Σ' x G w F σ T h k t. no_one Σ' x.ok w h.instances h.is_ground.instances.0 h.is_ground.instances.2.0 (two_differ h.instances h.values h.is_ground.values T h.has_arguments _ t.same);
}

two_typed : IsTypedNumberedCase Thrice 3 (l_block ∷ k_block ∷ []) two_of_two
two_typed = record {
  variables = record { variables = tt; on_own_terms = λ i A g. absurd g; blocks = (inl refl, (keep, (λ i A g. absurd g), refl), tt, (inr (inl refl), (keep, (λ i A g. absurd g), refl), tt, tt)) };
  local = tt;
  local_on_own = tt;
  given = tt;
  given_on_own = tt;
  arguments = ((base 0, (base 0, refl, refl)), ((base 0, (base 0, refl, refl)), tt));
  arguments_on_own = (((nil, refl), tt), (((nil, refl), tt), tt));
}

pub other_blocks_stay_apart : OtherBlocksStayApart
other_blocks_stay_apart = (apart, λ below. (numbered_goal, record { typed = two_typed; apart = λ p m. subst (IsApartByNumber Thrice 3 (l_block ∷ k_block ∷ []) two_of_two) (sym (one_member m)) apart }))
