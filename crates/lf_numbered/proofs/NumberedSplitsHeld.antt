-- A ground instance with room, written, is one of the case that is read off where unification solves the head's store.
use Rattle.std.proofs.Common.{◌≡◌, ℕ, zero, suc, List, [], ◌∷◌, ◌+◌, length, Option, Some, refl, sym, ap, ◌∙◌, subst, arith}
use Rattle.std.specs.Prelude.{Bool}
use Rattle.lf.specs.Syntax.{Head, Term, Spine, root, LfType, Kind, skeleton, rename, rename_spine, rename_type}
use Rattle.lf.specs.Substitution.{Image, keep, put, substitute, substitute_spine, substitute_image, substitute_type, reduce, after}
use Rattle.lf.specs.AtOnce.{shift_by}
use Rattle.lf.specs.Eta.{append, lambdas}
use Rattle.lf.specs.Typing.{Signature, TypeAt, HasType, ImageHasType, IsTypedSubstitution, IsSignature}
use Rattle.lf.specs.Variables.{target}
use Rattle.lf.specs.Subordination.{Block, SelfContained}
use Rattle.lf.specs.Worlds.{World, lift_over}
use Rattle.lf.proofs.TypeLaws.{skeleton_renamed}
use Rattle.lf_checks.specs.Below.{IsSubordination}
use Rattle.lf_unification.specs.OpenTyping.{skeletons_of}
use Rattle.lf_unification.specs.Skeletons.{skeleton_or_default}
use Rattle.lf_unification.specs.Solving.{Solved}
use Rattle.lf_unification.specs.Unifiers.{Store}
use Rattle.lf_cases.specs.Case.{items_context, as_term, behind_entries}
use Rattle.lf_cases.specs.Cover.{InstanceIn}
use Rattle.lf_cases.specs.OutputGoal.{free_variables}
use Rattle.lf_cases.specs.Reached.{arguments_count, head_masks, taken, split_items}
use Rattle.lf_coverage.specs.Heads.{ArgumentsAreBelow}
use Rattle.lf_coverage.specs.SplitStore.{answer_image, answer_values, context_metavariables, open_some, open_type}
use Rattle.lf_coverage.proofs.RefutedSplits.{solved_extended, well_formed_extended}
use Rattle.lf_coverage.proofs.SolvedCase.{behind_types, free_context_is}
use Rattle.lf_coverage.proofs.StoreSolution.{looked_up, skeleton_open}
use Rattle.lf_numbered.specs.EntryConstants.{EntryConstant, entry_constant, with_entries}
use Rattle.lf_numbered.specs.NumberedBeside.{TakesIn}
use Rattle.lf_numbered.specs.NumberedCase.{NumberedCase, AreTypedBlockVariables, some_spine, value_in, type_in}
use Rattle.lf_numbered.specs.NumberedInstance.{block_at}
use Rattle.lf_numbered.specs.OwnStores.{IsNumberedOffer, numbered_store, solved_numbered}
use Rattle.lf_numbered.specs.OwnTerms.{BlockVariable, blocks_of, own_terms, put_in_blocks}
use Rattle.lf_numbered.specs.OwnValuesAnswer.{AnswerInstance, AreValuesUnder}
use Rattle.lf_numbered.specs.OwnValuesReading.{AreReadAs, AreReadInstances, ReadBackKeepsTyping}
use Rattle.lf_numbered.specs.Reading.{read, read_spine, entry_reading}
use Rattle.lf_numbered.specs.TypedNumbered.{IsTypedNumberedCase}
use Rattle.lf_numbered.specs.Writing.{IsWriting, back_over}
use Rattle.lf_numbered.specs.WritingLaws.{IsInstanceWithRoom}
use Rattle.lf_numbered.proofs.EntryPlaces.{entry_is}
use Rattle.lf_numbered.proofs.EntrySignature.{grown_image}
use Rattle.lf_numbered.proofs.NumberedHeads.{value_is_term}
use Rattle.lf_numbered.proofs.NumberedSplitsHeads.{MakesWritten}
use Rattle.lf_numbered.proofs.NumberedSplitsReady.{ready_there, solved_there, terms, written_solution}
use Rattle.lf_numbered.proofs.NumberedSplitsSolution.{context_filling}
use Rattle.lf_numbered.proofs.NumberedSplitsValues.{written_values_own}
use Rattle.lf_numbered.proofs.OwnStoresSplit.{numbered_split_stays_typed, values_typed as answer_typed}
use Rattle.lf_numbered.proofs.OwnValuesAnswer.{answer_is_instance}
use Rattle.lf_numbered.proofs.OwnValuesBack.{entries_are_read_as}
use Rattle.lf_numbered.proofs.ReadValues.{values_typed}
use Rattle.lf_numbered.proofs.WritingBack.{back_far, term_back}
use Rattle.lf_numbered.proofs.WritingBackTyped.{back_typed}
use Rattle.lf_numbered.proofs.WritingInstance.{written_signature, types_more, instance_at}
use Rattle.lf_numbered.proofs.WritingOwn.{entry_instance, terms_written}
use Rattle.lf_numbered.proofs.WritingSome.{instance_back}

put_same : {a b : Rattle.lf.specs.Syntax.Skeleton} {M N : Term} → put a M ≡ put b N → M ≡ N
put_same e = cc

-- typed values and block variables, over more constants
module _ (Σ Σ' : Signature) (types : (c : ℕ) (A : LfType) → Σ.types c ≡ Some A → Σ'.types c ≡ Some A) (kinds : (a : ℕ) (K : Kind) → Σ.kinds a ≡ Some K → Σ'.kinds a ≡ Some K) where
  values_more : (X F : List LfType) (σ : ℕ → Image) → IsTypedSubstitution Σ X F σ → IsTypedSubstitution Σ' X F σ
  values_more X F σ h i A g = grown_image Σ Σ' types kinds F (σ i) (substitute_type reduce σ A) (h i A g)

  blocks_more : (W : List Block) (X : List LfType) (o : ℕ → Option Spine) (bs : List BlockVariable) → AreTypedBlockVariables Σ W X o bs → AreTypedBlockVariables Σ' W X o bs
  blocks_more W X o [] h = tt
  blocks_more W X o (b ∷ bs) (m, (υ, u, q), p, h) = (m, (υ, values_more b.block.some X υ u, q), p, blocks_more W X o bs h)

module _ (Σ Σ' : Signature) {W : List Block} {S : ℕ → Bool} {G : List LfType} (w : World Σ' W S G) (first : ℕ) (C : NumberedCase) (θ : ℕ → ℕ → Image) (σ : ℕ → Image) (r : IsInstanceWithRoom Σ w first C θ σ) (F : List LfType) (ρ : ℕ → Image) (back : ℕ → ℕ) (hw : IsWriting Σ' first (blocks_of C.blocks) θ G F ρ back) (sc : SelfContained Σ W S) (below : ℕ → ℕ → Bool) (s : IsSubordination Σ W below) (x : ℕ) (X : LfType) (at : TypeAt C.variables x X) (fams : TakesIn S X) (args : ArgumentsAreBelow below X) (h0 : Head) (T : Spine) (e : σ x ≡ put (skeleton X) (lambdas (length (taken X)) (root h0 T))) (tc : IsTypedNumberedCase Σ first W C) (h : Head) (U : Spine) (A : LfType) (offer : IsNumberedOffer Σ first C X h U A) (h1 : Head) (U1 : Spine) (written : substitute reduce (lift_over (taken X) ρ) (root h0 T) ≡ root h1 (append U1 (substitute_spine reduce (lift_over (taken X) ρ) T))) (K : Kind) (of_family : Σ.kinds (target X) ≡ Some K) (φ : ℕ → Image) (m : MakesWritten Σ Σ' w first C θ σ r F ρ back hw sc below s x X at fams args h0 T e h U A φ) (after0 : Store) (d : Solved (with_entries Σ first (blocks_of C.blocks)) (numbered_store below C x X h U A K) after0) where
  abbrev Σ₁ : Signature
  Σ₁ = with_entries Σ first (blocks_of C.blocks)

  abbrev Σe : Signature
  Σe = with_entries Σ' first (blocks_of C.blocks)

  abbrev ok : IsSignature Σe
  ok = written_signature Σ Σ' w first C θ σ r

  abbrev V : List LfType
  V = C.variables

  abbrev k : ℕ
  k = arguments_count A

  abbrev Cx : List LfType
  Cx = items_context (split_items below X (free_variables C.variables) zero A)

  abbrev f : ℕ → Option (ℕ × ℕ)
  f = entry_reading first (blocks_of C.blocks) θ (length F)

  abbrev ν : ℕ → ℕ
  ν = back_over (length F) back

  pub read_off_typed : IsTypedNumberedCase Σ first W (solved_numbered C (arguments_count A) after0 d.well_formed.order)
  read_off_typed = numbered_split_stays_typed Σ r.signature W r.blocks first r.free below C tc x X at h U A offer K of_family after0 d

  pub answered_typed : IsTypedSubstitution Σ₁ V (solved_numbered C (arguments_count A) after0 d.well_formed.order).variables (λ i. answer_values after0 d.well_formed.order (i + arguments_count A))
  answered_typed = answer_typed Σ r.signature W r.blocks first r.free below C tc x X at h U A offer K of_family after0 d

  keeps : ReadBackKeepsTyping Σe Σ' F G f (own_terms first (put_in_blocks (after ρ σ) C.blocks)) ν
  keeps B t o N n on = back_typed Σ Σ' w first C θ σ r F ρ back hw N B t o n on

  entry_variable : (c : ℕ) (ec : EntryConstant) → entry_constant zero first (blocks_of C.blocks) c ≡ Some ec → (u : ℕ) × (θ ec.number ec.place ≡ keep u)
  entry_variable c ec z =
      let (i, later, en, pl) = entry_instance Σ Σ' w first C θ σ r F ρ back hw c ec z in
      let (u0, k0) = entry_is Σ' r.extends.ok w ec.block (θ ec.number) i later ec.entry ec.before en in
      (u0, ap (θ ec.number) pl ∙ k0)

  reads : AreReadAs first (blocks_of C.blocks) f ν θ
  reads = entries_are_read_as first (blocks_of C.blocks) θ (length F) ν (λ u. back_far (length F) back u) entry_variable

  instances : (n : ℕ) (bs : List BlockVariable) → ((j : ℕ) (b : BlockVariable) → block_at bs j ≡ Some b → InstanceIn w b.block (θ (n + j)) × (some_spine b.block.some (behind_entries b.block.entries (θ (n + j))) ≡ rename_spine ν (read_spine f (substitute_spine reduce (after ρ σ) b.terms)))) → AreReadInstances w f ν (after ρ σ) θ n bs
  instances n [] g = tt
  instances n (b ∷ bs) g =
      let (i, q) = subst (λ l. InstanceIn w b.block (θ l) × (some_spine b.block.some (behind_entries b.block.entries (θ l)) ≡ rename_spine ν (read_spine f (substitute_spine reduce (after ρ σ) b.terms)))) (none n) (g zero b refl) in
      (i, q, instances (suc n) bs (λ j c p. subst (λ l. InstanceIn w c.block (θ l) × (some_spine c.block.some (behind_entries c.block.entries (θ l)) ≡ rename_spine ν (read_spine f (substitute_spine reduce (after ρ σ) c.terms)))) (next n j) (g (suc j) c p)))
    where
      none : (n : ℕ) → n + 0 ≡ n
      none n = omega arith

      next : (n j : ℕ) → n + suc j ≡ suc n + j
      next n j = omega arith

  are_instances : AreReadInstances w f ν (after ρ σ) θ zero C.blocks
  are_instances = instances zero C.blocks (λ j b q. ((instance_at Σ Σ' w first C θ σ r j b q).0, sym (instance_back Σ Σ' w first C θ σ r F ρ back hw b.block (θ (zero + j)) (instance_at Σ Σ' w first C θ σ r j b q).0) ∙ ap (λ R. rename_spine ν (read_spine f R)) (terms_written Σ Σ' w first C θ σ r F ρ back hw j b q)))

  behind : (i : ℕ) (B : LfType) → TypeAt V i B → TypeAt Cx (i + k) (rename_type (shift_by k) B)
  behind i B g = behind_types (head_masks below (taken (rename_type (shift_by zero) X)) k A) (taken (rename_type (shift_by zero) X)) k A (free_variables V) refl i B (subst (λ L. TypeAt L i B) (sym (free_context_is V)) g)

  zeros : (j n : ℕ) → j + n ≡ j + (0 + n)
  zeros j n = omega arith

  values_under : AreValuesUnder V k (context_metavariables Cx) (context_filling Cx φ) (after ρ σ)
  values_under i B g =
      let Y : LfType = rename_type (shift_by k) B in
      let at_i : TypeAt Cx (i + k) Y = behind i B g in
      let (N, p) = terms Σ Σ' w first C θ σ r F ρ back hw sc below s x X at fams args h0 T e h U A offer K of_family φ m (i + k) Y at_i in
      let y : skeleton Y ≡ skeleton B = skeleton_renamed (shift_by k) B in
      (open_type zero Y, N, ap open_some (looked_up Cx (i + k) Y at_i), skeleton_open zero Y ∙ y, sym (ap φ (zeros i k) ∙ m.keeps i) ∙ p ∙ ap (λ a. put a N) y, ap (λ z. Rattle.lf_numbered.proofs.NumberedSplitsSolution.value_of z (φ (i + k))) (looked_up Cx (i + k) Y at_i) ∙ ap (λ z. Some (as_term (skeleton Y) z)) p)

  there : Solved Σe (numbered_store below C x X h U A K) after0
  there = solved_there Σ Σ' w first C θ σ r F ρ back hw sc below s x X at fams args h0 T e h U A offer K of_family φ m after0 d

  pub answer : AnswerInstance Σe w first θ f ν V k (after ρ σ) (solved_numbered C (arguments_count A) after0 d.well_formed.order) (context_metavariables Cx) after0 d.well_formed.order (context_filling Cx φ)
  unfolding there solved_there solved_extended well_formed_extended
  answer = answer_is_instance Σe Σ' ok W W S G w first C.blocks θ V F f ν (own_terms first C.blocks) (blocks_more Σ₁ Σe (types_more Σ Σ' w first C θ σ r) r.extends.kinds_stay W V (own_terms first C.blocks) C.blocks r.variables.blocks) (after ρ σ) keeps reads are_instances (numbered_store below C x X h U A K) after0 (ready_there Σ Σ' w first C θ σ r F ρ back hw sc below s x X at fams args h0 T e h U A offer K of_family) there (context_filling Cx φ) (written_solution Σ Σ' w first C θ σ r F ρ back hw sc below s x X at fams args h0 T e h U A offer K of_family φ m) (written_values_own Σ Σ' w first C θ σ r F ρ back hw sc below s x X at fams args h0 T e h U A offer K of_family φ m h1 U1 written) k values_under (solved_numbered C (arguments_count A) after0 d.well_formed.order) refl refl (values_more Σ₁ Σe (types_more Σ Σ' w first C θ σ r) r.extends.kinds_stay V (solved_numbered C (arguments_count A) after0 d.well_formed.order).variables (λ i. answer_values after0 d.well_formed.order (i + arguments_count A)) answered_typed) read_off_typed.variables.on_own_terms

  -- the values of the case are those of the case that is read off, with the answer's put in
  pub same_values : (i : ℕ) (B : LfType) → TypeAt V i B → as_term (skeleton B) (σ i) ≡ value_in first (solved_numbered C (arguments_count A) after0 d.well_formed.order) θ answer.values_of (as_term (skeleton B) (answer_values after0 d.well_formed.order (i + arguments_count A)))
  same_values i B g =
      let (Y, N, q, y, p, z) = values_under i B g in
      let (M, n, t) = answer.same (i + k) Y N q z in
      let (N0, p0) = value_is_term Σ' G (entry_reading first (blocks_of C.blocks) θ) V σ r.is_instance.values i B g in
      let t0 : HasType Σ' G N0 (type_in first C θ σ B) = (subst (λ u. ImageHasType Σ' G u (type_in first C θ σ B)) p0 (values_typed Σ' r.extends.ok G first (blocks_of C.blocks) θ V σ r.is_instance.values i B g)).1 in
      let w0 : N ≡ substitute reduce ρ N0 = put_same (sym p ∙ ap (substitute_image ρ) p0) in
      let a : skeletons_of after0.metavariables (i + k) ≡ skeleton B = ap skeleton_or_default (d.keeps.grows (i + k) Y q) ∙ y in
      let α : answer_values after0 d.well_formed.order (i + k) ≡ put (skeleton B) M = ap (answer_image (skeletons_of after0.metavariables (i + k))) n ∙ ap (λ b. put b M) a in
      ap (as_term (skeleton B)) p0
      ∙ sym (term_back Σ Σ' w first C θ σ r F ρ back hw N0 (type_in first C θ σ B) t0)
      ∙ ap (λ R. rename ν (read f R)) (sym w0)
      ∙ sym t
      ∙ ap (λ u. value_in first (solved_numbered C (arguments_count A) after0 d.well_formed.order) θ answer.values_of (as_term (skeleton B) u)) (sym α)
