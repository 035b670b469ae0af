-- Where an entry's pattern is put beside a case: by the instance that its tuple has for the entry's block.
use Rattle.std.proofs.Common.{◌≡◌, ◌≤◌, ℕ, zero, ◌+◌, List, [], ◌∷◌, length, refl, sym, ap, ◌∙◌, subst, arith}
use Rattle.std.specs.Prelude.{Bool, true, false, cond, Option, Some, None}
use Rattle.lf.specs.Syntax.{Term, LfType, Kind, Skeleton}
use Rattle.lf.specs.Substitution.{Image, keep, put, substitute_type, reduce}
use Rattle.lf.specs.AtOnce.{shift_by, lift_renaming_by}
use Rattle.lf.specs.Typing.{Signature, IsSignature}
use Rattle.lf.specs.Variables.{binders, onto, target_arguments}
use Rattle.lf.specs.Subordination.{Block, Member}
use Rattle.lf.proofs.Checker.{number_itself}
use Rattle.lf_unification.specs.Offering.{local_arguments}
use Rattle.lf_checks.specs.Clause.{among, entry_clause}
use Rattle.lf_checks.specs.Ground.{UsesGoal}
use Rattle.lf_checks.specs.Marks.{SamePlaces}
use Rattle.lf_cases.specs.Case.{covered_places}
use Rattle.lf_cases.specs.Cover.{AgreesOutside, InstanceIn, before}
use Rattle.lf_cases.specs.Pattern.{Pattern, of_entry, given_at, is_given}
use Rattle.lf_cases.proofs.OutputItems.{length_renumber}
use Rattle.lf_coverage.specs.Leaf.{IsTypedPattern}
use Rattle.lf_coverage.proofs.ItemsContext.{outer_context}
use Rattle.lf_coverage.proofs.Parts.{none_some}
use Rattle.lf_coverage.proofs.SameInstance.{instance_unique}
use Rattle.lf_numbered.specs.EntryConstants.{with_entries, IsFreeFrom}
use Rattle.lf_numbered.specs.EntryPatterns.{variable_images}
use Rattle.lf_numbered.specs.MeetsAnswers.{HasUnifier}
use Rattle.lf_numbered.specs.MeetsTuple.{MeetsAt, SharesTuple}
use Rattle.lf_numbered.specs.NewBlock.{rename_all, with_new_block}
use Rattle.lf_numbered.specs.NewInstance.{with_instance}
use Rattle.lf_numbered.specs.NumberedCallsStores.{entry_beside, new_beside, identified, meet_store_by_number}
use Rattle.lf_numbered.specs.NumberedCase.{NumberedCase, value_in}
use Rattle.lf_numbered.specs.NumberedInstance.{block_at, moved_constant, move_spine}
use Rattle.lf_numbered.specs.OwnTerms.{BlockVariable, blocks_of}
use Rattle.lf_numbered.specs.Reading.{read, entry_reading}
use Rattle.lf_numbered.specs.TypedNumbered.{IsTypedNumberedCase}
use Rattle.lf_numbered.proofs.EntryPatternsLeaf.{given_read}
use Rattle.lf_numbered.proofs.EntryPatternsSplits.{new_block_holds_as}
use Rattle.lf_numbered.proofs.IdentifiedNewBlock.{new_at, same_identified}
use Rattle.lf_numbered.proofs.MeetsTupleCase.{instance_here, typed_here}
use Rattle.lf_numbered.proofs.MeetsTupleEntries.{IsBeside, entry_unifier}
use Rattle.lf_numbered.proofs.MeetsTupleFront.{outer_values}
use Rattle.lf_numbered.proofs.MeetsTupleNew.{one_new}
use Rattle.lf_numbered.proofs.MeetsTupleRoom.{in_worlds}
use Rattle.lf_numbered.proofs.MeetsTupleTwins.{are_one, is_oldest, oldest_of, stays_beyond, stays_past}
use Rattle.lf_numbered.proofs.MeetsTupleWriting.{AreOne}
use Rattle.lf_numbered.proofs.MovedConstants.{locals_moved, moved_at}
use Rattle.lf_numbered.proofs.NewInstance.{new_instance_is_of_new_block}
use Rattle.lf_numbered.proofs.NumberedSplits.{places_renamed}
use Rattle.lf_numbered.proofs.OwnStoresNewBlock.{new_block_stays_typed}
use Rattle.lf_numbered.proofs.RenamedBlocks.{moved_length}
use Rattle.lf_numbered.proofs.WritingChoice.{choose, choice_sound, choice_complete}
use Rattle.lf_numbered.proofs.WritingInstance.{some_among}

put_same : {a b : Skeleton} {M N : Term} → put a M ≡ put b N → M ≡ N
put_same e = cc

past : (bs : List BlockVariable) → block_at bs (length bs) ≡ None
past [] = refl
past (b ∷ bs) = past bs

-- the values that a tuple has for given terms
pub given_same : (Σ : Signature) (first : ℕ) (C : NumberedCase) (p : Pattern) (s : SharesTuple Σ first C p) (i : ℕ) (M : Term) → s.has.used i ≡ true → given_at C.given i ≡ Some M → (a : Skeleton) × (s.has.values i ≡ put a (value_in first C s.holds.instances s.holds.values M))
given_same Σ first C p s i M u e =
    let f : ℕ → Option (ℕ × ℕ) = entry_reading first (blocks_of C.blocks) s.holds.instances (length C.variables) in
    let (a, b, N, q, r) = s.has.given i M u e in
    let (c, z) = s.holds.given i (read f M) (given_read f C.given i M e) in
    (a, q ∙ ap (put a) (put_same (sym r ∙ z)))

module _ (Σ : Signature) (ok : IsSignature Σ) (W : List Block) (first : ℕ) (free : IsFreeFrom Σ first) (C : NumberedCase) (tc : IsTypedNumberedCase Σ first W C) (B : Block) (later : List LfType) (E : LfType) (es : List LfType) (e : onto later (E ∷ es) ≡ B.entries) (P : LfType) (b : Bool) (tp : IsTypedPattern Σ (record { clause = entry_clause B es E; origin = of_entry B later E es e; type = P; at_first = b })) (l : length C.local ≡ length (binders [] P)) (K : Kind) (s : SharesTuple Σ first C (record { clause = entry_clause B es E; origin = of_entry B later E es e; type = P; at_first = b })) where
  abbrev p : Pattern
  p = record { clause = entry_clause B es E; origin = of_entry B later E es e; type = P; at_first = b }

  abbrev θ : ℕ → ℕ → Image
  θ = s.holds.instances

  abbrev σ : ℕ → Image
  σ = s.holds.values

  abbrev π : ℕ → ℕ
  π = oldest_of C s.holds.instances

  abbrev γ : ℕ → ℕ
  γ = moved_constant first (blocks_of C.blocks) (blocks_of C.blocks) π

  tcV : IsTypedNumberedCase Σ first s.worlds C
  tcV = typed_here Σ W s.worlds first C tc s.world θ σ s.holds.is_ground

  at_instance : (k : ℕ) (c : BlockVariable) → block_at C.blocks k ≡ Some c → InstanceIn s.world c.block (θ k)
  at_instance = instance_here s.world first C θ σ s.holds.is_ground

  one : AreOne C s.holds.instances (oldest_of C s.holds.instances)
  one = are_one C θ s.extension s.world at_instance

  agrees_with : (ψ : ℕ → Image) → s.has.outer ≡ before later ψ → AgreesOutside (entry_clause B es E) s.has.values (before later ψ)
  agrees_with ψ q k X g = s.has.agrees k X g ∙ ap (λ f. f k) q

  -- that of a block variable of the case
  pub at_old : IsBeside Σ first C p → (j : ℕ) (c : BlockVariable) → block_at C.blocks j ≡ Some c → c.block ≡ B → s.has.outer ≡ before later (θ j) → (b ≡ true → j ≡ zero) → MeetsAt Σ first C p K
  at_old beside j c at q o first_is =
      let (d, there, same, fixed) = one.identifies j c at in
      let there' : block_at C.blocks (π j) ≡ Some (record { block = B; terms = d.terms }) = there ∙ ap (λ D. Some (record { block = D; terms = d.terms })) (same ∙ q) in
      let outer : s.has.outer ≡ before later (θ (π j)) = o ∙ ap (before later) (sym (one.same j c at)) in
      record {
        numbers = π;
        case = identified first π C;
        outer = before later (variable_images first (identified first π C).blocks (π j) B (move_spine γ d.terms));
        place = record { identifies = one.identifies; oldest = is_oldest C θ; beside = entry_beside B later E es e (π j) (move_spine γ d.terms) (moved_at γ C.blocks (π j) (record { block = B; terms = d.terms }) there') fixed (λ r. ap π (first_is r)) };
        stays = stays_beyond C θ s.extension s.world at_instance;
        unifier = (entry_unifier Σ s.extension ok s.worlds s.typed first free C tcV s.set s.extends s.world θ σ s.holds.is_ground π one K s.tuple s.holds.has_arguments B later E es e P b tp l (π j) d.terms there' fixed (λ r. least (π j) j (is_oldest C θ j) (first_is r)) beside s.has.used s.has.values s.has.typed s.has.uses s.has.same (agrees_with (θ (π j)) outer) (given_same Σ first C p s)).0;
      }
    where
      least : (m j : ℕ) → m ≤ j → j ≡ zero → m ≡ zero
      least m j h q = omega (arith, h, q)

  -- that of a new one
  pub at_new : b ≡ false → C.given ≡ [] → (φ : ℕ → Image) → InstanceIn s.world B φ → s.has.outer ≡ before later φ → ((k : ℕ) (c : BlockVariable) → block_at C.blocks k ≡ Some c → c.block ≡ B → (v : ℕ) → among c.block.entries zero ≡ true → θ k zero ≡ keep v → φ zero ≡ keep v → ⊥) → MeetsAt Σ first C p K
  at_new f none φ i o apart =
      let V : List Block = s.worlds in
      let n : ℕ = length C.blocks in
      let member : Member B s.worlds = in_worlds s.world B φ i in
      let D : NumberedCase = with_new_block B C in
      let θ₂ : ℕ → ℕ → Image = with_instance (length C.blocks) φ θ in
      let (ρ, inst, old) = new_instance_is_of_new_block Σ s.extension ok s.set s.extends V s.typed first free C tcV.variables s.context s.world θ σ s.holds.is_ground B member φ i in
      let td : IsTypedNumberedCase Σ first s.worlds (with_new_block B C) = new_block_stays_typed Σ ok V s.typed first free C tcV B member in
      let stays : π n ≡ n = stays_past C θ s.extension s.world at_instance n (past C.blocks) in
      let cb = outer_context Σ B.entries B.some (s.typed B member) in
      let one₂ : AreOne (with_new_block B C) (with_instance (length C.blocks) φ θ) π = one_new first C B π one.identifies (is_oldest C θ) stays θ φ one apart in
      let held = (new_block_holds_as Σ s.extension ok s.set s.extends V s.typed first free C tcV B member s.context s.world θ σ s.holds.is_ground φ ρ i inst old).arguments s.tuple s.holds.has_arguments in
      let places : covered_places C.arguments ≡ covered_places (with_new_block B C).arguments = sym (places_renamed (lift_renaming_by (length C.local) (shift_by (length B.some))) C.arguments) in
      let nothing : (with_new_block B C).given ≡ [] = ap (rename_all (shift_by (length B.some))) none in
      let last : θ₂ n ≡ φ = ap (λ t. cond t φ (θ n)) (number_itself n) in
      let beside : IsBeside Σ first (with_new_block B C) p = record {
        values = λ ψ t y. outer_values (with_entries Σ first (blocks_of (with_new_block B C).blocks)) (with_new_block B C) p (with_new_block B C).variables nothing ψ y;
        own = λ j z. absurd (no (subst (λ Ms. is_given Ms j ≡ true) nothing z));
        none_new = λ z. nothing;
      } in
      let δ : ℕ → ℕ = moved_constant first (blocks_of (with_new_block B C).blocks) (blocks_of (with_new_block B C).blocks) π in
      let u : HasUnifier (with_entries Σ first (blocks_of (identified first π (with_new_block B C)).blocks)) (meet_store_by_number π (identified first π (with_new_block B C)) p (before later (variable_images first (identified first π (with_new_block B C)).blocks n B (move_spine δ (local_arguments B.some)))) K) = (entry_unifier Σ s.extension ok V s.typed first free (with_new_block B C) td s.set s.extends s.world θ₂ ρ inst π one₂ K s.tuple held B later E es e P b tp (length_renumber (shift_by (length B.some)) C.local ∙ l) n (local_arguments B.some) (new_at B C) stays (λ r. absurd (no (sym f ∙ r))) beside s.has.used s.has.values s.has.typed (subst (λ c. UsesGoal s.has.used c P) places s.has.uses) (subst (λ c. SamePlaces c s.tuple (target_arguments (substitute_type reduce s.has.values P))) places s.has.same) (agrees_with (θ₂ n) (o ∙ ap (before later) (sym last))) (λ j M v z. absurd (none_given j M (subst (λ Ms. given_at Ms j ≡ Some M) nothing z)))).0 in
      let J : NumberedCase = with_new_block B (identified first π C) in
      let u₂ : HasUnifier (with_entries Σ first (blocks_of (with_new_block B (identified first π C)).blocks)) (meet_store_by_number π (with_new_block B (identified first π C)) p (before later (variable_images first (with_new_block B (identified first π C)).blocks n B (move_spine δ (local_arguments B.some)))) K) = subst (λ J. HasUnifier (with_entries Σ first (blocks_of J.blocks)) (meet_store_by_number π J p (before later (variable_images first J.blocks n B (move_spine δ (local_arguments B.some)))) K)) (same_identified first C B π one.identifies stays Σ free cb) u in
      let count : n ≡ length (identified first π C).blocks = sym (moved_length γ C.blocks) in
      let u₃ : HasUnifier (with_entries Σ first (blocks_of (with_new_block B (identified first π C)).blocks)) (meet_store_by_number π (with_new_block B (identified first π C)) p (before later (variable_images first (with_new_block B (identified first π C)).blocks (length (identified first π C).blocks) B (local_arguments B.some))) K) = subst (λ k. HasUnifier (with_entries Σ first (blocks_of J.blocks)) (meet_store_by_number π J p (before later (variable_images first J.blocks k B (local_arguments B.some))) K)) count (subst (λ U. HasUnifier (with_entries Σ first (blocks_of J.blocks)) (meet_store_by_number π J p (before later (variable_images first J.blocks n B U)) K)) (locals_moved δ B.some) u₂) in
      record {
        numbers = π;
        case = with_new_block B (identified first π C);
        outer = before later (variable_images first (with_new_block B (identified first π C)).blocks (length (identified first π C).blocks) B (local_arguments B.some));
        place = record { identifies = one.identifies; oldest = is_oldest C θ; beside = new_beside B later E es e (local_arguments B.some) f (ap π (sym count) ∙ stays ∙ count) (new_at B (identified first π C)) };
        stays = stays_beyond C θ s.extension s.world at_instance;
        unifier = u₃;
      }
    where
      no : false ≡ true → ⊥
      no z = cc

      none_given : (j : ℕ) (M : Term) → given_at [] j ≡ Some M → ⊥
      none_given j M z = none_some z

  -- an instance of the entry's block
  pub at_any : IsBeside Σ first C p → b ≡ false → (φ : ℕ → Image) → InstanceIn s.world B φ → s.has.outer ≡ before later φ → MeetsAt Σ first C p K
  at_any beside f φ i o = by (choose θ zero first (blocks_of C.blocks) φ) refl
    where
      a : among B.entries zero ≡ true
      a = subst (λ ds. among ds zero ≡ true) e (some_among later E es)

      left : (j : ℕ) → zero + j ≡ j
      left j = omega arith

      no : false ≡ true → ⊥
      no z = cc

      by : (m : Option ℕ) → choose θ zero first (blocks_of C.blocks) φ ≡ m → MeetsAt Σ first C p K
      by None q = at_new f (beside.none_new f) φ i o (λ k c at r v a' x y. let (m, z) = choice_complete θ zero first C.blocks φ k v c at a' (ap (λ j. θ j zero) (left k) ∙ x) y in none_some (sym q ∙ z))
      by (Some m) q =
          let (j, c, h, a', v, x, y) = choice_sound θ zero first C.blocks φ m q in
          let (t, z) = instance_unique s.extension s.world c.block B (θ (zero + j)) φ (subst (λ k. InstanceIn s.world c.block (θ k)) (sym (left j)) (at_instance j c h.at)) i zero zero v a' a x y in
          at_old beside j c h.at (sym t) (o ∙ ap (before later) (z ∙ ap θ (left j))) (λ r. absurd (no (sym f ∙ r)))
