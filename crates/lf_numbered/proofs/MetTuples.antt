-- A tuple that a case holds and a pattern has, at a place of the pattern beside the case: it is a typed unifier of the
-- store there.
use Rattle.std.proofs.Common.{suc, ap₂, ◌+◌, ◌≡◌, ◌≤◌, ℕ, zero, List, [], ◌∷◌, length, refl, sym, ap, ◌∙◌, subst, arith, inl, inr}
use Rattle.std.specs.Prelude.{Bool, true, false, cond, Some, ◌⊎◌}
use Rattle.lf.specs.Syntax.{Term, Spine, LfType, Kind, rename_type}
use Rattle.lf.specs.Substitution.{Image, keep, substitute_type, reduce, substitute_image}
use Rattle.lf.specs.AtOnce.{shift_by, lift_renaming_by}
use Rattle.lf.specs.Entries.{quantifiers}
use Rattle.lf.specs.Typing.{Signature, IsTypedSubstitution, IsSignature}
use Rattle.lf.specs.Variables.{binders, nothing, onto, target_arguments}
use Rattle.lf.specs.Subordination.{Block, Member}
use Rattle.lf.specs.Worlds.{World}
use Rattle.lf.specs.Extension.{Extends}
use Rattle.lf.proofs.Checker.{number_itself}
use Rattle.lf.proofs.TypeLaws.{skeleton_renamed}
use Rattle.lf_unification.specs.Offering.{local_arguments}
use Rattle.lf_checks.specs.Clause.{Clause, among, constant_clause, entry_clause, scope}
use Rattle.lf_checks.specs.Ground.{UsesGoal}
use Rattle.lf_checks.specs.Marks.{SamePlaces}
use Rattle.lf_cases.specs.Case.{as_term, covered_places}
use Rattle.lf_cases.specs.Cover.{AgreesOutside, InstanceIn, before}
use Rattle.lf_cases.specs.Pattern.{Origin, of_constant, of_entry, Pattern, given_at, is_given}
use Rattle.lf_cases.proofs.OutputItems.{length_renumber}
use Rattle.lf_coverage.specs.Leaf.{IsTypedPattern}
use Rattle.lf_coverage.proofs.Forms.{far_type}
use Rattle.lf_coverage.proofs.ItemsContext.{outer_context}
use Rattle.lf_coverage.proofs.Parts.{none_some, some_same}
use Rattle.lf_coverage.proofs.SameInstance.{instance_unique}
use Rattle.lf_numbered.specs.EntryConstants.{with_entries, IsFreeFrom}
use Rattle.lf_numbered.specs.EntryPatterns.{variable_images}
use Rattle.lf_numbered.specs.MeetsAnswers.{HasUnifier, entries_at}
use Rattle.lf_numbered.specs.MeetsTuple.{SharesTuple}
use Rattle.lf_numbered.specs.MetEquations.{IsEntryAt, IsMadeOf, IsWrittenFrom, StandingTupleHasUnifier, StandingTupleSolvesLeft, UnsolvedLeftHasNoTuple}
use Rattle.lf_numbered.specs.NewBlock.{rename_all, with_new_block}
use Rattle.lf_numbered.specs.NewInstance.{with_instance}
use Rattle.lf_numbered.specs.NumberedCalls.{IsHeadFor, IsSubgoalFor, NumberedMatchedNeeds}
use Rattle.lf_numbered.specs.NumberedCallsStores.{IsPutBeside, constant_beside, entry_beside, new_beside, identified, meet_store_by_number}
use Rattle.lf_numbered.specs.NumberedCase.{NumberedCase}
use Rattle.lf_numbered.specs.NumberedInstance.{block_at, moved_constant, move_spine, move_types}
use Rattle.lf_numbered.specs.OwnTerms.{BlockVariable, blocks_of}
use Rattle.lf_numbered.specs.TypedNumbered.{IsTypedNumberedCase}
use Rattle.lf_numbered.specs.WritingRoom.{move_image}
use Rattle.lf_numbered.proofs.EntryPatternsSplits.{new_block_holds_as}
use Rattle.lf_numbered.proofs.EntryTermsBesideGiven.{beside_with_all_tried}
use Rattle.lf_numbered.proofs.IdentifiedNewBlock.{new_at, same_identified}
use Rattle.lf_numbered.proofs.MeetsTupleCase.{instance_here, typed_here}
use Rattle.lf_numbered.proofs.MeetsTupleEntries.{IsBeside, entry_unifier}
use Rattle.lf_numbered.proofs.MeetsTupleFront.{outer_values, placed}
use Rattle.lf_numbered.proofs.MeetsTupleNew.{one_new}
use Rattle.lf_numbered.proofs.MeetsTuplePlaces.{given_same}
use Rattle.lf_numbered.proofs.MeetsTupleRoom.{in_worlds}
use Rattle.lf_numbered.proofs.MeetsTupleWriting.{AreOne}
use Rattle.lf_numbered.proofs.MetLeft.{unifier_solves_left}
use Rattle.lf_numbered.proofs.MetPlaces.{some_entry}
use Rattle.lf_numbered.proofs.MovedConstants.{blocks_stay, locals_moved, moved_from, length_moved}
use Rattle.lf_numbered.proofs.NewInstance.{new_instance_is_of_new_block}
use Rattle.lf_numbered.proofs.NumberedSplits.{places_renamed}
use Rattle.lf_numbered.proofs.OwnStoresNewBlock.{new_block_stays_typed}
use Rattle.lf_numbered.proofs.RenamedBlocks.{moved_length}

no : false ≡ true → ⊥
no z = cc

none_given : (j : ℕ) (M : Term) → given_at [] j ≡ Some M → ⊥
none_given j M z = none_some z

-- two instances with one variable for an entry are one
same_instance : (Σ : Signature) {W : List Block} {S : ℕ → Bool} {G : List LfType} (w : World Σ W S G) (B D : Block) (φ ψ : ℕ → Image) → InstanceIn w B φ → InstanceIn w D ψ → (v : ℕ) → among B.entries zero ≡ true → D ≡ B → φ zero ≡ keep v → ψ zero ≡ keep v → φ ≡ ψ
same_instance Σ w B D φ ψ i j v a q y z = sym (instance_unique Σ w B D φ ψ i j zero zero v a (ap (λ (E : Block). among E.entries zero) q ∙ a) y z).1

onto_count : (O X : List LfType) → length (onto O X) ≡ length O + length X
onto_count [] X = none (length X)
  where
    none : (n : ℕ) → n ≡ 0 + n
    none n = omega arith
onto_count (A ∷ O) X = ap suc (onto_count O X) ∙ next (length O) (length X)
  where
    next : (m n : ℕ) → suc (m + n) ≡ suc m + n
    next m n = omega arith

sums : (m n k k' l : ℕ) → k' ≡ k → l ≡ m + k' → (m + n) + k ≡ n + l
sums m n k k' l e f = omega (arith, e, f)

module _ (Σ : Signature) (ok : IsSignature Σ) (W : List Block) (first : ℕ) (free : IsFreeFrom Σ first) (C : NumberedCase) (tc : IsTypedNumberedCase Σ first W C) where
  -- A constant's pattern
  constant_unifier : (U P : LfType) (b : Bool) → IsBeside Σ first C (record { clause = constant_clause U; origin = of_constant U; type = P; at_first = b }) → IsTypedPattern Σ (record { clause = constant_clause U; origin = of_constant U; type = P; at_first = b }) → length C.local ≡ length (binders [] P) → (K : Kind) (t : SharesTuple Σ first C (record { clause = constant_clause U; origin = of_constant U; type = P; at_first = b })) (π : ℕ → ℕ) → AreOne C t.holds.instances π → (u : HasUnifier (entries_at Σ first (identified first π C)) (meet_store_by_number π (identified first π C) (record { clause = constant_clause U; origin = of_constant U; type = P; at_first = b }) keep K)) × IsWrittenFrom u.signature u.context u.filling t.context C.variables t.holds.values (quantifiers U) t.has.used (scope (constant_clause U)) t.has.values (quantifiers U)
  constant_unifier U P b beside tp l K t π one =
      let p : Pattern = record { clause = constant_clause U; origin = of_constant U; type = P; at_first = b } in
      let tcV : IsTypedNumberedCase Σ first t.worlds C = typed_here Σ W t.worlds first C tc t.world t.holds.instances t.holds.values t.holds.is_ground in
      let tφ : IsTypedSubstitution (with_entries Σ first (blocks_of C.blocks)) [] C.variables keep = λ i A g. absurd g in
      let (Σf, x, H, β, u, made) = placed Σ t.extension ok t.worlds t.typed first free C tcV t.set t.extends t.world t.holds.instances t.holds.values t.holds.is_ground π one K t.tuple t.holds.has_arguments p tp l t.has.used t.has.values t.has.typed t.has.uses t.has.same keep tφ (beside.values keep refl tφ) (λ k X g. absurd g) beside.own (given_same Σ first C p t) in
      (record { signature = Σf; extends = subst (λ Bs. Extends nothing (with_entries Σ first Bs) Σf) (sym (blocks_stay _ C.blocks)) x; context = H; filling = β; solves = u }, made)

  -- An entry's
  module _ (B : Block) (later : List LfType) (E : LfType) (es : List LfType) (e : onto later (E ∷ es) ≡ B.entries) (P : LfType) (b : Bool) (beside : IsBeside Σ first C (record { clause = entry_clause B es E; origin = of_entry B later E es e; type = P; at_first = b })) (tp : IsTypedPattern Σ (record { clause = entry_clause B es E; origin = of_entry B later E es e; type = P; at_first = b })) (l : length C.local ≡ length (binders [] P)) (K : Kind) (t : SharesTuple Σ first C (record { clause = entry_clause B es E; origin = of_entry B later E es e; type = P; at_first = b })) (π : ℕ → ℕ) (one : AreOne C t.holds.instances π) (below : (k : ℕ) → π k ≤ k) where
    abbrev p : Pattern
    p = record { clause = entry_clause B es E; origin = of_entry B later E es e; type = P; at_first = b }

    abbrev V : List Block
    V = t.worlds

    abbrev θ : ℕ → ℕ → Image
    θ = t.holds.instances

    abbrev σ : ℕ → Image
    σ = t.holds.values

    abbrev γ : ℕ → ℕ
    γ = moved_constant first (blocks_of C.blocks) (blocks_of C.blocks) π

    abbrev AtWith : List LfType → (ℕ → Image) → NumberedCase → (ℕ → Image) → Type 0
    AtWith X υ J φ = (u : HasUnifier (entries_at Σ first J) (meet_store_by_number π J p φ K)) × IsWrittenFrom u.signature u.context u.filling t.context X υ (quantifiers E) t.has.used (scope (entry_clause B es E)) t.has.values (quantifiers E)

    abbrev At : NumberedCase → (ℕ → Image) → Type 0
    At J φ = AtWith C.variables σ J φ

    tcV : IsTypedNumberedCase Σ first V C
    tcV = typed_here Σ W V first C tc t.world θ σ t.holds.is_ground

    agrees_with : (ψ : ℕ → Image) → t.has.outer ≡ before later ψ → AgreesOutside (entry_clause B es E) t.has.values (before later ψ)
    agrees_with ψ q k X g = t.has.agrees k X g ∙ ap (λ f. f k) q

    -- that of a block variable of the case, which stays itself
    old_unifier : (k : ℕ) (U : Spine) → block_at (identified first π C).blocks k ≡ Some (record { block = B; terms = U }) → π k ≡ k → (b ≡ true → k ≡ π zero) → t.has.outer ≡ before later (θ k) → At (identified first π C) (before later (variable_images first (identified first π C).blocks k B U))
    old_unifier k U at fixed h q =
        let (d, from, r) = moved_from γ C.blocks k (record { block = B; terms = U }) at in
        let there : block_at C.blocks k ≡ Some (record { block = B; terms = d.terms }) = from ∙ ap (λ D. Some (record { block = D; terms = d.terms })) (sym (ap (λ (x : BlockVariable). x.block) r)) in
        subst (λ Z. At (identified first π C) (before later (variable_images first (identified first π C).blocks k B Z))) (sym (ap (λ (x : BlockVariable). x.terms) r)) (entry_unifier Σ t.extension ok V t.typed first free C tcV t.set t.extends t.world θ σ t.holds.is_ground π one K t.tuple t.holds.has_arguments B later E es e P b tp l k d.terms there fixed (λ z. least k (below zero) (h z)) beside t.has.used t.has.values t.has.typed t.has.uses t.has.same (agrees_with (θ k) q) (given_same Σ first C p t))
      where
        least : (k : ℕ) → π zero ≤ zero → k ≡ π zero → k ≡ zero
        least k m z = omega (arith, m, z)

    -- that of a new one
    new_unifier : (U : Spine) → b ≡ false → π (length (identified first π C).blocks) ≡ length (identified first π C).blocks → block_at (with_new_block B (identified first π C)).blocks (length (identified first π C).blocks) ≡ Some (record { block = B; terms = U }) → (ψ : ℕ → Image) → InstanceIn t.world B ψ → t.has.outer ≡ before later ψ → ((k : ℕ) (d : BlockVariable) → block_at C.blocks k ≡ Some d → d.block ≡ B → θ k ≡ ψ → ⊥) → (u : HasUnifier (entries_at Σ first (with_new_block B (identified first π C))) (meet_store_by_number π (with_new_block B (identified first π C)) p (before later (variable_images first (with_new_block B (identified first π C)).blocks (length (identified first π C).blocks) B U)) K)) × IsWrittenFrom u.signature u.context u.filling t.context C.variables σ (length B.some + quantifiers E) t.has.used (scope (entry_clause B es E)) t.has.values (quantifiers E)
    new_unifier U f fixed at ψ i q apart =
        let n : ℕ = length C.blocks in
        let none : C.given ≡ [] = beside.none_new f in
        let member : Member B t.worlds = in_worlds t.world B ψ i in
        let θ₂ : ℕ → ℕ → Image = with_instance (length C.blocks) ψ θ in
        let (ρ, inst, old) = new_instance_is_of_new_block Σ t.extension ok t.set t.extends V t.typed first free C tcV.variables t.context t.world θ σ t.holds.is_ground B member ψ i in
        let td : IsTypedNumberedCase Σ first V (with_new_block B C) = new_block_stays_typed Σ ok V t.typed first free C tcV B member in
        let count : length C.blocks ≡ length (identified first π C).blocks = sym (moved_length γ C.blocks) in
        let stays : π (length C.blocks) ≡ length C.blocks = ap π count ∙ fixed ∙ sym count in
        let one₂ : AreOne (with_new_block B C) (with_instance (length C.blocks) ψ θ) π = one_new first C B π one.identifies below stays θ ψ one (λ k d z r v a y w. apart k d z r (same_instance t.extension t.world d.block B (θ k) ψ (instance_here t.world first C θ σ t.holds.is_ground k d z) i v a (sym r) y w)) in
        let held = (new_block_holds_as Σ t.extension ok t.set t.extends V t.typed first free C tcV B member t.context t.world θ σ t.holds.is_ground ψ ρ i inst old).arguments t.tuple t.holds.has_arguments in
        let places : covered_places C.arguments ≡ covered_places (with_new_block B C).arguments = sym (places_renamed (lift_renaming_by (length C.local) (shift_by (length B.some))) C.arguments) in
        let nothing_there : (with_new_block B C).given ≡ [] = ap (rename_all (shift_by (length B.some))) none in
        let last : θ₂ n ≡ ψ = ap (λ z. cond z ψ (θ n)) (number_itself n) in
        let beside₂ : IsBeside Σ first (with_new_block B C) p = record {
          values = λ φ z y. outer_values (with_entries Σ first (blocks_of (with_new_block B C).blocks)) (with_new_block B C) p (with_new_block B C).variables nothing_there φ y;
          own = λ j z. absurd (no (subst (λ Ms. is_given Ms j ≡ true) nothing_there z));
          none_new = λ z. nothing_there;
        } in
        let δ : ℕ → ℕ = moved_constant first (blocks_of (with_new_block B C).blocks) (blocks_of (with_new_block B C).blocks) π in
        let u : AtWith (with_new_block B C).variables ρ (identified first π (with_new_block B C)) (before later (variable_images first (identified first π (with_new_block B C)).blocks n B (move_spine δ (local_arguments B.some)))) = entry_unifier Σ t.extension ok V t.typed first free (with_new_block B C) td t.set t.extends t.world θ₂ ρ inst π one₂ K t.tuple held B later E es e P b tp (length_renumber (shift_by (length B.some)) C.local ∙ l) n (local_arguments B.some) (new_at B C) stays (λ r. absurd (no (sym f ∙ r))) beside₂ t.has.used t.has.values t.has.typed (subst (λ c. UsesGoal t.has.used c P) places t.has.uses) (subst (λ c. SamePlaces c t.tuple (target_arguments (substitute_type reduce t.has.values P))) places t.has.same) (agrees_with (θ₂ n) (q ∙ ap (before later) (sym last))) (λ j M v z. absurd (none_given j M (subst (λ Ms. given_at Ms j ≡ Some M) nothing_there z))) in
        let u₂ : AtWith (with_new_block B C).variables ρ (with_new_block B (identified first π C)) (before later (variable_images first (with_new_block B (identified first π C)).blocks n B (move_spine δ (local_arguments B.some)))) = subst (λ J. AtWith (with_new_block B C).variables ρ J (before later (variable_images first J.blocks n B (move_spine δ (local_arguments B.some))))) (same_identified first C B π one.identifies stays Σ free (outer_context Σ B.entries B.some (t.typed B member))) u in
        let terms : local_arguments B.some ≡ U = ap (λ (x : BlockVariable). x.terms) (some_same (sym (new_at B (identified first π C)) ∙ at)) in
        let (v, made) : AtWith (with_new_block B C).variables ρ (with_new_block B (identified first π C)) (before later (variable_images first (with_new_block B (identified first π C)).blocks (length (identified first π C).blocks) B U)) = subst (λ k. AtWith (with_new_block B C).variables ρ (with_new_block B (identified first π C)) (before later (variable_images first (with_new_block B (identified first π C)).blocks k B U))) count (subst (λ Z. AtWith (with_new_block B C).variables ρ (with_new_block B (identified first π C)) (before later (variable_images first (with_new_block B (identified first π C)).blocks n B Z))) (locals_moved δ B.some ∙ terms) u₂) in
        (v, record { moves = made.moves; writes = made.writes; typed = made.typed; same = λ i A g. ap v.filling (sum i (length B.some) (quantifiers E)) ∙ made.same (i + length B.some) (rename_type (shift_by (length B.some)) A) (far_type B.some C.variables i A g) ∙ ap₂ (λ a y. Some (as_term a (substitute_image made.writes (move_image made.moves y)))) (skeleton_renamed (shift_by (length B.some)) A) (old i); own = made.own })
      where
        sum : (i m n : ℕ) → i + (m + n) ≡ (i + m) + n
        sum i m n = omega arith

  -- at each place
  unifier_at : {c : Clause} {o : Origin c} (P : LfType) (b : Bool) → IsBeside Σ first C (record { clause = c; origin = o; type = P; at_first = b }) → IsTypedPattern Σ (record { clause = c; origin = o; type = P; at_first = b }) → length C.local ≡ length (binders [] P) → (K : Kind) (t : SharesTuple Σ first C (record { clause = c; origin = o; type = P; at_first = b })) (π : ℕ → ℕ) → AreOne C t.holds.instances π → ((k : ℕ) → π k ≤ k) → {J : NumberedCase} {φ : ℕ → Image} (y : IsPutBeside first (identified first π C) π b c o J φ) → IsEntryAt t.world C t.holds.instances t.has.outer y → (u : HasUnifier (entries_at Σ first J) (meet_store_by_number π J (record { clause = c; origin = o; type = P; at_first = b }) φ K)) × IsMadeOf t J u.signature u.context u.filling
  unifier_at P b beside tp l K t π one below (constant_beside U) q = let (u, made) = constant_unifier U P b beside tp l K t π one in (u, (quantifiers U, ap (λ n. quantifiers U + n) (sym (length_moved (moved_constant first (blocks_of C.blocks) (blocks_of C.blocks) π) C.variables)), made))
  unifier_at P b beside tp l K t π one below (entry_beside B later E es e k U at fixed h) q = let (u, made) = old_unifier B later E es e P b beside tp l K t π one below k U at fixed h q in (u, (quantifiers E, ap (λ n. quantifiers E + n) (sym (length_moved (moved_constant first (blocks_of C.blocks) (blocks_of C.blocks) π) C.variables)), made))
  unifier_at P b beside tp l K t π one below (new_beside B later E es e U f fixed at) (ψ, i, q, apart) = let (u, made) = new_unifier B later E es e P b beside tp l K t π one below U f fixed at ψ i q apart in (u, (length B.some + quantifiers E, sums (length B.some) (quantifiers E) (length C.variables) (length (move_types (moved_constant first (blocks_of C.blocks) (blocks_of C.blocks) π) C.variables)) (length (onto B.some (move_types (moved_constant first (blocks_of C.blocks) (blocks_of C.blocks) π) C.variables))) (length_moved (moved_constant first (blocks_of C.blocks) (blocks_of C.blocks) π) C.variables) (onto_count B.some (move_types (moved_constant first (blocks_of C.blocks) (blocks_of C.blocks) π) C.variables)), made))

-- what is known of the clause beside the case, where it has what is needed
needed_beside : (Σ : Signature) (first : ℕ) (W : List Block) (C : NumberedCase) (p : Pattern) → NumberedMatchedNeeds Σ first W C p → IsBeside Σ first C p
needed_beside Σ first W C p n = by n.pattern.beside
  where
    by : IsHeadFor Σ first C p ⊎ IsSubgoalFor Σ first W C p → IsBeside Σ first C p
    by (inl h) = record { values = λ φ t y. outer_values (with_entries Σ first (blocks_of C.blocks)) C p C.variables h.none_given φ y; own = n.pattern.given_own; none_new = λ f. h.none_given }
    by (inr g) = record { values = λ φ t y. (beside_with_all_tried Σ n.setting.signature W n.setting.blocks first n.setting.free C p n.pattern.typed g.at_first g.typed_beside n.pattern.given_own φ t).given; own = n.pattern.given_own; none_new = λ z. absurd (no (sym z ∙ g.at_first)) }

pub standing_tuple_has_unifier : StandingTupleHasUnifier
standing_tuple_has_unifier Σ first W C p n K t π J φ x s = unifier_at Σ n.setting.signature W first n.setting.free C n.case p.type p.at_first (needed_beside Σ first W C p n) n.pattern.typed n.pattern.same_length K t π one x.oldest x.beside s.entry
  where
    here : (k : ℕ) (b : BlockVariable) → block_at C.blocks k ≡ Some b → InstanceIn t.world b.block (t.holds.instances k)
    here = instance_here t.world first C t.holds.instances t.holds.values t.holds.is_ground

    one : AreOne C t.holds.instances π
    one = record {
      identifies = x.identifies;
      same = s.same;
      only = λ j k b c e f a q v y z. s.only j k b c e f (some_entry b.block.entries a) q (same_instance t.extension t.world b.block c.block (t.holds.instances j) (t.holds.instances k) (here j b e) (here k c f) v a q y z);
    }

pub standing_tuple_solves_left : StandingTupleSolvesLeft
standing_tuple_solves_left Σ first W C p n K kd t π J φ x s after l =
    let (u, made) = standing_tuple_has_unifier Σ first W C p n K t π J φ x s in
    (u, made, unifier_solves_left Σ first W C p n K kd π J φ x after l u)

pub unsolved_left_has_no_tuple : UnsolvedLeftHasNoTuple
unsolved_left_has_no_tuple Σ first W C p n K kd t π J φ x after l never s =
    let (u, made, v) = standing_tuple_solves_left Σ first W C p n K kd t π J φ x s after l in
    never u.signature u.extends u.context v.filling v.solves
