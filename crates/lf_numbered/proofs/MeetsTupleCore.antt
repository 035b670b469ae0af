-- In whatever extension and context: a tuple that a case holds and a pattern has is a typed unifier of their store, over a signature with the case's entries.
use Rattle.std.proofs.Common.{◌≡◌, ◌<◌, ℕ, zero, ◌+◌, List, [], length, refl, sym, ap, ◌∙◌, subst}
use Rattle.std.specs.Prelude.{Bool, true, Option, Some, None}
use Rattle.lf.specs.Syntax.{Term, Spine, LfType, Kind, Skeleton, skeleton}
use Rattle.lf.specs.Substitution.{Image, keep, put, substitute, substitute_image, substitute_type, reduce, after}
use Rattle.lf.specs.Entries.{quantifiers}
use Rattle.lf.specs.SkeletonTyping.{ImageSkeleton, TermSkeleton}
use Rattle.lf.specs.Skeletons.{constant_skeletons, context_skeletons}
use Rattle.lf.specs.Typing.{Signature, TypeAt, ImageHasType, IsTypedSubstitution, IsType, IsContext, IsSignature}
use Rattle.lf.specs.Variables.{target_arguments, nothing, onto, binders, Values}
use Rattle.lf.specs.Subordination.{Block, AreTypedBlocks}
use Rattle.lf.specs.Worlds.{World, lift_over}
use Rattle.lf.specs.Extension.{Extends}
use Rattle.lf.proofs.ToSkeletons.{typed_has_skeleton}
use Rattle.lf.proofs.TypeLaws.{skeleton_substituted}
use Rattle.lf.proofs.Weakening.{declared_is_type}
use Rattle.lf_unification.specs.Unifiers.{Solution}
use Rattle.lf_checks.specs.Ground.{UsesGoal}
use Rattle.lf_checks.specs.Marks.{SamePlaces}
use Rattle.lf_cases.specs.Case.{HasArguments, as_term, covered_places}
use Rattle.lf_cases.specs.Pattern.{given_at}
use Rattle.lf_numbered.specs.EntryConstants.{with_entries, IsFreeFrom}
use Rattle.lf_numbered.specs.MetEquations.{IsWrittenFrom}
use Rattle.lf_numbered.specs.NumberedArguments.{HasNumberedArguments, read_over, read_all}
use Rattle.lf_numbered.specs.NumberedCallsStores.{identified}
use Rattle.lf_numbered.specs.NumberedCase.{NumberedCase, IsNumberedInstance, value_in}
use Rattle.lf_numbered.specs.NumberedInstance.{moved_constant, move, move_spine, move_type, move_types}
use Rattle.lf_numbered.specs.Numbering.{entries_of}
use Rattle.lf_numbered.specs.OwnTerms.{blocks_of, own_terms, OnOwnTerms}
use Rattle.lf_numbered.specs.Reading.{read, entry_reading}
use Rattle.lf_numbered.specs.TypedNumbered.{IsTypedNumberedCase}
use Rattle.lf_numbered.specs.WritingRoom.{leave_room, move_image, past_gap}
use Rattle.lf_numbered.proofs.EntrySignature.{grown_image}
use Rattle.lf_numbered.proofs.EntryValues.{put_term}
use Rattle.lf_numbered.proofs.MeetsTupleForms.{store_form}
use Rattle.lf_numbered.proofs.MeetsTupleLike.{image_fits}
use Rattle.lf_numbered.proofs.MeetsTupleRoom.{places_turned, term_turned, tuple_turned}
use Rattle.lf_numbered.proofs.MeetsTupleStore.{unified}
use Rattle.lf_numbered.proofs.MeetsTupleWriting.{AreOne, written_as}
use Rattle.lf_numbered.proofs.MovedConstants.{arguments_moved}
use Rattle.lf_numbered.proofs.NumberedArguments.{skeleton_only}
use Rattle.lf_numbered.proofs.Reading.{IsOld}
use Rattle.lf_numbered.proofs.WritingGap.{term_moved}
use Rattle.lf_numbered.proofs.WritingInstance.{entries_extend, own_types}
use Rattle.lf_numbered.proofs.WritingMove.{moved_at, moved_image, skeleton_moved}
use Rattle.lf_numbered.proofs.WritingMoved.{read_stays, readings_moved}
use Rattle.lf_numbered.proofs.WritingRead.{term_written, writing_fits}
use Rattle.lf_numbered.proofs.WritingRoom.{kinds_moved, old_stays, put_moved, room_is_made, types_moved}

-- a moved image that is a variable was it
kept_back : (γ : ℕ → ℕ) (x : Image) (v : ℕ) → move_image γ x ≡ keep v → x ≡ keep v
kept_back γ (keep i) v e = e
kept_back γ (put a N) v e = absurd (no e)
  where
    no : put a (move γ N) ≡ keep v → ⊥
    no e = cc

one_turned : (γ : ℕ → ℕ) (C : NumberedCase) (θ : ℕ → ℕ → Image) (π : ℕ → ℕ) → AreOne C θ π → AreOne C (λ k i. move_image γ (θ k i)) π
one_turned γ C θ π one = record {
  identifies = one.identifies;
  same = λ k b e. ap (λ φ i. move_image γ (φ i)) (one.same k b e);
  only = λ j k b c e f a q v x y. one.only j k b c e f a q v (kept_back γ (θ j zero) v x) (kept_back γ (θ k zero) v y);
}

module _ (Σ Σ' : Signature) (ok : IsSignature Σ) (V : List Block) (typed : AreTypedBlocks Σ V) (first : ℕ) (free : IsFreeFrom Σ first) (C : NumberedCase) (tc : IsTypedNumberedCase Σ first V C) (S : ℕ → Bool) (x : Extends S Σ Σ') {G : List LfType} (w : World Σ' V S G) (θ : ℕ → ℕ → Image) (σ : ℕ → Image) (inst : IsNumberedInstance w first C θ σ) (π : ℕ → ℕ) (one : AreOne C θ π) (K : Kind) (T : Spine) (held : HasNumberedArguments first C θ σ T) where
  abbrev n : ℕ
  n = entries_of (blocks_of C.blocks)

  abbrev γ : ℕ → ℕ
  γ = past_gap first (entries_of (blocks_of C.blocks))

  abbrev δ : ℕ → ℕ
  δ = moved_constant first (blocks_of C.blocks) (blocks_of C.blocks) π

  abbrev Σ₁ : Signature
  Σ₁ = with_entries Σ first (blocks_of C.blocks)

  abbrev Σ₂ : Signature
  Σ₂ = leave_room first (entries_of (blocks_of C.blocks)) Σ'

  abbrev Σe : Signature
  Σe = with_entries (leave_room first (entries_of (blocks_of C.blocks)) Σ') first (blocks_of C.blocks)

  abbrev f : ℕ → Option (ℕ × ℕ)
  f = entry_reading first (blocks_of C.blocks) θ (length C.variables)

  abbrev θ₂ : ℕ → ℕ → Image
  θ₂ k j = move_image γ (θ k j)

  abbrev σ₂ : ℕ → Image
  σ₂ j = move_image γ (σ j)

  readings : entry_reading first (blocks_of C.blocks) θ₂ ≡ entry_reading first (blocks_of C.blocks) θ
  readings = readings_moved γ first (blocks_of C.blocks) θ

  stays : (c : ℕ) → IsOld Σ₁ c → f c ≡ None → γ c ≡ c
  stays c o q = read_stays Σ first (blocks_of C.blocks) θ γ (old_stays Σ Σ' ok S x V typed first n free) (length C.variables) c o q

  held₂ : HasArguments (lift_over C.local σ₂) (read_all (read_over C.local (entry_reading first (blocks_of C.blocks) θ₂ (length C.variables))) C.arguments) (move_spine γ T)
  held₂ = subst (λ k. HasArguments (lift_over C.local σ₂) (read_all (read_over C.local (k (length C.variables))) C.arguments) (move_spine γ T)) (sym readings) (tuple_turned γ (IsOld Σ₁) f stays C.local σ C.arguments T (constant_skeletons Σ₁) (context_skeletons (onto C.local C.variables)) (λ M s m. skeleton_only Σ₁ (context_skeletons (onto C.local C.variables)) M s m) tc.arguments held)

  value_turned : (N : Term) (t : Skeleton) → TermSkeleton (constant_skeletons Σ₁) (context_skeletons C.variables) N t → move γ (value_in first C θ σ N) ≡ value_in first C θ₂ σ₂ N
  value_turned N t s = term_turned γ (IsOld Σ₁) f stays [] σ N (skeleton_only Σ₁ (context_skeletons C.variables) N t s) ∙ ap (λ k. substitute reduce σ₂ (read (k (length C.variables)) N)) (sym readings)

  -- What is known of the clause's variables are terms of the case, on own terms; where the tuple's values count they are these.
  module _ (U P : LfType) (O : List LfType) (ct : IsContext Σ (onto (binders [] U) O)) (tp : IsType Σ (onto (binders [] U) O) P) (l : length C.local ≡ length (binders [] P)) (used : ℕ → Bool) (τ : ℕ → Image) (v : Values Σ' used (onto (binders [] U) O) G τ) (uses : UsesGoal used (covered_places C.arguments) P) (same : SamePlaces (covered_places C.arguments) T (target_arguments (substitute_type reduce τ P))) (known : ℕ → Bool) (g : ℕ → Image) (tg : Values (with_entries Σ first (blocks_of C.blocks)) known (onto (binders [] U) O) C.variables g) (all : (k : ℕ) → known (k + length (binders [] U)) ≡ true) (φ : ℕ → Image) (outer : (k : ℕ) → g (k + length (binders [] U)) ≡ φ k) (tφ : IsTypedSubstitution (with_entries Σ first (blocks_of C.blocks)) O C.variables φ) (terms : (i : ℕ) (X : LfType) → TypeAt (onto (binders [] U) O) i X → known i ≡ true → (N : Term) × (g i ≡ put (skeleton X) N) × OnOwnTerms (own_terms first C.blocks) N) (alike : (i : ℕ) (X : LfType) (N : Term) → TypeAt (onto (binders [] U) O) i X → used i ≡ true → known i ≡ true → g i ≡ put (skeleton X) N → as_term (skeleton X) (τ i) ≡ value_in first C θ σ N) (given : (i : ℕ) (M : Term) → given_at C.given i ≡ Some M → (i < length (binders [] U)) × (known i ≡ true) × (a : Skeleton) × (g i ≡ put a M)) where
    abbrev τ₂ : ℕ → Image
    τ₂ j = move_image γ (τ j)

    turned : (A : LfType) → IsType Σ (onto (binders [] U) O) A → move_type γ (substitute_type reduce τ A) ≡ substitute_type reduce τ₂ A
    turned A a = put_moved Σ Σ' ok S x V typed first n free (onto (binders [] U) O) τ τ₂ A a refl

    v₂ : Values Σ₂ used (onto (binders [] U) O) (move_types γ G) τ₂
    v₂ = record {
      typed = λ j A k u. subst (ImageHasType Σ₂ (move_types γ G) (move_image γ (τ j))) (turned A (declared_is_type Σ ok (onto (binders [] U) O) j A ct k)) (moved_image γ Σ' Σ₂ (types_moved Σ Σ' ok S x V typed first n free) (kinds_moved Σ Σ' ok S x V typed first n free) G (τ j) (substitute_type reduce τ A) (v.typed j A k u));
      closed = v.closed;
    }

    same₂ : SamePlaces (covered_places C.arguments) (move_spine γ T) (target_arguments (substitute_type reduce τ₂ P))
    same₂ = subst (SamePlaces (covered_places C.arguments) (move_spine γ T)) (sym (arguments_moved γ (substitute_type reduce τ P)) ∙ ap target_arguments (turned P tp)) (places_turned γ (covered_places C.arguments) T (target_arguments (substitute_type reduce τ P)) same)

    pub met : (Σf : Signature) × Extends nothing (with_entries Σ first (blocks_of C.blocks)) Σf × (H : List LfType) × (β : ℕ → Option Term) × Solution Σf [] (store_form π (identified first π C) K (binders (identified first π C).variables (substitute_type reduce (λ k. move_image δ (φ k)) U)) (quantifiers U) (length (binders [] (substitute_type reduce (lift_over (binders [] U) (λ k. move_image δ (φ k))) P))) (length (identified first π C).local) (substitute_type reduce (lift_over (binders [] U) (λ k. move_image δ (φ k))) P)) H β × IsWrittenFrom Σf H β G C.variables σ (quantifiers U) used (onto (binders [] U) O) τ (length (binders [] U))
    met =
        let (u, r, apart) = room_is_made Σ Σ' ok S x V typed first free C tc.variables G w θ σ inst in
        let one₂ : AreOne C θ₂ π = one_turned γ C θ π one in
        let (F, ρ, h) = written_as Σ Σ₂ u first C θ₂ σ₂ r π one₂ in
        let written : (i : ℕ) (X : LfType) → TypeAt (onto (binders [] U) O) i X → used i ≡ true → known i ≡ true → as_term (skeleton X) (substitute_image ρ (τ₂ i)) ≡ as_term (skeleton X) (substitute_image (after ρ σ₂) (move_image δ (g i))) = λ i X k m o.
        let (N, q, own) = terms i X k o in
        let t : ImageHasType Σ₁ C.variables (put (skeleton X) N) (substitute_type reduce g X) = subst (λ y. ImageHasType Σ₁ C.variables y (substitute_type reduce g X)) q (tg.typed i X k o) in
        let s : TermSkeleton (constant_skeletons Σ₁) (context_skeletons C.variables) N (skeleton (substitute_type reduce g X)) = typed_has_skeleton Σ₁ C.variables N (substitute_type reduce g X) t.1 in
        let fit : ImageSkeleton (constant_skeletons Σe) (context_skeletons (move_types γ G)) (τ₂ i) (skeleton X) = subst (ImageSkeleton (constant_skeletons Σe) (context_skeletons (move_types γ G)) (τ₂ i)) (skeleton_substituted reduce τ₂ X) (image_fits Σe (move_types γ G) (τ₂ i) (substitute_type reduce τ₂ X) (grown_image Σ₂ Σe (own_types Σ Σ₂ u first C θ₂ σ₂ r) (λ a L e. e) (move_types γ G) (τ₂ i) (substitute_type reduce τ₂ X) (v₂.typed i X k m))) in
        sym (put_term (constant_skeletons Σe) (context_skeletons (move_types γ G)) (context_skeletons F) ρ (writing_fits Σ Σ₂ u first C θ₂ σ₂ r F ρ h) (skeleton X) (τ₂ i) fit)
        ∙ ap (substitute reduce ρ) (sym (term_moved γ (skeleton X) (τ i)) ∙ ap (move γ) (alike i X N k m o q) ∙ value_turned N (skeleton (substitute_type reduce g X)) s)
        ∙ term_written Σ Σ₂ u first C θ₂ σ₂ r F ρ h N (skeleton (substitute_type reduce g X)) s own
        ∙ ap (λ y. as_term (skeleton X) (substitute_image (after ρ σ₂) (move_image δ y))) (sym q) in
        let (H, β, z, ξ, tξ, made, own) = unified Σ Σ₂ u first C θ₂ σ₂ r π one₂ tc F ρ h K (move_spine γ T) held₂ U P O ct tp l used τ₂ v₂ uses same₂ known g tg all φ outer tφ written given in
        (Σe, entries_extend Σ Σ₂ V S (move_types γ G) u first C θ₂ σ₂ r, H, β, z, record { moves = γ; writes = ξ; typed = tξ; same = λ i A t. made i (move_type δ A) (moved_at δ C.variables i A t) ∙ ap (λ a. Some (as_term a (substitute_image ξ (σ₂ i)))) (skeleton_moved δ A); own = own })
