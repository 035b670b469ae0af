-- In whatever legal extension and context, of whatever worlds: the tuple, the case's instance and the pattern's values are moved to where there is room.
use Rattle.std.proofs.Common.{◌≡◌, ℕ, zero, suc, List, [], ◌∷◌, length, refl, sym, ap, ◌∙◌, subst, arith}
use Rattle.std.specs.Prelude.{Option, Some, ◌≤◌}
use Rattle.lf.specs.Syntax.{LfType}
use Rattle.lf.specs.Substitution.{Image, substitute_type, reduce}
use Rattle.lf.specs.Skeletons.{constant_skeletons, context_skeletons}
use Rattle.lf.specs.Typing.{Signature, ImageHasType, IsType}
use Rattle.lf.specs.Variables.{nothing, target_arguments, onto, Values}
use Rattle.lf.specs.Worlds.{lift_over}
use Rattle.lf.specs.Extension.{Extends}
use Rattle.lf.proofs.Weakening.{declared_is_type}
use Rattle.lf_unification.proofs.Runs.{run_refuted}
use Rattle.lf_checks.specs.Clause.{scope}
use Rattle.lf_checks.specs.Marks.{SamePlaces}
use Rattle.lf_cases.specs.Case.{HasArguments, covered_places}
use Rattle.lf_coverage.proofs.RefutedSplits.{run_in_extension}
use Rattle.lf_numbered.specs.EntryConstants.{with_entries}
use Rattle.lf_numbered.specs.NumberedArguments.{read_over, read_all}
use Rattle.lf_numbered.specs.NumberedCase.{AreTypedVariables}
use Rattle.lf_numbered.specs.NumberedInstance.{block_at, move_spine, move_type, move_types}
use Rattle.lf_numbered.specs.NumberedTuples.{apart_store, RefutedIsApartTuple, OneBlockIsApartTuple}
use Rattle.lf_numbered.specs.Numbering.{entries_of}
use Rattle.lf_numbered.specs.OwnTerms.{BlockVariable, blocks_of, own_terms}
use Rattle.lf_numbered.specs.Reading.{entry_reading}
use Rattle.lf_numbered.specs.TypedNumbered.{IsTypedNumberedCase}
use Rattle.lf_numbered.specs.WritingRoom.{leave_room, move_image, past_gap}
use Rattle.lf_numbered.proofs.MeetsTupleRoom.{blocks_here, places_turned, tuple_turned}
use Rattle.lf_numbered.proofs.MovedConstants.{arguments_moved}
use Rattle.lf_numbered.proofs.NumberedArguments.{skeleton_only}
use Rattle.lf_numbered.proofs.NumberedTuples.{of_pattern}
use Rattle.lf_numbered.proofs.Reading.{IsOld}
use Rattle.lf_numbered.proofs.WritingInstance.{entries_extend, instance_is_written}
use Rattle.lf_numbered.proofs.WritingMove.{moved_image}
use Rattle.lf_numbered.proofs.WritingMoved.{read_stays, readings_moved}
use Rattle.lf_numbered.proofs.WritingRoom.{kinds_moved, old_stays, put_moved, room_is_made, types_moved}

pub refuted_is_apart_tuple : RefutedIsApartTuple
refuted_is_apart_tuple Σ ok W first free C tc none p tp i l K ready f V typed S Σ' x G w F σ T h apart t =
    let n : ℕ = entries_of (blocks_of C.blocks) in
    let γ : ℕ → ℕ = past_gap first n in
    let Σ₁ : Signature = with_entries Σ first (blocks_of C.blocks) in
    let Σ₂ : Signature = leave_room first n Σ' in
    let Σe : Signature = with_entries (leave_room first n Σ') first (blocks_of C.blocks) in
    let g : ℕ → Option (ℕ × ℕ) = entry_reading first (blocks_of C.blocks) h.instances (length C.variables) in
    let tv : AreTypedVariables Σ first V C = record { variables = tc.variables.variables; on_own_terms = tc.variables.on_own_terms; blocks = blocks_here w Σ₁ W C.variables (own_terms first C.blocks) g h.values h.instances zero C.blocks tc.variables.blocks h.is_ground.instances } in
    let tc₂ : IsTypedNumberedCase Σ first V C = record { variables = tv; local = tc.local; local_on_own = tc.local_on_own; given = tc.given; given_on_own = tc.given_on_own; arguments = tc.arguments; arguments_on_own = tc.arguments_on_own } in
    let (v, r, stay) = room_is_made Σ Σ' ok S x V typed first free C tv G w h.instances h.values h.is_ground in
    let θ₂ : ℕ → ℕ → Image = λ k j. move_image γ (h.instances k j) in
    let σ₂ : ℕ → Image = λ j. move_image γ (h.values j) in
    let τ₂ : ℕ → Image = λ j. move_image γ (t.values j) in
    let (H, ρ, back, hw) = instance_is_written Σ Σ₂ V S (move_types γ G) v first C θ₂ σ₂ r (stay apart) in
    let old : (c : ℕ) → IsOld Σ c → γ c ≡ c = old_stays Σ Σ' ok S x V typed first n free in
    let held : HasArguments (lift_over C.local σ₂) (read_all (read_over C.local g) C.arguments) (move_spine γ T) = tuple_turned γ (IsOld Σ₁) g (λ c o q. read_stays Σ first (blocks_of C.blocks) h.instances γ old (length C.variables) c o q) C.local h.values C.arguments T (constant_skeletons Σ₁) (context_skeletons (onto C.local C.variables)) (λ M s m. skeleton_only Σ₁ (context_skeletons (onto C.local C.variables)) M s m) tc.arguments h.has_arguments in
    let held₂ : HasArguments (lift_over C.local σ₂) (read_all (read_over C.local (entry_reading first (blocks_of C.blocks) θ₂ (length C.variables))) C.arguments) (move_spine γ T) = subst (λ k. HasArguments (lift_over C.local σ₂) (read_all (read_over C.local (k (length C.variables))) C.arguments) (move_spine γ T)) (sym (readings_moved γ first (blocks_of C.blocks) h.instances)) held in
    let put : (A : LfType) → IsType Σ (scope p.clause) A → move_type γ (substitute_type reduce t.values A) ≡ substitute_type reduce τ₂ A = λ A a. put_moved Σ Σ' ok S x V typed first n free (scope p.clause) t.values τ₂ A a refl in
    let v₂ : Values Σ₂ t.used (scope p.clause) (move_types γ G) τ₂ = record {
      typed = λ j A k u. subst (ImageHasType Σ₂ (move_types γ G) (move_image γ (t.values j))) (put A (declared_is_type Σ ok (scope p.clause) j A tp.clause_typed k)) (moved_image γ Σ' Σ₂ (types_moved Σ Σ' ok S x V typed first n free) (kinds_moved Σ Σ' ok S x V typed first n free) G (t.values j) (substitute_type reduce t.values A) (t.typed.typed j A k u));
      closed = t.typed.closed;
    } in
    let same : SamePlaces (covered_places C.arguments) (move_spine γ T) (target_arguments (substitute_type reduce τ₂ p.type)) = subst (SamePlaces (covered_places C.arguments) (move_spine γ T)) (sym (arguments_moved γ (substitute_type reduce t.values p.type)) ∙ ap target_arguments (put p.type tp.type_typed)) (places_turned γ (covered_places C.arguments) T (target_arguments (substitute_type reduce t.values p.type)) t.same) in
    let (E, β, u) = of_pattern Σ Σ₂ v first C θ₂ σ₂ r H ρ back hw tc₂ none K (move_spine γ T) held₂ p.origin p.type p.at_first i tp.clause_typed tp.type_typed l t.used τ₂ v₂ t.uses same in
    let grows : Extends nothing (with_entries Σ first (blocks_of C.blocks)) (with_entries (leave_room first n Σ') first (blocks_of C.blocks)) = entries_extend Σ Σ₂ V S (move_types γ G) v first C θ₂ σ₂ r in
    run_refuted Σe grows.ok (ready Σe grows) (run_in_extension nothing Σ₁ Σe grows (apart_store C p K) f.reached f.run) f.refuted E β u

-- One block variable is apart.
one_apart : (bs : List BlockVariable) → length bs ≤ 1 → (j k : ℕ) (b c : BlockVariable) → block_at bs j ≡ Some b → block_at bs k ≡ Some c → j ≡ k
one_apart [] l j k b c p q = absurd cc
one_apart (d ∷ []) l zero zero b c p q = refl
one_apart (d ∷ []) l zero (suc k) b c p q = absurd cc
one_apart (d ∷ []) l (suc j) k b c p q = absurd cc
one_apart (d ∷ e ∷ bs) l j k b c p q = absurd (no (length bs) l)
  where
    no : (n : ℕ) → suc (suc n) ≤ 1 → ⊥
    no n m = omega (arith, m)

pub one_block_is_apart_tuple : OneBlockIsApartTuple
one_block_is_apart_tuple Σ ok W first free C tc one none p tp i l K ready f V typed S Σ' x G w F σ T h known t = refuted_is_apart_tuple Σ ok W first free C tc none p tp i l K ready f V typed S Σ' x G w F σ T h (λ j k b c q z s e. one_apart C.blocks one j k b c q z) t
