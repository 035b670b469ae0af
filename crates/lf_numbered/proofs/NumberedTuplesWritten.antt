-- A tuple that a case with block variables by number holds, and values of the variables of a clause, written over entry constants.
use Rattle.std.proofs.Common.{◌≡◌, ℕ, suc, List, [], ◌∷◌, length, refl, sym, ap, ◌∙◌, subst}
use Rattle.std.specs.Prelude.{Bool, true, false, Option, Some}
use Rattle.lf.specs.Syntax.{Term, Spine, nil, app, LfType, pi, atom, rename_spine}
use Rattle.lf.specs.Substitution.{Image, keep, put, rename_image, substitute, substitute_spine, substitute_type, reduce, after}
use Rattle.lf.specs.Skeletons.{constant_skeletons, family_skeletons, context_skeletons}
use Rattle.lf.specs.AtOnce.{lift_renaming_by}
use Rattle.lf.specs.Typing.{Signature, IsTypedSubstitution, IsType, IsContext, IsSignature}
use Rattle.lf.specs.Variables.{target_arguments, onto, binders, Values}
use Rattle.lf.specs.Subordination.{Block}
use Rattle.lf.specs.Worlds.{World, lift_over}
use Rattle.lf.proofs.Growth.{growth_keeps_types}
use Rattle.lf.proofs.SkeletonTypes.{substitutions_compose_type}
use Rattle.lf.proofs.Substitution.{typed_substitution_by_skeletons}
use Rattle.lf.proofs.ToSkeletons.{type_by_skeletons}
use Rattle.lf.proofs.Worlds.{world_is_context}
use Rattle.lf_checks.specs.Ground.{UsesGoal}
use Rattle.lf_checks.specs.Marks.{SamePlaces}
use Rattle.lf_cases.specs.Case.{HasArguments}
use Rattle.lf_coverage.specs.Heads.{HaveSkeletons}
use Rattle.lf_coverage.proofs.Forms.{lift_same}
use Rattle.lf_coverage.proofs.FreshValues.{goal_moved, values_moved}
use Rattle.lf_numbered.specs.EntryConstants.{with_entries}
use Rattle.lf_numbered.specs.NumberedArguments.{read_over, read_all}
use Rattle.lf_numbered.specs.NumberedCase.{NumberedCase}
use Rattle.lf_numbered.specs.OwnTerms.{blocks_of, own_terms, AllOnOwnTerms}
use Rattle.lf_numbered.specs.Reading.{entry_reading}
use Rattle.lf_numbered.specs.TypedNumbered.{own_over}
use Rattle.lf_numbered.specs.Writing.{IsWriting}
use Rattle.lf_numbered.specs.WritingLaws.{IsInstanceWithRoom}
use Rattle.lf_numbered.proofs.EntrySignature.{grown_contexts, grown_image}
use Rattle.lf_numbered.proofs.NumberedCallsOwn.{unmoved_all}
use Rattle.lf_numbered.proofs.NumberedTuplesFresh.{LongerWritten, longer_written, spine_both}
use Rattle.lf_numbered.proofs.WritingInstance.{own_types, written_signature}
use Rattle.lf_numbered.proofs.WritingOwn.{values_are_typed}
use Rattle.lf_numbered.proofs.WritingRead.{arguments_written, itself}
use Rattle.lf_numbered.proofs.WritingTyped.{typed_after}

-- What a tuple and a type's arguments have in common at the places stays so with values put in.
pub places_put : (ρ : ℕ → Image) (b : List Bool) (T S : Spine) → SamePlaces b T S → SamePlaces b (substitute_spine reduce ρ T) (substitute_spine reduce ρ S)
places_put ρ [] nil nil s = tt
places_put ρ [] nil (app N S) s = absurd s
places_put ρ [] (app M T) S s = absurd s
places_put ρ (x ∷ b) nil S s = absurd s
places_put ρ (x ∷ b) (app M T) nil s = absurd s
places_put ρ (true ∷ b) (app M T) (app N S) (e, s) = (ap (substitute reduce ρ) e, places_put ρ b T S s)
places_put ρ (false ∷ b) (app M T) (app N S) s = places_put ρ b T S s

pub goal_put : (D : List LfType) (ρ : ℕ → Image) (b : List Bool) (P : LfType) (T : Spine) → SamePlaces b T (target_arguments P) → SamePlaces b (substitute_spine reduce (lift_over (binders D P) ρ) T) (target_arguments (substitute_type reduce (lift_over D ρ) P))
goal_put D ρ b (atom a S) T s = places_put (lift_over D ρ) b T S s
goal_put D ρ b (pi A B) T s = goal_put (A ∷ D) ρ b B T s

-- how many quantifiers there are, with values put in
pub binders_put : (D E : List LfType) (f : ℕ → Image) (P : LfType) → length D ≡ length E → length (binders D (substitute_type reduce f P)) ≡ length (binders E P)
binders_put D E f (atom a S) e = e
binders_put D E f (pi A B) e = binders_put (substitute_type reduce f A ∷ D) (A ∷ E) (Rattle.lf.specs.Substitution.lift f) B (ap suc e)

-- The arguments of a ground instance, written
module _ (Σ Σ' : Signature) {W : List Block} {S : ℕ → Bool} {G : List LfType} (w : World Σ' W S G) (first : ℕ) (C : NumberedCase) (θ : ℕ → ℕ → Image) (σ : ℕ → Image) (r : IsInstanceWithRoom Σ w first C θ σ) (F : List LfType) (ρ : ℕ → Image) (back : ℕ → ℕ) (h : IsWriting Σ' first (blocks_of C.blocks) θ G F ρ back) where
  abbrev Σe : Signature
  Σe = with_entries Σ' first (blocks_of C.blocks)

  pub arguments_put : (L : List LfType) (Ms : List (Option Term)) (T : Spine) → HaveSkeletons (constant_skeletons (with_entries Σ first (blocks_of C.blocks))) (context_skeletons (onto L C.variables)) Ms → AllOnOwnTerms (own_over L (own_terms first C.blocks)) Ms → HasArguments (lift_over L σ) (read_all (read_over L (entry_reading first (blocks_of C.blocks) θ (length C.variables))) Ms) T → HasArguments (lift_over L (after ρ σ)) Ms (substitute_spine reduce (lift_over L ρ) T)
  arguments_put L Ms T s p a = subst (λ Ns. HasArguments (lift_over L (after ρ σ)) Ns (substitute_spine reduce (lift_over L ρ) T)) (unmoved_all Ms) (arguments_written Σ Σ' w first C θ σ r F ρ (itself h) L Ms T s p a)

  -- and values of variables of a clause, with fresh variables for the others, and what the pattern has
  module _ (U : ℕ → Bool) (Q : List LfType) (cq : IsContext Σ Q) (τ : ℕ → Image) (v : Values Σ' U Q G τ) where
    pub ok_written : IsSignature (with_entries Σ' first (blocks_of C.blocks))
    ok_written = written_signature Σ Σ' w first C θ σ r

    old_types : (c : ℕ) (A : LfType) → Σ.types c ≡ Some A → (with_entries Σ' first (blocks_of C.blocks)).types c ≡ Some A
    old_types c A e = own_types Σ Σ' w first C θ σ r c A (r.extends.types_stay c A e)

    pub grown_scope : IsContext (with_entries Σ' first (blocks_of C.blocks)) Q
    grown_scope = grown_contexts Σ Σe old_types r.extends.kinds_stay Q cq

    pub grown_world : IsContext (with_entries Σ' first (blocks_of C.blocks)) G
    grown_world = grown_contexts Σ' Σe (own_types Σ Σ' w first C θ σ r) (λ a K e. e) G (world_is_context w)

    abbrev pub longer : LongerWritten (with_entries Σ' first (blocks_of C.blocks)) U Q G F τ ρ
    longer = longer_written Σe ok_written G F grown_world h.context ρ h.typed Q U τ grown_scope (record { typed = λ i A g u. grown_image Σ' Σe (own_types Σ Σ' w first C θ σ r) (λ a K e. e) G (τ i) (substitute_type reduce τ A) (v.typed i A g u); closed = v.closed })

    pub clause_written : IsTypedSubstitution (with_entries Σ' first (blocks_of C.blocks)) Q longer.written (after longer.writes longer.long.values)
    clause_written = typed_after Σe ok_written Q longer.long.context longer.written longer.long.values longer.writes grown_scope longer.long.is_context longer.is_context longer.long.typed longer.typed

    pub case_written : IsTypedSubstitution (with_entries Σ' first (blocks_of C.blocks)) C.variables longer.written (λ i. rename_image longer.moves (after ρ σ i))
    case_written = values_moved Σe ok_written C.variables F longer.written longer.moves (after ρ σ) longer.renames (values_are_typed Σ Σ' w first C θ σ r F ρ back h)

    abbrev pub moved_tuple : List LfType → Spine → Spine
    moved_tuple L T = rename_spine (lift_renaming_by (length L) longer.moves) (substitute_spine reduce (lift_over L ρ) T)

    pub pattern_written : (b : List Bool) (P : LfType) (L : List LfType) (T : Spine) → IsType Σ Q P → length L ≡ length (binders [] P) → UsesGoal U b P → SamePlaces b T (target_arguments (substitute_type reduce τ P)) → SamePlaces b (moved_tuple L T) (target_arguments (substitute_type reduce (after longer.writes longer.long.values) P))
    pattern_written b P L T t l uses s =
        let υ : ℕ → Image = longer.long.values in
        let H : List LfType = longer.long.context in
        let tP : IsType Σe Q P = growth_keeps_types Σ Σe old_types r.extends.kinds_stay Q P t in
        let T1 : Spine = rename_spine (lift_renaming_by (length L) longer.long.moves) T in
        let moved : SamePlaces b T1 (target_arguments (substitute_type reduce υ P)) = subst (λ n. SamePlaces b (rename_spine (lift_renaming_by n longer.long.moves) T) (target_arguments (substitute_type reduce υ P))) (sym l) (goal_moved [] U longer.long.moves τ υ longer.long.same b P T uses s) in
        let both : substitute_type reduce longer.writes (substitute_type reduce υ P) ≡ substitute_type reduce (after longer.writes υ) P = substitutions_compose_type (family_skeletons Σe) (constant_skeletons Σe) (context_skeletons Q) (context_skeletons H) (context_skeletons longer.written) υ longer.writes P (typed_substitution_by_skeletons Σe ok_written Q H υ longer.long.typed) (typed_substitution_by_skeletons Σe ok_written H longer.written longer.writes longer.typed) (type_by_skeletons Σe Q P tP) in
        let lifts : lift_over (binders [] (substitute_type reduce υ P)) longer.writes ≡ lift_over L longer.writes = lift_same (binders [] (substitute_type reduce υ P)) L longer.writes (binders_put [] [] υ P refl ∙ sym l) in
        subst (λ V. SamePlaces b V (target_arguments (substitute_type reduce (after longer.writes υ) P))) (sym (spine_both Σe ok_written G F grown_world h.context ρ h.typed U Q τ longer L T))
        (subst (λ k. SamePlaces b (substitute_spine reduce k T1) (target_arguments (substitute_type reduce (after longer.writes υ) P))) lifts
        (subst (λ Z. SamePlaces b (substitute_spine reduce (lift_over (binders [] (substitute_type reduce υ P)) longer.writes) T1) (target_arguments Z)) both (goal_put [] longer.writes b (substitute_type reduce υ P) T1 moved)))
