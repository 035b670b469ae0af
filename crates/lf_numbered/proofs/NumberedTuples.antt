-- A tuple that a case with block variables by number holds and a pattern has, written over entry constants, is a typed unifier of their store.
use Rattle.std.proofs.Common.{◌≡◌, ℕ, zero, suc, List, [], ◌∷◌, length, refl, sym, ap, ◌∙◌, subst}
use Rattle.std.specs.Prelude.{Bool, true, cond, Option, Some, None}
use Rattle.lf.specs.Syntax.{Term, Spine, LfType, atom, Kind, Skeleton}
use Rattle.lf.specs.Substitution.{Image, keep, rename_image, substitute_spine, substitute_type, reduce, after}
use Rattle.lf.specs.Skeletons.{constant_skeletons, context_skeletons}
use Rattle.lf.specs.AtOnce.{shift_by, lift_renaming_by}
use Rattle.lf.specs.Entries.{quantifiers}
use Rattle.lf.specs.Typing.{Signature, IsTypedSubstitution, IsType, IsContext, IsSignature}
use Rattle.lf.specs.Variables.{target, target_arguments, onto, binders, nothing, same_number, Values}
use Rattle.lf.specs.Extension.{Extends}
use Rattle.lf.specs.Subordination.{Block}
use Rattle.lf.specs.Worlds.{World, lift_over}
use Rattle.lf.proofs.Growth.{growth_keeps_types}
use Rattle.lf.proofs.ToSkeletons.{type_by_skeletons}
use Rattle.lf.proofs.TypeLaws.{substitute_identity_type}
use Rattle.lf_unification.specs.Filling.{fill_spine, fill_type}
use Rattle.lf_unification.specs.Lists.{followed}
use Rattle.lf_unification.specs.Offering.{pi_over}
use Rattle.lf_unification.specs.OpenTyping.{skeletons_of, under_locals, fill_locals}
use Rattle.lf_unification.specs.Unifiers.{Store, Solution, SolvesAll}
use Rattle.lf_unification.proofs.Raise.{fill_pis}
use Rattle.lf_unification.proofs.Runs.{run_refuted}
use Rattle.lf_checks.specs.Clause.{Clause, scope, constant_clause}
use Rattle.lf_checks.specs.Ground.{UsesGoal}
use Rattle.lf_checks.specs.Marks.{SamePlaces}
use Rattle.lf_cases.specs.Case.{HasArguments, covered_places}
use Rattle.lf_cases.specs.Pattern.{Origin, of_constant, of_entry}
use Rattle.lf_totality.proofs.RaisedOutputs.{binders_over}
use Rattle.lf_coverage.specs.Heads.{HaveSkeletons}
use Rattle.lf_coverage.specs.MeetStore.{IsConstants, open_arguments, place_equations, given_equations}
use Rattle.lf_coverage.specs.SplitStore.{open_spine, open_type, open_locals, context_metavariables}
use Rattle.lf_coverage.proofs.Forms.{as_pis}
use Rattle.lf_coverage.proofs.FreshValues.{arguments_moved}
use Rattle.lf_coverage.proofs.Meeting.{joined, joined_far, under_same, open_length, arguments_over, both_fit, both_stand, first_fits, first_stand, are_instance, moves, solves_both, term_filled, type_filled}
use Rattle.lf_coverage.proofs.MoreConstants.{term_more}
use Rattle.lf_coverage.proofs.RefutedSplits.{run_in_extension}
use Rattle.lf_coverage.proofs.StoreSolution.{open_pis}
use Rattle.lf_numbered.specs.EntryConstants.{with_entries}
use Rattle.lf_numbered.specs.NewBlock.{rename_all}
use Rattle.lf_numbered.specs.NumberedArguments.{read_over, read_all}
use Rattle.lf_numbered.specs.NumberedCallsStores.{identity_equations, terms_equations}
use Rattle.lf_numbered.specs.NumberedCase.{NumberedCase}
use Rattle.lf_numbered.specs.NumberedTuples.{apart_store, TupleIsUnifier, RefutedHoldsNoTuple}
use Rattle.lf_numbered.specs.OwnTerms.{BlockVariable, blocks_of, rename_blocks, terms_at}
use Rattle.lf_numbered.specs.Reading.{entry_reading}
use Rattle.lf_numbered.specs.TypedNumbered.{IsTypedNumberedCase}
use Rattle.lf_numbered.specs.Writing.{IsWriting}
use Rattle.lf_numbered.specs.WritingLaws.{IsInstanceWithRoom}
use Rattle.lf_numbered.proofs.EntryTermsConstants.{lift_keep}
use Rattle.lf_numbered.proofs.EntryPatternsNear.{binders_count}
use Rattle.lf_numbered.proofs.EntrySignature.{grown_contexts}
use Rattle.lf_numbered.proofs.NumberedTuplesFresh.{LongerWritten}
use Rattle.lf_numbered.proofs.NumberedTuplesWritten.{arguments_put, grown_scope, clause_written, case_written, pattern_written, longer, moved_tuple}
use Rattle.lf_numbered.proofs.PlacesSolved.{case_places}
use Rattle.lf_numbered.proofs.WritingInstance.{entries_extend, instance_is_written, own_types, types_more, written_signature}

-- The pattern's places of the store, where the clause's variables stand in front of the case's
module _ (Σ : Signature) (ok : IsSignature Σ) (O Q G : List LfType) (co : IsContext Σ O) (cq : IsContext Σ Q) (cg : IsContext Σ G) (σ τ : ℕ → Image) (ts : IsTypedSubstitution Σ O G σ) (tt' : IsTypedSubstitution Σ Q G τ) where
  abbrev pub filling : ℕ → Option Term
  filling = Rattle.lf_coverage.proofs.Meeting.β Σ ok O Q G co cq cg σ τ ts tt'

  abbrev μ : ℕ → Skeleton
  μ = skeletons_of (context_metavariables (onto O Q))

  -- the arguments of the pattern
  pub own_pattern_filled : (P : LfType) → IsType Σ O P → fill_spine (skeletons_of (context_metavariables (onto O Q))) (under_locals (open_locals (binders [] P)) filling) (open_spine (length (binders [] P)) (target_arguments P)) ≡ target_arguments (substitute_type reduce σ P)
  own_pattern_filled P t =
      let D : List LfType = binders [] P in
      let filled : substitute_type reduce σ P ≡ pi_over (fill_locals μ filling (open_locals D)) (atom (target P) (fill_spine μ (under_locals (open_locals D) filling) (open_spine (length D) (target_arguments P)))) = sym (type_filled Σ μ filling O G σ (first_fits Σ ok O Q G co cq cg σ τ ts tt') (first_stand Σ ok O Q G co cq cg σ τ ts tt') P (type_by_skeletons Σ O P t)) ∙ ap (λ Z. fill_type μ filling (open_type zero Z)) (as_pis P []) ∙ ap (fill_type μ filling) (open_pis D (target P) (target_arguments P)) ∙ fill_pis μ filling (open_locals D) (atom (target P) (open_spine (length D) (target_arguments P))) in
      sym (ap target_arguments filled ∙ arguments_over (fill_locals μ filling (open_locals D)) (atom (target P) (fill_spine μ (under_locals (open_locals D) filling) (open_spine (length D) (target_arguments P)))))

-- No block variable is another, so no equation says that two are one.
same_self : (k : ℕ) → same_number k k ≡ true
same_self zero = refl
same_self (suc k) = same_self k

none_identified : (μ : ℕ → Skeleton) (β : ℕ → Option Term) (bs : List BlockVariable) (k : ℕ) (cs : List BlockVariable) → SolvesAll μ β (identity_equations (λ j. j) bs k cs)
none_identified μ β bs k [] = tt
none_identified μ β bs k (b ∷ cs) = subst (λ x. SolvesAll μ β (followed (cond x [] (terms_equations b (terms_at bs k))) (identity_equations (λ j. j) bs (suc k) cs))) (sym (same_self k)) (none_identified μ β bs (suc k) cs)

-- The store, for variables, the number of those of the clause, a type and given terms
abbrev store_form : NumberedCase → Kind → List LfType → ℕ → LfType → List (Option Term) → Store
store_form C K X n T Ms = record {
  metavariables = context_metavariables X;
  bindings = [];
  equations = followed (identity_equations (λ j. j) (rename_blocks (shift_by n) C.blocks) zero (rename_blocks (shift_by n) C.blocks)) (followed (given_equations X zero (rename_all (shift_by n) Ms)) (place_equations (open_locals (binders [] T)) (open_arguments (length (binders [] T)) (rename_all (lift_renaming_by (length C.local) (shift_by n)) C.arguments)) (open_spine (length (binders [] T)) (target_arguments T)) K));
}

-- The written values are a typed unifier.
module _ (Σ Σ' : Signature) {W : List Block} {S : ℕ → Bool} {G : List LfType} (w : World Σ' W S G) (first : ℕ) (C : NumberedCase) (θ : ℕ → ℕ → Image) (σ : ℕ → Image) (r : IsInstanceWithRoom Σ w first C θ σ) (F : List LfType) (ρ : ℕ → Image) (back : ℕ → ℕ) (h : IsWriting Σ' first (blocks_of C.blocks) θ G F ρ back) (tc : IsTypedNumberedCase Σ first W C) (nothing_given : C.given ≡ []) (K : Kind) (T : Spine) (held : HasArguments (lift_over C.local σ) (read_all (read_over C.local (entry_reading first (blocks_of C.blocks) θ (length C.variables))) C.arguments) T) where
  abbrev Σw : Signature
  Σw = with_entries Σ' first (blocks_of C.blocks)

  arguments_grown : (Γ : List Skeleton) (Ms : List (Option Term)) → HaveSkeletons (constant_skeletons (with_entries Σ first (blocks_of C.blocks))) Γ Ms → HaveSkeletons (constant_skeletons Σw) Γ Ms
  arguments_grown Γ [] s = tt
  arguments_grown Γ (Some M ∷ Ms) ((t, m), s) = ((t, term_more (with_entries Σ first (blocks_of C.blocks)) Σw (types_more Σ Σ' w first C θ σ r) Γ M t m), arguments_grown Γ Ms s)
  arguments_grown Γ (None ∷ Ms) s = arguments_grown Γ Ms s

  module _ (U P : LfType) (cu : IsContext Σ (binders [] U)) (tp : IsType Σ (binders [] U) P) (l : length C.local ≡ length (binders [] P)) (used : ℕ → Bool) (τ : ℕ → Image) (v : Values Σ' used (binders [] U) G τ) (uses : UsesGoal used (covered_places C.arguments) P) (same : SamePlaces (covered_places C.arguments) T (target_arguments (substitute_type reduce τ P))) where
    abbrev O : List LfType
    O = binders [] U

    abbrev Q : List LfType
    Q = C.variables

    abbrev k : LongerWritten (with_entries Σ' first (blocks_of C.blocks)) used (binders [] U) G F τ ρ
    k = longer Σ Σ' w first C θ σ r F ρ back h used (binders [] U) cu τ v

    abbrev χ : ℕ → Image
    χ = after k.writes k.long.values

    abbrev ψ : ℕ → Image
    ψ i = rename_image k.moves (after ρ σ i)

    ok : IsSignature (with_entries Σ' first (blocks_of C.blocks))
    ok = written_signature Σ Σ' w first C θ σ r

    co : IsContext (with_entries Σ' first (blocks_of C.blocks)) (binders [] U)
    co = grown_scope Σ Σ' w first C θ σ r F ρ back h used O cu τ v

    cq : IsContext (with_entries Σ' first (blocks_of C.blocks)) C.variables
    cq = grown_contexts (with_entries Σ first (blocks_of C.blocks)) Σw (types_more Σ Σ' w first C θ σ r) r.extends.kinds_stay Q r.variables.variables

    to : IsTypedSubstitution (with_entries Σ' first (blocks_of C.blocks)) (binders [] U) k.written χ
    to = clause_written Σ Σ' w first C θ σ r F ρ back h used O cu τ v

    tq : IsTypedSubstitution (with_entries Σ' first (blocks_of C.blocks)) C.variables k.written ψ
    tq = case_written Σ Σ' w first C θ σ r F ρ back h used O cu τ v

    abbrev values : ℕ → Option Term
    values = filling Σw ok O Q k.written co cq k.is_context χ ψ to tq

    abbrev ν : ℕ → Skeleton
    ν = skeletons_of (context_metavariables (onto (binders [] U) C.variables))

    places : SolvesAll ν values (place_equations (open_locals (binders [] P)) (open_arguments (length C.local) (rename_all (lift_renaming_by (length C.local) (shift_by (length O))) C.arguments)) (open_spine (length (binders [] P)) (target_arguments P)) K)
    places =
        let E : List LfType = open_locals (binders [] P) in
        let tP : IsType Σw O P = growth_keeps_types Σ Σw (λ c A e. own_types Σ Σ' w first C θ σ r c A (r.extends.types_stay c A e)) r.extends.kinds_stay O P tp in
        let V : Spine = moved_tuple Σ Σ' w first C θ σ r F ρ back h used O cu τ v C.local T in
        case_places Σw O Q k.written (joined O χ ψ) values (both_fit Σw ok O Q k.written co cq k.is_context χ ψ to tq) (both_stand Σw ok O Q k.written co cq k.is_context χ ψ to tq) ψ (joined_far O χ ψ) C.local E (open_length (binders [] P) ∙ sym l) C.arguments (open_spine (length (binders [] P)) (target_arguments P)) V K
        (arguments_grown (context_skeletons (onto C.local Q)) C.arguments tc.arguments)
        (arguments_moved C.local k.moves (after ρ σ) C.arguments (substitute_spine reduce (lift_over C.local ρ) T) (arguments_put Σ Σ' w first C θ σ r F ρ back h C.local C.arguments T tc.arguments tc.arguments_on_own held))
        (subst (SamePlaces (covered_places C.arguments) V) (sym (own_pattern_filled Σw ok O Q k.written co cq k.is_context χ ψ to tq P tP)) (pattern_written Σ Σ' w first C θ σ r F ρ back h used O cu τ v (covered_places C.arguments) P C.local T tp l uses same))

    solved : Solution (with_entries Σ' first (blocks_of C.blocks)) [] (store_form C K (onto (binders [] U) C.variables) (length (binders [] U)) P []) k.written values
    solved = (
      are_instance Σw ok O Q k.written co cq k.is_context χ ψ to tq,
      (tt, solves_both ν values (identity_equations (λ j. j) (rename_blocks (shift_by (length O)) C.blocks) zero (rename_blocks (shift_by (length O)) C.blocks)) _ (none_identified ν values (rename_blocks (shift_by (length O)) C.blocks) zero (rename_blocks (shift_by (length O)) C.blocks)) (subst (λ n. SolvesAll ν values (place_equations (open_locals (binders [] P)) (open_arguments n (rename_all (lift_renaming_by (length C.local) (shift_by (length O))) C.arguments)) (open_spine (length (binders [] P)) (target_arguments P)) K)) l places)),
    )

    -- the store is of this form
    variables_are : binders C.variables (substitute_type reduce keep U) ≡ onto (binders [] U) C.variables
    variables_are = ap (binders Q) (substitute_identity_type reduce U) ∙ none Q U
      where
        none : (Q : List LfType) (U : LfType) → binders Q U ≡ onto (binders [] U) Q
        none Q U = binders_over [] U Q

    type_is : substitute_type reduce (lift_over (binders [] U) keep) P ≡ P
    type_is = ap (λ k. substitute_type reduce k P) (lift_keep (binders [] U)) ∙ substitute_identity_type reduce P

    pub unified : (b : Bool) → (H : List LfType) × (γ : ℕ → Option Term) × Solution (with_entries Σ' first (blocks_of C.blocks)) [] (apart_store C (record { clause = constant_clause U; origin = of_constant U; type = P; at_first = b }) K) H γ
    unified b = (
      k.written,
      values,
      subst (λ X. Solution Σw [] (store_form C K X (quantifiers U) (substitute_type reduce (lift_over (binders [] U) keep) P) C.given) k.written values) (sym variables_are)
          (subst (λ n. Solution Σw [] (store_form C K (onto O Q) n (substitute_type reduce (lift_over (binders [] U) keep) P) C.given) k.written values) (binders_count U)
          (subst (λ Z. Solution Σw [] (store_form C K (onto O Q) (length O) Z C.given) k.written values) (sym type_is)
          (subst (λ Ms. Solution Σw [] (store_form C K (onto O Q) (length O) P Ms) k.written values) (sym nothing_given) solved))),
    )

-- so for each pattern of a constant's clause
pub of_pattern : (Σ Σ' : Signature) {W : List Block} {S : ℕ → Bool} {G : List LfType} (w : World Σ' W S G) (first : ℕ) (C : NumberedCase) (θ : ℕ → ℕ → Image) (σ : ℕ → Image) (r : IsInstanceWithRoom Σ w first C θ σ) (F : List LfType) (ρ : ℕ → Image) (back : ℕ → ℕ) (h : IsWriting Σ' first (blocks_of C.blocks) θ G F ρ back) (tc : IsTypedNumberedCase Σ first W C) → C.given ≡ [] → (K : Kind) (T : Spine) → HasArguments (lift_over C.local σ) (read_all (read_over C.local (entry_reading first (blocks_of C.blocks) θ (length C.variables))) C.arguments) T → {c : Clause} (o : Origin c) (P : LfType) (b : Bool) → IsConstants o → IsContext Σ (scope c) → IsType Σ (scope c) P → length C.local ≡ length (binders [] P) → (used : ℕ → Bool) (τ : ℕ → Image) → Values Σ' used (scope c) G τ → UsesGoal used (covered_places C.arguments) P → SamePlaces (covered_places C.arguments) T (target_arguments (substitute_type reduce τ P)) → (H : List LfType) × (β : ℕ → Option Term) × Solution (with_entries Σ' first (blocks_of C.blocks)) [] (apart_store C (record { clause = c; origin = o; type = P; at_first = b }) K) H β
of_pattern Σ Σ' w first C θ σ r F ρ back h tc n K T held (of_constant U) P b i cu tp l used τ v u s = unified Σ Σ' w first C θ σ r F ρ back h tc n K T held U P cu tp l used τ v u s b
of_pattern Σ Σ' w first C θ σ r F ρ back h tc n K T held (of_entry B later E es e) P b i cu tp l used τ v u s = absurd i

pub tuple_is_unifier : TupleIsUnifier
tuple_is_unifier Σ Σ' W S G w first C tc n p tp i l K F σ T h r apart t =
    let (H, ρ, back, hw) = instance_is_written Σ Σ' W S G w first C h.instances h.values r apart in
    of_pattern Σ Σ' w first C h.instances h.values r H ρ back hw tc n K T h.has_arguments p.origin p.type p.at_first i tp.clause_typed tp.type_typed l t.used t.values t.typed t.uses t.same

pub refuted_holds_no_tuple : RefutedHoldsNoTuple
refuted_holds_no_tuple Σ Σ' W S G w first C tc n p tp i l K ready f F σ T h r apart t =
    let Σ₁ : Signature = with_entries Σ first (blocks_of C.blocks) in
    let Σe : Signature = with_entries Σ' first (blocks_of C.blocks) in
    let grows : Extends nothing (with_entries Σ first (blocks_of C.blocks)) (with_entries Σ' first (blocks_of C.blocks)) = entries_extend Σ Σ' W S G w first C h.instances h.values r in
    let (H, β, u) = tuple_is_unifier Σ Σ' W S G w first C tc n p tp i l K F σ T h r apart t in
    run_refuted Σe grows.ok (ready Σe grows) (run_in_extension nothing Σ₁ Σe grows (apart_store C p K) f.reached f.run) f.refuted H β u
