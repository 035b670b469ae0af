-- What is typed beside a pattern stays so where typed values are put in, along a run by number.
use Rattle.std.proofs.Common.{◌≡◌, ℕ, zero, suc, ◌+◌, List, [], ◌∷◌, length, refl, sym, ap, ap₂, ◌∙◌, subst, arith, Option, Some, None}
use Rattle.std.specs.Prelude.{Bool}
use Rattle.lf.specs.Syntax.{constant, Term, Spine, nil, app, LfType, Skeleton, skeleton, rename_type}
use Rattle.lf.specs.Substitution.{Image, keep, substitute, substitute_spine, substitute_type, reduce}
use Rattle.lf.specs.AtOnce.{lift_renaming_by, shift_by}
use Rattle.lf.specs.Typing.{Signature, TypeAt, IsSignature, IsTypedSubstitution}
use Rattle.lf.specs.Variables.{nothing, onto, binders}
use Rattle.lf.specs.Subordination.{Block, AreTypedBlocks, Member}
use Rattle.lf.specs.Worlds.{lift_over, instance}
use Rattle.lf.specs.Extension.{Extends}
use Rattle.lf.proofs.Eta.{substitute_eta_expand}
use Rattle.lf.proofs.TypeLaws.{skeleton_renamed, substitution_as_renaming_spine, substitution_as_renaming_type}
use Rattle.lf_unification.specs.Offering.{local_arguments}
use Rattle.lf_checks.specs.Clause.{Clause}
use Rattle.lf_checks.specs.ModeForms.{argument_count}
use Rattle.lf_cases.specs.Case.{items_context, as_term}
use Rattle.lf_cases.specs.Cover.{before}
use Rattle.lf_cases.specs.Missing.{put_in}
use Rattle.lf_cases.specs.OutputGoal.{free_variables, renumber}
use Rattle.lf_cases.specs.Pattern.{Origin, of_constant, of_entry, Pattern, origin, subgoal_pattern}
use Rattle.lf_cases.specs.Reached.{arguments_count}
use Rattle.lf_cases.proofs.BlockEntries.{onto_onto}
use Rattle.lf_totality.proofs.After.{Extends-self}
use Rattle.lf_coverage.specs.Leaf.{IsTypedPattern}
use Rattle.lf_coverage.specs.SplitStore.{answer_values}
use Rattle.lf_coverage.specs.TypedCase.{IsTypedBeside}
use Rattle.lf_coverage.proofs.Leaves.{subgoal_is_typed}
use Rattle.lf_coverage.proofs.Parts.{some_same}
use Rattle.lf_coverage.proofs.SolvedCase.{free_context_is, free_typed}
use Rattle.lf_coverage.proofs.Standing.{entry_index, before_is, index_type}
use Rattle.lf_coverage.proofs.StayTyped.{stays_typed}
use Rattle.lf_numbered.specs.EntryConstants.{IsFreeFrom, entry_images, with_entries}
use Rattle.lf_numbered.specs.EntryPatterns.{last_of, but_last, some_images, variable_images}
use Rattle.lf_numbered.specs.NewBlock.{with_new_block}
use Rattle.lf_numbered.specs.NumberedBesideGiven.{outside_terms, given_over, with_outside, GivesOutside, IsTypedBesideByNumber}
use Rattle.lf_numbered.specs.NumberedBesideStays.{NumberedRunStaysBeside, NumberedOutputRunStaysBeside}
use Rattle.lf_numbered.specs.NumberedCase.{NumberedCase}
use Rattle.lf_numbered.specs.NumberedInstance.{block_at, first_constant}
use Rattle.lf_numbered.specs.OwnStores.{ComesByNumbers, no_split, then_block, then_split, solved_numbered}
use Rattle.lf_numbered.specs.OwnTerms.{BlockVariable, blocks_of, own_terms, put_in_blocks, rename_blocks}
use Rattle.lf_numbered.specs.TypedNumbered.{IsTypedNumberedCase}
use Rattle.lf_numbered.proofs.EntryPatternsAmong.{at_renamed, first_earlier, first_renamed, others_count}
use Rattle.lf_numbered.proofs.EntryPatternsMatching.{entries_signature}
use Rattle.lf_numbered.proofs.EntryPatternsNumbers.{earlier_at}
use Rattle.lf_numbered.proofs.EntryPatternsSplits.{all_renamed, lifted_keep}
use Rattle.lf_numbered.proofs.EntryPatternsTyped.{typed_at}
use Rattle.lf_numbered.proofs.EntrySignature.{entries_kept}
use Rattle.lf_numbered.proofs.EntryValues.{count_some}
use Rattle.lf_numbered.proofs.NumberedBesideGiven.{numbered_output_goal_is_beside}
use Rattle.lf_numbered.proofs.NumberedBesideTerms.{beside_more, pattern_more}
use Rattle.lf_numbered.proofs.OwnStoresNewBlock.{new_block_stays_typed, extends, renames}
use Rattle.lf_numbered.proofs.OwnStoresSplit.{numbered_split_stays_typed, values_typed}
use Rattle.lf_numbered.proofs.OwnTerms.{put_in_keeps}
use mathlib.Core.Path.{fun_ext}

-- What a block variable gives, with values put in
last_put : (υ : ℕ → Image) (M : Term) (S : Spine) → substitute reduce υ (last_of M S) ≡ last_of (substitute reduce υ M) (substitute_spine reduce υ S)
last_put υ M nil = refl
last_put υ M (app N S) = last_put υ N S

others_put : (υ : ℕ → Image) (M : Term) (S : Spine) → substitute_spine reduce υ (but_last M S) ≡ but_last (substitute reduce υ M) (substitute_spine reduce υ S)
others_put υ M nil = refl
others_put υ M (app N S) = ap (app (substitute reduce υ M)) (others_put υ N S)

some_put : (υ : ℕ → Image) (O : List LfType) (U : Spine) → argument_count U ≡ length O → (i : ℕ) (A : LfType) → TypeAt O i A → (a : Skeleton) → substitute reduce υ (as_term a (some_images O U i)) ≡ as_term a (some_images O (substitute_spine reduce υ U) i)
some_put υ [] U e i A g a = absurd g
some_put υ (B ∷ O) nil e i A g a = absurd cc
some_put υ (B ∷ O) (app M U) e zero A g a = last_put υ M U
some_put υ (B ∷ O) (app M U) e (suc i) A (D, g, q) a = some_put υ O (but_last M U) (others_count M U ∙ less (argument_count U) (length O) e) i D g a ∙ ap (λ V. as_term a (some_images O V i)) (others_put υ M U)
  where
    less : (m n : ℕ) → suc m ≡ suc n → m ≡ n
    less m n e = omega (arith, e)

images_put : (υ : ℕ → Image) (m : ℕ) (U : Spine) (es O : List LfType) → argument_count U ≡ length O → (i : ℕ) (A : LfType) → TypeAt (onto es O) i A → (a : Skeleton) → substitute reduce υ (as_term a (entry_images m U es (some_images O U) i)) ≡ as_term a (entry_images m (substitute_spine reduce υ U) es (some_images O (substitute_spine reduce υ U)) i)
images_put υ m U [] O e i A g a = some_put υ O U e i A g a
images_put υ m U (E ∷ es) O e zero A g a = substitute_eta_expand υ (skeleton E) (constant (m + length es)) (constant (m + length es)) U refl
images_put υ m U (E ∷ es) O e (suc i) A (D, g, q) a = images_put υ m U es O e i D g a

-- The given terms, with values put in
over_put_in : (υ : ℕ → Image) (D : List LfType) (Ms Ns : List (Option Term)) → put_in υ (given_over D Ms Ns) ≡ given_over D (put_in υ Ms) (put_in υ Ns)
over_put_in υ [] Ms Ns = refl
over_put_in υ (A ∷ D) [] Ns = ap (λ Ls. None ∷ Ls) (over_put_in υ D [] Ns)
over_put_in υ (A ∷ D) (Some M ∷ Ms) Ns = ap (λ Ls. Some (substitute reduce υ M) ∷ Ls) (over_put_in υ D Ms Ns)
over_put_in υ (A ∷ D) (None ∷ Ms) Ns = ap (λ Ls. None ∷ Ls) (over_put_in υ D Ms Ns)

outside_put_in : (υ : ℕ → Image) (O : List LfType) (φ ψ : ℕ → Image) → ((k : ℕ) (A : LfType) → TypeAt O k A → substitute reduce υ (as_term (skeleton A) (φ k)) ≡ as_term (skeleton A) (ψ k)) → put_in υ (outside_terms O φ) ≡ outside_terms O ψ
outside_put_in υ [] φ ψ h = refl
outside_put_in υ (A ∷ O) φ ψ h = ap₂ (λ M Ms. Some M ∷ Ms) (subst (λ a. substitute reduce υ (as_term a (φ zero)) ≡ as_term a (ψ zero)) (skeleton_renamed suc A) (h zero (rename_type suc A) refl)) (outside_put_in υ O (λ i. φ (suc i)) (λ i. ψ (suc i)) (λ k B g. subst (λ a. substitute reduce υ (as_term a (φ (suc k))) ≡ as_term a (ψ (suc k))) (skeleton_renamed suc B) (h (suc k) (rename_type suc B) (B, g, refl))))

-- D is C with typed values put in, over a signature with entries that extends that of C, with the same block variables and perhaps more.
module _ (Σ : Signature) (ok : IsSignature Σ) (W : List Block) (typed : AreTypedBlocks Σ W) (first : ℕ) (free : IsFreeFrom Σ first) (p : Pattern) (tp : IsTypedPattern Σ p) (C : NumberedCase) (tb : IsTypedBesideByNumber Σ first W C p) (D : NumberedCase) (td : IsTypedNumberedCase Σ first W D) (x : Extends nothing (with_entries Σ first (blocks_of C.blocks)) (with_entries Σ first (blocks_of D.blocks))) (υ : ℕ → Image) (ts : IsTypedSubstitution (with_entries Σ first (blocks_of D.blocks)) C.variables D.variables υ) where
  abbrev Σ₁ : Signature
  Σ₁ = with_entries Σ first (blocks_of C.blocks)

  abbrev Σ₂ : Signature
  Σ₂ = with_entries Σ first (blocks_of D.blocks)

  module _ (blocks : (k : ℕ) (B : Block) (U : Spine) → block_at C.blocks k ≡ Some (record { block = B; terms = U }) → (block_at D.blocks k ≡ Some (record { block = B; terms = substitute_spine reduce υ U })) × (first_constant first (blocks_of D.blocks) k ≡ first_constant first (blocks_of C.blocks) k)) (eg : D.given ≡ put_in υ C.given) (el : D.local ≡ instance C.local υ) (ef : D.family ≡ C.family) (ea : D.arguments ≡ put_in (lift_over C.local υ) C.arguments) where
    record Outside {c : Clause} (o : Origin c) (b : Bool) (φ : ℕ → Image) : Type 0 where
      outer : ℕ → Image
      stands : GivesOutside first D o b outer
      same : (k : ℕ) (A : LfType) → TypeAt c.outer k A → substitute reduce υ (as_term (skeleton A) (φ k)) ≡ as_term (skeleton A) (outer k)

    outside_of : (c : Clause) (o : Origin c) (b : Bool) (φ : ℕ → Image) → GivesOutside first C o b φ → Outside o b φ
    outside_of c (of_constant T) b φ s = record { outer = φ; stands = tt; same = λ k A g. absurd g }
    outside_of c (of_entry B later E es e) b φ (k, U, q, z, r) =
        let V : Spine = substitute_spine reduce υ U in
        let (at, same_first) = blocks k B U q in
        let (mb, (ω, to, te), own) = typed_at Σ₁ W C.variables (own_terms first C.blocks) C.blocks tb.typed.variables.blocks k (record { block = B; terms = U }) q in
        let n : argument_count U ≡ length B.some = ap argument_count te ∙ count_some B.some ω in
        let m : ℕ = first_constant first (blocks_of C.blocks) k in
        let shape : onto B.entries B.some ≡ onto later (E ∷ onto es B.some) = ap (λ L. onto L B.some) (sym e) ∙ onto_onto later (E ∷ es) B.some in
        record {
          outer = before later (variable_images first D.blocks k B V);
          stands = (k, V, at, z, refl);
          same = λ j A g.
              let (Y, y, f) = index_type later E (onto es B.some) j A g in
              ap (λ w. substitute reduce υ (as_term (skeleton A) w)) (ap (λ θ. θ j) r ∙ before_is later (variable_images first C.blocks k B U) j)
              ∙ images_put υ m U B.entries B.some n (entry_index later j) Y (subst (λ L. TypeAt L (entry_index later j) Y) (sym shape) y) (skeleton A)
              ∙ ap (λ l. as_term (skeleton A) (entry_images l V B.entries (some_images B.some V) (entry_index later j))) (sym same_first)
              ∙ ap (as_term (skeleton A)) (sym (before_is later (variable_images first D.blocks k B V) j));
        }

    out : Outside p.origin p.at_first tb.outer
    out = outside_of p.clause p.origin p.at_first tb.outer tb.stands

    given_is : (with_outside D p out.outer).given ≡ put_in υ (with_outside C p tb.outer).given
    given_is = ap₂ (λ Ms Ns. given_over (binders [] p.clause.type) Ms Ns) eg (sym (outside_put_in υ p.clause.outer tb.outer out.outer out.same)) ∙ sym (over_put_in υ (binders [] p.clause.type) C.given (outside_terms p.clause.outer tb.outer))

    ok₂ : IsSignature Σ₂
    ok₂ = entries_signature Σ ok W typed first free D td

    more : Extends nothing Σ Σ₂
    more = record { ok = ok₂; types_stay = entries_kept Σ first (blocks_of D.blocks); kinds_stay = λ a K e. e; no_new = λ c A e s. absurd cc }

    moved : IsTypedBeside Σ₂ [] (with_outside D p out.outer) p
    moved = stays_typed Σ₂ ok₂ [] (λ B m. absurd m) (with_outside C p tb.outer) (with_outside D p out.outer) p (pattern_more nothing Σ Σ₂ more [] p tp)
        (beside_more nothing Σ₁ Σ₂ x [] (with_outside C p tb.outer) p (λ a K e. e) tb.beside)
        (free_typed Σ₂ [] D.variables td.variables.variables) υ
        (subst (λ L. IsTypedSubstitution Σ₂ L (items_context (free_variables D.variables)) υ) (sym (free_context_is C.variables)) (subst (λ L. IsTypedSubstitution Σ₂ C.variables L υ) (sym (free_context_is D.variables)) ts))
        ef given_is el ea

    pub put_in_stays : IsTypedBesideByNumber Σ first W D p
    put_in_stays = record { typed = td; outer = out.outer; stands = out.stands; beside = moved }

-- block variables with values put in
put_block : (υ : ℕ → Image) (bs : List BlockVariable) (k : ℕ) (B : Block) (U : Spine) → block_at bs k ≡ Some (record { block = B; terms = U }) → block_at (put_in_blocks υ bs) k ≡ Some (record { block = B; terms = substitute_spine reduce υ U })
put_block υ [] k B U e = absurd cc
put_block υ (c ∷ bs) zero B U e = ap (λ (d : BlockVariable). Some (record { block = d.block; terms = substitute_spine reduce υ d.terms })) (some_same e)
put_block υ (c ∷ bs) (suc k) B U e = put_block υ bs k B U e

-- a local context renumbered
pub local_moved : (r : ℕ → ℕ) (L : List LfType) → renumber r L ≡ instance L (λ i. keep (r i))
local_moved r [] = refl
local_moved r (A ∷ L) = ap₂ ◌∷◌ (sym (ap (λ f. substitute_type reduce f A) (fun_ext (lifted_keep L r)) ∙ substitution_as_renaming_type reduce (lift_renaming_by (length L) r) A)) (local_moved r L)

module _ (Σ : Signature) (ok : IsSignature Σ) (W : List Block) (typed : AreTypedBlocks Σ W) (first : ℕ) (free : IsFreeFrom Σ first) (p : Pattern) (tp : IsTypedPattern Σ p) where
  block_stays : (C : NumberedCase) → IsTypedBesideByNumber Σ first W C p → (B : Block) → Member B W → IsTypedBesideByNumber Σ first W (with_new_block B C) p
  block_stays C tb B m =
      put_in_stays Σ ok W typed first free p tp C tb (with_new_block B C) (new_block_stays_typed Σ ok W typed first free C tb.typed B m)
      (extends Σ ok W typed first free C tb.typed B m) υ
      (λ i A g. subst (TypeAt (onto B.some C.variables) (i + l)) (sym (substitution_as_renaming_type reduce (shift_by l) A)) (renames Σ ok W typed first free C tb.typed B m i A g))
      blocks
      (sym (all_renamed 0 (shift_by l) υ (λ i. refl) C.given))
      (local_moved (shift_by l) C.local)
      refl
      (sym (all_renamed 0 (lift_renaming_by (length C.local) (shift_by l)) (lift_over C.local υ) (lifted_keep C.local (shift_by l)) C.arguments))
    where
      l : ℕ
      l = length B.some

      υ : ℕ → Image
      υ i = keep (i + length B.some)

      blocks : (k : ℕ) (E : Block) (U : Spine) → block_at C.blocks k ≡ Some (record { block = E; terms = U }) → (block_at (with_new_block B C).blocks k ≡ Some (record { block = E; terms = substitute_spine reduce (λ i. keep (i + length B.some)) U })) × (first_constant first (blocks_of (with_new_block B C).blocks) k ≡ first_constant first (blocks_of C.blocks) k)
      blocks k E U q =
          let a = at_renamed first (shift_by (length B.some)) C.blocks k E U q in
          (earlier_at (rename_blocks (shift_by (length B.some)) C.blocks) (record { block = B; terms = local_arguments B.some } ∷ []) k _ a ∙ ap (λ V. Some (record { block = E; terms = V })) (sym (substitution_as_renaming_spine reduce (shift_by (length B.some)) U)), first_earlier first (rename_blocks (shift_by (length B.some)) C.blocks) (record { block = B; terms = local_arguments B.some } ∷ []) k _ a ∙ first_renamed first (shift_by (length B.some)) C.blocks k)

  run_stays : (below : ℕ → ℕ → Bool) (C D : NumberedCase) → IsTypedBesideByNumber Σ first W C p → ComesByNumbers Σ W first below C D → IsTypedBesideByNumber Σ first W D p
  run_stays below C _ tb no_split = tb
  run_stays below C _ tb (then_block {D = E} B r m) = block_stays E (run_stays below C E tb r) B m
  run_stays below C _ tb (then_split {D = E} x X h U A K after r at f e s) =
      let te : IsTypedBesideByNumber Σ first W E p = run_stays below C E tb r in
      let υ : ℕ → Image = λ i. answer_values after s.well_formed.order (i + arguments_count A) in
      let q : blocks_of (put_in_blocks υ E.blocks) ≡ blocks_of E.blocks = put_in_keeps υ E.blocks in
      let Σ₁ : Signature = with_entries Σ first (blocks_of E.blocks) in
      let D : NumberedCase = solved_numbered E (arguments_count A) after s.well_formed.order in
      put_in_stays Σ ok W typed first free p tp E te D (numbered_split_stays_typed Σ ok W typed first free below E te.typed x X at h U A f K e after s)
      (subst (λ Bs. Extends nothing Σ₁ (with_entries Σ first Bs)) (sym q) (Extends-self nothing Σ₁ (entries_signature Σ ok W typed first free E te.typed))) υ
      (subst (λ Bs. IsTypedSubstitution (with_entries Σ first Bs) E.variables D.variables υ) (sym q) (values_typed Σ ok W typed first free below E te.typed x X at h U A f K e after s))
      (λ k B V z. (put_block υ E.blocks k B V z, ap (λ Bs. first_constant first Bs k) q))
      refl refl refl refl

pub numbered_run_stays_beside : NumberedRunStaysBeside
numbered_run_stays_beside Σ ok W typed first free below p tp C tb D r = run_stays Σ ok W typed first free p tp below C D tb r

pub numbered_output_run_stays_beside : NumberedOutputRunStaysBeside
numbered_output_run_stays_beside Σ ok W typed first free below m c d U all_out closed i A sub needs sound none K e D r =
    numbered_run_stays_beside Σ ok W typed first free below (subgoal_pattern c (origin d) A) (subgoal_is_typed Σ ok W typed c d i A sub) _ (numbered_output_goal_is_beside Σ ok W typed first free below m c d U all_out closed i A sub needs sound none K e) D r
