-- The parts of a case whose block variables are one, over the signature that its tuple is written over.
use Rattle.std.proofs.Common.{◌≡◌, ℕ, zero, ◌+◌, List, [], ◌∷◌, sym, ap, ◌∙◌, subst, arith}
use Rattle.std.specs.Prelude.{Bool, Option, Some, None}
use Rattle.lf.specs.Syntax.{Term, Spine, nil, app, LfType, atom, Skeleton, base, arrow, skeleton}
use Rattle.lf.specs.Substitution.{Image, substitute_spine, substitute_type, reduce, after}
use Rattle.lf.specs.SkeletonTyping.{SpineSkeleton}
use Rattle.lf.specs.Skeletons.{constant_skeletons, context_skeletons}
use Rattle.lf.specs.Typing.{Signature, IsTypedSubstitution, ImageHasType, IsContext, IsSignature}
use Rattle.lf.specs.Variables.{onto}
use Rattle.lf.specs.Subordination.{Block}
use Rattle.lf.specs.Worlds.{World}
use Rattle.lf_unification.specs.Offering.{pi_over}
use Rattle.lf_cases.specs.Case.{behind_entries}
use Rattle.lf_coverage.specs.Heads.{HaveSkeletons}
use Rattle.lf_coverage.proofs.MoreConstants.{term_more}
use Rattle.lf_numbered.specs.EntryConstants.{with_entries}
use Rattle.lf_numbered.specs.NumberedCase.{NumberedCase, some_spine}
use Rattle.lf_numbered.specs.NumberedInstance.{block_at, moved_constant, move_all, move_spine, move_types}
use Rattle.lf_numbered.specs.OwnTerms.{BlockVariable, blocks_of}
use Rattle.lf_numbered.specs.TypedNumbered.{IsTypedNumberedCase}
use Rattle.lf_numbered.specs.WritingLaws.{IsInstanceWithRoom}
use Rattle.lf_numbered.proofs.EntrySignature.{grown_contexts}
use Rattle.lf_numbered.proofs.IdentifiedConstants.{all_stay, context_stays, spine_stays}
use Rattle.lf_numbered.proofs.MeetsTupleForms.{over_same}
use Rattle.lf_numbered.proofs.MeetsTupleWriting.{AreOne}
use Rattle.lf_numbered.proofs.MovedConstants.{contexts_kept, type_from}
use Rattle.lf_numbered.proofs.WritingInstance.{types_more, written_signature}
use Rattle.lf_numbered.proofs.WritingRead.{block_written, terms_fit, WritesAs}
use Rattle.lf_numbered.proofs.WritingReadTyped.{value_is_typed}

module _ (Σ Σ' : Signature) {W : List Block} {S : ℕ → Bool} {G : List LfType} (w : World Σ' W S G) (first : ℕ) (C : NumberedCase) (θ : ℕ → ℕ → Image) (σ : ℕ → Image) (r : IsInstanceWithRoom Σ w first C θ σ) (π : ℕ → ℕ) (one : AreOne C θ π) (tc : IsTypedNumberedCase Σ first W C) (F : List LfType) (ρ : ℕ → Image) (h : WritesAs Σ' first (blocks_of C.blocks) θ (moved_constant first (blocks_of C.blocks) (blocks_of C.blocks) π) G F ρ) where
  abbrev pub γ : ℕ → ℕ
  γ = moved_constant first (blocks_of C.blocks) (blocks_of C.blocks) π

  abbrev pub Σ₁ : Signature
  Σ₁ = with_entries Σ first (blocks_of C.blocks)

  abbrev pub Σe : Signature
  Σe = with_entries Σ' first (blocks_of C.blocks)

  abbrev pub Q : List LfType
  Q = move_types γ C.variables

  pub ok : IsSignature (with_entries Σ' first (blocks_of C.blocks))
  ok = written_signature Σ Σ' w first C θ σ r

  pub more : (c : ℕ) (A : LfType) → Σ₁.types c ≡ Some A → Σe.types c ≡ Some A
  more = types_more Σ Σ' w first C θ σ r

  pub cq : IsContext (with_entries Σ' first (blocks_of C.blocks)) Q
  cq = grown_contexts Σ₁ Σe more r.extends.kinds_stay Q (context_stays Σ r.signature W r.blocks first r.free C r.variables π one.identifies C.variables r.variables.variables)

  pub tψ : IsTypedSubstitution (with_entries Σ' first (blocks_of C.blocks)) Q F (after ρ σ)
  tψ i B g = let (A, k, e) = type_from γ C.variables i B g in subst (λ Z. ImageHasType Σe F (after ρ σ i) (substitute_type reduce (after ρ σ) Z)) (sym e) (value_is_typed Σ Σ' w first C θ σ r F ρ h i A k)

  arguments_grown : (Γ : List Skeleton) (Ms : List (Option Term)) → HaveSkeletons (constant_skeletons Σ₁) Γ Ms → HaveSkeletons (constant_skeletons Σe) Γ Ms
  arguments_grown Γ [] s = tt
  arguments_grown Γ (Some M ∷ Ms) ((t, m), s) = ((t, term_more Σ₁ Σe more Γ M t m), arguments_grown Γ Ms s)
  arguments_grown Γ (None ∷ Ms) s = arguments_grown Γ Ms s

  pub arguments_fit : (L : List LfType) (Ms : List (Option Term)) → HaveSkeletons (constant_skeletons Σ₁) (context_skeletons (onto L C.variables)) Ms → HaveSkeletons (constant_skeletons Σe) (context_skeletons (onto L Q)) (move_all γ Ms)
  arguments_fit L Ms s = subst (λ Γ. HaveSkeletons (constant_skeletons Σe) Γ (move_all γ Ms)) (over_same L C.variables Q (sym (contexts_kept γ C.variables))) (arguments_grown (context_skeletons (onto L C.variables)) (move_all γ Ms) (all_stay Σ r.signature W r.blocks first r.free C r.variables π one.identifies (context_skeletons (onto L C.variables)) Ms s))

  spine_grown : (Γ : List Skeleton) (S : Spine) (t u : Skeleton) → SpineSkeleton (constant_skeletons Σ₁) Γ S t u → SpineSkeleton (constant_skeletons Σe) Γ S t u
  spine_grown Γ nil t u s = s
  spine_grown Γ (app M S) (arrow a b) u (m, s) = (term_more Σ₁ Σe more Γ M a m, spine_grown Γ S b u s)
  spine_grown Γ (app M S) (base d) u s = absurd s

  -- the terms of a block variable
  pub block_fits : (j : ℕ) (b : BlockVariable) → block_at C.blocks j ≡ Some b → SpineSkeleton (constant_skeletons Σe) (context_skeletons Q) (move_spine γ b.terms) (skeleton (pi_over b.block.some (atom 0 nil))) (skeleton (atom 0 nil))
  block_fits j b e =
      let t : Skeleton = skeleton (pi_over b.block.some (atom 0 nil)) in
      let u : Skeleton = skeleton (atom 0 nil) in
      subst (λ Γ. SpineSkeleton (constant_skeletons Σe) Γ (move_spine γ b.terms) t u) (sym (contexts_kept γ C.variables)) (spine_grown (context_skeletons C.variables) (move_spine γ b.terms) t u (spine_stays Σ r.signature W r.blocks first r.free C r.variables π one.identifies (context_skeletons C.variables) b.terms t u (terms_fit Σ Σ' w first C θ σ r F ρ h j b e)))

  pub block_same : (j : ℕ) (b c : BlockVariable) → block_at C.blocks j ≡ Some b → block_at C.blocks (π j) ≡ Some c → c.block ≡ b.block → substitute_spine reduce (after ρ σ) (move_spine γ b.terms) ≡ substitute_spine reduce (after ρ σ) (move_spine γ c.terms)
  block_same j b c e f q =
      block_written Σ Σ' w first C θ σ r F ρ h j b e
      ∙ ap (λ φ. substitute_spine reduce ρ (some_spine b.block.some (behind_entries b.block.entries φ))) (ap θ (left j) ∙ sym (one.same j b e) ∙ ap θ (sym (left (π j))))
      ∙ ap (λ (B : Block). substitute_spine reduce ρ (some_spine B.some (behind_entries B.entries (θ (zero + π j))))) (sym q)
      ∙ sym (block_written Σ Σ' w first C θ σ r F ρ h (π j) c f)
    where
      left : (j : ℕ) → zero + j ≡ j
      left j = omega arith
