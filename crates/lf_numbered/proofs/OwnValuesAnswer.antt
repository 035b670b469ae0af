-- A typed unifier on own terms, read back, is a ground instance of the answer.
use Rattle.std.proofs.Common.{◌≡◌, ℕ, zero, ◌+◌, List, [], length, Option, Some, sym, ap, ◌∙◌, subst}
use Rattle.std.specs.Prelude.{Bool}
use Rattle.lf.specs.SkeletonTyping.{TermSkeleton, SubstitutionBySkeletons}
use Rattle.lf.specs.Skeletons.{constant_skeletons, context_skeletons}
use Rattle.lf.specs.Substitution.{Image, put, substitute, substitute_image, reduce}
use Rattle.lf.specs.Subordination.{Block}
use Rattle.lf.specs.Syntax.{Term, Spine, LfType, Skeleton, skeleton, rename}
use Rattle.lf.specs.Typing.{Signature, TypeAt, IsTypedSubstitution, IsSignature}
use Rattle.lf.specs.Worlds.{World}
use Rattle.lf.proofs.SkeletonTyping.{substitution_keeps_skeletons}
use Rattle.lf.proofs.Substitution.{typed_substitution_by_skeletons}
use Rattle.lf.proofs.ToSkeletons.{skeleton_has_variable}
use Rattle.lf_unification.specs.Dependency.{free_context, values}
use Rattle.lf_unification.specs.OpenTyping.{skeletons_of}
use Rattle.lf_unification.specs.Skeletons.{skeleton_or_default}
use Rattle.lf_unification.specs.Solving.{IsWellFormed, Solved}
use Rattle.lf_unification.specs.Unifiers.{Solution, Store}
use Rattle.lf_unification.proofs.StepLemmas.{value_of}
use Rattle.lf_coverage.specs.SplitStore.{answer_image, answer_values}
use Rattle.lf_coverage.proofs.Parts.{some_same}
use Rattle.lf_numbered.specs.NumberedCase.{NumberedCase, AreTypedBlockVariables, AreGroundValues, AreInstances}
use Rattle.lf_numbered.specs.OwnTerms.{BlockVariable, blocks_of, own_terms, TypeOnOwnTerms, put_in_blocks}
use Rattle.lf_numbered.specs.OwnValues.{ValuesOnOwnTerms}
use Rattle.lf_numbered.specs.OwnValuesAnswer.{AreValuesUnder, AnswerInstance, AnswerIsInstance}
use Rattle.lf_numbered.specs.OwnValuesReading.{ReadBackKeepsTyping, AreReadAs, AreReadInstances, SolvedReadBack}
use Rattle.lf_numbered.specs.Reading.{read, entry_reading}
use Rattle.lf_numbered.proofs.OwnTerms.{put_in_keeps as same_blocks}
use Rattle.lf_numbered.proofs.OwnValuesBack.{solved_is_read_back}
use Rattle.lf_numbered.proofs.OwnValuesInstances.{instances_are_read_back}
use Rattle.lf_numbered.proofs.OwnValuesTerms.{answer_keeps_own_terms, term_after}

module _ (Σ₁ Σ' : Signature) (ok₁ : IsSignature Σ₁) (W V : List Block) (S : ℕ → Bool) (G : List LfType) (w : World Σ' V S G) (first : ℕ) (bs : List BlockVariable) (θ : ℕ → ℕ → Image) (X F : List LfType) (f : ℕ → Option (ℕ × ℕ)) (ρ : ℕ → ℕ) (p : ℕ → Option Spine) (t : AreTypedBlockVariables Σ₁ W X p bs) (τ : ℕ → Image) (keeps : ReadBackKeepsTyping Σ₁ Σ' F G f (own_terms first (put_in_blocks τ bs)) ρ) (reads : AreReadAs first (blocks_of bs) f ρ θ) (is : AreReadInstances w f ρ τ θ zero bs) (before after : Store) (wf : IsWellFormed Σ₁ before) (s : Solved Σ₁ before after) (β : ℕ → Option Term) (u : Solution Σ₁ [] before F β) (own : ValuesOnOwnTerms (own_terms first (put_in_blocks τ bs)) before.metavariables β) (k : ℕ) (vs : AreValuesUnder X k before.metavariables β τ) where
  abbrev O : List LfType
  O = free_context (skeletons_of after.metavariables) s.well_formed.order

  abbrev α : ℕ → Image
  α i = answer_values after s.well_formed.order (i + k)

  -- the answer's values, with the values of its free variables put in, are those of the case's variables
  values_after : (ι : ℕ → Image) → ((m : ℕ) (A : LfType) → before.metavariables m ≡ Some A → (N : Term) × (values (skeletons_of after.metavariables) s.well_formed.order m ≡ Some N) × (β m ≡ Some (substitute reduce ι N))) → (i : ℕ) (A : LfType) → TypeAt X i A → τ i ≡ substitute_image ι (answer_values after s.well_formed.order (i + k))
  values_after ι h i A g =
      let (B, Y, d, e, q, y) = vs i A g in
      let (N, n, z) = h (i + k) B d in
      let a : skeletons_of after.metavariables (i + k) ≡ skeleton A = ap skeleton_or_default (s.keeps.grows (i + k) B d) ∙ e in
      q ∙ ap (put (skeleton A)) (some_same (sym y ∙ z)) ∙ sym (ap (substitute_image ι) (ap (answer_image (skeletons_of after.metavariables (i + k))) n ∙ ap (λ b. put b N) a))

  module _ (sα : IsTypedSubstitution Σ₁ X O α) (types : (i : ℕ) (A : LfType) → TypeAt O i A → TypeOnOwnTerms (own_terms first (put_in_blocks α bs)) A) where
    back : SolvedReadBack Σ₁ Σ' first (blocks_of bs) θ f ρ before.metavariables after s.well_formed.order F G β
    back = solved_is_read_back Σ₁ Σ' ok₁ first (blocks_of bs) F G f (own_terms first (put_in_blocks τ bs)) ρ keeps θ reads before after wf s β u own
        (λ c i A g. answer_keeps_own_terms Σ₁ ok₁ first W X O F p bs t α sα c.images c.typed τ (values_after c.images (λ m B d. c.same m B d)) c.on_own_terms A (types i A g))

    -- the answer's values of the metavariables, and terms over X
    by_answer : (m : ℕ) (A : LfType) → before.metavariables m ≡ Some A → (N : Term) × (values (skeletons_of after.metavariables) s.well_formed.order m ≡ Some N) × (β m ≡ Some (substitute reduce back.images N))
    by_answer m A d =
        let (Y, e, y) = value_of Σ₁ [] before.metavariables F β u.0 m A d in
        let (N, n, z, x) = back.same m A Y d e in
        (N, n, e ∙ ap Some z)

    fα : SubstitutionBySkeletons (constant_skeletons Σ₁) (context_skeletons X) (context_skeletons O) α
    fα = typed_substitution_by_skeletons Σ₁ ok₁ X O α sα

    terms : (M : Term) (a : Skeleton) → TermSkeleton (constant_skeletons Σ₁) (context_skeletons X) M a → substitute reduce back.back.values (read (entry_reading first (blocks_of bs) θ (length O)) (substitute reduce α M)) ≡ rename ρ (read f (substitute reduce τ M))
    terms M a m =
        back.back.same (substitute reduce α M) a (substitution_keeps_skeletons (constant_skeletons Σ₁) (context_skeletons X) (context_skeletons O) α M a fα m)
        ∙ ap (λ N. rename ρ (read f N)) (term_after (constant_skeletons Σ₁) (context_skeletons X) (context_skeletons O) (context_skeletons F) α back.images τ fα (typed_substitution_by_skeletons Σ₁ ok₁ O F back.images back.typed) (λ i c g. let (A, h, e) = skeleton_has_variable X i c g in values_after back.images by_answer i A h) M a m)

    instances : AreInstances w (entry_reading first (blocks_of bs) θ (length O)) back.back.values θ zero (put_in_blocks α bs)
    instances = instances_are_read_back Σ₁ Σ' ok₁ W V S X O F G w first (blocks_of bs) θ f ρ α back.images τ sα back.typed (values_after back.images by_answer) back.back p bs t is

    result : (D : NumberedCase) → D.variables ≡ O → D.blocks ≡ put_in_blocks α bs → AnswerInstance Σ₁ w first θ f ρ X k τ D before.metavariables after s.well_formed.order β
    result D x b =
        let Bs : blocks_of bs ≡ blocks_of D.blocks = sym (ap blocks_of b ∙ same_blocks α bs) in
        record {
          values_of = back.back.values;
          is_instance = record {
            values = subst (λ Z. AreGroundValues Σ' G (entry_reading first (blocks_of D.blocks) θ) Z back.back.values) (sym x) (subst (λ Cs. AreGroundValues Σ' G (entry_reading first Cs θ) O back.back.values) Bs back.back.ground);
            instances = subst (λ Z. AreInstances w (entry_reading first (blocks_of D.blocks) θ (length Z)) back.back.values θ zero D.blocks) (sym x) (subst (λ cs. AreInstances w (entry_reading first (blocks_of D.blocks) θ (length O)) back.back.values θ zero cs) (sym b) (subst (λ Cs. AreInstances w (entry_reading first Cs θ (length O)) back.back.values θ zero (put_in_blocks α bs)) Bs instances));
          };
          same = λ m A Y d e.
              let (N, n, z, q) = back.same m A Y d e in
              (N, n, subst (λ Z. substitute reduce back.back.values (read (entry_reading first (blocks_of D.blocks) θ (length Z)) N) ≡ rename ρ (read f Y)) (sym x) (subst (λ Cs. substitute reduce back.back.values (read (entry_reading first Cs θ (length O)) N) ≡ rename ρ (read f Y)) Bs q));
          terms = λ M a m. subst (λ Z. substitute reduce back.back.values (read (entry_reading first (blocks_of D.blocks) θ (length Z)) (substitute reduce α M)) ≡ rename ρ (read f (substitute reduce τ M))) (sym x) (subst (λ Cs. substitute reduce back.back.values (read (entry_reading first Cs θ (length O)) (substitute reduce α M)) ≡ rename ρ (read f (substitute reduce τ M))) Bs (terms M a m));
        }

pub answer_is_instance : AnswerIsInstance
answer_is_instance Σ₁ Σ' ok₁ W V S G w first bs θ X F f ρ p t τ keeps reads is before after wf s β u own k vs D x b sα types =
    let O : List LfType = free_context (skeletons_of after.metavariables) s.well_formed.order in
    let α : ℕ → Image = λ i. answer_values after s.well_formed.order (i + k) in
    result Σ₁ Σ' ok₁ W V S G w first bs θ X F f ρ p t τ keeps reads is before after wf s β u own k vs (subst (λ Z. IsTypedSubstitution Σ₁ X Z α) x sα) (λ i A g. subst (λ cs. TypeOnOwnTerms (own_terms first cs) A) b (types i A (subst (λ Z. TypeAt Z i A) (sym x) g))) D x b
