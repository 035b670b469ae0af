-- Values over the written context, read back, are a ground instance.
use Rattle.std.proofs.Common.{◌≡◌, ℕ, zero, suc, List, [], ◌∷◌, ◌+◌, length, Option, Some, None, refl, sym, ap, ap₂, ◌∙◌, subst, arith}
use Rattle.std.specs.Prelude.{Bool}
use Rattle.lf.specs.Syntax.{constant, variable, metavariable, Term, Spine, lambda, root, nil, app, LfType, skeleton, weaken, rename, rename_spine, rename_type}
use Rattle.lf.specs.Substitution.{Image, keep, put, rename_image, substitute, substitute_spine, substitute_type, reduce, after}
use Rattle.lf.specs.Typing.{Signature, TypeAt, ImageHasType, HasType, IsType, IsContext, IsSignature}
use Rattle.lf.specs.Subordination.{Block}
use Rattle.lf.specs.Worlds.{World}
use Rattle.lf.proofs.Renaming.{reduction_is_natural, rename_substituted, rename_substituted_spine}
use Rattle.lf.proofs.Substitution.{skeleton_context_of, substitution_keeps_types}
use Rattle.lf.proofs.TypeLaws.{skeleton_renamed, rename_substituted_type, substitute_renamed_type}
use Rattle.lf.proofs.Weakening.{declared_is_type}
use Rattle.lf_cases.specs.Case.{behind_entries}
use Rattle.lf_cases.specs.Cover.{InstanceIn}
use Rattle.lf_coverage.proofs.Parts.{some_same}
use Rattle.lf_coverage.proofs.RootValues.{front_is}
use Rattle.lf_numbered.specs.EntryConstants.{EntryConstant, entry_constant, with_entries}
use Rattle.lf_numbered.specs.NumberedCase.{NumberedCase, some_spine, AreGroundValues, AreInstances, IsNumberedInstance, value_in}
use Rattle.lf_numbered.specs.NumberedInstance.{block_at}
use Rattle.lf_numbered.specs.OwnTerms.{BlockVariable, blocks_of, own_terms, OnOwnTerms, TypeOnOwnTerms, put_in_blocks}
use Rattle.lf_numbered.specs.Reading.{read, read_spine, read_type, read_entry, variable_past, entry_reading}
use Rattle.lf_numbered.specs.Writing.{IsWriting, back_over, read_back}
use Rattle.lf_numbered.specs.WritingInstances.{image_back, AreValuesOver, ReadBackIsInstance}
use Rattle.lf_numbered.specs.WritingLaws.{IsInstanceWithRoom}
use Rattle.lf_numbered.proofs.EntryPlaces.{entry_is}
use Rattle.lf_numbered.proofs.EntrySignature.{grown_contexts}
use Rattle.lf_numbered.proofs.Reading.{OnlyConstants, SpineOnlyConstants, FollowsRead, read_image, read_substituted, read_spine_substituted, read_type_substituted, read_type_renamed, any_type}
use Rattle.lf_numbered.proofs.ReadValues.{reading_next}
use Rattle.lf_numbered.proofs.WritingBack.{back_far}
use Rattle.lf_numbered.proofs.WritingBackTyped.{back_typed}
use Rattle.lf_numbered.proofs.WritingInstance.{instance_at, types_more, written_signature}
use Rattle.lf_numbered.proofs.WritingOwn.{entry_instance, terms_written}
use Rattle.lf_numbered.proofs.WritingSome.{instance_back}
use mathlib.Core.Path.{fun_ext}

-- any constant
mutual
  any_term : (M : Term) → OnlyConstants (λ c. Unit {0}) M
  any_term (lambda M) = any_term M
  any_term (root (constant c) S) = (tt, any_spine S)
  any_term (root (variable i) S) = any_spine S
  any_term (root (metavariable m) S) = any_spine S

  any_spine : (S : Spine) → SpineOnlyConstants (λ c. Unit {0}) S
  any_spine nil = tt
  any_spine (app M S) = (any_term M, any_spine S)

-- Values that are typed all together are so one after another.
ground_values : (Σ : Signature) (G : List LfType) (first : ℕ) (Bs : List Block) (θ : ℕ → ℕ → Image) (X : List LfType) (σ : ℕ → Image) → ((i : ℕ) → σ (i + length X) ≡ keep i) → ((i : ℕ) (A : LfType) → TypeAt X i A → (N : Term) × (σ i ≡ put (skeleton A) N) × HasType Σ G N (substitute_type reduce σ (read_type (entry_reading first Bs θ (length X)) A))) → AreGroundValues Σ G (entry_reading first Bs θ) X σ
ground_values Σ G first Bs θ [] σ p f = fun_ext (λ i. ap σ (none i) ∙ p i)
  where
    none : (i : ℕ) → i ≡ i + 0
    none i = omega arith
ground_values Σ G first Bs θ (A ∷ X) σ p f =
    let υ : ℕ → Image = λ i. σ (suc i) in
    let (N, e, n) = f zero (weaken A) refl in
    (N, υ, ground_values Σ G first Bs θ X υ (λ i. ap σ (next i (length X)) ∙ p i) (λ i B g. let (M, q, m) = f (suc i) (weaken B) (B, g, refl) in (M, q ∙ ap (λ a. put a M) (skeleton_renamed suc B), subst (HasType Σ G M) (moved B) m)), subst (HasType Σ G N) (moved A) n, front_is σ (put (skeleton A) N) (e ∙ ap (λ a. put a N) (skeleton_renamed suc A)))
  where
    next : (i n : ℕ) → suc (i + n) ≡ i + suc n
    next i n = omega arith

    moved : (B : LfType) → substitute_type reduce σ (read_type (entry_reading first Bs θ (suc (length X))) (weaken B)) ≡ substitute_type reduce (λ i. σ (suc i)) (read_type (entry_reading first Bs θ (length X)) B)
    moved B = ap (substitute_type reduce σ) (read_type_renamed (entry_reading first Bs θ (length X)) (entry_reading first Bs θ (suc (length X))) suc B (reading_next first Bs θ (length X))) ∙ substitute_renamed_type reduce σ suc (read_type (entry_reading first Bs θ (length X)) B)

-- block variables that become the same
first_is : {b c : BlockVariable} {bs cs : List BlockVariable} → b ∷ bs ≡ c ∷ cs → b ≡ c
first_is e = cc

rest_is : {b c : BlockVariable} {bs cs : List BlockVariable} → b ∷ bs ≡ c ∷ cs → bs ≡ cs
rest_is e = cc

same_blocks : (τ υ : ℕ → Image) (ds cs : List BlockVariable) → put_in_blocks τ ds ≡ put_in_blocks υ cs → blocks_of ds ≡ blocks_of cs
same_blocks τ υ [] [] e = refl
same_blocks τ υ [] (c ∷ cs) e = absurd cc
same_blocks τ υ (d ∷ ds) [] e = absurd cc
same_blocks τ υ (d ∷ ds) (c ∷ cs) e = ap₂ (λ B Bs. B ∷ Bs) (ap (λ (x : BlockVariable). x.block) (first_is e)) (same_blocks τ υ ds cs (rest_is e))

matching_block : (τ υ : ℕ → Image) (ds cs : List BlockVariable) → put_in_blocks τ ds ≡ put_in_blocks υ cs → (j : ℕ) (d : BlockVariable) → block_at ds j ≡ Some d → (c : BlockVariable) × (block_at cs j ≡ Some c) × (d.block ≡ c.block) × (substitute_spine reduce τ d.terms ≡ substitute_spine reduce υ c.terms)
matching_block τ υ [] cs e j d q = absurd cc
matching_block τ υ (b ∷ ds) [] e j d q = absurd cc
matching_block τ υ (b ∷ ds) (c ∷ cs) e zero d q = (c, refl, ap (λ (x : BlockVariable). x.block) (sym (some_same q)) ∙ ap (λ (x : BlockVariable). x.block) (first_is e), ap (λ (x : BlockVariable). substitute_spine reduce τ x.terms) (sym (some_same q)) ∙ ap (λ (x : BlockVariable). x.terms) (first_is e))
matching_block τ υ (b ∷ ds) (c ∷ cs) e (suc j) d q = matching_block τ υ ds cs (rest_is e) j d q

instances_of : {Σ : Signature} {W : List Block} {S : ℕ → Bool} {G : List LfType} (w : World Σ W S G) (f : ℕ → Option (ℕ × ℕ)) (σ : ℕ → Image) (θ : ℕ → ℕ → Image) (k : ℕ) (bs : List BlockVariable) → ((j : ℕ) (b : BlockVariable) → block_at bs j ≡ Some b → InstanceIn w b.block (θ (k + j)) × (some_spine b.block.some (behind_entries b.block.entries (θ (k + j))) ≡ substitute_spine reduce σ (read_spine f b.terms))) → AreInstances w f σ θ k bs
instances_of w f σ θ k [] h = tt
instances_of w f σ θ k (b ∷ bs) h =
    let (i, e) = subst (λ m. InstanceIn w b.block (θ m) × (some_spine b.block.some (behind_entries b.block.entries (θ m)) ≡ substitute_spine reduce σ (read_spine f b.terms))) (none k) (h zero b refl) in
    (i, e, instances_of w f σ θ (suc k) bs (λ j d q. subst (λ m. InstanceIn w d.block (θ m) × (some_spine d.block.some (behind_entries d.block.entries (θ m)) ≡ substitute_spine reduce σ (read_spine f d.terms))) (next k j) (h (suc j) d q)))
  where
    none : (k : ℕ) → k + 0 ≡ k
    none k = omega arith

    next : (k j : ℕ) → k + suc j ≡ suc k + j
    next k j = omega arith

module _ (Σ Σ' : Signature) {W : List Block} {S : ℕ → Bool} {G : List LfType} (w : World Σ' W S G) (first : ℕ) (C : NumberedCase) (θ : ℕ → ℕ → Image) (σ : ℕ → Image) (r : IsInstanceWithRoom Σ w first C θ σ) (F : List LfType) (ρ : ℕ → Image) (back : ℕ → ℕ) (h : IsWriting Σ' first (blocks_of C.blocks) θ G F ρ back) (D : NumberedCase) (τ : ℕ → Image) (d : AreValuesOver Σ w first C σ F ρ D τ) where
  abbrev Bs : List Block
  Bs = blocks_of C.blocks

  abbrev Σe : Signature
  Σe = with_entries Σ' first (blocks_of C.blocks)

  abbrev fF : ℕ → Option (ℕ × ℕ)
  fF = entry_reading first (blocks_of C.blocks) θ (length F)

  abbrev β : ℕ → ℕ
  β = back_over (length F) back

  abbrev oF : ℕ → Option Spine
  oF = own_terms first (put_in_blocks (after ρ σ) C.blocks)

  abbrev σ' : ℕ → Image
  σ' i = image_back first (blocks_of C.blocks) θ F back (τ i)

  blocks_are : blocks_of D.blocks ≡ blocks_of C.blocks
  blocks_are = same_blocks τ (after ρ σ) D.blocks C.blocks d.blocks

  image_is : (x : Image) → rename_image β (read_image fF x) ≡ image_back first (blocks_of C.blocks) θ F back x
  image_is (keep i) = refl
  image_is (put a N) = refl

  images_are : (λ i. rename_image β (read_image fF (τ i))) ≡ σ'
  images_are = fun_ext (λ i. image_is (τ i))

  follows : (c : ℕ) → Unit {0} → FollowsRead τ (entry_reading first (blocks_of C.blocks) θ (length D.variables) c) (fF c)
  follows c u = by (entry_constant zero first (blocks_of C.blocks) c) refl
    where
      by : (y : Option EntryConstant) → entry_constant zero first (blocks_of C.blocks) c ≡ y → FollowsRead τ (read_entry θ (length D.variables) y) (read_entry θ (length F) y)
      by None q = tt
      by (Some e) q =
          let (i, later, en, pl) = entry_instance Σ Σ' w first C θ σ r F ρ back h c e q in
          let (v, k) = entry_is Σ' r.extends.ok w e.block (θ e.number) i later e.entry e.before en in
          subst (λ y. (length e.block.some ≡ length e.block.some) × (τ (variable_past (length D.variables) y) ≡ keep (variable_past (length F) y))) (sym (ap (θ e.number) pl ∙ k)) (refl, d.behind v)

  -- what is read under the values, and what is read back
  pub term_is : (M : Term) → value_in first D θ σ' M ≡ read_back first (blocks_of C.blocks) θ F back (substitute reduce τ M)
  term_is M =
      ap (λ Ds. substitute reduce σ' (read (entry_reading first Ds θ (length D.variables)) M)) blocks_are
      ∙ ap (λ υ. substitute reduce υ (read (entry_reading first (blocks_of C.blocks) θ (length D.variables)) M)) (sym images_are)
      ∙ sym (rename_substituted reduce reduction_is_natural β (λ i. read_image fF (τ i)) (read (entry_reading first (blocks_of C.blocks) θ (length D.variables)) M))
      ∙ ap (rename β) (sym (read_substituted (λ c. Unit {0}) (entry_reading first (blocks_of C.blocks) θ (length D.variables)) fF τ M follows (any_term M)))

  spine_is : (U : Spine) → substitute_spine reduce σ' (read_spine (entry_reading first (blocks_of D.blocks) θ (length D.variables)) U) ≡ rename_spine β (read_spine fF (substitute_spine reduce τ U))
  spine_is U =
      ap (λ Ds. substitute_spine reduce σ' (read_spine (entry_reading first Ds θ (length D.variables)) U)) blocks_are
      ∙ ap (λ υ. substitute_spine reduce υ (read_spine (entry_reading first (blocks_of C.blocks) θ (length D.variables)) U)) (sym images_are)
      ∙ sym (rename_substituted_spine reduce reduction_is_natural β (λ i. read_image fF (τ i)) (read_spine (entry_reading first (blocks_of C.blocks) θ (length D.variables)) U))
      ∙ ap (rename_spine β) (sym (read_spine_substituted (λ c. Unit {0}) (entry_reading first (blocks_of C.blocks) θ (length D.variables)) fF τ U follows (any_spine U)))

  type_is : (A : LfType) → substitute_type reduce σ' (read_type (entry_reading first (blocks_of D.blocks) θ (length D.variables)) A) ≡ rename_type β (read_type fF (substitute_type reduce τ A))
  type_is A =
      ap (λ Ds. substitute_type reduce σ' (read_type (entry_reading first Ds θ (length D.variables)) A)) blocks_are
      ∙ ap (λ υ. substitute_type reduce υ (read_type (entry_reading first (blocks_of C.blocks) θ (length D.variables)) A)) (sym images_are)
      ∙ sym (rename_substituted_type reduce reduction_is_natural β (λ i. read_image fF (τ i)) (read_type (entry_reading first (blocks_of C.blocks) θ (length D.variables)) A))
      ∙ ap (rename_type β) (sym (read_type_substituted (λ c. Unit {0}) (entry_reading first (blocks_of C.blocks) θ (length D.variables)) fF τ A follows (any_type A)))

  -- The values
  variables_typed : IsContext Σe D.variables
  variables_typed = grown_contexts (with_entries Σ first (blocks_of C.blocks)) Σe (types_more Σ Σ' w first C θ σ r) r.extends.kinds_stay D.variables (subst (λ Ds. IsContext (with_entries Σ first Ds) D.variables) blocks_are d.variables)

  values : (i : ℕ) (A : LfType) → TypeAt D.variables i A → (N : Term) × (σ' i ≡ put (skeleton A) N) × HasType Σ' G N (substitute_type reduce σ' (read_type (entry_reading first (blocks_of D.blocks) θ (length D.variables)) A))
  values i A g =
      let (N, e) = d.terms i A g in
      let ok : IsSignature Σe = written_signature Σ Σ' w first C θ σ r in
      let n : HasType Σe F N (substitute_type reduce τ A) = (subst (λ y. ImageHasType Σe F y (substitute_type reduce τ A)) e (d.typed i A g)).1 in
      let own : OnOwnTerms oF N = subst (Rattle.lf_numbered.specs.OwnTerms.ImageOnOwnTerms oF) e (d.on_own_terms i) in
      let t : IsType Σe F (substitute_type reduce τ A) = substitution_keeps_types Σe ok D.variables F τ A (record { typed = d.typed; source_skeletons = skeleton_context_of Σe ok D.variables variables_typed; target_skeletons = skeleton_context_of Σe ok F h.context }) (declared_is_type Σe ok D.variables i A variables_typed g) in
      let o : TypeOnOwnTerms oF (substitute_type reduce τ A) = d.types_on_own_terms i A g in
      (rename β (read fF N), ap (image_back first (blocks_of C.blocks) θ F back) e, subst (HasType Σ' G (rename β (read fF N))) (sym (type_is A)) (back_typed Σ Σ' w first C θ σ r F ρ back h N (substitute_type reduce τ A) t o n own))

  past : (i : ℕ) → σ' (i + length D.variables) ≡ keep i
  past i = ap (image_back first (blocks_of C.blocks) θ F back) (d.behind i) ∙ ap keep (back_far (length F) back i)

  -- The instances
  instances : (j : ℕ) (b : BlockVariable) → block_at D.blocks j ≡ Some b → InstanceIn w b.block (θ (zero + j)) × (some_spine b.block.some (behind_entries b.block.entries (θ (zero + j))) ≡ substitute_spine reduce σ' (read_spine (entry_reading first (blocks_of D.blocks) θ (length D.variables)) b.terms))
  instances j b e =
      let (c, q, p, t) = matching_block τ (after ρ σ) D.blocks C.blocks d.blocks j b e in
      let i : InstanceIn w c.block (θ (zero + j)) = (instance_at Σ Σ' w first C θ σ r j c q).0 in
      let same : some_spine c.block.some (behind_entries c.block.entries (θ (zero + j))) ≡ substitute_spine reduce σ' (read_spine (entry_reading first (blocks_of D.blocks) θ (length D.variables)) b.terms) =
      sym (instance_back Σ Σ' w first C θ σ r F ρ back h c.block (θ (zero + j)) i)
      ∙ ap (λ U. rename_spine β (read_spine fF U)) (terms_written Σ Σ' w first C θ σ r F ρ back h j c q ∙ sym t)
      ∙ sym (spine_is b.terms) in
      (subst (λ (B : Block). InstanceIn w B (θ (zero + j))) (sym p) i, ap (λ (B : Block). some_spine B.some (behind_entries B.entries (θ (zero + j)))) p ∙ same)

  pub back_instance : IsNumberedInstance w first D θ σ'
  back_instance = record {
    values = ground_values Σ' G first (blocks_of D.blocks) θ D.variables σ' past values;
    instances = instances_of w (entry_reading first (blocks_of D.blocks) θ (length D.variables)) σ' θ zero D.blocks instances;
  }

pub read_back_is_instance : ReadBackIsInstance
read_back_is_instance Σ Σ' W S G w first C θ σ r F ρ back h D τ d = (back_instance Σ Σ' w first C θ σ r F ρ back h D τ d, term_is Σ Σ' w first C θ σ r F ρ back h D τ d)
