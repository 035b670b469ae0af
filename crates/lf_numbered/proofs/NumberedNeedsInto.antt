-- Values that are put in step by step are put in at once: where a case comes from another by typed values on own terms, and a further one from it.
use Rattle.std.proofs.Common.{◌≡◌, ℕ, ◌++◌, List, [], ◌∷◌, refl, sym, ap, ap₂, ◌∙◌, subst}
use Rattle.lf.specs.Syntax.{Term, LfType, skeleton}
use Rattle.lf.specs.Substitution.{Image, keep, put, substitute, substitute_image, substitute_spine, substitute_type, reduce, after}
use Rattle.lf.specs.SkeletonTyping.{SubstitutionBySkeletons}
use Rattle.lf.specs.Skeletons.{constant_skeletons, family_skeletons, context_skeletons}
use Rattle.lf.specs.Typing.{Signature, TypeAt, HasType, ImageHasType, IsType, IsTypedSubstitution, IsSignature}
use Rattle.lf.specs.Variables.{nothing, onto}
use Rattle.lf.specs.Subordination.{Block, AreTypedBlocks}
use Rattle.lf.specs.Worlds.{lift_over, instance}
use Rattle.lf.specs.Extension.{Extends}
use Rattle.lf.proofs.ExtensionTyping.{extension_keeps_contexts, extensions_compose}
use Rattle.lf.proofs.Growth.{growth_keeps_types, growth_keeps_typing}
use Rattle.lf.proofs.SkeletonTypes.{substitutions_compose_type, substitution_keeps_types_by_skeletons}
use Rattle.lf.proofs.Substitution.{TypedSubstitution, skeleton_context_of, substitution_keeps_typing, typed_substitution_by_skeletons}
use Rattle.lf.proofs.ToSkeletons.{type_by_skeletons, variable_has_skeleton}
use Rattle.lf.proofs.TypeLaws.{skeleton_substituted}
use Rattle.lf.proofs.Weakening.{declared_is_type}
use Rattle.lf_cases.specs.Case.{as_term}
use Rattle.lf_cases.specs.Missing.{put_in}
use Rattle.lf_coverage.proofs.InstancesCompose.{local_twice, term_twice, terms_twice}
use Rattle.lf_coverage.proofs.Transfer.{lift_instance, have_more}
use Rattle.lf_numbered.specs.EntryConstants.{with_entries, IsFreeFrom}
use Rattle.lf_numbered.specs.NumberedCase.{NumberedCase, AreTypedBlockVariables}
use Rattle.lf_numbered.specs.OwnTerms.{BlockVariable, blocks_of, own_terms, OnOwnTerms, put_in_blocks}
use Rattle.lf_numbered.specs.TypedNumbered.{IsTypedNumberedCase}
use Rattle.lf_numbered.proofs.EntryPatternsMatching.{entries_signature}
use Rattle.lf_numbered.proofs.EntryValues.{put_add as put_last}
use Rattle.lf_numbered.proofs.OwnValuesInstances.{some_mapped, term_fits}

-- D is C with typed values on own terms put in, and perhaps further block variables behind.
pub record IsPutInto (Σ : Signature) (first : ℕ) (C D : NumberedCase) : Type 0 where
  pub values : ℕ → Image
  pub further : List BlockVariable
  pub more : Extends nothing (with_entries Σ first (blocks_of C.blocks)) (with_entries Σ first (blocks_of D.blocks))
  pub blocks : D.blocks ≡ put_in_blocks values C.blocks ++ further
  pub given : D.given ≡ put_in values C.given
  pub local : D.local ≡ instance C.local values
  pub family : D.family ≡ C.family
  pub arguments : D.arguments ≡ put_in (lift_over C.local values) C.arguments
  pub terms : (i : ℕ) (A : LfType) → TypeAt C.variables i A → (N : Term) × (values i ≡ put (skeleton A) N) × HasType (with_entries Σ first (blocks_of D.blocks)) D.variables N (substitute_type reduce values A) × OnOwnTerms (own_terms first D.blocks) N

joined : (bs cs ds : List BlockVariable) → (bs ++ cs) ++ ds ≡ bs ++ (cs ++ ds)
joined [] cs ds = refl
joined (b ∷ bs) cs ds = ap (λ es. b ∷ es) (joined bs cs ds)

put_joined : (ρ : ℕ → Image) (bs cs : List BlockVariable) → put_in_blocks ρ (bs ++ cs) ≡ put_in_blocks ρ bs ++ put_in_blocks ρ cs
put_joined ρ [] cs = refl
put_joined ρ (b ∷ bs) cs = ap (λ es. record { block = b.block; terms = substitute_spine reduce ρ b.terms } ∷ es) (put_joined ρ bs cs)

-- One more step: E is D with values put in, which keep typed terms on own terms, and perhaps block variables behind.
module _ (Σ : Signature) (ok : IsSignature Σ) (W : List Block) (typed : AreTypedBlocks Σ W) (first : ℕ) (free : IsFreeFrom Σ first) (C D E : NumberedCase) (tc : IsTypedNumberedCase Σ first W C) (td : IsTypedNumberedCase Σ first W D) (te : IsTypedNumberedCase Σ first W E) (i : IsPutInto Σ first C D) (x : Extends nothing (with_entries Σ first (blocks_of D.blocks)) (with_entries Σ first (blocks_of E.blocks))) (ρ : ℕ → Image) (ts : IsTypedSubstitution (with_entries Σ first (blocks_of E.blocks)) D.variables E.variables ρ) (own : (N : Term) (A : LfType) → HasType (with_entries Σ first (blocks_of D.blocks)) D.variables N A → OnOwnTerms (own_terms first D.blocks) N → OnOwnTerms (own_terms first E.blocks) (substitute reduce ρ N)) (fs : List BlockVariable) (eb : E.blocks ≡ put_in_blocks ρ D.blocks ++ fs) (eg : E.given ≡ put_in ρ D.given) (el : E.local ≡ instance D.local ρ) (ef : E.family ≡ D.family) (ea : E.arguments ≡ put_in (lift_over D.local ρ) D.arguments) where
  abbrev Σ₁ : Signature
  Σ₁ = with_entries Σ first (blocks_of C.blocks)

  abbrev Σ₂ : Signature
  Σ₂ = with_entries Σ first (blocks_of E.blocks)

  abbrev υ : ℕ → Image
  υ = i.values

  whole_more : Extends nothing Σ₁ Σ₂
  whole_more = extensions_compose nothing Σ₁ (with_entries Σ first (blocks_of D.blocks)) Σ₂ i.more x

  ok₁ : IsSignature Σ₁
  ok₁ = entries_signature Σ ok W typed first free C tc

  ok₂ : IsSignature Σ₂
  ok₂ = entries_signature Σ ok W typed first free E te

  type_there : (G : List LfType) (A : LfType) → IsType Σ₁ G A → IsType Σ₂ G A
  type_there G A t = growth_keeps_types Σ₁ Σ₂ whole_more.types_stay whole_more.kinds_stay G A t

  first_typed : IsTypedSubstitution Σ₂ C.variables D.variables υ
  first_typed j A h =
      let (N, q, n, m) = i.terms j A h in
      subst (λ y. ImageHasType Σ₂ D.variables y (substitute_type reduce υ A)) (sym q) (skeleton_substituted reduce υ A, growth_keeps_typing (with_entries Σ first (blocks_of D.blocks)) Σ₂ x.types_stay x.kinds_stay D.variables N (substitute_type reduce υ A) n)

  first_fits : SubstitutionBySkeletons (constant_skeletons Σ₂) (context_skeletons C.variables) (context_skeletons D.variables) υ
  first_fits = typed_substitution_by_skeletons Σ₂ ok₂ C.variables D.variables υ first_typed

  next_fits : SubstitutionBySkeletons (constant_skeletons Σ₂) (context_skeletons D.variables) (context_skeletons E.variables) ρ
  next_fits = typed_substitution_by_skeletons Σ₂ ok₂ D.variables E.variables ρ ts

  next_typed : TypedSubstitution Σ₂ ok₂ D.variables E.variables ρ
  next_typed = record {
    typed = ts;
    source_skeletons = skeleton_context_of Σ₂ ok₂ D.variables (extension_keeps_contexts nothing (with_entries Σ first (blocks_of D.blocks)) Σ₂ x D.variables td.variables.variables);
    target_skeletons = skeleton_context_of Σ₂ ok₂ E.variables te.variables.variables;
  }

  blocks_twice : (bs : List BlockVariable) → AreTypedBlockVariables Σ₁ W C.variables (own_terms first C.blocks) bs → put_in_blocks ρ (put_in_blocks υ bs) ≡ put_in_blocks (after ρ υ) bs
  blocks_twice [] t = refl
  blocks_twice (b ∷ bs) (m, (τ, u, z), w, t) = ap₂ (λ U cs. record { block = b.block; terms = U } ∷ cs) (ap (λ S. substitute_spine reduce ρ (substitute_spine reduce υ S)) z ∙ some_mapped (λ S. substitute_spine reduce ρ (substitute_spine reduce υ S)) (substitute_spine reduce (after ρ υ)) (λ N. substitute reduce ρ (substitute reduce υ N)) (substitute reduce (after ρ υ)) refl (λ S N. ap (substitute_spine reduce ρ) (put_last υ S N) ∙ put_last ρ (substitute_spine reduce υ S) (substitute reduce υ N)) (put_last (after ρ υ)) b.block.some τ each ∙ ap (substitute_spine reduce (after ρ υ)) (sym z)) (blocks_twice bs t)
    where
      fits : SubstitutionBySkeletons (constant_skeletons Σ₂) (context_skeletons b.block.some) (context_skeletons C.variables) τ
      fits = typed_substitution_by_skeletons Σ₂ ok₂ b.block.some C.variables τ (λ j A h. image_there (τ j) (substitute_type reduce τ A) (u j A h))
        where
          image_there : (y : Image) (A : LfType) → ImageHasType Σ₁ C.variables y A → ImageHasType Σ₂ C.variables y A
          image_there (keep j) A h = h
          image_there (put a N) A (e, n) = (e, growth_keeps_typing Σ₁ Σ₂ whole_more.types_stay whole_more.kinds_stay C.variables N A n)

      each : (j : ℕ) (A : LfType) → TypeAt b.block.some j A → substitute reduce ρ (substitute reduce υ (as_term (skeleton A) (τ j))) ≡ substitute reduce (after ρ υ) (as_term (skeleton A) (τ j))
      each j A h = term_twice Σ₂ C.variables D.variables E.variables υ ρ first_fits next_fits [] (as_term (skeleton A) (τ j)) (skeleton A) (term_fits (constant_skeletons Σ₂) (context_skeletons C.variables) (skeleton A) (τ j) (fits j (skeleton A) (variable_has_skeleton b.block.some j A h)))

  type_twice : (A : LfType) → IsType Σ₁ C.variables A → substitute_type reduce ρ (substitute_type reduce υ A) ≡ substitute_type reduce (after ρ υ) A
  type_twice A t = substitutions_compose_type (family_skeletons Σ₂) (constant_skeletons Σ₂) (context_skeletons C.variables) (context_skeletons D.variables) (context_skeletons E.variables) υ ρ A first_fits next_fits (type_by_skeletons Σ₂ C.variables A (type_there C.variables A t))

  next_terms : (j : ℕ) (A : LfType) → TypeAt C.variables j A → (N : Term) × (after ρ υ j ≡ put (skeleton A) N) × HasType Σ₂ E.variables N (substitute_type reduce (after ρ υ) A) × OnOwnTerms (own_terms first E.blocks) N
  next_terms j A h =
      let (N, q, n, m) = i.terms j A h in
      let t : IsType Σ₁ C.variables A = declared_is_type Σ₁ ok₁ C.variables j A tc.variables.variables h in
      let k = substitution_keeps_types_by_skeletons (family_skeletons Σ₂) (constant_skeletons Σ₂) (context_skeletons C.variables) (context_skeletons D.variables) υ A first_fits (type_by_skeletons Σ₂ C.variables A (type_there C.variables A t)) in (
        substitute reduce ρ N,
        ap (substitute_image ρ) q,
        subst (HasType Σ₂ E.variables (substitute reduce ρ N)) (type_twice A t) (substitution_keeps_typing Σ₂ ok₂ D.variables E.variables ρ N (substitute_type reduce υ A) next_typed k (growth_keeps_typing (with_entries Σ first (blocks_of D.blocks)) Σ₂ x.types_stay x.kinds_stay D.variables N (substitute_type reduce υ A) n)),
        own N (substitute_type reduce υ A) n m,
      )

  -- The lemma
  pub put_into_twice : IsPutInto Σ first C E
  put_into_twice = record {
    values = after ρ υ;
    further = put_in_blocks ρ i.further ++ fs;
    more = whole_more;
    blocks = eb ∙ ap (λ bs. put_in_blocks ρ bs ++ fs) i.blocks ∙ ap (λ bs. bs ++ fs) (put_joined ρ (put_in_blocks υ C.blocks) i.further) ∙ joined (put_in_blocks ρ (put_in_blocks υ C.blocks)) (put_in_blocks ρ i.further) fs ∙ ap (λ bs. bs ++ (put_in_blocks ρ i.further ++ fs)) (blocks_twice C.blocks tc.variables.blocks);
    given = eg ∙ ap (put_in ρ) i.given ∙ terms_twice Σ₂ C.variables D.variables E.variables υ ρ first_fits next_fits [] C.given (have_more nothing Σ₁ Σ₂ whole_more (context_skeletons C.variables) C.given tc.given);
    local = el ∙ ap (λ L. instance L ρ) i.local ∙ local_twice Σ₂ C.variables D.variables E.variables υ ρ first_fits next_fits C.local (extension_keeps_contexts nothing Σ₁ Σ₂ whole_more (onto C.local C.variables) tc.local);
    family = ef ∙ i.family;
    arguments = ea ∙ ap₂ (λ L Ms. put_in (lift_over L ρ) Ms) i.local i.arguments ∙ ap (λ f. put_in f (put_in (lift_over C.local υ) C.arguments)) (lift_instance C.local υ ρ) ∙ terms_twice Σ₂ C.variables D.variables E.variables υ ρ first_fits next_fits C.local C.arguments (have_more nothing Σ₁ Σ₂ whole_more (context_skeletons (onto C.local C.variables)) C.arguments tc.arguments);
    terms = next_terms;
  }
