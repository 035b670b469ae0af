-- What a block variable of a typed case gives the variables of its block is typed, and on own terms.
use Rattle.std.proofs.Common.{◌≡◌, ℕ, zero, suc, List, [], ◌∷◌, length, ◌+◌, refl, sym, ap, ◌∙◌, subst, arith}
use Rattle.std.specs.Prelude.{Option, Some}
use Rattle.lf.specs.Syntax.{constant, Term, Spine, nil, app, LfType, skeleton}
use Rattle.lf.specs.Substitution.{Image, keep, put, substitute_type, reduce}
use Rattle.lf.specs.Eta.{eta_expand}
use Rattle.lf.specs.SkeletonTyping.{HeadSkeletons, ImageSkeleton, SubstitutionBySkeletons}
use Rattle.lf.specs.Skeletons.{constant_skeletons, family_skeletons, context_skeletons}
use Rattle.lf.specs.Typing.{Signature, TypeAt, ImageHasType, IsTypedSubstitution, SpineType, IsType, IsContext, IsSignature}
use Rattle.lf.specs.Variables.{onto, everything}
use Rattle.lf.specs.Subordination.{Block, Member, AreTypedBlocks}
use Rattle.lf.proofs.EtaTyping.{eta_expand_has_type}
use Rattle.lf.proofs.Growth.{growth_keeps_types}
use Rattle.lf.proofs.Partial.{uses_type_all}
use Rattle.lf.proofs.SkeletonTypes.{substitutions_compose_type}
use Rattle.lf.proofs.Substitution.{skeleton_context_of, substitution_keeps_types, typed_substitution_by_skeletons}
use Rattle.lf.proofs.ToSkeletons.{skeleton_has_variable, variable_has_skeleton, type_by_skeletons}
use Rattle.lf.proofs.TypeLaws.{skeleton_substituted, substitute_identity_type}
use Rattle.lf.proofs.Weakening.{declared_is_type}
use Rattle.lf_unification.specs.Offering.{pi_over, local_arguments}
use Rattle.lf_cases.specs.Case.{as_term}
use Rattle.lf_cases.specs.Cover.{place_of}
use Rattle.lf_cases.proofs.BlockEntries.{drop_typed}
use Rattle.lf_cases.proofs.LongValues.{term_typed, term_has_skeleton}
use Rattle.lf_coverage.proofs.Carried.{like_type}
use Rattle.lf_coverage.proofs.GroundTyped.{front_typed}
use Rattle.lf_coverage.proofs.ItemsContext.{outer_context}
use Rattle.lf_coverage.proofs.Parts.{some_same}
use Rattle.lf_numbered.specs.EntryConstants.{entry_constant, entry_images, entry_constant_type, entry_type, with_entries, IsFreeFrom}
use Rattle.lf_numbered.specs.EntryPatterns.{last_of, but_last, some_images}
use Rattle.lf_numbered.specs.EntryPatternsLaws.{VariableIsTyped}
use Rattle.lf_numbered.specs.NumberedCase.{NumberedCase, some_spine, AreSomeTerms, AreTypedBlockVariables, AreTypedVariables}
use Rattle.lf_numbered.specs.NumberedInstance.{block_at, first_constant}
use Rattle.lf_numbered.specs.OwnTerms.{BlockVariable, blocks_of, terms_at, terms_of_entry, own_terms, BeginsWith, OnOwnTerms, SpineOnOwnTerms, ImageOnOwnTerms}
use Rattle.lf_numbered.proofs.EntryPatternsOutside.{some_images_are, found_at_number}
use Rattle.lf_numbered.proofs.EntryPlaces.{whole, Rest, rest_next}
use Rattle.lf_numbered.proofs.EntrySignature.{else_second, locals_typed, entries_kept, with_entries_is_signature}
use Rattle.lf_numbered.proofs.EntryValues.{put_locals, after_entries, some_equal, some_typed}
use Rattle.lf_numbered.proofs.NumberedTyped.{append_nothing}
use Rattle.lf_numbered.proofs.OwnLong.{constant_own as own_long_constant}
use Rattle.lf_numbered.proofs.NumberedTypedFree.{among_worlds}
use Rattle.lf_numbered.proofs.OwnTerms.{entry_from}
use mathlib.Core.Path.{fun_ext}

pub terms_of_block : (bs : List BlockVariable) (k : ℕ) (b : BlockVariable) → block_at bs k ≡ Some b → terms_at bs k ≡ Some b.terms
terms_of_block [] k b e = absurd cc
terms_of_block (c ∷ bs) zero b e = ap (λ (d : BlockVariable). Some d.terms) (some_same e)
terms_of_block (c ∷ bs) (suc k) b e = terms_of_block bs k b e

pub typed_at : (Σ : Signature) (W : List Block) (X : List LfType) (o : ℕ → Option Spine) (bs : List BlockVariable) → AreTypedBlockVariables Σ W X o bs → (k : ℕ) (b : BlockVariable) → block_at bs k ≡ Some b → Member b.block W × AreSomeTerms Σ X b.block.some b.terms × SpineOnOwnTerms o b.terms
typed_at Σ W X o [] t k b e = absurd cc
typed_at Σ W X o (c ∷ bs) (m, u, p, t) zero b e = subst (λ (d : BlockVariable). Member d.block W × AreSomeTerms Σ X d.block.some d.terms × SpineOnOwnTerms o d.terms) (some_same e) (m, u, p)
typed_at Σ W X o (c ∷ bs) (m, u, p, t) (suc k) b e = typed_at Σ W X o bs t k b e

-- terms on own terms stand for `some` variables on own terms
last_own : (o : ℕ → Option Spine) (M : Term) (S : Spine) → OnOwnTerms o M → SpineOnOwnTerms o S → OnOwnTerms o (last_of M S)
last_own o M nil m s = m
last_own o M (app N S) m (n, s) = last_own o N S n s

others_own : (o : ℕ → Option Spine) (M : Term) (S : Spine) → OnOwnTerms o M → SpineOnOwnTerms o S → SpineOnOwnTerms o (but_last M S)
others_own o M nil m s = tt
others_own o M (app N S) m (n, s) = (m, others_own o N S n s)

images_own : (o : ℕ → Option Spine) (O : List LfType) (U : Spine) → SpineOnOwnTerms o U → (i : ℕ) → ImageOnOwnTerms o (some_images O U i)
images_own o [] U u i = tt
images_own o (A ∷ O) nil u i = tt
images_own o (A ∷ O) (app M U) (m, u) zero = last_own o M U m u
images_own o (A ∷ O) (app M U) (m, u) (suc i) = images_own o O (but_last M U) (others_own o M U m u) i

module _ (Σ : Signature) (ok : IsSignature Σ) (W : List Block) (typed : AreTypedBlocks Σ W) (first : ℕ) (free : IsFreeFrom Σ first) (C : NumberedCase) (tv : AreTypedVariables Σ first W C) (k : ℕ) (B : Block) (U : Spine) (p : block_at C.blocks k ≡ Some (record { block = B; terms = U })) where
  abbrev X : List LfType
  X = C.variables

  abbrev Bs : List Block
  Bs = blocks_of C.blocks

  abbrev Σ₁ : Signature
  Σ₁ = with_entries Σ first (blocks_of C.blocks)

  abbrev o : ℕ → Option Spine
  o = own_terms first C.blocks

  abbrev m : ℕ
  m = first_constant first (blocks_of C.blocks) k

  abbrev κ : HeadSkeletons
  κ = constant_skeletons Σ₁

  abbrev η : ℕ → Image
  η = some_images B.some U

  ok₁ : IsSignature Σ₁
  ok₁ = with_entries_is_signature Σ ok first free Bs (λ D i. typed D (among_worlds Σ ok W typed first free Σ₁ X o C.blocks tv.blocks D i))

  abbrev facts : Member B W × AreSomeTerms Σ₁ X B.some U × SpineOnOwnTerms o U
  facts = typed_at Σ₁ W X o C.blocks tv.blocks k (record { block = B; terms = U }) p

  abbrev υ : ℕ → Image
  υ = facts.1.0

  υ_typed : IsTypedSubstitution Σ₁ B.some X υ
  υ_typed = facts.1.1

  terms_are : U ≡ some_spine B.some υ
  terms_are = facts.1.2

  more : (D : List LfType) (A : LfType) → IsType Σ D A → IsType Σ₁ D A
  more D A t = growth_keeps_types Σ Σ₁ (entries_kept Σ first Bs) (λ b K q. q) D A t

  more_context : (D : List LfType) → IsContext Σ D → IsContext Σ₁ D
  more_context [] c = c
  more_context (A ∷ D) (c, a) = (more_context D c, more D A a)

  some₁ : IsContext Σ₁ B.some
  some₁ = more_context B.some (outer_context Σ B.entries B.some (typed B facts.0))

  -- the terms themselves
  η_is : (i : ℕ) (A : LfType) → TypeAt B.some i A → η i ≡ put (skeleton A) (as_term (skeleton A) (υ i))
  η_is i A g = ap (λ V. some_images B.some V i) terms_are ∙ some_images_are B.some υ i A g

  υ_fits : SubstitutionBySkeletons κ (context_skeletons B.some) (context_skeletons X) υ
  υ_fits = typed_substitution_by_skeletons Σ₁ ok₁ B.some X υ υ_typed

  η_fits : SubstitutionBySkeletons κ (context_skeletons B.some) (context_skeletons X) η
  η_fits i t g =
      let (A, h, e) = skeleton_has_variable B.some i t g in
      subst (λ y. ImageSkeleton κ (context_skeletons X) y t) (sym (η_is i A h)) (e, term_has_skeleton κ (context_skeletons X) (skeleton A) (υ i) (υ_fits i (skeleton A) (variable_has_skeleton B.some i A h)))

  η_typed : IsTypedSubstitution Σ₁ B.some X η
  η_typed i A g =
      let same : substitute_type reduce υ A ≡ substitute_type reduce η A = like_type Σ₁ B.some (context_skeletons X) everything υ η υ_fits η_fits (λ j D h u. ap (as_term (skeleton D)) (sym (η_is j D h))) A (declared_is_type Σ₁ ok₁ B.some i A some₁ g) (uses_type_all everything A (λ j. refl)) in
      subst (λ y. ImageHasType Σ₁ X y (substitute_type reduce η A)) (sym (η_is i A g)) (subst (ImageHasType Σ₁ X (put (skeleton A) (as_term (skeleton A) (υ i)))) same (skeleton_substituted reduce υ A, term_typed Σ₁ ok₁ X tv.variables (skeleton A) (υ i) (substitute_type reduce υ A) (skeleton_substituted reduce υ A) (υ_typed i A g)))

  spine_is : some_spine B.some η ≡ U
  spine_is = sym (terms_are ∙ some_equal B.some υ η (λ i A g. ap (as_term (skeleton A)) (sym (η_is i A g))))

  -- the constants of the entries
  found : (later : List LfType) (E : LfType) (es : List LfType) → onto later (E ∷ es) ≡ B.entries → entry_constant zero first Bs (m + length es) ≡ Some (record { number = zero + k; block = B; from = m; place = place_of later; entry = E; before = es })
  found later E es e = found_at_number zero first C.blocks k (record { block = B; terms = U }) p later E es e

  own_of : (later : List LfType) (E : LfType) (es : List LfType) → onto later (E ∷ es) ≡ B.entries → o (m + length es) ≡ Some U
  own_of later E es e = ap (terms_of_entry C.blocks) (found later E es e) ∙ ap (terms_at C.blocks) (none k) ∙ terms_of_block C.blocks k (record { block = B; terms = U }) p
    where
      none : (l : ℕ) → zero + l ≡ l
      none l = omega arith

  constant_in : (later : List LfType) (E : LfType) (es : List LfType) → onto later (E ∷ es) ≡ B.entries → Σ₁.types (m + length es) ≡ Some (entry_constant_type m B.some es E)
  constant_in later E es e = else_second (Σ.types (m + length es)) (entry_type (entry_constant zero first Bs (m + length es))) (Some (entry_constant_type m B.some es E)) (free.types_free (m + length es) (entry_from zero first Bs (m + length es) (record { number = zero + k; block = B; from = m; place = place_of later; entry = E; before = es }) (found later E es e))) (ap entry_type (found later E es e))

  entry_typed : (later : List LfType) (D : LfType) (ds : List LfType) → onto later (D ∷ ds) ≡ B.entries → IsContext Σ (onto ds B.some) × IsType Σ (onto ds B.some) D
  entry_typed later D ds e = drop_typed Σ later D (onto ds B.some) (subst (IsContext Σ) (whole B later D ds e) (typed B facts.0))

  -- on the `some` variables
  locals_fit : (later es : List LfType) → Rest B later es → IsContext Σ (onto es B.some) → IsTypedSubstitution Σ₁ (onto es B.some) B.some (entry_images m (local_arguments B.some) es keep)
  locals_fit later [] e c = λ i A g. subst (TypeAt B.some i) (sym (substitute_identity_type reduce A)) g
  locals_fit later (D ∷ ds) e (c, t) =
      let ι : ℕ → Image = entry_images m (local_arguments B.some) ds keep in
      let s : IsTypedSubstitution Σ₁ (onto ds B.some) B.some ι = locals_fit (onto later (D ∷ [])) ds (rest_next B later D ds e) c in
      let T : LfType = substitute_type reduce ι D in
      let t₁ : IsType Σ₁ B.some T = substitution_keeps_types Σ₁ ok₁ (onto ds B.some) B.some ι D (record { typed = s; source_skeletons = skeleton_context_of Σ₁ ok₁ (onto ds B.some) (more_context (onto ds B.some) c); target_skeletons = skeleton_context_of Σ₁ ok₁ B.some some₁ }) (more (onto ds B.some) D t) in
      let N : Term = eta_expand (skeleton D) (constant (m + length ds)) (local_arguments B.some) in
      front_typed Σ₁ ok₁ [] (λ F i. absurd i) (onto ds B.some) B.some D (put (skeleton D) N) ι s (skeleton_substituted reduce ι D, eta_expand_has_type Σ₁ ok₁ (skeleton D) B.some (constant (m + length ds)) (local_arguments B.some) (pi_over B.some T) T some₁ (skeleton_substituted reduce ι D) t₁ (constant_in later D ds (e D ds refl)) (locals_typed Σ₁ ok₁ B.some T some₁ t₁))

  -- and on the terms
  entries_fit : (later es : List LfType) → Rest B later es → IsTypedSubstitution Σ₁ (onto es B.some) X (entry_images m U es (some_images B.some U))
  entries_fit later [] e = η_typed
  entries_fit later (D ∷ ds) e =
      let q : onto later (D ∷ ds) ≡ B.entries = e D ds refl in
      let (c, t) = entry_typed later D ds q in
      let ω : ℕ → Image = entry_images m U ds (some_images B.some U) in
      let s : IsTypedSubstitution Σ₁ (onto ds B.some) X ω = entries_fit (onto later (D ∷ [])) ds (rest_next B later D ds e) in
      let ι : ℕ → Image = entry_images m (local_arguments B.some) ds keep in
      let l : IsTypedSubstitution Σ₁ (onto ds B.some) B.some ι = locals_fit (onto later (D ∷ [])) ds (rest_next B later D ds e) c in
      let t₁ : IsType Σ₁ (onto ds B.some) D = more (onto ds B.some) D t in
      let source = skeleton_context_of Σ₁ ok₁ (onto ds B.some) (more_context (onto ds B.some) c) in
      let T : LfType = substitute_type reduce ι D in
      let tT : IsType Σ₁ B.some T = substitution_keeps_types Σ₁ ok₁ (onto ds B.some) B.some ι D (record { typed = l; source_skeletons = source; target_skeletons = skeleton_context_of Σ₁ ok₁ B.some some₁ }) t₁ in
      let Z : LfType = substitute_type reduce ω D in
      let one : substitute_type reduce η T ≡ Z =
      substitutions_compose_type (family_skeletons Σ₁) κ (context_skeletons (onto ds B.some)) (context_skeletons B.some) (context_skeletons X) ι η D (typed_substitution_by_skeletons Σ₁ ok₁ (onto ds B.some) B.some ι l) η_fits (type_by_skeletons Σ₁ (onto ds B.some) D t₁)
      ∙ ap (λ ρ. substitute_type reduce ρ D) (fun_ext (after_entries m (local_arguments B.some) U ds keep η (put_locals κ B.some (context_skeletons X) η η_fits ∙ spine_is))) in
      let tZ : IsType Σ₁ X Z = substitution_keeps_types Σ₁ ok₁ (onto ds B.some) X ω D (record { typed = s; source_skeletons = source; target_skeletons = skeleton_context_of Σ₁ ok₁ X tv.variables }) t₁ in
      let sZ : SpineType Σ₁ X U (entry_constant_type m B.some ds D) Z = subst (λ V. SpineType Σ₁ X V (entry_constant_type m B.some ds D) Z) spine_is (subst (SpineType Σ₁ X (some_spine B.some η) (entry_constant_type m B.some ds D)) one (some_typed Σ₁ ok₁ X tv.variables B.some T η some₁ tT η_typed)) in
      let N : Term = eta_expand (skeleton D) (constant (m + length ds)) U in
      front_typed Σ₁ ok₁ [] (λ F i. absurd i) (onto ds B.some) X D (put (skeleton D) N) ω s (skeleton_substituted reduce ω D, eta_expand_has_type Σ₁ ok₁ (skeleton D) X (constant (m + length ds)) U (entry_constant_type m B.some ds D) Z tv.variables (skeleton_substituted reduce ω D) tZ (constant_in later D ds q) sZ)

  entries_own : (later es : List LfType) → Rest B later es → (i : ℕ) → ImageOnOwnTerms o (entry_images m U es (some_images B.some U) i)
  entries_own later [] e i = images_own o B.some U facts.2 i
  entries_own later (D ∷ ds) e zero = own_long_constant o (skeleton D) (m + length ds) U (subst (λ u. BeginsWith u U) (sym (own_of later D ds (e D ds refl))) (nil, append_nothing U)) facts.2
  entries_own later (D ∷ ds) e (suc i) = entries_own (onto later (D ∷ [])) ds (rest_next B later D ds e) i

  all_entries : Rest B [] B.entries
  all_entries D ds e = sym e

pub variable_is_typed : VariableIsTyped
variable_is_typed Σ ok W typed first free C tv k B U p = (
  entries_fit Σ ok W typed first free C tv k B U p [] B.entries (all_entries Σ ok W typed first free C tv k B U p),
  entries_own Σ ok W typed first free C tv k B U p [] B.entries (all_entries Σ ok W typed first free C tv k B U p),
)
