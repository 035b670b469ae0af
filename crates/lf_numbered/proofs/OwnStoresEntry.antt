-- The constant of an entry on its block variable's terms: they are typed and on own terms, and so is the type that is left.
use Rattle.std.proofs.Common.{◌≡◌, ℕ, zero, suc, List, [], ◌∷◌, length, ◌+◌, Option, Some, None, refl, sym, ap, ◌∙◌, subst, arith}
use Rattle.lf.specs.Syntax.{constant, Term, Spine, nil, app, LfType, pi, atom, Skeleton, skeleton}
use Rattle.lf.specs.Substitution.{Image, keep, put, substitute_type, reduce}
use Rattle.lf.specs.Eta.{eta_expand}
use Rattle.lf.specs.SkeletonTyping.{SubstitutionBySkeletons}
use Rattle.lf.specs.Skeletons.{constant_skeletons, family_skeletons, context_skeletons}
use Rattle.lf.specs.Typing.{Signature, TypeAt, IsTypedSubstitution, SpineType, instantiate_type, IsType, IsContext, IsSignature}
use Rattle.lf.specs.Variables.{onto}
use Rattle.lf.specs.Subordination.{Block, Member, AreTypedBlocks, IsTypedBlock}
use Rattle.lf.proofs.EtaTyping.{eta_expand_has_type}
use Rattle.lf.proofs.Growth.{growth_keeps_types}
use Rattle.lf.proofs.SkeletonTypes.{substitutions_compose_type}
use Rattle.lf.proofs.Substitution.{skeleton_context_of, substitution_keeps_types, typed_substitution_by_skeletons}
use Rattle.lf.proofs.ToSkeletons.{type_by_skeletons}
use Rattle.lf.proofs.TypeLaws.{skeleton_substituted, substitute_identity_type}
use Rattle.lf_unification.specs.Offering.{pi_over, local_arguments}
use Rattle.lf_cases.specs.Cover.{place_of}
use Rattle.lf_cases.proofs.BlockEntries.{drop_typed, onto_onto}
use Rattle.lf_coverage.proofs.GroundTyped.{front_typed}
use Rattle.lf_coverage.proofs.ItemsContext.{outer_context}
use Rattle.lf_coverage.proofs.Parts.{none_some, some_same}
use Rattle.lf_numbered.specs.EntryConstants.{EntryConstant, entry_among, entry_constant, entry_images, entry_constant_type, entry_type, with_entries, IsFreeFrom}
use Rattle.lf_numbered.specs.NumberedCase.{NumberedCase, some_spine, AreSomeTerms, AreTypedBlockVariables, AreTypedVariables}
use Rattle.lf_numbered.specs.OwnStores.{left_type}
use Rattle.lf_numbered.specs.OwnTerms.{BlockVariable, blocks_of, terms_at, terms_of_entry, own_terms, BeginsWith, OnOwnTerms, SpineOnOwnTerms, TypeOnOwnTerms, ImageOnOwnTerms}
use Rattle.lf_numbered.proofs.EntryFound.{PlacedAmong, placed_among, among_at, EachBlock, entry_found}
use Rattle.lf_numbered.proofs.EntryPlaces.{whole}
use Rattle.lf_numbered.proofs.EntrySignature.{else_second, locals_typed, entries_kept, with_entries_is_signature}
use Rattle.lf_numbered.proofs.EntryValues.{put_locals, after_entries, some_own, some_typed}
use Rattle.lf_numbered.proofs.NumberedTyped.{put_old_type}
use Rattle.lf_numbered.proofs.NumberedTypedFree.{among_worlds, old_own}
use Rattle.lf_numbered.proofs.OwnForms.{append_nothing}
use Rattle.lf_numbered.proofs.OwnLong.{constant_own}
use Rattle.lf_numbered.proofs.OwnTerms.{entry_from}
use mathlib.Core.Path.{fun_ext}

-- what is left of a type
pub left_is : (Σ : Signature) (G : List LfType) (S : Spine) (A C : LfType) → SpineType Σ G S A C → left_type S A ≡ C
left_is Σ G nil A C e = e
left_is Σ G (app M S) (pi A B) C (m, s) = left_is Σ G S (instantiate_type A M B) C s
left_is Σ G (app M S) (atom a T) C s = absurd s

module _ (Σ : Signature) (ok : IsSignature Σ) (W : List Block) (typed : AreTypedBlocks Σ W) (first : ℕ) (free : IsFreeFrom Σ first) (C : NumberedCase) (tv : AreTypedVariables Σ first W C) where
  abbrev Bs : List Block
  Bs = blocks_of C.blocks

  abbrev Σ₁ : Signature
  Σ₁ = with_entries Σ first (blocks_of C.blocks)

  abbrev X : List LfType
  X = C.variables

  abbrev o : ℕ → Option Spine
  o = own_terms first C.blocks

  pub ok₁ : IsSignature (with_entries Σ first (blocks_of C.blocks))
  ok₁ = with_entries_is_signature Σ ok first free Bs (λ B m. typed B (among_worlds Σ ok W typed first free Σ₁ X o C.blocks tv.blocks B m))

  -- what is known of the constant c and its own terms U
  pub record OwnHead (c : ℕ) (U : Spine) : Type 0 where
    pub some : List LfType
    pub inner : LfType
    pub values : ℕ → Image
    pub type : (with_entries Σ first (blocks_of C.blocks)).types c ≡ Some (pi_over some inner)
    pub some_context : IsContext (with_entries Σ first (blocks_of C.blocks)) some
    pub inner_type : IsType (with_entries Σ first (blocks_of C.blocks)) some inner
    pub values_typed : IsTypedSubstitution (with_entries Σ first (blocks_of C.blocks)) some C.variables values
    pub terms : U ≡ some_spine some values
    pub terms_own : SpineOnOwnTerms (own_terms first C.blocks) U
    pub spine_typed : SpineType (with_entries Σ first (blocks_of C.blocks)) C.variables U (pi_over some inner) (substitute_type reduce values inner)
    pub left_own : TypeOnOwnTerms (own_terms first C.blocks) (substitute_type reduce values inner)

  more_context : (D : List LfType) → IsContext Σ D → IsContext Σ₁ D
  more_context [] c = c
  more_context (A ∷ D) (c, a) = (more_context D c, growth_keeps_types Σ Σ₁ (entries_kept Σ first Bs) (λ b K q. q) D A a)

  module _ (k : ℕ) (B : Block) (m : ℕ) (U : Spine) (υ : ℕ → Image) (ct : IsTypedBlock Σ B) (ut : IsTypedSubstitution (with_entries Σ first (blocks_of C.blocks)) B.some C.variables υ) (ue : U ≡ some_spine B.some υ) (uo : SpineOnOwnTerms (own_terms first C.blocks) U) (at : terms_at C.blocks k ≡ Some U) (found : (later : List LfType) (E : LfType) (es : List LfType) → onto later (E ∷ es) ≡ B.entries → entry_constant zero first (blocks_of C.blocks) (m + length es) ≡ Some (record { number = k; block = B; from = m; place = place_of later; entry = E; before = es })) where
    constant_in : (l : List LfType) (D : LfType) (ds : List LfType) → onto l (D ∷ ds) ≡ B.entries → Σ₁.types (m + length ds) ≡ Some (entry_constant_type m B.some ds D)
    constant_in l D ds q = else_second (Σ.types (m + length ds)) (entry_type (entry_constant zero first Bs (m + length ds))) (Some (entry_constant_type m B.some ds D)) (free.types_free (m + length ds) (entry_from zero first Bs (m + length ds) (record { number = k; block = B; from = m; place = place_of l; entry = D; before = ds }) (found l D ds q))) (ap entry_type (found l D ds q))

    own_in : (l : List LfType) (D : LfType) (ds : List LfType) → onto l (D ∷ ds) ≡ B.entries → o (m + length ds) ≡ Some U
    own_in l D ds q = ap (terms_of_entry C.blocks) (found l D ds q) ∙ at

    abbrev Rest : List LfType → List LfType → Type 0
    Rest l ds = (D : LfType) (fs : List LfType) → ds ≡ D ∷ fs → onto l (D ∷ fs) ≡ B.entries

    rest_next : (l : List LfType) (D : LfType) (ds : List LfType) → Rest l (D ∷ ds) → Rest (onto l (D ∷ [])) ds
    rest_next l D ds q F fs r = onto_onto l (D ∷ []) (F ∷ fs) ∙ ap (λ gs. onto l (D ∷ gs)) (sym r) ∙ q D ds refl

    locals_fit : (l ds : List LfType) → Rest l ds → IsContext Σ (onto ds B.some) → IsTypedSubstitution Σ₁ (onto ds B.some) B.some (entry_images m (local_arguments B.some) ds keep)
    locals_fit l [] q c = λ i A g. subst (TypeAt B.some i) (sym (substitute_identity_type reduce A)) g
    locals_fit l (D ∷ ds) q (c, t) =
        let ι : ℕ → Image = entry_images m (local_arguments B.some) ds keep in
        let s : IsTypedSubstitution Σ₁ (onto ds B.some) B.some ι = locals_fit (onto l (D ∷ [])) ds (rest_next l D ds q) c in
        let c₁ : IsContext Σ₁ (onto ds B.some) = more_context (onto ds B.some) c in
        let o₁ : IsContext Σ₁ B.some = more_context B.some (outer_context Σ ds B.some c) in
        let T : LfType = substitute_type reduce ι D in
        let t₁ : IsType Σ₁ B.some T = substitution_keeps_types Σ₁ ok₁ (onto ds B.some) B.some ι D (record { typed = s; source_skeletons = skeleton_context_of Σ₁ ok₁ (onto ds B.some) c₁; target_skeletons = skeleton_context_of Σ₁ ok₁ B.some o₁ }) (growth_keeps_types Σ Σ₁ (entries_kept Σ first Bs) (λ b K r. r) (onto ds B.some) D t) in
        let N : Term = eta_expand (skeleton D) (constant (m + length ds)) (local_arguments B.some) in
        front_typed Σ₁ ok₁ [] (λ F i. absurd i) (onto ds B.some) B.some D (put (skeleton D) N) ι s (skeleton_substituted reduce ι D, eta_expand_has_type Σ₁ ok₁ (skeleton D) B.some (constant (m + length ds)) (local_arguments B.some) (pi_over B.some T) T o₁ (skeleton_substituted reduce ι D) t₁ (constant_in l D ds (q D ds refl)) (locals_typed Σ₁ ok₁ B.some T o₁ t₁))

    value_own : (y : Image) (a : Skeleton) → OnOwnTerms o (Rattle.lf_cases.specs.Case.as_term a y) → ImageOnOwnTerms o y
    value_own (keep j) a h = tt
    value_own (put b N) a h = h

    images_own : (l es : List LfType) → Rest l es → (i : ℕ) (A : LfType) → TypeAt (onto es B.some) i A → ImageOnOwnTerms o (entry_images m U es υ i)
    images_own l [] q i A g = value_own (υ i) (skeleton A) (some_own o B.some υ (subst (SpineOnOwnTerms o) ue uo) i A g)
    images_own l (D ∷ ds) q zero A g = constant_own o (skeleton D) (m + length ds) U (subst (λ u. BeginsWith u U) (sym (own_in l D ds (q D ds refl))) (nil, append_nothing U)) uo
    images_own l (D ∷ ds) q (suc i) A (F, g, r) = images_own (onto l (D ∷ [])) ds (rest_next l D ds q) i F g

    own_entry : (later : List LfType) (E : LfType) (es : List LfType) → onto later (E ∷ es) ≡ B.entries → OwnHead (m + length es) U
    own_entry later E es e =
        let L : List LfType = onto es B.some in
        let (cL, tE) : IsContext Σ (onto es B.some) × IsType Σ (onto es B.some) E = drop_typed Σ later E (onto es B.some) (subst (IsContext Σ) (whole B later E es e) ct) in
        let rest : Rest (onto later (E ∷ [])) es = λ D ds q. onto_onto later (E ∷ []) (D ∷ ds) ∙ ap (λ l. onto later (E ∷ l)) (sym q) ∙ e in
        let κ = constant_skeletons Σ₁ in
        let ι : ℕ → Image = entry_images m (local_arguments B.some) es keep in
        let lo : IsTypedSubstitution Σ₁ (onto es B.some) B.some ι = locals_fit (onto later (E ∷ [])) es rest cL in
        let sc : IsContext Σ₁ B.some = more_context B.some (outer_context Σ es B.some cL) in
        let tE₁ : IsType Σ₁ (onto es B.some) E = growth_keeps_types Σ Σ₁ (entries_kept Σ first Bs) (λ b K r. r) (onto es B.some) E tE in
        let T : LfType = substitute_type reduce ι E in
        let tT : IsType Σ₁ B.some T = substitution_keeps_types Σ₁ ok₁ (onto es B.some) B.some ι E (record { typed = lo; source_skeletons = skeleton_context_of Σ₁ ok₁ (onto es B.some) (more_context (onto es B.some) cL); target_skeletons = skeleton_context_of Σ₁ ok₁ B.some sc }) tE₁ in
        let kι : SubstitutionBySkeletons κ (context_skeletons (onto es B.some)) (context_skeletons B.some) ι = typed_substitution_by_skeletons Σ₁ ok₁ (onto es B.some) B.some ι lo in
        let kυ : SubstitutionBySkeletons κ (context_skeletons B.some) (context_skeletons X) υ = typed_substitution_by_skeletons Σ₁ ok₁ B.some X υ ut in
        let both : substitute_type reduce υ T ≡ substitute_type reduce (entry_images m U es υ) E =
        substitutions_compose_type (family_skeletons Σ₁) κ (context_skeletons (onto es B.some)) (context_skeletons B.some) (context_skeletons X) ι υ E kι kυ (type_by_skeletons Σ₁ (onto es B.some) E tE₁)
        ∙ ap (λ ρ. substitute_type reduce ρ E) (fun_ext (after_entries m (local_arguments B.some) U es keep υ (put_locals κ B.some (context_skeletons X) υ kυ ∙ sym ue))) in
        record {
          some = B.some;
          inner = T;
          values = υ;
          type = constant_in later E es e;
          some_context = sc;
          inner_type = tT;
          values_typed = ut;
          terms = ue;
          terms_own = uo;
          spine_typed = subst (λ V. SpineType Σ₁ X V (pi_over B.some T) (substitute_type reduce υ T)) (sym ue) (some_typed Σ₁ ok₁ X tv.variables B.some T υ sc tT ut);
          left_own = subst (TypeOnOwnTerms o) (sym both) (put_old_type Σ (onto es B.some) o (entry_images m U es υ) E (old_own Σ ok W typed first free C.blocks) (images_own (onto later (E ∷ [])) es rest) tE);
        }

  -- each block variable, with its terms
  abbrev Known : ℕ → BlockVariable → Type 0
  Known k b = Member b.block W × AreSomeTerms (with_entries Σ first (blocks_of C.blocks)) C.variables b.block.some b.terms × SpineOnOwnTerms (own_terms first C.blocks) b.terms

  each_known : (k : ℕ) (bs : List BlockVariable) → AreTypedBlockVariables Σ₁ W X o bs → EachBlock Known k bs
  each_known k [] h = tt
  each_known k (b ∷ bs) (m, u, p, h) = ((m, u, p), each_known (suc k) bs h)

  -- THE lemma
  pub own_head : (c : ℕ) (U : Spine) → own_terms first C.blocks c ≡ Some U → OwnHead c U
  own_head c U q = by (entry_constant zero first Bs c) refl
    where
      by : (x : Option EntryConstant) → entry_constant zero first (blocks_of C.blocks) c ≡ x → OwnHead c U
      by None e = absurd (none_some (sym (ap (terms_of_entry C.blocks) e) ∙ q))
      by (Some x) e =
          let f = entry_found Known zero first C.blocks c x e (each_known zero C.blocks tv.blocks) in
          let B : Block = f.variable.block in
          let p : PlacedAmong x.number B x.from zero B.entries c x = placed_among x.number B x.from zero B.entries c x f.among in
          let (m, (υ, ut, ue), uo) = f.fact in
          let left : (k : ℕ) → zero + k ≡ k = λ k. omega arith in
          let at : terms_at C.blocks x.number ≡ Some f.variable.terms = ap (terms_at C.blocks) (f.number ∙ left f.index) ∙ f.terms in
          let same : f.variable.terms ≡ U = some_same (sym at ∙ sym (ap (terms_of_entry C.blocks) e) ∙ q) in
          let found : (l : List LfType) (D : LfType) (ds : List LfType) → onto l (D ∷ ds) ≡ B.entries → entry_constant zero first Bs (x.from + length ds) ≡ Some (record { number = x.number; block = B; from = x.from; place = place_of l; entry = D; before = ds }) = λ l D ds r. f.others (x.from + length ds) (record { number = x.number; block = B; from = x.from; place = place_of l; entry = D; before = ds }) (subst (λ fs. entry_among x.number B x.from zero fs (x.from + length ds) ≡ Some (record { number = x.number; block = B; from = x.from; place = place_of l; entry = D; before = ds })) r (among_at x.number B x.from zero l D ds ∙ ap (λ j. Some (record { number = x.number; block = B; from = x.from; place = j; entry = D; before = ds })) (left (place_of l)))) in
          subst (OwnHead c) same (subst (λ d. OwnHead d f.variable.terms) (sym p.constant) (own_entry x.number B x.from f.variable.terms υ (typed B m) ut ue uo at found p.later x.entry x.before p.entries))
