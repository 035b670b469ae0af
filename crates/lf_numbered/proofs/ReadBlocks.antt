-- The entries of one block variable of a case, read under a ground instance: their constants are read as what stands for them.
use Rattle.std.proofs.Common.{◌≡◌, ℕ, zero, suc, List, [], ◌∷◌, length, ◌+◌, Option, Some, None, inl, inr, refl, sym, ap, ◌∙◌, subst}
use Rattle.std.specs.Prelude.{Bool}
use Rattle.lf.specs.Syntax.{constant, variable, Term, Spine, nil, LfType, Skeleton, skeleton}
use Rattle.lf.specs.Substitution.{Image, keep, put, substitute, substitute_spine, substitute_image, substitute_type, reduce, after}
use Rattle.lf.specs.Eta.{eta_expand, eta_long}
use Rattle.lf.specs.SkeletonTyping.{HeadSkeletons, SkeletonAt, TermSkeleton, ImageSkeleton, TypeBySkeletons, SubstitutionBySkeletons}
use Rattle.lf.specs.Skeletons.{constant_skeletons, family_skeletons, context_skeletons}
use Rattle.lf.specs.Typing.{Signature, TypeAt, IsTypedSubstitution, SpineType, IsType, IsContext, IsSignature}
use Rattle.lf.specs.Variables.{onto}
use Rattle.lf.specs.Subordination.{Block, Member, AreTypedBlocks, IsTypedBlock}
use Rattle.lf.specs.Worlds.{World}
use Rattle.lf.specs.Extension.{Extends}
use Rattle.lf.proofs.Agreement.{agree_on_type}
use Rattle.lf.proofs.AtOnce.{eta_long_has_skeleton}
use Rattle.lf.proofs.Eta.{substitute_eta_expand}
use Rattle.lf.proofs.EtaTyping.{eta_expand_has_type}
use Rattle.lf.proofs.ExtensionTyping.{extension_keeps_types}
use Rattle.lf.proofs.Growth.{growth_keeps_types}
use Rattle.lf.proofs.Kept.{typed_uses_type}
use Rattle.lf.proofs.SkeletonTypes.{substitutions_compose_type, substitution_keeps_types_by_skeletons}
use Rattle.lf.proofs.Substitution.{skeleton_context_of, substitution_keeps_types, typed_substitution_by_skeletons}
use Rattle.lf.proofs.ToSkeletons.{variable_has_skeleton, skeleton_has_variable, type_by_skeletons}
use Rattle.lf.proofs.TypeLaws.{skeleton_renamed, skeleton_substituted, substitute_identity_type}
use Rattle.lf_unification.specs.Offering.{pi_over, local_arguments}
use Rattle.lf_checks.specs.ModeForms.{argument_count}
use Rattle.lf_cases.specs.Cover.{InstanceIn, place_of, before}
use Rattle.lf_cases.specs.Case.{as_term, behind_entries}
use Rattle.lf_cases.proofs.BlockEntries.{drop_typed, onto_onto}
use Rattle.lf_cases.proofs.LongValues.{long_past, long_same}
use Rattle.lf_totality.proofs.OutputCases.{in_context, in_covers, in_type}
use Rattle.lf_coverage.proofs.BeforeEntry.{before_fits, before_next, before_first, before_some}
use Rattle.lf_coverage.proofs.Composing.{composed}
use Rattle.lf_coverage.proofs.GroundTyped.{front_typed, long_equal}
use Rattle.lf_coverage.proofs.ItemsContext.{outer_context}
use Rattle.lf_coverage.proofs.Parts.{none_some}
use Rattle.lf_coverage.proofs.Transfer.{onto_skeleton}
use Rattle.lf_numbered.specs.EntryConstants.{entry_constant, entry_images, entry_constant_type, entry_type, with_entries, IsFreeFrom}
use Rattle.lf_numbered.specs.NumberedCase.{NumberedCase, some_spine, AreTypedBlockVariables, AreTypedVariables, IsNumberedInstance}
use Rattle.lf_numbered.specs.OwnTerms.{BlockVariable, blocks_of, own_terms, OnOwnTerms, SpineOnOwnTerms}
use Rattle.lf_numbered.specs.Reading.{read, read_spine, read_type, variable_past, read_entry, entry_reading}
use Rattle.lf_numbered.proofs.EntryPlaces.{whole, begun, entry_is, entry_type_at}
use Rattle.lf_numbered.proofs.EntrySignature.{else_second, locals_typed, entries_kept, with_entries_is_signature}
use Rattle.lf_numbered.proofs.EntryValues.{read_entry_long, count_some, read_some, some_own, put_some, put_locals, after_entries, some_typed, some_terms_same}
use Rattle.lf_numbered.proofs.OwnTerms.{entry_from, old_is_none}
use Rattle.lf_numbered.proofs.Reading.{IsOld, type_only, none_read_type, read_image, FollowsRead, read_type_substituted}
use Rattle.lf_numbered.proofs.ReadSkeletons.{behind_pis, ReadsSkeleton, Reads, read_has_skeleton}
use Rattle.lf_numbered.proofs.ReadTyped.{ReadsConstant}
use Rattle.lf_numbered.proofs.ReadValues.{inside_onto, values_fit, value_past}
use mathlib.Core.Path.{fun_ext}

module _ (Σ Σ' : Signature) (ok : IsSignature Σ) (S : ℕ → Bool) (x : Extends S Σ Σ') (W : List Block) (typed : AreTypedBlocks Σ W) (first : ℕ) (free : IsFreeFrom Σ first) (C : NumberedCase) (tv : AreTypedVariables Σ first W C) {G : List LfType} (w : World Σ' W S G) (θ : ℕ → ℕ → Image) (σ : ℕ → Image) (inst : IsNumberedInstance w first C θ σ) where
  abbrev X : List LfType
  X = C.variables

  abbrev Bs : List Block
  Bs = blocks_of C.blocks

  abbrev Σ₁ : Signature
  Σ₁ = with_entries Σ first Bs

  abbrev f : ℕ → Option (ℕ × ℕ)
  f = entry_reading first Bs θ (length X)

  abbrev o : ℕ → Option Spine
  o = own_terms first C.blocks

  abbrev κ' : HeadSkeletons
  κ' = constant_skeletons Σ'

  abbrev Θ : List Skeleton
  Θ = context_skeletons (onto X G)

  -- each block is one of W, so these are typed
  among_worlds : (bs : List BlockVariable) → AreTypedBlockVariables Σ₁ W X o bs → (B : Block) → Member B (blocks_of bs) → Member B W
  among_worlds [] t B m = absurd m
  among_worlds (b ∷ bs) (m, u, p, t) B (inl e) = subst (λ D. Member D W) (sym e) m
  among_worlds (b ∷ bs) (m, u, p, t) B (inr i) = among_worlds bs t B i

  pub ok₁ : IsSignature Σ₁
  ok₁ = with_entries_is_signature Σ ok first free Bs (λ B m. typed B (among_worlds C.blocks tv.blocks B m))

  pub fits : SubstitutionBySkeletons κ' Θ (context_skeletons G) σ
  fits = values_fit Σ' x.ok G first Bs θ X σ inst.values

  past : (i : ℕ) → σ (i + length X) ≡ keep i
  past = value_past Σ' x.ok G first Bs θ X σ inst.values

  pub old_none : (c : ℕ) → IsOld Σ c → f c ≡ None
  old_none c (A, e) = ap (read_entry θ (length X)) (old_is_none Σ first free Bs c A e)

  -- One block variable: its number k, its block B, the number m of its first constant, its terms U, the values υ of these.
  module _ (k : ℕ) (B : Block) (m : ℕ) (U : Spine) (υ : ℕ → Image) (ct : IsTypedBlock Σ B) (ut : IsTypedSubstitution Σ₁ B.some X υ) (ue : U ≡ some_spine B.some υ) (uo : SpineOnOwnTerms o U) (at : InstanceIn w B (θ k)) (same : some_spine B.some (behind_entries B.entries (θ k)) ≡ substitute_spine reduce σ (read_spine f U)) (found : (later : List LfType) (E : LfType) (es : List LfType) → onto later (E ∷ es) ≡ B.entries → entry_constant zero first Bs (m + length es) ≡ Some (record { number = k; block = B; from = m; place = place_of later; entry = E; before = es })) where
    read_at : (later : List LfType) (E : LfType) (es : List LfType) → onto later (E ∷ es) ≡ B.entries → (u : ℕ) → θ k (place_of later) ≡ keep u → f (m + length es) ≡ Some (length B.some, u + length X)
    read_at later E es e u q = ap (read_entry θ (length X)) (found later E es e) ∙ ap (λ y. Some (length B.some, variable_past (length X) y)) q

    skeleton_at : (later : List LfType) (E : LfType) (es : List LfType) → onto later (E ∷ es) ≡ B.entries → (u : ℕ) → θ k (place_of later) ≡ keep u → SkeletonAt Θ (u + length X) (skeleton E)
    skeleton_at later E es e u q = onto_skeleton X G u (skeleton E) (subst (SkeletonAt (context_skeletons G) u) (skeleton_substituted reduce (before later (θ k)) E) (variable_has_skeleton G u (substitute_type reduce (before later (θ k)) E) (entry_type_at Σ' x.ok w B (θ k) at later E es e u q)))

    terms_count : argument_count U ≡ length B.some
    terms_count = ap argument_count ue ∙ count_some B.some υ

    pub long_at_entry : (later : List LfType) (E : LfType) (es : List LfType) → onto later (E ∷ es) ≡ B.entries → (u : ℕ) → θ k (place_of later) ≡ keep u → read f (eta_expand (skeleton E) (constant (m + length es)) U) ≡ eta_long (skeleton E) (variable (u + length X))
    long_at_entry later E es e u q = read_entry_long f (skeleton E) (m + length es) (u + length X) U (read_at later E es e u q ∙ ap (λ n. Some (n, u + length X)) (sym terms_count))

    -- the next entry before
    next_later : (later : List LfType) (E D : LfType) (es : List LfType) → onto later (E ∷ D ∷ es) ≡ B.entries → onto (onto later (E ∷ [])) (D ∷ es) ≡ B.entries
    next_later later E D es e = onto_onto later (E ∷ []) (D ∷ es) ∙ e

    -- the entries on U, read
    abbrev images : List LfType → ℕ → Image
    images es i = read_image f (entry_images m U es υ i)

    module _ (heads : Reads (constant_skeletons Σ₁) κ' (λ j t e. none_some e) Θ f o) where
      pub some_fits : SubstitutionBySkeletons κ' (context_skeletons B.some) Θ (λ i. read_image f (υ i))
      some_fits i t g =
          let (A, h, e) = skeleton_has_variable B.some i t g in
          by (υ i) (typed_substitution_by_skeletons Σ₁ ok₁ B.some X υ ut i t g) (subst (λ a. OnOwnTerms o (as_term a (υ i))) e (some_own o B.some υ (subst (SpineOnOwnTerms o) ue uo) i A h))
        where
          by : (y : Image) → ImageSkeleton (constant_skeletons Σ₁) (context_skeletons X) y t → OnOwnTerms o (as_term t y) → ImageSkeleton κ' Θ (read_image f y) t
          by (keep j) h p = inside_onto X G j t h
          by (put a N) (e, n) p = (e, read_has_skeleton (constant_skeletons Σ₁) κ' (λ j u q. none_some q) (context_skeletons X) Θ f o N a (inside_onto X G) heads n p)

      images_fit : (later es : List LfType) → ((D : LfType) (ds : List LfType) → es ≡ D ∷ ds → onto later (D ∷ ds) ≡ B.entries) → SubstitutionBySkeletons κ' (context_skeletons (onto es B.some)) Θ (images es)
      images_fit later [] e = some_fits
      images_fit later (D ∷ ds) e = front (images_fit (onto later (D ∷ [])) ds (λ F fs q. onto_onto later (D ∷ []) (F ∷ fs) ∙ ap (λ l. onto later (D ∷ l)) (sym q) ∙ e D ds refl))
        where
          front : SubstitutionBySkeletons κ' (context_skeletons (onto ds B.some)) Θ (images ds) → SubstitutionBySkeletons κ' (skeleton D ∷ context_skeletons (onto ds B.some)) Θ (images (D ∷ ds))
          front ih zero t q =
              let (u, p) = entry_is Σ' x.ok w B (θ k) at later D ds (e D ds refl) in
              (q, subst (λ Y. TermSkeleton κ' Θ Y (skeleton D)) (sym (long_at_entry later D ds (e D ds refl) u p)) (eta_long_has_skeleton κ' Θ (skeleton D) (variable (u + length X)) (skeleton_at later D ds (e D ds refl) u p)))
          front ih (suc i) t g = ih i t g

      -- under the values they are the instance
      pub some_agree : (i : ℕ) (A : LfType) → TypeAt B.some i A → as_term (skeleton A) (substitute_image σ (read_image f (υ i))) ≡ as_term (skeleton A) (behind_entries B.entries (θ k) i)
      some_agree i A g = some_terms_same B.some (after σ (λ j. read_image f (υ j))) (behind_entries B.entries (θ k)) (sym (same ∙ ap (λ V. substitute_spine reduce σ (read_spine f V)) ue ∙ ap (substitute_spine reduce σ) (read_some f B.some υ) ∙ put_some κ' B.some Θ (context_skeletons G) (λ j. read_image f (υ j)) σ some_fits fits)) i A g

      pub images_agree : (later : List LfType) (E : LfType) (es : List LfType) → onto later (E ∷ es) ≡ B.entries → (i : ℕ) (A : LfType) → TypeAt (onto es B.some) i A → as_term (skeleton A) (substitute_image σ (images es i)) ≡ as_term (skeleton A) (before later (θ k) i)
      images_agree later E [] e i A g = some_agree i A g ∙ ap (as_term (skeleton A)) (ap (λ ds. behind_entries ds (θ k) i) (sym e) ∙ before_some later E (θ k) i)
      images_agree later E (D ∷ ds) e zero A g =
          let l : List LfType = onto later (E ∷ []) in
          let q : onto l (D ∷ ds) ≡ B.entries = next_later later E D ds e in
          let (u, p) = entry_is Σ' x.ok w B (θ k) at l D ds q in
          ap (substitute reduce σ) (long_at_entry l D ds q u p)
          ∙ substitute_eta_expand σ (skeleton D) (variable (u + length X)) (variable u) nil (past u)
          ∙ ap (λ a. eta_long a (variable u)) (sym (ap skeleton g ∙ skeleton_renamed suc D))
          ∙ ap (as_term (skeleton A)) (sym (before_first later E (θ k) ∙ p))
      images_agree later E (D ∷ ds) e (suc i) A (F, g, r) =
          ap (λ a. as_term a (substitute_image σ (images ds i))) (ap skeleton r ∙ skeleton_renamed suc F)
          ∙ images_agree (onto later (E ∷ [])) D ds (next_later later E D ds e) i F g
          ∙ ap (as_term (skeleton F)) (before_next later E (θ k) i)
          ∙ ap (λ a. as_term a (before later (θ k) (suc i))) (sym (ap skeleton r ∙ skeleton_renamed suc F))

      -- The entry E of the block, behind the entries es, is read off its constant.
      module _ (later : List LfType) (E : LfType) (es : List LfType) (e : onto later (E ∷ es) ≡ B.entries) where
        entry_typed : IsContext Σ (onto es B.some) × IsType Σ (onto es B.some) E
        entry_typed = drop_typed Σ later E (onto es B.some) (subst (IsContext Σ) (whole B later E es e) ct)

        known : TypeBySkeletons (family_skeletons Σ') κ' (context_skeletons (onto es B.some)) E
        known = type_by_skeletons Σ' (onto es B.some) E (extension_keeps_types S Σ Σ' x (onto es B.some) E entry_typed.1)

        es_fit : SubstitutionBySkeletons κ' (context_skeletons (onto es B.some)) Θ (images es)
        es_fit = images_fit (onto later (E ∷ [])) es (λ D ds q. onto_onto later (E ∷ []) (D ∷ ds) ∙ ap (λ l. onto later (E ∷ l)) (sym q) ∙ e)

        -- the type of the entry on U, read, is the type of its variable
        value_type : substitute_type reduce σ (substitute_type reduce (images es) E) ≡ substitute_type reduce (before later (θ k)) E
        value_type =
            let Γ : List Skeleton = context_skeletons (onto es B.some) in
            let Δ : List Skeleton = context_skeletons G in
            let ψ : ℕ → Image = after σ (images es) in
            let kψ : SubstitutionBySkeletons κ' Γ Δ ψ = composed κ' Γ Θ Δ (images es) σ es_fit fits in
            let kφ : SubstitutionBySkeletons κ' (context_skeletons (onto B.entries B.some)) Δ (θ k) = typed_substitution_by_skeletons Σ' x.ok (onto B.entries B.some) G (θ k) (λ i A g. (begun Σ' x.ok w B (θ k) at).typed.typed i A g refl) in
            let kb : SubstitutionBySkeletons κ' Γ Δ (before later (θ k)) = before_fits κ' later E (onto es B.some) Δ (θ k) (subst (λ D. SubstitutionBySkeletons κ' (context_skeletons D) Δ (θ k)) (whole B later E es e) kφ) in
            substitutions_compose_type (family_skeletons Σ') κ' Γ Θ Δ (images es) σ E es_fit fits known
            ∙ sym (long_same κ' (family_skeletons Σ') [] (onto es B.some) Δ ψ E kψ known)
            ∙ agree_on_type reduce (in_context (onto es B.some)) (long_past [] (onto es B.some) ψ) (long_past [] (onto es B.some) (before later (θ k))) E (λ i u. let (A, g) = in_type (onto es B.some) i u in long_equal (onto es B.some) ψ (before later (θ k)) (images_agree later E es e) i A g) (typed_uses_type Σ (onto es B.some) (in_context (onto es B.some)) E (in_covers (onto es B.some)) entry_typed.1)
            ∙ long_same κ' (family_skeletons Σ') [] (onto es B.some) Δ (before later (θ k)) E kb known

        -- the type of the constant on the `some` variables
        constant_in : (l : List LfType) (D : LfType) (ds : List LfType) → onto l (D ∷ ds) ≡ B.entries → Σ₁.types (m + length ds) ≡ Some (entry_constant_type m B.some ds D)
        constant_in l D ds q = else_second (Σ.types (m + length ds)) (entry_type (entry_constant zero first Bs (m + length ds))) (Some (entry_constant_type m B.some ds D)) (free.types_free (m + length ds) (entry_from zero first Bs (m + length ds) (record { number = k; block = B; from = m; place = place_of l; entry = D; before = ds }) (found l D ds q))) (ap entry_type (found l D ds q))

        more_context : (D : List LfType) → IsContext Σ D → IsContext Σ₁ D
        more_context [] c = c
        more_context (A ∷ D) (c, a) = (more_context D c, growth_keeps_types Σ Σ₁ (entries_kept Σ first Bs) (λ b K q. q) D A a)

        locals_fit : (l ds : List LfType) → ((D : LfType) (fs : List LfType) → ds ≡ D ∷ fs → onto l (D ∷ fs) ≡ B.entries) → IsContext Σ (onto ds B.some) → IsTypedSubstitution Σ₁ (onto ds B.some) B.some (entry_images m (local_arguments B.some) ds keep)
        locals_fit l [] q c = λ i A g. subst (TypeAt B.some i) (sym (substitute_identity_type reduce A)) g
        locals_fit l (D ∷ ds) q (c, t) =
            let ι : ℕ → Image = entry_images m (local_arguments B.some) ds keep in
            let s : IsTypedSubstitution Σ₁ (onto ds B.some) B.some ι = locals_fit (onto l (D ∷ [])) ds (λ F fs r. onto_onto l (D ∷ []) (F ∷ fs) ∙ ap (λ gs. onto l (D ∷ gs)) (sym r) ∙ q D ds refl) c in
            let c₁ : IsContext Σ₁ (onto ds B.some) = more_context (onto ds B.some) c in
            let o₁ : IsContext Σ₁ B.some = more_context B.some (outer_context Σ ds B.some c) in
            let T : LfType = substitute_type reduce ι D in
            let t₁ : IsType Σ₁ B.some T = substitution_keeps_types Σ₁ ok₁ (onto ds B.some) B.some ι D (record { typed = s; source_skeletons = skeleton_context_of Σ₁ ok₁ (onto ds B.some) c₁; target_skeletons = skeleton_context_of Σ₁ ok₁ B.some o₁ }) (growth_keeps_types Σ Σ₁ (entries_kept Σ first Bs) (λ b K r. r) (onto ds B.some) D t) in
            let N : Term = eta_expand (skeleton D) (constant (m + length ds)) (local_arguments B.some) in
            front_typed Σ₁ ok₁ [] (λ F i. absurd i) (onto ds B.some) B.some D (put (skeleton D) N) ι s (skeleton_substituted reduce ι D, eta_expand_has_type Σ₁ ok₁ (skeleton D) B.some (constant (m + length ds)) (local_arguments B.some) (pi_over B.some T) T o₁ (skeleton_substituted reduce ι D) t₁ (constant_in l D ds (q D ds refl)) (locals_typed Σ₁ ok₁ B.some T o₁ t₁))

        on_locals : IsTypedSubstitution Σ₁ (onto es B.some) B.some (entry_images m (local_arguments B.some) es keep)
        on_locals = locals_fit (onto later (E ∷ [])) es (λ D ds q. onto_onto later (E ∷ []) (D ∷ ds) ∙ ap (λ l. onto later (E ∷ l)) (sym q) ∙ e) entry_typed.0

        some_context : IsContext Σ₁ B.some
        some_context = more_context B.some (outer_context Σ es B.some entry_typed.0)

        entry_more : IsType Σ₁ (onto es B.some) E
        entry_more = growth_keeps_types Σ Σ₁ (entries_kept Σ first Bs) (λ b K r. r) (onto es B.some) E entry_typed.1

        inner_type : IsType Σ₁ B.some (substitute_type reduce (entry_images m (local_arguments B.some) es keep) E)
        inner_type = substitution_keeps_types Σ₁ ok₁ (onto es B.some) B.some (entry_images m (local_arguments B.some) es keep) E (record { typed = on_locals; source_skeletons = skeleton_context_of Σ₁ ok₁ (onto es B.some) (more_context (onto es B.some) entry_typed.0); target_skeletons = skeleton_context_of Σ₁ ok₁ B.some some_context }) entry_more

        terms_typed : SpineType Σ₁ X U (entry_constant_type m B.some es E) (substitute_type reduce υ (substitute_type reduce (entry_images m (local_arguments B.some) es keep) E))
        terms_typed = subst (λ V. SpineType Σ₁ X V (entry_constant_type m B.some es E) (substitute_type reduce υ (substitute_type reduce (entry_images m (local_arguments B.some) es keep) E))) (sym ue) (some_typed Σ₁ ok₁ X tv.variables B.some (substitute_type reduce (entry_images m (local_arguments B.some) es keep) E) υ some_context inner_type ut)

        follows_old : (c : ℕ) → IsOld Σ c → FollowsRead (entry_images m U es υ) None (f c)
        follows_old c h = subst (FollowsRead (entry_images m U es υ) None) (sym (old_none c h)) tt

        read_on_terms : read_type f (substitute_type reduce υ (substitute_type reduce (entry_images m (local_arguments B.some) es keep) E)) ≡ substitute_type reduce (images es) E
        read_on_terms =
            let κ₁ = constant_skeletons Σ₁ in
            let ι : ℕ → Image = entry_images m (local_arguments B.some) es keep in
            let kι : SubstitutionBySkeletons κ₁ (context_skeletons (onto es B.some)) (context_skeletons B.some) ι = typed_substitution_by_skeletons Σ₁ ok₁ (onto es B.some) B.some ι on_locals in
            let kυ : SubstitutionBySkeletons κ₁ (context_skeletons B.some) (context_skeletons X) υ = typed_substitution_by_skeletons Σ₁ ok₁ B.some X υ ut in
            let both : substitute_type reduce υ (substitute_type reduce ι E) ≡ substitute_type reduce (entry_images m U es υ) E =
            substitutions_compose_type (family_skeletons Σ₁) κ₁ (context_skeletons (onto es B.some)) (context_skeletons B.some) (context_skeletons X) ι υ E kι kυ (type_by_skeletons Σ₁ (onto es B.some) E entry_more)
            ∙ ap (λ ρ. substitute_type reduce ρ E) (fun_ext (after_entries m (local_arguments B.some) U es keep υ (put_locals κ₁ B.some (context_skeletons X) υ kυ ∙ sym ue))) in
            ap (read_type f) both
            ∙ read_type_substituted (IsOld Σ) (λ c. None) f (entry_images m U es υ) E follows_old (type_only Σ (onto es B.some) E entry_typed.1)
            ∙ ap (substitute_type reduce (images es)) (none_read_type (IsOld Σ) (λ c. None) E (λ c h. refl) (type_only Σ (onto es B.some) E entry_typed.1))

        -- This entry's constant is read as its variable.
        pub entry_reads : (u : ℕ) → θ k (place_of later) ≡ keep u → ReadsConstant Σ Σ₁ Σ' ok ok₁ x.ok x.types_stay X G f σ Θ (entry_constant_type m B.some es E) (m + length es) (Some (length B.some, u + length X)) (Some U)
        entry_reads u q = (
          u,
          substitute_type reduce υ (substitute_type reduce (entry_images m (local_arguments B.some) es keep) E),
          past u,
          terms_count,
          terms_typed,
          subst (TypeAt G u) (sym (ap (substitute_type reduce σ) read_on_terms ∙ value_type)) (entry_type_at Σ' x.ok w B (θ k) at later E es e u q),
          subst (TypeBySkeletons (family_skeletons Σ') κ' Θ) (sym read_on_terms) (substitution_keeps_types_by_skeletons (family_skeletons Σ') κ' (context_skeletons (onto es B.some)) Θ (images es) E es_fit known),
        )

    -- the skeleton of its constant
    pub entry_skeleton : (later : List LfType) (E : LfType) (es : List LfType) → onto later (E ∷ es) ≡ B.entries → (u : ℕ) → θ k (place_of later) ≡ keep u → ReadsSkeleton κ' Θ (Some (length B.some, u + length X)) (Some U) (m + length es) (skeleton (entry_constant_type m B.some es E))
    entry_skeleton later E es e u q = (terms_count, subst (SkeletonAt Θ (u + length X)) (sym (behind_pis B.some (substitute_type reduce (entry_images m (local_arguments B.some) es keep) E) ∙ skeleton_substituted reduce (entry_images m (local_arguments B.some) es keep) E)) (skeleton_at later E es e u q))
