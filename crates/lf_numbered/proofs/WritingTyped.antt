-- The constant of an entry on typed terms is a typed value of the entry.
use Rattle.std.proofs.Common.{◌≡◌, ℕ, suc, List, [], ◌∷◌, length, ◌+◌, Some, refl, sym, ap, ◌∙◌, subst}
use Rattle.std.specs.Prelude.{◌+◌}
use Rattle.lf.specs.Syntax.{constant, LfType, skeleton}
use Rattle.lf.specs.Substitution.{Image, keep, put, substitute_type, reduce, after}
use Rattle.lf.specs.Eta.{eta_expand}
use Rattle.lf.specs.SkeletonTyping.{SubstitutionBySkeletons}
use Rattle.lf.specs.Skeletons.{constant_skeletons, family_skeletons, context_skeletons}
use Rattle.lf.specs.Typing.{Signature, TypeAt, ImageHasType, IsTypedSubstitution, HasType, SpineType, IsType, IsContext, IsSignature}
use Rattle.lf.specs.Variables.{onto}
use Rattle.lf.proofs.EtaTyping.{eta_expand_has_type}
use Rattle.lf.proofs.SkeletonTypes.{substitutions_compose_type}
use Rattle.lf.proofs.Substitution.{skeleton_context_of, substitution_keeps_types, substitution_keeps_typing, typed_substitution_by_skeletons}
use Rattle.lf.proofs.ToSkeletons.{type_by_skeletons}
use Rattle.lf.proofs.TypeLaws.{skeleton_substituted, substitute_identity_type}
use Rattle.lf.proofs.Weakening.{declared_is_type}
use Rattle.lf_cases.specs.Case.{behind_entries}
use Rattle.lf_unification.specs.Offering.{pi_over, local_arguments}
use Rattle.lf_coverage.proofs.GroundTyped.{front_typed, behind_one}
use Rattle.lf_coverage.proofs.ItemsContext.{outer_context}
use Rattle.lf_numbered.specs.EntryConstants.{entry_constant_type, entry_images}
use Rattle.lf_numbered.proofs.EntrySignature.{locals_typed}
use Rattle.lf_numbered.proofs.EntryValues.{put_locals, after_entries, some_typed}
use Rattle.lf_numbered.proofs.WritingValues.{terms_behind, AreWritten, entry_value}
use mathlib.Core.Path.{fun_ext}

-- each constant from n on has the type of its entry
abbrev pub HaveTypes : Signature → ℕ → List LfType → List LfType → Type 0
HaveTypes Σ n O es = (later : List LfType) (E : LfType) (ds : List LfType) → onto later (E ∷ ds) ≡ es → Σ.types (n + length ds) ≡ Some (entry_constant_type n O ds E)

pub types_before : (Σ : Signature) (n : ℕ) (O : List LfType) (E : LfType) (es : List LfType) → HaveTypes Σ n O (E ∷ es) → HaveTypes Σ n O es
types_before Σ n O E es h later D ds q = h (E ∷ later) D ds (ap (λ gs. E ∷ gs) q)

module _ (Σ : Signature) (ok : IsSignature Σ) where
  -- the composite of typed values
  pub typed_after : (C D E : List LfType) (σ τ : ℕ → Image) → IsContext Σ C → IsContext Σ D → IsContext Σ E → IsTypedSubstitution Σ C D σ → IsTypedSubstitution Σ D E τ → IsTypedSubstitution Σ C E (after τ σ)
  typed_after C D E σ τ cc cd ce s t i A g = by (σ i) (s i A g)
    where
      both : substitute_type reduce τ (substitute_type reduce σ A) ≡ substitute_type reduce (after τ σ) A
      both = substitutions_compose_type (family_skeletons Σ) (constant_skeletons Σ) (context_skeletons C) (context_skeletons D) (context_skeletons E) σ τ A (typed_substitution_by_skeletons Σ ok C D σ s) (typed_substitution_by_skeletons Σ ok D E τ t) (type_by_skeletons Σ C A (declared_is_type Σ ok C i A cc g))

      value : substitute_type reduce σ A ≡ substitute_type reduce σ A
      value = refl

      type : IsType Σ D (substitute_type reduce σ A)
      type = substitution_keeps_types Σ ok C D σ A (record { typed = s; source_skeletons = skeleton_context_of Σ ok C cc; target_skeletons = skeleton_context_of Σ ok D cd }) (declared_is_type Σ ok C i A cc g)

      by : (x : Image) → ImageHasType Σ D x (substitute_type reduce σ A) → ImageHasType Σ E (Rattle.lf.specs.Substitution.substitute_image τ x) (substitute_type reduce (after τ σ) A)
      by (keep j) h = subst (ImageHasType Σ E (τ j)) both (t j (substitute_type reduce σ A) h)
      by (put a N) (e, n) = (sym (skeleton_type) ∙ e, subst (HasType Σ E (Rattle.lf.specs.Substitution.substitute reduce τ N)) both (substitution_keeps_typing Σ ok D E τ N (substitute_type reduce σ A) (record { typed = t; source_skeletons = skeleton_context_of Σ ok D cd; target_skeletons = skeleton_context_of Σ ok E ce }) (type_by_skeletons Σ D (substitute_type reduce σ A) type) n))
        where
          skeleton_type : skeleton (substitute_type reduce σ A) ≡ skeleton (substitute_type reduce (after τ σ) A)
          skeleton_type = skeleton_substituted reduce σ A ∙ sym (skeleton_substituted reduce (after τ σ) A)

  -- behind entries
  pub behind_typed : (es O F : List LfType) (ψ : ℕ → Image) → IsTypedSubstitution Σ (onto es O) F ψ → IsTypedSubstitution Σ O F (behind_entries es ψ)
  behind_typed [] O F ψ s = s
  behind_typed (E ∷ es) O F ψ s = behind_typed es O F (λ i. ψ (suc i)) (behind_one Σ ok [] (λ C i. absurd i) (onto es O) F E ψ s)

  -- the constants on the `some` variables are typed values of the entries
  pub locals_fit : (n : ℕ) (O es : List LfType) → IsContext Σ (onto es O) → HaveTypes Σ n O es → IsTypedSubstitution Σ (onto es O) O (entry_images n (local_arguments O) es keep)
  locals_fit n O [] c h = λ i A g. subst (TypeAt O i) (sym (substitute_identity_type reduce A)) g
  locals_fit n O (E ∷ es) (c, t) h =
      let ι : ℕ → Image = entry_images n (local_arguments O) es keep in
      let s : IsTypedSubstitution Σ (onto es O) O ι = locals_fit n O es c (types_before Σ n O E es h) in
      let o : IsContext Σ O = outer_context Σ es O c in
      let T : LfType = substitute_type reduce ι E in
      let u : IsType Σ O T = substitution_keeps_types Σ ok (onto es O) O ι E (record { typed = s; source_skeletons = skeleton_context_of Σ ok (onto es O) c; target_skeletons = skeleton_context_of Σ ok O o }) t in
      front_typed Σ ok [] (λ D i. absurd i) (onto es O) O E (put (skeleton E) (eta_expand (skeleton E) (constant (n + length es)) (local_arguments O))) ι s (skeleton_substituted reduce ι E, eta_expand_has_type Σ ok (skeleton E) O (constant (n + length es)) (local_arguments O) (pi_over O T) T o (skeleton_substituted reduce ι E) u (h [] E es refl) (locals_typed Σ ok O T o u))

  -- The constant of the next entry on typed terms: its type there, and its value.
  module _ (n : ℕ) (O es : List LfType) (E : LfType) (F : List LfType) (ψ : ℕ → Image) (c : IsContext Σ (onto (E ∷ es) O)) (cf : IsContext Σ F) (h : HaveTypes Σ n O (E ∷ es)) (s : IsTypedSubstitution Σ (onto es O) F ψ) (w : AreWritten n O es ψ) where
    both : SpineType Σ F (terms_behind O es ψ) (entry_constant_type n O es E) (substitute_type reduce ψ E) × IsType Σ F (substitute_type reduce ψ E)
    both =
        let κ = constant_skeletons Σ in
        let υ : ℕ → Image = behind_entries es ψ in
        let ι : ℕ → Image = entry_images n (local_arguments O) es keep in
        let o : IsContext Σ O = outer_context Σ es O c.0 in
        let sι : IsTypedSubstitution Σ (onto es O) O ι = locals_fit n O es c.0 (types_before Σ n O E es h) in
        let sυ : IsTypedSubstitution Σ O F υ = behind_typed es O F ψ s in
        let kι : SubstitutionBySkeletons κ (context_skeletons (onto es O)) (context_skeletons O) ι = typed_substitution_by_skeletons Σ ok (onto es O) O ι sι in
        let kυ : SubstitutionBySkeletons κ (context_skeletons O) (context_skeletons F) υ = typed_substitution_by_skeletons Σ ok O F υ sυ in
        let T : LfType = substitute_type reduce ι E in
        let u : IsType Σ O T = substitution_keeps_types Σ ok (onto es O) O ι E (record { typed = sι; source_skeletons = skeleton_context_of Σ ok (onto es O) c.0; target_skeletons = skeleton_context_of Σ ok O o }) c.1 in
        let v : IsType Σ F (substitute_type reduce υ T) = substitution_keeps_types Σ ok O F υ T (record { typed = sυ; source_skeletons = skeleton_context_of Σ ok O o; target_skeletons = skeleton_context_of Σ ok F cf }) u in
        let same : substitute_type reduce υ T ≡ substitute_type reduce ψ E =
        substitutions_compose_type (family_skeletons Σ) κ (context_skeletons (onto es O)) (context_skeletons O) (context_skeletons F) ι υ E kι kυ (type_by_skeletons Σ (onto es O) E c.1)
        ∙ ap (λ ρ. substitute_type reduce ρ E) (fun_ext (after_entries n (local_arguments O) (terms_behind O es ψ) es keep υ (put_locals κ O (context_skeletons F) υ kυ)) ∙ sym (fun_ext w)) in
        (subst (SpineType Σ F (terms_behind O es ψ) (entry_constant_type n O es E)) same (some_typed Σ ok F cf O T υ o u sυ), subst (IsType Σ F) same v)

    pub entry_spine_typed : SpineType Σ F (terms_behind O es ψ) (entry_constant_type n O es E) (substitute_type reduce ψ E)
    entry_spine_typed = both.0

    pub entry_value_typed : ImageHasType Σ F (entry_value n O es E ψ) (substitute_type reduce ψ E)
    entry_value_typed = (skeleton_substituted reduce ψ E, eta_expand_has_type Σ ok (skeleton E) F (constant (n + length es)) (terms_behind O es ψ) (entry_constant_type n O es E) (substitute_type reduce ψ E) cf (skeleton_substituted reduce ψ E) both.1 (h [] E es refl) both.0)
