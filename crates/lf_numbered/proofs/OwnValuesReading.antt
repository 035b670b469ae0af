-- What is read back is typed.
use Rattle.std.proofs.Common.{◌≡◌, ℕ, zero, List, length, Option, Some, None, ◌⊎◌, inl, inr, refl, sym, ap, ◌∙◌, subst}
use Rattle.lf.specs.Syntax.{Term, Spine, LfType, Kind, app, atom, nil, pi, Skeleton, skeleton, rename, rename_type}
use Rattle.lf.specs.Substitution.{keep, single, substitute_type, reduce}
use Rattle.lf.specs.SkeletonTyping.{SkeletonAt, TypeBySkeletons}
use Rattle.lf.specs.Skeletons.{type_skeleton, family_skeleton, constant_skeletons, family_skeletons, context_skeletons}
use Rattle.lf.specs.Typing.{Signature, TypeAt, HasType, SpineType, IsType, IsSignature, instantiate_type}
use Rattle.lf.specs.Subordination.{Block}
use Rattle.lf.proofs.Substitution.{skeleton_context_of}
use Rattle.lf.proofs.ToSkeletons.{type_by_skeletons}
use Rattle.lf.proofs.TypeLaws.{skeleton_substituted, substitution_as_renaming, substitution_as_renaming_type}
use Rattle.lf.proofs.Weakening.{declared_is_type}
use Rattle.lf_checks.specs.ModeForms.{argument_count}
use Rattle.lf_coverage.proofs.Parts.{none_some, some_same}
use Rattle.lf_numbered.specs.EntryConstants.{EntryConstant, entry_constant, entry_constant_type, entry_type, with_entries}
use Rattle.lf_numbered.specs.OwnTerms.{OnOwnTerms, TypeOnOwnTerms}
use Rattle.lf_numbered.specs.OwnValuesReading.{EntryReadsBack, ReadsBack, ReadBackIsTyped}
use Rattle.lf_numbered.specs.Reading.{read, read_type}
use Rattle.lf_numbered.proofs.EntrySignature.{else_cases}
use Rattle.lf_numbered.proofs.ReadSkeletons.{behind_arguments, ReadsSkeleton, Reads, read_type_has_skeletons}
use Rattle.lf_numbered.proofs.ReadTyped.{ReadsConstant, ReadsInto, reads_typed}

-- what is left of a type behind arguments has what is left of its skeleton
skeleton_behind : (Σ : Signature) (G : List LfType) (U : Spine) (P Q : LfType) → SpineType Σ G U P Q → behind_arguments (argument_count U) (skeleton P) ≡ skeleton Q
skeleton_behind Σ G nil P Q s = ap skeleton s
skeleton_behind Σ G (app M U) (pi A B) Q (m, s) = ap (behind_arguments (argument_count U)) (sym (skeleton_substituted reduce (single (skeleton A) M) B)) ∙ skeleton_behind Σ G U (instantiate_type A M B) Q s
skeleton_behind Σ G (app M U) (atom a T) Q s = absurd s

module _ (Σ Σ' : Signature) (ok : IsSignature Σ) (ok' : IsSignature Σ') (first : ℕ) (Bs : List Block) (F G : List LfType) (f : ℕ → Option (ℕ × ℕ)) (o : ℕ → Option Spine) (ρ : ℕ → ℕ) (r : ReadsBack Σ Σ' first Bs F G f o ρ) where
  abbrev Σ₁ : Signature
  Σ₁ = with_entries Σ first Bs

  abbrev Θ : List Skeleton
  Θ = r.scope

  abbrev ok₁ : IsSignature (with_entries Σ first Bs)
  ok₁ = r.signature

  -- the constants
  pub type_cases : (c : ℕ) (P : LfType) → Σ₁.types c ≡ Some P → (Σ.types c ≡ Some P) ⊎ ((e : EntryConstant) × (entry_constant zero first Bs c ≡ Some e) × (P ≡ entry_constant_type e.from e.block.some e.before e.entry))
  type_cases c P q = by (else_cases (Σ.types c) (entry_type (entry_constant zero first Bs c)) P q)
    where
      entry : (y : Option EntryConstant) → entry_constant zero first Bs c ≡ y → entry_type y ≡ Some P → (e : EntryConstant) × (entry_constant zero first Bs c ≡ Some e) × (P ≡ entry_constant_type e.from e.block.some e.before e.entry)
      entry None p s = absurd (none_some s)
      entry (Some e) p s = (e, p, sym (some_same s))

      by : (Σ.types c ≡ Some P) ⊎ (entry_type (entry_constant zero first Bs c) ≡ Some P) → (Σ.types c ≡ Some P) ⊎ ((e : EntryConstant) × (entry_constant zero first Bs c ≡ Some e) × (P ≡ entry_constant_type e.from e.block.some e.before e.entry))
      by (inl s) = inl s
      by (inr s) = inr (entry (entry_constant zero first Bs c) refl s)

  heads : Reads (constant_skeletons Σ₁) (constant_skeletons Σ') (λ j t q. none_some q) Θ f o
  heads c t g = at (Σ₁.types c) refl g
    where
      of_type : (P : LfType) → (Σ.types c ≡ Some P) ⊎ ((e : EntryConstant) × (entry_constant zero first Bs c ≡ Some e) × (P ≡ entry_constant_type e.from e.block.some e.before e.entry)) → ReadsSkeleton (constant_skeletons Σ') r.scope (f c) (o c) c (skeleton P)
      of_type P (inl s) = subst (λ y. ReadsSkeleton (constant_skeletons Σ') r.scope y (o c) c (skeleton P)) (sym (r.old c P s)) (ap type_skeleton (r.types_stay c P s))
      of_type P (inr (e, q, s)) =
          let x : EntryReadsBack Σ₁ F G r.scope f o ρ c e = r.entries c e q in
          let k : behind_arguments (argument_count x.terms) (skeleton P) ≡ skeleton x.of_type = ap (λ Z. behind_arguments (argument_count x.terms) (skeleton Z)) s ∙ skeleton_behind Σ₁ F x.terms (entry_constant_type e.from e.block.some e.before e.entry) x.of_type x.typed in
          subst (λ y. ReadsSkeleton (constant_skeletons Σ') r.scope y (o c) c (skeleton P)) (sym x.is_read)
          (subst (λ u. ReadsSkeleton (constant_skeletons Σ') r.scope (Some (length e.block.some, x.variable)) u c (skeleton P)) (sym x.own)
          (x.count, subst (SkeletonAt r.scope x.variable) (sym k ∙ ap (λ n. behind_arguments n (skeleton P)) x.count) x.in_scope))

      at : (y : Option LfType) → Σ₁.types c ≡ y → type_skeleton y ≡ Some t → ReadsSkeleton (constant_skeletons Σ') r.scope (f c) (o c) c t
      at None q s = absurd (none_some s)
      at (Some P) q s = subst (ReadsSkeleton (constant_skeletons Σ') r.scope (f c) (o c) c) (some_same s) (of_type P (type_cases c P q))

  family_more : (a : ℕ) (t : Skeleton) → family_skeletons Σ₁ a ≡ Some t → family_skeletons Σ' a ≡ Some t
  family_more a t q = by (Σ.kinds a) refl q
    where
      by : (y : Option Kind) → Σ.kinds a ≡ y → family_skeleton a y ≡ Some t → family_skeletons Σ' a ≡ Some t
      by None e s = absurd (none_some s)
      by (Some K) e s = ap (family_skeleton a) (r.kinds_stay a K e) ∙ s

  known : (A : LfType) → IsType (with_entries Σ first Bs) F A → TypeOnOwnTerms o A → TypeBySkeletons (family_skeletons Σ') (constant_skeletons Σ') r.scope (read_type f A)
  known A t own = read_type_has_skeletons (constant_skeletons Σ₁) (constant_skeletons Σ') (λ j u q. none_some q) (family_skeletons Σ₁) (family_skeletons Σ') (context_skeletons F) Θ f o A family_more r.inside heads (type_by_skeletons Σ₁ F A t) own

  declared : (i : ℕ) (A : LfType) → TypeAt F i A → TypeBySkeletons (family_skeletons Σ') (constant_skeletons Σ') r.scope (read_type f A)
  declared i A g = known A (declared_is_type Σ₁ ok₁ F i A r.source g) (r.on_own_terms i A g)

  -- a type, read back
  as_image : (A : LfType) → substitute_type reduce (λ i. keep (ρ i)) (read_type f A) ≡ rename_type ρ (read_type f A)
  as_image A = substitution_as_renaming_type reduce ρ (read_type f A)

  variable_at : (i : ℕ) (A : LfType) → TypeAt F i A → TypeAt G (ρ i) (substitute_type reduce (λ j. keep (ρ j)) (read_type f A))
  variable_at i A g = subst (TypeAt G (ρ i)) (sym (as_image A)) (r.variables i A g)

  constants : (c : ℕ) (P : LfType) → Σ₁.types c ≡ Some P → ReadsConstant Σ Σ₁ Σ' ok ok₁ ok' r.types_stay F G f (λ i. keep (ρ i)) Θ P c (f c) (o c)
  constants c P q = by (type_cases c P q)
    where
      by : (Σ.types c ≡ Some P) ⊎ ((e : EntryConstant) × (entry_constant zero first Bs c ≡ Some e) × (P ≡ entry_constant_type e.from e.block.some e.before e.entry)) → ReadsConstant Σ Σ₁ Σ' ok ok₁ ok' r.types_stay F G f (λ i. keep (ρ i)) Θ P c (f c) (o c)
      by (inl s) = subst (λ y. ReadsConstant Σ Σ₁ Σ' ok ok₁ ok' r.types_stay F G f (λ i. keep (ρ i)) Θ P c y (o c)) (sym (r.old c P s)) s
      by (inr (e, p, s)) =
          let x : EntryReadsBack Σ₁ F G r.scope f o ρ c e = r.entries c e p in
          subst (λ y. ReadsConstant Σ Σ₁ Σ' ok ok₁ ok' r.types_stay F G f (λ i. keep (ρ i)) Θ P c y (o c)) (sym x.is_read)
          (subst (λ u. ReadsConstant Σ Σ₁ Σ' ok ok₁ ok' r.types_stay F G f (λ i. keep (ρ i)) Θ P c (Some (length e.block.some, x.variable)) u) (sym x.own)
          (ρ x.variable, x.of_type, refl, x.count, subst (λ Z. SpineType Σ₁ F x.terms Z x.of_type) (sym s) x.typed, subst (TypeAt G (ρ x.variable)) (sym (as_image x.of_type)) x.stands, known x.of_type x.is_type x.of_own_type))

  into : ReadsInto Σ Σ₁ Σ' ok ok₁ ok' r.types_stay F G f o (λ i. keep (ρ i)) Θ
  into = record {
    inside = r.inside;
    fits = r.fits;
    heads = heads;
    target = skeleton_context_of Σ' ok' G r.target;
    source = declared;
    variables = variable_at;
    old = λ c h. r.old c h.0 h.1;
    constants = constants;
  }

  -- The lemma
  pub read_back : (A : LfType) → IsType (with_entries Σ first Bs) F A → TypeOnOwnTerms o A → (N : Term) → HasType (with_entries Σ first Bs) F N A → OnOwnTerms o N → HasType Σ' G (rename ρ (read f N)) (rename_type ρ (read_type f A))
  read_back A t own N n p = subst (HasType Σ' G (rename ρ (read f N))) (as_image A) (subst (λ M. HasType Σ' G M (substitute_type reduce (λ i. keep (ρ i)) (read_type f A))) (substitution_as_renaming reduce ρ (read f N)) (reads_typed Σ Σ₁ Σ' ok ok₁ ok' r.types_stay F G f o (λ i. keep (ρ i)) Θ into N A (known A t own) n p))

pub read_back_is_typed : ReadBackIsTyped
read_back_is_typed Σ Σ' ok ok' first Bs F G f o ρ r A t own N n p = read_back Σ Σ' ok ok' first Bs F G f o ρ r A t own N n p
