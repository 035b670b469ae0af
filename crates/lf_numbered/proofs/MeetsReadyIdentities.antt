-- Equations that say that block variables are one are typed up to fillings that solve them: the terms of both are typed for the same `some` variables.
use Rattle.std.proofs.Common.{◌≡◌, ℕ, zero, suc, ◌+◌, List, [], ◌∷◌, refl, sym, ap, ◌∙◌, subst, arith}
use Rattle.std.specs.Prelude.{Bool, true, false, cond, Option, Some, None}
use Rattle.lf.specs.Syntax.{Term, Spine, nil, app, LfType, Kind, kind_pi, star, skeleton}
use Rattle.lf.specs.Substitution.{Image, keep, put, substitute_type, substitute_kind, reduce}
use Rattle.lf.specs.AtOnce.{in_front}
use Rattle.lf.specs.Eta.{append}
use Rattle.lf.specs.SkeletonTyping.{HeadSkeletons, TermSkeleton, ImageSkeleton, KindBySkeletons, SubstitutionBySkeletons}
use Rattle.lf.specs.Skeletons.{constant_skeletons, family_skeletons, context_skeletons}
use Rattle.lf.specs.Typing.{Signature, TypeAt, HasType, SpineFitsKind, IsKind, IsContext, IsSignature, IsTypedSubstitution, ImageHasType}
use Rattle.lf.specs.Variables.{everything, same_number}
use Rattle.lf.proofs.Closed.{closed_kind_substituted}
use Rattle.lf.proofs.Eta.{append_add_last, append_nil}
use Rattle.lf.proofs.Partial.{uses_type_all}
use Rattle.lf.proofs.Substitution.{typed_substitution_by_skeletons}
use Rattle.lf.proofs.ToSkeletons.{skeleton_has_variable, variable_has_skeleton, typed_has_skeleton, kind_by_skeletons}
use Rattle.lf.proofs.TypeLaws.{skeleton_renamed, skeleton_substituted, substitute_renamed_type}
use Rattle.lf_unification.specs.Offering.{spine_equations}
use Rattle.lf_unification.specs.OpenTyping.{OpenSpineFitsKind, skeletons_of}
use Rattle.lf_unification.specs.PartialInstance.{EquationsAreTyped, PartialInstance}
use Rattle.lf_unification.specs.Patterns.{local_skeletons}
use Rattle.lf_unification.specs.Skeletons.{as_head_skeletons, total_skeletons}
use Rattle.lf_unification.specs.Unifiers.{Equation, SolvesAll}
use Rattle.lf_unification.proofs.EquationLemmas.{solves_first}
use Rattle.lf_unification.proofs.Indices.{indices_ok}
use Rattle.lf_unification.proofs.RigidSteps.{solves_rest}
use Rattle.lf_cases.specs.Case.{as_term}
use Rattle.lf_cases.proofs.LongValues.{term_typed, term_has_skeleton}
use Rattle.lf_coverage.specs.SplitStore.{open_spine, context_metavariables}
use Rattle.lf_coverage.proofs.Carried.{like_type}
use Rattle.lf_coverage.proofs.ContextStore.{context_declared}
use Rattle.lf_coverage.proofs.GivenEquations.{both_typed}
use Rattle.lf_coverage.proofs.InputTyped.{kind_front}
use Rattle.lf_coverage.proofs.OpenSkeletons.{kind_opened_by}
use Rattle.lf_coverage.proofs.OpenTyped.{open_kind, indices_opened, open_same_kind}
use Rattle.lf_coverage.proofs.Parts.{some_same}
use Rattle.lf_numbered.specs.NumberedCallsStores.{some_kind, terms_equations, identity_equations}
use Rattle.lf_numbered.specs.NumberedCase.{some_spine, AreSomeTerms}
use Rattle.lf_numbered.specs.NumberedInstance.{block_at}
use Rattle.lf_numbered.specs.OwnTerms.{BlockVariable, terms_at}

-- the values as terms
abbrev put_images : List LfType → (ℕ → Image) → ℕ → Image
put_images [] υ = keep
put_images (A ∷ O) υ = in_front (put (skeleton A) (as_term (skeleton A) (υ zero))) (put_images O (λ i. υ (suc i)))

put_is : (O : List LfType) (υ : ℕ → Image) (i : ℕ) (A : LfType) → TypeAt O i A → put_images O υ i ≡ put (skeleton A) (as_term (skeleton A) (υ i))
put_is [] υ i A g = absurd g
put_is (B ∷ O) υ zero A e = ap (λ a. put a (as_term a (υ zero))) (sym (ap skeleton e ∙ skeleton_renamed suc B))
put_is (B ∷ O) υ (suc i) A (D, g, e) = put_is O (λ j. υ (suc j)) i D g ∙ ap (λ a. put a (as_term a (υ (suc i)))) (sym (ap skeleton e ∙ skeleton_renamed suc D))

pub kind_of_some : (Σ : Signature) (O : List LfType) (K : Kind) → IsContext Σ O → IsKind Σ O K → IsKind Σ [] (some_kind O K)
kind_of_some Σ [] K c k = k
kind_of_some Σ (A ∷ O) K (c, a) k = kind_of_some Σ O (kind_pi A K) c (a, k)

module _ (Σ : Signature) (ok : IsSignature Σ) (X : List LfType) (cx : IsContext Σ X) where
  put_fits : (O : List LfType) (υ : ℕ → Image) → IsTypedSubstitution Σ O X υ → SubstitutionBySkeletons (constant_skeletons Σ) (context_skeletons O) (context_skeletons X) (put_images O υ)
  put_fits O υ s i t g =
      let (A, h, e) = skeleton_has_variable O i t g in
      subst (λ y. ImageSkeleton (constant_skeletons Σ) (context_skeletons X) y t) (sym (put_is O υ i A h)) (e, term_has_skeleton (constant_skeletons Σ) (context_skeletons X) (skeleton A) (υ i) (typed_substitution_by_skeletons Σ ok O X υ s i (skeleton A) (variable_has_skeleton O i A h)))

  -- Terms for `some` variables fit the kind that takes them.
  terms_fit : (O : List LfType) (υ : ℕ → Image) (K : Kind) (S : Spine) → IsContext Σ O → IsKind Σ O K → IsTypedSubstitution Σ O X υ → SpineFitsKind Σ X S (substitute_kind reduce (put_images O υ) K) → SpineFitsKind Σ X (append (some_spine O υ) S) (some_kind O K)
  terms_fit [] υ K S c k s f = subst (SpineFitsKind Σ X S) (closed_kind_substituted Σ reduce keep K k) f
  terms_fit (A ∷ O) υ K S (c, a) k s f =
      let υ' : ℕ → Image = λ i. υ (suc i) in
      let s' : IsTypedSubstitution Σ O X υ' = λ i B g. subst (ImageHasType Σ X (υ (suc i))) (substitute_renamed_type reduce υ suc B) (s (suc i) _ (B, g, refl)) in
      let N : Term = as_term (skeleton A) (υ zero) in
      let η : ℕ → Image = put_images O υ' in
      let fs : SubstitutionBySkeletons (constant_skeletons Σ) (context_skeletons O) (context_skeletons X) υ' = typed_substitution_by_skeletons Σ ok O X υ' s' in
      let fη : SubstitutionBySkeletons (constant_skeletons Σ) (context_skeletons O) (context_skeletons X) η = put_fits O υ' s' in
      let same : substitute_type reduce υ' A ≡ substitute_type reduce η A = like_type Σ O (context_skeletons X) everything υ' η fs fη (λ j D h u. ap (as_term (skeleton D)) (sym (put_is O υ' j D h))) A a (uses_type_all everything A (λ j. refl)) in
      let n : HasType Σ X N (substitute_type reduce η A) = subst (HasType Σ X N) same (term_typed Σ ok X cx (skeleton A) (υ zero) (substitute_type reduce υ' A) (skeleton_substituted reduce υ' A) (subst (ImageHasType Σ X (υ zero)) (substitute_renamed_type reduce υ suc A) (s zero _ refl))) in
      subst (λ T. SpineFitsKind Σ X T (some_kind O (kind_pi A K))) (sym (append_add_last (some_spine O υ') N S))
      (terms_fit O υ' (kind_pi A K) (app N S) c (a, k) s' (
        n,
        subst (SpineFitsKind Σ X S) (sym (kind_front (constant_skeletons Σ) (family_skeletons Σ) (context_skeletons O) (context_skeletons X) η A N K fη (subst (TermSkeleton (constant_skeletons Σ) (context_skeletons X) N) (skeleton_substituted reduce η A) (typed_has_skeleton Σ X N (substitute_type reduce η A) n)) (kind_by_skeletons Σ (A ∷ O) K k))) f,
      ))

  pub some_fit : (O : List LfType) (U : Spine) → IsContext Σ O → AreSomeTerms Σ X O U → SpineFitsKind Σ X U (some_kind O star)
  some_fit O U c (υ, s, e) = subst (λ T. SpineFitsKind Σ X T (some_kind O star)) (append_nil (some_spine O υ) ∙ sym e) (terms_fit O υ star nil c tt s tt)

  module _ (U : (ℕ → Option Term) → Type 0) (half : (β : ℕ → Option Term) → U β → (F : List LfType) × PartialInstance Σ [] (context_metavariables X) (λ m. ⊥) F β) where
    abbrev Ψ : ℕ → Option LfType
    Ψ = context_metavariables X

    two_typed : (O : List LfType) (V T : Spine) → IsContext Σ O → AreSomeTerms Σ X O V → AreSomeTerms Σ X O T → ((β : ℕ → Option Term) → U β → SolvesAll (skeletons_of (context_metavariables X)) β (spine_equations [] (some_kind O star) (open_spine zero V) (open_spine zero T))) → EquationsAreTyped Σ [] (context_metavariables X) U (spine_equations [] (some_kind O star) (open_spine zero V) (open_spine zero T))
    two_typed O V T c v t h =
        let K : Kind = some_kind O star in
        let k : IsKind Σ [] K = kind_of_some Σ O star c tt in
        let kind_same : open_kind zero K ≡ K = open_same_kind (constant_skeletons Σ) (family_skeletons Σ) zero [] (λ i t g. absurd g) K (kind_by_skeletons Σ [] K k) in
        let opened : (S : Spine) → AreSomeTerms Σ X O S → OpenSpineFitsKind Σ [] Ψ U [] (open_spine zero S) K = λ S s. subst (OpenSpineFitsKind Σ [] Ψ U [] (open_spine zero S)) kind_same (indices_opened Σ ok X U [] S K (some_fit O S c s)) in
        let κ : HeadSkeletons = as_head_skeletons (total_skeletons Σ (skeletons_of Ψ)) in
        let known : (F : List LfType) (β : ℕ → Option Term) → PartialInstance Σ [] Ψ (λ m. ⊥) F β → U β → KindBySkeletons (family_skeletons Σ) κ (local_skeletons [] (context_skeletons F)) K = λ F β w u. subst (KindBySkeletons (family_skeletons Σ) κ (context_skeletons F)) kind_same (kind_opened_by Σ [] κ (λ d. refl) (λ i A g. absurd g) [] (context_skeletons F) K (kind_by_skeletons Σ [] K k)) in
        indices_ok Σ ok [] Ψ U (context_declared Σ ok X cx U) half [] tt K K (open_spine zero V) (open_spine zero T) known known (refl, λ β u. refl) (opened V v) (opened T t) h

    -- The lemma
    module _ (π : ℕ → ℕ) (bs : List BlockVariable) (typed : (k : ℕ) (b : BlockVariable) → block_at bs k ≡ Some b → IsContext Σ b.block.some × AreSomeTerms Σ X b.block.some b.terms) (same : (k : ℕ) (b c : BlockVariable) → block_at bs k ≡ Some b → block_at bs (π k) ≡ Some c → c.block ≡ b.block) where
      with_terms : (cs : List BlockVariable) (j : ℕ) (V : Spine) → terms_at cs j ≡ Some V → (c : BlockVariable) × (block_at cs j ≡ Some c) × (c.terms ≡ V)
      with_terms [] j V e = absurd cc
      with_terms (c ∷ cs) zero V e = (c, refl, some_same e)
      with_terms (c ∷ cs) (suc j) V e = with_terms cs j V e

      pub identities_typed : (cs : List BlockVariable) (k : ℕ) → ((i : ℕ) → block_at cs i ≡ block_at bs (i + k)) → ((β : ℕ → Option Term) → U β → SolvesAll (skeletons_of (context_metavariables X)) β (identity_equations π bs k cs)) → EquationsAreTyped Σ [] (context_metavariables X) U (identity_equations π bs k cs)
      identities_typed [] k at h = tt
      identities_typed (b ∷ cs) k at h =
          let these : List Equation = cond (same_number (π k) k) [] (terms_equations b (terms_at bs (π k))) in
          both_typed Σ Ψ U these (identity_equations π bs (suc k) cs)
          (one (same_number (π k) k) (terms_at bs (π k)) refl (λ β u. solves_first (skeletons_of Ψ) β these _ (h β u)))
          (identities_typed cs (suc k) (λ i. at (suc i) ∙ ap (block_at bs) (next i k)) (λ β u. solves_rest (skeletons_of Ψ) β these _ (h β u)))
        where
          next : (i k : ℕ) → suc i + k ≡ i + suc k
          next i k = omega arith

          none : (k : ℕ) → zero + k ≡ k
          none k = omega arith

          here : block_at bs k ≡ Some b
          here = sym (at zero ∙ ap (block_at bs) (none k))

          one : (y : Bool) (V : Option Spine) → terms_at bs (π k) ≡ V → ((β : ℕ → Option Term) → U β → SolvesAll (skeletons_of (context_metavariables X)) β (cond y [] (terms_equations b V))) → EquationsAreTyped Σ [] (context_metavariables X) U (cond y [] (terms_equations b V))
          one true V e s = tt
          one false None e s = tt
          one false (Some V) e s =
              let (c, q, t) = with_terms bs (π k) V e in
              let (cb, ab) = typed k b here in
              two_typed b.block.some b.terms V cb ab (subst (AreSomeTerms Σ X b.block.some) t (subst (λ B. AreSomeTerms Σ X B.some c.terms) (same k b c here q) (typed (π k) c q).1)) s
