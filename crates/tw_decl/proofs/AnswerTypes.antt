-- The type of an answer: the goal with typed values put in.
use Rattle.std.proofs.Common.{◌≡◌, ℕ, zero, suc, ◌<◌, List, [], ◌∷◌, ◌++◌, append_assoc, length, inl, inr, refl, sym, ap, ◌∙◌, subst}
use Rattle.std.specs.Prelude.{reverse}
use Rattle.std.proofs.lemmas.List.{append-nil, reverse-append, reverse-reverse}
use mathlib.Core.Path.{fun_ext}
use Rattle.lf.specs.Skeletons.{constant_skeletons, context_skeletons, family_skeletons}
use Rattle.lf.specs.SkeletonTyping.{SubstitutionBySkeletons, TermSkeleton}
use Rattle.lf.specs.Subordination.{Member}
use Rattle.lf.specs.Substitution.{after, lift, reduce, single, substitute_type}
use Rattle.lf.specs.Syntax.{LfType, Term, pi, skeleton}
use Rattle.lf.specs.Typing.{HasType, ImageHasType, IsContext, IsSignature, IsType, IsTypedSubstitution, Signature, instantiate_type}
use Rattle.lf.proofs.Composition.{around_image}
use Rattle.lf.proofs.SkeletonTypes.{substitutions_compose_type}
use Rattle.lf.proofs.SkeletonTyping.{lift_by_skeletons, single_by_skeletons}
use Rattle.lf.proofs.Substitution.{TypedSubstitution, skeleton_context_of, substitution_keeps_types}
use Rattle.lf.proofs.ToSkeletons.{type_by_skeletons, typed_has_skeleton}
use Rattle.lf.proofs.TypeLaws.{skeleton_substituted, substitute_identity_type, substitute_renamed_type}
use Rattle.lf_search.specs.Answers.{AreTypedValues, IsAnswerOf, at_values, images}
use Rattle.lf_search.proofs.OpenQuery.{typed_only, typed_only_type}
use Rattle.lf_unification.specs.Offering.{pi_over}
use Rattle.tw_reorder.specs.Reordered.{AreWithin}
use Rattle.tw_reorder.specs.Variables.{type_variables, variables, variables_of_all}
use Rattle.tw_reorder.proofs.Listed.{term_listed, type_listed}
use Rattle.tw_reorder.proofs.Turns.{in_context_below}
use Rattle.tw_abstract.proofs.Lists.{member_either}
use Rattle.tw_decl.specs.SearchSteps.{type_left}

module _ (Σ : Signature) (ok : IsSignature Σ) (F : List LfType) where
  -- typed values are a typed substitution
  values_typed : (G : List LfType) (Ms : List Term) → AreTypedValues Σ F G Ms → IsTypedSubstitution Σ G F (images G Ms)
  values_typed [] Ms v i X g = absurd g
  values_typed (A ∷ G) [] v i X g = absurd v
  values_typed (A ∷ G) (M ∷ Ms) (v, m) zero X e =
      let q : substitute_type reduce (images (A ∷ G) (M ∷ Ms)) X ≡ at_values G Ms A = ap (substitute_type reduce (images (A ∷ G) (M ∷ Ms))) e ∙ substitute_renamed_type reduce (images (A ∷ G) (M ∷ Ms)) suc A in
      (ap skeleton q ∙ skeleton_substituted reduce (images G Ms) A, subst (HasType Σ F M) (sym q) m)
  values_typed (A ∷ G) (M ∷ Ms) (v, m) (suc i) X (C, g, e) =
      let q : substitute_type reduce (images (A ∷ G) (M ∷ Ms)) X ≡ at_values G Ms C = ap (substitute_type reduce (images (A ∷ G) (M ∷ Ms))) e ∙ substitute_renamed_type reduce (images (A ∷ G) (M ∷ Ms)) suc C in
      subst (ImageHasType Σ F (images G Ms i)) (sym q) (values_typed G Ms v i C g)

  has_skeleton : (G : List LfType) (Ms : List Term) (A : LfType) (M : Term) → HasType Σ F M (at_values G Ms A) → TermSkeleton (constant_skeletons Σ) (context_skeletons F) M (skeleton A)
  has_skeleton G Ms A M m = subst (TermSkeleton (constant_skeletons Σ) (context_skeletons F) M) (skeleton_substituted reduce (images G Ms) A) (typed_has_skeleton Σ F M (at_values G Ms A) m)

  values_by_skeletons : (G : List LfType) (Ms : List Term) → AreTypedValues Σ F G Ms → SubstitutionBySkeletons (constant_skeletons Σ) (context_skeletons G) (context_skeletons F) (images G Ms)
  values_by_skeletons [] Ms v i t g = absurd g
  values_by_skeletons (A ∷ G) [] v i t g = absurd v
  values_by_skeletons (A ∷ G) (M ∷ Ms) (v, m) zero t e = (e, has_skeleton G Ms A M m)
  values_by_skeletons (A ∷ G) (M ∷ Ms) (v, m) (suc i) t g = values_by_skeletons G Ms v i t g

  -- one value more
  joined : (B : LfType) (G : List LfType) (M : Term) (Ms : List Term) (i : ℕ) → after (single (skeleton B) M) (lift (images G Ms)) i ≡ images (B ∷ G) (M ∷ Ms) i
  joined B G M Ms zero = refl
  joined B G M Ms (suc i) = sym (around_image (skeleton B) M (images G Ms i))

  one_more : (B : LfType) (G : List LfType) (M : Term) (Ms : List Term) (A : LfType) → AreTypedValues Σ F G Ms → HasType Σ F M (at_values G Ms B) → IsType Σ (B ∷ G) A
      → instantiate_type (at_values G Ms B) M (substitute_type reduce (lift (images G Ms)) A) ≡ at_values (B ∷ G) (M ∷ Ms) A
  one_more B G M Ms A v m t =
      ap (λ s. substitute_type reduce (single s M) (substitute_type reduce (lift (images G Ms)) A)) (skeleton_substituted reduce (images G Ms) B)
      ∙ substitutions_compose_type (family_skeletons Σ) (constant_skeletons Σ) (skeleton B ∷ context_skeletons G) (skeleton B ∷ context_skeletons F) (context_skeletons F) (lift (images G Ms)) (single (skeleton B) M) A
      (lift_by_skeletons (constant_skeletons Σ) (skeleton B) (context_skeletons G) (context_skeletons F) (images G Ms) (values_by_skeletons G Ms v))
      (single_by_skeletons (constant_skeletons Σ) (skeleton B) (context_skeletons F) M (has_skeleton G Ms B M m)) (type_by_skeletons Σ (B ∷ G) A t)
      ∙ ap (λ f. substitute_type reduce f A) (fun_ext (joined B G M Ms))

  left_with : (G : List LfType) (Ms : List Term) (A : LfType) (rest : List Term) → IsContext Σ G → IsType Σ G A → AreTypedValues Σ F G Ms → type_left (pi_over G A) (reverse Ms ++ rest) ≡ type_left (at_values G Ms A) rest
  left_with [] [] A rest c t v = ap (λ X. type_left X rest) (sym (substitute_identity_type reduce A) ∙ ap (λ f. substitute_type reduce f A) (fun_ext (λ i. refl)))
  left_with [] (M ∷ Ms) A rest c t v = absurd v
  left_with (B ∷ G) [] A rest c t v = absurd v
  left_with (B ∷ G) (M ∷ Ms) A rest (c, b) t (v, m) =
      ap (type_left (pi_over G (pi B A))) (ap (λ l. l ++ rest) (reverse-append (M ∷ []) Ms) ∙ append_assoc (reverse Ms) (M ∷ []) rest)
      ∙ left_with G Ms (pi B A) (M ∷ rest) c (b, t) v
      ∙ ap (λ X. type_left X rest) (one_more B G M Ms A v m t)

  -- what is left of the goal under its quantifiers is the goal with the values put in
  pub left_is : (G : List LfType) (Ns : List Term) (A : LfType) → IsContext Σ G → IsType Σ G A → AreTypedValues Σ F G (reverse Ns) → type_left (pi_over G A) Ns ≡ at_values G (reverse Ns) A
  left_is G Ns A c t v = ap (type_left (pi_over G A)) (sym (append-nil (reverse (reverse Ns)) ∙ reverse-reverse Ns)) ∙ left_with G (reverse Ns) A [] c t v

  pub answer_typed : (G : List LfType) (Ms : List Term) (A : LfType) (P : Term) → IsContext Σ G → IsType Σ G A → IsAnswerOf Σ G A F Ms P → IsType Σ F (at_values G Ms A)
  answer_typed G Ms A P c t a =
      let w : TypedSubstitution Σ ok G F (images G Ms) = record { typed = values_typed G Ms a.values_typed; source_skeletons = skeleton_context_of Σ ok G c; target_skeletons = skeleton_context_of Σ ok F a.context } in
      substitution_keeps_types Σ ok G F (images G Ms) A w t

  -- the variables of an answer are those of its context
  value_below : (G : List LfType) (Ms : List Term) → AreTypedValues Σ F G Ms → (M : Term) → Member M Ms → (v : ℕ) → Member v (variables 0 M) → v < length F
  value_below [] [] t M i v m = absurd i
  value_below [] (N ∷ Ms) t M i v m = absurd t
  value_below (A ∷ G) [] t M i v m = absurd t
  value_below (A ∷ G) (N ∷ Ms) (t, n) M (inl e) v m = in_context_below F v (term_listed _ N (typed_only Σ F N (at_values G Ms A) n) v (subst (λ X. Member v (variables 0 X)) e m))
  value_below (A ∷ G) (N ∷ Ms) (t, n) M (inr i) v m = value_below G Ms t M i v m

  among_all : (Ns : List Term) (v : ℕ) → Member v (variables_of_all Ns) → (N : Term) × Member N Ns × Member v (variables 0 N)
  among_all [] v m = absurd m
  among_all (N ∷ Ns) v m = elim (member_either (variables 0 N) (variables_of_all Ns) v m) [
    | inl i ↦ (N, inl refl, i)
    | inr i ↦ (let (X, j, k) = among_all Ns v i in (X, inr j, k))
  ]

  member_of : (xs ys : List Term) (N : Term) → Member N ys → Member N (xs ++ ys)
  member_of [] ys N i = i
  member_of (x ∷ xs) ys N i = inr (member_of xs ys N i)

  member_front : (xs ys : List Term) (N : Term) → Member N xs → Member N (xs ++ ys)
  member_front [] ys N i = absurd i
  member_front (x ∷ xs) ys N (inl e) = inl e
  member_front (x ∷ xs) ys N (inr i) = inr (member_front xs ys N i)

  reversed : (Ns : List Term) (N : Term) → Member N Ns → Member N (reverse Ns)
  reversed [] N i = absurd i
  reversed (M ∷ Ns) N (inl e) = subst (Member N) (sym (reverse-append (M ∷ []) Ns)) (member_of (reverse Ns) (M ∷ []) N (inl e))
  reversed (M ∷ Ns) N (inr i) = subst (Member N) (sym (reverse-append (M ∷ []) Ns)) (member_front (reverse Ns) (M ∷ []) N (reversed Ns N i))

  pub answer_within : (G : List LfType) (Ns : List Term) (A : LfType) (P : Term) → IsContext Σ G → IsType Σ G A → IsAnswerOf Σ G A F (reverse Ns) P → AreWithin F (at_values G (reverse Ns) A) P Ns
  answer_within G Ns A P c t a = record {
    signature = Σ;
    context = a.context;
    within = λ v m. elim (member_either (type_variables 0 (at_values G (reverse Ns) A)) (variables 0 P ++ variables_of_all Ns) v m) [
      | inl i ↦ in_context_below F v (type_listed _ (at_values G (reverse Ns) A) (typed_only_type Σ F (at_values G (reverse Ns) A) (answer_typed G (reverse Ns) A P c t a)) v i)
      | inr j ↦ elim (member_either (variables 0 P) (variables_of_all Ns) v j) [
        | inl i ↦ in_context_below F v (term_listed _ P (typed_only Σ F P (at_values G (reverse Ns) A) a.proves) v i)
        | inr i ↦ (let (N, k, n) = among_all Ns v i in value_below G (reverse Ns) a.values_typed N (reversed Ns N k) v n)
      ]
    ];
  }
