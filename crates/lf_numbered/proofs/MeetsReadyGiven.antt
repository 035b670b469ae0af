-- A case that is typed beside a pattern, with what stands outside its clause put in, is typed so at its place, where the clause's own variables are in front.
use Rattle.std.proofs.Common.{◌≡◌, ℕ, zero, ◌+◌, ◌-◌, ◌⊎◌, List, [], length, inl, inr, refl, sym, ap, ap₂, ◌∙◌, subst, arith}
use Rattle.std.specs.Prelude.{Bool, true, false, cond, Option, Some, None}
use Rattle.lf.specs.Syntax.{Term, LfType, skeleton, rename, rename_type}
use Rattle.lf.specs.Substitution.{Image, keep, put, rename_image, substitute, substitute_image, substitute_type, after, reduce}
use Rattle.lf.specs.AtOnce.{shift_by}
use Rattle.lf.specs.Entries.{quantifiers}
use Rattle.lf.specs.SkeletonTyping.{SkeletonAt, TermSkeleton, TypeBySkeletons, ImageSkeleton, SubstitutionBySkeletons}
use Rattle.lf.specs.Skeletons.{constant_skeletons, family_skeletons, context_skeletons}
use Rattle.lf.specs.Typing.{Signature, TypeAt, HasType, ImageHasType, IsType, IsContext, IsSignature, IsTypedSubstitution, IsTypedRenaming}
use Rattle.lf.specs.Variables.{binders, everything, onto}
use Rattle.lf.specs.Worlds.{lift_over}
use Rattle.lf.proofs.Closed.{Agree, agree, agree_type}
use Rattle.lf.proofs.Decidability.{variable_type_unique}
use Rattle.lf.proofs.SkeletonTypes.{substitutions_compose_type, substitution_keeps_types_by_skeletons}
use Rattle.lf.proofs.Substitution.{TypedSubstitution, skeleton_context_of, substitution_keeps_typing, typed_substitution_by_skeletons}
use Rattle.lf.proofs.ToSkeletons.{skeleton_has_variable, variable_has_skeleton, typed_has_skeleton, type_by_skeletons}
use Rattle.lf.proofs.Renaming.{substitute_renamed}
use Rattle.lf.proofs.TypeLaws.{skeleton_renamed, skeleton_substituted, substitute_renamed_type, substitution_as_renaming, substitution_as_renaming_type}
use Rattle.lf.proofs.Weakening.{declared_is_type, renaming_keeps_typing}
use Rattle.lf_checks.specs.Clause.{outside, scope}
use Rattle.lf_cases.specs.Candidates.{given_images}
use Rattle.lf_cases.specs.Pattern.{Pattern, is_given, given_at}
use Rattle.lf_totality.proofs.Core.{out_index, outside_at}
use Rattle.lf_totality.proofs.RaisedOutputs.{binders_over}
use Rattle.lf_coverage.specs.Heads.{HaveSkeletons}
use Rattle.lf_coverage.specs.Leaf.{IsTypedPattern}
use Rattle.lf_coverage.proofs.ClauseValues.{out_back}
use Rattle.lf_coverage.proofs.Forms.{far_type, local_has_type}
use Rattle.lf_coverage.proofs.GivenValues.{StandsForItself, StandsForGiven, given_cases, given_there, image_near, near_typed, onto_context}
use Rattle.lf_coverage.proofs.Meeting.{joined, joined_near, joined_far, which_type}
use Rattle.lf_coverage.proofs.Parts.{none_some, some_same}
use Rattle.lf_numbered.specs.EntryConstants.{with_entries}
use Rattle.lf_numbered.specs.EntryPatternsMatching.{placed_type}
use Rattle.lf_numbered.specs.EntryTerms.{beside_values, IsTypedBesideWith}
use Rattle.lf_numbered.specs.NewBlock.{rename_all}
use Rattle.lf_numbered.specs.NumberedCase.{NumberedCase}
use Rattle.lf_numbered.specs.OwnTerms.{blocks_of}
use Rattle.lf_numbered.proofs.EntryPatternsNear.{binders_count, out_far, own_near, near_own}
use Rattle.lf_numbered.proofs.MeetsReadyStores.{placed_behind, placed_context, placed_values}
use Rattle.lf_numbered.proofs.MeetsReadyTurned.{far_moved, near_keep}
use Rattle.lf_numbered.proofs.RenamedBlocks.{given_from, given_renamed}
use Rattle.lf_numbered.proofs.WritingBack.{within}
use mathlib.Core.Path.{fun_ext}

module _ (Σ0 : Signature) (first : ℕ) (C : NumberedCase) (ok : IsSignature (with_entries Σ0 first (blocks_of C.blocks))) (cv : IsContext (with_entries Σ0 first (blocks_of C.blocks)) C.variables) (cl : IsContext (with_entries Σ0 first (blocks_of C.blocks)) (onto C.local C.variables)) (sg : HaveSkeletons (constant_skeletons (with_entries Σ0 first (blocks_of C.blocks))) (context_skeletons C.variables) C.given) (sa : HaveSkeletons (constant_skeletons (with_entries Σ0 first (blocks_of C.blocks))) (context_skeletons (onto C.local C.variables)) C.arguments) (p : Pattern) (tp : IsTypedPattern (with_entries Σ0 first (blocks_of C.blocks)) p) (own_given : (i : ℕ) → is_given C.given i ≡ true → outside p.clause.type everything i ≡ false) (φ : ℕ → Image) (φ_typed : IsTypedSubstitution (with_entries Σ0 first (blocks_of C.blocks)) p.clause.outer C.variables φ) (b : IsTypedBesideWith Σ0 first C p φ) where
  abbrev Σ : Signature
  Σ = with_entries Σ0 first (blocks_of C.blocks)

  abbrev V : List LfType
  V = C.variables

  abbrev Q : List LfType
  Q = binders [] p.clause.type

  abbrev O : List LfType
  O = scope p.clause

  abbrev n : ℕ
  n = quantifiers p.clause.type

  abbrev m : ℕ
  m = length C.variables

  abbrev Y : List LfType
  Y = onto C.variables (scope p.clause)

  abbrev X : List LfType
  X = binders C.variables (substitute_type reduce φ p.clause.type)

  abbrev Λ : ℕ → Image
  Λ = lift_over Q φ

  abbrev T : LfType
  T = placed_type p φ

  abbrev β : ℕ → Image
  β = beside_values C p φ

  abbrev Ms : List (Option Term)
  Ms = rename_all (shift_by n) C.given

  abbrev g : ℕ → Image
  g = given_images X Ms zero

  -- the case's variables moved past the clause's own, which stay, with φ for what is outside
  abbrev ξ : ℕ → Image
  ξ = joined C.variables (λ i. keep (i + n)) Λ

  scope_is : O ≡ onto Q p.clause.outer
  scope_is = binders_over [] p.clause.type p.clause.outer

  pub cx : IsContext Σ X
  cx = placed_context Σ ok V cv p tp φ φ_typed

  pub co : IsContext Σ O
  co = tp.clause_typed

  pub cy : IsContext Σ Y
  cy = onto_context Σ ok V O cv co

  Λ_typed : IsTypedSubstitution Σ O X Λ
  Λ_typed = subst (λ L. IsTypedSubstitution Σ L X Λ) (sym scope_is) (placed_values Σ ok V cv p tp φ φ_typed)

  behind : IsTypedRenaming V X (shift_by n)
  behind = placed_behind Σ ok V cv p tp φ φ_typed

  pub near : Agree V ξ (λ i. keep (i + n))
  near i A h = joined_near V (λ j. keep (j + n)) Λ i A h

  pub ξ_typed : IsTypedSubstitution Σ Y X ξ
  ξ_typed i A k = by (which_type V O i A k)
    where
      by : TypeAt V i A ⊎ ((j : ℕ) × (B : LfType) × TypeAt O j B × (i ≡ j + m) × (A ≡ rename_type (shift_by m) B)) → ImageHasType Σ X (ξ i) (substitute_type reduce ξ A)
      by (inl h) = subst (λ x. ImageHasType Σ X x (substitute_type reduce ξ A)) (sym (near i A h)) (subst (TypeAt X (i + n)) (sym (agree_type Σ reduce V ξ (λ j. keep (j + n)) A near (declared_is_type Σ ok V i A cv h) ∙ substitution_as_renaming_type reduce (shift_by n) A)) (behind i A h))
      by (inr (j, B, h, q, r)) = subst (λ x. ImageHasType Σ X x (substitute_type reduce ξ A)) (sym (ap ξ q ∙ joined_far V (λ k. keep (k + n)) Λ j)) (subst (ImageHasType Σ X (Λ j)) (sym (ap (substitute_type reduce ξ) r ∙ substitute_renamed_type reduce ξ (shift_by m) B ∙ ap (λ f. substitute_type reduce f B) (fun_ext (joined_far V (λ k. keep (k + n)) Λ)))) (Λ_typed j B h))

  joint : TypedSubstitution Σ ok Y X ξ
  joint = record { typed = ξ_typed; source_skeletons = skeleton_context_of Σ ok Y cy; target_skeletons = skeleton_context_of Σ ok X cx }

  ξ_fits : SubstitutionBySkeletons (constant_skeletons Σ) (context_skeletons Y) (context_skeletons X) ξ
  ξ_fits = typed_substitution_by_skeletons Σ ok Y X ξ ξ_typed

  -- What stands for a variable of the clause
  data Stands (i : ℕ) (A : LfType) : Type 0 where
    own_itself : Λ i ≡ keep i → β i ≡ keep (i + m) → given_at C.given i ≡ None → Stands i A
    own_given_term : (M : Term) → Λ i ≡ keep i → β i ≡ put (skeleton A) M → given_at C.given i ≡ Some M → Stands i A
    far_outside : (k : ℕ) (B : LfType) → TypeAt p.clause.outer k B → skeleton A ≡ skeleton B → i ≡ k + n → β i ≡ φ k → Stands i A

  no_both : {y : Bool} → y ≡ true → y ≡ false → ⊥
  no_both e f = absurd (true_false (sym e ∙ f))
    where
      true_false : true ≡ false → ⊥
      true_false e = cc

  none_far : (k : ℕ) → given_at C.given (k + n) ≡ None
  none_far k = by (given_at C.given (k + n)) refl
    where
      by : (y : Option Term) → given_at C.given (k + n) ≡ y → y ≡ None
      by None e = refl
      by (Some M) e = absurd (no_both (ap (outside p.clause.type everything) (ap (λ l. k + l) (sym (binders_count p.clause.type)) ∙ sym (out_far p.clause.type k)) ∙ outside_at p.clause.type everything k) (own_given (k + n) (given_there C.given (k + n) M e)))

  stands : (i : ℕ) (A : LfType) → TypeAt O i A → Stands i A
  stands i A h = by (which_type Q p.clause.outer i A (subst (λ L. TypeAt L i A) scope_is h))
    where
      own : outside p.clause.type everything i ≡ false → Λ i ≡ keep i → StandsForItself O C.given m i ⊎ StandsForGiven O C.given m i → (y : Option Term) → given_at C.given i ≡ y → Stands i A
      own o l (inl (e, none)) None q = own_itself l (ap (λ c. cond c (φ (i - n)) (given_images O C.given m i)) o ∙ e) q
      own o l (inl (e, none)) (Some M) q = absurd (none A M h q)
      own o l (inr (B, M, t, r, e)) y q = own_given_term M l (ap (λ c. cond c (φ (i - n)) (given_images O C.given m i)) o ∙ e ∙ ap (λ (Z : LfType). put (skeleton Z) M) (variable_type_unique O i B A t h)) r

      by : TypeAt Q i A ⊎ ((k : ℕ) × (B : LfType) × TypeAt p.clause.outer k B × (i ≡ k + length Q) × (A ≡ rename_type (shift_by (length Q)) B)) → Stands i A
      by (inl q) = own (near_own p.clause.type i (within Q i A q)) (near_keep Q φ i A q) (given_cases O C.given m i) (given_at C.given i) refl
      by (inr (k, B, t, e, r)) =
          let o : i ≡ out_index p.clause.type k = e ∙ sym (out_far p.clause.type k) in
          far_outside k B t (ap skeleton r ∙ skeleton_renamed (shift_by (length Q)) B) (e ∙ ap (λ l. k + l) (binders_count p.clause.type))
          (ap β o ∙ ap (λ c. cond c (φ (out_index p.clause.type k - n)) (given_images O C.given m (out_index p.clause.type k))) (outside_at p.clause.type everything k) ∙ ap φ (out_back p.clause.type k))

  -- a given term has its type over the case's variables
  term_given : (i : ℕ) (A : LfType) (M : Term) → TypeAt O i A → β i ≡ put (skeleton A) M → given_at C.given i ≡ Some M → HasType Σ V M (substitute_type reduce β A)
  term_given i A M h e q = (subst (λ x. ImageHasType Σ V x (substitute_type reduce β A)) e (b.given.typed i A h (ap (λ y. Rattle.lf_checks.specs.Tests.either y (outside p.clause.type everything i)) (given_there C.given i M q)))).1

  moved_term : (M : Term) (A : LfType) → HasType Σ V M A → substitute reduce ξ M ≡ rename (shift_by n) M
  moved_term M A t = agree Σ reduce V ξ (λ j. keep (j + n)) M A near t ∙ substitution_as_renaming reduce (shift_by n) M

  itself_none : (i : ℕ) → given_at C.given i ≡ None → g i ≡ keep i
  itself_none i q = by (given_cases X Ms zero i)
    where
      none : (i : ℕ) → i + zero ≡ i
      none i = omega arith

      by : StandsForItself X Ms zero i ⊎ StandsForGiven X Ms zero i → g i ≡ keep i
      by (inl (e, f)) = e ∙ ap keep (none i)
      by (inr (B, N, t, r, e)) = let (M, r', z) = given_from (shift_by n) C.given i N r in absurd (none_some (sym q ∙ r'))

  itself_given : (i : ℕ) (A : LfType) (M : Term) → TypeAt O i A → Λ i ≡ keep i → given_at C.given i ≡ Some M → g i ≡ put (skeleton A) (rename (shift_by n) M)
  itself_given i A M h l q = by (given_cases X Ms zero i)
    where
      at : TypeAt X i (substitute_type reduce Λ A)
      at = subst (λ x. ImageHasType Σ X x (substitute_type reduce Λ A)) l (Λ_typed i A h)

      by : StandsForItself X Ms zero i ⊎ StandsForGiven X Ms zero i → g i ≡ put (skeleton A) (rename (shift_by n) M)
      by (inl (e, f)) = absurd (f (substitute_type reduce Λ A) (rename (shift_by n) M) at (given_renamed (shift_by n) C.given i M q))
      by (inr (B, N, t, r, e)) = e ∙ ap₂ put (ap skeleton (variable_type_unique X i B (substitute_type reduce Λ A) t at) ∙ skeleton_substituted reduce Λ A) (some_same (sym r ∙ given_renamed (shift_by n) C.given i M q))

  far_image : (y : Image) (Z : LfType) → ImageHasType Σ V y Z → (substitute_image ξ y ≡ rename_image (shift_by n) y) × (substitute_image g (rename_image (shift_by n) y) ≡ rename_image (shift_by n) y)
  far_image (keep j) Z t = (near j Z t, itself_none (j + n) (none_far j))
  far_image (put a N) Z (e, t) = (
    ap (put a) (moved_term N Z t),
    ap (put a) (substitute_renamed reduce g (shift_by n) N ∙ agree Σ reduce V (λ j. g (j + n)) (λ j. keep (j + n)) N Z (λ j B h. itself_none (j + n) (none_far j)) t ∙ substitution_as_renaming reduce (shift_by n) N),
  )

  key : Agree O (after ξ β) (after g Λ)
  key i A h = by (stands i A h)
    where
      by : Stands i A → after ξ β i ≡ after g Λ i
      by (own_itself l e q) = ap (substitute_image ξ) e ∙ joined_far V (λ k. keep (k + n)) Λ i ∙ l ∙ sym (ap (substitute_image g) l ∙ itself_none i q)
      by (own_given_term M l e q) = ap (substitute_image ξ) e ∙ ap (put (skeleton A)) (moved_term M (substitute_type reduce β A) (term_given i A M h e q)) ∙ sym (ap (substitute_image g) l ∙ itself_given i A M h l q)
      by (far_outside k B t s e f) =
          let (x, y) = far_image (φ k) (substitute_type reduce φ B) (φ_typed k B t) in
          let l : Λ i ≡ rename_image (shift_by n) (φ k) = ap Λ (e ∙ ap (λ j. k + j) (sym (binders_count p.clause.type))) ∙ far_moved Q φ k ∙ ap (λ j. rename_image (shift_by j) (φ k)) (binders_count p.clause.type) in
          ap (substitute_image ξ) f ∙ x ∙ sym (ap (substitute_image g) l ∙ y)

  -- skeletons
  image_skeleton : (G : List LfType) (y : Image) (Z : LfType) → ImageHasType Σ G y Z → ImageSkeleton (constant_skeletons Σ) (context_skeletons G) y (skeleton Z)
  image_skeleton G (keep j) Z h = variable_has_skeleton G j Z h
  image_skeleton G (put a N) Z (e, h) = (sym e, subst (TermSkeleton (constant_skeletons Σ) (context_skeletons G) N) e (typed_has_skeleton Σ G N Z h))

  pub β_fits : SubstitutionBySkeletons (constant_skeletons Σ) (context_skeletons O) (context_skeletons Y) β
  β_fits i t k = let (A, h, e) = skeleton_has_variable O i t k in subst (ImageSkeleton (constant_skeletons Σ) (context_skeletons Y) (β i)) e (by A h (stands i A h))
    where
      by : (A : LfType) → TypeAt O i A → Stands i A → ImageSkeleton (constant_skeletons Σ) (context_skeletons Y) (β i) (skeleton A)
      by A h (own_itself l e q) = subst (λ x. ImageSkeleton (constant_skeletons Σ) (context_skeletons Y) x (skeleton A)) (sym e) (subst (SkeletonAt (context_skeletons Y) (i + m)) (skeleton_renamed (shift_by m) A) (variable_has_skeleton Y (i + m) (rename_type (shift_by m) A) (far_type V O i A h)))
      by A h (own_given_term M l e q) = subst (λ x. ImageSkeleton (constant_skeletons Σ) (context_skeletons Y) x (skeleton A)) (sym e) (refl, subst (TermSkeleton (constant_skeletons Σ) (context_skeletons Y) M) (skeleton_substituted reduce β A) (typed_has_skeleton Σ Y M (substitute_type reduce β A) (near_typed Σ ok V O M (substitute_type reduce β A) (term_given i A M h e q))))
      by A h (far_outside k B t s e f) = subst (λ x. ImageSkeleton (constant_skeletons Σ) (context_skeletons Y) x (skeleton A)) (sym f) (subst (ImageSkeleton (constant_skeletons Σ) (context_skeletons Y) (φ k)) (skeleton_substituted reduce φ B ∙ sym s) (image_skeleton Y (φ k) (substitute_type reduce φ B) (image_near Σ ok V O (φ k) (substitute_type reduce φ B) (φ_typed k B t))))

  Λ_fits : SubstitutionBySkeletons (constant_skeletons Σ) (context_skeletons O) (context_skeletons X) Λ
  Λ_fits = typed_substitution_by_skeletons Σ ok O X Λ Λ_typed

  own_variable : (i : ℕ) (M : Term) → given_at C.given i ≡ Some M → (A : LfType) × TypeAt O i A
  own_variable i M q = let (A, h) = local_has_type Q p.clause.outer i (own_near p.clause.type i (own_given i (given_there C.given i M q))) in (A, subst (λ L. TypeAt L i A) (sym scope_is) h)

  -- the values of the variables of the store have their skeletons
  g_fits : SubstitutionBySkeletons (constant_skeletons Σ) (context_skeletons X) (context_skeletons X) g
  g_fits i t k = by (given_cases X Ms zero i)
    where
      none : (i : ℕ) → i ≡ i + zero
      none i = omega arith

      by : StandsForItself X Ms zero i ⊎ StandsForGiven X Ms zero i → ImageSkeleton (constant_skeletons Σ) (context_skeletons X) (g i) t
      by (inl (e, f)) = subst (λ x. ImageSkeleton (constant_skeletons Σ) (context_skeletons X) x t) (sym e) (subst (λ j. SkeletonAt (context_skeletons X) j t) (none i) k)
      by (inr (B, N, tb, r, e)) =
          let (M, q, z) = given_from (shift_by n) C.given i N r in
          let (A, h) = own_variable i M q in
          let (D, hd, s) = skeleton_has_variable X i t k in
          one A M h q tb e z (ap skeleton (variable_type_unique X i B D tb hd) ∙ s) (stands i A h)
        where
          one : (A : LfType) (M : Term) → TypeAt O i A → given_at C.given i ≡ Some M → TypeAt X i B → g i ≡ put (skeleton B) N → N ≡ rename (shift_by n) M → skeleton B ≡ t → Stands i A → ImageSkeleton (constant_skeletons Σ) (context_skeletons X) (g i) t
          one A M h q tb e z s (own_itself l f none) = absurd (none_some (sym none ∙ q))
          one A M h q tb e z s (far_outside k D td sd f w) = absurd (none_some (sym (ap (given_at C.given) f ∙ none_far k) ∙ q))
          one A M h q tb e z s (own_given_term P l f w) =
              let at : TypeAt X i (substitute_type reduce Λ A) = subst (λ x. ImageHasType Σ X x (substitute_type reduce Λ A)) l (Λ_typed i A h) in
              let same : skeleton A ≡ skeleton B = sym (ap skeleton (variable_type_unique X i B (substitute_type reduce Λ A) tb at) ∙ skeleton_substituted reduce Λ A) in
              let moved : HasType Σ X (rename (shift_by n) P) (rename_type (shift_by n) (substitute_type reduce β A)) = renaming_keeps_typing Σ ok V X (shift_by n) P (substitute_type reduce β A) behind (term_given i A P h f w) in
              let here : TermSkeleton (constant_skeletons Σ) (context_skeletons X) (rename (shift_by n) P) (skeleton B) = subst (TermSkeleton (constant_skeletons Σ) (context_skeletons X) (rename (shift_by n) P)) (skeleton_renamed (shift_by n) (substitute_type reduce β A) ∙ skeleton_substituted reduce β A ∙ same) (typed_has_skeleton Σ X (rename (shift_by n) P) (rename_type (shift_by n) (substitute_type reduce β A)) moved) in
              subst (λ x. ImageSkeleton (constant_skeletons Σ) (context_skeletons X) x t) (sym e) (s, subst (λ R. TermSkeleton (constant_skeletons Σ) (context_skeletons X) R (skeleton B)) (ap (rename (shift_by n)) (some_same (sym w ∙ q)) ∙ sym z) here)

  -- So with these values put in, a type of the clause is the same either way.
  pub type_key : (A : LfType) → IsType Σ O A → substitute_type reduce ξ (substitute_type reduce β A) ≡ substitute_type reduce g (substitute_type reduce Λ A)
  type_key A t =
      let k = type_by_skeletons Σ O A t in
      substitutions_compose_type (family_skeletons Σ) (constant_skeletons Σ) (context_skeletons O) (context_skeletons Y) (context_skeletons X) β ξ A β_fits ξ_fits k
      ∙ agree_type Σ reduce O (after ξ β) (after g Λ) A key t
      ∙ sym (substitutions_compose_type (family_skeletons Σ) (constant_skeletons Σ) (context_skeletons O) (context_skeletons X) (context_skeletons X) Λ g A Λ_fits g_fits k)

  pub given_typed : (i : ℕ) (A : LfType) (N : Term) → TypeAt X i A → given_at Ms i ≡ Some N → HasType Σ X N (substitute_type reduce g A)
  given_typed i B N tb r =
      let (M, q, z) = given_from (shift_by n) C.given i N r in
      let (A, h) = own_variable i M q in
      by A M h q z (stands i A h)
    where
      by : (A : LfType) (M : Term) → TypeAt O i A → given_at C.given i ≡ Some M → N ≡ rename (shift_by n) M → Stands i A → HasType Σ X N (substitute_type reduce g B)
      by A M h q z (own_itself l f none) = absurd (none_some (sym none ∙ q))
      by A M h q z (far_outside k D td sd f w) = absurd (none_some (sym (ap (given_at C.given) f ∙ none_far k) ∙ q))
      by A M h q z (own_given_term P l f w) =
          let at : TypeAt X i (substitute_type reduce Λ A) = subst (λ x. ImageHasType Σ X x (substitute_type reduce Λ A)) l (Λ_typed i A h) in
          let t : IsType Σ O A = declared_is_type Σ ok O i A co h in
          let here : HasType Σ V P (substitute_type reduce β A) = term_given i A P h f w in
          let k : TypeBySkeletons (family_skeletons Σ) (constant_skeletons Σ) (context_skeletons Y) (substitute_type reduce β A) = substitution_keeps_types_by_skeletons (family_skeletons Σ) (constant_skeletons Σ) (context_skeletons O) (context_skeletons Y) β A β_fits (type_by_skeletons Σ O A t) in
          let put : HasType Σ X (substitute reduce ξ P) (substitute_type reduce ξ (substitute_type reduce β A)) = substitution_keeps_typing Σ ok Y X ξ P (substitute_type reduce β A) joint k (near_typed Σ ok V O P (substitute_type reduce β A) here) in
          subst (λ R. HasType Σ X R (substitute_type reduce g B)) (moved_term P (substitute_type reduce β A) here ∙ ap (rename (shift_by n)) (some_same (sym w ∙ q)) ∙ sym z) (subst (HasType Σ X (substitute reduce ξ P)) (type_key A t ∙ ap (substitute_type reduce g) (sym (variable_type_unique X i B (substitute_type reduce Λ A) tb at))) put)
