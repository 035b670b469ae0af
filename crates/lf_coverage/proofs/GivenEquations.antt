-- What the equations of given terms say in a filling, and that they are typed.
use Rattle.std.proofs.Common.{◌≡◌, ℕ, zero, suc, ◌+◌, List, [], ◌∷◌, length, inl, inr, refl, sym, ap, ap₂, ◌∙◌, subst, arith}
use Rattle.std.specs.Prelude.{Option, Some, None, ◌⊎◌}
use Rattle.lf.specs.Syntax.{variable, Term, LfType, Skeleton, skeleton, weaken, rename_type}
use Rattle.lf.specs.Substitution.{Image, put, substitute, substitute_type, substitute_image, after, reduce}
use Rattle.lf.specs.SkeletonTyping.{TypeBySkeletons, SubstitutionBySkeletons}
use Rattle.lf.specs.Skeletons.{constant_skeletons, family_skeletons, context_skeletons}
use Rattle.lf.specs.AtOnce.{shift_by}
use Rattle.lf.specs.Eta.{eta_long}
use Rattle.lf.specs.Typing.{Signature, TypeAt, HasType, IsContext, IsSignature, IsTypedRenaming}
use Rattle.lf.specs.Variables.{onto}
use Rattle.lf.proofs.EtaTyping.{eta_long_has_type}
use Rattle.lf.proofs.SkeletonTypes.{substitution_keeps_types_by_skeletons}
use Rattle.lf.proofs.ToSkeletons.{variable_has_skeleton, typed_has_skeleton, type_by_skeletons}
use Rattle.lf.proofs.TypeLaws.{skeleton_renamed, skeleton_substituted}
use Rattle.lf.proofs.Weakening.{renaming_keeps_types, declared_is_type}
use Rattle.lf_unification.specs.Filling.{fill}
use Rattle.lf_unification.specs.OpenTyping.{OpenHasType, skeletons_of}
use Rattle.lf_unification.specs.PartialInstance.{EquationsAreTyped, PartialInstance}
use Rattle.lf_unification.specs.Unifiers.{Equation, SolvesAll}
use Rattle.lf_unification.proofs.Decompose.{OpenHasType-convert}
use Rattle.lf_unification.specs.Lists.{followed}
use Rattle.lf_cases.specs.Case.{as_term}
use Rattle.lf_cases.specs.Pattern.{given_at}
use Rattle.lf_coverage.specs.MeetStore.{one_given, given_equations}
use Rattle.lf_coverage.specs.SplitStore.{open_term, open_type, type_in, context_metavariables}
use Rattle.lf_coverage.proofs.Forms.{far_type, no_shift_type, shift_type_next}
use Rattle.lf_coverage.proofs.GivenValues.{StandsForItself, StandsForGiven, given_cases, far_renames, type_put}
use Rattle.lf_coverage.proofs.OpenSkeletons.{filled_values, filled_value, filled_fits, filled_term, type_by_opened}
use Rattle.lf_coverage.proofs.OpenTyped.{term_opened}
use Rattle.lf_coverage.proofs.StoreSolution.{looked_up, found_type, value_at}
use Rattle.lf_coverage.proofs.Parts.{some_same}
use Rattle.lf_coverage.proofs.ContextFillings.{skU, MS, values, ok_opened, same_opened}
use Rattle.lf_cases.specs.Candidates.{given_images}

pub both_typed : (Σ : Signature) (Φ : ℕ → Option LfType) (U : (ℕ → Option Term) → Type 0) (es fs : List Equation) → EquationsAreTyped Σ [] Φ U es → EquationsAreTyped Σ [] Φ U fs → EquationsAreTyped Σ [] Φ U (followed es fs)
both_typed Σ Φ U [] fs a b = b
both_typed Σ Φ U (e ∷ es) fs (x, a) b = (x, both_typed Σ Φ U es fs a b)

-- what the equations of given terms say
pub given_solved : (ν : ℕ → Skeleton) (β : ℕ → Option Term) (X : List LfType) (k : ℕ) (Ms : List (Option Term)) → SolvesAll ν β (given_equations X k Ms) → (i : ℕ) (M : Term) (A : LfType) → given_at Ms i ≡ Some M → TypeAt X (i + k) A → fill ν β (open_term zero (eta_long (skeleton A) (variable (i + k)))) ≡ fill ν β (open_term zero M)
given_solved ν β X k [] h i M A e g = absurd cc
given_solved ν β X k (N ∷ Ms) h zero M A e g = by (type_in X k) (looked_up X k A (subst (λ j. TypeAt X j A) (none k) g)) N e h
  where
    none : (k : ℕ) → 0 + k ≡ k
    none k = omega arith

    by : (y : Option LfType) → y ≡ Some A → (x : Option Term) → x ≡ Some M → SolvesAll ν β (one_given k y x (given_equations X (suc k) Ms)) → fill ν β (open_term zero (eta_long (skeleton A) (variable (0 + k)))) ≡ fill ν β (open_term zero M)
    by None q x e s = absurd cc
    by (Some B) q None e s = absurd cc
    by (Some B) q (Some P) e (s, t) = ap (λ j. fill ν β (open_term zero (eta_long (skeleton A) (variable j)))) (none k) ∙ ap (λ Z. fill ν β (open_term zero (eta_long (skeleton Z) (variable k)))) (sym (some_same q)) ∙ s ∙ ap (λ Z. fill ν β (open_term zero Z)) (some_same e)
given_solved ν β X k (N ∷ Ms) h (suc i) M A e g = ap (λ j. fill ν β (open_term zero (eta_long (skeleton A) (variable j)))) (next i k) ∙ given_solved ν β X (suc k) Ms (rest (type_in X k) N h) i M A e (subst (λ j. TypeAt X j A) (next i k) g)
  where
    next : (i k : ℕ) → suc i + k ≡ i + suc k
    next i k = omega arith

    rest : (y : Option LfType) (x : Option Term) → SolvesAll ν β (one_given k y x (given_equations X (suc k) Ms)) → SolvesAll ν β (given_equations X (suc k) Ms)
    rest None x s = s
    rest (Some B) None s = s
    rest (Some B) (Some P) (s, t) = t

-- a variable behind the items is one of the second context
pub far_back : (O Q : List LfType) (i : ℕ) (A : LfType) → TypeAt (onto O Q) (i + length O) A → (B : LfType) × TypeAt Q i B × (A ≡ rename_type (shift_by (length O)) B)
far_back [] Q i A g = (A, subst (λ j. TypeAt Q j A) (none i) g, sym (no_shift_type A))
  where
    none : (i : ℕ) → i + 0 ≡ i
    none i = omega arith
far_back (C ∷ O) Q i A g =
    let (Y, y, e) = subst (λ j. TypeAt (C ∷ onto O Q) j A) (next i (length O)) g in
    let (B, b, q) = far_back O Q i Y y in
    (B, b, e ∙ ap weaken q ∙ sym (shift_type_next (length O) B))
  where
    next : (i n : ℕ) → i + suc n ≡ suc (i + n)
    next i n = omega arith

-- Given terms for the variables Q behind O, where each has the type of its variable with the given terms put in
module _ (Σ : Signature) (ok : IsSignature Σ) (O Q : List LfType) (cq : IsContext Σ Q) (cx : IsContext Σ (onto O Q)) (Ms : List (Option Term)) (given_term : (i : ℕ) (A : LfType) (M : Term) → TypeAt Q i A → given_at Ms i ≡ Some M → HasType Σ (onto O Q) M (substitute_type reduce (given_images Q Ms (length O)) A)) (fg : SubstitutionBySkeletons (constant_skeletons Σ) (context_skeletons Q) (context_skeletons (onto O Q)) (given_images Q Ms (length O))) (U : (ℕ → Option Term) → Type 0) (half : (β : ℕ → Option Term) → U β → (F : List LfType) × PartialInstance Σ [] (context_metavariables (onto O Q)) (λ m. ⊥) F β) (solved : (β : ℕ → Option Term) → U β → SolvesAll (skeletons_of (context_metavariables (onto O Q))) β (given_equations (onto O Q) (length O) Ms)) where
  abbrev X : List LfType
  X = onto O Q

  abbrev n : ℕ
  n = length O

  abbrev g : ℕ → Image
  g = given_images Q Ms (length O)

  far : IsTypedRenaming Q X (shift_by n)
  far = far_renames O Q

  -- a filling of the store gives the variables the given terms' values
  pub given_agree : (β : ℕ → Option Term) (u : U β) (i : ℕ) → after (values Σ ok X cx U half β u) g i ≡ values Σ ok X cx U half β u (i + n)
  given_agree β u i = by (given_cases Q Ms n i)
    where
      one : (A : LfType) (M : Term) → TypeAt Q i A → given_at Ms i ≡ Some M → put (skeleton A) (substitute reduce (filled_values Σ X (half β u).0 β (half β u).1) M) ≡ filled_values Σ X (half β u).0 β (half β u).1 (i + n)
      one A M h q =
          let B : LfType = rename_type (shift_by n) A in
          let at : TypeAt X (i + n) B = far_type O Q i A h in
          let (N, b, v, m) = filled_value Σ X (half β u).0 β (half β u).1 (i + n) B at in
          let here : fill (skeletons_of (context_metavariables X)) β (open_term zero (eta_long (skeleton B) (variable (i + n)))) ≡ fill (skeletons_of (context_metavariables X)) β (open_term zero M) = given_solved (skeletons_of (context_metavariables X)) β X n Ms (solved β u) i M B q at in
          let left : fill (skeletons_of (context_metavariables X)) β (open_term zero (eta_long (skeleton B) (variable (i + n)))) ≡ as_term (skeleton B) (filled_values Σ X (half β u).0 β (half β u).1 (i + n)) = filled_term Σ X (half β u).0 β (half β u).1 [] (eta_long (skeleton B) (variable (i + n))) (skeleton B) (typed_has_skeleton Σ X (eta_long (skeleton B) (variable (i + n))) B (eta_long_has_type Σ ok X (variable (i + n)) B cx at)) ∙ value_at (constant_skeletons Σ) (context_skeletons (half β u).0) (skeleton B) (filled_values Σ X (half β u).0 β (half β u).1) (i + n) (filled_fits Σ X (half β u).0 β (half β u).1 (i + n) (skeleton B) (variable_has_skeleton X (i + n) B at)) in
          let right : fill (skeletons_of (context_metavariables X)) β (open_term zero M) ≡ substitute reduce (filled_values Σ X (half β u).0 β (half β u).1) M = filled_term Σ X (half β u).0 β (half β u).1 [] M (skeleton (substitute_type reduce g A)) (typed_has_skeleton Σ X M (substitute_type reduce g A) (given_term i A M h q)) in
          let same : N ≡ substitute reduce (filled_values Σ X (half β u).0 β (half β u).1) M = sym (ap (as_term (skeleton B)) v) ∙ sym left ∙ here ∙ right in
          ap₂ put (sym (skeleton_renamed (shift_by n) A)) (sym same) ∙ sym v

      by : StandsForItself Q Ms n i ⊎ StandsForGiven Q Ms n i → after (filled_values Σ X (half β u).0 β (half β u).1) g i ≡ filled_values Σ X (half β u).0 β (half β u).1 (i + n)
      by (inl (e, none)) = ap (substitute_image (filled_values Σ X (half β u).0 β (half β u).1)) e
      by (inr (A, M, h, q, e)) = ap (substitute_image (filled_values Σ X (half β u).0 β (half β u).1)) e ∙ one A M h q

  -- so a given term has its variable's type up to these
  given_opened : (i : ℕ) (M : Term) (A : LfType) → given_at Ms i ≡ Some M → TypeAt X (i + n) A → OpenHasType Σ [] (context_metavariables X) U [] (open_term zero M) (open_type zero A)
  given_opened i M A q at =
      let (B, b, e) = far_back O Q i A at in
      let B1 : LfType = rename_type (shift_by n) B in
      let B2 : LfType = substitute_type reduce g B in
      let k : TypeBySkeletons (family_skeletons Σ) (constant_skeletons Σ) (context_skeletons Q) B = type_by_skeletons Σ Q B (declared_is_type Σ ok Q i B cq b) in
      let k1 : TypeBySkeletons (family_skeletons Σ) (constant_skeletons Σ) (context_skeletons X) B1 = type_by_skeletons Σ X B1 (renaming_keeps_types Σ ok Q X (shift_by n) B far (declared_is_type Σ ok Q i B cq b)) in
      let k2 : TypeBySkeletons (family_skeletons Σ) (constant_skeletons Σ) (context_skeletons X) B2 = substitution_keeps_types_by_skeletons (family_skeletons Σ) (constant_skeletons Σ) (context_skeletons Q) (context_skeletons X) g B fg k in
      subst (λ Z. OpenHasType Σ [] (context_metavariables X) U [] (open_term zero M) (open_type zero Z)) (sym e)
      (OpenHasType-convert Σ ok [] (context_metavariables X) U (skU Σ ok X cx U half) (MS Σ ok X cx U half) [] (λ j Y h. absurd h) (open_term zero M) (open_type zero B1) (open_type zero B2) (ok_opened Σ ok X cx U half [] B1 k1) (ok_opened Σ ok X cx U half [] B2 k2)
      (same_opened Σ ok X cx U half [] [] [] refl refl B1 B2 k1 k2 (skeleton_renamed (shift_by n) B ∙ sym (skeleton_substituted reduce g B)) (λ β u. sym (type_put Σ X Q (half β u).0 g (values Σ ok X cx U half β u) n fg (filled_fits Σ X (half β u).0 β (half β u).1) (given_agree β u) [] B k)))
      (term_opened Σ ok X U [] M B2 (given_term i B M b q)))

  givens : (Ps : List (Option Term)) (k : ℕ) → ((i : ℕ) (M : Term) (A : LfType) → given_at Ps i ≡ Some M → TypeAt X (i + k) A → OpenHasType Σ [] (context_metavariables X) U [] (open_term zero M) (open_type zero A)) → EquationsAreTyped Σ [] (context_metavariables X) U (given_equations X k Ps)
  givens [] k h = tt
  givens (N ∷ Ps) k h = by (type_in X k) refl N refl (givens Ps (suc k) (λ i M A e at. h (suc i) M A e (subst (λ j. TypeAt X j A) (next i k) at)))
    where
      next : (i k : ℕ) → i + suc k ≡ suc i + k
      next i k = omega arith

      none : (k : ℕ) → k ≡ 0 + k
      none k = omega arith

      by : (y : Option LfType) → type_in X k ≡ y → (x : Option Term) → N ≡ x → EquationsAreTyped Σ [] (context_metavariables X) U (given_equations X (suc k) Ps) → EquationsAreTyped Σ [] (context_metavariables X) U (one_given k y x (given_equations X (suc k) Ps))
      by None e x q rest = rest
      by (Some A) e None q rest = rest
      by (Some A) e (Some M) q rest =
          let at : TypeAt X k A = found_type X k A e in (
            record {
              local_typed = tt;
              type_typed = λ F β w u. type_by_opened Σ X [] (context_skeletons F) A (type_by_skeletons Σ X A (declared_is_type Σ ok X k A cx at));
              left_typed = term_opened Σ ok X U [] (eta_long (skeleton A) (variable k)) A (eta_long_has_type Σ ok X (variable k) A cx at);
              right_typed = h zero M A q (subst (λ j. TypeAt X j A) (none k) at);
            },
            rest,
          )

  pub given_are_typed : EquationsAreTyped Σ [] (context_metavariables X) U (given_equations X n Ms)
  given_are_typed = givens Ms n given_opened
