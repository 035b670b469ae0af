-- Values for the variables of a type, one after the other, the oldest variable first.
use Rattle.std.proofs.Common.{◌≡◌, ◌↔◌, Err, Result, ℕ, zero, suc, List, [], ◌∷◌, length, refl, sym, ap, ◌∙◌, subst, arith, inl, inr, IsTrue}
use Rattle.std.specs.Prelude.{Bool, true, false, Some, None}
use Rattle.lf.specs.AtOnce.{in_front}
use Rattle.lf.specs.Syntax.{Term, LfType, pi, atom, Skeleton, skeleton, weaken}
use Rattle.lf.specs.Substitution.{Image, keep, put, rename_image, lift, single, substitute_image, after, substitute_type, reduce}
use Rattle.lf.specs.SkeletonTyping.{TermSkeleton, SubstitutionBySkeletons}
use Rattle.lf.specs.Skeletons.{constant_skeletons, family_skeletons, context_skeletons}
use Rattle.lf.specs.Typing.{Signature, TypeAt, ImageHasType, HasType, IsType, IsContext, IsSignature, instantiate_type}
use Rattle.lf.specs.Variables.{everything, onto}
use Rattle.lf.specs.Worlds.{instance, lift_over}
use Rattle.lf.proofs.Closed.{agree_type}
use Rattle.lf.proofs.Partial.{uses_type_all}
use Rattle.lf.proofs.Renaming.{substitute_weakened}
use Rattle.lf.proofs.SkeletonTypes.{substitutions_compose_type}
use Rattle.lf.proofs.SkeletonTyping.{lift_by_skeletons, single_by_skeletons}
use Rattle.lf.proofs.Substitution.{instance_is_type, typed_substitution_by_skeletons}
use Rattle.lf.proofs.ToSkeletons.{variable_has_skeleton, type_by_skeletons, typed_has_skeleton}
use Rattle.lf.proofs.TypeLaws.{skeleton_renamed, skeleton_substituted, substitute_renamed_type}
use Rattle.lf_checks.specs.Worlded.{IsTerm, past_types}
use Rattle.lf_unification.specs.Offering.{pi_over}
use Rattle.tw_hered.specs.Fits.{TypeFits}
use Rattle.tw_world.specs.Finding.{value_in_type}
use Rattle.tw_world.specs.Instances.{Agrees, AllStrict, AreValues, GoesDeep, IsInstanceOf, Matches, Reaches, Settles, Takes, TakesDeep}
use Rattle.tw_world.proofs.Found.{found, found_in_type}
use mathlib.Core.Path.{fun_ext}

-- an outcome has one fault
pub same_cause : {T E : Type 0} {f g : E} (r : Result T E) → r ≡ Err f → r ≡ Err g → f ≡ g
same_cause r p q = cc

-- Lists of types.
past_onto : (R : List LfType) (A : LfType) (i : ℕ) → past_types (onto R (A ∷ [])) i ≡ past_types R (suc i)
past_onto [] A i = refl
past_onto (E ∷ R) A i = ap suc (past_onto R A i)

onto_onto : (R : List LfType) (A : LfType) (O : List LfType) → onto (onto R (A ∷ [])) O ≡ onto R (A ∷ O)
onto_onto [] A O = refl
onto_onto (E ∷ R) A O = ap (λ X. E ∷ X) (onto_onto R A O)

pi_onto : (R : List LfType) (A P : LfType) → pi_over (onto R (A ∷ [])) P ≡ pi A (pi_over R P)
pi_onto [] A P = refl
pi_onto (E ∷ R) A P = pi_onto R A (pi E P)

oldest : (R : List LfType) (l : ℕ) → suc l ≡ length R → (R' : List LfType) × (A : LfType) × (R ≡ onto R' (A ∷ [])) × (l ≡ length R')
oldest [] l e = absurd (omega (arith, e))
oldest (E ∷ []) l e = ([], E, refl, omega (arith, e))
oldest (E ∷ F ∷ R) zero e = absurd (omega (arith, e))
oldest (E ∷ F ∷ R) (suc l) e = let (R', A, q, k) = oldest (F ∷ R) l (omega (arith, e)) in (E ∷ R', A, ap (λ X. E ∷ X) q, omega (arith, k))

-- the type of a variable past newer ones
abbrev past_type : List LfType → LfType → LfType
past_type [] A = weaken A
past_type (E ∷ R) A = weaken (past_type R A)

type_past : (R : List LfType) (A : LfType) (O : List LfType) → TypeAt (onto R (A ∷ O)) (past_types R zero) (past_type R A)
type_past [] A O = refl
type_past (E ∷ R) A O = (past_type R A, type_past R A O, refl)

number_past : (R : List LfType) → past_types R zero ≡ length R
number_past [] = refl
number_past (E ∷ R) = let e = number_past R in omega (arith, e)

past_substituted : (R : List LfType) (A : LfType) (τ : ℕ → Image) → substitute_type reduce τ (past_type R A) ≡ substitute_type reduce (λ i. τ (past_types R (suc i))) A
past_substituted [] A τ = substitute_renamed_type reduce τ suc A
past_substituted (E ∷ R) A τ = substitute_renamed_type reduce τ suc (past_type R A) ∙ past_substituted R A (λ i. τ (suc i))

around : (a : Skeleton) (N : Term) (x : Image) → substitute_image (single a N) (rename_image suc x) ≡ x
around a N (keep k) = refl
around a N (put b P) = ap (put b) (substitute_weakened reduce a N P)

after_front : (a : Skeleton) (N : Term) (θ : ℕ → Image) (i : ℕ) → after (single a N) (lift θ) i ≡ in_front (put a N) θ i
after_front a N θ zero = refl
after_front a N θ (suc i) = around a N (θ i)

pub pis_substituted : (τ : ℕ → Image) (D : List LfType) (P : LfType) → substitute_type reduce τ (pi_over D P) ≡ pi_over (instance D τ) (substitute_type reduce (lift_over D τ) P)
pis_substituted τ [] P = refl
pis_substituted τ (A ∷ D) P = pis_substituted τ D (pi A P)

pub over_is_type : (Σ : Signature) (R O : List LfType) (P : LfType) → IsContext Σ (onto R O) → IsType Σ (onto R O) P → IsType Σ O (pi_over R P)
over_is_type Σ [] O P c t = t
over_is_type Σ (A ∷ R) O P (c, a) t = over_is_type Σ R O (pi A P) c (a, t)

pub older_is_context : (Σ : Signature) (R O : List LfType) → IsContext Σ (onto R O) → IsContext Σ O
older_is_context Σ [] O c = c
older_is_context Σ (A ∷ R) O (c, a) = older_is_context Σ R O c

pub argument_fits : (Σ : Signature) (G : List LfType) (M : Term) (A B : LfType) → IsType Σ G (pi A B) → HasType Σ G M A → TypeFits (single (skeleton A) M) B
argument_fits Σ G M A B (a, b) m = record {
  families = family_skeletons Σ;
  heads = constant_skeletons Σ;
  context = skeleton A ∷ context_skeletons G;
  target = context_skeletons G;
  substitution_typed = single_by_skeletons (constant_skeletons Σ) (skeleton A) (context_skeletons G) M (typed_has_skeleton Σ G M A m);
  type_typed = type_by_skeletons Σ (A ∷ G) B b;
}

module _ (Σ : Signature) (ok : IsSignature Σ) (G : List LfType) where
  by_skeletons : (O : List LfType) (θ : ℕ → Image) → AreValues Σ O G θ → SubstitutionBySkeletons (constant_skeletons Σ) (context_skeletons O) (context_skeletons G) θ
  by_skeletons O θ v = typed_substitution_by_skeletons Σ ok O G θ (λ i B h. v.typed.typed i B h refl)

  value_skeleton : (A : LfType) (θ : ℕ → Image) (N : Term) → HasType Σ G N (substitute_type reduce θ A) → TermSkeleton (constant_skeletons Σ) (context_skeletons G) N (skeleton A)
  value_skeleton A θ N m = subst (TermSkeleton (constant_skeletons Σ) (context_skeletons G) N) (skeleton_substituted reduce θ A) (typed_has_skeleton Σ G N (substitute_type reduce θ A) m)

  instance_front : (O : List LfType) (θ : ℕ → Image) (A W : LfType) (N : Term) → AreValues Σ O G θ → IsType Σ (A ∷ O) W → HasType Σ G N (substitute_type reduce θ A) → instantiate_type (substitute_type reduce θ A) N (substitute_type reduce (lift θ) W) ≡ substitute_type reduce (in_front (put (skeleton A) N) θ) W
  instance_front O θ A W N v t m =
      let s : Skeleton = skeleton A in
      let κ = constant_skeletons Σ in
      ap (λ k. substitute_type reduce (single k N) (substitute_type reduce (lift θ) W)) (skeleton_substituted reduce θ A)
      ∙ substitutions_compose_type (family_skeletons Σ) κ (s ∷ context_skeletons O) (s ∷ context_skeletons G) (context_skeletons G) (lift θ) (single s N) W (lift_by_skeletons κ s (context_skeletons O) (context_skeletons G) θ (by_skeletons O θ v)) (single_by_skeletons κ s (context_skeletons G) N (value_skeleton A θ N m)) (type_by_skeletons Σ (A ∷ O) W t)
      ∙ ap (λ f. substitute_type reduce f W) (fun_ext (after_front s N θ))

  values_front : (O : List LfType) (θ : ℕ → Image) (A : LfType) (N : Term) → AreValues Σ O G θ → HasType Σ G N (substitute_type reduce θ A) → AreValues Σ (A ∷ O) G (in_front (put (skeleton A) N) θ)
  values_front O θ A N v m = record { typed = record { typed = each; closed = λ i B h u. uses_type_all everything B (λ j. refl) }; terms = all_terms }
    where
      φ : ℕ → Image
      φ = in_front (put (skeleton A) N) θ

      each : (i : ℕ) (B : LfType) → TypeAt (A ∷ O) i B → everything i ≡ true → ImageHasType Σ G (φ i) (substitute_type reduce φ B)
      each zero B e u =
          let q : substitute_type reduce φ B ≡ substitute_type reduce θ A = ap (substitute_type reduce φ) e ∙ substitute_renamed_type reduce φ suc A in
          (ap skeleton q ∙ skeleton_substituted reduce θ A, subst (HasType Σ G N) (sym q) m)
      each (suc i) B (D, g, e) u = subst (ImageHasType Σ G (θ i)) (sym (ap (substitute_type reduce φ) e ∙ substitute_renamed_type reduce φ suc D)) (v.typed.typed i D g refl)

      all_terms : (i : ℕ) (B : LfType) → TypeAt (A ∷ O) i B → IsTerm (φ i)
      all_terms zero B e = tt
      all_terms (suc i) B (D, g, e) = v.terms i D g

  -- what each instance gives a variable
  value_given : (O : List LfType) (P T : LfType) (τ : ℕ → Image) (x : ℕ) (A : LfType) → IsContext Σ O → IsType Σ O P → AllStrict O P → Matches Σ O P G T τ → TypeAt O x A → (N : Term) × (τ x ≡ put (skeleton A) N) × (value_in_type 0 x P T ≡ Some N) × HasType Σ G N (substitute_type reduce τ A)
  value_given O P T τ x A c t st m g = by (τ x) refl (m.values.terms x A g) (m.values.typed.typed x A g refl)
    where
      by : (X : Image) → τ x ≡ X → IsTerm (τ x) → ImageHasType Σ G (τ x) (substitute_type reduce τ A) → (N : Term) × (τ x ≡ put (skeleton A) N) × (value_in_type 0 x P T ≡ Some N) × HasType Σ G N (substitute_type reduce τ A)
      by (keep j) q w h = absurd (subst IsTerm q w)
      by (put a N) q w h =
          let (sk, ty) = subst (λ X. ImageHasType Σ G X (substitute_type reduce τ A)) q h in
          let sa : skeleton A ≡ a = sym (skeleton_substituted reduce τ A) ∙ sk in
          let qa : τ x ≡ put (skeleton A) N = q ∙ ap (λ b. put b N) (sym sa) in
          let f = found_in_type Σ ok 0 O (context_skeletons G) τ x (skeleton A) N P c t (by_skeletons O τ m.values) (λ y e. absurd cc) qa (value_skeleton A τ N ty) (variable_has_skeleton O x A g) in
          (N, qa, ap (value_in_type 0 x P) (sym m.same) ∙ f ∙ ap (λ b. found b N) (st x A g), ty)

  skeleton_past : (R : List LfType) (A : LfType) → skeleton (past_type R A) ≡ skeleton A
  skeleton_past [] A = skeleton_renamed suc A
  skeleton_past (E ∷ R) A = skeleton_renamed suc (past_type R A) ∙ skeleton_past R A

  -- One variable more, A, which stands before those of R.
  module _ (P T : LfType) (R O : List LfType) (A : LfType) (θ : ℕ → Image) (left l : ℕ) (rest : LfType) (e : left ≡ suc l) (r : Reaches Σ G P (onto R (A ∷ [])) O θ left rest) (k : l ≡ length R) where
    context_on : IsContext Σ (onto R (A ∷ O))
    context_on = subst (IsContext Σ) (onto_onto R A O) r.context

    pattern_on : IsType Σ (onto R (A ∷ O)) P
    pattern_on = subst (λ C. IsType Σ C P) (onto_onto R A O) r.pattern

    strict_on : AllStrict (onto R (A ∷ O)) P
    strict_on = subst (λ C. AllStrict C P) (onto_onto R A O) r.strict

    domain_typed : IsType Σ O A
    domain_typed = (older_is_context Σ R (A ∷ O) context_on).1

    rest_typed : IsType Σ (A ∷ O) (pi_over R P)
    rest_typed = over_is_type Σ R (A ∷ O) P context_on pattern_on

    rest_is : rest ≡ pi (substitute_type reduce θ A) (substitute_type reduce (lift θ) (pi_over R P))
    rest_is = r.is_rest ∙ ap (substitute_type reduce θ) (pi_onto R A P)

    next_reaches : (V : Term) (C : LfType) → Takes Σ G rest V (Some C) → Reaches Σ G P R (A ∷ O) (in_front (put (skeleton A) V) θ) l C
    next_reaches V C t =
        let (m, q) = subst (λ X. Takes Σ G X V (Some C)) rest_is t in
        record { context = context_on; pattern = pattern_on; strict = strict_on; count = k; values = values_front O θ A V r.values m; is_rest = q ∙ instance_front O θ A (pi_over R P) V r.values rest_typed m }

    agrees_on : (τ : ℕ → Image) → Agrees (onto R (A ∷ [])) O τ θ → (i : ℕ) (B : LfType) → TypeAt O i B → τ (past_types R (suc i)) ≡ θ i
    agrees_on τ ag i B g = ap τ (sym (past_onto R A i)) ∙ ag i B g

    given : (τ : ℕ → Image) → Matches Σ (onto (onto R (A ∷ [])) O) P G T τ → Agrees (onto R (A ∷ [])) O τ θ → (N : Term) × (τ (past_types R zero) ≡ put (skeleton A) N) × (value_in_type 0 l P T ≡ Some N) × HasType Σ G N (substitute_type reduce θ A)
    given τ m ag =
        let (N, q, f, h) = value_given (onto R (A ∷ O)) P T τ (past_types R zero) (past_type R A) context_on pattern_on strict_on (subst (λ C. Matches Σ C P G T τ) (onto_onto R A O) m) (type_past R A O) in
        (N, q ∙ ap (λ s. put s N) (skeleton_past R A), ap (λ x. value_in_type 0 x P T) (k ∙ sym (number_past R)) ∙ f, subst (HasType Σ G N) (past_substituted R A τ ∙ agree_type Σ reduce O (λ i. τ (past_types R (suc i))) θ A (agrees_on τ ag) domain_typed) h)

    agrees_next : (τ : ℕ → Image) (N : Term) → Agrees (onto R (A ∷ [])) O τ θ → τ (past_types R zero) ≡ put (skeleton A) N → Agrees R (A ∷ O) τ (in_front (put (skeleton A) N) θ)
    agrees_next τ N ag q zero B g = q
    agrees_next τ N ag q (suc i) B (D, g, w) = agrees_on τ ag i D g

  -- The answers of the program.
  abbrev Says : (P T : LfType) (R O : List LfType) (θ : ℕ → Image) (b : Bool) → Type 0
  Says P T R O θ b = (b ≡ true → IsInstanceOf Σ (onto R O) P G T) × (b ≡ false → (τ : ℕ → Image) → Matches Σ (onto R O) P G T τ → Agrees R O τ θ → ⊥)

  not_both : true ≡ false → ⊥
  not_both e = cc

  no_value : (V : Term) → Some V ≡ None → ⊥
  no_value V e = cc

  same_value : (V N : Term) → Some V ≡ Some N → V ≡ N
  same_value V N e = cc

  pub settled_done : (P T : LfType) (left : ℕ) (rest : LfType) (b : Bool) → left ≡ 0 → IsTrue b ↔ (rest ≡ T) → Settles Σ G P T left rest b
  settled_done P T left rest b e q (E ∷ R) O θ r = absurd (omega (arith, e, r.count))
  settled_done P T left rest b e q [] O θ r = (yes, no)
    where
      yes : b ≡ true → IsInstanceOf Σ O P G T
      yes w = (θ, record { values = r.values; same = sym r.is_rest ∙ q.0 w })

      no : b ≡ false → (τ : ℕ → Image) → Matches Σ O P G T τ → Agrees [] O τ θ → ⊥
      no w τ m ag = not_both (sym (q.1 (r.is_rest ∙ agree_type Σ reduce O θ τ P (λ i A g. sym (ag i A g)) r.pattern ∙ m.same)) ∙ w)

  abbrev Opened : (P T : LfType) (R O : List LfType) (θ : ℕ → Image) (left l : ℕ) (rest : LfType) → Type 0
  Opened P T R O θ left l rest = (R' : List LfType) × (A : LfType) × (R ≡ onto R' (A ∷ [])) × (l ≡ length R')

  opened : (P T : LfType) (R O : List LfType) (θ : ℕ → Image) (left l : ℕ) (rest : LfType) → left ≡ suc l → Reaches Σ G P R O θ left rest → Opened P T R O θ left l rest
  opened P T R O θ left l rest e r = oldest R l (sym e ∙ r.count)

  none_given : (P T : LfType) (R O : List LfType) (A : LfType) (θ : ℕ → Image) (left l : ℕ) (rest : LfType) → left ≡ suc l → Reaches Σ G P (onto R (A ∷ [])) O θ left rest → l ≡ length R → value_in_type 0 l P T ≡ None → Says P T (onto R (A ∷ [])) O θ false
  none_given P T R O A θ left l rest e r k v = (λ w. absurd (not_both (sym w)), λ w τ m ag. let (N, q, f, h) = given P T R O A θ left l rest e r k τ m ag in no_value N (sym f ∙ v))

  refused : (P T : LfType) (R O : List LfType) (A : LfType) (θ : ℕ → Image) (left l : ℕ) (rest : LfType) (V : Term) → left ≡ suc l → Reaches Σ G P (onto R (A ∷ [])) O θ left rest → l ≡ length R → value_in_type 0 l P T ≡ Some V → Takes Σ G rest V None → Says P T (onto R (A ∷ [])) O θ false
  refused P T R O A θ left l rest V e r k v t = (λ w. absurd (not_both (sym w)), λ w τ m ag. let (N, q, f, h) = given P T R O A θ left l rest e r k τ m ag in subst (λ X. Takes Σ G X V None) (rest_is P T R O A θ left l rest e r k) t (subst (λ X. HasType Σ G X (substitute_type reduce θ A)) (same_value N V (sym f ∙ v)) h))

  goes_on : (P T : LfType) (R O : List LfType) (A : LfType) (θ : ℕ → Image) (left l : ℕ) (rest : LfType) (V : Term) (C : LfType) (b : Bool) → left ≡ suc l → Reaches Σ G P (onto R (A ∷ [])) O θ left rest → l ≡ length R → value_in_type 0 l P T ≡ Some V → Takes Σ G rest V (Some C) → Settles Σ G P T l C b → Says P T (onto R (A ∷ [])) O θ b
  goes_on P T R O A θ left l rest V C b e r k v t s = (yes, no)
    where
      after_it : Says P T R (A ∷ O) (in_front (put (skeleton A) V) θ) b
      after_it = s R (A ∷ O) (in_front (put (skeleton A) V) θ) (next_reaches P T R O A θ left l rest e r k V C t)

      yes : b ≡ true → IsInstanceOf Σ (onto (onto R (A ∷ [])) O) P G T
      yes w = subst (λ X. IsInstanceOf Σ X P G T) (sym (onto_onto R A O)) (after_it.0 w)

      no : b ≡ false → (τ : ℕ → Image) → Matches Σ (onto (onto R (A ∷ [])) O) P G T τ → Agrees (onto R (A ∷ [])) O τ θ → ⊥
      no w τ m ag =
          let (N, q, f, h) = given P T R O A θ left l rest e r k τ m ag in
          after_it.1 w τ (subst (λ X. Matches Σ X P G T τ) (onto_onto R A O) m) (subst (λ X. Agrees R (A ∷ O) τ (in_front (put (skeleton A) X) θ)) (same_value N V (sym f ∙ v)) (agrees_next P T R O A θ left l rest e r k τ N ag q))

  pub settled_none : (P T : LfType) (left l : ℕ) (rest : LfType) → left ≡ suc l → value_in_type 0 l P T ≡ None → Settles Σ G P T left rest false
  settled_none P T left l rest e v R O θ r =
      let (R', A, q, k) = opened P T R O θ left l rest e r in
      subst (λ X. Says P T X O θ false) (sym q) (none_given P T R' O A θ left l rest e (subst (λ X. Reaches Σ G P X O θ left rest) q r) k v)

  pub settled_refused : (P T : LfType) (left l : ℕ) (rest : LfType) (V : Term) → left ≡ suc l → value_in_type 0 l P T ≡ Some V → Takes Σ G rest V None → Settles Σ G P T left rest false
  settled_refused P T left l rest V e v t R O θ r =
      let (R', A, q, k) = opened P T R O θ left l rest e r in
      subst (λ X. Says P T X O θ false) (sym q) (refused P T R' O A θ left l rest V e (subst (λ X. Reaches Σ G P X O θ left rest) q r) k v t)

  pub settled_next : (P T : LfType) (left l : ℕ) (rest : LfType) (V : Term) (C : LfType) (b : Bool) → left ≡ suc l → value_in_type 0 l P T ≡ Some V → Takes Σ G rest V (Some C) → Settles Σ G P T l C b → Settles Σ G P T left rest b
  settled_next P T left l rest V C b e v t s R O θ r =
      let (R', A, q, k) = opened P T R O θ left l rest e r in
      subst (λ X. Says P T X O θ b) (sym q) (goes_on P T R' O A θ left l rest V C b e (subst (λ X. Reaches Σ G P X O θ left rest) q r) k v t s)

  -- what is left is a type
  pub taken_is_type : (A : LfType) (V : Term) (C : LfType) → IsContext Σ G → IsType Σ G A → Takes Σ G A V (Some C) → IsType Σ G C
  taken_is_type (atom a S) V C c t k = absurd k
  taken_is_type (pi A B) V C c (t1, t2) (m, e) = subst (IsType Σ G) (sym e) (instance_is_type Σ ok G A V B c t1 t2 m)

  -- the value that comes next can't be put in, or a later one
  pub deep_here : (P T : LfType) (l k : ℕ) (A : LfType) (V : Term) → l ≡ suc k → value_in_type 0 k P T ≡ Some V → TakesDeep Σ G A V → GoesDeep Σ G P T l A
  deep_here P T l k A V e v d = subst (λ n. GoesDeep Σ G P T n A) (sym e) (V, v, inl d)

  pub deep_later : (P T : LfType) (l k : ℕ) (A : LfType) (V : Term) (C : LfType) → l ≡ suc k → value_in_type 0 k P T ≡ Some V → Takes Σ G A V (Some C) → GoesDeep Σ G P T k C → GoesDeep Σ G P T l A
  deep_later P T l k A V C e v t d = subst (λ n. GoesDeep Σ G P T n A) (sym e) (V, v, inr (C, t, d))
