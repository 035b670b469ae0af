-- Ground sets are closed: the type of a ground variable mentions ground variables only.
use Rattle.lf_checks.specs.Strict.{strict_at, strict_goal, strict}
use Rattle.lf.specs.AtOnce.{in_front}
use Rattle.lf_checks.specs.Ground.{ground_after, ground_by, ground_first}
use Rattle.lf_checks.specs.Tests.{both, either}
use Rattle.lf_checks.specs.Marks.{Mark, UsesPlaces, input_places, output_places}
use Rattle.lf_checks.specs.Clause.{Clause, outside, scope, variables, IsClause, from_constant, from_entry}
use Rattle.std.proofs.Common.{◌≡◌, ℕ, zero, suc, List, [], ◌∷◌, refl, sym, ap, ◌∙◌, subst, inl, inr}
use Rattle.std.specs.Prelude.{Bool, true, false, Some, ◌⊎◌}
use Rattle.lf_checks.specs.Marks.{MentionChosenOnly}
use Rattle.lf.specs.Syntax.{Term, Spine, nil, app, LfType, Kind, pi, atom, kind_pi, star, Skeleton, skeleton, weaken}
use Rattle.lf.specs.Substitution.{Image, keep, put, substitute_type, substitute_kind, reduce}
use Rattle.lf.specs.Typing.{Signature, TypeAt, SpineFitsKind, IsType, IsKind, IsContext, IsSignature}
use Rattle.lf.specs.Subordination.{Block, AreTypedBlocks}
use Rattle.lf_cases.proofs.BlockEntries.{onto_onto, drop_typed}
use Rattle.lf.specs.Variables.{target, onto, target_arguments, binders, under, Uses, UsesSpine, UsesType, Within, everything, nothing, hide}
use Rattle.lf.proofs.TypeLaws.{substitute_identity_kind}
use Rattle.lf.proofs.Agreement.{uses_type_within}
use Rattle.lf.proofs.Partial.{skeleton_context_of_beside, partial_substitution_keeps_types, uses_type_all}
use Rattle.lf_cases.proofs.Assemble.{AllTyped, AllTyped-has_skeleton, end_typed, binders_typed}
use Rattle.lf_cases.proofs.Calls.{instance_cons, typed_cons}
use Rattle.lf.proofs.Uses.{uses_type_renamed}
use Rattle.lf_checks.proofs.EtaTest.{both_r}
use Rattle.lf.proofs.Kept.{SubUses, substitute_uses_type, Covers, Covers-push, typed_uses_type, uses_unren_type}
use Rattle.lf_checks.proofs.StrictTypes.{either_cases, BoundOk, bound_push, strict_occurrence_type}

pub either_left : {a : Bool} (b : Bool) → a ≡ true → either a b ≡ true
either_left b e = ap (λ x. either x b) e

pub grows : (m : ℕ → List Mark) (c : Clause) (A : LfType) (U : ℕ → Bool) → Within U (ground_after m c A U)
grows m c A U i e = either_left (both (variables c i) _) e

-- what stands outside is ground
pub outside_ground : (b : List Bool) (c : Clause) → Within (outside c.type everything) (ground_by everything b c)
outside_ground b c i e = either_left (both (variables c i) (strict_at b nothing (outside c.type c.fixed) i (target_arguments c.type))) e

pub outside_types : (A : LfType) (O : List LfType) (V : ℕ → Bool) → ((i : ℕ) (X : LfType) → TypeAt O i X → V i ≡ true → UsesType V X) → (i : ℕ) (X : LfType) → TypeAt (binders O A) i X → outside A V i ≡ true → UsesType (outside A V) X
outside_types (pi A B) O V h i X g e = outside_types B (A ∷ O) (hide V) (pushed A O V h) i X g e
  where
    pushed : (A : LfType) (O : List LfType) (V : ℕ → Bool) → ((i : ℕ) (X : LfType) → TypeAt O i X → V i ≡ true → UsesType V X) → (i : ℕ) (X : LfType) → TypeAt (A ∷ O) i X → hide V i ≡ true → UsesType (hide V) X
    pushed A O V h zero X g e = absurd cc
    pushed A O V h (suc i) X (D, g, q) e = subst (UsesType (hide V)) (sym q) (uses_type_renamed V (hide V) suc D (λ j u. u) (h i D g e))
outside_types (atom a S) O V h i X g e = h i X g e

outside_mono : (A : LfType) (V W : ℕ → Bool) → Within V W → Within (outside A V) (outside A W)
outside_mono (pi A B) V W h = outside_mono B (hide V) (hide W) (hidden V W h)
  where
    hidden : (V W : ℕ → Bool) → Within V W → Within (hide V) (hide W)
    hidden V W h zero e = e
    hidden V W h (suc i) e = h i e
outside_mono (atom a S) V W h = h

cons_under : (U V : ℕ → Bool) (a : Skeleton) (M : Term) (θ : ℕ → Image) → Uses V M → SubUses U V θ → SubUses (under U) V (in_front (put a M) θ)
cons_under U V a M θ m h zero e = m
cons_under U V a M θ m h (suc i) e = h i e

cons_hide : (U V : ℕ → Bool) (x : Image) (θ : ℕ → Image) → SubUses U V θ → SubUses (hide U) V (in_front x θ)
cons_hide U V x θ h zero e = absurd cc
cons_hide U V x θ h (suc i) e = h i e

module _ (Σ : Signature) (ok : IsSignature Σ) (B F V : ℕ → Bool) (C : List LfType) (c : IsContext Σ C) (bo : BoundOk B F V C) (x : ℕ) (Y : LfType) (g : TypeAt C x Y) where
  place_typed : (X : List LfType) (θ : ℕ → Image) (A : LfType) → IsContext Σ X → AllTyped Σ ok X C θ → IsType Σ X A → IsType Σ C (substitute_type reduce θ A)
  place_typed X θ A cx t a = partial_substitution_keeps_types Σ ok [] [] everything X C θ A (record { typed = λ i D g e. t i D g; sk = AllTyped-has_skeleton Σ ok [] X C θ t; source_skeletons = skeleton_context_of_beside Σ ok [] X cx; target_skeletons = skeleton_context_of_beside Σ ok [] C c }) (uses_type_all everything A (λ i. refl)) a

  -- at a marked place, where the marked places use V
  plus_type : (m : List Bool) (S : Spine) (K : Kind) (X : List LfType) (θ : ℕ → Image) (U : ℕ → Bool) → IsContext Σ X → AllTyped Σ ok X C θ → IsKind Σ X K → MentionChosenOnly U m K → SubUses U V θ → UsesPlaces V m S → SpineFitsKind Σ C S (substitute_kind reduce θ K) → strict_at m B F x S ≡ true → UsesType V Y
  plus_type [] S K X θ U cx t k v su u s e = absurd cc
  plus_type (b ∷ m) nil K X θ U cx t k v su u s e = absurd cc
  plus_type (b ∷ m) (app M S) star X θ U cx t k v su u s e = absurd v
  plus_type (true ∷ m) (app M S) (kind_pi A K) X θ U cx t (a, k) v su u (n, s) e = by (either_cases (strict B F x M) (strict_at m B F x S) e) (λ q. strict_occurrence_type Σ ok B F V C x Y M (substitute_type reduce θ A) c (place_typed X θ A cx t a) bo (substitute_uses_type U V θ A su v.0) u.0 n g q) (λ q. plus_type m S K (A ∷ X) (in_front (put (skeleton A) M) θ) (under U) (cx, a) (typed_cons Σ ok X C θ A M t n) k v.1 (cons_under U V (skeleton A) M θ u.0 su) u.1 (subst (SpineFitsKind Σ C S) (instance_cons Σ ok X C θ A M K t a k n) s) q)
    where
      by : (strict B F x M ≡ true) ⊎ (strict_at m B F x S ≡ true) → (strict B F x M ≡ true → UsesType V Y) → (strict_at m B F x S ≡ true → UsesType V Y) → UsesType V Y
      by (inl q) f h = f q
      by (inr q) f h = h q
  plus_type (false ∷ m) (app M S) (kind_pi A K) X θ U cx t (a, k) v su u (n, s) e = plus_type m S K (A ∷ X) (in_front (put (skeleton A) M) θ) (hide U) (cx, a) (typed_cons Σ ok X C θ A M t n) k v (cons_hide U V (put (skeleton A) M) θ su) u (subst (SpineFitsKind Σ C S) (instance_cons Σ ok X C θ A M K t a k n) s) e

  -- at a marked place, where all places use V
  any_type : (m : List Bool) (S : Spine) (K : Kind) (X : List LfType) (θ : ℕ → Image) (U : ℕ → Bool) → IsContext Σ X → AllTyped Σ ok X C θ → IsKind Σ X K → Covers X U → SubUses U V θ → UsesSpine V S → SpineFitsKind Σ C S (substitute_kind reduce θ K) → strict_at m B F x S ≡ true → UsesType V Y
  any_type [] S K X θ U cx t k v su u s e = absurd cc
  any_type (b ∷ m) nil K X θ U cx t k v su u s e = absurd cc
  any_type (b ∷ m) (app M S) star X θ U cx t k v su u s e = absurd s
  any_type (true ∷ m) (app M S) (kind_pi A K) X θ U cx t (a, k) v su u (n, s) e = by (either_cases (strict B F x M) (strict_at m B F x S) e) (λ q. strict_occurrence_type Σ ok B F V C x Y M (substitute_type reduce θ A) c (place_typed X θ A cx t a) bo (substitute_uses_type U V θ A su (typed_uses_type Σ X U A v a)) u.0 n g q) (λ q. any_type m S K (A ∷ X) (in_front (put (skeleton A) M) θ) (under U) (cx, a) (typed_cons Σ ok X C θ A M t n) k (Covers-push X U A v) (cons_under U V (skeleton A) M θ u.0 su) u.1 (subst (SpineFitsKind Σ C S) (instance_cons Σ ok X C θ A M K t a k n) s) q)
    where
      by : (strict B F x M ≡ true) ⊎ (strict_at m B F x S ≡ true) → (strict B F x M ≡ true → UsesType V Y) → (strict_at m B F x S ≡ true → UsesType V Y) → UsesType V Y
      by (inl q) f h = f q
      by (inr q) f h = h q
  any_type (false ∷ m) (app M S) (kind_pi A K) X θ U cx t (a, k) v su u (n, s) e = any_type m S K (A ∷ X) (in_front (put (skeleton A) M) θ) (under U) (cx, a) (typed_cons Σ ok X C θ A M t n) k (Covers-push X U A v) (cons_under U V (skeleton A) M θ u.0 su) u.1 (subst (SpineFitsKind Σ C S) (instance_cons Σ ok X C θ A M K t a k n) s) e

module _ (Σ : Signature) (ok : IsSignature Σ) where
  goal_type : (m : List Bool) (A : LfType) (B F V : ℕ → Bool) (C : List LfType) (x : ℕ) (Y : LfType) → IsContext Σ C → BoundOk B F V C → TypeAt C x Y → IsType Σ C A → UsesType V A → strict_goal m B F x A ≡ true → UsesType V Y
  goal_type m (pi A1 A) B F V C x Y c bo g (a, t) (u, w) e = uses_unren_type V (under V) suc Y (λ i q. q) (goal_type m A (under B) (hide F) (under V) (A1 ∷ C) (suc x) (weaken Y) (c, a) (bound_push B F V C A1 u bo) (Y, g, refl) t w e)
  goal_type m (atom a S) B F V C x Y c bo g (K, k, s) u e = any_type Σ ok B F V C c bo x Y g m S K [] keep nothing tt (λ i X h. absurd h) (ok.kinds_ok a K k) (λ i X h. absurd h) (λ i h. absurd cc) u (subst (SpineFitsKind Σ C S) (sym (substitute_identity_kind reduce K)) s) e

  -- what stands outside a clause
  outer_bound : (m : ℕ → List Mark) (c : Clause) (V : ℕ → Bool) → Within (outside c.type everything) V → BoundOk nothing (outside c.type c.fixed) V (scope c)
  outer_bound m c V w j A g e = uses_type_within (outside c.type everything) V A w (outside_types c.type c.outer everything (λ i X h u. uses_type_all everything X (λ k. refl)) j A g (outside_mono c.type c.fixed everything (λ i u. refl) j e))

  -- The lemmas
  pub first_closed : (m : ℕ → List Mark) (c : Clause) (K : Kind) → IsContext Σ c.outer → IsType Σ c.outer c.type → Σ.kinds (target c.type) ≡ Some K → MentionChosenOnly nothing (input_places (m (target c.type))) K → UsesPlaces (ground_first m c) (input_places (m (target c.type))) (target_arguments c.type) → (i : ℕ) (A : LfType) → TypeAt (scope c) i A → ground_first m c i ≡ true → UsesType (ground_first m c) A
  first_closed m c K o t k v u i A g e = by (either_cases (outside c.type everything i) (both (variables c i) (strict_at (input_places (m (target c.type))) nothing (outside c.type c.fixed) i (target_arguments c.type))) e)
    where
      V : ℕ → Bool
      V = ground_first m c

      w : Within (outside c.type everything) (ground_first m c)
      w j q = either_left _ q

      by : (outside c.type everything i ≡ true) ⊎ (both (variables c i) (strict_at (input_places (m (target c.type))) nothing (outside c.type c.fixed) i (target_arguments c.type)) ≡ true) → UsesType (ground_first m c) A
      by (inl q) = uses_type_within (outside c.type everything) (ground_first m c) A w (outside_types c.type c.outer everything (λ j X h r. uses_type_all everything X (λ l. refl)) i A g q)
      by (inr q) =
          let (L, l, s) = end_typed Σ ok c.type c.outer t in
          let p : L ≡ K = some_inj (sym l ∙ k) in
          plus_type Σ ok nothing (outside c.type c.fixed) (ground_first m c) (scope c) (binders_typed Σ ok c.type c.outer o t) (outer_bound m c (ground_first m c) w) i A g (input_places (m (target c.type))) (target_arguments c.type) K [] keep nothing tt (λ j X h. absurd h) (ok.kinds_ok (target c.type) K k) v (λ j h. absurd cc) u (subst (SpineFitsKind Σ (scope c) (target_arguments c.type)) (p ∙ sym (substitute_identity_kind reduce K)) s) (both_r (variables c i) _ q)
        where
          some_inj : {K L : Kind} → Some K ≡ Some L → K ≡ L
          some_inj e = cc

  pub after_closed : (m : ℕ → List Mark) (c : Clause) (U : ℕ → Bool) (A : LfType) → IsContext Σ (scope c) → IsType Σ (scope c) A → Within (outside c.type everything) U → ((i : ℕ) (X : LfType) → TypeAt (scope c) i X → U i ≡ true → UsesType U X) → UsesType (ground_after m c A U) A → (i : ℕ) (X : LfType) → TypeAt (scope c) i X → ground_after m c A U i ≡ true → UsesType (ground_after m c A U) X
  after_closed m c U A cx t w h u i X g e = by (either_cases (U i) (both (variables c i) (strict_goal (output_places (m (target A))) nothing (outside c.type c.fixed) i A)) e)
    where
      by : (U i ≡ true) ⊎ (both (variables c i) (strict_goal (output_places (m (target A))) nothing (outside c.type c.fixed) i A) ≡ true) → UsesType (ground_after m c A U) X
      by (inl q) = uses_type_within U (ground_after m c A U) X (grows m c A U) (h i X g q)
      by (inr q) = goal_type (output_places (m (target A))) A nothing (outside c.type c.fixed) (ground_after m c A U) (scope c) i X cx (outer_bound m c (ground_after m c A U) (λ j r. grows m c A U j (w j r))) g t u (both_r (variables c i) _ q)

-- a clause is typed
pub clause_typed : (Σ : Signature) → IsSignature Σ → (W : List Block) → AreTypedBlocks Σ W → (c : Clause) → IsClause Σ W c → IsContext Σ c.outer × IsType Σ c.outer c.type
clause_typed Σ ok W typed c (from_constant k U e) = (tt, ok.types_ok k U e)
clause_typed Σ ok W typed c (from_entry B later E es i q) = drop_typed Σ later E (onto es B.some) (subst (IsContext Σ) (onto_onto later (E ∷ es) B.some) (subst (λ X. IsContext Σ (onto X B.some)) (sym q) (typed B i)))
