-- A pruning that is blocked by types: with m : {x:u} vec (k (g x)) and n : {y:u} vec (l (g y)) the equation m x = n y is outside. Both
-- metavariables would have to lose their argument, but it stands in their types.
use Rattle.std.proofs.Common.{◌≡◌, ℕ, zero, suc, ◌≤◌, ◌<◌, List, [], ◌∷◌, Option, Some, None, inl, refl, sym, ap, ◌∙◌, subst, arith}
use Rattle.lf.specs.Entries.{quantifiers}
use Rattle.lf.specs.Syntax.{Skeleton, Term, LfType, app, arrow, atom, base, constant, metavariable, nil, pi, rename_spine, root, variable}
use Rattle.lf_unification.specs.Inversion.{ElementAt, IsPattern}
use Rattle.lf_unification.specs.Offering.{pi_over}
use Rattle.lf_unification.specs.OpenTyping.{skeletons_of}
use Rattle.lf_unification.specs.Outside.{NoStep, Outside}
use Rattle.lf_unification.specs.Patterns.{FreeVariablesIn, FreeVariablesInSpine, InImage, PatternFits, beyond, local_skeletons, pattern, pattern_renaming}
use Rattle.lf_unification.specs.Pruning.{CanDrop, PrunedType, kept_renaming}
use Rattle.lf_unification.specs.Rigid.{past_binders}
use Rattle.lf_unification.proofs.Exhaust.{past_binders_zero}
use Rattle.lf_unification.proofs.ExamplesOutside.{at_flexible}
use Rattle.lf_unification.specs.Putting.{Unbound}
use Rattle.lf_unification.proofs.Inverse.{only_rename, only_rename_spine}
use Rattle.lf_unification.proofs.Scope.{in_all_type}

-- a type closed over a context has its quantifiers too
more_quantifiers : (D : List LfType) (X : LfType) → quantifiers X ≤ quantifiers (pi_over D X)
more_quantifiers [] X = omega arith
more_quantifiers (A ∷ D) X = let p = more_quantifiers D (pi A X) in omega arith

past_not_low : (k i : ℕ) → past_binders k (suc (suc i)) ≡ suc (suc (past_binders k i))
past_not_low k i = past_binders_zero k (suc i) ∙ ap suc (past_binders_zero k i)

module _ (u vec nat w g : ℕ) where
  abbrev U : LfType
  U = atom u nil

  -- e (g x), for the newest variable x
  abbrev index : ℕ → Term
  index e = root (metavariable e) (app (root (constant g) (app (root (variable 0) nil) nil)) nil)

  abbrev family_of : ℕ → LfType
  family_of e = pi U (atom vec (app (index e) nil))

  abbrev blocked_types : ℕ → Option LfType
  blocked_types zero = Some (family_of 2)
  blocked_types (suc zero) = Some (family_of 3)
  blocked_types (suc (suc zero)) = Some (pi (atom w nil) (atom nat nil))
  blocked_types (suc (suc (suc zero))) = Some (pi (atom w nil) (atom nat nil))
  blocked_types (suc (suc (suc (suc n)))) = None

  -- the argument stands in the type, so it can't be lost
  no_pruned : (n e : ℕ) → blocked_types n ≡ Some (family_of e) → (d : ℕ) → d ≡ 0 → PrunedType blocked_types n d → ⊥
  no_pruned n e q d z p = go p.local refl (let r : Some (family_of e) ≡ Some (pi_over p.local (atom p.family p.indices)) = sym q ∙ p.declared in cc)
    where
      go : (D : List LfType) → p.local ≡ D → family_of e ≡ pi_over D (atom p.family p.indices) → ⊥
      go [] l r = cc
      go (A ∷ B ∷ D) l r = let x = more_quantifiers D (pi B (pi A (atom p.family p.indices))) in let y : quantifiers (family_of e) ≡ quantifiers (pi_over D (pi B (pi A (atom p.family p.indices)))) = ap quantifiers r in absurd (omega arith)
      go (A ∷ []) l r =
          let ρ : ℕ → ℕ = kept_renaming (pi_over p.local (atom p.family p.indices)) (pi_over p.kept_local (atom p.family p.kept_indices)) p.kept in
          let i : p.indices ≡ app (index e) nil = cc in
          let s : rename_spine ρ p.kept_indices ≡ p.indices = (let t : atom p.family p.indices ≡ atom p.family (rename_spine ρ p.kept_indices) = p.same_target in cc) in
          let f : FreeVariablesInSpine (InImage ρ) (app (index e) nil) = subst (FreeVariablesInSpine (InImage ρ)) (s ∙ i) (only_rename_spine ρ p.kept_indices) in
          p.is_lost (subst (InImage ρ) (sym z) f.0.0.0.0)

  abbrev D : List LfType
  D = U ∷ U ∷ []

  -- the metavariable n at variable v
  abbrev side : ℕ → ℕ → Term
  side n v = root (metavariable n) (app (root (variable v) nil) nil)

  one_variable : (t : Skeleton) (xs : List ℕ) (x : ℕ) → t ≡ arrow (base u) (base vec) → PatternFits (local_skeletons D []) t xs → pattern t xs ≡ app (root (variable x) nil) nil → xs ≡ x ∷ []
  one_variable t xs x q p e = go xs (subst (λ s. PatternFits (local_skeletons D []) s xs) q p) (subst (λ s. pattern s xs ≡ app (root (variable x) nil) nil) q e)
    where
      go : (xs : List ℕ) → PatternFits (local_skeletons D []) (arrow (base u) (base vec)) xs → pattern (arrow (base u) (base vec)) xs ≡ app (root (variable x) nil) nil → xs ≡ x ∷ []
      go [] p e = absurd p
      go (y ∷ []) p e = (let q : root (variable y) nil ≡ root (variable x) nil = cc in cc)
      go (y ∷ z ∷ xs) p e = absurd p.1

  -- where the variable v, seen from the pattern x, is the image of one under the lambdas
  image_of : (x : ℕ) (τ : ℕ → ℕ) (t : Skeleton) (xs : List ℕ) (v i : ℕ) → t ≡ arrow (base u) (base vec) → xs ≡ x ∷ [] → pattern_renaming t xs τ i ≡ v → ((j : ℕ) → τ j ≡ v → ⊥) → (i ≡ 0) × (x ≡ v)
  image_of x τ t xs v i q r e n = go i (subst (λ s. pattern_renaming s (x ∷ []) τ i ≡ v) q (subst (λ ys. pattern_renaming t ys τ i ≡ v) r e))
    where
      go : (i : ℕ) → pattern_renaming (arrow (base u) (base vec)) (x ∷ []) τ i ≡ v → (i ≡ 0) × (x ≡ v)
      go zero e = (refl, e)
      go (suc i) e = absurd (n i e)

  stuck : (a n x v e : ℕ) → blocked_types n ≡ Some (family_of e) → skeletons_of blocked_types a ≡ arrow (base u) (base vec) → skeletons_of blocked_types n ≡ arrow (base u) (base vec) → (a ≡ n → ⊥) → (x ≡ v → ⊥) → v < 2 →
      (m : ℕ) (xs : List ℕ) → IsPattern D (skeletons_of blocked_types m) xs → side a x ≡ root (metavariable m) (pattern (skeletons_of blocked_types m) xs) → NoStep blocked_types [] D m xs (side n v)
  stuck a n x v e q sa sn apart differ low m xs p s = record {
    circular = λ i. absurd (not_image (at_side (subst (FreeVariablesIn (InImage (pattern_renaming (skeletons_of blocked_types m) xs (beyond D)))) i.is (only_rename (pattern_renaming (skeletons_of blocked_types m) xs (beyond D)) i.inversion))));
    invertible = λ o. (let r : root (variable o.bad) o.spine ≡ side n v = at_flexible (root (variable o.bad) o.spine) o.depth n (app (root (variable v) nil) nil) (side n v) o.at refl in cc);
    not_inside = λ o. (let r : root (metavariable m) (pattern (skeletons_of blocked_types m) o.ys) ≡ side n v = at_flexible (root (metavariable m) (pattern (skeletons_of blocked_types m) o.ys)) o.depth n (app (root (variable v) nil) nil) (side n v) o.at refl in apart (is_a ∙ (let z : m ≡ n = cc in z)));
    no_drop = dropped;
    no_agreement = λ o. (let r : side n v ≡ root (metavariable m) (pattern (skeletons_of blocked_types m) o.same.ys) = o.same.is in apart (is_a ∙ (let z : m ≡ n = cc in z)));
    renewed = λ k A r u d. in_all_type (Unbound []) (λ j. tt) A;
  }
    where
      is_a : a ≡ m
      is_a = cc

      skeleton_m : skeletons_of blocked_types m ≡ arrow (base u) (base vec)
      skeleton_m = ap (skeletons_of blocked_types) (sym is_a) ∙ sa

      is_x : xs ≡ x ∷ []
      is_x = one_variable (skeletons_of blocked_types m) xs x skeleton_m (p.places []) (let r : app (root (variable x) nil) nil ≡ pattern (skeletons_of blocked_types m) xs = cc in sym r)

      at_side : FreeVariablesIn (InImage (pattern_renaming (skeletons_of blocked_types m) xs (beyond D))) (side n v) → InImage (pattern_renaming (skeletons_of blocked_types m) xs (beyond D)) v
      at_side f = f.0.0

      not_image : InImage (pattern_renaming (skeletons_of blocked_types m) xs (beyond D)) v → ⊥
      not_image (i, r) = differ (image_of x (beyond D) (skeletons_of blocked_types m) xs v i skeleton_m is_x r (λ j k. omega arith)).1

      dropped : CanDrop blocked_types D (skeletons_of blocked_types m) xs (side n v) → ⊥
      dropped o =
          let r : root (metavariable o.drop.m) (pattern (skeletons_of blocked_types o.drop.m) o.drop.ys) ≡ side n v = at_flexible (root (metavariable o.drop.m) (pattern (skeletons_of blocked_types o.drop.m) o.drop.ys)) o.drop.depth n (app (root (variable v) nil) nil) (side n v) o.drop.at refl in
          let z : o.drop.m ≡ n = cc in
          let sk : skeletons_of blocked_types o.drop.m ≡ arrow (base u) (base vec) = ap (skeletons_of blocked_types) z ∙ sn in
          let y : o.drop.ys ≡ v ∷ [] = ys_is o.drop.context (skeletons_of blocked_types o.drop.m) o.drop.ys sk (o.drop.is_pattern.places []) cc in
          let b : o.drop.bad ≡ v = bad_is o.drop.ys o.drop.place o.drop.bad y o.drop.nth in
          no_pruned o.drop.m e (ap blocked_types z ∙ q) o.dropped (image_of v (λ j. past_binders o.drop.depth (beyond D j)) (skeletons_of blocked_types o.drop.m) o.drop.ys v o.dropped sk y (o.is_place ∙ b) (λ j k. (let h = past_not_low o.drop.depth j in omega arith))).0 o.pruned
        where
          ys_is : (E : List LfType) (t : Skeleton) (ys : List ℕ) → t ≡ arrow (base u) (base vec) → PatternFits (local_skeletons E []) t ys → pattern t ys ≡ app (root (variable v) nil) nil → ys ≡ v ∷ []
          ys_is E t ys q p e = go ys (subst (λ s. PatternFits (local_skeletons E []) s ys) q p) (subst (λ s. pattern s ys ≡ app (root (variable v) nil) nil) q e)
            where
              go : (ys : List ℕ) → PatternFits (local_skeletons E []) (arrow (base u) (base vec)) ys → pattern (arrow (base u) (base vec)) ys ≡ app (root (variable v) nil) nil → ys ≡ v ∷ []
              go [] p e = absurd p
              go (y ∷ []) p e = (let q : root (variable y) nil ≡ root (variable v) nil = cc in cc)
              go (y ∷ z ∷ xs) p e = absurd p.1

          bad_is : (ys : List ℕ) (j b : ℕ) → ys ≡ v ∷ [] → ElementAt ys j b → b ≡ v
          bad_is ys j b q h = at_one j (subst (λ zs. ElementAt zs j b) q h)
            where
              at_one : (j : ℕ) → ElementAt (v ∷ []) j b → b ≡ v
              at_one zero h = sym h
              at_one (suc j) h = absurd h

  pub pruning_outside : Outside blocked_types [] (record { local = D; left = side 0 1; right = side 1 0; of_type = atom vec (app (index 2) nil) })
  pruning_outside = record {
    differ = λ e. (let p : side 0 1 ≡ side 1 0 = e in cc);
    left_root = λ h. h;
    right_root = λ h. h;
    flexible = inl tt;
    stuck_left = stuck 0 1 1 0 3 refl refl refl (λ e. cc) (λ e. cc) (omega arith);
    stuck_right = stuck 1 0 0 1 2 refl refl refl (λ e. cc) (λ e. cc) (omega arith);
  }
