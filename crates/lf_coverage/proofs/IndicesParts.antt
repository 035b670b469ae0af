-- Parts of terms of patterns: where a metavariable stands it is on a pattern.
use Rattle.std.proofs.Common.{◌≡◌, ℕ, zero, suc, ◌⊎◌, List, [], ◌∷◌, inl, inr, refl, sym, ap, ap₂, ◌∙◌, subst}
use Rattle.std.specs.Prelude.{Option}
use Rattle.lf.specs.SkeletonTyping.{SkeletonAt}
use Rattle.lf.specs.Syntax.{constant, variable, metavariable, Term, Spine, lambda, root, nil, app, LfType, pi, atom, Skeleton, base, arrow, skeleton}
use Rattle.lf.specs.Typing.{Signature}
use Rattle.lf_unification.specs.Inversion.{IsPattern, IsUnderBinders}
use Rattle.lf_unification.specs.OpenTyping.{MetavariablesIn, MetavariablesInSpine, skeletons_of}
use Rattle.lf_unification.specs.Patterns.{Injective, PatternFits, local_skeletons, pattern, pattern_renaming}
use Rattle.lf_unification.specs.Reach.{Mentions, SpineMentions}
use Rattle.lf_unification.specs.Rigid.{Rigid, RigidInSpine, first, here, in_constant, in_lambda, in_variable, later}
use Rattle.lf_unification.specs.Skeletons.{skeleton_or_default}
use Rattle.lf_unification.proofs.BindTyped.{in_pattern}
use Rattle.lf_unification.proofs.Offer.{decide}
use Rattle.lf_coverage.specs.PatternStores.{AreDistinct, ArePatternArguments, IsPatternTerm}
use Rattle.lf_coverage.proofs.PatternMoves.{beyond_is}
use mathlib.Core.Path.{fun_ext}

-- a type of each skeleton
abbrev pub type_of : Skeleton → LfType
type_of (base c) = atom c nil
type_of (arrow a b) = pi (type_of a) (type_of b)

pub skeleton_type_of : (a : Skeleton) → skeleton (type_of a) ≡ a
skeleton_type_of (base c) = refl
skeleton_type_of (arrow a b) = ap₂ arrow (skeleton_type_of a) (skeleton_type_of b)

-- distinct bound variables are a pattern, whatever stands outside
at_more : (E : List LfType) (Γ : List Skeleton) (i : ℕ) (t : Skeleton) → SkeletonAt (local_skeletons E []) i t → SkeletonAt (local_skeletons E Γ) i t
at_more [] Γ i t g = absurd g
at_more (A ∷ E) Γ zero t g = g
at_more (A ∷ E) Γ (suc i) t g = at_more E Γ i t g

fits_more : (E : List LfType) (Γ : List Skeleton) (t : Skeleton) (xs : List ℕ) → PatternFits (local_skeletons E []) t xs → PatternFits (local_skeletons E Γ) t xs
fits_more E Γ (base c) [] p = tt
fits_more E Γ (base c) (x ∷ xs) p = absurd p
fits_more E Γ (arrow a b) [] p = absurd p
fits_more E Γ (arrow a b) (x ∷ xs) (g, p) = (at_more E Γ x a g, fits_more E Γ b xs p)

pub distinct_is_pattern : (E : List LfType) (t : Skeleton) (S : Spine) → (d : AreDistinct (local_skeletons E []) t S) → IsPattern E t d.variables
distinct_is_pattern E t S d = record {
  places = λ Γ. fits_more E Γ t d.variables d.places;
  distinct = subst (λ τ. Injective (pattern_renaming t d.variables τ)) (sym (fun_ext (beyond_is E))) d.distinct;
}

-- what has no metavariables mentions none
mutual
  mentions_none : (m : ℕ) (M : Term) → MetavariablesIn (λ k. ⊥) M → Mentions m M → ⊥
  mentions_none m (lambda M) v h = mentions_none m M v h
  mentions_none m (root (constant c) S) v h = spine_mentions_none m S v h
  mentions_none m (root (variable c) S) v h = spine_mentions_none m S v h
  mentions_none m (root (metavariable c) S) (x, v) h = x

  spine_mentions_none : (m : ℕ) (S : Spine) → MetavariablesInSpine (λ k. ⊥) S → SpineMentions m S → ⊥
  spine_mentions_none m nil v h = h
  spine_mentions_none m (app M S) (v, w) (inl h) = mentions_none m M v h
  spine_mentions_none m (app M S) (v, w) (inr h) = spine_mentions_none m S w h

-- whether a metavariable stands in a term
mutual
  pub mentions_or_not : (m : ℕ) (M : Term) → Mentions m M ⊎ (Mentions m M → ⊥)
  mentions_or_not m (lambda M) = mentions_or_not m M
  mentions_or_not m (root (constant c) S) = spine_mentions_or_not m S
  mentions_or_not m (root (variable c) S) = spine_mentions_or_not m S
  mentions_or_not m (root (metavariable n) S) = go (decide m n) (spine_mentions_or_not m S)
    where
      go : (m ≡ n) ⊎ (m ≡ n → ⊥) → SpineMentions m S ⊎ (SpineMentions m S → ⊥) → ((m ≡ n) ⊎ SpineMentions m S) ⊎ ((m ≡ n) ⊎ SpineMentions m S → ⊥)
      go (inl e) h = inl (inl e)
      go (inr f) (inl h) = inl (inr h)
      go (inr f) (inr h) = inr both
        where
          both : (m ≡ n) ⊎ SpineMentions m S → ⊥
          both (inl e) = f e
          both (inr k) = h k

  spine_mentions_or_not : (m : ℕ) (S : Spine) → SpineMentions m S ⊎ (SpineMentions m S → ⊥)
  spine_mentions_or_not m nil = inr (λ h. h)
  spine_mentions_or_not m (app M S) = go (mentions_or_not m M) (spine_mentions_or_not m S)
    where
      go : Mentions m M ⊎ (Mentions m M → ⊥) → SpineMentions m S ⊎ (SpineMentions m S → ⊥) → (Mentions m M ⊎ SpineMentions m S) ⊎ (Mentions m M ⊎ SpineMentions m S → ⊥)
      go (inl h) k = inl (inl h)
      go (inr n) (inl k) = inl (inr k)
      go (inr n) (inr k) = inr both
        where
          both : Mentions m M ⊎ SpineMentions m S → ⊥
          both (inl h) = n h
          both (inr h) = k h

-- one more binder
under_more : (A : LfType) (E : List LfType) (k : ℕ) (F : List LfType) → IsUnderBinders (A ∷ E) k F → IsUnderBinders E (suc k) F
under_more A E zero [] e = absurd cc
under_more A E zero (B ∷ F) e = rest e
  where
    rest : B ∷ F ≡ A ∷ E → F ≡ E
    rest e = cc
under_more A E (suc k) [] e = absurd e
under_more A E (suc k) (B ∷ F) e = under_more A E k F e

module _ (Σ : Signature) (Ψ : ℕ → Option LfType) where
  -- the metavariable at the head of a term of patterns
  abbrev pub On : List LfType → ℕ → Spine → Type 0
  On E m S = (ys : List ℕ) × (S ≡ pattern (skeletons_of Ψ m) ys) × IsPattern E (skeletons_of Ψ m) ys

  pub is_on : (E : List LfType) (m : ℕ) (S : Spine) (t : Skeleton) → IsPatternTerm Σ Ψ (local_skeletons E []) (root (metavariable m) S) t → On E m S
  is_on E m S (arrow a b) p = absurd p
  is_on E m S (base c) (A, e, q, d) =
      let at : skeletons_of Ψ m ≡ skeleton A = ap skeleton_or_default e in
      (d.variables, d.same ∙ ap (λ u. pattern u d.variables) (sym at), subst (λ u. IsPattern E u d.variables) (sym at) (distinct_is_pattern E (skeleton A) S d))

  -- a part that stands in no argument of a metavariable
  mutual
    pub part_of : (E : List LfType) (k : ℕ) (P N : Term) (t : Skeleton) → Rigid P k N → IsPatternTerm Σ Ψ (local_skeletons E []) N t → (F : List LfType) × IsUnderBinders E k F × (u : Skeleton) × IsPatternTerm Σ Ψ (local_skeletons F []) P u
    part_of E zero P N t here p = (E, refl, t, p)
    part_of E (suc k) P (lambda M) (arrow a b) (in_lambda r) p =
        let (F, x, u, q) = part_of (type_of a ∷ E) k P M b r (subst (λ c. IsPatternTerm Σ Ψ (c ∷ local_skeletons E []) M b) (sym (skeleton_type_of a)) p) in
        (F, under_more (type_of a) E k F x, u, q)
    part_of E (suc k) P (lambda M) (base c) (in_lambda r) p = absurd p
    part_of E k P (root (constant c) S) (base d) (in_constant r) (t, e, s) = part_of_spine E k P S t (base d) r s
    part_of E k P (root (constant c) S) (arrow a b) (in_constant r) p = absurd p
    part_of E k P (root (variable i) S) (base d) (in_variable r) (t, e, s) = part_of_spine E k P S t (base d) r s
    part_of E k P (root (variable i) S) (arrow a b) (in_variable r) p = absurd p

    part_of_spine : (E : List LfType) (k : ℕ) (P : Term) (S : Spine) (t u : Skeleton) → RigidInSpine P k S → ArePatternArguments Σ Ψ (local_skeletons E []) S t u → (F : List LfType) × IsUnderBinders E k F × (v : Skeleton) × IsPatternTerm Σ Ψ (local_skeletons F []) P v
    part_of_spine E k P nil t u r p = elim r [ ]
    part_of_spine E k P (app M S) (arrow a b) u (first r) (p, s) = part_of E k P M a r p
    part_of_spine E k P (app M S) (arrow a b) u (later r) (p, s) = part_of_spine E k P S b u r s
    part_of_spine E k P (app M S) (base c) u r p = absurd p

  -- where m stands in a term of patterns
  mutual
    pub found : (m : ℕ) (N : Term) (Γ : List Skeleton) (t : Skeleton) → IsPatternTerm Σ Ψ Γ N t → Mentions m N → (k : ℕ) × (S : Spine) × Rigid (root (metavariable m) S) k N
    found m (lambda M) Γ (arrow a b) p h = let (k, S, r) = found m M (a ∷ Γ) b p h in (suc k, S, in_lambda r)
    found m (lambda M) Γ (base c) p h = absurd p
    found m (root g S) Γ (arrow a b) p h = absurd p
    found m (root (constant c) S) Γ (base d) (t, e, s) h = let (k, T, r) = found_spine m S Γ t (base d) s h in (k, T, in_constant r)
    found m (root (variable i) S) Γ (base d) (t, e, s) h = let (k, T, r) = found_spine m S Γ t (base d) s h in (k, T, in_variable r)
    found m (root (metavariable n) S) Γ (base d) p (inl e) = (zero, S, subst (λ x. Rigid (root (metavariable x) S) zero (root (metavariable n) S)) (sym e) here)
    found m (root (metavariable n) S) Γ (base d) (A, e, q, x) (inr h) = absurd (spine_mentions_none m S (subst (MetavariablesInSpine (λ k. ⊥)) (sym x.same) (in_pattern (λ k. ⊥) (skeleton A) x.variables)) h)

    found_spine : (m : ℕ) (S : Spine) (Γ : List Skeleton) (t u : Skeleton) → ArePatternArguments Σ Ψ Γ S t u → SpineMentions m S → (k : ℕ) × (T : Spine) × RigidInSpine (root (metavariable m) T) k S
    found_spine m nil Γ t u p h = absurd h
    found_spine m (app M S) Γ (arrow a b) u (p, s) (inl h) = let (k, T, r) = found m M Γ a p h in (k, T, first r)
    found_spine m (app M S) Γ (arrow a b) u (p, s) (inr h) = let (k, T, r) = found_spine m S Γ b u s h in (k, T, later r)
    found_spine m (app M S) Γ (base c) u p h = absurd p
