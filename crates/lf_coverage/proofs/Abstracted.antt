-- A term with the variables that are arguments of a pattern abstracted: applied to this pattern it is the term again.
use Rattle.std.proofs.Common.{◌≡◌, ℕ, zero, suc, List, ◌∷◌, refl, sym, ap, ◌∙◌, subst}
use Rattle.std.specs.Prelude.{Bool, true, false, cond, Option, Some, None}
use Rattle.lf.specs.Syntax.{Head, constant, variable, metavariable, Term, Spine, lambda, root, nil, app, Skeleton, base, arrow, lift_renaming, rename_head, rename, rename_spine}
use Rattle.lf.specs.Substitution.{Image, keep, single, substitute, substitute_spine, reduce}
use Rattle.lf.specs.SkeletonTyping.{HeadSkeletons, SkeletonAt, HeadSkeleton, TermSkeleton, SpineSkeleton}
use Rattle.lf.specs.Variables.{under, Uses, same_number, at_variable}
use Rattle.lf.specs.Eta.{add_last, eta_expand, eta_long}
use Rattle.lf.proofs.Renaming.{renamings_compose, reduction_beta}
use Rattle.lf.proofs.AtOnce.{rename_identity}
use Rattle.lf.proofs.SkeletonTyping.{renaming_keeps_skeletons}
use Rattle.lf.proofs.Agreement.{uses_within}
use Rattle.lf.proofs.Uses.{uses_renamed}
use Rattle.lf.proofs.Eta.{reduce_nil, substitute_eta_expand}
use Rattle.lf.proofs.EtaTypes.{SameForm}
use Rattle.lf_checks.specs.Tests.{either}
use Rattle.lf_checks.specs.Strict.{head_variable, is_bound, pattern_arguments, with_seen}
use Rattle.lf_checks.proofs.EtaTest.{both_l, both_r}
use Rattle.lf_unification.proofs.ToSkeletons.{SkeletonAt-once}
use Rattle.lf_checks.proofs.Reach.{number_equal}
use Rattle.lf_coverage.specs.TermMatching.{is_this_variable, heads_argument}
use Rattle.lf_coverage.proofs.EtaArguments.{argument_renames, bound_argument}
use mathlib.Core.Path.{fun_ext}

-- the newest variable for y; each other one comes one further
abbrev pub back : ℕ → ℕ → ℕ
back y i = cond (same_number i y) zero (suc i)

abbrev pub back_from : Option ℕ → ℕ → ℕ
back_from None = suc
back_from (Some y) = back y

-- a lambda for each argument, the first outermost
abbrev pub abstracted : Spine → Term → Term
abstracted nil M = M
abstracted (app N S) M = lambda (rename (back_from (head_variable zero N)) (abstracted S M))

-- put in again, it is y
there : (y i : ℕ) → at_variable y (back y i) ≡ i
there y i = by (same_number i y) refl
  where
    by : (b : Bool) → same_number i y ≡ b → at_variable y (cond (same_number i y) zero (suc i)) ≡ i
    by true e = ap (λ b. at_variable y (cond b zero (suc i))) e ∙ sym (number_equal i y e)
    by false e = ap (λ b. at_variable y (cond b zero (suc i))) e

put_again : (y : ℕ) (M : Term) → rename (at_variable y) (rename (back y) M) ≡ M
put_again y M = renamings_compose (at_variable y) (back y) M ∙ ap (λ ρ. rename ρ M) (fun_ext (there y)) ∙ rename_identity M

-- what the term mentions besides these arguments it mentions still
pub abstracted_uses : (B V : ℕ → Bool) (seen : List ℕ) (S : Spine) (M : Term) → pattern_arguments B seen S ≡ true → Uses (λ i. either (V i) (heads_argument i S)) M → Uses V (abstracted S M)
abstracted_uses B V seen nil M e u = uses_within (λ i. either (V i) false) V M (λ i q. last (V i) q) u
  where
    last : (b : Bool) → either b false ≡ true → b ≡ true
    last true q = refl
    last false q = q
abstracted_uses B V seen (app N S) M e u =
    let o : Option ℕ = head_variable zero N in
    let (y, a, oe, by, unseen, ne) = bound_argument B seen N o (both_l (is_bound B seen N o) (pattern_arguments B (with_seen o seen) S) e) in
    let V' : ℕ → Bool = λ i. either (V i) (same_number i y) in
    let u' : Uses (λ i. either (either (V i) (same_number i y)) (heads_argument i S)) M = uses_within (λ i. either (V i) (either (is_this_variable i o) (heads_argument i S))) (λ i. either (either (V i) (same_number i y)) (heads_argument i S)) M (λ i q. moved (V i) (same_number i y) (heads_argument i S) (subst (λ z. either (V i) (either (is_this_variable i z) (heads_argument i S)) ≡ true) oe q)) u in
    let w : Uses V' (abstracted S M) = abstracted_uses B V' (with_seen o seen) S M (both_r (is_bound B seen N o) (pattern_arguments B (with_seen o seen) S) e) u' in
    subst (λ z. Uses (under V) (rename (back_from z) (abstracted S M))) (sym oe) (uses_renamed V' (under V) (back y) (abstracted S M) (λ i q. at (V i) (same_number i y) i V refl q) w)
  where
    moved : (a b c : Bool) → either a (either b c) ≡ true → either (either a b) c ≡ true
    moved true b c q = refl
    moved false b c q = q

    at : (a b : Bool) (i : ℕ) (V : ℕ → Bool) → V i ≡ a → either a b ≡ true → under V (cond b zero (suc i)) ≡ true
    at a true i V r q = refl
    at true false i V r q = r
    at false false i V r q = absurd cc

module _ (κ : HeadSkeletons) where
  head_back : (Γ : List Skeleton) (a : Skeleton) (h : Head) (t : Skeleton) → HeadSkeleton κ (a ∷ Γ) (rename_head suc h) t → HeadSkeleton κ Γ h t
  head_back Γ a (constant c) t g = g
  head_back Γ a (variable i) t g = g
  head_back Γ a (metavariable m) t g = g

  back_lifted : (Γ Δ : List Skeleton) (ρ : ℕ → ℕ) (a : Skeleton) → ((i : ℕ) (t : Skeleton) → SkeletonAt Δ (ρ i) t → SkeletonAt Γ i t) → (i : ℕ) (t : Skeleton) → SkeletonAt (a ∷ Δ) (lift_renaming ρ i) t → SkeletonAt (a ∷ Γ) i t
  back_lifted Γ Δ ρ a h zero t g = g
  back_lifted Γ Δ ρ a h (suc i) t g = h i t g

  head_renamed_back : (Γ Δ : List Skeleton) (ρ : ℕ → ℕ) (h : Head) (t : Skeleton) → ((i : ℕ) (t : Skeleton) → SkeletonAt Δ (ρ i) t → SkeletonAt Γ i t) → HeadSkeleton κ Δ (rename_head ρ h) t → HeadSkeleton κ Γ h t
  head_renamed_back Γ Δ ρ (constant c) t h g = g
  head_renamed_back Γ Δ ρ (variable i) t h g = h i t g
  head_renamed_back Γ Δ ρ (metavariable m) t h g = g

  mutual
    -- what a renamed term has as its skeleton, the term has
    pub skeleton_back : (Γ Δ : List Skeleton) (ρ : ℕ → ℕ) (M : Term) (t : Skeleton) → ((i : ℕ) (t : Skeleton) → SkeletonAt Δ (ρ i) t → SkeletonAt Γ i t) → TermSkeleton κ Δ (rename ρ M) t → TermSkeleton κ Γ M t
    skeleton_back Γ Δ ρ (lambda M) (arrow a b) h m = skeleton_back (a ∷ Γ) (a ∷ Δ) (lift_renaming ρ) M b (back_lifted Γ Δ ρ a h) m
    skeleton_back Γ Δ ρ (lambda M) (base c) h m = m
    skeleton_back Γ Δ ρ (root k S) (arrow a b) h m = m
    skeleton_back Γ Δ ρ (root k S) (base c) h (t, g, s) = (t, head_renamed_back Γ Δ ρ k t h g, spine_back Γ Δ ρ S t (base c) h s)

    pub spine_back : (Γ Δ : List Skeleton) (ρ : ℕ → ℕ) (S : Spine) (t u : Skeleton) → ((i : ℕ) (t : Skeleton) → SkeletonAt Δ (ρ i) t → SkeletonAt Γ i t) → SpineSkeleton κ Δ (rename_spine ρ S) t u → SpineSkeleton κ Γ S t u
    spine_back Γ Δ ρ nil t u h s = s
    spine_back Γ Δ ρ (app M S) (arrow a b) u h (m, s) = (skeleton_back Γ Δ ρ M a h m, spine_back Γ Δ ρ S b u h s)
    spine_back Γ Δ ρ (app M S) (base c) u h s = s

  last_back : (Γ : List Skeleton) (S : Spine) (N : Term) (t u : Skeleton) → SpineSkeleton κ Γ (add_last S N) t u → (a : Skeleton) × SpineSkeleton κ Γ S t (arrow a u) × TermSkeleton κ Γ N a
  last_back Γ nil N (arrow a b) u (n, e) = (a, ap (arrow a) e, n)
  last_back Γ nil N (base c) u s = absurd s
  last_back Γ (app M S) N (arrow a b) u (m, s) = let (x, r, n) = last_back Γ S N b u s in (x, (m, r), n)
  last_back Γ (app M S) N (base c) u s = absurd s

  -- the head of an eta-long term takes its arguments to the skeleton of the term
  pub expanded_back : (a t : Skeleton) (Γ : List Skeleton) (h : Head) (S : Spine) → TermSkeleton κ Γ (eta_expand a h S) t → (v : Skeleton) × HeadSkeleton κ Γ h v × SpineSkeleton κ Γ S v t × SameForm a t
  expanded_back (base c) (base d) Γ h S (v, g, s) = (v, g, s, tt)
  expanded_back (base c) (arrow b d) Γ h S m = absurd m
  expanded_back (arrow a b) (base d) Γ h S m = absurd m
  expanded_back (arrow a b) (arrow c d) Γ h S m =
      let (v, g, s, f) = expanded_back b d (c ∷ Γ) (rename_head suc h) (add_last (rename_spine suc S) (eta_long a (variable zero))) m in
      let (x, r, n) = last_back (c ∷ Γ) (rename_spine suc S) (eta_long a (variable zero)) v d s in
      let (w, k, q, f') = expanded_back a x (c ∷ Γ) (variable zero) nil n in
      let e : x ≡ c = sym q ∙ sym k in
      (v, head_back Γ c h v g, spine_back Γ (c ∷ Γ) suc S v (arrow c d) (λ i t z. z) (subst (λ z. SpineSkeleton κ (c ∷ Γ) (rename_spine suc S) v (arrow z d)) e r), (subst (SameForm a) e f', f))

  -- The lemma: Ξ is where the arguments stand, and Γ where the term does.
  pub abstracted_applied : (B : ℕ → Bool) (Γ Ξ : List Skeleton) (σ : ℕ → Image) (seen : List ℕ) (S : Spine) (s u : Skeleton) (M : Term) → ((y : ℕ) (a : Skeleton) → B y ≡ true → SkeletonAt Ξ y a → SkeletonAt Γ y a) → ((y : ℕ) → B y ≡ true → σ y ≡ keep y) → pattern_arguments B seen S ≡ true → SpineSkeleton κ Ξ S s u → TermSkeleton κ Γ M u → TermSkeleton κ Γ (abstracted S M) s × (reduce s (abstracted S M) (substitute_spine reduce σ S) ≡ M)
  abstracted_applied B Γ Ξ σ seen nil s u M h kb e q m = (subst (TermSkeleton κ Γ M) (sym q) m, reduce_nil s M)
  abstracted_applied B Γ Ξ σ seen (app N S) (base c) u M h kb e q m = absurd q
  abstracted_applied B Γ Ξ σ seen (app N S) (arrow s1 s2) u M h kb e (n, q) m =
      let o : Option ℕ = head_variable zero N in
      let (y, a, oe, by, unseen, ne) = bound_argument B seen N o (both_l (is_bound B seen N o) (pattern_arguments B (with_seen o seen) S) e) in
      let (v, g, z, f) = expanded_back a s1 Ξ (variable y) nil (subst (λ X. TermSkeleton κ Ξ X s1) ne n) in
      let sy : SkeletonAt Γ y s1 = h y s1 by (subst (SkeletonAt Ξ y) z g) in
      let W : Term = abstracted S M in
      let (w, r) = abstracted_applied B Γ Ξ σ (with_seen o seen) S s2 u M h kb (both_r (is_bound B seen N o) (pattern_arguments B (with_seen o seen) S) e) q m in
      let k : TermSkeleton κ (s1 ∷ Γ) (rename (back y) W) s2 = renaming_keeps_skeletons κ Γ (s1 ∷ Γ) (back y) W s2 (into Γ y s1 sy) w in
      let es : substitute reduce σ N ≡ eta_long a (variable y) = ap (substitute reduce σ) ne ∙ substitute_eta_expand σ a (variable y) (variable y) nil (kb y by) in
      let ev : reduce (arrow s1 s2) (lambda (rename (back y) W)) (app (substitute reduce σ N) (substitute_spine reduce σ S)) ≡ M
      = reduction_beta s1 s2 (rename (back y) W) (substitute reduce σ N) (substitute_spine reduce σ S) ∙ ap (λ X. reduce s2 (substitute reduce (single s1 X) (rename (back y) W)) (substitute_spine reduce σ S)) es ∙ ap (λ X. reduce s2 X (substitute_spine reduce σ S)) (argument_renames Γ s1 a y sy f κ (rename (back y) W) s2 k ∙ put_again y W) ∙ r in
      (subst (λ z. TermSkeleton κ (s1 ∷ Γ) (rename (back_from z) W) s2) (sym oe) k, ap (λ z. reduce (arrow s1 s2) (lambda (rename (back_from z) W)) (app (substitute reduce σ N) (substitute_spine reduce σ S))) oe ∙ ev)
    where
      into : (Γ : List Skeleton) (y : ℕ) (s1 : Skeleton) → SkeletonAt Γ y s1 → (i : ℕ) (t : Skeleton) → SkeletonAt Γ i t → SkeletonAt (s1 ∷ Γ) (back y i) t
      into Γ y s1 sy i t g = at (same_number i y) refl
        where
          at : (b : Bool) → same_number i y ≡ b → SkeletonAt (s1 ∷ Γ) (cond (same_number i y) zero (suc i)) t
          at true r = subst (λ b. SkeletonAt (s1 ∷ Γ) (cond b zero (suc i)) t) (sym r) (SkeletonAt-once Γ y s1 t sy (subst (λ j. SkeletonAt Γ j t) (number_equal i y r) g))
          at false r = subst (λ b. SkeletonAt (s1 ∷ Γ) (cond b zero (suc i)) t) (sym r) g
