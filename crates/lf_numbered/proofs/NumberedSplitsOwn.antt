-- The values of a head's new variables are on own terms where its arguments are.
use Rattle.std.proofs.Common.{◌≡◌, ℕ, zero, suc, List, [], ◌∷◌, ◌+◌, ◌<◌, ◌⊎◌, inl, inr, length, refl, sym, ap, ap₂, ◌∙◌, subst, arith}
use Rattle.std.specs.Prelude.{Bool, true, false, Option}
use Rattle.lf.specs.Syntax.{variable, Term, lambda, root, Spine, nil, app, LfType, pi, atom, Skeleton, base, arrow, skeleton, rename, rename_spine, rename_type, lift_renaming}
use Rattle.lf.specs.Substitution.{Image, keep, put, rename_image, single, substitute, substitute_spine, substitute_type, reduce}
use Rattle.lf.specs.SkeletonTyping.{HeadSkeletons, SkeletonAt, ImageSkeleton, TermSkeleton, SpineSkeleton, SubstitutionBySkeletons}
use Rattle.lf.specs.Skeletons.{constant_skeletons, context_skeletons}
use Rattle.lf.specs.AtOnce.{shift_by}
use Rattle.lf.specs.Eta.{add_last, eta_long}
use Rattle.lf.specs.Typing.{Signature}
use Rattle.lf.specs.Variables.{onto, at_variable}
use Rattle.lf.specs.Worlds.{lift_over, instance}
use Rattle.lf.proofs.Eta.{EtaLike, Fits, eta_both, eta_renames, reduce_nil}
use Rattle.lf.proofs.Renaming.{reduction_beta, reduction_is_natural, substitute_renamed}
use Rattle.lf.proofs.SkeletonTyping.{reduction_keeps_skeletons, renaming_keeps_skeletons, renaming_keeps_spine_skeletons, single_by_skeletons, substitution_keeps_skeletons}
use Rattle.lf.proofs.TypeLaws.{skeleton_substituted}
use Rattle.lf_unification.specs.Patterns.{Injective}
use Rattle.lf_cases.specs.Case.{Item, free_variable, items_context}
use Rattle.lf_cases.specs.OutputGoal.{renumber, raised_variable}
use Rattle.lf_cases.specs.Raised.{raise_by, locals_by, first_mask, other_masks}
use Rattle.lf_cases.specs.Reached.{arguments_count, head_items, head_spine}
use Rattle.lf_cases.proofs.OutputItems.{length_instance, length_renumber, lift_over_far, lift_renumber, low_instance, low_kept, raise_skeleton}
use Rattle.lf_cases.proofs.Raised.{locals_fit, rename_identity, shift_next}
use Rattle.lf_coverage.proofs.Parts.{suc_same}
use Rattle.lf_coverage.proofs.ResultType.{next_type, next_spine, next_count}
use Rattle.lf_coverage.proofs.Transfer.{behind_head}
use Rattle.lf_numbered.specs.OwnTerms.{OnOwnTerms, SpineOnOwnTerms, ImageOnOwnTerms}
use Rattle.lf_numbered.specs.TypedNumbered.{own_over}
use Rattle.lf_numbered.proofs.OwnStoresOpened.{own_over_shifts, over_length}
use Rattle.lf_numbered.proofs.OwnTerms.{own_as_renamed}
use Rattle.lf_numbered.proofs.OwnValues.{own_back}
use mathlib.Core.Path.{fun_ext}

shift_injective : (n : ℕ) → Injective (shift_by n)
shift_injective n i j e = omega (arith, e)

next_injective : Injective suc
next_injective i j e = omega (arith, e)

no_shift : (N : Term) → rename (shift_by 0) N ≡ N
no_shift N = ap (λ f. rename f N) (fun_ext none) ∙ rename_identity N
  where
    none : (i : ℕ) → i + 0 ≡ i
    none i = omega arith

-- arguments by skeletons
module _ (κ : HeadSkeletons) where
  reduce_add_last : (Δ : List Skeleton) (t : Skeleton) (N : Term) (S : Spine) (a b : Skeleton) (X : Term) → TermSkeleton κ Δ N t → SpineSkeleton κ Δ S t (arrow a b) → reduce t N (add_last S X) ≡ reduce (arrow a b) (reduce t N S) (app X nil)
  reduce_add_last Δ t N nil a b X n s = ap₂ (λ u Y. reduce u Y (app X nil)) s (sym (reduce_nil t N))
  reduce_add_last Δ (base c) N (app M S) a b X n s = absurd s
  reduce_add_last Δ (arrow c d) (root h T) (app M S) a b X n s = absurd n
  reduce_add_last Δ (arrow c d) (lambda N) (app M S) a b X n (m, s) = reduction_beta c d N M (add_last S X) ∙ reduce_add_last Δ d (substitute reduce (single c M) N) S a b X (substitution_keeps_skeletons κ (c ∷ Δ) Δ (single c M) N d (single_by_skeletons κ c Δ M m) n) s ∙ ap (λ Y. reduce (arrow a b) Y (app X nil)) (sym (reduction_beta c d N M S))

  -- a lambda, weakened and applied to the new variable, is its body
  applied_to_newest : (a b : Skeleton) (Δ : List Skeleton) (M : Term) → TermSkeleton κ (a ∷ Δ) M b → reduce (arrow a b) (rename suc (lambda M)) (app (eta_long a (variable zero)) nil) ≡ M
  applied_to_newest a b Δ M m = reduction_beta a b (rename (lift_renaming suc) M) (eta_long a (variable zero)) nil ∙ reduce_nil b (substitute reduce (single a (eta_long a (variable zero))) (rename (lift_renaming suc) M)) ∙ substitute_renamed reduce (single a (eta_long a (variable zero))) (lift_renaming suc) M ∙ eta_renames κ (a ∷ Δ) (a ∷ Δ) (λ i. single a (eta_long a (variable zero)) (lift_renaming suc i)) (λ i. i) M b like fits (λ i t g. g) m ∙ rename_identity M
    where
      like : EtaLike (λ c. Unit {0}) (λ i. single a (eta_long a (variable zero)) (lift_renaming suc i)) (λ i. i)
      like zero = (tt, refl)
      like (suc i) = refl

      fits : Fits (a ∷ Δ) (λ i. single a (eta_long a (variable zero)) (lift_renaming suc i))
      fits zero t e = e
      fits (suc i) t e = tt

module _ (Σ : Signature) where
  abbrev κ : HeadSkeletons
  κ = constant_skeletons Σ

  shifted : (D G : List LfType) (N : Term) (t : Skeleton) → TermSkeleton κ (context_skeletons G) N t → TermSkeleton κ (context_skeletons (onto D G)) (rename (shift_by (length D)) N) t
  shifted [] G N t n = subst (λ M. TermSkeleton κ (context_skeletons G) M t) (sym (no_shift N)) n
  shifted (A ∷ D) G N t n = subst (λ M. TermSkeleton κ (skeleton A ∷ context_skeletons (onto D G)) M t) (sym (shift_next (length D) N)) (renaming_keeps_skeletons κ (context_skeletons (onto D G)) (skeleton A ∷ context_skeletons (onto D G)) suc (rename (shift_by (length D)) N) t (λ i u g. g) (shifted D G N t n))

  -- A term that is raised is on own terms where it is on the local variables.
  own_unraised : (o : ℕ → Option Spine) (ks : List Bool) (D G : List LfType) (B : LfType) (N : Term) → TermSkeleton κ (context_skeletons G) N (skeleton (raise_by ks D B)) → OnOwnTerms (own_over D o) (reduce (skeleton (raise_by ks D B)) (rename (shift_by (length D)) N) (locals_by ks D)) → OnOwnTerms o N
  own_unraised o ks [] G B N n h = subst (OnOwnTerms o) (reduce_nil (skeleton B) (rename (shift_by 0) N) ∙ no_shift N) h
  own_unraised o [] (A ∷ D) G B N n h = own_back o (own_over (A ∷ D) o) (shift_by (length (A ∷ D))) (shift_injective (length (A ∷ D))) N (own_over_shifts (A ∷ D) o) (subst (OnOwnTerms (own_over (A ∷ D) o)) (reduce_nil (skeleton B) (rename (shift_by (length (A ∷ D))) N)) h)
  own_unraised o (true ∷ ks) (A ∷ D) G B N n h =
      let k : Skeleton = skeleton (raise_by ks D (pi A B)) in
      let N' : Term = rename (shift_by (length D)) N in
      let X : Term = eta_long (skeleton A) (variable zero) in
      let Δ : List Skeleton = context_skeletons (onto D G) in
      let sn : TermSkeleton κ Δ N' k = shifted D G N k n in
      let ls : SpineSkeleton κ Δ (locals_by ks D) k (arrow (skeleton A) (skeleton B)) = locals_fit Σ ks D G (pi A B) in
      let M : Term = reduce k N' (locals_by ks D) in
      let m : TermSkeleton κ Δ M (arrow (skeleton A) (skeleton B)) = reduction_keeps_skeletons κ k Δ N' (locals_by ks D) (arrow (skeleton A) (skeleton B)) sn ls in
      let last : reduce k (rename suc N') (add_last (rename_spine suc (locals_by ks D)) X) ≡ reduce (arrow (skeleton A) (skeleton B)) (reduce k (rename suc N') (rename_spine suc (locals_by ks D))) (app X nil) = reduce_add_last κ (skeleton A ∷ Δ) k (rename suc N') (rename_spine suc (locals_by ks D)) (skeleton A) (skeleton B) X (renaming_keeps_skeletons κ Δ (skeleton A ∷ Δ) suc N' k (λ i u g. g) sn) (renaming_keeps_spine_skeletons κ Δ (skeleton A ∷ Δ) suc (locals_by ks D) k (arrow (skeleton A) (skeleton B)) (λ i u g. g) ls) in
      let all : reduce k (rename (shift_by (length (A ∷ D))) N) (add_last (rename_spine suc (locals_by ks D)) X) ≡ reduce (arrow (skeleton A) (skeleton B)) (rename suc M) (app X nil) = ap (λ Y. reduce k Y (add_last (rename_spine suc (locals_by ks D)) X)) (shift_next (length D) N) ∙ last ∙ ap (λ Y. reduce (arrow (skeleton A) (skeleton B)) Y (app X nil)) (sym (reduction_is_natural k suc N' (locals_by ks D))) in
      own_unraised o ks D G (pi A B) N n (inside Δ M m (subst (OnOwnTerms (own_over (A ∷ D) o)) all h))
    where
      inside : (Δ : List Skeleton) (M : Term) → TermSkeleton κ Δ M (arrow (skeleton A) (skeleton B)) → OnOwnTerms (own_over (A ∷ D) o) (reduce (arrow (skeleton A) (skeleton B)) (rename suc M) (app (eta_long (skeleton A) (variable zero)) nil)) → OnOwnTerms (own_over D o) M
      inside Δ (lambda M) m h = subst (OnOwnTerms (own_over (A ∷ D) o)) (applied_to_newest κ (skeleton A) (skeleton B) Δ M m) h
      inside Δ (root k S) m h = absurd m
  own_unraised o (false ∷ ks) (A ∷ D) G B N n h =
      let B' : LfType = rename_type (at_variable zero) B in
      let k : Skeleton = skeleton (raise_by ks D B') in
      let M : Term = reduce k (rename (shift_by (length D)) N) (locals_by ks D) in
      let all : reduce k (rename (shift_by (length (A ∷ D))) N) (rename_spine suc (locals_by ks D)) ≡ rename suc M = ap (λ Y. reduce k Y (rename_spine suc (locals_by ks D))) (shift_next (length D) N) ∙ sym (reduction_is_natural k suc (rename (shift_by (length D)) N) (locals_by ks D)) in
      own_unraised o ks D G B' N n (own_back (own_over D o) (own_over (A ∷ D) o) suc next_injective M (λ c. own_as_renamed (own_over D o c)) (subst (OnOwnTerms (own_over (A ∷ D) o)) all h))

  -- what a raised variable is under values
  variable_is : (k : List Bool) (D : List LfType) (B : LfType) (G : List LfType) (τ : ℕ → Image) (n : ℕ) (N : Term) (t : Skeleton) → t ≡ skeleton (raise_by k D B) → τ n ≡ put t N → TermSkeleton κ (context_skeletons G) N t → substitute reduce (lift_over D τ) (raised_variable k D B n) ≡ reduce t (rename (shift_by (length D)) N) (locals_by k D)
  variable_is k D B G τ n N t q e s =
      let Δ : List Skeleton = context_skeletons (onto (instance D τ) G) in
      let N' : Term = rename (shift_by (length D)) N in
      let n' : TermSkeleton κ Δ N' t = subst (λ l. TermSkeleton κ Δ (rename (shift_by l) N) t) (length_instance D τ) (shifted (instance D τ) G N t s) in
      let B' : LfType = substitute_type reduce (lift_over D τ) B in
      let b : skeleton B' ≡ skeleton B = skeleton_substituted reduce (lift_over D τ) B in
      let fit0 : SpineSkeleton κ Δ (locals_by k (instance D τ)) (skeleton (raise_by k D B)) (skeleton B) = subst (λ a. SpineSkeleton κ Δ (locals_by k (instance D τ)) a (skeleton B)) (raise_skeleton k D τ B B' b) (subst (SpineSkeleton κ Δ (locals_by k (instance D τ)) (skeleton (raise_by k (instance D τ) B'))) b (locals_fit Σ k (instance D τ) G B')) in
      let fit : SpineSkeleton κ Δ (substitute_spine reduce (lift_over D τ) (locals_by k D)) t (skeleton B) = subst (λ S. SpineSkeleton κ Δ S t (skeleton B)) (low_instance k D τ ∙ sym (low_kept k D τ)) (subst (λ a. SpineSkeleton κ Δ (locals_by k (instance D τ)) a (skeleton B)) (sym q) fit0) in
      (eta_both κ (skeleton B)).1 Δ (lift_over D τ) (n + length D) t N' (locals_by k D) (lift_over_far D τ n ∙ ap (rename_image (shift_by (length D))) e) n' fit ∙ ap (reduce t N') (low_kept k D τ)

  -- The lemma
  pub new_values_own : (o : ℕ → Option Spine) (ks : List (List Bool)) (n : ℕ) (D : List LfType) (A : LfType) (I : List Item) (G : List LfType) → arguments_count A ≡ n → (φ : ℕ → Image) → SubstitutionBySkeletons (constant_skeletons Σ) (context_skeletons (items_context (head_items ks D n A I))) (context_skeletons G) φ → SpineOnOwnTerms (own_over D o) (substitute_spine reduce (lift_over D φ) (head_spine ks D A)) → (i : ℕ) → i < n → ImageOnOwnTerms o (φ i)
  new_values_own o ks zero D A I G c φ s h i l = absurd (none l)
    where
      none : i < 0 → ⊥
      none l = omega arith
  new_values_own o ks (suc n) D (atom a S) I G c φ s h i l = absurd (no c)
    where
      no : zero ≡ suc n → ⊥
      no c = omega arith
  new_values_own o ks (suc n) D (pi A B) I G c φ s (m, h) i l =
      let k0 : List Bool = first_mask ks in
      let Y : LfType = raise_by k0 D A in
      let J : List Item = free_variable Y ∷ I in
      let D' : List LfType = renumber suc D in
      let A' : LfType = next_type ks D A B in
      let c' : arguments_count A' ≡ n = next_count ks D A B ∙ suc_same c in
      let h' : SpineOnOwnTerms (own_over D' o) (substitute_spine reduce (lift_over D' φ) (head_spine (other_masks ks) D' A')) = subst (λ p. SpineOnOwnTerms p (substitute_spine reduce (lift_over D' φ) (head_spine (other_masks ks) D' A'))) (over_length D D' o (sym (length_renumber suc D))) (subst (SpineOnOwnTerms (own_over D o)) (ap₂ (λ f S. substitute_spine reduce f S) (sym (lift_renumber suc D φ)) (sym (next_spine ks D A B))) h) in
      let at : SkeletonAt (context_skeletons (items_context (head_items (other_masks ks) D' n A' J))) (0 + n) (skeleton Y) = behind_head (other_masks ks) D' n A' J c' 0 (skeleton Y) refl in
      by (cases i n l) (image (φ n) refl (subst (λ j. ImageSkeleton κ (context_skeletons G) (φ j) (skeleton Y)) (none n) (s (0 + n) (skeleton Y) at))) (new_values_own o (other_masks ks) n D' A' J G c' φ s h')
    where
      none : (n : ℕ) → 0 + n ≡ n
      none n = omega arith

      cases : (i n : ℕ) → i < suc n → (i ≡ n) ⊎ (i < n)
      cases zero zero l = inl refl
      cases zero (suc n) l = inr (omega arith)
      cases (suc i) zero l = absurd (omega (arith, l))
      cases (suc i) (suc n) l = more (cases i n (omega (arith, l)))
        where
          more : (i ≡ n) ⊎ (i < n) → (suc i ≡ suc n) ⊎ (suc i < suc n)
          more (inl e) = inl (ap suc e)
          more (inr k) = inr (omega (arith, k))

      image : (y : Image) → φ n ≡ y → ImageSkeleton κ (context_skeletons G) y (skeleton (raise_by (first_mask ks) D A)) → ImageOnOwnTerms o (φ n)
      image (keep j) e z = subst (ImageOnOwnTerms o) (sym e) tt
      image (put t N) e (q, z) =
          let y : TermSkeleton κ (context_skeletons G) N (skeleton (raise_by (first_mask ks) D A)) = subst (TermSkeleton κ (context_skeletons G) N) q z in
          let e' : φ n ≡ put (skeleton (raise_by (first_mask ks) D A)) N = e ∙ ap (λ a. put a N) q in
          let is : substitute reduce (lift_over D φ) (raised_variable (first_mask ks) D A (arguments_count B)) ≡ reduce (skeleton (raise_by (first_mask ks) D A)) (rename (shift_by (length D)) N) (locals_by (first_mask ks) D) = ap (λ j. substitute reduce (lift_over D φ) (raised_variable (first_mask ks) D A j)) (suc_same c) ∙ variable_is (first_mask ks) D A G φ n N (skeleton (raise_by (first_mask ks) D A)) refl e' y in
          subst (ImageOnOwnTerms o) (sym e) (own_unraised o (first_mask ks) D G A N y (subst (OnOwnTerms (own_over D o)) is m))

      by : (i ≡ n) ⊎ (i < n) → ImageOnOwnTerms o (φ n) → ((j : ℕ) → j < n → ImageOnOwnTerms o (φ j)) → ImageOnOwnTerms o (φ i)
      by (inl e) x f = subst (λ j. ImageOnOwnTerms o (φ j)) (sym e) x
      by (inr k) x f = f i k
