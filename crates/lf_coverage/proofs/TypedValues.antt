-- A value that on distinct bound variables is a typed term is typed.
use Rattle.std.proofs.Common.{◌≡◌, ℕ, zero, suc, List, [], ◌∷◌, length, refl, sym, ap, ◌∙◌, subst, true≢false}
use Rattle.std.specs.Prelude.{Bool, true, false, not, Option, Some}
use Rattle.lf.specs.Syntax.{variable, Term, Spine, lambda, root, nil, app, LfType, pi, atom, Skeleton, arrow, skeleton, lift_renaming, rename, rename_type, weaken}
use Rattle.lf.specs.Substitution.{single, substitute, reduce}
use Rattle.lf.specs.SkeletonTyping.{SkeletonAt, TermSkeleton, RenamingBySkeletons}
use Rattle.lf.specs.Skeletons.{constant_skeletons, context_skeletons}
use Rattle.lf.specs.Typing.{Signature, TypeAt, IsTypedRenaming, instantiate_type, HasType, SpineType, IsType, IsContext, IsSignature}
use Rattle.lf.specs.Variables.{at_variable, onto}
use Rattle.lf.specs.Eta.{eta_long}
use Rattle.lf.proofs.Decidability.{variable_type_unique}
use Rattle.lf.proofs.Renaming.{renamings_compose, reduction_beta}
use Rattle.lf.proofs.SkeletonTyping.{renaming_keeps_skeletons, renaming_by_skeletons_under_binder}
use Rattle.lf.proofs.ToSkeletons.{variable_has_skeleton, skeleton_has_variable, type_by_skeletons}
use Rattle.lf.proofs.TypeLaws.{renamings_compose_type, skeleton_renamed}
use Rattle.lf.proofs.Weakening.{renaming_keeps_types, renames_under_binder}
use Rattle.lf.proofs.Eta.{reduce_nil}
use Rattle.lf.proofs.EtaTypes.{SameForm, eta_spine, eta_at_type}
use Rattle.lf.proofs.Checker.{number_itself}
use Rattle.lf_unification.specs.Patterns.{Injective, extend_renaming}
use Rattle.lf_unification.proofs.Eta.{rename_id_type}
use Rattle.lf_unification.proofs.RenamingBack.{Back, HasType-unrename}
use Rattle.lf_checks.specs.Tests.{both, either, is_in}
use Rattle.lf_checks.specs.Strict.{head_variable, is_bound, pattern_arguments, with_seen, eta_at}
use Rattle.lf_checks.proofs.EtaTest.{both_l, both_r}
use Rattle.lf_coverage.specs.FullMatching.{PatternValuesAreTyped}
use Rattle.lf_coverage.specs.TermMatching.{bound, over}
use Rattle.lf_coverage.proofs.Choices.{either_second, not_true}
use Rattle.lf_coverage.proofs.EtaArguments.{bound_argument, argument_renames, argument_renames_type}
use Rattle.lf_coverage.proofs.Parts.{suc_same}
use Rattle.lf_coverage.proofs.StrictHeads.{not_bound}
use mathlib.Core.Path.{fun_ext}

by_skeletons : (G' G : List LfType) (ρ : ℕ → ℕ) → IsTypedRenaming G' G ρ → RenamingBySkeletons (context_skeletons G') (context_skeletons G) ρ
by_skeletons G' G ρ r i t g =
    let (A, k, e) = skeleton_has_variable G' i t g in
    subst (SkeletonAt (context_skeletons G) (ρ i)) (skeleton_renamed ρ A ∙ e) (variable_has_skeleton G (ρ i) (rename_type ρ A) (r i A k))

-- y put in under a renaming
put_in_first : (y : ℕ) (ρ : ℕ → ℕ) (i : ℕ) → at_variable y (lift_renaming ρ i) ≡ extend_renaming y ρ i
put_in_first y ρ zero = refl
put_in_first y ρ (suc i) = refl

-- an argument that comes wasn't seen
is_new : (B : ℕ → Bool) (seen : List ℕ) (N : Term) (o : Option ℕ) (y : ℕ) → o ≡ Some y → is_bound B seen N o ≡ true → is_in y seen ≡ false
is_new B seen N o y oe e =
    let f : is_bound B seen N (Some y) ≡ true = subst (λ z. is_bound B seen N z ≡ true) oe e in
    not_true (is_in y seen) (both_r (B y) (not (is_in y seen)) (both_r (eta_at zero y N) (both (B y) (not (is_in y seen))) f))

module _ (Σ : Signature) (ok : IsSignature Σ) (n : ℕ) (G : List LfType) (c : IsContext Σ G) where
  unapplied : (seen : List ℕ) (G' : List LfType) (ρ : ℕ → ℕ) (V : Term) (X P : LfType) (S : Spine) → IsTypedRenaming G' G ρ → Injective ρ → Back G' G ρ → ((i : ℕ) → bound n (ρ i) ≡ true → is_in (ρ i) seen ≡ true) → IsType Σ G' X → TermSkeleton (constant_skeletons Σ) (context_skeletons G') V (skeleton X) → pattern_arguments (bound n) seen S ≡ true → SpineType Σ G S (rename_type ρ X) P → HasType Σ G (reduce (skeleton X) (rename ρ V) S) P → HasType Σ G' V X
  unapplied seen G' ρ V X P nil r inj back h t v e s m = HasType-unrename Σ ok G' G ρ V X inj back (subst (HasType Σ G (rename ρ V)) (sym s) (subst (λ Z. HasType Σ G Z P) (reduce_nil (skeleton X) (rename ρ V)) m))
  unapplied seen G' ρ V (atom a T) P (app N S) r inj back h t v e s m = absurd s
  unapplied seen G' ρ (root k T) (pi A B) P (app N S) r inj back h t v e s m = absurd v
  unapplied seen G' ρ (lambda V) (pi A B) P (app N S) r inj back h (t1, t2) v e (a1, s) m =
      let o : Option ℕ = head_variable zero N in
      let e1 : is_bound (bound n) seen N o ≡ true = both_l (is_bound (bound n) seen N o) (pattern_arguments (bound n) (with_seen o seen) S) e in
      let (y, a, oe, by, unseen, ne) = bound_argument (bound n) seen N o e1 in
      let new : is_in y seen ≡ false = is_new (bound n) seen N o y oe e1 in
      let A' : LfType = rename_type ρ A in
      let a2 : HasType Σ G (eta_long a (variable y)) A' = subst (λ Z. HasType Σ G Z A') ne a1 in
      let (Y, g) = eta_at_type Σ ok a G y nil A' a2 in
      let (f, w) = eta_spine Σ ok a G y nil Y A' c g (renaming_keeps_types Σ ok G' G ρ A r t1) a2 in
      let gy : TypeAt G y A' = subst (TypeAt G y) w g in
      let ρ' : ℕ → ℕ = extend_renaming y ρ in
      let tb : IsType Σ (A' ∷ G) (rename_type (lift_renaming ρ) B) = renaming_keeps_types Σ ok (A ∷ G') (A' ∷ G) (lift_renaming ρ) B (renames_under_binder G' G ρ A r) t2 in
      let inst : instantiate_type A' N (rename_type (lift_renaming ρ) B) ≡ rename_type ρ' B = ap (λ Z. instantiate_type A' Z (rename_type (lift_renaming ρ) B)) ne ∙ at_type y a A' (rename_type (lift_renaming ρ) B) f gy tb ∙ renamings_compose_type (at_variable y) (lift_renaming ρ) B ∙ ap (λ z. rename_type z B) (fun_ext (put_in_first y ρ)) in
      let sy : SkeletonAt (context_skeletons G) y (skeleton A) = subst (SkeletonAt (context_skeletons G) y) (skeleton_renamed ρ A) (variable_has_skeleton G y A' gy) in
      let vk : TermSkeleton (constant_skeletons Σ) (skeleton A ∷ context_skeletons G) (rename (lift_renaming ρ) V) (skeleton B) = renaming_keeps_skeletons (constant_skeletons Σ) (skeleton A ∷ context_skeletons G') (skeleton A ∷ context_skeletons G) (lift_renaming ρ) V (skeleton B) (renaming_by_skeletons_under_binder (context_skeletons G') (context_skeletons G) ρ (skeleton A) (by_skeletons G' G ρ r)) v in
      let ev : reduce (arrow (skeleton A) (skeleton B)) (lambda (rename (lift_renaming ρ) V)) (app N S) ≡ reduce (skeleton B) (rename ρ' V) S
      = reduction_beta (skeleton A) (skeleton B) (rename (lift_renaming ρ) V) N S ∙ ap (λ Z. reduce (skeleton B) (substitute reduce (single (skeleton A) Z) (rename (lift_renaming ρ) V)) S) ne ∙ ap (λ Z. reduce (skeleton B) Z S) (argument_renames (context_skeletons G) (skeleton A) a y sy (subst (SameForm a) (skeleton_renamed ρ A) f) (constant_skeletons Σ) (rename (lift_renaming ρ) V) (skeleton B) vk ∙ renamings_compose (at_variable y) (lift_renaming ρ) V ∙ ap (λ z. rename z V) (fun_ext (put_in_first y ρ))) in
      unapplied (with_seen o seen) (A ∷ G') ρ' V B P S (renames y gy) (injective y by new) (backwards y gy) (subst (λ z. (i : ℕ) → bound n (ρ' i) ≡ true → is_in (ρ' i) (with_seen z seen) ≡ true) (sym oe) (seen_all y)) t2 v (both_r (is_bound (bound n) seen N o) (pattern_arguments (bound n) (with_seen o seen) S) e) (subst (λ Z. SpineType Σ G S Z P) inst s) (subst (λ Z. HasType Σ G Z P) ev m)
    where
      at_type : (y : ℕ) (a : Skeleton) (A' B' : LfType) → SameForm a (skeleton A') → TypeAt G y A' → IsType Σ (A' ∷ G) B' → instantiate_type A' (eta_long a (variable y)) B' ≡ rename_type (at_variable y) B'
      at_type y a A' B' f gy tb = argument_renames_type (context_skeletons G) (skeleton A') a y (variable_has_skeleton G y A' gy) f Σ ok B' (type_by_skeletons Σ (A' ∷ G) B' tb)

      renames : (y : ℕ) → TypeAt G y (rename_type ρ A) → IsTypedRenaming (A ∷ G') G (extend_renaming y ρ)
      renames y gy zero Z q = subst (TypeAt G y) (sym (ap (rename_type (extend_renaming y ρ)) q ∙ renamings_compose_type (extend_renaming y ρ) suc A)) gy
      renames y gy (suc i) Z (D, k, q) = subst (TypeAt G (ρ i)) (sym (ap (rename_type (extend_renaming y ρ)) q ∙ renamings_compose_type (extend_renaming y ρ) suc D)) (r i D k)

      backwards : (y : ℕ) → TypeAt G y (rename_type ρ A) → Back (A ∷ G') G (extend_renaming y ρ)
      backwards y gy zero Z k = (weaken A, refl, variable_type_unique G y Z (rename_type ρ A) k gy ∙ sym (renamings_compose_type (extend_renaming y ρ) suc A))
      backwards y gy (suc i) Z k = let (Y, l, q) = back i Z k in (weaken Y, (Y, l, refl), q ∙ sym (renamings_compose_type (extend_renaming y ρ) suc Y))

      apart : (y j : ℕ) → bound n y ≡ true → is_in y seen ≡ false → y ≡ ρ j → ⊥
      apart y j b new q = true≢false (sym (h j (subst (λ z. bound n z ≡ true) q b)) ∙ subst (λ z. is_in z seen ≡ false) q new)

      injective : (y : ℕ) → bound n y ≡ true → is_in y seen ≡ false → Injective (extend_renaming y ρ)
      injective y b new zero zero q = refl
      injective y b new zero (suc j) q = absurd (apart y j b new q)
      injective y b new (suc i) zero q = absurd (apart y i b new (sym q))
      injective y b new (suc i) (suc j) q = ap suc (inj i j q)

      seen_all : (y : ℕ) (i : ℕ) → bound n (extend_renaming y ρ i) ≡ true → is_in (extend_renaming y ρ i) (y ∷ seen) ≡ true
      seen_all y zero b = ap (λ z. either z (is_in y seen)) (number_itself y)
      seen_all y (suc i) b = either_second (Rattle.lf.specs.Variables.same_number (ρ i) y) (is_in (ρ i) seen) (h i b)

-- past the bound variables
over_renames : (D G : List LfType) → IsTypedRenaming G (onto D G) (over (length D))
over_renames [] G i A g = subst (TypeAt G i) (sym (rename_id_type A)) g
over_renames (E ∷ D) G i A g = (rename_type (over (length D)) A, over_renames D G i A g, sym (renamings_compose_type suc (over (length D)) A))

over_injective : (n : ℕ) → Injective (over n)
over_injective zero i j e = e
over_injective (suc n) i j e = over_injective n i j (suc_same e)

over_back : (D G : List LfType) → Back G (onto D G) (over (length D))
over_back [] G i X g = (X, g, sym (rename_id_type X))
over_back (E ∷ D) G i X (C, g, e) = let (Y, k, q) = over_back D G i C g in (Y, k, e ∙ ap weaken q ∙ renamings_compose_type suc (over (length D)) Y)

pub pattern_values_are_typed : PatternValuesAreTyped
pattern_values_are_typed Σ ok D Δ c X P t V v S e s m = unapplied Σ ok (length D) (onto D Δ) c [] Δ (over (length D)) V X P S (over_renames D Δ) (over_injective (length D)) (over_back D Δ) (λ i b. absurd (true≢false (sym b ∙ not_bound (length D) i))) t v e s m
