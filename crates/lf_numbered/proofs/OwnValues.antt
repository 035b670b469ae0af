-- A term stands on own terms where the term that it is renamed to does, and a body where the value does.
use Rattle.std.proofs.Common.{◌≡◌, ℕ, suc, List, [], Option, Some, None, refl, sym, ap, ap₂, ◌∙◌, subst}
use Rattle.lf.specs.Eta.{append, eta_long}
use Rattle.lf.specs.SkeletonTyping.{TermSkeleton}
use Rattle.lf.specs.Skeletons.{context_skeletons}
use Rattle.lf.specs.Syntax.{constant, variable, metavariable, Term, Spine, lambda, root, nil, app, LfType, Skeleton, base, arrow, skeleton, lift_renaming, rename, rename_spine}
use Rattle.lf.specs.Typing.{Signature, IsSignature}
use Rattle.lf.proofs.AtOnce.{rename_spine_identity}
use Rattle.lf_unification.specs.Filling.{fill, fill_type}
use Rattle.lf_unification.specs.OpenTyping.{IsInstance, skeletons_of}
use Rattle.lf_unification.specs.Patterns.{Injective, PatternFits, context_under, lambdas_of, past, pattern, pattern_renaming}
use Rattle.lf_unification.specs.Skeletons.{TotalSkeletons, as_head_skeletons, skeleton_or_default, total_skeletons}
use Rattle.lf_unification.proofs.Filling.{skeleton_fill}
use Rattle.lf_unification.proofs.Inverse.{rename_injective, up_injective}
use Rattle.lf_unification.proofs.OpenSound.{PartialInstance-of, skeletons_under}
use Rattle.lf_unification.proofs.Patterns.{body, fill_lambdas, left_side, past_rename}
use Rattle.lf_unification.proofs.Raise.{fill_raised}
use Rattle.lf_unification.proofs.Shrink.{RenamingBySkeletons-past}
use Rattle.lf_unification.proofs.StepLemmas.{value_of}
use Rattle.lf_unification.proofs.ToSkeletons.{typed_has_skeleton}
use Rattle.lf_numbered.specs.OwnTerms.{weaken_own, BeginsWith, OnOwnTerms, SpineOnOwnTerms}
use Rattle.lf_numbered.proofs.EntryPatternsFound.{renamed_twice as own_compose}
use Rattle.lf_numbered.proofs.OwnTerms.{rename_own, own_as_renamed, rename_under}
use mathlib.Core.Path.{fun_ext}

-- Renaming back
append_back : (ρ : ℕ → ℕ) → Injective ρ → (U S T : Spine) → rename_spine ρ S ≡ append (rename_spine ρ U) T → (R : Spine) × (S ≡ append U R)
append_back ρ inj nil S T e = (S, refl)
append_back ρ inj (app M U) nil T e = absurd cc
append_back ρ inj (app M U) (app N S) T e = let (R, q) = append_back ρ inj U S T cc in (R, ap₂ app (rename_injective ρ inj N M cc) q)

begins_back : (ρ : ℕ → ℕ) → Injective ρ → (u : Option Spine) (S : Spine) → BeginsWith (rename_own ρ u) (rename_spine ρ S) → BeginsWith u S
begins_back ρ inj None S b = tt
begins_back ρ inj (Some U) S (T, e) = append_back ρ inj U S T e

mutual
  pub own_back : (o o' : ℕ → Option Spine) (ρ : ℕ → ℕ) → Injective ρ → (M : Term) → ((c : ℕ) → o' c ≡ rename_own ρ (o c)) → OnOwnTerms o' (rename ρ M) → OnOwnTerms o M
  own_back o o' ρ inj (lambda M) h m = own_back (λ c. weaken_own (o c)) (λ c. weaken_own (o' c)) (lift_renaming ρ) (up_injective ρ inj) M (λ c. ap weaken_own (h c) ∙ rename_under ρ (o c)) m
  own_back o o' ρ inj (root (constant c) S) h (b, s) = (begins_back ρ inj (o c) S (subst (λ u. BeginsWith u (rename_spine ρ S)) (h c) b), spine_back o o' ρ inj S h s)
  own_back o o' ρ inj (root (variable i) S) h s = spine_back o o' ρ inj S h s
  own_back o o' ρ inj (root (metavariable m) S) h s = spine_back o o' ρ inj S h s

  spine_back : (o o' : ℕ → Option Spine) (ρ : ℕ → ℕ) → Injective ρ → (S : Spine) → ((c : ℕ) → o' c ≡ rename_own ρ (o c)) → SpineOnOwnTerms o' (rename_spine ρ S) → SpineOnOwnTerms o S
  spine_back o o' ρ inj nil h s = tt
  spine_back o o' ρ inj (app M S) h (m, s) = (own_back o o' ρ inj M h m, spine_back o o' ρ inj S h s)

-- own terms under the lambdas of a skeleton
abbrev pub own_past : Skeleton → (ℕ → Option Spine) → ℕ → Option Spine
own_past (base c) o = o
own_past (arrow a b) o = own_past b (λ c. weaken_own (o c))

own_under : (t : Skeleton) (o : ℕ → Option Spine) (M : Term) → OnOwnTerms o (lambdas_of t M) → OnOwnTerms (own_past t o) M
own_under (base c) o M m = m
own_under (arrow a b) o M m = own_under b (λ c. weaken_own (o c)) M m

own_over : (t : Skeleton) (o : ℕ → Option Spine) (M : Term) → OnOwnTerms (own_past t o) M → OnOwnTerms o (lambdas_of t M)
own_over (base c) o M m = m
own_over (arrow a b) o M m = own_over b (λ c. weaken_own (o c)) M m

own_identity : (u : Option Spine) → u ≡ rename_own (λ i. i) u
own_identity None = refl
own_identity (Some U) = ap Some (sym (rename_spine_identity U))

own_past_renamed : (t : Skeleton) (o : ℕ → Option Spine) (c : ℕ) → own_past t o c ≡ rename_own (past t) (o c)
own_past_renamed (base d) o c = own_identity (o c)
own_past_renamed (arrow a b) o c = own_past_renamed b (λ k. weaken_own (o k)) c ∙ ap (rename_own (past b)) (own_as_renamed (o c)) ∙ own_compose (past b) suc (o c)

-- under the lambdas of t and those of t', whose arguments are some of them
own_kept : (t t' : Skeleton) (zs : List ℕ) (Δ : List Skeleton) → PatternFits Δ t' zs → (o : ℕ → Option Spine) (c : ℕ) → own_past t o c ≡ rename_own (pattern_renaming t' zs (past t)) (own_past t' o c)
own_kept t t' zs Δ p o c =
    own_past_renamed t o c
    ∙ ap (λ f. rename_own f (o c)) (fun_ext (λ i. sym (past_rename Δ t' zs (past t) i p)))
    ∙ sym (ap (rename_own (pattern_renaming t' zs (past t))) (own_past_renamed t' o c) ∙ own_compose (pattern_renaming t' zs (past t)) (past t') (o c))

-- A metavariable n whose value is W
module _ (Σ : Signature) (ok : IsSignature Σ) (Ψ : ℕ → Option LfType) (F : List LfType) (β : ℕ → Option Term) (w : IsInstance Σ [] Ψ F β) (n : ℕ) (A : LfType) (declared : Ψ n ≡ Some A) (W : Term) (e : β n ≡ Some W) (o : ℕ → Option Spine) where
  abbrev μ : ℕ → Skeleton
  μ = skeletons_of Ψ

  abbrev κ : TotalSkeletons
  κ = total_skeletons Σ (skeletons_of Ψ)

  abbrev Γ : List Skeleton
  Γ = context_skeletons F

  skeleton_is : μ n ≡ skeleton A
  skeleton_is = ap skeleton_or_default declared

  has_skeleton : TermSkeleton (as_head_skeletons (total_skeletons Σ (skeletons_of Ψ))) (context_skeletons F) W (skeletons_of Ψ n)
  has_skeleton =
      let (V, f, v) = value_of Σ [] Ψ F β w n A declared in
      let q : V ≡ W = (let r : Some V ≡ Some W = sym f ∙ e in cc) in
      subst (λ X. TermSkeleton (as_head_skeletons (total_skeletons Σ (skeletons_of Ψ))) (context_skeletons F) X (skeletons_of Ψ n)) q (subst (TermSkeleton (as_head_skeletons (total_skeletons Σ (skeletons_of Ψ))) (context_skeletons F) V) (skeleton_fill μ β A ∙ sym skeleton_is) (typed_has_skeleton Σ μ F V (fill_type μ β A) v))

  -- on some of the arguments of t, under its lambdas
  on_arguments : (t : Skeleton) (zs : List ℕ) → Injective (pattern_renaming (skeletons_of Ψ n) zs (past t)) → ((Δ : List Skeleton) → PatternFits (context_under t Δ) (skeletons_of Ψ n) zs) → OnOwnTerms o (fill (skeletons_of Ψ) β (lambdas_of t (root (metavariable n) (pattern (skeletons_of Ψ n) zs)))) → OnOwnTerms o W
  on_arguments t zs inj places m =
      let (B, q) = body κ Γ (μ n) W has_skeleton in
      let r : fill μ β (lambdas_of t (root (metavariable n) (pattern (μ n) zs))) ≡ lambdas_of t (rename (pattern_renaming (μ n) zs (past t)) B) = fill_lambdas μ t β (root (metavariable n) (pattern (μ n) zs)) ∙ ap (lambdas_of t) (left_side κ Γ (context_under t Γ) (past t) (RenamingBySkeletons-past t Γ) n zs (places Γ) β W e has_skeleton B q) in
      subst (OnOwnTerms o) (sym q) (own_over (μ n) o B (own_back (own_past (μ n) o) (own_past t o) (pattern_renaming (μ n) zs (past t)) inj B (own_kept t (μ n) zs (context_under t Γ) (places Γ) o) (own_under t o (rename (pattern_renaming (μ n) zs (past t)) B) (subst (OnOwnTerms o) r m))))

  -- where n is put for a metavariable that loses arguments, its value stands on own terms
  pub pruned_is_own : (t : Skeleton) (zs : List ℕ) → Injective (pattern_renaming (skeleton A) zs (past t)) → ((Δ : List Skeleton) → PatternFits (context_under t Δ) (skeleton A) zs) → OnOwnTerms o (fill (skeletons_of Ψ) β (lambdas_of t (root (metavariable n) (pattern (skeleton A) zs)))) → OnOwnTerms o W
  pruned_is_own t zs = subst (λ x. Injective (pattern_renaming x zs (past t)) → ((Δ : List Skeleton) → PatternFits (context_under t Δ) x zs) → OnOwnTerms o (fill (skeletons_of Ψ) β (lambdas_of t (root (metavariable n) (pattern x zs)))) → OnOwnTerms o W) skeleton_is (on_arguments t zs)

  -- and where n is put for one that is renewed
  pub renewed_is_own : (a : Skeleton) → a ≡ skeleton A → OnOwnTerms o (fill (skeletons_of Ψ) β (eta_long a (metavariable n))) → OnOwnTerms o W
  renewed_is_own a q m = subst (OnOwnTerms o) (ap (λ b. fill (skeletons_of Ψ) β (eta_long b (metavariable n))) q ∙ fill_raised κ Γ β [] A n W (skeletons_under Σ ok [] Ψ (λ b. Unit {0}) (λ k. Unit {0}) F β (PartialInstance-of Σ ok [] Ψ (λ k. Unit {0}) F β w) []) skeleton_is e has_skeleton) m
