-- Arguments that have the types of their places, which mention covered places only, have them beside whatever stands at the other places, also where constants are
-- moved and variables renamed.
use Rattle.std.proofs.Common.{◌≡◌, ℕ, zero, suc, List, [], ◌∷◌, refl, sym, ap, ◌∙◌, subst}
use Rattle.std.specs.Prelude.{Bool, true, false, Option, Some, None}
use Rattle.lf.specs.Syntax.{Term, Spine, nil, app, LfType, Kind, kind_pi, star, Skeleton, base, arrow, skeleton, kind_skeleton, rename, rename_spine, rename_type}
use Rattle.lf.specs.Substitution.{Image, put, rename_image, substitute_type, substitute_kind, reduce}
use Rattle.lf.specs.AtOnce.{in_front}
use Rattle.lf.specs.SkeletonTyping.{TermSkeleton, SpineSkeleton, SubstitutionBySkeletons}
use Rattle.lf.specs.Skeletons.{constant_skeletons, family_skeletons, context_skeletons}
use Rattle.lf.specs.Typing.{Signature, HasType, IsKind, IsSignature, IsTypedRenaming}
use Rattle.lf.specs.Variables.{SameOn, hide, nothing, under}
use Rattle.lf.specs.Extension.{Extends}
use Rattle.lf.proofs.Agreement.{agree_on_type}
use Rattle.lf.proofs.ExtensionTyping.{extension_keeps_typing}
use Rattle.lf.proofs.Growth.{growth_keeps_kinds}
use Rattle.lf.proofs.Renaming.{reduction_is_natural}
use Rattle.lf.proofs.ToSkeletons.{typed_has_skeleton, kind_by_skeletons}
use Rattle.lf.proofs.TypeLaws.{rename_substituted_type, skeleton_substituted}
use Rattle.lf.proofs.Weakening.{renaming_keeps_typing}
use Rattle.lf_checks.specs.Marks.{MentionChosenOnly, TypedPlacesFrom}
use Rattle.lf_cases.specs.Case.{covered_places}
use Rattle.lf_coverage.specs.Matching.{ArePlaces}
use Rattle.lf_coverage.specs.TypedCase.{TypedArguments}
use Rattle.lf_coverage.proofs.InputTyped.{front_fits, kind_front}
use Rattle.lf_numbered.specs.NewBlock.{rename_all}
use Rattle.lf_numbered.specs.NumberedInstance.{move, move_all, move_type, move_types}
use Rattle.lf_numbered.specs.WritingRoom.{move_image, move_kind}
use Rattle.lf_numbered.proofs.Reading.{IsOld}
use Rattle.lf_numbered.proofs.WritingGap.{same_old}
use Rattle.lf_numbered.proofs.WritingMove.{move_type_substituted, moved_typed}
use mathlib.Core.Path.{fun_ext}

-- The covered places stay.
pub places_renamed : (ρ : ℕ → ℕ) (Ms : List (Option Term)) (T : Spine) → ArePlaces Ms T → ArePlaces (rename_all ρ Ms) (rename_spine ρ T)
places_renamed ρ [] nil a = tt
places_renamed ρ [] (app N T) a = absurd a
places_renamed ρ (Some M ∷ Ms) nil a = absurd a
places_renamed ρ (None ∷ Ms) nil a = absurd a
places_renamed ρ (Some M ∷ Ms) (app N T) (e, a) = (ap (rename ρ) e, places_renamed ρ Ms T a)
places_renamed ρ (None ∷ Ms) (app N T) a = places_renamed ρ Ms T a

-- Typed places, renamed in an extension
module _ (Σ Σ' : Signature) (ok' : IsSignature Σ') (x : Extends nothing Σ Σ') (G H : List LfType) (ρ : ℕ → ℕ) (r : IsTypedRenaming G H ρ) where
  front_renamed : (a : Skeleton) (M : Term) (θ : ℕ → Image) (i : ℕ) → rename_image ρ (in_front (put a M) θ i) ≡ in_front (put a (rename ρ M)) (λ j. rename_image ρ (θ j)) i
  front_renamed a M θ zero = refl
  front_renamed a M θ (suc i) = refl

  pub typed_renamed : (m : List Bool) (θ : ℕ → Image) (T : Spine) (K : Kind) → TypedPlacesFrom Σ m G θ T K → TypedPlacesFrom Σ' m H (λ i. rename_image ρ (θ i)) (rename_spine ρ T) K
  typed_renamed [] θ nil star h = tt
  typed_renamed [] θ nil (kind_pi A K) h = absurd h
  typed_renamed [] θ (app M T) K h = absurd h
  typed_renamed (b ∷ m) θ nil K h = absurd h
  typed_renamed (b ∷ m) θ (app M T) star h = absurd h
  typed_renamed (true ∷ m) θ (app M T) (kind_pi A K) (t, h) = (
    subst (HasType Σ' H (rename ρ M)) (rename_substituted_type reduce reduction_is_natural ρ θ A) (renaming_keeps_typing Σ' ok' G H ρ M (substitute_type reduce θ A) r (extension_keeps_typing nothing Σ Σ' x G M (substitute_type reduce θ A) t)),
    subst (λ τ. TypedPlacesFrom Σ' m H τ (rename_spine ρ T) K) (fun_ext (front_renamed (skeleton A) M θ)) (typed_renamed m (in_front (put (skeleton A) M) θ) T K h),
  )
  typed_renamed (false ∷ m) θ (app M T) (kind_pi A K) h = subst (λ τ. TypedPlacesFrom Σ' m H τ (rename_spine ρ T) K) (fun_ext (front_renamed (skeleton A) M θ)) (typed_renamed m (in_front (put (skeleton A) M) θ) T K h)

-- Constants are moved by γ, which leaves those of Σ, and then variables renamed by ρ.
module _ (Σ Σ₁ : Signature) (ok₁ : IsSignature Σ₁) (x : Extends nothing Σ Σ₁) (γ : ℕ → ℕ) (old : (c : ℕ) → IsOld Σ c → γ c ≡ c) (types : (c : ℕ) (A : LfType) → Σ₁.types c ≡ Some A → Σ₁.types (γ c) ≡ Some (move_type γ A)) (kinds : (a : ℕ) (K : Kind) → Σ₁.kinds a ≡ Some K → Σ₁.kinds a ≡ Some (move_kind γ K)) (G H : List LfType) (ρ : ℕ → ℕ) (r : IsTypedRenaming (move_types γ G) H ρ) where
  abbrev turned : Term → Term
  turned M = rename ρ (move γ M)

  abbrev turned_image : Image → Image
  turned_image y = rename_image ρ (move_image γ y)

  no_arrow : (a b : Skeleton) (k : ℕ) → arrow a b ≡ base k → ⊥
  no_arrow a b k e = absurd cc

  pub turned_arguments : (V : ℕ → Bool) (Γ : List LfType) (θ τ : ℕ → Image) (Ms : List (Option Term)) (T S : Spine) (K : Kind) → IsKind Σ Γ K → MentionChosenOnly V (covered_places Ms) K → TypedPlacesFrom Σ₁ (covered_places Ms) G θ T K → ArePlaces Ms T → SubstitutionBySkeletons (constant_skeletons Σ₁) (context_skeletons Γ) (context_skeletons H) τ → SameOn V τ (λ i. turned_image (θ i)) → SpineSkeleton (constant_skeletons Σ₁) (context_skeletons H) S (kind_skeleton 0 K) (base 0) → TypedArguments Σ₁ H (rename_all ρ (move_all γ Ms)) S (substitute_kind reduce τ K)
  turned_arguments V Γ θ τ [] T nil star k m t a s e q = tt
  turned_arguments V Γ θ τ [] T (app N S) star k m t a s e q = absurd q
  turned_arguments V Γ θ τ [] T S (kind_pi A K) k m t a s e q = absurd m
  turned_arguments V Γ θ τ (Some M ∷ Ms) nil S K k m t a s e q = absurd a
  turned_arguments V Γ θ τ (None ∷ Ms) nil S K k m t a s e q = absurd a
  turned_arguments V Γ θ τ (Some M ∷ Ms) (app N T) S star k m t a s e q = absurd m
  turned_arguments V Γ θ τ (None ∷ Ms) (app N T) S star k m t a s e q = absurd m
  turned_arguments V Γ θ τ (Some M ∷ Ms) (app N T) nil (kind_pi A K) k m t a s e q = absurd (no_arrow (skeleton A) (kind_skeleton 0 K) 0 q)
  turned_arguments V Γ θ τ (None ∷ Ms) (app N T) nil (kind_pi A K) k m t a s e q = absurd (no_arrow (skeleton A) (kind_skeleton 0 K) 0 q)
  turned_arguments V Γ θ τ (Some M ∷ Ms) (app N T) (app R S) (kind_pi A K) (ka, kk) (u, m) (n, t) (w, a) s e (qr, q) =
      let P : Term = turned M in
      let type : rename_type ρ (move_type γ (substitute_type reduce θ A)) ≡ substitute_type reduce τ A =
      ap (rename_type ρ) (move_type_substituted γ θ A ∙ ap (substitute_type reduce (λ i. move_image γ (θ i))) (same_old Σ γ Γ A old ka))
      ∙ rename_substituted_type reduce reduction_is_natural ρ (λ i. move_image γ (θ i)) A
      ∙ sym (agree_on_type reduce V τ (λ i. turned_image (θ i)) A e u) in
      let moved : HasType Σ₁ (move_types γ G) (move γ N) (move_type γ (substitute_type reduce θ A)) = moved_typed γ Σ₁ Σ₁ types kinds G N (substitute_type reduce θ A) n in
      let pt : HasType Σ₁ H P (substitute_type reduce τ A) = subst (λ M. HasType Σ₁ H (turned M) (substitute_type reduce τ A)) (sym w) (subst (HasType Σ₁ H (turned N)) type (renaming_keeps_typing Σ₁ ok₁ (move_types γ G) H ρ (move γ N) (move_type γ (substitute_type reduce θ A)) r moved)) in
      let pk : TermSkeleton (constant_skeletons Σ₁) (context_skeletons H) P (skeleton A) = subst (TermSkeleton (constant_skeletons Σ₁) (context_skeletons H) P) (skeleton_substituted reduce τ A) (typed_has_skeleton Σ₁ H P (substitute_type reduce τ A) pt) in (
        pt,
        subst (TypedArguments Σ₁ H (rename_all ρ (move_all γ Ms)) S) (sym (kind_front (constant_skeletons Σ₁) (family_skeletons Σ₁) (context_skeletons Γ) (context_skeletons H) τ A P K s pk (kind_by_skeletons Σ₁ (A ∷ Γ) K (growth_keeps_kinds Σ Σ₁ x.types_stay x.kinds_stay (A ∷ Γ) K kk))))
            (turned_arguments (under V) (A ∷ Γ) (in_front (put (skeleton A) N) θ) (in_front (put (skeleton A) P) τ) Ms T S K kk m t a (front_fits (constant_skeletons Σ₁) (context_skeletons Γ) (context_skeletons H) (skeleton A) P τ pk s) same q),
      )
    where
      same : SameOn (under V) (in_front (put (skeleton A) (turned M)) τ) (λ i. turned_image (in_front (put (skeleton A) N) θ i))
      same zero v = ap (λ M. put (skeleton A) (turned M)) w
      same (suc i) v = e i v
  turned_arguments V Γ θ τ (None ∷ Ms) (app N T) (app R S) (kind_pi A K) (ka, kk) m t a s e (qr, q) =
      subst (TypedArguments Σ₁ H (rename_all ρ (move_all γ Ms)) S) (sym (kind_front (constant_skeletons Σ₁) (family_skeletons Σ₁) (context_skeletons Γ) (context_skeletons H) τ A R K s qr (kind_by_skeletons Σ₁ (A ∷ Γ) K (growth_keeps_kinds Σ Σ₁ x.types_stay x.kinds_stay (A ∷ Γ) K kk))))
      (turned_arguments (hide V) (A ∷ Γ) (in_front (put (skeleton A) N) θ) (in_front (put (skeleton A) R) τ) Ms T S K kk m t a (front_fits (constant_skeletons Σ₁) (context_skeletons Γ) (context_skeletons H) (skeleton A) R τ qr s) same q)
    where
      same : SameOn (hide V) (in_front (put (skeleton A) R) τ) (λ i. turned_image (in_front (put (skeleton A) N) θ i))
      same zero v = absurd cc
      same (suc i) v = e i v
