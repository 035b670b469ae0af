-- The eta-long form of a head has the head's type.
use Rattle.std.proofs.Common.{◌≡◌, zero, suc, List, ◌∷◌, refl, sym, ◌∙◌, subst}
use Rattle.lf.specs.Syntax.{Head, variable, Term, Spine, nil, app, LfType, pi, atom, Skeleton, base, arrow, skeleton, lift_renaming, rename_head, rename_spine, rename_type, weaken}
use Rattle.lf.specs.Typing.{Signature, HeadHasType, instantiate_type, HasType, SpineType, IsType, IsContext, IsSignature}
use Rattle.lf.specs.Eta.{add_last, eta_expand, eta_long}
use Rattle.lf.proofs.TypeLaws.{skeleton_renamed}
use Rattle.lf.proofs.Weakening.{HeadHasType-renamed, renaming_keeps_spine_typing, weakening_renames}
use Rattle.lf.proofs.EtaTypes.{SameForm, put_back, IsType-weakened}
use Rattle.lf.proofs.Regular.{head_type}

same_form : (a : Skeleton) → SameForm a a
same_form (base c) = tt
same_form (arrow a b) = (same_form a, same_form b)

module _ (Σ : Signature) (ok : IsSignature Σ) where
  SpineType-add_last : (G : List LfType) (S : Spine) (N : Term) (Y P Q : LfType) → SpineType Σ G S Y (pi P Q) → HasType Σ G N P → SpineType Σ G (add_last S N) Y (instantiate_type P N Q)
  SpineType-add_last G nil N Y P Q s n = subst (λ X. SpineType Σ G (app N nil) X (instantiate_type P N Q)) (sym s) (n, refl)
  SpineType-add_last G (app M S) N (pi A B) P Q (m, s) n = (m, SpineType-add_last G S N (instantiate_type A M B) P Q s n)
  SpineType-add_last G (app M S) N (atom a T) P Q s n = absurd s

  pub eta_expand_has_type : (a : Skeleton) (C : List LfType) (h : Head) (S : Spine) (Y A : LfType) → IsContext Σ C → skeleton A ≡ a → IsType Σ C A → HeadHasType Σ C h Y → SpineType Σ C S Y A → HasType Σ C (eta_expand a h S) A
  eta_expand_has_type (base c) C h S Y (atom b T) cx e t g s = (Y, g, s)
  eta_expand_has_type (base c) C h S Y (pi A B) cx e t g s = absurd (cc)
  eta_expand_has_type (arrow a b) C h S Y (atom c T) cx e t g s = absurd (cc)
  eta_expand_has_type (arrow a b) C h S Y (pi A B) cx e (t, u) g s =
      let p : skeleton A ≡ a = cc in
      let q : skeleton B ≡ b = cc in
      let D : List LfType = A ∷ C in
      let X : Term = eta_long a (variable zero) in
      let x : HasType Σ D X (weaken A) = eta_expand_has_type a D (variable zero) nil (weaken A) (weaken A) (cx, t) (skeleton_renamed suc A ∙ p) (IsType-weakened Σ ok C A A t) refl refl in
      let r : SpineType Σ D (rename_spine suc S) (weaken Y) (pi (weaken A) (rename_type (lift_renaming suc) B)) = renaming_keeps_spine_typing Σ ok C D suc S Y (pi A B) (weakening_renames C A) s in
      let v : SpineType Σ D (add_last (rename_spine suc S) X) (weaken Y) B = subst (SpineType Σ D (add_last (rename_spine suc S) X) (weaken Y)) (put_back Σ ok a C A B u (subst (SameForm a) (sym p) (same_form a))) (SpineType-add_last D (rename_spine suc S) X (weaken Y) (weaken A) (rename_type (lift_renaming suc) B) r x) in
      eta_expand_has_type b D (rename_head suc h) (add_last (rename_spine suc S) X) (weaken Y) B (cx, t) q u (HeadHasType-renamed Σ ok C D suc h Y (weakening_renames C A) g) v

  -- THE typing
  pub eta_long_has_type : (G : List LfType) (h : Head) (A : LfType) → IsContext Σ G → HeadHasType Σ G h A → HasType Σ G (eta_long (skeleton A) h) A
  eta_long_has_type G h A cx g = eta_expand_has_type (skeleton A) G h nil A A cx refl (head_type Σ ok G h A cx g) g refl
