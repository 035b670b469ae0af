-- Terms on own terms, with block variables that are one: the constants are moved, and a substitution, or a filling, makes the terms of those that are one the same.
use Rattle.std.proofs.Common.{◌≡◌, ℕ, zero, suc, List, [], ◌∷◌, length, Option, Some, None, refl, sym, ap, ◌∙◌, subst}
use Rattle.lf.specs.Syntax.{constant, variable, metavariable, Term, Spine, lambda, root, nil, app, LfType, pi, atom, Skeleton}
use Rattle.lf.specs.Eta.{append}
use Rattle.lf.specs.Substitution.{Image, keep, put, lift, substitute, substitute_image, substitute_spine, reduce}
use Rattle.lf.proofs.Renaming.{Puts, Puts-lift, OnPut-all}
use Rattle.lf_unification.specs.Filling.{moved}
use Rattle.lf_unification.specs.OpenTyping.{under_locals}
use Rattle.lf_coverage.specs.SplitStore.{open_variable, open_term, open_spine, open_type}
use Rattle.lf_numbered.specs.NumberedInstance.{move, move_spine, move_type}
use Rattle.lf_numbered.specs.OwnTerms.{weaken_own, BeginsWith, OnOwnTerms, SpineOnOwnTerms, TypeOnOwnTerms, ImageOnOwnTerms}
use Rattle.lf_numbered.specs.TypedNumbered.{own_over}
use Rattle.lf_numbered.specs.WritingRoom.{move_image}
use Rattle.lf_numbered.proofs.OwnStoresOpened.{filled_own, filled_under, open_append}
use Rattle.lf_numbered.proofs.OwnStoresTerms.{BeginsUpTo, IsFlexible, Owned, SpineOwned, TypeOwned, at_head, flexible_renamed}
use Rattle.lf_numbered.proofs.OwnTerms.{RedOwn, substitute_own, substitute_append, substitute_under, plug_own, reduce_own, images_under}
use Rattle.lf_numbered.proofs.WritingMove.{move_spine_renamed}

-- own terms with other constants
abbrev pub move_own : (ℕ → ℕ) → Option Spine → Option Spine
move_own γ None = None
move_own γ (Some U) = Some (move_spine γ U)

pub move_under : (γ : ℕ → ℕ) (u : Option Spine) → weaken_own (move_own γ u) ≡ move_own γ (weaken_own u)
move_under γ None = refl
move_under γ (Some U) = ap Some (sym (move_spine_renamed γ suc U))

move_append : (γ : ℕ → ℕ) (U T : Spine) → move_spine γ (append U T) ≡ append (move_spine γ U) (move_spine γ T)
move_append γ nil T = refl
move_append γ (app M U) T = ap (app (move γ M)) (move_append γ U T)

begins_put : (γ : ℕ → ℕ) (σ : ℕ → Image) (u : Option Spine) (S : Spine) → BeginsWith u S → BeginsWith (substitute_own σ (move_own γ u)) (substitute_spine reduce σ (move_spine γ S))
begins_put γ σ None S b = tt
begins_put γ σ (Some U) S (T, e) = (substitute_spine reduce σ (move_spine γ T), ap (λ V. substitute_spine reduce σ (move_spine γ V)) e ∙ ap (substitute_spine reduce σ) (move_append γ U T) ∙ substitute_append σ (move_spine γ U) (move_spine γ T))

under_put : (γ : ℕ → ℕ) (σ : ℕ → Image) (u w : Option Spine) → w ≡ substitute_own σ (move_own γ u) → weaken_own w ≡ substitute_own (lift σ) (move_own γ (weaken_own u))
under_put γ σ u w e = ap weaken_own e ∙ substitute_under σ (move_own γ u) ∙ ap (substitute_own (lift σ)) (move_under γ u)

-- with values put in
mutual
  put_moved : (γ : ℕ → ℕ) (o o' : ℕ → Option Spine) (σ : ℕ → Image) (M : Term) → Puts RedOwn σ → ((c : ℕ) → o' (γ c) ≡ substitute_own σ (move_own γ (o c))) → ((i : ℕ) → ImageOnOwnTerms o' (σ i)) → OnOwnTerms o M → OnOwnTerms o' (substitute reduce σ (move γ M))
  put_moved γ o o' σ (lambda M) k h v m = put_moved γ (λ c. weaken_own (o c)) (λ c. weaken_own (o' c)) (lift σ) M (Puts-lift RedOwn σ k) (λ c. under_put γ σ (o c) (o' (γ c)) (h c)) (images_under o' σ v) m
  put_moved γ o o' σ (root (constant c) S) k h v (b, s) = (subst (λ u. BeginsWith u (substitute_spine reduce σ (move_spine γ S))) (sym (h c)) (begins_put γ σ (o c) S b), put_moved_spine γ o o' σ S k h v s)
  put_moved γ o o' σ (root (metavariable c) S) k h v s = put_moved_spine γ o o' σ S k h v s
  put_moved γ o o' σ (root (variable i) S) k h v s = plug_own o' (σ i) (substitute_spine reduce σ (move_spine γ S)) (k i) (v i) (put_moved_spine γ o o' σ S k h v s)

  put_moved_spine : (γ : ℕ → ℕ) (o o' : ℕ → Option Spine) (σ : ℕ → Image) (S : Spine) → Puts RedOwn σ → ((c : ℕ) → o' (γ c) ≡ substitute_own σ (move_own γ (o c))) → ((i : ℕ) → ImageOnOwnTerms o' (σ i)) → SpineOnOwnTerms o S → SpineOnOwnTerms o' (substitute_spine reduce σ (move_spine γ S))
  put_moved_spine γ o o' σ nil k h v s = s
  put_moved_spine γ o o' σ (app M S) k h v (m, s) = (put_moved γ o o' σ M k h v m, put_moved_spine γ o o' σ S k h v s)

pub spine_put_moved : (γ : ℕ → ℕ) (o o' : ℕ → Option Spine) (σ : ℕ → Image) (S : Spine) → ((c : ℕ) → o' (γ c) ≡ substitute_own σ (move_own γ (o c))) → ((i : ℕ) → ImageOnOwnTerms o' (σ i)) → SpineOnOwnTerms o S → SpineOnOwnTerms o' (substitute_spine reduce σ (move_spine γ S))
spine_put_moved γ o o' σ S = put_moved_spine γ o o' σ S (λ i. OnPut-all RedOwn reduce_own (σ i))

pub image_put_moved : (γ : ℕ → ℕ) (o o' : ℕ → Option Spine) (σ : ℕ → Image) (x : Image) → ((c : ℕ) → o' (γ c) ≡ substitute_own σ (move_own γ (o c))) → ((i : ℕ) → ImageOnOwnTerms o' (σ i)) → ImageOnOwnTerms o x → ImageOnOwnTerms o' (substitute_image σ (move_image γ x))
image_put_moved γ o o' σ (keep i) h v m = v i
image_put_moved γ o o' σ (put a N) h v m = put_moved γ o o' σ N (λ i. OnPut-all RedOwn reduce_own (σ i)) h v m

-- opened, and filled
module _ (μ : ℕ → Skeleton) (γ : ℕ → ℕ) where
  open_flexible : (k i : ℕ) → IsFlexible μ (open_variable k i)
  open_flexible zero i = tt
  open_flexible (suc k) zero = tt
  open_flexible (suc k) (suc i) = flexible_renamed μ suc (open_variable k i) (open_flexible k i)

  begins_opened : (k : ℕ) (β : ℕ → Option Term) (u v : Option Spine) (S : Spine) → v ≡ filled_own μ β k (move_own γ u) → BeginsWith u S → BeginsUpTo μ β v (open_spine k (move_spine γ S))
  begins_opened k β None v S e b = subst (λ z. BeginsUpTo μ β z (open_spine k (move_spine γ S))) (sym e) tt
  begins_opened k β (Some U) v S e (T, q) = subst (λ z. BeginsUpTo μ β z (open_spine k (move_spine γ S))) (sym e) (open_spine k (move_spine γ U), open_spine k (move_spine γ T), ap (λ V. open_spine k (move_spine γ V)) q ∙ ap (open_spine k) (move_append γ U T) ∙ open_append k (move_spine γ U) (move_spine γ T), refl)

  under_filled : (k : ℕ) (β : ℕ → Option Term) (u w : Option Spine) → w ≡ filled_own μ β k (move_own γ u) → weaken_own w ≡ filled_own μ (moved suc β) (suc k) (move_own γ (weaken_own u))
  under_filled k β u w e = ap weaken_own e ∙ filled_under μ β k (move_own γ u) ∙ ap (filled_own μ (moved suc β) (suc k)) (move_under γ u)

  mutual
    pub opened_moved : (k : ℕ) (o p : ℕ → Option Spine) (β : ℕ → Option Term) (M : Term) → ((c : ℕ) → p (γ c) ≡ filled_own μ β k (move_own γ (o c))) → OnOwnTerms o M → Owned μ p β (open_term k (move γ M))
    opened_moved k o p β (lambda M) h m = opened_moved (suc k) (λ c. weaken_own (o c)) (λ c. weaken_own (p c)) (moved suc β) M (λ c. under_filled k β (o c) (p (γ c)) (h c)) m
    opened_moved k o p β (root (constant c) S) h (b, s) = (begins_opened k β (o c) (p (γ c)) S (h c) b, spine_opened_moved k o p β S h s)
    opened_moved k o p β (root (variable i) S) h s = at_head μ p β (open_variable k i) (open_spine k (move_spine γ S)) (open_flexible k i) (spine_opened_moved k o p β S h s)
    opened_moved k o p β (root (metavariable m) S) h s = spine_opened_moved k o p β S h s

    pub spine_opened_moved : (k : ℕ) (o p : ℕ → Option Spine) (β : ℕ → Option Term) (S : Spine) → ((c : ℕ) → p (γ c) ≡ filled_own μ β k (move_own γ (o c))) → SpineOnOwnTerms o S → SpineOwned μ p β (open_spine k (move_spine γ S))
    spine_opened_moved k o p β nil h s = s
    spine_opened_moved k o p β (app M S) h (m, s) = (opened_moved k o p β M h m, spine_opened_moved k o p β S h s)

  pub type_opened_moved : (k : ℕ) (o p : ℕ → Option Spine) (β : ℕ → Option Term) (A : LfType) → ((c : ℕ) → p (γ c) ≡ filled_own μ β k (move_own γ (o c))) → TypeOnOwnTerms o A → TypeOwned μ p β (open_type k (move_type γ A))
  type_opened_moved k o p β (pi A B) h (a, b) = (type_opened_moved k o p β A h a, type_opened_moved (suc k) (λ c. weaken_own (o c)) (λ c. weaken_own (p c)) (moved suc β) B (λ c. under_filled k β (o c) (p (γ c)) (h c)) b)
  type_opened_moved k o p β (atom a S) h s = spine_opened_moved k o p β S h s

  -- under a local context
  pub filled_over_moved : (D E : List LfType) → length D ≡ length E → (o p : ℕ → Option Spine) (β : ℕ → Option Term) → ((c : ℕ) → p (γ c) ≡ filled_own μ β zero (move_own γ (o c))) → (c : ℕ) → own_over D p (γ c) ≡ filled_own μ (under_locals D β) (length E) (move_own γ (own_over E o c))
  filled_over_moved [] [] l o p β h c = h c
  filled_over_moved [] (B ∷ E) l o p β h c = absurd cc
  filled_over_moved (A ∷ D) [] l o p β h c = absurd cc
  filled_over_moved (A ∷ D) (B ∷ E) l o p β h c = under_filled (length E) (under_locals D β) (own_over E o c) (own_over D p (γ c)) (filled_over_moved D E (suc_same l) o p β h c)
    where
      suc_same : {m n : ℕ} → suc m ≡ suc n → m ≡ n
      suc_same e = cc
