-- A term against its type.
use Rattle.std.proofs.Common.{◌≡◌, ℕ, ◌<◌, ◌↔◌, List, ◌∷◌, ◌⊎◌, inl, inr, subst}
use Rattle.lf.specs.Syntax.{Head, Term, Spine, lambda, root, nil, app, LfType, pi, atom, Kind, kind_pi, star}
use Rattle.lf.specs.Depth.{depth, depth_limit, type_depth, kind_depth}
use Rattle.lf.specs.DeepTyping.{TypingReachesDeep, SpineReachesDeep, TypeReachesDeep, KindReachesDeep}
use Rattle.lf.specs.Typing.{Signature, HeadHasType, HasType, SpineType}
use Rattle.lf.proofs.Decidability.{head_unique}
use Rattle.tw_kernel.specs.Outcome.{Blames}
use Rattle.tw_kernel.specs.declared.fault.Fault.{Fault}
use Rattle.tw_kernel.proofs.Spines.{blames_map}

module _ (Σ : Signature) (G : List LfType) where
  pub lambda_refused : (f : Fault) (M : Term) (A B : LfType) → Blames f (HasType Σ (A ∷ G) M B) (TypingReachesDeep depth_limit Σ (A ∷ G) M B)
      → Blames f (HasType Σ G (lambda M) (pi A B)) (TypingReachesDeep depth_limit Σ G (lambda M) (pi A B))
  lambda_refused f M A B = blames_map f _ _ _ _ (λ m. m) (λ d. inr (inr d))

  -- a type that is too deep is reached by each spine against it
  deep_at_once : (S : Spine) (A : LfType) → depth_limit < type_depth A → SpineReachesDeep depth_limit Σ G S A
  deep_at_once nil A h = h
  deep_at_once (app M S) (pi A B) h = inl h
  deep_at_once (app M S) (atom a T) h = h

  pub head_refused : (f : Fault) (h : Head) (S : Spine) (a : ℕ) (T : Spine) → Blames f ((A : LfType) × HeadHasType Σ G h A) ((A : LfType) × HeadHasType Σ G h A × (depth_limit < type_depth A))
      → Blames f (HasType Σ G (root h S) (atom a T)) (TypingReachesDeep depth_limit Σ G (root h S) (atom a T))
  head_refused f h S a T = blames_map f _ _ _ _ (λ (A, g, s). (A, g)) (λ (A, g, d). inr (inr (A, g, deep_at_once S A d)))

  move : (h : Head) (S : Spine) (A C : LfType) → HeadHasType Σ G h A → (B : LfType) × HeadHasType Σ G h B × SpineType Σ G S B C → SpineType Σ G S A C
  move h S A C g (B, k, s) = subst (λ X. SpineType Σ G S X C) (head_unique Σ G h B A k g) s

  pub spine_refused : (f : Fault) (h : Head) (S : Spine) (A : LfType) (a : ℕ) (T : Spine) → HeadHasType Σ G h A → Blames f ((C : LfType) × SpineType Σ G S A C) (SpineReachesDeep depth_limit Σ G S A)
      → Blames f (HasType Σ G (root h S) (atom a T)) (TypingReachesDeep depth_limit Σ G (root h S) (atom a T))
  spine_refused f h S A a T g = blames_map f _ _ _ _ (λ m. (atom a T, move h S A (atom a T) g m)) (λ d. inr (inr (A, g, d)))

  pub root_typed : (h : Head) (S : Spine) (A B : LfType) (a : ℕ) (T : Spine) → HeadHasType Σ G h A → ((C : LfType) → SpineType Σ G S A C ↔ (B ≡ C)) → B ≡ atom a T → HasType Σ G (root h S) (atom a T)
  root_typed h S A B a T g s e = (A, g, (s (atom a T)).1 e)

  pub root_refused : (h : Head) (S : Spine) (A B : LfType) (a : ℕ) (T : Spine) → HeadHasType Σ G h A → ((C : LfType) → SpineType Σ G S A C ↔ (B ≡ C)) → (B ≡ atom a T → ⊥) → HasType Σ G (root h S) (atom a T) → ⊥
  root_refused h S A B a T g s n m = n ((s (atom a T)).0 (move h S A (atom a T) g m))

-- what is too deep itself
pub deep_typing : (Σ : Signature) (G : List LfType) (M : Term) (A : LfType) → (depth_limit < depth M) ⊎ (depth_limit < type_depth A) → TypingReachesDeep depth_limit Σ G M A
deep_typing Σ G (lambda M) (pi A B) (inl h) = inl h
deep_typing Σ G (lambda M) (pi A B) (inr h) = inr (inl h)
deep_typing Σ G (lambda M) (atom a T) h = h
deep_typing Σ G (root k S) (pi A B) h = h
deep_typing Σ G (root k S) (atom a T) (inl h) = inl h
deep_typing Σ G (root k S) (atom a T) (inr h) = inr (inl h)

pub deep_type : (Σ : Signature) (G : List LfType) (A : LfType) → depth_limit < type_depth A → TypeReachesDeep depth_limit Σ G A
deep_type Σ G (pi A B) h = inl h
deep_type Σ G (atom a T) h = inl h

pub deep_kind : (Σ : Signature) (G : List LfType) (K : Kind) → depth_limit < kind_depth K → KindReachesDeep depth_limit Σ G K
deep_kind Σ G (kind_pi A K) h = inl h
deep_kind Σ G star h = h
