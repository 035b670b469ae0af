-- One hereditary substitution after another is their composite, on skeleton-typed terms.
use Rattle.std.proofs.Common.{◌≡◌, ℕ, zero, suc, List, ◌∷◌, refl, sym, ap, ap₂, ◌∙◌, subst}
use mathlib.Core.Path.{fun_ext}
use Rattle.lf.specs.Syntax.{constant, variable, metavariable, Term, Spine, lambda, root, nil, app, Skeleton, base, arrow}
use Rattle.lf.specs.Substitution.{Image, keep, put, rename_image, lift, single, apply_image, substitute, substitute_spine, reduce, substitute_image, after}
use Rattle.lf.specs.SkeletonTyping.{HeadSkeletons, TermSkeleton, SpineSkeleton, ImageSkeleton, SubstitutionBySkeletons}
use Rattle.lf.proofs.Renaming.{substitute_weakened, lifted_substitution_weakened, reduction_is_natural, OnPut, Puts, Puts-lift, Puts-single, OnPut-all, OnPut-map, reduction_beta}
use Rattle.lf.proofs.SkeletonTyping.{substitution_keeps_skeletons, substitution_keeps_spine_skeletons, lift_by_skeletons, single_by_skeletons}

after_lift_image : (τ : ℕ → Image) (x : Image) → rename_image suc (substitute_image τ x) ≡ substitute_image (lift τ) (rename_image suc x)
after_lift_image τ (keep j) = refl
after_lift_image τ (put a N) = ap (put a) (sym (lifted_substitution_weakened reduce reduction_is_natural τ N))

pub after_lift : (τ σ : ℕ → Image) (i : ℕ) → lift (after τ σ) i ≡ after (lift τ) (lift σ) i
after_lift τ σ zero = refl
after_lift τ σ (suc i) = after_lift_image τ (σ i)

-- the two ways round a single substitution
pub around_image : (a : Skeleton) (N : Term) (x : Image) → x ≡ substitute_image (single a N) (rename_image suc x)
around_image a N (keep k) = refl
around_image a N (put b P) = ap (put b) (sym (substitute_weakened reduce a N P))

around : (τ : ℕ → Image) (a : Skeleton) (N : Term) (i : ℕ) → after τ (single a N) i ≡ after (single a (substitute reduce τ N)) (lift τ) i
around τ a N zero = refl
around τ a N (suc j) = around_image a (substitute reduce τ N) (τ j)

module _ (κ : HeadSkeletons) where
  -- a substitution that puts terms in at the skeletons of Q only goes through `reduce` at a
  abbrev pub Through : (Skeleton → Type 0) → Skeleton → Type 0
  Through Q a = (Γ Δ : List Skeleton) (τ : ℕ → Image) (N : Term) (S : Spine) (u : Skeleton) → Puts Q τ → SubstitutionBySkeletons κ Γ Δ τ → TermSkeleton κ Γ N a → SpineSkeleton κ Γ S a u → substitute reduce τ (reduce a N S) ≡ reduce a (substitute reduce τ N) (substitute_spine reduce τ S)

  compose_plug : (Q : Skeleton → Type 0) (Γ Δ : List Skeleton) (τ : ℕ → Image) (x : Image) (S S' : Spine) (t u : Skeleton) → OnPut (Through Q) x → Puts Q τ → SubstitutionBySkeletons κ Γ Δ τ → ImageSkeleton κ Γ x t → SpineSkeleton κ Γ S t u → substitute_spine reduce τ S ≡ S' → substitute reduce τ (apply_image reduce x S) ≡ apply_image reduce (substitute_image τ x) S'
  compose_plug Q Γ Δ τ (keep j) S S' t u k q w v s e = ap (apply_image reduce (τ j)) e
  compose_plug Q Γ Δ τ (put a N) S S' t u k q w (f, n) s e = k Γ Δ τ N S u q w n (subst (λ z. SpineSkeleton κ Γ S z u) (sym f) s) ∙ ap (reduce a (substitute reduce τ N)) e

  mutual
    comp' : (Q : Skeleton → Type 0) (Γ Γ' Δ : List Skeleton) (σ τ : ℕ → Image) (M : Term) (t : Skeleton) → Puts (Through Q) σ → Puts Q τ → SubstitutionBySkeletons κ Γ Γ' σ → SubstitutionBySkeletons κ Γ' Δ τ → TermSkeleton κ Γ M t → substitute reduce τ (substitute reduce σ M) ≡ substitute reduce (after τ σ) M
    comp' Q Γ Γ' Δ σ τ (lambda M) (arrow c d) k q v w m = ap lambda (comp' Q (c ∷ Γ) (c ∷ Γ') (c ∷ Δ) (lift σ) (lift τ) M d (Puts-lift (Through Q) σ k) (Puts-lift Q τ q) (lift_by_skeletons κ c Γ Γ' σ v) (lift_by_skeletons κ c Γ' Δ τ w) m ∙ ap (λ f. substitute reduce f M) (sym (fun_ext (after_lift τ σ))))
    comp' Q Γ Γ' Δ σ τ (lambda M) (base c) k q v w m = absurd m
    comp' Q Γ Γ' Δ σ τ (root h S) (arrow c d) k q v w m = absurd m
    comp' Q Γ Γ' Δ σ τ (root (constant c) S) (base d) k q v w (t, g, s) = ap (root (constant c)) (compose_spine' Q Γ Γ' Δ σ τ S t (base d) k q v w s)
    comp' Q Γ Γ' Δ σ τ (root (metavariable c) S) (base d) k q v w (t, g, s) = ap (root (metavariable c)) (compose_spine' Q Γ Γ' Δ σ τ S t (base d) k q v w s)
    comp' Q Γ Γ' Δ σ τ (root (variable i) S) (base d) k q v w (t, g, s) = compose_plug Q Γ' Δ τ (σ i) (substitute_spine reduce σ S) (substitute_spine reduce (after τ σ) S) t (base d) (k i) q w (v i t g) (substitution_keeps_spine_skeletons κ Γ Γ' σ S t (base d) v s) (compose_spine' Q Γ Γ' Δ σ τ S t (base d) k q v w s)

    compose_spine' : (Q : Skeleton → Type 0) (Γ Γ' Δ : List Skeleton) (σ τ : ℕ → Image) (S : Spine) (t u : Skeleton) → Puts (Through Q) σ → Puts Q τ → SubstitutionBySkeletons κ Γ Γ' σ → SubstitutionBySkeletons κ Γ' Δ τ → SpineSkeleton κ Γ S t u → substitute_spine reduce τ (substitute_spine reduce σ S) ≡ substitute_spine reduce (after τ σ) S
    compose_spine' Q Γ Γ' Δ σ τ nil t u k q v w m = refl
    compose_spine' Q Γ Γ' Δ σ τ (app M S) (arrow c d) u k q v w (m, s) = ap₂ app (comp' Q Γ Γ' Δ σ τ M c k q v w m) (compose_spine' Q Γ Γ' Δ σ τ S d u k q v w s)
    compose_spine' Q Γ Γ' Δ σ τ (app M S) (base c) u k q v w m = absurd m

  -- the substitutions at one skeleton
  abbrev Only : Skeleton → Skeleton → Type 0
  Only b c = c ≡ b

  swap_single : (Q : Skeleton → Type 0) (a : Skeleton) → Through Q a → ((c : Skeleton) → Q c → Through (Only a) c) → (Γ Δ : List Skeleton) (τ : ℕ → Image) (N M : Term) (t : Skeleton) → Puts Q τ → SubstitutionBySkeletons κ Γ Δ τ → TermSkeleton κ Γ N a → TermSkeleton κ (a ∷ Γ) M t → substitute reduce τ (substitute reduce (single a N) M) ≡ substitute reduce (single a (substitute reduce τ N)) (substitute reduce (lift τ) M)
  swap_single Q a k l Γ Δ τ N M t q w n m =
      comp' Q (a ∷ Γ) Γ Δ (single a N) τ M t (Puts-single (Through Q) a N k) q (single_by_skeletons κ a Γ N n) w m
      ∙ ap (λ f. substitute reduce f M) (fun_ext (around τ a N))
      ∙ sym (comp' (Only a) (a ∷ Γ) (a ∷ Δ) Δ (lift τ) (single a (substitute reduce τ N)) M t (Puts-lift (Through (Only a)) τ (λ i. OnPut-map Q (Through (Only a)) l (τ i) (q i))) (Puts-single (Only a) a (substitute reduce τ N) refl) (lift_by_skeletons κ a Γ Δ τ w) (single_by_skeletons κ a Δ (substitute reduce τ N) (substitution_keeps_skeletons κ Γ Δ τ N a w n)) m)

  through_base : (Q : Skeleton → Type 0) (c : ℕ) → Through Q (base c)
  through_base Q c Γ Δ τ N S u q w n s = refl

  through_arrow : (Q : Skeleton → Type 0) (a b : Skeleton) → Through Q a → ((c : Skeleton) → Q c → Through (Only a) c) → Through Q b → Through Q (arrow a b)
  through_arrow Q a b k l k' Γ Δ τ (root h T) S u q w n s = absurd n
  through_arrow Q a b k l k' Γ Δ τ (lambda M) nil u q w n s = refl
  through_arrow Q a b k l k' Γ Δ τ (lambda M) (app N S) u q w n (m, s) =
      ap (substitute reduce τ) (reduction_beta a b M N S)
      ∙ k' Γ Δ τ (substitute reduce (single a N) M) S u q w (substitution_keeps_skeletons κ (a ∷ Γ) Γ (single a N) M b (single_by_skeletons κ a Γ N m) n) s
      ∙ ap (λ z. reduce b z (substitute_spine reduce τ S)) (swap_single Q a k l Γ Δ τ N M b q w m n)
      ∙ sym (reduction_beta a b (substitute reduce (lift τ) M) (substitute reduce τ N) (substitute_spine reduce τ S))

  -- at one skeleton, both ways at once, by recursion on both skeletons
  abbrev Both : Skeleton → Skeleton → Type 0
  Both a b = Through (Only b) a × Through (Only a) b

  only : (a b : Skeleton) → Through (Only a) b → (c : Skeleton) → Only b c → Through (Only a) c
  only a b h c e = subst (Through (Only a)) (sym e) h

  both_arrow : (a₁ a₂ : Skeleton) → ((b : Skeleton) → Both a₁ b) → ((b : Skeleton) → Both a₂ b) → (b : Skeleton) → Both (arrow a₁ a₂) b
  both_arrow a₁ a₂ h₁ h₂ (base c) = (through_arrow (Only (base c)) a₁ a₂ (h₁ (base c)).0 (only a₁ (base c) (h₁ (base c)).1) (h₂ (base c)).0, through_base (Only (arrow a₁ a₂)) c)
  both_arrow a₁ a₂ h₁ h₂ (arrow b₁ b₂) =
      let a = arrow a₁ a₂ in let b = arrow b₁ b₂ in
      let ih₁ : Both a b₁ = both_arrow a₁ a₂ h₁ h₂ b₁ in
      let ih₂ : Both a b₂ = both_arrow a₁ a₂ h₁ h₂ b₂ in
      (through_arrow (Only b) a₁ a₂ (h₁ b).0 (only a₁ b (h₁ b).1) (h₂ b).0, through_arrow (Only a) b₁ b₂ ih₁.1 (only b₁ a ih₁.0) ih₂.1)

  both_base : (c : ℕ) (b : Skeleton) → Both (base c) b
  both_base c (base d) = (through_base (Only (base d)) c, through_base (Only (base c)) d)
  both_base c (arrow b₁ b₂) =
      let ih₁ : Both (base c) b₁ = both_base c b₁ in
      let ih₂ : Both (base c) b₂ = both_base c b₂ in
      (through_base (Only (arrow b₁ b₂)) c, through_arrow (Only (base c)) b₁ b₂ ih₁.1 (only b₁ (base c) ih₁.0) ih₂.1)

  both : (a b : Skeleton) → Both a b
  both (base c) b = both_base c b
  both (arrow a₁ a₂) b = both_arrow a₁ a₂ (both a₁) (both a₂) b

  abbrev Any : Skeleton → Type 0
  Any c = Unit {0}

  through_any : (a : Skeleton) → Through Any a
  through_any (base c) = through_base Any c
  through_any (arrow a b) = through_arrow Any a b (through_any a) (λ c h. (both c a).0) (through_any b)

  any : (x : Image) → OnPut Any x
  any x = OnPut-all Any (λ c. tt) x

  -- THE composition
  pub substitutions_compose : (Γ Γ' Δ : List Skeleton) (σ τ : ℕ → Image) (M : Term) (t : Skeleton) → SubstitutionBySkeletons κ Γ Γ' σ → SubstitutionBySkeletons κ Γ' Δ τ → TermSkeleton κ Γ M t → substitute reduce τ (substitute reduce σ M) ≡ substitute reduce (after τ σ) M
  substitutions_compose Γ Γ' Δ σ τ M t = comp' Any Γ Γ' Δ σ τ M t (λ i. OnPut-all (Through Any) through_any (σ i)) (λ i. any (τ i))

  pub substitutions_compose_spine : (Γ Γ' Δ : List Skeleton) (σ τ : ℕ → Image) (S : Spine) (t u : Skeleton) → SubstitutionBySkeletons κ Γ Γ' σ → SubstitutionBySkeletons κ Γ' Δ τ → SpineSkeleton κ Γ S t u → substitute_spine reduce τ (substitute_spine reduce σ S) ≡ substitute_spine reduce (after τ σ) S
  substitutions_compose_spine Γ Γ' Δ σ τ S t u = compose_spine' Any Γ Γ' Δ σ τ S t u (λ i. OnPut-all (Through Any) through_any (σ i)) (λ i. any (τ i))

  pub substitute_reduction : (Γ Δ : List Skeleton) (τ : ℕ → Image) (a : Skeleton) (N : Term) (S : Spine) (u : Skeleton) → SubstitutionBySkeletons κ Γ Δ τ → TermSkeleton κ Γ N a → SpineSkeleton κ Γ S a u → substitute reduce τ (reduce a N S) ≡ reduce a (substitute reduce τ N) (substitute_spine reduce τ S)
  substitute_reduction Γ Δ τ a N S u w n s = through_any a Γ Δ τ N S u (λ i. any (τ i)) w n s

pub around_all : (τ : ℕ → Image) (a : Skeleton) (N : Term) → after τ (single a N) ≡ after (single a (substitute reduce τ N)) (lift τ)
around_all τ a N = fun_ext (around τ a N)

module _ (κ : HeadSkeletons) where
  -- a substitution goes through the substitution for the newest variable
  pub substitute_single : (Γ Δ : List Skeleton) (τ : ℕ → Image) (a : Skeleton) (N M : Term) (t : Skeleton) → SubstitutionBySkeletons κ Γ Δ τ → TermSkeleton κ Γ N a → TermSkeleton κ (a ∷ Γ) M t → substitute reduce τ (substitute reduce (single a N) M) ≡ substitute reduce (single a (substitute reduce τ N)) (substitute reduce (lift τ) M)
  substitute_single Γ Δ τ a N M t w n m =
      substitutions_compose κ (a ∷ Γ) Γ Δ (single a N) τ M t (single_by_skeletons κ a Γ N n) w m
      ∙ ap (λ f. substitute reduce f M) (around_all τ a N)
      ∙ sym (substitutions_compose κ (a ∷ Γ) (a ∷ Δ) Δ (lift τ) (single a (substitute reduce τ N)) M t (lift_by_skeletons κ a Γ Δ τ w) (single_by_skeletons κ a Δ (substitute reduce τ N) (substitution_keeps_skeletons κ Γ Δ τ N a w n)) m)
