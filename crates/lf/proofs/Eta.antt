-- A variable's eta-long form put in for a variable only renames it; a term put in for an eta-long variable is the term.
use Rattle.std.proofs.Common.{◌≡◌, ℕ, zero, suc, List, ◌∷◌, refl, sym, ap, ap₂, ◌∙◌, subst}
use Rattle.lf.specs.Syntax.{Head, constant, variable, metavariable, Term, Spine, lambda, root, nil, app, Skeleton, base, arrow, lift_renaming, rename_head, rename, rename_spine}
use Rattle.lf.specs.Substitution.{Image, keep, put, rename_image, lift, single, apply_image, substitute, substitute_spine, reduce}
use Rattle.lf.specs.SkeletonTyping.{HeadSkeletons, SkeletonAt, HeadSkeleton, TermSkeleton, SpineSkeleton, RenamingBySkeletons}
use Rattle.lf.proofs.SkeletonTyping.{renaming_by_skeletons_under_binder, renaming_keeps_skeletons, renaming_keeps_spine_skeletons, substitution_keeps_skeletons, single_by_skeletons, reduction_keeps_skeletons}
use Rattle.lf.proofs.TypeLaws.{substitution_as_renaming}
use Rattle.lf.specs.Eta.{add_last, eta_expand, eta_long, append}
use Rattle.lf.proofs.Renaming.{renamings_compose_spine, rename_substituted, reduction_is_natural, substitute_renamed, substitute_renamed_spine, substitute_identity, substitute_identity_spine, reduction_beta}

pub rename_add_last : (ρ : ℕ → ℕ) (S : Spine) (N : Term) → rename_spine ρ (add_last S N) ≡ add_last (rename_spine ρ S) (rename ρ N)
rename_add_last ρ nil N = refl
rename_add_last ρ (app M S) N = ap (app (rename ρ M)) (rename_add_last ρ S N)

substitute_add_last : (r : Skeleton → Term → Spine → Term) (σ : ℕ → Image) (S : Spine) (N : Term) → substitute_spine r σ (add_last S N) ≡ add_last (substitute_spine r σ S) (substitute r σ N)
substitute_add_last r σ nil N = refl
substitute_add_last r σ (app M S) N = ap (app (substitute r σ M)) (substitute_add_last r σ S N)

pub append_add_last : (S : Spine) (N : Term) (T : Spine) → append (add_last S N) T ≡ append S (app N T)
append_add_last nil N T = refl
append_add_last (app M S) N T = ap (app M) (append_add_last S N T)

pub append_nil : (S : Spine) → append S nil ≡ S
append_nil nil = refl
append_nil (app M S) = ap (app M) (append_nil S)

rename_up_head : (ρ : ℕ → ℕ) (h : Head) → rename_head (lift_renaming ρ) (rename_head suc h) ≡ rename_head suc (rename_head ρ h)
rename_up_head ρ (constant c) = refl
rename_up_head ρ (metavariable c) = refl
rename_up_head ρ (variable i) = refl

-- renaming goes through
pub rename_eta_expand : (ρ : ℕ → ℕ) (a : Skeleton) (h : Head) (S : Spine) → rename ρ (eta_expand a h S) ≡ eta_expand a (rename_head ρ h) (rename_spine ρ S)
rename_eta_expand ρ (base c) h S = refl
rename_eta_expand ρ (arrow a b) h S = ap lambda (rename_eta_expand (lift_renaming ρ) b (rename_head suc h) (add_last (rename_spine suc S) (eta_expand a (variable zero) nil)) ∙ ap₂ (eta_expand b) (rename_up_head ρ h) (rename_add_last (lift_renaming ρ) (rename_spine suc S) (eta_expand a (variable zero) nil) ∙ ap₂ add_last (renamings_compose_spine (lift_renaming ρ) suc S ∙ sym (renamings_compose_spine suc ρ S)) (rename_eta_expand (lift_renaming ρ) a (variable zero) nil)))

-- so does a substitution that keeps the head
abbrev KeepsHead : (ℕ → Image) → Head → Head → Type 0
KeepsHead σ (constant c) h' = h' ≡ constant c
KeepsHead σ (metavariable c) h' = h' ≡ metavariable c
KeepsHead σ (variable i) (variable j) = σ i ≡ keep j
KeepsHead σ (variable i) (constant c) = ⊥
KeepsHead σ (variable i) (metavariable c) = ⊥

KeepsHead-lift : (σ : ℕ → Image) (h h' : Head) → KeepsHead σ h h' → KeepsHead (lift σ) (rename_head suc h) (rename_head suc h')
KeepsHead-lift σ (constant c) h' e = ap (rename_head suc) e
KeepsHead-lift σ (metavariable c) h' e = ap (rename_head suc) e
KeepsHead-lift σ (variable i) (variable j) e = ap (rename_image suc) e
KeepsHead-lift σ (variable i) (constant c) e = e
KeepsHead-lift σ (variable i) (metavariable c) e = e

substitute_root : (σ : ℕ → Image) (h h' : Head) (S : Spine) → KeepsHead σ h h' → substitute reduce σ (root h S) ≡ root h' (substitute_spine reduce σ S)
substitute_root σ (constant c) h' S e = ap (λ x. root x (substitute_spine reduce σ S)) (sym e)
substitute_root σ (metavariable c) h' S e = ap (λ x. root x (substitute_spine reduce σ S)) (sym e)
substitute_root σ (variable i) (variable j) S e = ap (λ x. apply_image reduce x (substitute_spine reduce σ S)) e
substitute_root σ (variable i) (constant c) S e = absurd e
substitute_root σ (variable i) (metavariable c) S e = absurd e

substitute_lift_rename_spine : (σ : ℕ → Image) (S : Spine) → substitute_spine reduce (lift σ) (rename_spine suc S) ≡ rename_spine suc (substitute_spine reduce σ S)
substitute_lift_rename_spine σ nil = refl
substitute_lift_rename_spine σ (app M S) = ap₂ app (Rattle.lf.proofs.Renaming.lifted_substitution_weakened reduce reduction_is_natural σ M) (substitute_lift_rename_spine σ S)

pub substitute_eta_expand : (σ : ℕ → Image) (a : Skeleton) (h h' : Head) (S : Spine) → KeepsHead σ h h' → substitute reduce σ (eta_expand a h S) ≡ eta_expand a h' (substitute_spine reduce σ S)
substitute_eta_expand σ (base c) h h' S e = substitute_root σ h h' S e
substitute_eta_expand σ (arrow a b) h h' S e = ap lambda (substitute_eta_expand (lift σ) b (rename_head suc h) (rename_head suc h') (add_last (rename_spine suc S) (eta_expand a (variable zero) nil)) (KeepsHead-lift σ h h' e) ∙ ap (eta_expand b (rename_head suc h')) (substitute_add_last reduce (lift σ) (rename_spine suc S) (eta_expand a (variable zero) nil) ∙ ap₂ add_last (substitute_lift_rename_spine σ S) (substitute_eta_expand (lift σ) a (variable zero) (variable zero) nil refl)))

pub reduce_nil : (t : Skeleton) (N : Term) → reduce t N nil ≡ N
reduce_nil (base c) N = refl
reduce_nil (arrow a b) (lambda M) = refl
reduce_nil (arrow a b) (root h S) = refl

-- σ renames by ρ, up to eta at skeletons of P
abbrev pub EtaImage : (Skeleton → Type 0) → Image → ℕ → Type 0
EtaImage P (keep i) j = i ≡ j
EtaImage P (put a N) j = P a × (N ≡ eta_long a (variable j))

abbrev pub EtaLike : (Skeleton → Type 0) → (ℕ → Image) → (ℕ → ℕ) → Type 0
EtaLike P σ ρ = (i : ℕ) → EtaImage P (σ i) (ρ i)

EtaImage-weakened : (P : Skeleton → Type 0) (x : Image) (j : ℕ) → EtaImage P x j → EtaImage P (rename_image suc x) (suc j)
EtaImage-weakened P (keep i) j e = ap suc e
EtaImage-weakened P (put a N) j (p, e) = (p, ap (rename suc) e ∙ rename_eta_expand suc a (variable j) nil)

pub EtaLike-lift : (P : Skeleton → Type 0) (σ : ℕ → Image) (ρ : ℕ → ℕ) → EtaLike P σ ρ → EtaLike P (lift σ) (lift_renaming ρ)
EtaLike-lift P σ ρ h zero = refl
EtaLike-lift P σ ρ h (suc i) = EtaImage-weakened P (σ i) (ρ i) (h i)

-- a term is put in for a variable of its skeleton
abbrev pub AtSkel : Image → Skeleton → Type 0
AtSkel (keep i) t = Unit {0}
AtSkel (put a N) t = a ≡ t

AtSkel-weakened : (x : Image) (t : Skeleton) → AtSkel x t → AtSkel (rename_image suc x) t
AtSkel-weakened (keep i) t h = h
AtSkel-weakened (put a N) t h = h

abbrev pub Fits : List Skeleton → (ℕ → Image) → Type 0
Fits Γ σ = (i : ℕ) (t : Skeleton) → SkeletonAt Γ i t → AtSkel (σ i) t

pub Fits-lift : (Γ : List Skeleton) (b : Skeleton) (σ : ℕ → Image) → Fits Γ σ → Fits (b ∷ Γ) (lift σ)
Fits-lift Γ b σ h zero t e = tt
Fits-lift Γ b σ h (suc i) t e = AtSkel-weakened (σ i) t (h i t e)

module _ (κ : HeadSkeletons) where
  -- an eta-long head takes the whole spine
  abbrev pub EtaReduction : Skeleton → Type 0
  EtaReduction a = (Δ : List Skeleton) (h : Head) (S T : Spine) (c : ℕ) → SpineSkeleton κ Δ T a (base c) → reduce a (eta_expand a h S) T ≡ root h (append S T)

  eta_plug : (P : Skeleton → Type 0) → ((a : Skeleton) → P a → EtaReduction a) → (Δ : List Skeleton) (x : Image) (j : ℕ) (T T' : Spine) (t : Skeleton) (c : ℕ) → EtaImage P x j → AtSkel x t → T ≡ T' → SpineSkeleton κ Δ T' t (base c) → apply_image reduce x T ≡ root (variable j) T'
  eta_plug P k Δ (keep i) j T T' t c e f q s = ap₂ (λ z U. root (variable z) U) e q
  eta_plug P k Δ (put a N) j T T' t c (p, e) f q s = ap₂ (reduce a) e q ∙ k a p Δ (variable j) nil T' c (subst (λ z. SpineSkeleton κ Δ T' z (base c)) (sym f) s)

  mutual
    pub eta_renamed : (P : Skeleton → Type 0) → ((a : Skeleton) → P a → EtaReduction a) → (Γ Δ : List Skeleton) (σ : ℕ → Image) (ρ : ℕ → ℕ) (M : Term) (t : Skeleton) → EtaLike P σ ρ → Fits Γ σ → RenamingBySkeletons Γ Δ ρ → TermSkeleton κ Γ M t → substitute reduce σ M ≡ rename ρ M
    eta_renamed P k Γ Δ σ ρ (lambda M) (arrow c d) e f w m = ap lambda (eta_renamed P k (c ∷ Γ) (c ∷ Δ) (lift σ) (lift_renaming ρ) M d (EtaLike-lift P σ ρ e) (Fits-lift Γ c σ f) (renaming_by_skeletons_under_binder Γ Δ ρ c w) m)
    eta_renamed P k Γ Δ σ ρ (lambda M) (base c) e f w m = absurd m
    eta_renamed P k Γ Δ σ ρ (root h S) (arrow c d) e f w m = absurd m
    eta_renamed P k Γ Δ σ ρ (root (constant c) S) (base d) e f w (t, g, s) = ap (root (constant c)) (eta_rename_spine P k Γ Δ σ ρ S t (base d) e f w s)
    eta_renamed P k Γ Δ σ ρ (root (metavariable c) S) (base d) e f w (t, g, s) = ap (root (metavariable c)) (eta_rename_spine P k Γ Δ σ ρ S t (base d) e f w s)
    eta_renamed P k Γ Δ σ ρ (root (variable i) S) (base d) e f w (t, g, s) = eta_plug P k Δ (σ i) (ρ i) (substitute_spine reduce σ S) (rename_spine ρ S) t d (e i) (f i t g) (eta_rename_spine P k Γ Δ σ ρ S t (base d) e f w s) (renaming_keeps_spine_skeletons κ Γ Δ ρ S t (base d) w s)

    pub eta_rename_spine : (P : Skeleton → Type 0) → ((a : Skeleton) → P a → EtaReduction a) → (Γ Δ : List Skeleton) (σ : ℕ → Image) (ρ : ℕ → ℕ) (S : Spine) (t u : Skeleton) → EtaLike P σ ρ → Fits Γ σ → RenamingBySkeletons Γ Δ ρ → SpineSkeleton κ Γ S t u → substitute_spine reduce σ S ≡ rename_spine ρ S
    eta_rename_spine P k Γ Δ σ ρ nil t u e f w s = refl
    eta_rename_spine P k Γ Δ σ ρ (app M S) (arrow c d) u e f w (m, s) = ap₂ app (eta_renamed P k Γ Δ σ ρ M c e f w m) (eta_rename_spine P k Γ Δ σ ρ S d u e f w s)
    eta_rename_spine P k Γ Δ σ ρ (app M S) (base c) u e f w s = absurd s

  -- one more argument at the end of a spine
  reduce_add_last : (Δ : List Skeleton) (t : Skeleton) (N : Term) (S : Spine) (a b : Skeleton) (X : Term) → TermSkeleton κ Δ N t → SpineSkeleton κ Δ S t (arrow a b) → reduce t N (add_last S X) ≡ reduce (arrow a b) (reduce t N S) (app X nil)
  reduce_add_last Δ t N nil a b X n s = ap₂ (λ u Y. reduce u Y (app X nil)) s (sym (reduce_nil t N))
  reduce_add_last Δ (base c) N (app M S) a b X n s = absurd s
  reduce_add_last Δ (arrow c d) (root h T) (app M S) a b X n s = absurd n
  reduce_add_last Δ (arrow c d) (lambda N) (app M S) a b X n (m, s) = reduction_beta c d N M (add_last S X) ∙ reduce_add_last Δ d (substitute reduce (single c M) N) S a b X (substitution_keeps_skeletons κ (c ∷ Δ) Δ (single c M) N d (single_by_skeletons κ c Δ M m) n) s ∙ ap (λ Y. reduce (arrow a b) Y (app X nil)) (sym (reduction_beta c d N M S))

  -- a term put in for the head of an eta-long term
  abbrev pub EtaPut : Skeleton → Type 0
  EtaPut b = (Δ : List Skeleton) (σ : ℕ → Image) (i : ℕ) (t : Skeleton) (N : Term) (S : Spine) → σ i ≡ put t N → TermSkeleton κ Δ N t → SpineSkeleton κ Δ (substitute_spine reduce σ S) t b → substitute reduce σ (eta_expand b (variable i) S) ≡ reduce t N (substitute_spine reduce σ S)

  put_base : (c : ℕ) → EtaPut (base c)
  put_base c Δ σ i t N S e n s = ap (λ x. apply_image reduce x (substitute_spine reduce σ S)) e

  -- a term of a function skeleton, weakened and applied to the new variable, is its body
  expand : (a b : Skeleton) → EtaReduction a → (Δ : List Skeleton) (Y : Term) → TermSkeleton κ Δ Y (arrow a b) → lambda (reduce (arrow a b) (rename suc Y) (app (eta_long a (variable zero)) nil)) ≡ Y
  expand a b k Δ (root h S) y = absurd y
  expand a b k Δ (lambda M) y = ap lambda (reduction_beta a b (rename (lift_renaming suc) M) (eta_long a (variable zero)) nil ∙ reduce_nil b (substitute reduce (single a (eta_long a (variable zero))) (rename (lift_renaming suc) M)) ∙ substitute_renamed reduce (single a (eta_long a (variable zero))) (lift_renaming suc) M ∙ eta_renamed (λ c. c ≡ a) (λ c e. subst EtaReduction (sym e) k) (a ∷ Δ) (a ∷ Δ) (λ i. single a (eta_long a (variable zero)) (lift_renaming suc i)) (λ i. i) M b like fits (λ i t g. g) y ∙ rename_id M)
    where
      like : EtaLike (λ c. c ≡ a) (λ i. single a (eta_long a (variable zero)) (lift_renaming suc i)) (λ i. i)
      like zero = (refl, refl)
      like (suc i) = refl

      fits : Fits (a ∷ Δ) (λ i. single a (eta_long a (variable zero)) (lift_renaming suc i))
      fits zero t e = e
      fits (suc i) t e = tt

      rename_id : (M : Term) → rename (λ i. i) M ≡ M
      rename_id M = sym (substitution_as_renaming reduce (λ i. i) M) ∙ substitute_identity reduce M

  SpineSkeleton-add_last : (Δ : List Skeleton) (S : Spine) (t a b : Skeleton) (X : Term) → SpineSkeleton κ Δ S t (arrow a b) → TermSkeleton κ Δ X a → SpineSkeleton κ Δ (add_last S X) t b
  SpineSkeleton-add_last Δ nil t a b X s x = subst (λ z. SpineSkeleton κ Δ (app X nil) z b) (sym s) (x, refl)
  SpineSkeleton-add_last Δ (app M S) (arrow c d) a b X (m, s) x = (m, SpineSkeleton-add_last Δ S d a b X s x)
  SpineSkeleton-add_last Δ (app M S) (base c) a b X s x = absurd s

  head_weakened : (a : Skeleton) (Δ : List Skeleton) (h : Head) (t : Skeleton) → HeadSkeleton κ Δ h t → HeadSkeleton κ (a ∷ Δ) (rename_head suc h) t
  head_weakened a Δ (constant c) t g = g
  head_weakened a Δ (metavariable c) t g = g
  head_weakened a Δ (variable i) t g = g

  pub eta_expand_has_skeleton : (a t : Skeleton) (Δ : List Skeleton) (h : Head) (S : Spine) → HeadSkeleton κ Δ h t → SpineSkeleton κ Δ S t a → TermSkeleton κ Δ (eta_expand a h S) a
  eta_expand_has_skeleton (base c) t Δ h S g s = (t, g, s)
  eta_expand_has_skeleton (arrow a b) t Δ h S g s = eta_expand_has_skeleton b t (a ∷ Δ) (rename_head suc h) (add_last (rename_spine suc S) (eta_long a (variable zero))) (head_weakened a Δ h t g) (SpineSkeleton-add_last (a ∷ Δ) (rename_spine suc S) t a b (eta_long a (variable zero)) (renaming_keeps_spine_skeletons κ Δ (a ∷ Δ) suc S t (arrow a b) (λ i t g. g) s) (eta_expand_has_skeleton a a (a ∷ Δ) (variable zero) nil refl refl))

  eta_typed : (a : Skeleton) (Δ : List Skeleton) → TermSkeleton κ (a ∷ Δ) (eta_long a (variable zero)) a
  eta_typed a Δ = eta_expand_has_skeleton a a (a ∷ Δ) (variable zero) nil refl refl

  put_arrow : (a b : Skeleton) → EtaReduction a → EtaPut b → EtaPut (arrow a b)
  put_arrow a b k l Δ σ i t N S e n s =
      let X = eta_long a (variable zero) in
      let S' = substitute_spine reduce σ S in
      let q : substitute_spine reduce (lift σ) (add_last (rename_spine suc S) X) ≡ add_last (rename_spine suc S') X = substitute_add_last reduce (lift σ) (rename_spine suc S) X ∙ ap₂ add_last (substitute_lift_rename_spine σ S) (substitute_eta_expand (lift σ) a (variable zero) (variable zero) nil refl) in
      let n' : TermSkeleton κ (a ∷ Δ) (rename suc N) t = renaming_keeps_skeletons κ Δ (a ∷ Δ) suc N t (λ i t g. g) n in
      let s' : SpineSkeleton κ (a ∷ Δ) (rename_spine suc S') t (arrow a b) = renaming_keeps_spine_skeletons κ Δ (a ∷ Δ) suc S' t (arrow a b) (λ i t g. g) s in
      ap lambda (l (a ∷ Δ) (lift σ) (suc i) t (rename suc N) (add_last (rename_spine suc S) X) (ap (rename_image suc) e) n' (subst (λ U. SpineSkeleton κ (a ∷ Δ) U t b) (sym q) (SpineSkeleton-add_last (a ∷ Δ) (rename_spine suc S') t a b X s' (eta_typed a Δ)))
      ∙ ap (reduce t (rename suc N)) q ∙ reduce_add_last (a ∷ Δ) t (rename suc N) (rename_spine suc S') a b X n' s' ∙ ap (λ Y. reduce (arrow a b) Y (app X nil)) (sym (reduction_is_natural t suc N S')))
      ∙ expand a b k Δ (reduce t N S') (reduction_keeps_skeletons κ t Δ N S' (arrow a b) n s)

  reduce_arrow : (a b : Skeleton) → EtaPut a → EtaReduction b → EtaReduction (arrow a b)
  reduce_arrow a b k l Δ h S nil c s = absurd (cc)
  reduce_arrow a b k l Δ h S (app N T) c (n, s) =
      let X = eta_long a (variable zero) in
      let σ = single a N in
      let x : substitute reduce σ X ≡ N = k Δ σ zero a N nil refl n refl ∙ reduce_nil a N in
      let q : substitute_spine reduce σ (add_last (rename_spine suc S) X) ≡ add_last S N = substitute_add_last reduce σ (rename_spine suc S) X ∙ ap₂ add_last (substitute_renamed_spine reduce σ suc S ∙ substitute_identity_spine reduce S) x in
      reduction_beta a b (eta_expand b (rename_head suc h) (add_last (rename_spine suc S) X)) N T
      ∙ ap (λ Y. reduce b Y T) (substitute_eta_expand σ b (rename_head suc h) h (add_last (rename_spine suc S) X) (keeps h) ∙ ap (eta_expand b h) q)
      ∙ l Δ h (add_last S N) T c s ∙ ap (root h) (append_add_last S N T)
    where
      keeps : (h : Head) → KeepsHead (single a N) (rename_head suc h) h
      keeps (constant c) = refl
      keeps (metavariable c) = refl
      keeps (variable i) = refl

  reduce_base : (c : ℕ) → EtaReduction (base c)
  reduce_base c Δ h S nil d s = ap (root h) (sym (append_nil S))
  reduce_base c Δ h S (app N T) d s = absurd s

  pub eta_both : (a : Skeleton) → EtaReduction a × EtaPut a
  eta_both (base c) = (reduce_base c, put_base c)
  eta_both (arrow a b) = (reduce_arrow a b (eta_both a).1 (eta_both b).0, put_arrow a b (eta_both a).0 (eta_both b).1)

  -- THE identities: an eta-long variable put in renames, and applies as a variable does
  pub reduction_eta : (a : Skeleton) (Δ : List Skeleton) (h : Head) (T : Spine) (c : ℕ) → SpineSkeleton κ Δ T a (base c) → reduce a (eta_long a h) T ≡ root h T
  reduction_eta a Δ h T c s = (eta_both a).0 Δ h nil T c s

  pub single_eta : (a : Skeleton) (Δ : List Skeleton) (N : Term) → TermSkeleton κ Δ N a → substitute reduce (single a N) (eta_long a (variable zero)) ≡ N
  single_eta a Δ N n = (eta_both a).1 Δ (single a N) zero a N nil refl n refl ∙ reduce_nil a N

  pub eta_renames : (Γ Δ : List Skeleton) (σ : ℕ → Image) (ρ : ℕ → ℕ) (M : Term) (t : Skeleton) → EtaLike (λ c. Unit {0}) σ ρ → Fits Γ σ → RenamingBySkeletons Γ Δ ρ → TermSkeleton κ Γ M t → substitute reduce σ M ≡ rename ρ M
  eta_renames = eta_renamed (λ c. Unit {0}) (λ c e. (eta_both c).0)
