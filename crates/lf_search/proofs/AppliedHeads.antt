-- Eta-long forms of heads on arguments, put in one after another, are heads put in at once.
use Rattle.std.proofs.Common.{◌≡◌, ℕ, zero, suc, List, [], ◌∷◌, ◌++◌, Option, refl, sym, ap, ap₂, ◌∙◌, subst}
use mathlib.Core.Path.{fun_ext}
use Rattle.lf.specs.Eta.{append, eta_expand}
use Rattle.lf.specs.SkeletonTyping.{HeadSkeletons, ImageSkeleton, SpineSkeleton, SubstitutionBySkeletons, TermSkeleton, TypeBySkeletons}
use Rattle.lf.specs.Substitution.{Image, apply_image, keep, lift, put, reduce, rename_image, single, substitute, substitute_spine, substitute_type}
use Rattle.lf.specs.Syntax.{Head, LfType, Skeleton, Spine, Term, app, arrow, atom, base, constant, lambda, lift_renaming, metavariable, nil, pi, rename, rename_head, rename_spine, root, skeleton, variable}
use Rattle.lf.specs.Typing.{instantiate_type}
use Rattle.lf.proofs.Eta.{append_nil, eta_both, rename_eta_expand}
use Rattle.lf.proofs.Renaming.{renamings_compose_spine}
use Rattle.lf.proofs.SkeletonTyping.{lift_by_skeletons, single_by_skeletons, substitution_keeps_spine_skeletons}
use Rattle.lf_unification.specs.Offering.{local_arguments, raised}
use Rattle.lf_search.specs.AppliedHeads.{AppliedHead, bare, on_arguments, one_by_one, rename_applied, spine_with_applied, taken_heads, type_with_applied, under_applied, with_applied, with_newest}

-- Arguments behind others.
rename_append : (ρ : ℕ → ℕ) (S T : Spine) → rename_spine ρ (append S T) ≡ append (rename_spine ρ S) (rename_spine ρ T)
rename_append ρ nil T = refl
rename_append ρ (app M S) T = ap (app (rename ρ M)) (rename_append ρ S T)

append_twice : (S T U : Spine) → append (append S T) U ≡ append S (append T U)
append_twice nil T U = refl
append_twice (app M S) T U = ap (app M) (append_twice S T U)

applied_append : (p : ℕ → AppliedHead) (S T : Spine) → spine_with_applied p (append S T) ≡ append (spine_with_applied p S) (spine_with_applied p T)
applied_append p nil T = refl
applied_append p (app M S) T = ap (app (with_applied p M)) (applied_append p S T)

abbrev made : Head → Spine → AppliedHead
made h S = record { head = h; arguments = S }

same_made : {h g : Head} {S T : Spine} → h ≡ g → S ≡ T → made h S ≡ made g T
same_made e f = ap₂ made e f

-- Renaming before.
under_before : (p : ℕ → AppliedHead) (ρ : ℕ → ℕ) (i : ℕ) → under_applied p (lift_renaming ρ i) ≡ under_applied (λ j. p (ρ j)) i
under_before p ρ zero = refl
under_before p ρ (suc i) = refl

mutual
  applied_of_renamed : (p : ℕ → AppliedHead) (ρ : ℕ → ℕ) (M : Term) → with_applied p (rename ρ M) ≡ with_applied (λ i. p (ρ i)) M
  applied_of_renamed p ρ (lambda M) = ap lambda (applied_of_renamed (under_applied p) (lift_renaming ρ) M ∙ ap (λ f. with_applied f M) (fun_ext (under_before p ρ)))
  applied_of_renamed p ρ (root (constant c) S) = ap (root (constant c)) (applied_of_renamed_spine p ρ S)
  applied_of_renamed p ρ (root (metavariable m) S) = ap (root (metavariable m)) (applied_of_renamed_spine p ρ S)
  applied_of_renamed p ρ (root (variable i) S) = ap (λ T. root (p (ρ i)).head (append (p (ρ i)).arguments T)) (applied_of_renamed_spine p ρ S)

  applied_of_renamed_spine : (p : ℕ → AppliedHead) (ρ : ℕ → ℕ) (S : Spine) → spine_with_applied p (rename_spine ρ S) ≡ spine_with_applied (λ i. p (ρ i)) S
  applied_of_renamed_spine p ρ nil = refl
  applied_of_renamed_spine p ρ (app M S) = ap₂ app (applied_of_renamed p ρ M) (applied_of_renamed_spine p ρ S)

-- Renaming after.
head_twice : (ρ : ℕ → ℕ) (g : Head) → rename_head (lift_renaming ρ) (rename_head suc g) ≡ rename_head suc (rename_head ρ g)
head_twice ρ (constant c) = refl
head_twice ρ (variable i) = refl
head_twice ρ (metavariable m) = refl

under_after : (ρ : ℕ → ℕ) (p : ℕ → AppliedHead) (i : ℕ) → rename_applied (lift_renaming ρ) (under_applied p i) ≡ under_applied (λ j. rename_applied ρ (p j)) i
under_after ρ p zero = refl
under_after ρ p (suc i) = same_made (head_twice ρ (p i).head) (renamings_compose_spine (lift_renaming ρ) suc (p i).arguments ∙ sym (renamings_compose_spine suc ρ (p i).arguments))

mutual
  renamed_applied : (ρ : ℕ → ℕ) (p : ℕ → AppliedHead) (M : Term) → rename ρ (with_applied p M) ≡ with_applied (λ i. rename_applied ρ (p i)) M
  renamed_applied ρ p (lambda M) = ap lambda (renamed_applied (lift_renaming ρ) (under_applied p) M ∙ ap (λ f. with_applied f M) (fun_ext (under_after ρ p)))
  renamed_applied ρ p (root (constant c) S) = ap (root (constant c)) (renamed_applied_spine ρ p S)
  renamed_applied ρ p (root (metavariable m) S) = ap (root (metavariable m)) (renamed_applied_spine ρ p S)
  renamed_applied ρ p (root (variable i) S) = ap (root (rename_head ρ (p i).head)) (rename_append ρ (p i).arguments (spine_with_applied p S) ∙ ap (append (rename_spine ρ (p i).arguments)) (renamed_applied_spine ρ p S))

  renamed_applied_spine : (ρ : ℕ → ℕ) (p : ℕ → AppliedHead) (S : Spine) → rename_spine ρ (spine_with_applied p S) ≡ spine_with_applied (λ i. rename_applied ρ (p i)) S
  renamed_applied_spine ρ p nil = refl
  renamed_applied_spine ρ p (app M S) = ap₂ app (renamed_applied ρ p M) (renamed_applied_spine ρ p S)

moved_under : (p : ℕ → AppliedHead) (S : Spine) → spine_with_applied (under_applied p) (rename_spine suc S) ≡ rename_spine suc (spine_with_applied p S)
moved_under p S = applied_of_renamed_spine (under_applied p) suc S ∙ sym (renamed_applied_spine suc p S)

-- One after another. What stands for a variable has others put into it.
put_into : (ℕ → AppliedHead) → Head → Spine → AppliedHead
put_into q (constant c) P = record { head = constant c; arguments = spine_with_applied q P }
put_into q (metavariable m) P = record { head = metavariable m; arguments = spine_with_applied q P }
put_into q (variable i) P = record { head = (q i).head; arguments = append (q i).arguments (spine_with_applied q P) }

abbrev then_put : (ℕ → AppliedHead) → (ℕ → AppliedHead) → ℕ → AppliedHead
then_put q p i = put_into q (p i).head (p i).arguments

put_at_root : (q : ℕ → AppliedHead) (h : Head) (P S : Spine) → with_applied q (root h (append P S)) ≡ root (put_into q h P).head (append (put_into q h P).arguments (spine_with_applied q S))
unfolding put_into
put_at_root q (constant c) P S = ap (root (constant c)) (applied_append q P S)
put_at_root q (metavariable m) P S = ap (root (metavariable m)) (applied_append q P S)
put_at_root q (variable i) P S = ap (root (q i).head) (ap (append (q i).arguments) (applied_append q P S) ∙ sym (append_twice (q i).arguments (spine_with_applied q P) (spine_with_applied q S)))

put_moved : (q : ℕ → AppliedHead) (h : Head) (P : Spine) → put_into (under_applied q) (rename_head suc h) (rename_spine suc P) ≡ rename_applied suc (put_into q h P)
unfolding put_into
put_moved q (constant c) P = same_made refl (moved_under q P)
put_moved q (metavariable m) P = same_made refl (moved_under q P)
put_moved q (variable i) P = same_made refl (ap (append (rename_spine suc (q i).arguments)) (moved_under q P) ∙ sym (rename_append suc (q i).arguments (spine_with_applied q P)))

then_under : (q p : ℕ → AppliedHead) (i : ℕ) → then_put (under_applied q) (under_applied p) i ≡ under_applied (then_put q p) i
unfolding put_into
then_under q p zero = refl
then_under q p (suc i) = put_moved q (p i).head (p i).arguments

mutual
  applied_twice : (q p : ℕ → AppliedHead) (M : Term) → with_applied q (with_applied p M) ≡ with_applied (then_put q p) M
  applied_twice q p (lambda M) = ap lambda (applied_twice (under_applied q) (under_applied p) M ∙ ap (λ f. with_applied f M) (fun_ext (then_under q p)))
  applied_twice q p (root (constant c) S) = ap (root (constant c)) (applied_twice_spine q p S)
  applied_twice q p (root (metavariable m) S) = ap (root (metavariable m)) (applied_twice_spine q p S)
  applied_twice q p (root (variable i) S) =
      put_at_root q (p i).head (p i).arguments (spine_with_applied p S)
      ∙ ap (λ T. root (then_put q p i).head (append (then_put q p i).arguments T)) (applied_twice_spine q p S)

  applied_twice_spine : (q p : ℕ → AppliedHead) (S : Spine) → spine_with_applied q (spine_with_applied p S) ≡ spine_with_applied (then_put q p) S
  applied_twice_spine q p nil = refl
  applied_twice_spine q p (app M S) = ap₂ app (applied_twice q p M) (applied_twice_spine q p S)

applied_twice_type : (q p : ℕ → AppliedHead) (A : LfType) → type_with_applied q (type_with_applied p A) ≡ type_with_applied (then_put q p) A
applied_twice_type q p (pi A B) = ap₂ pi (applied_twice_type q p A) (applied_twice_type (under_applied q) (under_applied p) B ∙ ap (λ f. type_with_applied f B) (fun_ext (then_under q p)))
applied_twice_type q p (atom a S) = ap (atom a) (applied_twice_spine q p S)

-- Bare variables put in change nothing.
bare_under : (i : ℕ) → under_applied bare i ≡ bare i
bare_under zero = refl
bare_under (suc i) = refl

mutual
  bare_stays : (M : Term) → with_applied bare M ≡ M
  bare_stays (lambda M) = ap lambda (ap (λ f. with_applied f M) (fun_ext bare_under) ∙ bare_stays M)
  bare_stays (root (constant c) S) = ap (root (constant c)) (bare_stays_spine S)
  bare_stays (root (metavariable m) S) = ap (root (metavariable m)) (bare_stays_spine S)
  bare_stays (root (variable i) S) = ap (root (variable i)) (bare_stays_spine S)

  bare_stays_spine : (S : Spine) → spine_with_applied bare S ≡ S
  bare_stays_spine nil = refl
  bare_stays_spine (app M S) = ap₂ app (bare_stays M) (bare_stays_spine S)

pub bare_stays_type : (A : LfType) → type_with_applied bare A ≡ A
bare_stays_type (pi A B) = ap₂ pi (bare_stays_type A) (ap (λ f. type_with_applied f B) (fun_ext bare_under) ∙ bare_stays_type B)
bare_stays_type (atom a S) = ap (atom a) (bare_stays_spine S)

-- one more for the newest variable, behind what stands for the others
newest_moved : (x : AppliedHead) (h : Head) (P : Spine) → put_into (with_newest x bare) (rename_head suc h) (rename_spine suc P) ≡ made h P
unfolding put_into
newest_moved x (constant c) P = same_made refl (applied_of_renamed_spine (with_newest x bare) suc P ∙ bare_stays_spine P)
newest_moved x (metavariable m) P = same_made refl (applied_of_renamed_spine (with_newest x bare) suc P ∙ bare_stays_spine P)
newest_moved x (variable i) P = same_made refl (applied_of_renamed_spine (with_newest x bare) suc P ∙ bare_stays_spine P)

then_newest : (x : AppliedHead) (p : ℕ → AppliedHead) (i : ℕ) → then_put (with_newest x bare) (under_applied p) i ≡ with_newest x p i
unfolding put_into
then_newest x p zero = same_made refl (append_nil x.arguments)
then_newest x p (suc i) = newest_moved x (p i).head (p i).arguments

-- one metavariable more
one_more : (L : Spine) (ms : List ℕ) (m : ℕ) (p : ℕ → AppliedHead) → one_by_one L (ms ++ m ∷ []) p ≡ with_newest (on_arguments L m) (one_by_one L ms p)
one_more L [] m p = refl
one_more L (k ∷ ms) m p = one_more L ms m (with_newest (on_arguments L k) p)

pub one_more_taken : (L : Spine) (ms : List ℕ) (m : ℕ) → taken_heads L (ms ++ m ∷ []) ≡ with_newest (on_arguments L m) (taken_heads L ms)
unfolding taken_heads
one_more_taken L ms m = one_more L ms m bare

-- Substitution. What is put in is the eta-long form of a head on arguments.
abbrev Is : Image → AppliedHead → Type 0
Is (keep i) x = x ≡ bare i
Is (put a N) x = N ≡ eta_expand a x.head x.arguments

is_moved : (y : Image) (x : AppliedHead) → Is y x → Is (rename_image suc y) (rename_applied suc x)
is_moved (keep i) x e = ap (rename_applied suc) e
is_moved (put a N) x e = ap (rename suc) e ∙ rename_eta_expand suc a x.head x.arguments

abbrev AreHeads : (ℕ → Image) → (ℕ → AppliedHead) → Type 0
AreHeads σ p = (i : ℕ) → Is (σ i) (p i)

are_under : (σ : ℕ → Image) (p : ℕ → AppliedHead) → AreHeads σ p → AreHeads (lift σ) (under_applied p)
are_under σ p h zero = refl
are_under σ p h (suc i) = is_moved (σ i) (p i) (h i)

module _ (κ : HeadSkeletons) where
  at_image : (Δ : List Skeleton) (y : Image) (x : AppliedHead) (T U : Spine) (t : Skeleton) (c : ℕ) → Is y x → ImageSkeleton κ Δ y t → T ≡ U → SpineSkeleton κ Δ T t (base c) → apply_image reduce y T ≡ root x.head (append x.arguments U)
  at_image Δ (keep i) x T U t c e f q s = ap (root (variable i)) q ∙ ap (λ (z : AppliedHead). root z.head (append z.arguments U)) (sym e)
  at_image Δ (put a N) x T U t c e (f, n) q s =
      ap (λ K. reduce a K T) e
      ∙ (eta_both κ a).0 Δ x.head x.arguments T c (subst (λ b. SpineSkeleton κ Δ T b (base c)) (sym f) s)
      ∙ ap (λ V. root x.head (append x.arguments V)) q

  mutual
    heads_in : (Γ Δ : List Skeleton) (σ : ℕ → Image) (p : ℕ → AppliedHead) (M : Term) (t : Skeleton) → AreHeads σ p → SubstitutionBySkeletons κ Γ Δ σ → TermSkeleton κ Γ M t → substitute reduce σ M ≡ with_applied p M
    heads_in Γ Δ σ p (lambda M) (arrow c d) h w m = ap lambda (heads_in (c ∷ Γ) (c ∷ Δ) (lift σ) (under_applied p) M d (are_under σ p h) (lift_by_skeletons κ c Γ Δ σ w) m)
    heads_in Γ Δ σ p (lambda M) (base c) h w m = absurd m
    heads_in Γ Δ σ p (root g S) (arrow c d) h w m = absurd m
    heads_in Γ Δ σ p (root (constant c) S) (base d) h w (t, g, s) = ap (root (constant c)) (heads_in_spine Γ Δ σ p S t (base d) h w s)
    heads_in Γ Δ σ p (root (metavariable m) S) (base d) h w (t, g, s) = ap (root (metavariable m)) (heads_in_spine Γ Δ σ p S t (base d) h w s)
    heads_in Γ Δ σ p (root (variable i) S) (base d) h w (t, g, s) = at_image Δ (σ i) (p i) (substitute_spine reduce σ S) (spine_with_applied p S) t d (h i) (w i t g) (heads_in_spine Γ Δ σ p S t (base d) h w s) (substitution_keeps_spine_skeletons κ Γ Δ σ S t (base d) w s)

    heads_in_spine : (Γ Δ : List Skeleton) (σ : ℕ → Image) (p : ℕ → AppliedHead) (S : Spine) (t u : Skeleton) → AreHeads σ p → SubstitutionBySkeletons κ Γ Δ σ → SpineSkeleton κ Γ S t u → substitute_spine reduce σ S ≡ spine_with_applied p S
    heads_in_spine Γ Δ σ p nil t u h w s = refl
    heads_in_spine Γ Δ σ p (app M S) (arrow c d) u h w (m, s) = ap₂ app (heads_in Γ Δ σ p M c h w m) (heads_in_spine Γ Δ σ p S d u h w s)
    heads_in_spine Γ Δ σ p (app M S) (base c) u h w s = absurd s

  heads_in_type : (φ : ℕ → Option Skeleton) (Γ Δ : List Skeleton) (σ : ℕ → Image) (p : ℕ → AppliedHead) (A : LfType) → AreHeads σ p → SubstitutionBySkeletons κ Γ Δ σ → TypeBySkeletons φ κ Γ A → substitute_type reduce σ A ≡ type_with_applied p A
  heads_in_type φ Γ Δ σ p (pi A B) h w (a, b) = ap₂ pi (heads_in_type φ Γ Δ σ p A h w a) (heads_in_type φ (skeleton A ∷ Γ) (skeleton A ∷ Δ) (lift σ) (under_applied p) B (are_under σ p h) (lift_by_skeletons κ (skeleton A) Γ Δ σ w) b)
  heads_in_type φ Γ Δ σ p (atom a S) h w (t, g, s) = ap (atom a) (heads_in_spine Γ Δ σ p S t (base a) h w s)

  -- one eta-long form put in for the newest variable
  pub one_head_in : (φ : ℕ → Option Skeleton) (Γ : List Skeleton) (a : Skeleton) (x : AppliedHead) (B : LfType) → TermSkeleton κ Γ (eta_expand a x.head x.arguments) a → TypeBySkeletons φ κ (a ∷ Γ) B → substitute_type reduce (single a (eta_expand a x.head x.arguments)) B ≡ type_with_applied (with_newest x bare) B
  one_head_in φ Γ a x B n b = heads_in_type φ (a ∷ Γ) Γ (single a (eta_expand a x.head x.arguments)) (with_newest x bare) B are (single_by_skeletons κ a Γ (eta_expand a x.head x.arguments) n) b
    where
      are : AreHeads (single a (eta_expand a x.head x.arguments)) (with_newest x bare)
      are zero = refl
      are (suc i) = refl

  -- THE theorem: behind others that are put in
  pub next_head_in : (φ : ℕ → Option Skeleton) (Γ : List Skeleton) (a : Skeleton) (x : AppliedHead) (p : ℕ → AppliedHead) (B : LfType) → TermSkeleton κ Γ (eta_expand a x.head x.arguments) a → TypeBySkeletons φ κ (a ∷ Γ) (type_with_applied (under_applied p) B) → substitute_type reduce (single a (eta_expand a x.head x.arguments)) (type_with_applied (under_applied p) B) ≡ type_with_applied (with_newest x p) B
  next_head_in φ Γ a x p B n b =
      one_head_in φ Γ a x (type_with_applied (under_applied p) B) n b
      ∙ applied_twice_type (with_newest x bare) (under_applied p) B
      ∙ ap (λ f. type_with_applied f B) (fun_ext (then_newest x p))

  -- the same of metavariables on the local variables
  pub next_taken : (φ : ℕ → Option Skeleton) (Γ : List Skeleton) (D : List LfType) (ms : List ℕ) (m : ℕ) (A B : LfType) → TermSkeleton κ Γ (raised D A m) (skeleton A) → TypeBySkeletons φ κ (skeleton A ∷ Γ) (type_with_applied (under_applied (taken_heads (local_arguments D) ms)) B) →
      instantiate_type A (raised D A m) (type_with_applied (under_applied (taken_heads (local_arguments D) ms)) B) ≡ type_with_applied (taken_heads (local_arguments D) (ms ++ m ∷ [])) B
  next_taken φ Γ D ms m A B n b =
      next_head_in φ Γ (skeleton A) (on_arguments (local_arguments D) m) (taken_heads (local_arguments D) ms) B n b
      ∙ ap (λ f. type_with_applied f B) (sym (one_more_taken (local_arguments D) ms m))
