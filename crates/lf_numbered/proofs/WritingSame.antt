-- Under values that give each variable of an entry the constant that its own constant moves to, what is read has the value of what is moved.
use Rattle.std.proofs.Common.{◌≡◌, ℕ, zero, suc, List, [], ◌∷◌, Option, Some, None, refl, sym, ap, ap₂, ◌∙◌, subst}
use Rattle.lf.specs.Syntax.{constant, variable, metavariable, Term, Spine, lambda, root, nil, app, LfType, pi, atom, Skeleton, base, arrow, skeleton, rename_spine}
use Rattle.lf.specs.Substitution.{Image, keep, put, rename_image, lift, apply_image, substitute, substitute_spine, substitute_type, reduce}
use Rattle.lf.specs.Eta.{add_last, append, eta_expand}
use Rattle.lf.specs.SkeletonTyping.{HeadSkeletons, TermSkeleton, SpineSkeleton, TypeBySkeletons, ImageSkeleton, SubstitutionBySkeletons}
use Rattle.lf.specs.Skeletons.{context_skeletons}
use Rattle.lf.proofs.Eta.{rename_eta_expand, eta_both}
use Rattle.lf.proofs.Renaming.{reduction_is_natural, rename_substituted_spine, substitute_renamed_spine}
use Rattle.lf.proofs.SkeletonTyping.{lift_by_skeletons, substitution_keeps_spine_skeletons}
use Rattle.lf_unification.specs.Offering.{pi_over}
use Rattle.lf_checks.specs.ModeForms.{argument_count}
use Rattle.lf_cases.proofs.LongValues.{term_has_skeleton}
use Rattle.lf_coverage.proofs.HeadItems.{length_renamed as count_renamed}
use Rattle.lf_numbered.specs.NumberedCase.{some_spine}
use Rattle.lf_numbered.specs.NumberedInstance.{move, move_spine, move_type}
use Rattle.lf_numbered.specs.OwnTerms.{weaken_own, BeginsWith, OnOwnTerms, SpineOnOwnTerms, TypeOnOwnTerms}
use Rattle.lf_numbered.specs.Reading.{drop_arguments, weaken_read, read_constant, read, read_spine, read_type}
use Rattle.lf_numbered.proofs.OwnTerms.{substitute_append}
use Rattle.lf_numbered.proofs.Reading.{under_read, weakened_read, read_spine_renamed}
use Rattle.lf_numbered.proofs.ReadSkeletons.{skeleton_under, Reads, Inside, read_has_skeleton}
use Rattle.lf_numbered.proofs.ReadTyped.{drop_own}

pub read_append : (f : ℕ → Option (ℕ × ℕ)) (U T : Spine) → read_spine f (append U T) ≡ append (read_spine f U) (read_spine f T)
read_append f nil T = refl
read_append f (app M U) T = ap (app (read f M)) (read_append f U T)

-- the skeleton of `some` terms
spine_add : (κ : HeadSkeletons) (Δ : List Skeleton) (S : Spine) (t a b : Skeleton) (X : Term) → SpineSkeleton κ Δ S t (arrow a b) → TermSkeleton κ Δ X a → SpineSkeleton κ Δ (add_last S X) t b
spine_add κ Δ nil t a b X s x = subst (λ z. SpineSkeleton κ Δ (app X nil) z b) (sym s) (x, refl)
spine_add κ Δ (app M S) (arrow c d) a b X (m, s) x = (m, spine_add κ Δ S d a b X s x)
spine_add κ Δ (app M S) (base c) a b X s x = absurd s

pub some_skeleton : (κ : HeadSkeletons) (O : List LfType) (Δ : List Skeleton) (υ : ℕ → Image) (T : LfType) → SubstitutionBySkeletons κ (context_skeletons O) Δ υ → SpineSkeleton κ Δ (some_spine O υ) (skeleton (pi_over O T)) (skeleton T)
some_skeleton κ [] Δ υ T s = refl
some_skeleton κ (A ∷ O) Δ υ T s = spine_add κ Δ (some_spine O (λ i. υ (suc i))) (skeleton (pi_over O (pi A T))) (skeleton A) (skeleton T) (Rattle.lf_cases.specs.Case.as_term (skeleton A) (υ zero)) (some_skeleton κ O Δ (λ i. υ (suc i)) (pi A T) (λ i. s (suc i))) (term_has_skeleton κ Δ (skeleton A) (υ zero) (s zero (skeleton A) refl))

-- A constant that is read as itself stays; or the variable that it is read as has the value of the constant that it moves to, on its own terms.
abbrev pub WritesMoved : (ℕ → ℕ) → (ℕ → Option (ℕ × ℕ)) → (ℕ → Image) → ℕ → Option (ℕ × ℕ) → Option Spine → Type 0
WritesMoved γ f τ c None u = γ c ≡ c
WritesMoved γ f τ c (Some (n, v)) None = ⊥
WritesMoved γ f τ c (Some (n, v)) (Some U) = (argument_count U ≡ n) × (a : Skeleton) × (τ v ≡ put a (eta_expand a (constant (γ c)) (substitute_spine reduce τ (read_spine f U))))

lifted_read : (f : ℕ → Option (ℕ × ℕ)) (τ : ℕ → Image) (U : Spine) → rename_spine suc (substitute_spine reduce τ (read_spine f U)) ≡ substitute_spine reduce (lift τ) (read_spine (under_read f) (rename_spine suc U))
lifted_read f τ U =
    rename_substituted_spine reduce reduction_is_natural suc τ (read_spine f U)
    ∙ sym (substitute_renamed_spine reduce (lift τ) suc (read_spine f U))
    ∙ ap (substitute_spine reduce (lift τ)) (sym (read_spine_renamed f (under_read f) suc U (λ c. weakened_read (f c))))

moved_under : (γ : ℕ → ℕ) (f : ℕ → Option (ℕ × ℕ)) (τ : ℕ → Image) (c : ℕ) (x : Option (ℕ × ℕ)) (u : Option Spine) → WritesMoved γ f τ c x u → WritesMoved γ (under_read f) (lift τ) c (weaken_read x) (weaken_own u)
moved_under γ f τ c None u h = h
moved_under γ f τ c (Some (n, v)) None h = absurd h
moved_under γ f τ c (Some (n, v)) (Some U) (e, a, q) = (count_renamed suc U ∙ e, a, ap (rename_image suc) q ∙ ap (put a) (rename_eta_expand suc a (constant (γ c)) (substitute_spine reduce τ (read_spine f U)) ∙ ap (eta_expand a (constant (γ c))) (lifted_read f τ U)))

put_first : {a b : Skeleton} {M N : Term} → put a M ≡ put b N → a ≡ b
put_first e = cc

module _ (γ : ℕ → ℕ) (κ κ' : HeadSkeletons) (no : (m : ℕ) (t : Skeleton) → κ.metavariable_skeleton m ≡ Some t → ⊥) where
  abbrev pub MovesAll : (ℕ → Option (ℕ × ℕ)) → (ℕ → Option Spine) → (ℕ → Image) → Type 0
  MovesAll f o τ = (c : ℕ) (t : Skeleton) → κ.constant_skeleton c ≡ Some t → WritesMoved γ f τ c (f c) (o c)

  -- a constant, its arguments being the same
  constant_same : (Θ Δ : List Skeleton) (f : ℕ → Option (ℕ × ℕ)) (τ : ℕ → Image) (c d : ℕ) (S : Spine) (x : Option (ℕ × ℕ)) (u : Option Spine) → WritesMoved γ f τ c x u → BeginsWith u S → SubstitutionBySkeletons κ' Θ Δ τ → TermSkeleton κ' Θ (read_constant x c (read_spine f S)) (base d) → substitute_spine reduce τ (read_spine f S) ≡ substitute_spine reduce τ (move_spine γ S) → substitute reduce τ (read_constant x c (read_spine f S)) ≡ root (constant (γ c)) (substitute_spine reduce τ (move_spine γ S))
  constant_same Θ Δ f τ c d S None u h b s k e = ap₂ (λ j T. root (constant j) T) (sym h) e
  constant_same Θ Δ f τ c d S (Some (n, v)) None h b s k e = absurd h
  constant_same Θ Δ f τ c d S (Some (n, v)) (Some U) (l, a, q) (V, b) s (t, g, k) e =
      let U' : Spine = substitute_spine reduce τ (read_spine f U) in
      let V' : Spine = substitute_spine reduce τ (read_spine f V) in
      let dropped : drop_arguments n (read_spine f S) ≡ read_spine f V = ap (λ m. drop_arguments m (read_spine f S)) (sym l) ∙ ap (λ T. drop_arguments (argument_count U) (read_spine f T)) b ∙ drop_own f U V in
      let same : a ≡ t = at (τ v) q (s v t g) in
      let sk : SpineSkeleton κ' Δ V' a (base d) = subst (λ z. SpineSkeleton κ' Δ V' z (base d)) (sym same) (substitution_keeps_spine_skeletons κ' Θ Δ τ (read_spine f V) t (base d) s (subst (λ T. SpineSkeleton κ' Θ T t (base d)) dropped k)) in
      ap₂ (λ y T. apply_image reduce y (substitute_spine reduce τ T)) q dropped
      ∙ (eta_both κ' a).0 Δ (constant (γ c)) U' V' d sk
      ∙ ap (root (constant (γ c))) (sym (substitute_append τ (read_spine f U) (read_spine f V)) ∙ ap (substitute_spine reduce τ) (sym (read_append f U V) ∙ ap (read_spine f) (sym b)) ∙ e)
    where
      at : (y : Image) → y ≡ put a (eta_expand a (constant (γ c)) (substitute_spine reduce τ (read_spine f U))) → ImageSkeleton κ' Δ y t → a ≡ t
      at (keep j) r h = absurd cc
      at (put b' N) r (p, h) = sym (put_first r) ∙ p

  inside_under : (Γ Θ : List Skeleton) (a : Skeleton) → Inside κ κ' no Γ Θ → Inside κ κ' no (a ∷ Γ) (a ∷ Θ)
  inside_under Γ Θ a i zero t e = e
  inside_under Γ Θ a i (suc j) t e = i j t e

  mutual
    pub read_moved : (Γ Θ Δ : List Skeleton) (f : ℕ → Option (ℕ × ℕ)) (o : ℕ → Option Spine) (τ : ℕ → Image) (M : Term) (t : Skeleton) → Inside κ κ' no Γ Θ → Reads κ κ' no Θ f o → MovesAll f o τ → SubstitutionBySkeletons κ' Θ Δ τ → TermSkeleton κ Γ M t → OnOwnTerms o M → substitute reduce τ (read f M) ≡ substitute reduce τ (move γ M)
    read_moved Γ Θ Δ f o τ (lambda M) (arrow a b) i h w s m own = ap lambda (read_moved (a ∷ Γ) (a ∷ Θ) (a ∷ Δ) (under_read f) (λ c. weaken_own (o c)) (lift τ) M b (inside_under Γ Θ a i) (λ c t e. skeleton_under κ' Θ a (f c) (o c) c t (h c t e)) (λ c t e. moved_under γ f τ c (f c) (o c) (w c t e)) (lift_by_skeletons κ' a Θ Δ τ s) m own)
    read_moved Γ Θ Δ f o τ (lambda M) (base d) i h w s m own = absurd m
    read_moved Γ Θ Δ f o τ (root k S) (arrow a b) i h w s m own = absurd m
    read_moved Γ Θ Δ f o τ (root (constant c) S) (base d) i h w s (t, g, m) (b, own) = constant_same Θ Δ f τ c d S (f c) (o c) (w c t g) b s (read_has_skeleton κ κ' no Γ Θ f o (root (constant c) S) (base d) i h (t, g, m) (b, own)) (read_moved_spine Γ Θ Δ f o τ S t (base d) i h w s m own)
    read_moved Γ Θ Δ f o τ (root (variable j) S) (base d) i h w s (t, g, m) own = ap (apply_image reduce (τ j)) (read_moved_spine Γ Θ Δ f o τ S t (base d) i h w s m own)
    read_moved Γ Θ Δ f o τ (root (metavariable m) S) (base d) i h w s (t, g, k) own = absurd (no m t g)

    pub read_moved_spine : (Γ Θ Δ : List Skeleton) (f : ℕ → Option (ℕ × ℕ)) (o : ℕ → Option Spine) (τ : ℕ → Image) (S : Spine) (t u : Skeleton) → Inside κ κ' no Γ Θ → Reads κ κ' no Θ f o → MovesAll f o τ → SubstitutionBySkeletons κ' Θ Δ τ → SpineSkeleton κ Γ S t u → SpineOnOwnTerms o S → substitute_spine reduce τ (read_spine f S) ≡ substitute_spine reduce τ (move_spine γ S)
    read_moved_spine Γ Θ Δ f o τ nil t u i h w s m own = refl
    read_moved_spine Γ Θ Δ f o τ (app M S) (arrow a b) u i h w s (m, k) (p, own) = ap₂ app (read_moved Γ Θ Δ f o τ M a i h w s m p) (read_moved_spine Γ Θ Δ f o τ S b u i h w s k own)
    read_moved_spine Γ Θ Δ f o τ (app M S) (base d) u i h w s m own = absurd m

  pub read_moved_type : (φ : ℕ → Option Skeleton) (Γ Θ Δ : List Skeleton) (f : ℕ → Option (ℕ × ℕ)) (o : ℕ → Option Spine) (τ : ℕ → Image) (A : LfType) → Inside κ κ' no Γ Θ → Reads κ κ' no Θ f o → MovesAll f o τ → SubstitutionBySkeletons κ' Θ Δ τ → TypeBySkeletons φ κ Γ A → TypeOnOwnTerms o A → substitute_type reduce τ (read_type f A) ≡ substitute_type reduce τ (move_type γ A)
  read_moved_type φ Γ Θ Δ f o τ (pi A B) i h w s (a, b) (p, q) = ap₂ pi (read_moved_type φ Γ Θ Δ f o τ A i h w s a p) (read_moved_type φ (skeleton A ∷ Γ) (skeleton A ∷ Θ) (skeleton A ∷ Δ) (under_read f) (λ c. weaken_own (o c)) (lift τ) B (inside_under Γ Θ (skeleton A) i) (λ c t e. skeleton_under κ' Θ (skeleton A) (f c) (o c) c t (h c t e)) (λ c t e. moved_under γ f τ c (f c) (o c) (w c t e)) (lift_by_skeletons κ' (skeleton A) Θ Δ τ s) b q)
  read_moved_type φ Γ Θ Δ f o τ (atom a S) i h w s (t, g, m) own = ap (atom a) (read_moved_spine Γ Θ Δ f o τ S t (base a) i h w s m own)
