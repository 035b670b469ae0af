-- In a context of worlds what stands behind an entry of an instance mentions older variables than the entry alone. And terms on own terms where the
-- constants of a term have none.
use Rattle.std.proofs.Common.{◌≡◌, ℕ, zero, suc, List, [], ◌∷◌, Option, None, inl, inr, refl, sym, ap, ◌∙◌, subst, arith}
use Rattle.std.specs.Prelude.{Bool, true, false, ◌<◌}
use Rattle.lf.specs.Syntax.{constant, variable, metavariable, Term, Spine, lambda, root, nil, app, LfType, pi, atom}
use Rattle.lf.specs.Substitution.{Image, keep, put, rename_image, lift, substitute, substitute_spine, substitute_type, reduce}
use Rattle.lf.specs.Typing.{Signature}
use Rattle.lf.specs.Variables.{onto, under, Uses, UsesSpine, UsesType, ImageUses, everything}
use Rattle.lf.specs.Subordination.{Block}
use Rattle.lf.specs.Worlds.{World, OpenInstance, no_variables, single_variable, whole_instance, begin_instance, next_entry, single_beside}
use Rattle.lf.proofs.Partial.{uses_all}
use Rattle.lf.proofs.Renaming.{OnPut-all}
use Rattle.lf.proofs.Uses.{uses_renamed}
use Rattle.lf_cases.specs.Cover.{InstanceIn, InstanceBefore, place_of}
use Rattle.lf_coverage.proofs.Parts.{keep_same}
use Rattle.lf_coverage.proofs.SameInstance.{moved_keep}
use Rattle.lf_numbered.specs.OwnTerms.{weaken_own, BeginsWith, OnOwnTerms, SpineOnOwnTerms, TypeOnOwnTerms, ImageOnOwnTerms}
use Rattle.lf_numbered.proofs.OwnTerms.{image_under, plug_own, RedOwn, reduce_own}
use Rattle.lf_numbered.proofs.Reading.{OnlyConstants, SpineOnlyConstants, TypeOnlyConstants}

-- the variables that are older than v
abbrev pub above : ℕ → ℕ → Bool
above zero zero = false
above zero (suc i) = true
above (suc v) zero = false
above (suc v) (suc i) = above v i

pub above_is : (v i : ℕ) → above v i ≡ true → v < i
above_is zero zero e = absurd cc
above_is zero (suc i) e = omega arith
above_is (suc v) zero e = absurd cc
above_is (suc v) (suc i) e = let l = above_is v i e in omega (arith, l)

renamed_above_zero : (x : Image) → ImageUses (above zero) (rename_image suc x)
renamed_above_zero (keep j) = refl
renamed_above_zero (put a N) = uses_renamed everything (above zero) suc N (λ i u. refl) (uses_all everything N (λ i. refl))

renamed_above : (v : ℕ) (x : Image) → ImageUses (above v) x → ImageUses (above (suc v)) (rename_image suc x)
renamed_above v (keep j) h = h
renamed_above v (put a N) h = uses_renamed (above v) (above (suc v)) suc N (λ i u. u) h

tail_same : {D E : LfType} {ds es : List LfType} → D ∷ ds ≡ E ∷ es → ds ≡ es
tail_same e = cc

next_less : {p k : ℕ} → suc p < suc k → p < k
next_less l = omega (arith, l)

nothing_less : {p : ℕ} → p < zero → ⊥
nothing_less l = omega (arith, l)

module _ (Σ : Signature) where
  moved_above : (τ : ℕ → Image) (p v k : ℕ) → rename_image suc (τ p) ≡ keep v → ((u : ℕ) → τ p ≡ keep u → ImageUses (above u) (τ k)) → ImageUses (above v) (rename_image suc (τ k))
  moved_above τ p v k e h = let (u, q, s) = moved_keep (τ p) v e in subst (λ m. ImageUses (above m) (rename_image suc (τ k))) s (renamed_above u (τ k) (h u q))

  mutual
    pub instance_above : {W : List Block} {S : ℕ → Bool} {G : List LfType} (w : World Σ W S G) (B : Block) (φ : ℕ → Image) → InstanceIn w B φ → (later : List LfType) (E : LfType) (ds : List LfType) → onto later (E ∷ ds) ≡ B.entries → (v : ℕ) → φ (place_of later) ≡ keep v → (k : ℕ) → place_of later < k → ImageUses (above v) (φ k)
    instance_above no_variables B φ i later E ds e v p k l = absurd i
    instance_above (single_variable w t n) B φ (τ, i, q) later E ds e v p k l = subst (λ g. ImageUses (above v) (g k)) (sym q) (moved_above τ (place_of later) v k (sym (ap (λ g. g (place_of later)) q) ∙ p) (λ u s. instance_above w B τ i later E ds e u s k l))
    instance_above (whole_instance {θ = τ} C m d o) B φ (inl (b, f)) later E ds e v p k l = subst (λ g. ImageUses (above v) (g k)) (sym f) (open_above o later E ds (e ∙ ap (λ (D : Block). D.entries) b ∙ sym d) v (sym (ap (λ g. g (place_of later)) f) ∙ p) k l)
    instance_above (whole_instance C m d o) B φ (inr i) later E ds e v p k l = before_above o B φ i later E ds e v p k l

    before_above : {W : List Block} {S : ℕ → Bool} {C : Block} {G es : List LfType} {τ : ℕ → Image} (o : OpenInstance Σ W S C G es τ) (B : Block) (φ : ℕ → Image) → InstanceBefore o B φ → (later : List LfType) (E : LfType) (ds : List LfType) → onto later (E ∷ ds) ≡ B.entries → (v : ℕ) → φ (place_of later) ≡ keep v → (k : ℕ) → place_of later < k → ImageUses (above v) (φ k)
    before_above (begin_instance w t) B φ i later E ds e v p k l = instance_above w B φ i later E ds e v p k l
    before_above (next_entry D o t) B φ (υ, i, q) later E ds e v p k l = subst (λ g. ImageUses (above v) (g k)) (sym q) (moved_above υ (place_of later) v k (sym (ap (λ g. g (place_of later)) q) ∙ p) (λ u s. before_above o B υ i later E ds e u s k l))
    before_above (single_beside o t n) B φ (υ, i, q) later E ds e v p k l = subst (λ g. ImageUses (above v) (g k)) (sym q) (moved_above υ (place_of later) v k (sym (ap (λ g. g (place_of later)) q) ∙ p) (λ u s. before_above o B υ i later E ds e u s k l))

    open_above : {W : List Block} {S : ℕ → Bool} {C : Block} {G es : List LfType} {τ : ℕ → Image} (o : OpenInstance Σ W S C G es τ) (later : List LfType) (E : LfType) (ds : List LfType) → onto later (E ∷ ds) ≡ es → (v : ℕ) → τ (place_of later) ≡ keep v → (k : ℕ) → place_of later < k → ImageUses (above v) (τ k)
    open_above (begin_instance w t) [] E ds e v p k l = absurd cc
    open_above (begin_instance w t) (D ∷ later) E ds e v p k l = absurd cc
    open_above (next_entry {θ = θ} F o t) [] E ds e v p zero l = absurd (nothing_less l)
    open_above (next_entry {θ = θ} F o t) [] E ds e v p (suc k) l = subst (λ m. ImageUses (above m) (rename_image suc (θ k))) (keep_same p) (renamed_above_zero (θ k))
    open_above (next_entry {θ = θ} F o t) (D ∷ later) E ds e v p zero l = absurd (nothing_less l)
    open_above (next_entry {θ = θ} F o t) (D ∷ later) E ds e v p (suc k) l = moved_above θ (place_of later) v k p (λ u s. open_above o later E ds (tail_same e) u s k (next_less l))
    open_above (single_beside {θ = θ} o t n) later E ds e v p k l = moved_above θ (place_of later) v k p (λ u s. open_above o later E ds e u s k l)

-- values under a binder
images : (o : ℕ → Option Spine) (U : ℕ → Bool) (σ : ℕ → Image) → ((i : ℕ) → U i ≡ true → ImageOnOwnTerms o (σ i)) → (i : ℕ) → under U i ≡ true → ImageOnOwnTerms (λ c. weaken_own (o c)) (lift σ i)
images o U σ v zero u = tt
images o U σ v (suc i) u = image_under o (σ i) (v i u)

-- A term whose constants have no own terms, with values on own terms put in for the variables that it uses.
mutual
  pub free_own : (P : ℕ → Type 0) (o : ℕ → Option Spine) (U : ℕ → Bool) (σ : ℕ → Image) (M : Term) → ((c : ℕ) → P c → o c ≡ None) → ((i : ℕ) → U i ≡ true → ImageOnOwnTerms o (σ i)) → OnlyConstants P M → Uses U M → OnOwnTerms o (substitute reduce σ M)
  free_own P o U σ (lambda M) h v m u = free_own P (λ c. weaken_own (o c)) (under U) (lift σ) M (λ c p. ap weaken_own (h c p)) (images o U σ v) m u
  free_own P o U σ (root (constant c) S) h v (p, m) u = (subst (λ x. BeginsWith x (substitute_spine reduce σ S)) (sym (h c p)) tt, free_own_spine P o U σ S h v m u)
  free_own P o U σ (root (metavariable c) S) h v m u = free_own_spine P o U σ S h v m u
  free_own P o U σ (root (variable i) S) h v m (k, u) = plug_own o (σ i) (substitute_spine reduce σ S) (OnPut-all RedOwn reduce_own (σ i)) (v i k) (free_own_spine P o U σ S h v m u)

  free_own_spine : (P : ℕ → Type 0) (o : ℕ → Option Spine) (U : ℕ → Bool) (σ : ℕ → Image) (S : Spine) → ((c : ℕ) → P c → o c ≡ None) → ((i : ℕ) → U i ≡ true → ImageOnOwnTerms o (σ i)) → SpineOnlyConstants P S → UsesSpine U S → SpineOnOwnTerms o (substitute_spine reduce σ S)
  free_own_spine P o U σ nil h v m u = tt
  free_own_spine P o U σ (app M S) h v (m, n) (u, k) = (free_own P o U σ M h v m u, free_own_spine P o U σ S h v n k)

pub free_own_type : (P : ℕ → Type 0) (o : ℕ → Option Spine) (U : ℕ → Bool) (σ : ℕ → Image) (A : LfType) → ((c : ℕ) → P c → o c ≡ None) → ((i : ℕ) → U i ≡ true → ImageOnOwnTerms o (σ i)) → TypeOnlyConstants P A → UsesType U A → TypeOnOwnTerms o (substitute_type reduce σ A)
free_own_type P o U σ (pi A B) h v (m, n) (u, k) = (free_own_type P o U σ A h v m u, free_own_type P (λ c. weaken_own (o c)) (under U) (lift σ) B (λ c p. ap weaken_own (h c p)) (images o U σ v) n k)
free_own_type P o U σ (atom a S) h v m u = free_own_spine P o U σ S h v m u
