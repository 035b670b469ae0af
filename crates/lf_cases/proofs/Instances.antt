-- In a context of worlds beside S, a variable whose family is in S is an entry of an instance that is whole.
use Rattle.lf_cases.specs.Cover.{InstanceIn, InstanceBefore, place_of}
use Rattle.lf_checks.specs.Clause.{among}
use Rattle.std.proofs.Common.{◌≡◌, ℕ, zero, suc, List, ◌∷◌, refl, sym, ap, ◌∙◌, subst, inl, inr, true≢false, []}
use Rattle.std.specs.Prelude.{Bool, true, ◌⊎◌}
use Rattle.lf.specs.Syntax.{LfType}
use Rattle.lf.specs.Substitution.{Image, keep, rename_image, lift, substitute_type, reduce}
use Rattle.lf.specs.Typing.{Signature, TypeAt, IsSignature, ImageHasType}
use Rattle.lf.specs.Variables.{target, onto, under, Values, everything}
use Rattle.lf.specs.Subordination.{Block, Member}
use Rattle.lf.specs.Worlds.{World, OpenInstance, no_variables, single_variable, whole_instance, begin_instance, next_entry, single_beside}
use Rattle.lf.proofs.Renaming.{reduction_is_natural}
use Rattle.lf.proofs.TypeLaws.{rename_substituted_type}
use Rattle.lf.proofs.Partial.{ImageHasType-weakened, typed-lift, uses_type_all}
use Rattle.lf.proofs.Target.{target_renamed}

module _ (Σ : Signature) (ok : IsSignature Σ) where
  values_weakened : (C G : List LfType) (θ : ℕ → Image) (B : LfType) → Values Σ everything C G θ → Values Σ everything C (B ∷ G) (λ i. rename_image suc (θ i))
  values_weakened C G θ B v = record {
    typed = λ i A g u. subst (ImageHasType Σ (B ∷ G) (rename_image suc (θ i))) (rename_substituted_type reduce reduction_is_natural suc θ A) (ImageHasType-weakened Σ ok G B (θ i) (substitute_type reduce θ A) (v.typed i A g u));
    closed = v.closed;
  }

  -- the instance that is open: typed, with a variable for each entry so far
  pub record Begun (G : List LfType) (B : Block) (es : List LfType) (θ : ℕ → Image) : Type 0 where
    pub typed : Values Σ everything (onto es B.some) G θ
    pub kept : (i : ℕ) → among es i ≡ true → (j : ℕ) × (θ i ≡ keep j)

  begun_weakened : (G : List LfType) (B : Block) (es : List LfType) (θ : ℕ → Image) (X : LfType) → Begun G B es θ → Begun (X ∷ G) B es (λ i. rename_image suc (θ i))
  begun_weakened G B es θ X b = record { typed = values_weakened (onto es B.some) G θ X b.typed; kept = λ i e. let (j, q) = b.kept i e in (suc j, ap (rename_image suc) q) }

  under_true : (i : ℕ) → under everything i ≡ true
  under_true zero = refl
  under_true (suc i) = refl

  next_kept : (es : List LfType) (θ : ℕ → Image) (E : LfType) → ((i : ℕ) → among es i ≡ true → (j : ℕ) × (θ i ≡ keep j)) → (i : ℕ) → among (E ∷ es) i ≡ true → (j : ℕ) × (lift θ i ≡ keep j)
  next_kept es θ E h zero e = (zero, refl)
  next_kept es θ E h (suc i) e = let (j, q) = h i e in (suc j, ap (rename_image suc) q)

  begun : {W : List Block} {S : ℕ → Bool} {B : Block} {G es : List LfType} {θ : ℕ → Image} → OpenInstance Σ W S B G es θ → Begun G B es θ
  begun (begin_instance {B = B} {G = G} {θ = θ} w v) = record { typed = v; kept = λ i e. absurd cc }
  begun (next_entry {B = B} {G = G} {es = es} {θ = θ} E o t) = record {
    typed = record {
      typed = λ i A g u. typed-lift Σ ok everything (onto es B.some) G θ E ((begun o).typed.typed) i A g (under_true i);
      closed = λ i A g u. uses_type_all everything A (λ j. refl);
    };
    kept = next_kept es θ E (begun o).kept;
  }
  begun (single_beside {B = B} {G = G} {es = es} {θ = θ} {A = A} o t n) = begun_weakened G B es θ A (begun o)

  -- what stands for an instance of a context is typed, with a variable for each entry
  mutual
    pub instance_typed : {W : List Block} {S : ℕ → Bool} {G : List LfType} (w : World Σ W S G) (B : Block) (θ : ℕ → Image) → InstanceIn w B θ → Begun G B B.entries θ
    instance_typed no_variables B θ i = absurd i
    instance_typed (single_variable {G = G} {A = X} w t n) B θ (τ, i, e) = subst (Begun (X ∷ G) B B.entries) (sym e) (begun_weakened G B B.entries τ X (instance_typed w B τ i))
    instance_typed (whole_instance {G = G} {es = es} {θ = τ} C m q o) B θ (inl (e, f)) = subst (λ D. Begun G D D.entries θ) (sym e) (subst (Begun G C C.entries) (sym f) (subst (λ ds. Begun G C ds τ) q (begun o)))
    instance_typed (whole_instance C m q o) B θ (inr i) = before_typed o B θ i

    before_typed : {W : List Block} {S : ℕ → Bool} {C : Block} {G es : List LfType} {τ : ℕ → Image} (o : OpenInstance Σ W S C G es τ) (B : Block) (θ : ℕ → Image) → InstanceBefore o B θ → Begun G B B.entries θ
    before_typed (begin_instance w v) B θ i = instance_typed w B θ i
    before_typed (next_entry {G = G} {θ = τ} E o t) B θ (υ, i, e) = subst (Begun (substitute_type reduce τ E ∷ G) B B.entries) (sym e) (begun_weakened G B B.entries υ (substitute_type reduce τ E) (before_typed o B υ i))
    before_typed (single_beside {G = G} {A = X} o t n) B θ (υ, i, e) = subst (Begun (X ∷ G) B B.entries) (sym e) (begun_weakened G B B.entries υ X (before_typed o B υ i))

  -- variable i is an entry of an instance in the context; and one of what precedes an instance that isn't whole, or of it
  abbrev pub EntryAt : {W : List Block} {S : ℕ → Bool} {G : List LfType} → World Σ W S G → ℕ → Type 0
  EntryAt {W} w i = (B : Block) × Member B W × (θ : ℕ → Image) × InstanceIn w B θ × (k : ℕ) × (among B.entries k ≡ true) × (θ k ≡ keep i)

  abbrev OpenAt : {W : List Block} {S : ℕ → Bool} {C : Block} {G es : List LfType} {τ : ℕ → Image} → OpenInstance Σ W S C G es τ → ℕ → Type 0
  OpenAt {W} {es = es} {τ = τ} o i = ((B : Block) × Member B W × (θ : ℕ → Image) × InstanceBefore o B θ × (k : ℕ) × (among B.entries k ≡ true) × (θ k ≡ keep i)) ⊎ ((k : ℕ) × (among es k ≡ true) × (τ k ≡ keep i))

  mutual
    pub entry_of : {W : List Block} {S : ℕ → Bool} {G : List LfType} (w : World Σ W S G) (i : ℕ) (A : LfType) → TypeAt G i A → S (target A) ≡ true → EntryAt w i
    entry_of no_variables i A g s = absurd g
    entry_of {S = S} (single_variable {A = X} w t n) zero A g s = absurd (true≢false (sym s ∙ ap S (ap target g ∙ target_renamed suc X) ∙ n))
    entry_of {S = S} (single_variable w t n) (suc i) A (C, g, e) s =
        let (B, m, θ, h, k, a, q) = entry_of w i C g (sym (ap S (ap target e ∙ target_renamed suc C)) ∙ s) in (B, m, (λ j. rename_image suc (θ j)), (θ, h, refl), k, a, ap (rename_image suc) q)
    entry_of (whole_instance {θ = τ} C m e o) i A g s = done (open_of o i A g s)
      where
        done : OpenAt o i → EntryAt (whole_instance C m e o) i
        done (inl (B, l, θ, h, k, a, q)) = (B, l, θ, inr h, k, a, q)
        done (inr (k, a, q)) = (C, m, τ, inl (refl, refl), k, ap (λ ds. among ds k) (sym e) ∙ a, q)

    open_of : {W : List Block} {S : ℕ → Bool} {C : Block} {G es : List LfType} {τ : ℕ → Image} (o : OpenInstance Σ W S C G es τ) (i : ℕ) (A : LfType) → TypeAt G i A → S (target A) ≡ true → OpenAt o i
    open_of (begin_instance w v) i A g s = inl (entry_of w i A g s)
    open_of (next_entry E o t) zero A g s = inr (zero, refl, refl)
    open_of {S = S} (next_entry E o t) (suc i) A (C, g, e) s = on (open_of o i C g (sym (ap S (ap target e ∙ target_renamed suc C)) ∙ s))
      where
        on : OpenAt o i → OpenAt (next_entry E o t) (suc i)
        on (inl (B, l, θ, h, k, a, q)) = inl (B, l, (λ j. rename_image suc (θ j)), (θ, h, refl), k, a, ap (rename_image suc) q)
        on (inr (k, a, q)) = inr (suc k, a, ap (rename_image suc) q)
    open_of {S = S} (single_beside {A = X} o t n) zero A g s = absurd (true≢false (sym s ∙ ap S (ap target g ∙ target_renamed suc X) ∙ n))
    open_of {S = S} (single_beside o t n) (suc i) A (C, g, e) s = on (open_of o i C g (sym (ap S (ap target e ∙ target_renamed suc C)) ∙ s))
      where
        on : OpenAt o i → OpenAt (single_beside o t n) (suc i)
        on (inl (B, l, θ, h, k, a, q)) = inl (B, l, (λ j. rename_image suc (θ j)), (θ, h, refl), k, a, ap (rename_image suc) q)
        on (inr (k, a, q)) = inr (k, a, ap (rename_image suc) q)

-- the entry after which these follow is one
pub place_among : (later : List LfType) (E : LfType) (es : List LfType) → among (onto later (E ∷ es)) (place_of later) ≡ true
place_among [] E es = refl
place_among (D ∷ later) E es = place_among later E es
