-- An entry of a context belongs to one instance; so it is found whether a block variable of a case stands for that instance.
use Rattle.std.proofs.Common.{◌≡◌, ℕ, zero, suc, List, [], ◌∷◌, ◌+◌, length, inl, inr, refl, sym, ap, ◌∙◌, subst, arith}
use Rattle.std.specs.Prelude.{Bool, true, false, ◌⊎◌}
use Rattle.lf.specs.Syntax.{LfType, weaken}
use Rattle.lf.specs.Substitution.{Image, keep, put, rename_image}
use Rattle.lf.specs.Typing.{Signature, TypeAt}
use Rattle.lf.specs.Variables.{onto}
use Rattle.lf.specs.Subordination.{Block}
use Rattle.lf.specs.Worlds.{World, OpenInstance, no_variables, single_variable, whole_instance, begin_instance, next_entry, single_beside, instance}
use Rattle.lf_checks.specs.Clause.{among}
use Rattle.lf_cases.specs.Cover.{InstanceIn, InstanceBefore}
use Rattle.lf_cases.specs.Case.{Item, free_variable, block_variable, items_context, entries_in_front, IsGroundInstance}
use Rattle.lf_cases.specs.Split.{StandsFor}
use Rattle.lf_unification.proofs.Offer.{decide}
use Rattle.lf_cases.specs.Candidates.{hide_all, free_among}
use Rattle.lf_coverage.proofs.Parts.{keep_same}

-- A moved image that is a variable was one.
pub moved_keep : (x : Image) (v : ℕ) → rename_image suc x ≡ keep v → (u : ℕ) × (x ≡ keep u) × (suc u ≡ v)
moved_keep (keep i) v e = (i, refl, keep_same e)
moved_keep (put a N) v e = absurd (no e)
  where
    no : put a (Rattle.lf.specs.Syntax.rename suc N) ≡ keep v → ⊥
    no e = cc

suc_same : {m n v : ℕ} → suc m ≡ v → suc n ≡ v → m ≡ n
suc_same e f = omega arith

not_zero : {m : ℕ} → suc m ≡ zero → ⊥
not_zero e = omega arith

module _ (Σ : Signature) where
  -- both are variables before the newest one, the same
  pub before_newest : (x y : Image) (v : ℕ) → rename_image suc x ≡ keep v → rename_image suc y ≡ keep v → (u : ℕ) × (x ≡ keep u) × (y ≡ keep u)
  before_newest x y v e f = let (a, p, q) = moved_keep x v e in let (b, r, s) = moved_keep y v f in (a, p, r ∙ ap keep (suc_same s q))

  -- an entry of the instance that isn't whole yet stands in no earlier one
  apart : {W : List Block} {S : ℕ → Bool} {C : Block} {G es : List LfType} {τ : ℕ → Image} (o : OpenInstance Σ W S C G es τ) (B : Block) (θ : ℕ → Image) → InstanceBefore o B θ → (k l v : ℕ) → among es k ≡ true → τ k ≡ keep v → θ l ≡ keep v → ⊥
  apart (begin_instance w t) B θ i k l v a e f = absurd cc
  apart (next_entry E o t) B θ (υ, i, q) zero l v a e f =
      let (u, p, r) = moved_keep (υ l) v (sym (ap (λ g. g l) q) ∙ f) in
      not_zero (r ∙ sym (keep_same e))
  apart (next_entry {θ = τ} E o t) B θ (υ, i, q) (suc k) l v a e f =
      let (u, p, r) = before_newest (τ k) (υ l) v e (sym (ap (λ g. g l) q) ∙ f) in
      apart o B υ i k l u a p r
  apart (single_beside {θ = τ} o t n) B θ (υ, i, q) k l v a e f =
      let (u, p, r) = before_newest (τ k) (υ l) v e (sym (ap (λ g. g l) q) ∙ f) in
      apart o B υ i k l u a p r

  -- An entry belongs to one instance.
  mutual
    pub instance_unique : {W : List Block} {S : ℕ → Bool} {G : List LfType} (w : World Σ W S G) (B C : Block) (θ φ : ℕ → Image) → InstanceIn w B θ → InstanceIn w C φ → (k l v : ℕ) → among B.entries k ≡ true → among C.entries l ≡ true → θ k ≡ keep v → φ l ≡ keep v → (C ≡ B) × (φ ≡ θ)
    instance_unique no_variables B C θ φ i j k l v a b e f = absurd i
    instance_unique (single_variable w t n) B C θ φ (θ', i, p) (φ', j, q) k l v a b e f =
        let (u, r, s) = before_newest (θ' k) (φ' l) v (sym (ap (λ g. g k) p) ∙ e) (sym (ap (λ g. g l) q) ∙ f) in
        let (x, y) = instance_unique w B C θ' φ' i j k l u a b r s in
        (x, q ∙ ap (λ g m. rename_image suc (g m)) y ∙ sym p)
    instance_unique (whole_instance {θ = τ} D m d o) B C θ φ (inl (p, q)) (inl (r, s)) k l v a b e f = (r ∙ sym p, s ∙ sym q)
    instance_unique (whole_instance {θ = τ} D m d o) B C θ φ (inl (p, q)) (inr j) k l v a b e f = absurd (apart o C φ j k l v (ap (λ ds. among ds k) d ∙ ap (λ X. among X.entries k) (sym p) ∙ a) (sym (ap (λ g. g k) q) ∙ e) f)
    instance_unique (whole_instance {θ = τ} D m d o) B C θ φ (inr i) (inl (r, s)) k l v a b e f = absurd (apart o B θ i l k v (ap (λ ds. among ds l) d ∙ ap (λ X. among X.entries l) (sym r) ∙ b) (sym (ap (λ g. g l) s) ∙ f) e)
    instance_unique (whole_instance {θ = τ} D m d o) B C θ φ (inr i) (inr j) k l v a b e f = before_unique o B C θ φ i j k l v a b e f

    before_unique : {W : List Block} {S : ℕ → Bool} {D : Block} {G es : List LfType} {τ : ℕ → Image} (o : OpenInstance Σ W S D G es τ) (B C : Block) (θ φ : ℕ → Image) → InstanceBefore o B θ → InstanceBefore o C φ → (k l v : ℕ) → among B.entries k ≡ true → among C.entries l ≡ true → θ k ≡ keep v → φ l ≡ keep v → (C ≡ B) × (φ ≡ θ)
    before_unique (begin_instance w t) B C θ φ i j k l v a b e f = instance_unique w B C θ φ i j k l v a b e f
    before_unique (next_entry E o t) B C θ φ (θ', i, p) (φ', j, q) k l v a b e f =
        let (u, r, s) = before_newest (θ' k) (φ' l) v (sym (ap (λ g. g k) p) ∙ e) (sym (ap (λ g. g l) q) ∙ f) in
        let (x, y) = before_unique o B C θ' φ' i j k l u a b r s in
        (x, q ∙ ap (λ g m. rename_image suc (g m)) y ∙ sym p)
    before_unique (single_beside o t n) B C θ φ (θ', i, p) (φ', j, q) k l v a b e f =
        let (u, r, s) = before_newest (θ' k) (φ' l) v (sym (ap (λ g. g k) p) ∙ e) (sym (ap (λ g. g l) q) ∙ f) in
        let (x, y) = before_unique o B C θ' φ' i j k l u a b r s in
        (x, q ∙ ap (λ g m. rename_image suc (g m)) y ∙ sym p)

-- whether an image is this variable
is_variable : (x : Image) (v : ℕ) → (x ≡ keep v) ⊎ (x ≡ keep v → ⊥)
is_variable (keep i) v = by (decide i v)
  where
    by : (i ≡ v) ⊎ (i ≡ v → ⊥) → (keep i ≡ keep v) ⊎ (keep i ≡ keep v → ⊥)
    by (inl e) = inl (ap keep e)
    by (inr n) = inr (λ e. n (let q : i ≡ v = cc in q))
is_variable (put a N) v = inr (λ e. cc)

-- whether one of the entries is this variable
pub find_entry : (ds : List LfType) (φ : ℕ → Image) (v : ℕ) → ((l : ℕ) × (among ds l ≡ true) × (φ l ≡ keep v)) ⊎ ((l : ℕ) → among ds l ≡ true → φ l ≡ keep v → ⊥)
find_entry [] φ v = inr (λ l a e. absurd cc)
find_entry (D ∷ ds) φ v = by (is_variable (φ zero) v) (find_entry ds (λ i. φ (suc i)) v)
  where
    none : (φ zero ≡ keep v → ⊥) → ((l : ℕ) → among ds l ≡ true → φ (suc l) ≡ keep v → ⊥) → (l : ℕ) → among (D ∷ ds) l ≡ true → φ l ≡ keep v → ⊥
    none n m zero a e = n e
    none n m (suc l) a e = m l a e

    by : (φ zero ≡ keep v) ⊎ (φ zero ≡ keep v → ⊥) → ((l : ℕ) × (among ds l ≡ true) × (φ (suc l) ≡ keep v)) ⊎ ((l : ℕ) → among ds l ≡ true → φ (suc l) ≡ keep v → ⊥) → ((l : ℕ) × (among (D ∷ ds) l ≡ true) × (φ l ≡ keep v)) ⊎ ((l : ℕ) → among (D ∷ ds) l ≡ true → φ l ≡ keep v → ⊥)
    by (inl e) r = inl (zero, refl, e)
    by (inr n) (inl (l, a, e)) = inl (suc l, a, e)
    by (inr n) (inr m) = inr (none n m)

-- entries in front of values
pub front_entry : (ds : List LfType) (φ τ : ℕ → Image) (l : ℕ) → among ds l ≡ true → entries_in_front ds φ τ l ≡ φ l
front_entry [] φ τ l a = absurd cc
front_entry (D ∷ ds) φ τ zero a = refl
front_entry (D ∷ ds) φ τ (suc l) a = front_entry ds (λ i. φ (suc i)) τ l a

pub front_behind : (ds : List LfType) (φ τ : ℕ → Image) (i : ℕ) → entries_in_front ds φ τ (i + length ds) ≡ τ i
front_behind [] φ τ i = ap τ (none i)
  where
    none : (i : ℕ) → i + 0 ≡ i
    none i = omega arith
front_behind (D ∷ ds) φ τ i = ap (entries_in_front (D ∷ ds) φ τ) (next i (length ds)) ∙ front_behind ds (λ j. φ (suc j)) τ i
  where
    next : (i n : ℕ) → i + suc n ≡ suc (i + n)
    next i n = omega arith

entry_not_free : (ds : List LfType) (U : ℕ → Bool) (l : ℕ) → among ds l ≡ true → hide_all ds U l ≡ false
entry_not_free [] U l a = absurd cc
entry_not_free (D ∷ ds) U zero a = refl
entry_not_free (D ∷ ds) U (suc l) a = entry_not_free ds U l a

pub behind_free : (ds : List LfType) (U : ℕ → Bool) (i : ℕ) → hide_all ds U (i + length ds) ≡ U i
behind_free [] U i = ap U (none i)
  where
    none : (i : ℕ) → i + 0 ≡ i
    none i = omega arith
behind_free (D ∷ ds) U i = ap (hide_all (D ∷ ds) U) (next i (length ds)) ∙ behind_free ds U i
  where
    next : (i n : ℕ) → i + suc n ≡ suc (i + n)
    next i n = omega arith

pub entry_has_type : (ds : List LfType) (υ : ℕ → Image) (C : List LfType) (l : ℕ) → among ds l ≡ true → (A : LfType) × TypeAt (onto (instance ds υ) C) l A
entry_has_type [] υ C l a = absurd cc
entry_has_type (D ∷ ds) υ C zero a = (weaken (Rattle.lf.specs.Substitution.substitute_type Rattle.lf.specs.Substitution.reduce (Rattle.lf.specs.Worlds.lift_over ds υ) D), refl)
entry_has_type (D ∷ ds) υ C (suc l) a = let (A, g) = entry_has_type ds υ C l a in (weaken A, (A, g, refl))

pub behind_has_type : (ds : List LfType) (υ : ℕ → Image) (C : List LfType) (i : ℕ) (A : LfType) → TypeAt C i A → (X : LfType) × TypeAt (onto (instance ds υ) C) (i + length ds) X
behind_has_type [] υ C i A g = (A, subst (λ k. TypeAt C k A) (none i) g)
  where
    none : (i : ℕ) → i ≡ i + 0
    none i = omega arith
behind_has_type (D ∷ ds) υ C i A g = let (X, h) = behind_has_type ds υ C i A g in (weaken X, subst (λ k. TypeAt (onto (instance (D ∷ ds) υ) C) k (weaken X)) (next i (length ds)) (X, h, refl))
  where
    next : (i n : ℕ) → suc (i + n) ≡ i + suc n
    next i n = omega arith

-- An entry of an instance of the context is one of a block variable of the items, or no block variable stands for the instance.
pub entry_or_new : (Σ : Signature) {W : List Block} {S : ℕ → Bool} {G : List LfType} (w : World Σ W S G) (I : List Item) (σ : ℕ → Image) (g : IsGroundInstance w I σ) (B : Block) (θ : ℕ → Image) → InstanceIn w B θ → (k v : ℕ) → among B.entries k ≡ true → θ k ≡ keep v → ((j : ℕ) × (A : LfType) × TypeAt (items_context I) j A × (free_among I j ≡ false) × (σ j ≡ keep v)) ⊎ (StandsFor w I σ g B θ → ⊥)
entry_or_new Σ w [] σ g B θ i k v a e = inr (λ s. s)
entry_or_new Σ w (free_variable X ∷ I) σ (N, τ, g, t, q) B θ i k v a e = by (entry_or_new Σ w I τ g B θ i k v a e)
  where
    by : ((j : ℕ) × (A : LfType) × TypeAt (items_context I) j A × (free_among I j ≡ false) × (τ j ≡ keep v)) ⊎ (StandsFor w I τ g B θ → ⊥) → ((j : ℕ) × (A : LfType) × TypeAt (X ∷ items_context I) j A × (free_among (free_variable X ∷ I) j ≡ false) × (σ j ≡ keep v)) ⊎ (StandsFor w I τ g B θ → ⊥)
    by (inl (j, A, h, f, p)) = inl (suc j, weaken A, (A, h, refl), f, ap (λ z. z (suc j)) q ∙ p)
    by (inr n) = inr n
entry_or_new Σ {W} {S} {G} w (block_variable C υ ∷ I) σ (φ, τ, g, c, s, q) B θ i k v a e = by (find_entry C.entries φ v) (entry_or_new Σ w I τ g B θ i k v a e)
  where
    not_this : ((l : ℕ) → among C.entries l ≡ true → φ l ≡ keep v → ⊥) → (StandsFor w I τ g B θ → ⊥) → ((C ≡ B) × (φ ≡ θ)) ⊎ StandsFor w I τ g B θ → ⊥
    not_this n m (inl (x, y)) = n k (ap (λ X. among X.entries k) x ∙ a) (ap (λ z. z k) y ∙ e)
    not_this n m (inr z) = m z

    by : ((l : ℕ) × (among C.entries l ≡ true) × (φ l ≡ keep v)) ⊎ ((l : ℕ) → among C.entries l ≡ true → φ l ≡ keep v → ⊥) → ((j : ℕ) × (A : LfType) × TypeAt (items_context I) j A × (free_among I j ≡ false) × (τ j ≡ keep v)) ⊎ (StandsFor w I τ g B θ → ⊥) → ((j : ℕ) × (A : LfType) × TypeAt (onto (instance C.entries υ) (items_context I)) j A × (hide_all C.entries (free_among I) j ≡ false) × (σ j ≡ keep v)) ⊎ (((C ≡ B) × (φ ≡ θ)) ⊎ StandsFor w I τ g B θ → ⊥)
    by (inl (l, b, f)) r = let (A, h) = entry_has_type C.entries υ (items_context I) l b in inl (l, A, h, entry_not_free C.entries (free_among I) l b, ap (λ z. z l) q ∙ front_entry C.entries φ τ l b ∙ f)
    by (inr n) (inl (j, A, h, f, p)) = let (X, y) = behind_has_type C.entries υ (items_context I) j A h in inl (j + length C.entries, X, y, behind_free C.entries (free_among I) j ∙ f, ap (λ z. z (j + length C.entries)) q ∙ front_behind C.entries φ τ j ∙ p)
    by (inr n) (inr m) = inr (not_this n m)
