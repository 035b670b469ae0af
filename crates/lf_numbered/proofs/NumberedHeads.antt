-- The head of a value is a constant, a variable that is taken, an entry of a block variable's instance, or one of an instance that is new.
use Rattle.std.proofs.Common.{◌≡◌, ℕ, zero, suc, List, [], ◌∷◌, ◌++◌, ◌+◌, ◌<◌, ◌≤◌, length, inl, inr, refl, sym, ap, ◌∙◌, subst, arith}
use Rattle.std.specs.Prelude.{Bool, true, ◌⊎◌, Option, Some}
use Rattle.lf.specs.Syntax.{Head, variable, Term, Spine, root, LfType, pi, atom, skeleton}
use Rattle.lf.specs.Substitution.{Image, keep, put, substitute_type, lift, reduce}
use Rattle.lf.specs.Eta.{lambdas}
use Rattle.lf.specs.Typing.{Signature, TypeAt, HasType, ImageHasType, IsSignature}
use Rattle.lf.specs.Variables.{target, target_arguments, binders, onto}
use Rattle.lf.specs.Subordination.{Block}
use Rattle.lf.specs.Worlds.{World}
use Rattle.lf.specs.Extension.{Extends}
use Rattle.lf.proofs.Target.{target_of}
use Rattle.lf.proofs.TypeLaws.{skeleton_renamed}
use Rattle.lf_unification.specs.Offering.{local_arguments, pi_over}
use Rattle.lf_checks.specs.Clause.{among}
use Rattle.lf_cases.specs.Cover.{InstanceIn, place_of}
use Rattle.lf_cases.specs.Heads.{EntryIn, HeadIsKnown}
use Rattle.lf_cases.specs.Reached.{taken}
use Rattle.lf_cases.proofs.Heads.{head_known}
use Rattle.lf_cases.proofs.Instances.{place_among}
use Rattle.lf_totality.proofs.RaisedOutputs.{binders_over}
use Rattle.lf_coverage.specs.OrElse.{or_else}
use Rattle.lf_coverage.proofs.Forms.{form}
use Rattle.lf_coverage.proofs.Parts.{some_same}
use Rattle.lf_coverage.proofs.SameInstance.{find_entry, instance_unique}
use Rattle.lf_numbered.specs.EntryConstants.{IsFreeFrom, entry_constant, entry_images, entry_type, entry_constant_type, with_entries}
use Rattle.lf_numbered.specs.NumberedCase.{NumberedCase, AreGroundValues, AreInstances, IsNumberedInstance}
use Rattle.lf_numbered.specs.NumberedHeads.{IsNumberedHead, IsNewEntry, NumberedHeadsAreAll, of_signature, of_taken, of_entry}
use Rattle.lf_numbered.specs.NumberedInstance.{block_at}
use Rattle.lf_numbered.specs.Numbering.{entries_of}
use Rattle.lf_numbered.specs.OwnTerms.{BlockVariable, blocks_of}
use Rattle.lf_numbered.specs.Reading.{read_type, weaken_read, read_entry, entry_reading, variable_past}
use Rattle.lf_numbered.proofs.NumberingBlocks.{entry_behind}
use Rattle.lf_numbered.proofs.ReadValues.{values_typed}

-- a value of a free variable is a term
pub value_is_term : (Σ : Signature) (G : List LfType) (f : ℕ → ℕ → Option (ℕ × ℕ)) (X : List LfType) (σ : ℕ → Image) → AreGroundValues Σ G f X σ → (x : ℕ) (A : LfType) → TypeAt X x A → (N : Term) × (σ x ≡ put (skeleton A) N)
value_is_term Σ G f [] σ v x A g = absurd g
value_is_term Σ G f (B ∷ X) σ (N, τ, v, n, e) zero A g = (N, ap (λ k. k 0) e ∙ ap (λ a. put a N) (sym (ap skeleton g ∙ skeleton_renamed suc B)))
value_is_term Σ G f (B ∷ X) σ (N, τ, v, n, e) (suc x) A (C, g, r) = let (M, q) = value_is_term Σ G f X τ v x C g in (M, ap (λ k. k (suc x)) e ∙ q ∙ ap (λ a. put a M) (sym (ap skeleton r ∙ skeleton_renamed suc C)))

-- reading and values change neither the target of a type nor how many variables it takes
target_read : (f : ℕ → Option (ℕ × ℕ)) (A : LfType) → target (read_type f A) ≡ target A
target_read f (pi A B) = target_read (λ c. weaken_read (f c)) B
target_read f (atom a T) = refl

taken_read : (f : ℕ → Option (ℕ × ℕ)) (A : LfType) (D E : List LfType) → length D ≡ length E → length (binders D (read_type f A)) ≡ length (binders E A)
taken_read f (pi A B) D E e = taken_read (λ c. weaken_read (f c)) B (read_type f A ∷ D) (A ∷ E) (ap suc e)
taken_read f (atom a T) D E e = e

taken_put : (σ : ℕ → Image) (A : LfType) (D E : List LfType) → length D ≡ length E → length (binders D (substitute_type reduce σ A)) ≡ length (binders E A)
taken_put σ (pi A B) D E e = taken_put (lift σ) B (substitute_type reduce σ A ∷ D) (A ∷ E) (ap suc e)
taken_put σ (atom a T) D E e = e

pub target_over : (O : List LfType) (A : LfType) → target (pi_over O A) ≡ target A
target_over [] A = refl
target_over (B ∷ O) A = target_over O (pi B A)

-- block variables in front of others
one_longer : (pre : List Block) (B : Block) → length (pre ++ B ∷ []) ≡ suc (length pre)
one_longer [] B = refl
one_longer (D ∷ pre) B = ap suc (one_longer pre B)

put_before : (pre : List Block) (B : Block) (post : List Block) → (pre ++ B ∷ []) ++ post ≡ pre ++ B ∷ post
put_before [] B post = refl
put_before (D ∷ pre) B post = ap (λ Bs. D ∷ Bs) (put_before pre B post)

pub left_zero : (n : ℕ) → zero + n ≡ n
left_zero n = omega arith

next_sum : (k j : ℕ) → suc k + j ≡ k + suc j
next_sum k j = omega arith

module _ {Σ' : Signature} {W : List Block} {S : ℕ → Bool} {G : List LfType} (w : World Σ' W S G) (g : ℕ → Option (ℕ × ℕ)) (σ : ℕ → Image) (θ : ℕ → ℕ → Image) (v : ℕ) where
  -- an instance of one of the block variables has the variable v among its entries
  record Among (Bs : List Block) : Type 0 where
    pub before : List Block
    pub block : Block
    pub behind : List Block
    pub split : Bs ≡ before ++ block ∷ behind
    pub is_instance : InstanceIn w block (θ (length before))
    pub place : ℕ
    pub is_entry : among block.entries place ≡ true
    pub at : θ (length before) place ≡ keep v

  abbrev NoneHas : ℕ → List BlockVariable → Type 0
  NoneHas k bs = (j : ℕ) (b : BlockVariable) → block_at bs j ≡ Some b → (l : ℕ) → among b.block.entries l ≡ true → θ (k + j) l ≡ keep v → ⊥

  search : (k : ℕ) (pre : List Block) → k ≡ length pre → (bs : List BlockVariable) → AreInstances w g σ θ k bs → Among (pre ++ blocks_of bs) ⊎ NoneHas k bs
  search k pre q [] h = inr (λ j b e. absurd cc)
  search k pre q (b ∷ bs) (i, e, h) = by (find_entry b.block.entries (θ k) v) (search (suc k) (pre ++ b.block ∷ []) (ap suc q ∙ sym (one_longer pre b.block)) bs h)
    where
      no_sum : (k : ℕ) → k + 0 ≡ k
      no_sum k = omega arith

      none : ((l : ℕ) → among b.block.entries l ≡ true → θ k l ≡ keep v → ⊥) → NoneHas (suc k) bs → NoneHas k (b ∷ bs)
      none n m zero c s l a f = n l (ap (λ d. among d.block.entries l) (some_same s) ∙ a) (ap (λ i. θ i l) (sym (no_sum k)) ∙ f)
      none n m (suc j) c s l a f = m j c s l a (ap (λ i. θ i l) (next_sum k j) ∙ f)

      by : ((l : ℕ) × (among b.block.entries l ≡ true) × (θ k l ≡ keep v)) ⊎ ((l : ℕ) → among b.block.entries l ≡ true → θ k l ≡ keep v → ⊥) → Among ((pre ++ b.block ∷ []) ++ blocks_of bs) ⊎ NoneHas (suc k) bs → Among (pre ++ b.block ∷ blocks_of bs) ⊎ NoneHas k (b ∷ bs)
      by (inl (l, a, f)) r = inl (record { before = pre; block = b.block; behind = blocks_of bs; split = refl; is_instance = subst (λ m. InstanceIn w b.block (θ m)) q i; place = l; is_entry = a; at = ap (λ m. θ m l) (sym q) ∙ f })
      by (inr n) (inl o) = inl (subst Among (put_before pre b.block (blocks_of bs)) o)
      by (inr n) (inr m) = inr (none n m)

module _ (Σ Σ' : Signature) (ok : IsSignature Σ) (S : ℕ → Bool) (x : Extends S Σ Σ') (W : List Block) (first : ℕ) (free : IsFreeFrom Σ first) (C : NumberedCase) {G : List LfType} (w : World Σ' W S G) (θ : ℕ → ℕ → Image) (σ : ℕ → Image) (i : IsNumberedInstance w first C θ σ) (y : ℕ) (A : LfType) (at : TypeAt C.variables y A) where
  abbrev Bs : List Block
  Bs = blocks_of C.blocks

  abbrev f : ℕ → ℕ → Option (ℕ × ℕ)
  f = entry_reading first Bs θ

  abbrev fm : ℕ → Option (ℕ × ℕ)
  fm = entry_reading first Bs θ (length C.variables)

  abbrev Y : LfType
  Y = substitute_type reduce σ (read_type fm A)

  value : (N : Term) × (σ y ≡ put (skeleton A) N)
  value = value_is_term Σ' G f C.variables σ i.values y A at

  family : target Y ≡ target A
  family = target_of reduce σ (read_type fm A) ∙ target_read fm A

  long : length (binders [] Y) ≡ length (taken A)
  long = taken_put σ (read_type fm A) [] [] refl ∙ taken_read fm A [] [] refl

  abbrev Is : Head → Type 0
  Is h = IsNumberedHead Σ first C θ (length (taken A)) (target A) h ⊎ IsNewEntry w C θ (length (taken A)) (target A) h

  -- the constant of an entry
  module _ (v : ℕ) (B : Block) (later : List LfType) (E : LfType) (es : List LfType) (φ : ℕ → Image) (q : onto later (E ∷ es) ≡ B.entries) (t : target E ≡ target Y) (b : InstanceIn w B φ) (k : φ (place_of later) ≡ keep v) (o : Among w fm σ θ v Bs) where
    abbrev c : ℕ
    c = (first + entries_of o.before) + length es

    is_among : among B.entries (place_of later) ≡ true
    is_among = subst (λ ds. among ds (place_of later) ≡ true) q (place_among later E es)

    same : (B ≡ o.block) × (φ ≡ θ (length o.before))
    same = instance_unique Σ' w o.block B (θ (length o.before)) φ o.is_instance b o.place (place_of later) v o.is_entry is_among o.at k

    found : entry_constant zero first Bs c ≡ Some (record { number = zero + length o.before; block = o.block; from = first + entries_of o.before; place = place_of later; entry = E; before = es })
    found = ap (λ Ds. entry_constant zero first Ds c) o.split ∙ entry_behind zero first o.before o.block o.behind later E es (q ∙ ap (λ D. D.entries) same.0)

    behind_first : (a b c : ℕ) → a ≤ (a + b) + c
    behind_first a b c = omega arith

    of_type : (with_entries Σ first Bs).types c ≡ Some (entry_constant_type (first + entries_of o.before) o.block.some es E)
    of_type = ap (λ z. or_else z (entry_type (entry_constant zero first Bs c))) (free.types_free c (behind_first first (entries_of o.before) (length es))) ∙ ap entry_type found

    reads : f (length (taken A)) c ≡ Some (length o.block.some, v + length (taken A))
    reads = ap (read_entry θ (length (taken A))) found ∙ ap (λ z. Some (length o.block.some, variable_past (length (taken A)) z)) (ap (λ n. θ n (place_of later)) (left_zero (length o.before)) ∙ ap (λ ψ. ψ (place_of later)) (sym same.1) ∙ k)

    entry_head : Is (variable (v + length (taken A)))
    entry_head = inl (of_entry c (length o.block.some) (v + length (taken A)) (entry_constant_type (first + entries_of o.before) o.block.some es E) of_type (target_over o.block.some (substitute_type reduce (entry_images (first + entries_of o.before) (local_arguments o.block.some) es keep) E) ∙ target_of reduce (entry_images (first + entries_of o.before) (local_arguments o.block.some) es keep) E ∙ t ∙ family) reads)

  by_entry : (v : ℕ) → EntryIn w v (target Y) → Is (variable (v + length (taken A)))
  by_entry v (B, b, later, E, es, q, t, φ, inst, k) = by (search w fm σ θ v zero [] refl C.blocks i.instances)
    where
      by : Among w fm σ θ v Bs ⊎ NoneHas w fm σ θ v zero C.blocks → Is (variable (v + length (taken A)))
      by (inl o) = entry_head v B later E es φ q t inst k o
      by (inr n) = inr (record {
        block = B;
        of_worlds = b;
        later = later;
        entry = E;
        before = es;
        entries = q;
        family = t ∙ family;
        instance = φ;
        in_context = inst;
        number = v;
        at = k;
        is_new = λ j c e d p. n j c e (place_of later) (ap (λ D. among D.entries (place_of later)) d ∙ subst (λ ds. among ds (place_of later) ≡ true) q (place_among later E es)) (ap (λ n. θ n (place_of later)) (left_zero j) ∙ ap (λ ψ. ψ (place_of later)) p ∙ k);
        is_head = refl;
      })

  head_is : (h : Head) → HeadIsKnown Σ (binders [] Y) w h (target Y) → Is h
  head_is h (inl (k, U, p, u, t)) = subst Is (sym p) (inl (of_signature k U u (t ∙ family)))
  head_is h (inr (inl (j, Z, p, l, g, t))) = subst Is (sym p) (inl (of_taken j (subst (λ n. j < n) long l)))
  head_is h (inr (inr (v, p, b))) = subst Is (sym (p ∙ ap (λ n. variable (v + n)) long)) (by_entry v b)

  heads : S (target A) ≡ true → (N : Term) × (h : Head) × (T : Spine) × (σ y ≡ put (skeleton A) N) × (N ≡ lambdas (length (taken A)) (root h T)) × Is h
  heads s =
      let (N, e) = value in
      let n : HasType Σ' G N Y = (subst (λ z. ImageHasType Σ' G z Y) e (values_typed Σ' x.ok G first Bs θ C.variables σ i.values y A at)).1 in
      let (h, T, q, t) = form Σ' Y G N n in
      (N, h, T, e, q ∙ ap (λ l. lambdas l (root h T)) long, head_is h (head_known Σ Σ' W S x G (binders [] Y) w h T (target Y) (target_arguments Y) (ap S family ∙ s) (subst (λ D. HasType Σ' D (root h T) (atom (target Y) (target_arguments Y))) (binders_over [] Y G) t)))

pub numbered_heads_are_all : NumberedHeadsAreAll
numbered_heads_are_all Σ Σ' ok S x W typed first free C G w θ σ i y A at s = heads Σ Σ' ok S x W first free C w θ σ i y A at s
