-- Which block variables of a case stand for one instance of a context: those whose newest entries are one variable. Each is the oldest of them.
use Rattle.std.proofs.Common.{◌≡◌, ℕ, zero, suc, ◌+◌, ◌<◌, ◌≤◌, ◌⊎◌, List, [], ◌∷◌, length, inl, inr, refl, sym, ap, ◌∙◌, subst, arith}
use Rattle.std.specs.Prelude.{Bool, true, false, cond, Option, Some, None}
use Rattle.lf.specs.Syntax.{LfType}
use Rattle.lf.specs.Substitution.{Image, keep, put}
use Rattle.lf.specs.Typing.{Signature}
use Rattle.lf.specs.Variables.{same_number}
use Rattle.lf.specs.Worlds.{World}
use Rattle.lf.specs.Subordination.{Block}
use Rattle.lf.proofs.Checker.{number_is, number_itself}
use Rattle.lf_checks.specs.Clause.{among}
use Rattle.lf_cases.specs.Cover.{InstanceIn}
use Rattle.lf_coverage.proofs.Choices.{decided}
use Rattle.lf_coverage.proofs.Parts.{none_some, some_same}
use Rattle.lf_coverage.proofs.SameInstance.{instance_unique}
use Rattle.lf_numbered.specs.MeetsAnswers.{StayBeyond}
use Rattle.lf_numbered.specs.NumberedCase.{NumberedCase}
use Rattle.lf_numbered.specs.NumberedInstance.{block_at}
use Rattle.lf_numbered.specs.OwnTerms.{BlockVariable}
use Rattle.lf_numbered.proofs.MeetsTupleWriting.{AreOne}

-- the first number below n for which ν is v, or else d
abbrev pub first_with : (ℕ → ℕ) → ℕ → ℕ → ℕ → ℕ
first_with ν zero v d = d
first_with ν (suc n) v d = first_with ν n v (cond (same_number (ν n) v) n d)

abbrev IsLeast : (ℕ → ℕ) → ℕ → ℕ → ℕ → Type 0
IsLeast ν v d i = (ν i ≡ v) × (i ≤ d) × ((j : ℕ) → j < i → ν j ≡ v → ⊥)

least : (ν : ℕ → ℕ) (n v d : ℕ) → ν d ≡ v → n ≤ d → ((j : ℕ) → n ≤ j → j < d → ν j ≡ v → ⊥) → IsLeast ν v d (first_with ν n v d)
least ν zero v d e l none = (e, itself d, λ j m q. none j (any j) m q)
  where
    itself : (m : ℕ) → m ≤ m
    itself m = omega arith

    any : (m : ℕ) → 0 ≤ m
    any m = omega arith
least ν (suc n) v d e l none = decided (same_number (ν n) v) (λ q. hit (least ν n v n) q) (λ q. miss (least ν n v d) q)
  where
    itself : (m : ℕ) → m ≤ m
    itself m = omega arith

    no_between : (j : ℕ) → n ≤ j → j < n → ⊥
    no_between j a b = omega (arith, a, b)

    below : n ≤ d
    below = omega (arith, l)

    less_next : (i : ℕ) → i ≤ n → i ≤ d
    less_next i m = omega (arith, l, m)

    next : (j : ℕ) → n ≤ j → (j ≡ n → ⊥) → suc n ≤ j
    next j a b = omega (arith, a, b)

    hit : (ν n ≡ v → n ≤ n → ((j : ℕ) → n ≤ j → j < n → ν j ≡ v → ⊥) → IsLeast ν v n (first_with ν n v n)) → same_number (ν n) v ≡ true → IsLeast ν v d (first_with ν n v (cond (same_number (ν n) v) n d))
    hit ih q =
        let (a, b, c) = ih (number_is (ν n) v q) (itself n) (λ j x y z. no_between j x y) in
        subst (λ t. IsLeast ν v d (first_with ν n v (cond t n d))) (sym q) (a, less_next (first_with ν n v n) b, c)

    miss : (ν d ≡ v → n ≤ d → ((j : ℕ) → n ≤ j → j < d → ν j ≡ v → ⊥) → IsLeast ν v d (first_with ν n v d)) → same_number (ν n) v ≡ false → IsLeast ν v d (first_with ν n v (cond (same_number (ν n) v) n d))
    miss ih q = subst (λ t. IsLeast ν v d (first_with ν n v (cond t n d))) (sym q) (ih e below (λ j x y z. none j (next j x (λ f. no (sym (number_itself v) ∙ ap (λ u. same_number u v) (sym z) ∙ ap (λ i. same_number (ν i) v) f ∙ q))) y z))
      where
        no : true ≡ false → ⊥
        no f = cc

-- a number for a block variable with its newest entry, and one of its own for any other
abbrev pub own_number : ℕ → ℕ
own_number k = suc (k + k)

abbrev pub of_entries : List LfType → Image → ℕ → ℕ
of_entries [] x k = own_number k
of_entries (E ∷ es) (keep v) k = v + v
of_entries (E ∷ es) (put a N) k = own_number k

abbrev pub of_block : Option BlockVariable → Image → ℕ → ℕ
of_block None x k = own_number k
of_block (Some b) x k = of_entries b.block.entries x k

abbrev pub number_of : NumberedCase → (ℕ → ℕ → Image) → ℕ → ℕ
number_of C θ k = of_block (block_at C.blocks k) (θ k zero) k

-- there is none from the number of them on
none_beyond : (bs : List BlockVariable) (k : ℕ) → length bs ≤ k → block_at bs k ≡ None
none_beyond [] k l = refl
none_beyond (b ∷ bs) zero l = absurd (no (length bs) l)
  where
    no : (n : ℕ) → suc n ≤ zero → ⊥
    no n l = omega (arith, l)
none_beyond (b ∷ bs) (suc k) l = none_beyond bs k (less (length bs) k l)
  where
    less : (n k : ℕ) → suc n ≤ suc k → n ≤ k
    less n k l = omega (arith, l)

-- the oldest of the block variables that are the same as the one of a number
abbrev pub oldest_of : NumberedCase → (ℕ → ℕ → Image) → ℕ → ℕ
oldest_of C θ k = first_with (number_of C θ) k (number_of C θ k) k

module _ (C : NumberedCase) (θ : ℕ → ℕ → Image) where
  abbrev ν : ℕ → ℕ
  ν = number_of C θ

  abbrev π : ℕ → ℕ
  π = oldest_of C θ

  is_least : (k : ℕ) → IsLeast ν (ν k) k (π k)
  is_least k = least ν k (ν k) k refl (itself k) (λ j a b q. none j a b)
    where
      itself : (m : ℕ) → m ≤ m
      itself m = omega arith

      none : (j : ℕ) → k ≤ j → j < k → ⊥
      none j a b = omega (arith, a, b)

  pub is_oldest : (k : ℕ) → oldest_of C θ k ≤ k
  is_oldest k = (is_least k).1

  one_number : (j k : ℕ) → ν j ≡ ν k → π j ≡ π k
  one_number j k e =
      let (a, l, f) = is_least j in
      let (b, m, g) = is_least k in
      same (π j) (π k) (λ x. g (π j) x (a ∙ e)) (λ x. f (π k) x (b ∙ sym e))
    where
      same : (m n : ℕ) → (m < n → ⊥) → (n < m → ⊥) → m ≡ n
      same m n f g = omega (arith, f, g)

  -- a number of its own, or that of an entry
  abbrev HasEntry : ℕ → ℕ → Type 0
  HasEntry k v = (b : BlockVariable) × (block_at C.blocks k ≡ Some b) × (among b.block.entries zero ≡ true) × (θ k zero ≡ keep v) × (ν k ≡ v + v)

  which : (k : ℕ) → (ν k ≡ own_number k) ⊎ ((v : ℕ) × HasEntry k v)
  which k = by (block_at C.blocks k) refl
    where
      entry : (b : BlockVariable) → block_at C.blocks k ≡ Some b → (es : List LfType) → b.block.entries ≡ es → (x : Image) → θ k zero ≡ x → (ν k ≡ own_number k) ⊎ ((v : ℕ) × HasEntry k v)
      entry b e [] q x z = inl (ap (λ y. of_block y (θ k zero) k) e ∙ ap (λ es. of_entries es (θ k zero) k) q)
      entry b e (E ∷ es) q (keep v) z = inr (v, (b, e, ap (λ es. among es zero) q, z, ap (λ y. of_block y (θ k zero) k) e ∙ ap (λ es. of_entries es (θ k zero) k) q ∙ ap (λ y. of_entries (E ∷ es) y k) z))
      entry b e (E ∷ es) q (put a N) z = inl (ap (λ y. of_block y (θ k zero) k) e ∙ ap (λ es. of_entries es (θ k zero) k) q ∙ ap (λ y. of_entries (E ∷ es) y k) z)

      by : (y : Option BlockVariable) → block_at C.blocks k ≡ y → (ν k ≡ own_number k) ⊎ ((v : ℕ) × HasEntry k v)
      by None e = inl (ap (λ y. of_block y (θ k zero) k) e)
      by (Some b) e = entry b e b.block.entries refl (θ k zero) refl

  number_is_entry : (k v : ℕ) (b : BlockVariable) → block_at C.blocks k ≡ Some b → among b.block.entries zero ≡ true → θ k zero ≡ keep v → ν k ≡ v + v
  number_is_entry k v b e a z = ap (λ y. of_block y (θ k zero) k) e ∙ by b.block.entries a
    where
      by : (es : List LfType) → among es zero ≡ true → of_entries es (θ k zero) k ≡ v + v
      by [] q = absurd cc
      by (E ∷ es) q = ap (λ y. of_entries (E ∷ es) y k) z

  own_same : (i k : ℕ) → own_number i ≡ own_number k → i ≡ k
  own_same i k e = omega (arith, e)

  own_other : (i v : ℕ) → own_number i ≡ v + v → ⊥
  own_other i v e = omega (arith, e)

  halves : (u v : ℕ) → u + u ≡ v + v → u ≡ v
  halves u v e = omega (arith, e)

  -- Two that have one number are one, or stand for one instance.
  module _ (Σ : Signature) {W : List Block} {S : ℕ → Bool} {G : List LfType} (w : World Σ W S G) (at : (k : ℕ) (b : BlockVariable) → block_at C.blocks k ≡ Some b → InstanceIn w b.block (θ k)) where
    abbrev Twins : ℕ → ℕ → Type 0
    Twins i k = (b : BlockVariable) × (c : BlockVariable) × (block_at C.blocks i ≡ Some b) × (block_at C.blocks k ≡ Some c) × (b.block ≡ c.block) × (θ i ≡ θ k)

    twins : (i k : ℕ) → ν i ≡ ν k → (i ≡ k) ⊎ Twins i k
    twins i k e = by (which i) (which k)
      where
        by : (ν i ≡ own_number i) ⊎ ((v : ℕ) × HasEntry i v) → (ν k ≡ own_number k) ⊎ ((v : ℕ) × HasEntry k v) → (i ≡ k) ⊎ Twins i k
        by (inl p) (inl q) = inl (own_same i k (sym p ∙ e ∙ q))
        by (inl p) (inr (v, (b, x, a, z, q))) = absurd (own_other i v (sym p ∙ e ∙ q))
        by (inr (v, (b, x, a, z, q))) (inl p) = absurd (own_other k v (sym p ∙ sym e ∙ q))
        by (inr (u, (b, x, a, z, q))) (inr (v, (c, x', a', z', q'))) =
            let (s, t) = instance_unique Σ w c.block b.block (θ k) (θ i) (at k c x') (at i b x) zero zero u a' a (z' ∙ ap keep (sym (halves u v (sym q ∙ e ∙ q')))) z in
            inr (b, c, x, x', s, t)

    pub are_one : AreOne C θ (oldest_of C θ)
    are_one = record {
      identifies = λ k b e. let (a, l, f) = is_least k in goes k b e a (twins (π k) k a);
      same = λ k b e. let (a, l, f) = is_least k in instance_same k (twins (π k) k a);
      only = λ j k b c e f a q v x y. one_number j k (number_is_entry j v b e a x ∙ sym (number_is_entry k v c f (ap (λ (B : Block). among B.entries zero) q ∙ a) y));
    }
      where
        goes : (k : ℕ) (b : BlockVariable) → block_at C.blocks k ≡ Some b → ν (π k) ≡ ν k → (π k ≡ k) ⊎ Twins (π k) k → (c : BlockVariable) × (block_at C.blocks (π k) ≡ Some c) × (c.block ≡ b.block) × (π (π k) ≡ π k)
        goes k b e a (inl q) = (b, ap (block_at C.blocks) q ∙ e, refl, one_number (π k) k a)
        goes k b e a (inr (c, d, x, y, s, t)) = (c, x, s ∙ ap (λ (b : BlockVariable). b.block) (some_same (sym y ∙ e)), one_number (π k) k a)

        instance_same : (k : ℕ) → (π k ≡ k) ⊎ Twins (π k) k → θ (π k) ≡ θ k
        instance_same k (inl q) = ap θ q
        instance_same k (inr (c, d, x, y, s, t)) = t

    -- a number that is no block variable's stays
    pub stays_past : (k : ℕ) → block_at C.blocks k ≡ None → oldest_of C θ k ≡ k
    stays_past k e = let (a, l, f) = is_least k in by (twins (π k) k a)
      where
        by : (π k ≡ k) ⊎ Twins (π k) k → π k ≡ k
        by (inl q) = q
        by (inr (c, d, x, y, s, t)) = absurd (none_some (sym e ∙ y))

    pub stays_beyond : StayBeyond C (oldest_of C θ)
    stays_beyond k l = stays_past k (none_beyond C.blocks k l)
