-- Links lead where families are below.
use Rattle.std.proofs.Common.{◌≡◌, ◌<◌, ◌≤◌, ◌++◌, ◌∙◌, ℕ, zero, suc, List, [], ◌∷◌, length, map, Bool, true, false, cond, Option, Some, None, Contains, ◌⊎◌, ◌↔◌, inl, inr, refl, sym, ap, subst, arith}
use Rattle.std.proofs.lemmas.List.Elements.{Contains-append_left, Contains-append_right, Contains-append_cases}
use Rattle.lf.specs.Entries.{Entry, entry, type_of, kind_of, signature_of}
use Rattle.lf.specs.Syntax.{LfType, Kind}
use Rattle.lf.specs.Subordination.{Block, Member, Below, below_itself, below_through, below_in_constant, below_in_kind, below_in_entry, Quantifies}
use Rattle.lf.specs.Typing.{Signature}
use Rattle.lf.specs.Variables.{same_number}
use Rattle.lf.proofs.Checker.{number_is}
use Rattle.tw_terms.specs.View.{type_of as syntax_of}
use Rattle.tw_subord.specs.Leads.{Leads, leads_itself, leads_on}
use Rattle.tw_subord.specs.Pairs.{type_pairs, constant_pairs, family_pairs, number_pairs, numbered_pairs, types_pairs, block_pairs, blocks_pairs}
use Rattle.lf_checks.specs.Tests.{either, is_in}
use Rattle.tw_subord.specs.Rows.{row, is_below}
use Rattle.tw_subord.proofs.Rows.{same_itself}
use Rattle.tw_subord.specs.View.{block_of_types, worlds_of_types}
use Rattle.tw_subord.specs.declared.subord.BlockTypes.{BlockTypes}
use Rattle.tw_subord.proofs.Quantifiers.{nothing, single, quantifies, quantified, kind_quantifies, kind_quantified}

within_by : (es : List Entry) (f e : Entry) (c : ℕ) (b : Bool) → (entry es c ≡ Some e → c < length es) → same_number c (length es) ≡ b → cond b (Some f) (entry es c) ≡ Some e → c < suc (length es)
within_by es f e c true h q k = let s = number_is c (length es) q in omega (arith, s)
within_by es f e c false h q k = let s = h k in omega (arith, s)

entry_within : (es : List Entry) (c : ℕ) (e : Entry) → entry es c ≡ Some e → c < length es
entry_within [] c e h = absurd cc
entry_within (f ∷ es) c e h = within_by es f e c (same_number c (length es)) (entry_within es c e) refl h

type_within : (es : List Entry) (c : ℕ) (A : LfType) (o : Option Entry) → entry es c ≡ o → type_of o ≡ Some A → c < length es
type_within es c A None e h = absurd cc
type_within es c A (Some f) e h = entry_within es c f e

kind_within : (es : List Entry) (c : ℕ) (K : Kind) (o : Option Entry) → entry es c ≡ o → kind_of o ≡ Some K → c < length es
kind_within es c K None e h = absurd cc
kind_within es c K (Some f) e h = entry_within es c f e

-- a family that has a kind is an entry
pub declared_within : (es : List Entry) (c : ℕ) (K : Kind) → (signature_of es).kinds c ≡ Some K → c < length es
declared_within es c K e = kind_within es c K (entry es c) refl e

module _ (Σ : Signature) (W : List Block) (a b : ℕ) where
  constant_below : (c : ℕ) (o : Option LfType) → Σ.types c ≡ o → Contains (constant_pairs o) (a, b) → Below Σ W a b
  constant_below c (Some A) e h = below_in_constant c A e (quantifies a b A h)
  constant_below c None e h = absurd (nothing (a, b) h)

  family_below : (c : ℕ) (o : Option Kind) → Σ.kinds c ≡ o → Contains (family_pairs c o) (a, b) → Below Σ W a b
  family_below c (Some K) e h = below_in_kind c K e (kind_quantifies a b c K h)
  family_below c None e h = absurd (nothing (a, b) h)

  numbered_below : (n : ℕ) → Contains (numbered_pairs Σ n) (a, b) → Below Σ W a b
  numbered_below zero h = absurd (nothing (a, b) h)
  numbered_below (suc n) h =
      elim (Contains-append_cases (numbered_pairs Σ n) (number_pairs Σ n) (a, b) h) [
        | inl g ↦ numbered_below n g
        | inr g ↦ elim (Contains-append_cases (constant_pairs (Σ.types n)) (family_pairs n (Σ.kinds n)) (a, b) g) [ inl i ↦ constant_below n (Σ.types n) refl i | inr i ↦ family_below n (Σ.kinds n) refl i ]
      ]

  at_number : (n c : ℕ) → c < n → Contains (number_pairs Σ c) (a, b) → Contains (numbered_pairs Σ n) (a, b)
  at_number zero c l h = absurd (omega (arith, l))
  at_number (suc n) c l h = elim (last_or_before l) [
    | inl s ↦ Contains-append_left (numbered_pairs Σ n) (number_pairs Σ n) (a, b) (at_number n c s h)
    | inr e ↦ Contains-append_right (numbered_pairs Σ n) (number_pairs Σ n) (a, b) (subst (λ k. Contains (number_pairs Σ k) (a, b)) e h)
  ]
    where
      last_or_before : c < suc n → (c < n) ⊎ (c ≡ n)
      last_or_before l = grind (arith, l)

-- the types of blocks
types_below : (a b : ℕ) (As : List LfType) → Contains (types_pairs As) (a, b) → (A : LfType) × Member A As × Quantifies a b A
types_below a b [] h = absurd (nothing (a, b) h)
types_below a b (A ∷ As) h = elim (Contains-append_cases (type_pairs A) (types_pairs As) (a, b) h) [
  | inl g ↦ (A, inl refl, quantifies a b A g)
  | inr g ↦ let r = types_below a b As g in (r.0, inr r.1, r.2)
]

below_types : (a b : ℕ) (A : LfType) (As : List LfType) → Member A As → Quantifies a b A → Contains (types_pairs As) (a, b)
below_types a b A [] m q = absurd m
below_types a b A (B ∷ As) (inl e) q = Contains-append_left (type_pairs B) (types_pairs As) (a, b) (quantified a b B (subst (Quantifies a b) e q))
below_types a b A (B ∷ As) (inr m) q = Contains-append_right (type_pairs B) (types_pairs As) (a, b) (below_types a b A As m q)

blocks_below : (a b : ℕ) (bs : List BlockTypes) → Contains (blocks_pairs bs) (a, b) → (B : Block) × (E : LfType) × Member B (worlds_of_types bs) × Member E B.entries × Quantifies a b E
blocks_below a b [] h = absurd (nothing (a, b) h)
blocks_below a b (x ∷ bs) h = elim (Contains-append_cases (block_pairs x) (blocks_pairs bs) (a, b) h) [
  | inl g ↦ let r = types_below a b (map syntax_of x.types.items) g in (block_of_types x, r.0, inl refl, r.1, r.2)
  | inr g ↦ let r = blocks_below a b bs g in (r.0, r.1, inr r.2, r.3, r.4)
]

below_blocks : (a b : ℕ) (B : Block) (E : LfType) (bs : List BlockTypes) → Member B (worlds_of_types bs) → Member E B.entries → Quantifies a b E → Contains (blocks_pairs bs) (a, b)
below_blocks a b B E [] m i q = absurd m
below_blocks a b B E (x ∷ bs) (inl e) i q = Contains-append_left (block_pairs x) (blocks_pairs bs) (a, b) (below_types a b E (map syntax_of x.types.items) (subst (λ (C : Block). Member E C.entries) e i) q)
below_blocks a b B E (x ∷ bs) (inr m) i q = Contains-append_right (block_pairs x) (blocks_pairs bs) (a, b) (below_blocks a b B E bs m i q)

leads_through : (rows : List (List ℕ)) (a b c : ℕ) → Leads rows a b → Leads rows b c → Leads rows a c
leads_through rows a b c leads_itself r = r
leads_through rows a b c (leads_on d h l) r = leads_on d h (leads_through rows d b c l r)

module _ (es : List Entry) (bs : List BlockTypes) (rows : List (List ℕ)) (linked : (a b : ℕ) → (Contains (row rows b) a) ↔ Contains (numbered_pairs (signature_of es) (length es) ++ blocks_pairs bs) (a, b)) where
  link_below : (a b : ℕ) → Contains (row rows b) a → Below (signature_of es) (worlds_of_types bs) a b
  link_below a b h = elim (Contains-append_cases (numbered_pairs (signature_of es) (length es)) (blocks_pairs bs) (a, b) ((linked a b).0 h)) [
    | inl g ↦ numbered_below (signature_of es) (worlds_of_types bs) a b (length es) g
    | inr g ↦ let r = blocks_below a b bs g in below_in_entry r.0 r.1 r.2 r.3 r.4
  ]

  pub leads_below : (a b : ℕ) → Leads rows a b → Below (signature_of es) (worlds_of_types bs) a b
  leads_below a b leads_itself = below_itself
  leads_below a b (leads_on c h l) = below_through (link_below a c h) (leads_below c b l)

  one_link : (a b : ℕ) → Contains (numbered_pairs (signature_of es) (length es) ++ blocks_pairs bs) (a, b) → Leads rows a b
  one_link a b h = leads_on b ((linked a b).1 h) leads_itself

  at_entry : (a b c : ℕ) → c < length es → Contains (number_pairs (signature_of es) c) (a, b) → Leads rows a b
  at_entry a b c l h = one_link a b (Contains-append_left (numbered_pairs (signature_of es) (length es)) (blocks_pairs bs) (a, b) (at_number (signature_of es) (worlds_of_types bs) a b (length es) c l h))

  pub below_leads : (a b : ℕ) → Below (signature_of es) (worlds_of_types bs) a b → Leads rows a b
  below_leads a b below_itself = leads_itself
  below_leads a b (below_through {b = m} p q) = leads_through rows a m b (below_leads a m p) (below_leads m b q)
  below_leads a b (below_in_constant c U e q) =
      at_entry a b c (type_within es c U (entry es c) refl e)
      (Contains-append_left (constant_pairs ((signature_of es).types c)) (family_pairs c ((signature_of es).kinds c)) (a, b) (subst (λ o. Contains (constant_pairs o) (a, b)) (sym e) (quantified a b U q)))
  below_leads a b (below_in_kind f K e q) =
      at_entry a b f (kind_within es f K (entry es f) refl e)
      (Contains-append_right (constant_pairs ((signature_of es).types f)) (family_pairs f ((signature_of es).kinds f)) (a, b) (subst (λ o. Contains (family_pairs f o) (a, b)) (sym e) (kind_quantified a b f K q)))
  below_leads a b (below_in_entry B E m i q) =
      one_link a b (Contains-append_right (numbered_pairs (signature_of es) (length es)) (blocks_pairs bs) (a, b) (below_blocks a b B E bs m i q))

-- nothing but itself leads to a number without a row
pub leads_alone : (rows : List (List ℕ)) (a b : ℕ) → row rows b ≡ [] → Leads rows a b → a ≡ b
leads_alone rows a b e leads_itself = refl
leads_alone rows a b e (leads_on c h l) = let q = leads_alone rows c b e l in absurd (nothing a (subst (λ xs. Contains xs a) (ap (row rows) q ∙ e) h))

within_or_beyond : (b n : ℕ) → (b < n) ⊎ (n ≤ b)
within_or_beyond b n = grind arith

pub either_left : (s t : Bool) → s ≡ true → either s t ≡ true
either_left s t e = ap (λ r. either r t) e

pub either_right : (s t : Bool) → t ≡ true → either s t ≡ true
either_right true t e = refl
either_right false t e = e

pub is_in_row : (a : ℕ) (xs : List ℕ) → is_in a xs ≡ true → Contains xs a
is_in_row a [] h = absurd cc
is_in_row a (x ∷ xs) h = go (is_in_row a xs) (same_number a x) refl h
  where
    go : (is_in a xs ≡ true → Contains xs a) → (t : Bool) → same_number a x ≡ t → either t (is_in a xs) ≡ true → Contains (x ∷ xs) a
    go r true e k = (0, omega arith, sym (number_is a x e))
    go r false e k = Contains-append_right (x ∷ []) xs a (r k)

pub row_has : (a : ℕ) (xs : List ℕ) → Contains xs a → is_in a xs ≡ true
row_has a [] h = absurd (nothing a h)
row_has a (x ∷ xs) h = elim (Contains-append_cases (x ∷ []) xs a h) [
  | inl g ↦ either_left (same_number a x) (is_in a xs) (subst (λ k. same_number a k ≡ true) (sym (single x a g)) (same_itself a))
  | inr g ↦ either_right (same_number a x) (is_in a xs) (row_has a xs g)
]

-- rows that hold what leads to their numbers tell what is below what
pub tells : (es : List Entry) (bs : List BlockTypes) (links rows : List (List ℕ)) → ((a b : ℕ) → (Contains (row links b) a) ↔ Contains (numbered_pairs (signature_of es) (length es) ++ blocks_pairs bs) (a, b)) → ((a b : ℕ) → b < length links → (Contains (row rows b) a) ↔ Leads links a b) → ((b : ℕ) → length links ≤ b → (row links b ≡ []) × (row rows b ≡ [])) → (a b : ℕ) → (is_below rows a b ≡ true) ↔ Below (signature_of es) (worlds_of_types bs) a b
tells es bs links rows linked held beyond a b = (yes (same_number a b) refl, no)
  where
    yes : (t : Bool) → same_number a b ≡ t → either t (is_in a (row rows b)) ≡ true → Below (signature_of es) (worlds_of_types bs) a b
    yes true e h = subst (Below (signature_of es) (worlds_of_types bs) a) (number_is a b e) below_itself
    yes false e h = leads_below es bs links linked a b ((held a b (inside (is_in_row a (row rows b) h))).0 (is_in_row a (row rows b) h))
      where
        inside : Contains (row rows b) a → b < length links
        inside i = elim (within_or_beyond b (length links)) [ inl l ↦ l | inr l ↦ absurd (nothing a (subst (λ xs. Contains xs a) (beyond b l).1 i)) ]

    no : Below (signature_of es) (worlds_of_types bs) a b → is_below rows a b ≡ true
    no h = go (within_or_beyond b (length links)) (below_leads es bs links linked a b h)
      where
        go : (b < length links) ⊎ (length links ≤ b) → Leads links a b → is_below rows a b ≡ true
        go (inl l) p = either_right (same_number a b) (is_in a (row rows b)) (row_has a (row rows b) ((held a b l).1 p))
        go (inr l) p = either_left (same_number a b) (is_in a (row rows b)) (subst (λ k. same_number a k ≡ true) (leads_alone links a b (beyond b l).0 p) (same_itself a))
