-- The clauses of a group, one place after the other.
use Rattle.std.proofs.Common.{◌≡◌, ℕ, zero, suc, ◌+◌, ◌<◌, ◌≤◌, List, [], ◌∷◌, ◌++◌, Bool, true, false, Some, None, Option, length, drop, get_or, map, refl, sym, ap, ◌∙◌, arith, inl, inr}
use Rattle.std.specs.Prelude.{cond, slice_get}
use Rattle.std.proofs.lemmas.List.{append_assoc}
use Rattle.std.proofs.Math.ListN.{drop_of_length-le}
use Rattle.lf.specs.Entries.{Entry as PlainEntry, signature_of}
use Rattle.lf.specs.Subordination.{Block, Member}
use Rattle.lf.specs.Syntax.{LfType}
use Rattle.lf.specs.Variables.{same_number, target}
use Rattle.lf_checks.specs.Clauses.{NamedClause, block_clauses, constant_clauses, entry_clauses, named_entry, with_constant}
use Rattle.tw_terms.specs.declared.canonical.ConstId.{ConstId}
use Rattle.tw_mode.specs.Listing.{clause_at, entry_alone, in_block, is_of, listed_clauses, with_entry}
use Rattle.tw_mode.specs.declared.listed.Listed.{Listed}
use Rattle.tw_mode.specs.declared.listed.Listed.TheVariants.{Entry}

nothing_behind : {A : Type 0} (xs : List A) → xs ++ [] ≡ xs
nothing_behind [] = refl
nothing_behind (x ∷ xs) = ap (λ ys. x ∷ ys) (nothing_behind xs)

module _ (es : List PlainEntry) (W : List Block) where
  pub listed_push : (xs : List Listed) (x : Listed) → listed_clauses es W (xs ++ x ∷ []) ≡ listed_clauses es W xs ++ clause_at es W x
  listed_push [] x = nothing_behind (clause_at es W x)
  listed_push (y ∷ xs) x = ap (λ cs. clause_at es W y ++ cs) (listed_push xs x) ∙ sym (append_assoc (clause_at es W y) (listed_clauses es W xs) (clause_at es W x))

  constant_before : (k : ℕ) (ks : List ℕ) (o : Option LfType) (cs : List NamedClause) → with_constant k o cs ≡ with_constant k o [] ++ cs
  constant_before k ks (Some U) cs = refl
  constant_before k ks None cs = refl

  pub constants_split : (k : ℕ) (ks : List ℕ) → constant_clauses (signature_of es).types (k ∷ ks) ≡ with_constant k ((signature_of es).types k) [] ++ constant_clauses (signature_of es).types ks
  constants_split k ks = constant_before k ks ((signature_of es).types k) (constant_clauses (signature_of es).types ks)

  pub entry_pushed : (B : Block) (number newer a : ℕ) (E : LfType) (xs ys : List Listed) → slice_get W number ≡ Some B → slice_get B.entries newer ≡ Some E → same_number (target E) a ≡ true → ys ≡ xs ++ Entry number newer ∷ [] → listed_clauses es W ys ≡ listed_clauses es W xs ++ entry_alone B a newer
  entry_pushed B number newer a E xs ys w e t q =
      ap (listed_clauses es W) q
      ∙ listed_push xs (Entry number newer)
      ∙ ap (λ o. listed_clauses es W xs ++ in_block o newer) w
      ∙ ap (λ b. listed_clauses es W xs ++ cond b (with_entry B newer (slice_get B.entries newer)) []) (sym (ap (λ o. is_of o a) e ∙ t))

  pub entry_left : (B : Block) (newer a : ℕ) (xs : List Listed) → is_of (slice_get B.entries newer) a ≡ false → listed_clauses es W xs ≡ listed_clauses es W xs ++ entry_alone B a newer
  entry_left B newer a xs e = sym (ap (λ b. listed_clauses es W xs ++ cond b (with_entry B newer (slice_get B.entries newer)) []) e ∙ nothing_behind (listed_clauses es W xs))

pub drop_found : {A : Type 0} (xs : List A) (k : ℕ) (x : A) → slice_get xs k ≡ Some x → drop k xs ≡ x ∷ drop (suc k) xs
drop_found [] k x e = absurd cc
drop_found (y ∷ xs) zero x e = let q : y ≡ x = cc in ap (λ z. z ∷ xs) q
drop_found (y ∷ xs) (suc k) x e = drop_found xs k x e

pub found_below : {A : Type 0} (xs : List A) (k : ℕ) → k < length xs → (x : A) × (slice_get xs k ≡ Some x)
found_below [] k h = absurd (omega (arith, h))
found_below (x ∷ xs) zero h = (x, refl)
found_below (x ∷ xs) (suc k) h = found_below xs k (omega (arith, h))

-- one entry more
entry_step : (B : Block) (a : ℕ) (E : LfType) (rest : List LfType) (n : ℕ) → slice_get B.entries n ≡ Some E → rest ≡ drop (suc n) B.entries → entry_clauses B a rest ++ entry_alone B a n ≡ entry_clauses B a (E ∷ rest)
entry_step B a E rest n e r =
    ap (λ o. entry_clauses B a rest ++ cond (is_of o a) (with_entry B n o) []) e
    ∙ ap (λ X. entry_clauses B a rest ++ cond (same_number (target E) a) (named_entry B X E ∷ []) []) (sym r)
    ∙ by (same_number (target E) a)
  where
    by : (b : Bool) → entry_clauses B a rest ++ cond b (named_entry B rest E ∷ []) [] ≡ cond b (entry_clauses B a rest ++ named_entry B rest E ∷ []) (entry_clauses B a rest)
    by true = refl
    by false = nothing_behind (entry_clauses B a rest)

pub entries_next : (B : Block) (a n : ℕ) → n < length B.entries → entry_clauses B a (drop (suc n) B.entries) ++ entry_alone B a n ≡ entry_clauses B a (drop n B.entries)
entries_next B a n h = let (E, e) = found_below B.entries n h in entry_step B a E (drop (suc n) B.entries) n e refl ∙ ap (entry_clauses B a) (sym (drop_found B.entries n E e))

pub no_entries : (B : Block) (a n : ℕ) (cs : List NamedClause) → length B.entries ≤ n → cs ≡ cs ++ entry_clauses B a (drop n B.entries)
no_entries B a n cs h = sym (ap (λ xs. cs ++ entry_clauses B a xs) (drop_of_length-le B.entries h) ∙ nothing_behind cs)

pub listed_next : (es : List PlainEntry) (W : List Block) (xs : List Listed) (k : ℕ) (x : Listed) → drop k xs ≡ x ∷ drop (suc k) xs → listed_clauses es W (drop k xs) ≡ clause_at es W x ++ listed_clauses es W (drop (k + 1) xs)
listed_next es W xs k x e = ap (listed_clauses es W) e ∙ ap (λ n. clause_at es W x ++ listed_clauses es W (drop n xs)) (let q : suc k ≡ k + 1 = omega arith in q)

-- one constant, one block, one family more
pub one_more_in_front : (os bs cs ds rest : List NamedClause) (whole : List NamedClause) → bs ≡ os ++ cs → ds ≡ cs ++ rest → os ++ ds ≡ whole → bs ++ rest ≡ whole
one_more_in_front os bs cs ds rest whole b d w = ap (λ xs. xs ++ rest) b ∙ append_assoc os cs rest ∙ ap (λ xs. os ++ xs) (sym d) ∙ w

pub found_within : {A : Type 0} (xs : List A) (k : ℕ) (x : A) → slice_get xs k ≡ Some x → k < length xs
found_within [] k x e = absurd cc
found_within (y ∷ xs) zero x e = omega arith
found_within (y ∷ xs) (suc k) x e = let h = found_within xs k x e in omega (arith, h)

pub found_member : {A : Type 0} (xs : List A) (k : ℕ) (x : A) → slice_get xs k ≡ Some x → Member x xs
found_member [] k x e = absurd cc
found_member (y ∷ xs) zero x e = inl (let q : x ≡ y = cc in q)
found_member (y ∷ xs) (suc k) x e = inr (found_member xs k x e)

pub none_found : {A B : Type 0} (f : A → B) (xs : List A) (k : ℕ) → length xs ≤ k → slice_get (map f xs) k ≡ None
none_found f [] k h = refl
none_found f (x ∷ xs) zero h = absurd (omega (arith, h))
none_found f (x ∷ xs) (suc k) h = none_found f xs k (omega (arith, h))

pub map_found : {A B : Type 0} (f : A → B) (xs : List A) (k : ℕ) (x : A) → k < length xs → x ≡ get_or xs k x → slice_get (map f xs) k ≡ Some (f x)
map_found f [] k x h e = absurd (omega (arith, h))
map_found f (y ∷ xs) zero x h e = ap (λ z. Some (f z)) (sym e)
map_found f (y ∷ xs) (suc k) x h e = map_found f xs k x (omega (arith, h)) e

pub constants_next : (es : List PlainEntry) (ids : List ConstId) (k : ℕ) (x : ConstId) → drop k ids ≡ x ∷ drop (suc k) ids → constant_clauses (signature_of es).types (map (λ i. i.0) (drop k ids)) ≡ with_constant x.0 ((signature_of es).types x.0) [] ++ constant_clauses (signature_of es).types (map (λ i. i.0) (drop (k + 1) ids))
constants_next es ids k x e =
    ap (λ xs. constant_clauses (signature_of es).types (map (λ i. i.0) xs)) e
    ∙ constants_split es [] x.0 (map (λ i. i.0) (drop (suc k) ids))
    ∙ ap (λ n. with_constant x.0 ((signature_of es).types x.0) [] ++ constant_clauses (signature_of es).types (map (λ i. i.0) (drop n ids))) (let q : suc k ≡ k + 1 = omega arith in q)

pub blocks_next : (W : List Block) (k : ℕ) (B : Block) (a : ℕ) → slice_get W k ≡ Some B → block_clauses (drop k W) a ≡ entry_clauses B a B.entries ++ block_clauses (drop (k + 1) W) a
blocks_next W k B a e = ap (λ xs. block_clauses xs a) (drop_found W k B e) ∙ ap (λ n. entry_clauses B a B.entries ++ block_clauses (drop n W) a) (let q : suc k ≡ k + 1 = omega arith in q)
