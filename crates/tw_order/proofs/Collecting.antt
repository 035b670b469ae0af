-- The list of the clauses of a group, one after the other.
use Rattle.std.proofs.Common.{◌≡◌, ℕ, zero, suc, ◌+◌, ◌-◌, ◌<◌, List, [], ◌∷◌, ◌++◌, Bool, true, false, Option, Some, None, length, length-drop, drop, get_or, map, refl, sym, ap, ◌∙◌, subst, arith}
use Rattle.std.specs.Prelude.{cond, slice_get}
use Rattle.std.proofs.lemmas.List.{append_assoc}
use Rattle.lf.specs.Constants.{constants_of}
use Rattle.lf.specs.Entries.{Entry, IsCanonicalSignature, signature_of}
use Rattle.lf.specs.Subordination.{AreTypedBlocks, Block, Member}
use Rattle.lf.specs.Syntax.{LfType}
use Rattle.lf.specs.Typing.{IsContext, IsSignature, IsType, Signature}
use Rattle.lf.specs.Variables.{nothing, onto, same_number, target}
use Rattle.lf.proofs.Entries.{canonical_is_signature}
use Rattle.lf_checks.specs.Clause.{Clause, IsClause, among, from_constant, from_entry}
use Rattle.lf_checks.specs.Clauses.{ClauseName, NamedClause, block_clauses, clauses_of, constant_clauses, entry_clauses, group_clauses, named_entry, of_entry, with_constant}
use Rattle.lf_checks.proofs.Listed.{listed}
use Rattle.tw_terms.specs.declared.canonical.ConstId.{ConstId}
use Rattle.tw_order.specs.Listing.{AllStand, ClauseStands, named_of}
use Rattle.tw_order.specs.Scopes.{newest_and}
use Rattle.tw_order.specs.declared.listed.Listed.{Listed}
use Rattle.tw_order.proofs.Newest.{among_is}

pub nothing_behind : {A : Type 0} (xs : List A) → xs ++ [] ≡ xs
nothing_behind [] = refl
nothing_behind (x ∷ xs) = ap (λ ys. x ∷ ys) (nothing_behind xs)

map_joined : {A B : Type 0} (f : A → B) (xs ys : List A) → map f (xs ++ ys) ≡ map f xs ++ map f ys
map_joined f [] ys = refl
map_joined f (x ∷ xs) ys = ap (λ zs. f x ∷ zs) (map_joined f xs ys)

-- one more in front
pub more_in_front : {A : Type 0} (os bs cs ds rest whole : List A) → bs ≡ os ++ cs → ds ≡ cs ++ rest → os ++ ds ≡ whole → bs ++ rest ≡ whole
more_in_front os bs cs ds rest whole b d w = ap (λ xs. xs ++ rest) b ∙ append_assoc os cs rest ∙ ap (λ xs. os ++ xs) (sym d) ∙ w

pub pushed_named : (old new : List Listed) (x : Listed) (n : NamedClause) → new ≡ old ++ x ∷ [] → named_of x ≡ n → map named_of new ≡ map named_of old ++ n ∷ []
pushed_named old new x n e q = ap (map named_of) e ∙ map_joined named_of old (x ∷ []) ∙ ap (λ m. map named_of old ++ m ∷ []) q

pub drop_get : {A : Type 0} (xs : List A) (k : ℕ) (d : A) → k < length xs → drop k xs ≡ get_or xs k d ∷ drop (k + 1) xs
drop_get [] k d h = absurd (omega (arith, h))
drop_get (x ∷ xs) zero d h = refl
drop_get (x ∷ xs) (suc k) d h = drop_get xs k d (omega (arith, h)) ∙ ap (λ n. get_or xs k d ∷ drop n (x ∷ xs)) (let q : suc (k + 1) ≡ suc k + 1 = omega arith in q)

-- Constants.
constant_before : (k : ℕ) (o : Option LfType) (cs : List NamedClause) → with_constant k o cs ≡ with_constant k o [] ++ cs
constant_before k (Some U) cs = refl
constant_before k None cs = refl

pub constants_next : (types : ℕ → Option LfType) (ids : List ConstId) (k : ℕ) (d : ConstId) → k < length ids → constant_clauses types (map (λ c. c.0) (drop k ids)) ≡ with_constant (get_or ids k d).0 (types (get_or ids k d).0) [] ++ constant_clauses types (map (λ c. c.0) (drop (k + 1) ids))
constants_next types ids k d h = ap (λ xs. constant_clauses types (map (λ c. c.0) xs)) (drop_get ids k d h) ∙ constant_before (get_or ids k d).0 (types (get_or ids k d).0) (constant_clauses types (map (λ c. c.0) (drop (k + 1) ids)))

-- Entries.
pub entry_number : (es : List LfType) (n : ℕ) → n < length es → suc (length (drop (suc n) es)) ≡ length es - n
entry_number es n h = let q = length-drop (suc n) es in omega (arith, q, h)

pub found_drop : {A : Type 0} (xs : List A) (k : ℕ) (x : A) → slice_get xs k ≡ Some x → drop k xs ≡ x ∷ drop (suc k) xs
found_drop [] k x e = absurd cc
found_drop (y ∷ xs) zero x e = let q : y ≡ x = cc in ap (λ z. z ∷ xs) q
found_drop (y ∷ xs) (suc k) x e = found_drop xs k x e

pub found_below : {A : Type 0} (xs : List A) (k : ℕ) → k < length xs → (x : A) × (slice_get xs k ≡ Some x)
found_below [] k h = absurd (omega (arith, h))
found_below (x ∷ xs) zero h = (x, refl)
found_below (x ∷ xs) (suc k) h = found_below xs k (omega (arith, h))

-- one entry more: it is listed where its target is the family
pub entry_next : (B : Block) (a n : ℕ) (old new all : List NamedClause) → n < length B.entries → ((E : LfType) → slice_get B.entries n ≡ Some E → new ≡ old ++ cond (same_number (target E) a) (named_entry B (drop (suc n) B.entries) E ∷ []) []) → old ≡ all ++ entry_clauses B a (drop (suc n) B.entries) → new ≡ all ++ entry_clauses B a (drop n B.entries)
entry_next B a n old new all h f e =
    let (E, g) = found_below B.entries n h in
    f E g
    ∙ ap (λ xs. xs ++ cond (same_number (target E) a) (named_entry B (drop (suc n) B.entries) E ∷ []) []) e
    ∙ by (same_number (target E) a) (drop (suc n) B.entries) E
    ∙ ap (λ xs. all ++ entry_clauses B a xs) (sym (found_drop B.entries n E g))
  where
    by_test : (b : Bool) (gs : List NamedClause) (n : NamedClause) → all ++ gs ++ cond b (n ∷ []) [] ≡ all ++ cond b (gs ++ n ∷ []) gs
    by_test true gs n = append_assoc all gs (n ∷ [])
    by_test false gs n = nothing_behind (all ++ gs)

    by : (b : Bool) (es : List LfType) (E : LfType) → all ++ entry_clauses B a es ++ cond b (named_entry B es E ∷ []) [] ≡ all ++ cond b (entry_clauses B a es ++ named_entry B es E ∷ []) (entry_clauses B a es)
    by b es E = by_test b (entry_clauses B a es) (named_entry B es E)

abbrev made : LfType → ClauseName → List LfType → (ℕ → Bool) → NamedClause
made A N C F = record { name = N; clause = record { outer = C; fixed = F; type = A } }

named : (A : LfType) {M N : ClauseName} {C D : List LfType} {F G : ℕ → Bool} → M ≡ N → C ≡ D → F ≡ G → made A M C F ≡ made A N D G
named A {M = M} {D = D} {F = F} {G = G} p q r = ap (λ X. made A M X F) q ∙ ap (λ X. made A M D X) r ∙ ap (λ X. made A X D G) p

-- the clause of an entry by what the program has of it
pub entry_named : (B : Block) (n k : ℕ) (N : ClauseName) (C : List LfType) (A : LfType) → n < length B.entries → C ≡ onto (drop (suc n) B.entries) B.some → k ≡ length B.entries - n - 1 → N ≡ of_entry B.label (length B.entries - n) → made A N C (newest_and k nothing) ≡ named_entry B (drop (suc n) B.entries) A
entry_named B n k N C A h o e m = named A (m ∙ ap (of_entry B.label) (sym (entry_number B.entries n h))) o (fixed (e ∙ many))
  where
    many : length B.entries - n - 1 ≡ length (drop (suc n) B.entries)
    many = let q = length-drop (suc n) B.entries in omega (arith, q, h)

    fixed : k ≡ length (drop (suc n) B.entries) → newest_and k nothing ≡ among (drop (suc n) B.entries)
    fixed q = ap (λ i. newest_and i nothing) q ∙ sym (among_is (drop (suc n) B.entries))

-- Blocks.
pub blocks_next : (W : List Block) (k : ℕ) (B : Block) (a : ℕ) → slice_get W k ≡ Some B → block_clauses (drop k W) a ≡ entry_clauses B a B.entries ++ block_clauses (drop (k + 1) W) a
blocks_next W k B a e = ap (λ xs. block_clauses xs a) (found_drop W k B e) ∙ ap (λ n. entry_clauses B a B.entries ++ block_clauses (drop n W) a) (let q : suc k ≡ k + 1 = omega arith in q)

pub map_found : {A B : Type 0} (f : A → B) (xs : List A) (k : ℕ) (x : A) → k < length xs → x ≡ get_or xs k x → slice_get (map f xs) k ≡ Some (f x)
map_found f [] k x h e = absurd (omega (arith, h))
map_found f (y ∷ xs) zero x h e = ap (λ z. Some (f z)) (sym e)
map_found f (y ∷ xs) (suc k) x h e = map_found f xs k x (omega (arith, h)) e

-- Families.
pub family_split : (es : List Entry) (W : List Block) (a : ℕ) (old mid new : List NamedClause) → mid ≡ old ++ constant_clauses (signature_of es).types (constants_of es a) → new ≡ mid ++ block_clauses W a → new ≡ old ++ clauses_of es W a
family_split es W a old mid new e f = f ∙ ap (λ xs. xs ++ block_clauses W a) e ∙ append_assoc old (constant_clauses (signature_of es).types (constants_of es a)) (block_clauses W a)

-- What is listed is typed.
parts_typed : (Σ : Signature) (later C es : List LfType) (E : LfType) → IsContext Σ (onto (onto later (E ∷ es)) C) → IsContext Σ (onto es C) × IsType Σ (onto es C) E
parts_typed Σ [] C es E c = c
parts_typed Σ (A ∷ later) C es E c = parts_typed Σ later C es E c.0

clause_stands : (es : List Entry) (W : List Block) (c : Clause) → IsCanonicalSignature es → AreTypedBlocks (signature_of es) W → IsClause (signature_of es) W c → ClauseStands (signature_of es) c
clause_stands es W c g t (from_constant k U e) =
    let ok : IsSignature (signature_of es) = canonical_is_signature es g in
    record { signature = ok; context = tt; is_type = ok.types_ok k U e }
clause_stands es W c g t (from_entry B later E xs m e) =
    let ok : IsSignature (signature_of es) = canonical_is_signature es g in
    let (a, b) = parts_typed (signature_of es) later B.some xs E (subst (λ ys. IsContext (signature_of es) (onto ys B.some)) (sym e) (t B m)) in
    record { signature = ok; context = a; is_type = b }

pub all_stand : (es : List Entry) (W : List Block) (group : List ℕ) (xs : List Listed) → IsCanonicalSignature es → AreTypedBlocks (signature_of es) W → map named_of xs ≡ group_clauses es W group → AllStand (signature_of es) xs
all_stand es W group xs g t e n m = clause_stands es W n.clause g t ((listed es W group n.clause).1 (n, subst (Member n) e m, refl)).0

-- One entry, which is listed or left out, and stands outside the next ones.
pub outer_next : (es C : List LfType) (n : ℕ) (E : LfType) (old new : List LfType) → slice_get es n ≡ Some E → new ≡ E ∷ old → old ≡ onto (drop (suc n) es) C → new ≡ onto (drop n es) C
outer_next es C n E old new e f g = f ∙ ap (λ xs. E ∷ xs) g ∙ ap (λ xs. onto xs C) (sym (found_drop es n E e))

number_same : (i j : ℕ) → i ≡ j → same_number i j ≡ true
number_same i j e = ap (same_number i) (sym e) ∙ self i
  where
    self : (i : ℕ) → same_number i i ≡ true
    self zero = refl
    self (suc i) = self i

number_other : (i j : ℕ) → (i ≡ j → ⊥) → same_number i j ≡ false
number_other zero zero n = absurd (n refl)
number_other zero (suc j) n = refl
number_other (suc i) zero n = refl
number_other (suc i) (suc j) n = number_other i j (λ q. n (ap suc q))

module _ (B : Block) (a n : ℕ) (E F : LfType) (e : slice_get B.entries n ≡ Some E) (f : slice_get B.entries n ≡ Some F) where
  same_entry : E ≡ F
  same_entry = one (sym e ∙ f)
    where
      one : {A : Type 0} {x y : A} → Some x ≡ Some y → x ≡ y
      one q = cc

  pub entry_pushed : (old new : List Listed) (x : Listed) → target E ≡ a → new ≡ old ++ x ∷ [] → named_of x ≡ named_entry B (drop (suc n) B.entries) E → map named_of new ≡ map named_of old ++ cond (same_number (target F) a) (named_entry B (drop (suc n) B.entries) F ∷ []) []
  entry_pushed old new x t p q =
      pushed_named old new x (named_entry B (drop (suc n) B.entries) F) p (q ∙ ap (named_entry B (drop (suc n) B.entries)) same_entry)
      ∙ ap (λ b. map named_of old ++ cond b (named_entry B (drop (suc n) B.entries) F ∷ []) []) (sym (number_same (target F) a (ap target (sym same_entry) ∙ t)))

  pub entry_left : (old new : List Listed) → (target E ≡ a → ⊥) → new ≡ old → map named_of new ≡ map named_of old ++ cond (same_number (target F) a) (named_entry B (drop (suc n) B.entries) F ∷ []) []
  entry_left old new t p =
      ap (map named_of) p ∙ sym (nothing_behind (map named_of old))
      ∙ ap (λ b. map named_of old ++ cond b (named_entry B (drop (suc n) B.entries) F ∷ []) []) (sym (number_other (target F) a (λ q. t (ap target same_entry ∙ q))))
