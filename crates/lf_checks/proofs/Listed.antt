-- The clauses of a group are those that are listed.
use Rattle.std.proofs.Common.{◌≡◌, ℕ, zero, suc, ◌<◌, List, [], ◌∷◌, ◌++◌, length, refl, sym, ap, ◌∙◌, subst, arith, inl, inr}
use Rattle.std.specs.Prelude.{Bool, true, false, cond, Option, Some, None, ◌⊎◌, ◌↔◌}
use Rattle.lf.specs.Syntax.{LfType}
use Rattle.lf.specs.Entries.{Body, Entry, declare_family, declare_constant, declare_definition, entry, type_of, type_of_body, signature_of}
use Rattle.lf.specs.Constants.{constants_of, family_of, is_family}
use Rattle.lf.specs.Variables.{target, onto, same_number}
use Rattle.lf.specs.Subordination.{Block, Member}
use Rattle.lf_checks.specs.Clause.{Clause, constant_clause, IsClause, from_constant, from_entry}
use Rattle.lf_checks.specs.Clauses.{of_constant, NamedClause, with_constant, constant_clauses, named_entry, entry_clauses, block_clauses, clauses_of, group_clauses, IsListed}
use Rattle.lf_checks.proofs.Reach.{number_equal}

pub same_self : (i : ℕ) → same_number i i ≡ true
same_self zero = refl
same_self (suc i) = same_self i

pub member_left : {A : Type 0} (x : A) (xs ys : List A) → Member x xs → Member x (xs ++ ys)
member_left x [] ys m = absurd m
member_left x (y ∷ xs) ys (inl e) = inl e
member_left x (y ∷ xs) ys (inr m) = inr (member_left x xs ys m)

pub member_right : {A : Type 0} (x : A) (xs ys : List A) → Member x ys → Member x (xs ++ ys)
member_right x [] ys m = m
member_right x (y ∷ xs) ys m = inr (member_right x xs ys m)

pub member_either : {A : Type 0} (x : A) (xs ys : List A) → Member x (xs ++ ys) → Member x xs ⊎ Member x ys
member_either x [] ys m = inr m
member_either x (y ∷ xs) ys (inl e) = inl (inl e)
member_either {A = A} x (y ∷ xs) ys (inr m) = by (member_either x xs ys m)
  where
    by : Member x xs ⊎ Member x ys → Member x (y ∷ xs) ⊎ Member x ys
    by (inl k) = inl (inr k)
    by (inr k) = inr k

-- The constants of a family.

constants_below : (es : List Entry) (a k : ℕ) → Member k (constants_of es a) → k < length es
constants_below [] a k m = absurd m
constants_below (e ∷ es) a k m = by (is_family (family_of e.body) a) (constants_below es a k) m
  where
    last : (k ≡ length es) ⊎ ⊥ → k < suc (length es)
    last (inl q) = omega arith
    last (inr q) = absurd q

    more : k < length es → k < suc (length es)
    more q = omega arith

    by : (b : Bool) → (Member k (constants_of es a) → k < length es) → Member k (cond b (constants_of es a ++ length es ∷ []) (constants_of es a)) → k < suc (length es)
    by true f h = elim (member_either k (constants_of es a) (length es ∷ []) h) [ inl q ↦ more (f q) | inr q ↦ last q ]
    by false f h = more (f h)

is_of_family : (b : Body) (a : ℕ) → is_family (family_of b) a ≡ true → (U : LfType) × (type_of_body b ≡ Some U) × (target U ≡ a)
is_of_family (declare_family K) a e = absurd cc
is_of_family (declare_constant A) a e = (A, refl, number_equal (target A) a e)
is_of_family (declare_definition M A b) a e = absurd cc

has_family : (b : Body) (U : LfType) → type_of_body b ≡ Some U → is_family (family_of b) (target U) ≡ true
has_family (declare_family K) U e = absurd cc
has_family (declare_constant A) U e = let q : A ≡ U = cc in subst (λ X. same_number (target A) (target X) ≡ true) q (same_self (target A))
has_family (declare_definition M A b) U e = absurd cc

other_number : (k n : ℕ) → k < n → (b : Bool) → same_number k n ≡ b → b ≡ false
other_number k n l true e = let q : k ≡ n = number_equal k n e in absurd (omega arith)
other_number k n l false e = refl

type_is : (es : List Entry) (a k : ℕ) → Member k (constants_of es a) → (U : LfType) × ((signature_of es).types k ≡ Some U) × (target U ≡ a)
type_is [] a k m = absurd m
type_is (e ∷ es) a k m = by (is_family (family_of e.body) a) refl (type_is es a k) m
  where
    older : (Member k (constants_of es a) → (U : LfType) × ((signature_of es).types k ≡ Some U) × (target U ≡ a)) → Member k (constants_of es a) → (U : LfType) × (type_of (cond (same_number k (length es)) (Some e) (entry es k)) ≡ Some U) × (target U ≡ a)
    older g h = let (U, t, q) = g h in (U, ap (λ b. type_of (cond b (Some e) (entry es k))) (other_number k (length es) (constants_below es a k h) (same_number k (length es)) refl) ∙ t, q)

    newest : is_family (family_of e.body) a ≡ true → (k ≡ length es) ⊎ ⊥ → (U : LfType) × (type_of (cond (same_number k (length es)) (Some e) (entry es k)) ≡ Some U) × (target U ≡ a)
    newest f (inl q) = let (U, t, r) = is_of_family e.body a f in (U, ap (λ b. type_of (cond b (Some e) (entry es k))) (subst (λ n. same_number k n ≡ true) q (same_self k)) ∙ t, r)
    newest f (inr q) = absurd q

    by : (b : Bool) → is_family (family_of e.body) a ≡ b → (Member k (constants_of es a) → (U : LfType) × ((signature_of es).types k ≡ Some U) × (target U ≡ a)) → Member k (cond b (constants_of es a ++ length es ∷ []) (constants_of es a)) → (U : LfType) × (type_of (cond (same_number k (length es)) (Some e) (entry es k)) ≡ Some U) × (target U ≡ a)
    by true f g h = elim (member_either k (constants_of es a) (length es ∷ []) h) [ inl q ↦ older g q | inr q ↦ newest f q ]
    by false f g h = older g h

is_constant : (es : List Entry) (k : ℕ) (U : LfType) → (signature_of es).types k ≡ Some U → Member k (constants_of es (target U))
is_constant [] k U t = absurd cc
is_constant (e ∷ es) k U t = by (same_number k (length es)) refl (is_constant es k U) t
  where
    both_ways : (b : Bool) → Member k (constants_of es (target U)) → Member k (cond b (constants_of es (target U) ++ length es ∷ []) (constants_of es (target U)))
    both_ways true h = member_left k (constants_of es (target U)) (length es ∷ []) h
    both_ways false h = h

    at_end : (b : Bool) → b ≡ true → k ≡ length es → Member k (cond b (constants_of es (target U) ++ length es ∷ []) (constants_of es (target U)))
    at_end true f q = member_right k (constants_of es (target U)) (length es ∷ []) (inl q)
    at_end false f q = absurd cc

    by : (b : Bool) → same_number k (length es) ≡ b → ((signature_of es).types k ≡ Some U → Member k (constants_of es (target U))) → type_of (cond b (Some e) (entry es k)) ≡ Some U → Member k (cond (is_family (family_of e.body) (target U)) (constants_of es (target U) ++ length es ∷ []) (constants_of es (target U)))
    by true q f h = at_end (is_family (family_of e.body) (target U)) (has_family e.body U h) (number_equal k (length es) q)
    by false q f h = both_ways (is_family (family_of e.body) (target U)) (f h)

-- The clauses of a list of constants.
abbrev named_constant : ℕ → LfType → NamedClause
named_constant k U = record { name = of_constant k; clause = constant_clause U }

module _ (types : ℕ → Option LfType) where
  constant_stands : (ks : List ℕ) (k : ℕ) (U : LfType) → Member k ks → types k ≡ Some U → Member (named_constant k U) (constant_clauses types ks)
  constant_stands [] k U m t = absurd m
  constant_stands (j ∷ ks) k U (inl e) t = by (types j) (ap types (sym e) ∙ t)
    where
      by : (o : Option LfType) → o ≡ Some U → Member (named_constant k U) (with_constant j o (constant_clauses types ks))
      by (Some X) q = inl (let x : X ≡ U = cc in ap (λ i. named_constant i U) e ∙ ap (named_constant j) (sym x))
      by None q = absurd cc
  constant_stands (j ∷ ks) k U (inr m) t = by (types j) (constant_stands ks k U m t)
    where
      by : (o : Option LfType) → Member (named_constant k U) (constant_clauses types ks) → Member (named_constant k U) (with_constant j o (constant_clauses types ks))
      by (Some X) h = inr h
      by None h = h

  stands_constant : (ks : List ℕ) (n : NamedClause) → Member n (constant_clauses types ks) → (k : ℕ) × (U : LfType) × Member k ks × (types k ≡ Some U) × (n ≡ named_constant k U)
  stands_constant [] n m = absurd m
  stands_constant (j ∷ ks) n m = by (types j) refl (stands_constant ks n) m
    where
      further : (Member n (constant_clauses types ks) → (k : ℕ) × (U : LfType) × Member k ks × (types k ≡ Some U) × (n ≡ named_constant k U)) → Member n (constant_clauses types ks) → (k : ℕ) × (U : LfType) × Member k (j ∷ ks) × (types k ≡ Some U) × (n ≡ named_constant k U)
      further f h = let (k, U, i, t, e) = f h in (k, U, inr i, t, e)

      by : (o : Option LfType) → types j ≡ o → (Member n (constant_clauses types ks) → (k : ℕ) × (U : LfType) × Member k ks × (types k ≡ Some U) × (n ≡ named_constant k U)) → Member n (with_constant j o (constant_clauses types ks)) → (k : ℕ) × (U : LfType) × Member k (j ∷ ks) × (types k ≡ Some U) × (n ≡ named_constant k U)
      by (Some X) q f (inl e) = (j, X, inl refl, q, e)
      by (Some X) q f (inr h) = further f h
      by None q f h = further f h

-- The entries of a block.
entry_stands : (B : Block) (later : List LfType) (E : LfType) (es : List LfType) → Member (named_entry B es E) (entry_clauses B (target E) (onto later (E ∷ es)))
entry_stands B [] E es = by (same_number (target E) (target E)) (same_self (target E))
  where
    by : (b : Bool) → b ≡ true → Member (named_entry B es E) (cond b (entry_clauses B (target E) es ++ named_entry B es E ∷ []) (entry_clauses B (target E) es))
    by true e = member_right (named_entry B es E) (entry_clauses B (target E) es) (named_entry B es E ∷ []) (inl refl)
    by false e = absurd cc
entry_stands B (X ∷ later) E es = by (same_number (target X) (target E)) (entry_stands B later E es)
  where
    by : (b : Bool) → Member (named_entry B es E) (entry_clauses B (target E) (onto later (E ∷ es))) → Member (named_entry B es E) (cond b (entry_clauses B (target E) (onto later (E ∷ es)) ++ named_entry B (onto later (E ∷ es)) X ∷ []) (entry_clauses B (target E) (onto later (E ∷ es))))
    by true h = member_left (named_entry B es E) (entry_clauses B (target E) (onto later (E ∷ es))) (named_entry B (onto later (E ∷ es)) X ∷ []) h
    by false h = h

abbrev StandsAt : Block → ℕ → List LfType → NamedClause → Type 0
StandsAt B a Es n = (later : List LfType) × (E : LfType) × (es : List LfType) × (onto later (E ∷ es) ≡ Es) × (target E ≡ a) × (n ≡ named_entry B es E)

stands_entry : (B : Block) (a : ℕ) (Es : List LfType) (n : NamedClause) → Member n (entry_clauses B a Es) → StandsAt B a Es n
stands_entry B a [] n m = absurd m
stands_entry B a (X ∷ Es) n m = by (same_number (target X) a) refl (stands_entry B a Es n) m
  where
    older : StandsAt B a Es n → StandsAt B a (X ∷ Es) n
    older (later, E, es, q, t, e) = (X ∷ later, E, es, ap (λ D. X ∷ D) q, t, e)

    newest : same_number (target X) a ≡ true → (n ≡ named_entry B Es X) ⊎ ⊥ → StandsAt B a (X ∷ Es) n
    newest f (inl e) = ([], X, Es, refl, number_equal (target X) a f, e)
    newest f (inr e) = absurd e

    by : (b : Bool) → same_number (target X) a ≡ b → (Member n (entry_clauses B a Es) → StandsAt B a Es n) → Member n (cond b (entry_clauses B a Es ++ named_entry B Es X ∷ []) (entry_clauses B a Es)) → StandsAt B a (X ∷ Es) n
    by true f g h = elim (member_either n (entry_clauses B a Es) (named_entry B Es X ∷ []) h) [ inl q ↦ older (g q) | inr q ↦ newest f q ]
    by false f g h = older (g h)

block_stands : (W : List Block) (B : Block) (later : List LfType) (E : LfType) (es : List LfType) → Member B W → onto later (E ∷ es) ≡ B.entries → Member (named_entry B es E) (block_clauses W (target E))
block_stands [] B later E es m q = absurd m
block_stands (D ∷ W) B later E es (inl e) q = member_left (named_entry B es E) (entry_clauses D (target E) D.entries) (block_clauses W (target E)) (subst (λ X. Member (named_entry B es E) (entry_clauses X (target E) X.entries)) e (subst (λ X. Member (named_entry B es E) (entry_clauses B (target E) X)) q (entry_stands B later E es)))
block_stands (D ∷ W) B later E es (inr m) q = member_right (named_entry B es E) (entry_clauses D (target E) D.entries) (block_clauses W (target E)) (block_stands W B later E es m q)

stands_block : (W : List Block) (a : ℕ) (n : NamedClause) → Member n (block_clauses W a) → (B : Block) × Member B W × StandsAt B a B.entries n
stands_block [] a n m = absurd m
stands_block (D ∷ W) a n m = by (member_either n (entry_clauses D a D.entries) (block_clauses W a) m) (stands_block W a n)
  where
    by : Member n (entry_clauses D a D.entries) ⊎ Member n (block_clauses W a) → (Member n (block_clauses W a) → (B : Block) × Member B W × StandsAt B a B.entries n) → (B : Block) × Member B (D ∷ W) × StandsAt B a B.entries n
    by (inl h) f = (D, inl refl, stands_entry D a D.entries n h)
    by (inr h) f = let (B, i, s) = f h in (B, inr i, s)

module _ (es : List Entry) (W : List Block) where
  -- a clause of the family
  family_listed : (c : Clause) → IsClause (signature_of es) W c → (n : NamedClause) × Member n (clauses_of es W (target c.type)) × (n.clause ≡ c)
  family_listed c (from_constant k U t) = (named_constant k U, member_left (named_constant k U) (constant_clauses (signature_of es).types (constants_of es (target U))) (block_clauses W (target U)) (constant_stands (signature_of es).types (constants_of es (target U)) k U (is_constant es k U t) t), refl)
  family_listed c (from_entry B later E fs m q) = (named_entry B fs E, member_right (named_entry B fs E) (constant_clauses (signature_of es).types (constants_of es (target E))) (block_clauses W (target E)) (block_stands W B later E fs m q), refl)

  listed_family : (a : ℕ) (n : NamedClause) → Member n (clauses_of es W a) → IsClause (signature_of es) W n.clause × (target n.clause.type ≡ a)
  listed_family a n m = by (member_either n (constant_clauses (signature_of es).types (constants_of es a)) (block_clauses W a) m)
    where
      by : Member n (constant_clauses (signature_of es).types (constants_of es a)) ⊎ Member n (block_clauses W a) → IsClause (signature_of es) W n.clause × (target n.clause.type ≡ a)
      by (inl h) =
          let (k, U, i, t, e) = stands_constant (signature_of es).types (constants_of es a) n h in
          let (V, v, r) = type_is es a k i in
          let x : V ≡ U = cc in
          subst (λ y. IsClause (signature_of es) W y.clause × (target y.clause.type ≡ a)) (sym e) (from_constant k U t, ap target (sym x) ∙ r)
      by (inr h) =
          let (B, i, (later, E, fs, q, r, e)) = stands_block W a n h in
          subst (λ y. IsClause (signature_of es) W y.clause × (target y.clause.type ≡ a)) (sym e) (from_entry B later E fs i q, r)

  group_listed : (group : List ℕ) (c : Clause) → IsClause (signature_of es) W c → Member (target c.type) group → IsListed c (group_clauses es W group)
  group_listed [] c i m = absurd m
  group_listed (a ∷ group) c i (inl e) = let (n, h, q) = family_listed c i in (n, member_left n (clauses_of es W a) (group_clauses es W group) (subst (λ b. Member n (clauses_of es W b)) e h), q)
  group_listed (a ∷ group) c i (inr m) = let (n, h, q) = group_listed group c i m in (n, member_right n (clauses_of es W a) (group_clauses es W group) h, q)

  listed_clause : (group : List ℕ) (n : NamedClause) → Member n (group_clauses es W group) → IsClause (signature_of es) W n.clause × Member (target n.clause.type) group
  listed_clause [] n m = absurd m
  listed_clause (a ∷ group) n m = by (member_either n (clauses_of es W a) (group_clauses es W group) m) (listed_clause group n)
    where
      by : Member n (clauses_of es W a) ⊎ Member n (group_clauses es W group) → (Member n (group_clauses es W group) → IsClause (signature_of es) W n.clause × Member (target n.clause.type) group) → IsClause (signature_of es) W n.clause × Member (target n.clause.type) (a ∷ group)
      by (inl h) f = let (i, q) = listed_family a n h in (i, inl q)
      by (inr h) f = let (i, q) = f h in (i, inr q)

  pub listed : (group : List ℕ) (c : Clause) → (IsClause (signature_of es) W c × Member (target c.type) group) ↔ IsListed c (group_clauses es W group)
  listed group c = ((λ h. group_listed group c h.0 h.1), (λ (n, m, e). subst (λ x. IsClause (signature_of es) W x × Member (target x.type) group) e (listed_clause group n m)))
