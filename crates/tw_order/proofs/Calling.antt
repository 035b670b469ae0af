-- The calls of clauses to their group.
use Rattle.std.proofs.Common.{◌≡◌, ℕ, zero, suc, ◌+◌, ◌<◌, ◌≤◌, List, [], ◌∷◌, ◌++◌, Bool, true, false, Some, None, length, get_or, map, take, refl, sym, ap, ◌∙◌, subst, arith, inl, inr}
use Rattle.std.specs.Prelude.{cond, not, Decides, ◌⊎◌, ◌↔◌}
use Rattle.std.proofs.lemmas.List.{take_all}
use Rattle.lf.specs.Entries.{Entry, quantifiers, signature_of}
use Rattle.lf.specs.Subordination.{Block, Member}
use Rattle.lf.specs.Syntax.{Term, LfType, pi, atom, Kind, rename_type}
use Rattle.lf.specs.Typing.{IsContext, IsType, IsTypedRenaming, Signature, TypeAt}
use Rattle.lf.specs.Variables.{binders, nothing, same_number, target, target_arguments}
use Rattle.lf.proofs.TypeLaws.{renamings_compose_type, substitute_identity_type, substitution_as_renaming_type}
use Rattle.lf.specs.Substitution.{reduce}
use Rattle.lf.proofs.Weakening.{declared_is_type, renaming_keeps_types}
use Rattle.lf_checks.specs.Clause.{Clause, outside, scope}
use Rattle.lf_checks.specs.Clauses.{NamedClause, group_clauses}
use Rattle.lf_checks.specs.Descent.{CallDescends, EqualCall, LeadsTo, SameArgument, SameCall, SmallerArgument, after_call, inside, moved_head, no_call, past_quantifiers}
use Rattle.lf_checks.specs.Order as lf
use Rattle.lf_checks.specs.OrderFaults.{GroupCallPasses}
use Rattle.lf_checks.proofs.Listed.{listed}
use Rattle.tw_clause.specs.Orders.{order_of}
use Rattle.tw_clause.specs.declared.order.Order.{Order}
use Rattle.tw_terms.specs.declared.canonical.ConstId.{ConstId}
use Rattle.tw_order.specs.Calls.{AreEqualCalls, DescendsBy, IsEqualAmong, IsEqualTo}
use Rattle.tw_order.specs.Goals.{goals_of}
use Rattle.tw_order.specs.Leading.{HasEdge, Leads, arrived, by_call}
use Rattle.tw_order.specs.Listing.{ClauseStands, clause_in, named_of}
use Rattle.tw_order.specs.Places.{AtomStands, IsSameAt}
use Rattle.tw_order.specs.Rows.{families_of, orders_by, row_order}
use Rattle.tw_order.specs.Scopes.{newest_and, past}
use Rattle.tw_order.specs.declared.leading.Edge.{Edge}
use Rattle.tw_order.specs.declared.listed.Listed.{Listed}
use Rattle.tw_order.proofs.Deciding.{decided_as, decided_no, decided_yes, not_so}
use Rattle.tw_order.proofs.Lists.{at_push, before_push, pushed}
use Rattle.tw_order.proofs.Newest.{inside_is, outside_is}
use Rattle.tw_order.proofs.Solving.{listed_subgoal, subgoal_listed}

-- Rows.
pub row_next : (rows : List (ConstId × Order)) (k f : ℕ) (d : ConstId × Order) (xs : List (ConstId × Order)) → xs ≡ d ∷ rows → (d.0.0 ≡ f → ⊥) → row_order rows f ≡ row_order xs f
row_next rows k f d xs e n = sym (ap (λ ys. row_order ys f) e ∙ ap (λ b. cond b (Some (order_of d.1)) (row_order rows f)) (other d.0.0 f n))
  where
    other : (i j : ℕ) → (i ≡ j → ⊥) → same_number i j ≡ false
    other zero zero n = absurd (n refl)
    other zero (suc j) n = refl
    other (suc i) zero n = refl
    other (suc i) (suc j) n = other i j (λ q. n (ap suc q))

pub same_self : (i : ℕ) → same_number i i ≡ true
same_self zero = refl
same_self (suc i) = same_self i

pub row_found : (rows : List (ConstId × Order)) (f : ℕ) (d : ConstId × Order) (xs : List (ConstId × Order)) → xs ≡ d ∷ rows → d.0.0 ≡ f → Some (order_of d.1) ≡ row_order xs f
row_found rows f d xs e q = sym (ap (λ ys. row_order ys f) e ∙ ap (λ b. cond b (Some (order_of d.1)) (row_order rows f)) (ap (λ i. same_number i f) q ∙ same_self f))

number_same : (i j : ℕ) → same_number i j ≡ true → i ≡ j
number_same zero zero e = refl
number_same zero (suc j) e = absurd cc
number_same (suc i) zero e = absurd cc
number_same (suc i) (suc j) e = ap suc (number_same i j e)

in_rows : (rows : List (ConstId × Order)) (f : ℕ) (o : lf.Order) → row_order rows f ≡ Some o → Member f (families_of rows)
in_rows [] f o e = absurd cc
in_rows (r ∷ rs) f o e = by (same_number r.0.0 f) refl e (in_rows rs f o)
  where
    by : (b : Bool) → same_number r.0.0 f ≡ b → cond b (Some (order_of r.1)) (row_order rs f) ≡ Some o → (row_order rs f ≡ Some o → Member f (families_of rs)) → Member f (families_of (r ∷ rs))
    by true q e g = inl (sym (number_same r.0.0 f q))
    by false q e g = inr (g e)

number_off : (i j : ℕ) → same_number i j ≡ false → i ≡ j → ⊥
number_off i j q h = no (sym (same_self j) ∙ ap (λ n. same_number n j) (sym h) ∙ q)
  where
    no : true ≡ false → ⊥
    no z = cc

not_in_rows : (rows : List (ConstId × Order)) (f : ℕ) → row_order rows f ≡ None → Member f (families_of rows) → ⊥
not_in_rows [] f e m = m
not_in_rows (r ∷ rs) f e m = by (same_number r.0.0 f) refl e m (not_in_rows rs f)
  where
    by : (b : Bool) → same_number r.0.0 f ≡ b → cond b (Some (order_of r.1)) (row_order rs f) ≡ None → Member f (families_of (r ∷ rs)) → (row_order rs f ≡ None → Member f (families_of rs) → ⊥) → ⊥
    by true q e m g = absurd cc
    by false q e (inl h) g = number_off r.0.0 f q (sym h)
    by false q e (inr h) g = g e h

pub some_only : (A X : Type 0) → A ↔ (⊥ ⊎ X) → A ↔ X
some_only A X g = ((λ a. elim (g.0 a) [ inl z ↦ absurd z | inr x ↦ x ]), λ x. g.1 (inr x))

-- Some of a list.
module _ {X Y : Type 0} (f : X → Y) (P : Y → Type 0) where
  abbrev pub Among : List Y → Type 0
  Among ys = (y : Y) × Member y ys × P y

  pub taken_more : (xs : List X) (k : ℕ) (x : X) → k < length xs → x ≡ get_or xs k x → map f (take (k + 1) xs) ≡ map f (take k xs) ++ f x ∷ []
  taken_more xs k x h e = ap (λ n. map f (take n xs)) (let q : k + 1 ≡ suc k = omega arith in q) ∙ go xs k h e
    where
      go : (xs : List X) (k : ℕ) → k < length xs → x ≡ get_or xs k x → map f (take (suc k) xs) ≡ map f (take k xs) ++ f x ∷ []
      go [] k h e = absurd (omega (arith, h))
      go (y ∷ xs) zero h e = ap (λ z. f z ∷ []) (sym e)
      go (y ∷ xs) (suc k) h e = ap (λ zs. f y ∷ zs) (go xs k (omega (arith, h)) e)

  pub among_more : (A B C : Type 0) (xs : List X) (k : ℕ) (x : X) → k < length xs → x ≡ get_or xs k x → A ↔ (B ⊎ P (f x)) → B ↔ (C ⊎ Among (map f (take k xs))) → A ↔ (C ⊎ Among (map f (take (k + 1) xs)))
  among_more A B C xs k x h e g i = (forth, back)
    where
      more : map f (take (k + 1) xs) ≡ map f (take k xs) ++ f x ∷ []
      more = taken_more xs k x h e

      forth : A → C ⊎ Among (map f (take (k + 1) xs))
      forth a = elim (g.0 a) [
        | inl b ↦ elim (i.0 b) [ inl c ↦ inl c | inr (y, m, p) ↦ inr (y, subst (Member y) (sym more) (before_push (map f (take k xs)) (f x) y m), p) ]
        | inr p ↦ inr (f x, subst (Member (f x)) (sym more) (at_push (map f (take k xs)) (f x)), p)
      ]

      back : C ⊎ Among (map f (take (k + 1) xs)) → A
      back (inl c) = g.1 (inl (i.1 (inl c)))
      back (inr (y, m, p)) = elim (pushed (map f (take k xs)) (f x) y (subst (Member y) more m)) [ inl n ↦ g.1 (inl (i.1 (inr (y, n, p)))) | inr q ↦ g.1 (inr (subst P q p)) ]

  pub among_none : (A C : Type 0) → A ↔ C → A ↔ (C ⊎ Among [])
  among_none A C g = ((λ a. inl (g.0 a)), back)
    where
      back : C ⊎ Among [] → A
      back (inl c) = g.1 c
      back (inr (y, m, p)) = absurd m

  pub among_all : (A C : Type 0) (xs : List X) (k : ℕ) → length xs ≤ k → A ↔ (C ⊎ Among (map f (take k xs))) → A ↔ (C ⊎ Among (map f xs))
  among_all A C xs k h g = subst (λ ys. A ↔ (C ⊎ Among (map f ys))) (take_all k xs h) g

-- The equal calls.
module _ (rows : List (ConstId × Order)) (c : Clause) (A : LfType) where
  pub not_called : row_order rows (target A) ≡ None → (a b : ℕ) → IsEqualTo rows c A a b → ⊥
  not_called e a b (p, q, m, s) = not_in_rows rows (target A) e (subst (λ x. Member x (families_of rows)) (sym q) m)

  pub same_call : (b : Bool) (H : LfType) (O P : lf.Order) → H ≡ atom (target c.type) (moved_head c A) → O ≡ orders_by rows (target A) → P ≡ orders_by rows (target c.type) → Decides b (lf.Same (IsSameAt A H) O P) → Decides b (SameCall (orders_by rows) c A)
  same_call b H O P h o p d = subst (λ X. Decides b (lf.Same (SameArgument c A) (orders_by rows (target A)) X)) p (subst (λ X. Decides b (lf.Same (SameArgument c A) X P)) o (subst (λ X. Decides b (lf.Same (IsSameAt A X) O P)) h d))

  pub equal_added : (o : lf.Order) (a b x y : ℕ) (N B : Type 0) → row_order rows (target A) ≡ Some o → SameCall (orders_by rows) c A → x ≡ target c.type → y ≡ target A → N ↔ (B ⊎ ((x ≡ a) × (y ≡ b))) → N ↔ (B ⊎ IsEqualTo rows c A a b)
  equal_added o a b x y N B e s u v g = (forth, back)
    where
      forth : N → B ⊎ IsEqualTo rows c A a b
      forth n = elim (g.0 n) [ inl z ↦ inl z | inr (p, q) ↦ inr (sym u ∙ p, sym v ∙ q, subst (λ z. Member z (families_of rows)) (sym v ∙ q) (in_rows rows (target A) o e), s) ]

      back : B ⊎ IsEqualTo rows c A a b → N
      back (inl z) = g.1 (inl z)
      back (inr (p, q, m, z)) = g.1 (inr (u ∙ p, v ∙ q))

  pub not_equal : (d a b : ℕ) (B : Type 0) (r : Bool) → r ≡ false → Decides r (SameCall (orders_by rows) c A) → B ↔ (B ⊎ IsEqualTo rows c A a b)
  not_equal d a b B r t x = ((λ z. inl z), back)
    where
      back : B ⊎ IsEqualTo rows c A a b → B
      back (inl z) = z
      back (inr (p, q, m, z)) = absurd (not_so r t x z)

pub nothing_added : (B Q : Type 0) → (Q → ⊥) → B ↔ (B ⊎ Q)
nothing_added B Q n = ((λ b. inl b), back)
  where
    back : B ⊎ Q → B
    back (inl b) = b
    back (inr q) = absurd (n q)

-- What is listed of a group.
named_there : (xs : List Listed) (c : Clause) → Member c (map clause_in xs) → (n : NamedClause) × Member n (map named_of xs) × (n.clause ≡ c)
named_there [] c m = absurd m
named_there (x ∷ xs) c (inl e) = (named_of x, inl refl, sym e)
named_there (x ∷ xs) c (inr m) = let (n, h, q) = named_there xs c m in (n, inr h, q)

clause_there : (xs : List Listed) (n : NamedClause) → Member n (map named_of xs) → Member n.clause (map clause_in xs)
clause_there [] n m = absurd m
clause_there (x ∷ xs) n (inl e) = inl (ap (λ y. y.clause) e)
clause_there (x ∷ xs) n (inr m) = inr (clause_there xs n m)

pub edges_are : (es : List Entry) (W : List Block) (rows : List (ConstId × Order)) (xs : List Listed) (edges : List Edge) → map named_of xs ≡ group_clauses es W (families_of rows) → ((a b : ℕ) → HasEdge edges a b ↔ IsEqualAmong rows (map clause_in xs) a b) → AreEqualCalls (signature_of es) W rows edges
edges_are es W rows xs edges e g a b = ((λ h. forth ((g a b).0 h)), λ q. (g a b).1 (back q))
  where
    forth : IsEqualAmong rows (map clause_in xs) a b → EqualCall (signature_of es) W (orders_by rows) (families_of rows) a b
    forth (c, m, (A, l, (p, q, n, s))) =
        let (k, h, r) = named_there xs c m in
        let (i, t) = (listed es W (families_of rows) c).1 (k, subst (Member k) e h, r) in
        let (j, u) = listed_subgoal c A l in
        record { clause = c; is_clause = i; caller = p; caller_in = subst (λ x. Member x (families_of rows)) p t; index = j; subgoal = A; is_subgoal = u; callee = q; callee_in = n; same = s }

    back : EqualCall (signature_of es) W (orders_by rows) (families_of rows) a b → IsEqualAmong rows (map clause_in xs) a b
    back q =
        let (k, h, r) = (listed es W (families_of rows) q.clause).0 (q.is_clause, subst (λ x. Member x (families_of rows)) (sym q.caller) q.caller_in) in
        (q.clause, subst (λ y. Member y (map clause_in xs)) r (clause_there xs k (subst (Member k) (sym e) h)), (q.subgoal, subgoal_listed q.clause q.index q.subgoal q.is_subgoal, (q.caller, q.callee, q.callee_in, q.same)))

-- What stands where a call is made.
binders_context : (Σ : Signature) (G : List LfType) (A : LfType) → IsContext Σ G → IsType Σ G A → IsContext Σ (binders G A)
binders_context Σ G (pi A B) g (a, b) = binders_context Σ (A ∷ G) B (g, a) b
binders_context Σ G (atom a S) g t = g

target_typed : (Σ : Signature) (G : List LfType) (A : LfType) → IsType Σ G A → IsType Σ (binders G A) (atom (target A) (target_arguments A))
target_typed Σ G (pi A B) (a, b) = target_typed Σ (A ∷ G) B b
target_typed Σ G (atom a S) t = t

renamed_identity : (A : LfType) → rename_type (λ i. i) A ≡ A
renamed_identity A = sym (substitution_as_renaming_type reduce (λ i. i) A) ∙ substitute_identity_type reduce A

past_renames : (G D : List LfType) (A : LfType) (ρ : ℕ → ℕ) → IsTypedRenaming G D ρ → IsTypedRenaming G (binders D A) (past_quantifiers A ρ)
past_renames G D (pi A B) ρ w = past_renames G (A ∷ D) B (λ i. suc (ρ i)) (λ i X t. (rename_type ρ X, w i X t, sym (renamings_compose_type suc ρ X)))
past_renames G D (atom a S) ρ w = w

pub scope_context : (Σ : Signature) (c : Clause) → ClauseStands Σ c → IsContext Σ (scope c)
scope_context Σ c s = binders_context Σ c.outer c.type s.context s.is_type

pub call_stands : (Σ : Signature) (c : Clause) (A : LfType) (C : List LfType) (H : LfType) → ClauseStands Σ c → IsType Σ (scope c) A → C ≡ binders (scope c) A → H ≡ atom (target c.type) (moved_head c A) → AtomStands Σ C H
call_stands Σ c A C H s t e h = subst (λ X. AtomStands Σ X H) (sym e) (subst (AtomStands Σ (binders (scope c) A)) (sym h) (record {
  signature = s.signature;
  context = binders_context Σ (scope c) A (scope_context Σ c s) t;
  is_type = renaming_keeps_types Σ s.signature (scope c) (binders (scope c) A) (past_quantifiers A (λ i. i)) (atom (target c.type) (target_arguments c.type)) (past_renames (scope c) (scope c) A (λ i. i) (λ i X u. subst (TypeAt (scope c) i) (sym (renamed_identity X)) u)) (target_typed Σ c.outer c.type s.is_type);
}))

pub goal_typed : (Σ : Signature) (c : Clause) (A : LfType) → ClauseStands Σ c → Member A (goals_of c.type) → IsType Σ (scope c) A
goal_typed Σ c A s m = let (i, g) = listed_subgoal c A m in declared_is_type Σ s.signature (scope c) i A (scope_context Σ c s) g.1

-- Calls that descend.
module _ (Σ : Signature) (c : Clause) (A : LfType) where
  abbrev LessAt : List LfType → (ℕ → Bool) → (ℕ → Bool) → LfType → lf.Order → lf.Order → Type 0
  LessAt C L R H O P = lf.Less (λ i j. (M N : Term) × (lf.argument_at i (target_arguments A) ≡ Some M) × (lf.argument_at j (target_arguments H) ≡ Some N) × (K : Kind) × (Σ.kinds (target H) ≡ Some K) × (X : LfType) × (lf.place_type j (target_arguments H) K ≡ Some X) × lf.Smaller Σ C L R M N X) (IsSameAt A H) O P

  pub less_call : (C : List LfType) (n m k : ℕ) (H : LfType) (O P : lf.Order) (b : Bool) → C ≡ binders (scope c) A → n ≡ quantifiers A → m ≡ quantifiers c.type → c.fixed ≡ newest_and k nothing → H ≡ atom (target c.type) (moved_head c A) → Decides b (LessAt C (newest_and n nothing) (newest_and n (past m (newest_and k nothing))) H O P) → Decides b (lf.Less (SmallerArgument Σ c A) (SameArgument c A) O P)
  less_call C n m k H O P b e l o f h d =
      let locals : newest_and n nothing ≡ inside A nothing = ap (λ n. newest_and n nothing) l ∙ sym (inside_is A nothing) in
      let outer : past m (newest_and k nothing) ≡ outside c.type c.fixed = ap (λ n. past n (newest_and k nothing)) o ∙ ap (past (quantifiers c.type)) (sym f) ∙ sym (outside_is c.type c.fixed) in
      let fixed : newest_and n (past m (newest_and k nothing)) ≡ inside A (outside c.type c.fixed) = ap (λ n. newest_and n (past m (newest_and k nothing))) l ∙ ap (newest_and (quantifiers A)) outer ∙ sym (inside_is A (outside c.type c.fixed)) in
      subst (λ X. Decides b (LessAt (binders (scope c) A) (inside A nothing) (inside A (outside c.type c.fixed)) X O P)) h
      (subst (λ R. Decides b (LessAt (binders (scope c) A) (inside A nothing) R H O P)) fixed
      (subst (λ L. Decides b (LessAt (binders (scope c) A) L (newest_and n (past m (newest_and k nothing))) H O P)) locals
      (subst (λ G. Decides b (LessAt G (newest_and n nothing) (newest_and n (past m (newest_and k nothing))) H O P)) e d)))

  pub same_by : (H : LfType) (O P : lf.Order) (b : Bool) → H ≡ atom (target c.type) (moved_head c A) → Decides b (lf.Same (IsSameAt A H) O P) → Decides b (lf.Same (SameArgument c A) O P)
  same_by H O P b h d = subst (λ X. Decides b (lf.Same (IsSameAt A X) O P)) h d

  module _ (edges : List Edge) (O P : lf.Order) where
    pub by_less : (b : Bool) → b ≡ true → Decides b (lf.Less (SmallerArgument Σ c A) (SameArgument c A) O P) → Decides true (DescendsBy Σ edges O P c A)
    by_less b t d = decided_yes (inl (d.0 t))

    pub by_neither : (b d : Bool) → b ≡ false → d ≡ false → Decides b (lf.Less (SmallerArgument Σ c A) (SameArgument c A) O P) → Decides d (lf.Same (SameArgument c A) O P) → Decides false (DescendsBy Σ edges O P c A)
    by_neither b d s t x y = decided_no (λ z. elim z [ inl u ↦ not_so b s x u | inr (u, v) ↦ not_so d t y u ])

    pub by_same : (b d : Bool) (r : Bool) → b ≡ false → d ≡ true → Decides b (lf.Less (SmallerArgument Σ c A) (SameArgument c A) O P) → Decides d (lf.Same (SameArgument c A) O P) → Decides r (Leads edges (target A) (target c.type)) → Decides (not r) (DescendsBy Σ edges O P c A)
    by_same b d true s t x y z = decided_no (λ w. elim w [ inl u ↦ not_so b s x u | inr (u, v) ↦ v (z.0 refl) ])
    by_same b d false s t x y z = decided_yes (inr (y.0 t, not_so false refl z))

leads_same : (Σ : Signature) (W : List Block) (rows : List (ConstId × Order)) (edges : List Edge) → AreEqualCalls Σ W rows edges → (a b : ℕ) → Leads edges a b ↔ LeadsTo Σ W (orders_by rows) (families_of rows) a b
leads_same Σ W rows edges g a b = (forth a b, back a b)
  where
    forth : (a b : ℕ) → Leads edges a b → LeadsTo Σ W (orders_by rows) (families_of rows) a b
    forth a b arrived = no_call
    forth a b (by_call {b = d} h k) = after_call ((g a d).0 h) (forth d b k)

    back : (a b : ℕ) → LeadsTo Σ W (orders_by rows) (families_of rows) a b → Leads edges a b
    back a b no_call = arrived
    back a b (after_call {b = d} h k) = by_call ((g a d).1 h) (back d b k)

module _ (Σ : Signature) (W : List Block) (rows : List (ConstId × Order)) (edges : List Edge) (c : Clause) (A : LfType) where
  abbrev Passes : Type 0
  Passes = GroupCallPasses (CallDescends Σ W (orders_by rows) (families_of rows)) (families_of rows) c A

  pub passes_outside : row_order rows (target A) ≡ None → Decides true Passes
  passes_outside e = decided_yes (λ m. absurd (not_in_rows rows (target A) e m))

  pub fails_unlike : (b : Bool) (o O P : lf.Order) → row_order rows (target A) ≡ Some o → O ≡ orders_by rows (target A) → P ≡ orders_by rows (target c.type) → b ≡ false → Decides b (lf.Alike O P) → Decides false Passes
  fails_unlike b o O P e f g t d = decided_no (λ p. not_so b t d (subst (λ X. lf.Alike X P) (sym f) (subst (lf.Alike (orders_by rows (target A))) (sym g) (p (in_rows rows (target A) o e)).0)))

  pub passes_by : (b d : Bool) (o O P : lf.Order) → row_order rows (target A) ≡ Some o → O ≡ orders_by rows (target A) → P ≡ orders_by rows (target c.type) → b ≡ true → Decides b (lf.Alike O P) → AreEqualCalls Σ W rows edges → Decides d (DescendsBy Σ edges O P c A) → Decides d Passes
  passes_by b d o O P e f g t a q x = decided_as d forth back y
    where
      y : Decides d (DescendsBy Σ edges (orders_by rows (target A)) (orders_by rows (target c.type)) c A)
      y = subst (λ X. Decides d (DescendsBy Σ edges (orders_by rows (target A)) X c A)) g (subst (λ X. Decides d (DescendsBy Σ edges X P c A)) f x)

      alike : lf.Alike (orders_by rows (target A)) (orders_by rows (target c.type))
      alike = subst (lf.Alike (orders_by rows (target A))) g (subst (λ X. lf.Alike X P) f (a.0 t))

      forth : DescendsBy Σ edges (orders_by rows (target A)) (orders_by rows (target c.type)) c A → Passes
      forth (inl l) m = (alike, inl l)
      forth (inr (s, n)) m = (alike, inr (s, λ k. n ((leads_same Σ W rows edges q (target A) (target c.type)).1 k)))

      back : Passes → DescendsBy Σ edges (orders_by rows (target A)) (orders_by rows (target c.type)) c A
      back p = elim (p (in_rows rows (target A) o e)).1 [ inl l ↦ inl l | inr (s, n) ↦ inr (s, λ k. n ((leads_same Σ W rows edges q (target A) (target c.type)).0 k)) ]
