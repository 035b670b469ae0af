-- The order of a context's variables: there is one, and what a variable needs stands outside of it.
use Rattle.std.proofs.Common.{◌≡◌, ℕ, zero, suc, ◌+◌, ◌<◌, List, [], ◌∷◌, ◌++◌, inl, inr, length, length-append, map, Option, Some, None, Bool, true, false, cond, ◌==◌, refl, sym, ap, ◌∙◌, subst, arith}
use Rattle.std.proofs.lemmas.Bool.Decides.{Decides-eqb}
use Rattle.lf.specs.Subordination.{Member}
use Rattle.lf.specs.Syntax.{LfType}
use Rattle.lf.specs.Typing.{IsContext, Signature}
use Rattle.tw_abstract.specs.Order.{IsOrder, IsStuck, Waiting}
use Rattle.tw_abstract.specs.OrderLaws.{RespectsNeeds}
use Rattle.tw_abstract.specs.Positions.{first_of, index}
use Rattle.tw_abstract.proofs.Choosing.{indexed_member, member_indexed}
use Rattle.tw_abstract.proofs.Lists.{NoneBeforeItself, distinct_splits, split_at}
use Rattle.tw_abstract.proofs.OrderLaws.{after_needs, no_order}
use Rattle.tw_putting.specs.Whole.{AreDistinct}
use Rattle.tw_reorder.specs.Waiting.{needs, outermost_first, waiting}
use Rattle.tw_reorder.proofs.Turns.{below, each_below, last_or_below, needs_outside}

-- those inside of a number come behind it
before_all : (n : ℕ) (before behind : List ℕ) (m w : ℕ) → outermost_first n ≡ before ++ m ∷ behind → m < w → w < n → Member w before
before_all zero before behind m w e l k = absurd (omega (arith, k))
before_all (suc n) [] behind m w e l k = (let q : n ≡ m = cc in absurd (omega (arith, q, l, k)))
before_all (suc n) (x ∷ before) behind m w e l k =
    let q : n ≡ x = cc in
    let r : outermost_first n ≡ before ++ m ∷ behind = cc in
    elim (last_or_below n w k) [ inl p ↦ inl (p ∙ q) | inr p ↦ inr (before_all n before behind m w r l p) ]

-- the entries of a list of variables
entry_for : (F : List LfType) (vs : List ℕ) (v : ℕ) → Member v vs → Member (waiting F v) (map (waiting F) vs)
entry_for F [] v m = absurd m
entry_for F (x ∷ vs) v (inl e) = inl (ap (waiting F) e)
entry_for F (x ∷ vs) v (inr m) = inr (entry_for F vs v m)

entry_of : (F : List LfType) (vs : List ℕ) (e : Waiting) → Member e (map (waiting F) vs) → Member e.of vs × (e ≡ waiting F e.of)
entry_of F [] e m = absurd m
entry_of F (x ∷ vs) e (inl q) = let p : e.of ≡ x = ap (λ y. y.of) q in (inl p, q ∙ ap (waiting F) (sym p))
entry_of F (x ∷ vs) e (inr m) = let (i, q) = entry_of F vs e m in (inr i, q)

is_false : (b : Bool) → (b ≡ true → ⊥) → b ≡ false
is_false true k = absurd (k refl)
is_false false k = refl

not_there : (ns : List ℕ) (m : ℕ) → (Member m ns → ⊥) → index ns m ≡ None
not_there ns m h = go (index ns m) refl
  where
    go : (r : Option ℕ) → index ns m ≡ r → r ≡ None
    go None q = refl
    go (Some i) q = absurd (h (indexed_member ns m i q))

-- the places in a list without repeats
index_here : (xs ys : List ℕ) (v : ℕ) → AreDistinct (xs ++ v ∷ ys) → index (xs ++ v ∷ ys) v ≡ Some (length ys)
index_here [] ys v (f, d) = ap (λ r. first_of r (cond (v == v) (Some (length ys)) None)) (not_there ys v f) ∙ ap (λ b. cond b (Some (length ys)) None) ((Decides-eqb v v).1 refl)
index_here (x ∷ xs) ys v (f, d) = ap (λ r. first_of r (cond (x == v) (Some (length (xs ++ v ∷ ys))) None)) (index_here xs ys v d)

index_before : (xs ys : List ℕ) (v w j : ℕ) → AreDistinct (xs ++ v ∷ ys) → Member w xs → index (xs ++ v ∷ ys) w ≡ Some j → length ys < j
index_before [] ys v w j d m e = absurd m
index_before (x ∷ xs) ys v w j (f, d) (inl q) e =
    let out : index (xs ++ v ∷ ys) w ≡ None = not_there (xs ++ v ∷ ys) w (λ h. f (subst (λ k. Member k (xs ++ v ∷ ys)) q h)) in
    let here : Some (length (xs ++ v ∷ ys)) ≡ Some j = sym (ap (λ b. cond b (Some (length (xs ++ v ∷ ys))) None) ((Decides-eqb x w).1 (sym q))) ∙ sym (ap (λ r. first_of r (cond (x == w) (Some (length (xs ++ v ∷ ys))) None)) out) ∙ e in
    let p : length (xs ++ v ∷ ys) ≡ j = cc in
    let l : length (xs ++ v ∷ ys) ≡ length xs + length (v ∷ ys) = length-append xs (v ∷ ys) in
    let k : length (v ∷ ys) ≡ suc (length ys) = refl in
    omega (arith, p, l, k)
index_before (x ∷ xs) ys v w j (f, d) (inr m) e =
    let (i, q) = member_indexed (xs ++ v ∷ ys) w (inside xs (v ∷ ys) w m) in
    let p : Some i ≡ Some j = sym (ap (λ r. first_of r (cond (x == w) (Some (length (xs ++ v ∷ ys))) None)) q) ∙ e in
    let r : index (xs ++ v ∷ ys) w ≡ Some j = q ∙ p in
    index_before xs ys v w j d m r
  where
    inside : (xs ys : List ℕ) (m : ℕ) → Member m xs → Member m (xs ++ ys)
    inside [] ys m h = absurd h
    inside (x ∷ xs) ys m (inl e) = inl e
    inside (x ∷ xs) ys m (inr h) = inr (inside xs ys m h)

module _ (Σ : Signature) (F : List LfType) (c : IsContext Σ F) (found : List ℕ) (within : (v : ℕ) → Member v found → v < length F) (all : (v : ℕ) → v < length F → Member v found) where
  abbrev es : List Waiting
  es = map (waiting F) found

  needs_of : (e : Waiting) → Member e es → (w : ℕ) → Member w e.needs → Member w (needs F e.of)
  needs_of e i w m = subst (λ y. Member w y.needs) (entry_of F found e i).1 m

  respects : RespectsNeeds es (outermost_first (length F))
  respects before behind m q e i of w n =
      let (l, k) = needs_outside Σ F c e.of w (needs_of e i w n) in
      before_all (length F) before behind m w q (subst (λ x. x < w) of l) k

  -- there is an order
  pub not_stuck : IsStuck es → ⊥
  not_stuck s = no_order es s (outermost_first (length F)) (λ e i. each_below (length F) e.of (within e.of (entry_of F found e i).0)) (λ m i. (waiting F m, entry_for F found m (all m (below (length F) m i)), refl)) respects

  module _ (ms : List ℕ) (o : IsOrder es ms) where
    pub none_twice : NoneBeforeItself ms
    none_twice before behind m e i = (after_needs es ms o.0 before behind m e).0 i

    pub distinct : AreDistinct ms
    distinct = distinct_splits ms none_twice

    pub order_within : (v : ℕ) → Member v ms → v < length F
    order_within v i =
        let (xs, ys, q) = split_at ms v i in
        let (e, j, p, n) = (after_needs es ms o.0 xs ys v q).1 in
        within v (subst (λ x. Member x found) p (entry_of F found e j).0)

    pub order_all : (v : ℕ) → v < length F → Member v ms
    order_all v l = o.1 (waiting F v) (entry_for F found v (all v l))

    -- what is needed has a place further out
    pub needs_further_out : (v w i j : ℕ) → Member v ms → Member w (needs F v) → index ms v ≡ Some i → index ms w ≡ Some j → i < j
    needs_further_out v w i j m n e f =
        let (xs, ys, q) = split_at ms v m in
        let (x, k, p, ns) = (after_needs es ms o.0 xs ys v q).1 in
        let there : Member w xs = ns w (subst (λ y. Member w y.needs) (sym (entry_of F found x k).1) (subst (λ y. Member w (needs F y)) (sym p) n)) in
        let d : AreDistinct (xs ++ v ∷ ys) = subst AreDistinct q distinct in
        let here : Some (length ys) ≡ Some i = sym (index_here xs ys v d) ∙ ap (λ ns. index ns v) (sym q) ∙ e in
        let r : length ys ≡ i = cc in
        let l : length ys < j = index_before xs ys v w j d there (ap (λ ns. index ns w) (sym q) ∙ f) in
        omega (arith, r, l)
