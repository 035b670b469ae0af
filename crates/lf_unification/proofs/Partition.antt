-- Binding keeps an order of dependency: what is reached from the value, a set closed under dependency, is put behind all else.
use Rattle.std.proofs.Common.{◌≡◌, ℕ, List, [], ◌∷◌, Option, Some, None, inl, inr, refl, sym, ap, ◌∙◌, subst}
use Rattle.std.specs.Prelude.{Bool, true, false}
use Rattle.lf.specs.Syntax.{Spine, Term, LfType, app, atom, constant, lambda, metavariable, nil, pi, root, variable}
use Rattle.lf_unification.specs.OpenTyping.{MetavariablesIn, MetavariablesInSpine, MetavariablesInType}
use Rattle.lf_unification.specs.Dependency.{ListedMetavariable, IsListed}
use Rattle.lf_unification.specs.Lists.{followed}
use Rattle.lf_unification.proofs.Scope.{in_weaker, in_weaker_type}

abbrev pub ValueIn : (ℕ → Type 0) → Option Term → Type 0
ValueIn V None = Unit {0}
ValueIn V (Some N) = MetavariablesIn V N

-- an item mentions only what is in V
abbrev pub Mentions : (ℕ → Type 0) → ListedMetavariable → Type 0
Mentions V it = MetavariablesInType V it.of_type × ValueIn V it.value

abbrev pub Dependent : List ListedMetavariable → Type 0
Dependent [] = Unit {0}
Dependent (it ∷ is) = Mentions (IsListed is) it × Dependent is

value_weaker : (V W : ℕ → Type 0) → ((m : ℕ) → V m → W m) → (x : Option Term) → ValueIn V x → ValueIn W x
value_weaker V W h None v = v
value_weaker V W h (Some N) v = in_weaker V W h N v

mentions_weaker : (V W : ℕ → Type 0) → ((m : ℕ) → V m → W m) → (it : ListedMetavariable) → Mentions V it → Mentions W it
mentions_weaker V W h it (t, v) = (in_weaker_type V W h it.of_type t, value_weaker V W h it.value v)

module _ (V W : ℕ → Type 0) where
  mutual
    pub in_both : (M : Term) → MetavariablesIn V M → MetavariablesIn W M → MetavariablesIn (λ m. V m × W m) M
    in_both (lambda M) i j = in_both M i j
    in_both (root (constant c) S) i j = in_both_spine S i j
    in_both (root (variable c) S) i j = in_both_spine S i j
    in_both (root (metavariable m) S) (v, i) (w, j) = ((v, w), in_both_spine S i j)

    pub in_both_spine : (S : Spine) → MetavariablesInSpine V S → MetavariablesInSpine W S → MetavariablesInSpine (λ m. V m × W m) S
    in_both_spine nil i j = tt
    in_both_spine (app M S) (i, i') (j, j') = (in_both M i j, in_both_spine S i' j')

  in_both_type : (A : LfType) → MetavariablesInType V A → MetavariablesInType W A → MetavariablesInType (λ m. V m × W m) A
  in_both_type (pi A B) (i, i') (j, j') = (in_both_type A i j, in_both_type B i' j')
  in_both_type (atom a S) i j = in_both_spine S i j

  value_both : (x : Option Term) → ValueIn V x → ValueIn W x → ValueIn (λ m. V m × W m) x
  value_both None i j = tt
  value_both (Some N) i j = in_both N i j

  mentions_both : (it : ListedMetavariable) → Mentions V it → Mentions W it → Mentions (λ m. V m × W m) it
  mentions_both it (t, v) (t', v') = (in_both_type it.of_type t t', value_both it.value v v')

abbrev pub is_true : Bool → Type 0
is_true true = Unit {0}
is_true false = ⊥

-- the items for which r answers b, in their order
abbrev pub pick : Bool → Bool → ListedMetavariable → List ListedMetavariable → List ListedMetavariable
pick true true it is = it ∷ is
pick false false it is = it ∷ is
pick true false it is = is
pick false true it is = is

abbrev pub chosen : Bool → (ℕ → Bool) → List ListedMetavariable → List ListedMetavariable
chosen b r [] = []
chosen b r (it ∷ is) = pick b (r it.of) it (chosen b r is)

module _ (r : ℕ → Bool) where
  abbrev Reached : ℕ → Type 0
  Reached m = is_true (r m)

  -- r is closed: what a reached item mentions is reached
  abbrev pub Closed : List ListedMetavariable → Type 0
  Closed [] = Unit {0}
  Closed (it ∷ is) = (Reached it.of → Mentions Reached it) × Closed is

  pub in_chosen : (is : List ListedMetavariable) (m : ℕ) → IsListed is m → Reached m → IsListed (chosen true r is) m
  in_chosen [] m l t = l
  in_chosen (it ∷ is) m (inl e) t = go (r it.of) refl
    where
      go : (b : Bool) → r it.of ≡ b → IsListed (pick true b it (chosen true r is)) m
      go true q = inl e
      go false q = absurd (subst is_true (ap r e ∙ q) t)
  in_chosen (it ∷ is) m (inr l) t = go (r it.of) (in_chosen is m l t)
    where
      go : (b : Bool) → IsListed (chosen true r is) m → IsListed (pick true b it (chosen true r is)) m
      go true h = inr h
      go false h = h

  pub in_rest : (is : List ListedMetavariable) (m : ℕ) → IsListed is m → r m ≡ false → IsListed (chosen false r is) m
  in_rest [] m l t = l
  in_rest (it ∷ is) m (inl e) t = go (r it.of) refl
    where
      go : (b : Bool) → r it.of ≡ b → IsListed (pick false b it (chosen false r is)) m
      go false q = inl e
      go true q = absurd (no (sym q ∙ sym (ap r e) ∙ t))
        where
          no : true ≡ false → ⊥
          no e = cc
  in_rest (it ∷ is) m (inr l) t = go (r it.of) (in_rest is m l t)
    where
      go : (b : Bool) → IsListed (chosen false r is) m → IsListed (pick false b it (chosen false r is)) m
      go false h = inr h
      go true h = h

  pub behind : (xs ys : List ListedMetavariable) (m : ℕ) → IsListed ys m → IsListed (followed xs ys) m
  behind [] ys m l = l
  behind (x ∷ xs) ys m l = inr (behind xs ys m l)

  pub before : (xs ys : List ListedMetavariable) (m : ℕ) → IsListed xs m → IsListed (followed xs ys) m
  before [] ys m l = absurd l
  before (x ∷ xs) ys m (inl e) = inl e
  before (x ∷ xs) ys m (inr l) = inr (before xs ys m l)

  -- the reached ones by themselves
  pub front : (is : List ListedMetavariable) → Dependent is → Closed is → Dependent (chosen true r is)
  front [] d c = tt
  front (it ∷ is) (d, ds) (c, cs) = go (r it.of) refl (front is ds cs)
    where
      go : (b : Bool) → r it.of ≡ b → Dependent (chosen true r is) → Dependent (pick true b it (chosen true r is))
      go false q h = h
      go true q h = (mentions_weaker (λ m. IsListed is m × is_true (r m)) (IsListed (chosen true r is)) (λ m p. in_chosen is m p.0 p.1) it (mentions_both (IsListed is) (λ m. is_true (r m)) it d (c (subst is_true (sym q) tt))), h)

  -- and the rest before them
  rest : (ys : List ListedMetavariable) → Dependent ys → (is : List ListedMetavariable) → ((m : ℕ) → IsListed is m → is_true (r m) → IsListed ys m) → Dependent is → Dependent (followed (chosen false r is) ys)
  rest ys y [] s d = y
  rest ys y (it ∷ is) s (d, ds) = go (r it.of) (rest ys y is (λ m l t. s m (inr l) t) ds)
    where
      split : (m : ℕ) → IsListed is m → IsListed (followed (chosen false r is) ys) m
      split m l = at (r m) refl
        where
          at : (b : Bool) → r m ≡ b → IsListed (followed (chosen false r is) ys) m
          at true q = behind (chosen false r is) ys m (s m (inr l) (subst is_true (sym q) tt))
          at false q = before (chosen false r is) ys m (in_rest is m l q)

      go : (b : Bool) → Dependent (followed (chosen false r is) ys) → Dependent (followed (pick false b it (chosen false r is)) ys)
      go true h = h
      go false h = (mentions_weaker (IsListed is) (IsListed (followed (chosen false r is) ys)) split it d, h)

  -- THE theorem: the partition is an order of dependency again
  pub partition : (is : List ListedMetavariable) → Dependent is → Closed is → Dependent (followed (chosen false r is) (chosen true r is))
  partition is d c = rest (chosen true r is) (front is d c) is (λ m l t. in_chosen is m l t) d

  -- and what is bound to a term of reached metavariables finds them behind
  pub value_behind : (is : List ListedMetavariable) (N : Term) → MetavariablesIn (IsListed is) N → MetavariablesIn (λ m. is_true (r m)) N → MetavariablesIn (IsListed (chosen true r is)) N
  value_behind is N l t = in_weaker (λ m. IsListed is m × is_true (r m)) (IsListed (chosen true r is)) (λ m p. in_chosen is m p.0 p.1) N (in_both (IsListed is) (λ m. is_true (r m)) N l t)
