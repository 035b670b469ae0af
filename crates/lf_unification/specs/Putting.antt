-- The bindings of a store put into a term, by rules.
use Rattle.std.specs.Prelude.{◌≡◌, ℕ, suc, List, [], ◌∷◌, Option}
use Rattle.lf.specs.Rules.{Reduces}
use Rattle.lf.specs.Subordination.{Member}
use Rattle.lf.specs.Syntax.{Head, Spine, Term, LfType, app, atom, constant, lambda, metavariable, nil, pi, rename, root, variable}
use Rattle.lf_unification.specs.OpenTyping.{skeletons_of}
use Rattle.lf_unification.specs.Rigid.{past_binders}
use Rattle.lf_unification.specs.Unifiers.{Binding}

-- the metavariables that the list does not bind
abbrev pub Unbound : List Binding → ℕ → Type 0
Unbound [] m = Unit {0}
Unbound (b ∷ bs) m = (m ≡ b.of → ⊥) × Unbound bs m

-- the head is a constant or a variable
abbrev pub IsRigidHead : Head → Type 0
IsRigidHead (constant c) = Unit {0}
IsRigidHead (variable i) = Unit {0}
IsRigidHead (metavariable m) = ⊥

-- how many binders a local context has
abbrev pub binders : List LfType → ℕ
binders [] = 0
binders (A ∷ D) = suc (binders D)

-- The bindings are put into a term under k binders: where a bound metavariable is the head its value, moved under the binders, is applied to
-- the arguments by hereditary substitution, and the bindings are put into the result.
module _ (Ψ : ℕ → Option LfType) (bs : List Binding) where
  mutual
    pub data PutsIn : ℕ → Term → Term → Type 0 where
      put_under_lambda : {k : ℕ} {M M' : Term} → PutsIn (suc k) M M' → PutsIn k (lambda M) (lambda M')
      put_at_rigid : {k : ℕ} {S S' : Spine} (h : Head) → IsRigidHead h → PutsInSpine k S S' → PutsIn k (root h S) (root h S')
      put_at_unbound : {k m : ℕ} {S S' : Spine} → Unbound bs m → PutsInSpine k S S' → PutsIn k (root (metavariable m) S) (root (metavariable m) S')
      put_at_bound : {k : ℕ} {S S' : Spine} {R R' : Term} (b : Binding) → Member b bs → PutsInSpine k S S' → Reduces (skeletons_of Ψ b.of) (rename (past_binders k) b.value) S' R → PutsIn k R R' → PutsIn k (root (metavariable b.of) S) R'

    -- the same, argument by argument
    pub data PutsInSpine : ℕ → Spine → Spine → Type 0 where
      put_nowhere : {k : ℕ} → PutsInSpine k nil nil
      put_in_argument : {k : ℕ} {M M' : Term} {S S' : Spine} → PutsIn k M M' → PutsInSpine k S S' → PutsInSpine k (app M S) (app M' S')

  -- the same in a type
  pub data PutsInType : ℕ → LfType → LfType → Type 0 where
    put_in_atom : {k a : ℕ} {S S' : Spine} → PutsInSpine k S S' → PutsInType k (atom a S) (atom a S')
    put_in_pi : {k : ℕ} {A A' B B' : LfType} → PutsInType k A A' → PutsInType (suc k) B B' → PutsInType k (pi A B) (pi A' B')

  -- Some bindings are put in, as many as one likes: a term may stay as it is, also where its head is bound. So a side may be put in no
  -- further than its head needs: with Y := z and X := s Y, the term X as s Y.
  mutual
    pub data PutsSome : ℕ → Term → Term → Type 0 where
      put_nothing : {k : ℕ} {M : Term} → PutsSome k M M
      some_under_lambda : {k : ℕ} {M M' : Term} → PutsSome (suc k) M M' → PutsSome k (lambda M) (lambda M')
      some_in_arguments : {k : ℕ} {S S' : Spine} (h : Head) → PutsSomeSpine k S S' → PutsSome k (root h S) (root h S')
      some_at_bound : {k : ℕ} {S S' : Spine} {R R' : Term} (b : Binding) → Member b bs → PutsSomeSpine k S S' → Reduces (skeletons_of Ψ b.of) (rename (past_binders k) b.value) S' R → PutsSome k R R' → PutsSome k (root (metavariable b.of) S) R'

    -- the same, argument by argument
    pub data PutsSomeSpine : ℕ → Spine → Spine → Type 0 where
      some_nowhere : {k : ℕ} → PutsSomeSpine k nil nil
      some_in_argument : {k : ℕ} {M M' : Term} {S S' : Spine} → PutsSome k M M' → PutsSomeSpine k S S' → PutsSomeSpine k (app M S) (app M' S')
