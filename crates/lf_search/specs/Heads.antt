-- The heads of one target among those that are tried, and heads that clash.
use Rattle.std.specs.Prelude.{◌≡◌, ℕ, zero, suc, ◌+◌, List, [], ◌∷◌}
use Rattle.lf.specs.Subordination.{Member}
use Rattle.lf.specs.Syntax.{Head, LfType, Spine, Term, app, constant, lambda, metavariable, root, skeleton, variable}
use Rattle.lf.specs.Typing.{Signature}
use Rattle.lf_unification.specs.Patterns.{skeleton_target}
use Rattle.lf_unification.specs.Rigid.{past_binders}
use Rattle.lf_unification.specs.Search.{OfferedHeadHasType}
use Rattle.lf_unification.specs.Unifiers.{Binding}

-- whatever type the head has, its target is another family than a
abbrev pub HasOtherTarget : Signature → List LfType → ℕ → Head → Type 0
HasOtherTarget Σ D a h = (A : LfType) → OfferedHeadHasType Σ D h A → skeleton_target (skeleton A) ≡ a → ⊥

-- the second list has those of the first whose target is a, in their order
pub data AreOffered (Σ : Signature) (D : List LfType) (a : ℕ) : List Head → List Head → Type 0 where
  none_offered : AreOffered Σ D a [] []
  not_offered : {h : Head} {hs ks : List Head} → HasOtherTarget Σ D a h → AreOffered Σ D a hs ks → AreOffered Σ D a (h ∷ hs) ks
  is_offered : {h : Head} {hs ks : List Head} (A : LfType) → OfferedHeadHasType Σ D h A → skeleton_target (skeleton A) ≡ a → AreOffered Σ D a hs ks → AreOffered Σ D a (h ∷ hs) (h ∷ ks)

-- M is the argument of the spine at this place, counted from 0
pub data IsArgument (M : Term) : ℕ → Spine → Type 0 where
  is_first : {S : Spine} → IsArgument M zero (app M S)
  is_later : {n : ℕ} {N : Term} {S : Spine} → IsArgument M n S → IsArgument M (suc n) (app N S)

mutual
  -- The head that a term under k binders has under its lambdas, where this is a constant or a variable from outside of all these binders: the
  -- term's own, or with the values put in. Where a value's head is a constant, it is this one; where it is the variable that the value's lambda
  -- number l binds, it is the head of the argument at this place. With X := s Y the head of X is s, that of [y] x y is x, and with F := [y] y that
  -- of F x is x.
  pub data HasRigidHead (bs : List Binding) : ℕ → Term → Head → Type 0 where
    constant_head : {k c : ℕ} {S : Spine} → HasRigidHead bs k (root (constant c) S) (constant c)
    variable_head : {k j : ℕ} {S : Spine} (i : ℕ) → j ≡ past_binders k i → HasRigidHead bs k (root (variable j) S) (variable i)
    under_lambda : {k : ℕ} {M : Term} {h : Head} → HasRigidHead bs (suc k) M h → HasRigidHead bs k (lambda M) h
    head_of_value : {k c : ℕ} {S : Spine} (b : Binding) → Member b bs → HasRigidHead bs 0 b.value (constant c) → HasRigidHead bs k (root (metavariable b.of) S) (constant c)
    head_of_argument : {k l : ℕ} {S : Spine} {M : Term} {h : Head} (b : Binding) → Member b bs → HasOwnHead bs 0 b.value l → IsArgument M l S → HasRigidHead bs k M h → HasRigidHead bs k (root (metavariable b.of) S) h

  -- The head of a term, under n lambdas that go before it and its own ones, is the variable that lambda number l of them binds, the outermost
  -- being 0. In [x] [y] x it is number 0.
  pub data HasOwnHead (bs : List Binding) : ℕ → Term → ℕ → Type 0 where
    own_variable : {n j l : ℕ} {M : Term} → HasRigidHead bs 0 M (variable j) → j + suc l ≡ n → HasOwnHead bs n M l
    own_under_lambda : {n l : ℕ} {M : Term} → HasOwnHead bs (suc n) M l → HasOwnHead bs n (lambda M) l

-- a rigid head: a constant or a variable from outside of the term, or the variable that its own lambda of this number binds
pub data RigidHead : Type 0 where
  from_outside : Head → RigidHead
  own : ℕ → RigidHead

-- what a term under k binders has as its head, with the values put in
pub data HasHead (bs : List Binding) (k : ℕ) (M : Term) : RigidHead → Type 0 where
  outer_head : {h : Head} → HasRigidHead bs k M h → HasHead bs k M (from_outside h)
  own_head : {l : ℕ} → HasOwnHead bs 0 M l → HasHead bs k M (own l)

-- At some place of two spines the heads clash: both are rigid, and they differ. The first spine is that of a goal, the second one that of a clause,
-- under its k quantifiers. `p z X` and `p (s Y) Z` clash, so do `p x` and `p y` for two variables that stand outside of the clause, and `q ([x] x)`
-- and `q ([x] s X)`.
pub data Clash (bs : List Binding) (k : ℕ) : Spine → Spine → Type 0 where
  clash_here : {M N : Term} {S T : Spine} {h h' : RigidHead} → HasHead bs 0 M h → HasHead bs k N h' → (h ≡ h' → ⊥) → Clash bs k (app M S) (app N T)
  clash_later : {M N : Term} {S T : Spine} → Clash bs k S T → Clash bs k (app M S) (app N T)
