-- Heads on the first of their arguments, in place of variables. With m on x for y, `r (y a)` is `r (m x a)`; under a binder x is moved over it.
use Rattle.std.specs.Prelude.{◌≡◌, ℕ, zero, suc, List, [], ◌∷◌, ◌++◌, Option}
use Rattle.lf.specs.Eta.{append}
use Rattle.lf.specs.SkeletonTyping.{HeadSkeletons, TermSkeleton, TypeBySkeletons}
use Rattle.lf.specs.Syntax.{Head, LfType, Skeleton, Spine, Term, app, atom, constant, lambda, metavariable, nil, pi, rename_head, rename_spine, root, skeleton, variable}
use Rattle.lf.specs.Typing.{instantiate_type}
use Rattle.lf_unification.specs.Offering.{local_arguments, raised}

-- a head on the first of its arguments
pub record AppliedHead : Type 0 where
  pub head : Head
  pub arguments : Spine

-- a variable, on none
abbrev pub bare : ℕ → AppliedHead
bare i = record { head = variable i; arguments = nil }

-- the head and its arguments, renamed
abbrev pub rename_applied : (ℕ → ℕ) → AppliedHead → AppliedHead
rename_applied ρ x = record { head = rename_head ρ x.head; arguments = rename_spine ρ x.arguments }

-- what stands for variables, under one more binder
abbrev pub under_applied : (ℕ → AppliedHead) → ℕ → AppliedHead
under_applied p zero = bare zero
under_applied p (suc i) = rename_applied suc (p i)

-- a term with these for its variables: the arguments of a variable come behind those that its head has
abbrev mutual
  pub with_applied : (ℕ → AppliedHead) → Term → Term
  with_applied p (lambda M) = lambda (with_applied (under_applied p) M)
  with_applied p (root (constant c) S) = root (constant c) (spine_with_applied p S)
  with_applied p (root (metavariable m) S) = root (metavariable m) (spine_with_applied p S)
  with_applied p (root (variable i) S) = root (p i).head (append (p i).arguments (spine_with_applied p S))

  -- the same, argument by argument
  pub spine_with_applied : (ℕ → AppliedHead) → Spine → Spine
  spine_with_applied p nil = nil
  spine_with_applied p (app M S) = app (with_applied p M) (spine_with_applied p S)

-- the same in a type
abbrev pub type_with_applied : (ℕ → AppliedHead) → LfType → LfType
type_with_applied p (pi A B) = pi (type_with_applied p A) (type_with_applied (under_applied p) B)
type_with_applied p (atom a S) = atom a (spine_with_applied p S)

-- one more in front, for the newest variable
abbrev pub with_newest : AppliedHead → (ℕ → AppliedHead) → ℕ → AppliedHead
with_newest x p zero = x
with_newest x p (suc i) = p i

-- the metavariable on these arguments; on the local variables, its eta-long form is `raised`
abbrev pub on_arguments : Spine → ℕ → AppliedHead
on_arguments L m = record { head = metavariable m; arguments = L }

-- one metavariable after another in front of p, all on the same arguments
abbrev pub one_by_one : Spine → List ℕ → (ℕ → AppliedHead) → ℕ → AppliedHead
one_by_one L [] p = p
one_by_one L (m ∷ ms) p = one_by_one L ms (with_newest (on_arguments L m) p)

-- The metavariables that are put in for quantifiers, the outermost first; the variables outside of these come nearer. Of 5 and 6 on x, variable 0 is `6 x`,
-- variable 1 is `5 x`, and variable 2 is variable 0.
unfoldable pub taken_heads : Spine → List ℕ → ℕ → AppliedHead
taken_heads L ms = one_by_one L ms bare

-- Under metavariables that are put in, the eta-long form of the next one put in is one head more. Of {F:nat -> nat} {y:nat} p (F y), with 5 and 6 at the
-- local variable x, the first leaves {y:nat} p (5 x y), and the second p (5 x (6 x)).
abbrev pub NextHeadIsPutIn : Type 0
NextHeadIsPutIn = (φ : ℕ → Option Skeleton) (κ : HeadSkeletons) (Γ : List Skeleton) (D : List LfType) (ms : List ℕ) (m : ℕ) (A B : LfType) →
    let p : ℕ → AppliedHead = taken_heads (local_arguments D) ms in
    TermSkeleton κ Γ (raised D A m) (skeleton A) → TypeBySkeletons φ κ (skeleton A ∷ Γ) (type_with_applied (under_applied p) B) →
    instantiate_type A (raised D A m) (type_with_applied (under_applied p) B) ≡ type_with_applied (taken_heads (local_arguments D) (ms ++ m ∷ [])) B
