-- Heads that clash.
use Rattle.std.specs.Prelude.{◌≡◌, ℕ, suc, ◌+◌, List}
use Rattle.lf.specs.Entries.{quantifiers}
use Rattle.lf.specs.Subordination.{Member}
use Rattle.lf.specs.Syntax.{Head, LfType, Spine, Term, constant, lambda, rename_head, root, variable}
use Rattle.lf.specs.Variables.{target_arguments}
use Rattle.lf_unification.specs.Unifiers.{Binding}
use Rattle.lf_search.specs.Heads.{Clash, HasHead, HasOwnHead, RigidHead, from_outside, own}
use Rattle.tw_terms.specs.View.{head_of}
use Rattle.tw_search.specs.declared.rigid.Rigid.{Rigid}
use Rattle.tw_search.specs.declared.rigid.Rigid.TheVariants.{Outside, Own}

-- a rigid head, as the theory has it
abbrev pub rigid_of : Rigid → RigidHead
rigid_of (Outside h) = from_outside (head_of h)
rigid_of (Own n) = own n

-- a rigid head, seen from elsewhere
abbrev pub rename_rigid : (ℕ → ℕ) → RigidHead → RigidHead
rename_rigid ρ (from_outside h) = from_outside (rename_head ρ h)
rename_rigid ρ (own n) = own n

-- The goal's argument M and the clause's N, under its k quantifiers, have different rigid heads.
pub record AreApart (bs : List Binding) (k : ℕ) (M N : Term) : Type 0 where
  pub found : RigidHead
  pub wanted : RigidHead
  pub goal_has : HasHead bs 0 M found
  pub clause_has : HasHead bs k N wanted
  pub differ : found ≡ wanted → ⊥

-- the arguments of a goal clash with those of a clause, which is the type A
abbrev pub TypeClashes : List Binding → Spine → LfType → Type 0
TypeClashes bs S A = Clash bs (quantifiers A) S (target_arguments A)

-- what stands in a term under so many of its lambdas
pub data IsUnder (M : Term) : ℕ → Term → Type 0 where
  itself : IsUnder M 0 M
  one_further : {n : ℕ} {N : Term} → IsUnder M n (lambda N) → IsUnder M (suc n) N

-- a head under n lambdas of a term, as the term has it under k binders
pub data IsPlaced (n k : ℕ) : Head → RigidHead → Type 0 where
  constant_is : {c : ℕ} → IsPlaced n k (constant c) (from_outside (constant c))
  own_is : {j l : ℕ} → j + suc l ≡ n → IsPlaced n k (variable j) (own l)
  outside_is : {i j : ℕ} → j ≡ i + (k + n) → IsPlaced n k (variable j) (from_outside (variable i))

-- the head of the metavariable's value is the variable that the value's lambda number l binds, so that of a term is that of the argument at this place
pub record HeadIsArgument (bs : List Binding) (m l : ℕ) : Type 0 where
  pub binding : Binding
  pub bound : Member binding bs
  pub is_of : binding.of ≡ m
  pub head : HasOwnHead bs 0 binding.value l

-- the head of a term, under its lambdas
abbrev pub head_under : Term → Head
head_under (lambda M) = head_under M
head_under (root h S) = h
