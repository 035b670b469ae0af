-- The walk from a term to the metavariables that are reached from it: through its own, and through their types and values.
use Rattle.std.specs.Prelude.{◌≡◌, ℕ, ◌+◌, ◌≤◌, List, [], length, Bool, Option, Some, nat_eq, ◌⊎◌}
use Rattle.std.specs.HashSet.{contains, hash_set_len}
use Rattle.lf.specs.Subordination.{Member}
use Rattle.lf.specs.Syntax.{Term, LfType, atom, nil}
use Rattle.lf_unification.specs.OpenTyping.{Declares, MetavariablesIn, MetavariablesInType}
use Rattle.lf_unification.specs.Outside.{Avoids, Holds}
use Rattle.lf_unification.specs.Reach.{Mentions, TypeMentions}
use Rattle.lf_unification.specs.Unifiers.{Binding}
use Rattle.tw_metas.specs.State.{State}
use Rattle.tw_putting.specs.Stores.{bindings_of, types_of}
use Rattle.tw_unify.specs.declared.reach.Walk.{Walk}

-- Which metavariables were met, how many, and those of them whose types and values are still to be walked.
pub record Marking : Type 0 where
  pub marks : ℕ → Bool
  pub count : ℕ
  pub due : List ℕ

abbrev pub marking_of : Walk → Marking
marking_of w = record { marks = λ k. contains nat_eq w.marks k; count = hash_set_len w.marks; due = w.due.items }

abbrev pub IsMarked : Marking → ℕ → Type 0
IsMarked w k = Holds (w.marks k)

-- A walk through something that mentions the metavariables P: what was marked stays so, what is newly marked is due, and what is newly due is
-- mentioned; as many are newly due as newly marked.
pub record Spreads (P : ℕ → Type 0) (old new : Marking) : Type 0 where
  pub stay : (k : ℕ) → IsMarked old k → IsMarked new k
  pub due_stay : (k : ℕ) → Member k old.due → Member k new.due
  pub marked_are_due : (k : ℕ) → IsMarked new k → IsMarked old k ⊎ Member k new.due
  pub due_are_mentioned : (k : ℕ) → Member k new.due → Member k old.due ⊎ P k
  pub more : old.count ≤ new.count
  pub all_due : old.count + length new.due ≡ new.count + length old.due

-- j stands in the type of k
abbrev pub StandsInType : (ℕ → Option LfType) → ℕ → ℕ → Type 0
StandsInType Ψ k j = (A : LfType) × (Ψ k ≡ Some A) × TypeMentions j A

-- j stands in the value of k
abbrev pub StandsInValue : List Binding → ℕ → ℕ → Type 0
StandsInValue bs k j = (b : Binding) × Member b bs × (b.of ≡ k) × Mentions j b.value

-- the metavariables in the type of k are marked
abbrev pub TypeIsMet : (ℕ → Option LfType) → ℕ → Marking → Type 0
TypeIsMet Ψ k w = (A : LfType) → Ψ k ≡ Some A → MetavariablesInType (IsMarked w) A

-- and those in its value
abbrev pub ValueIsMet : List Binding → ℕ → Marking → Type 0
ValueIsMet bs k w = (b : Binding) → Member b bs → b.of ≡ k → MetavariablesIn (IsMarked w) b.value

-- Nothing is due, and the types and values of what was met mention only what was met. So a later walk needn't go through it again, as long as
-- nothing of it is bound to more.
pub record IsClosed (Ψ : ℕ → Option LfType) (bs : List Binding) (w : Marking) : Type 0 where
  pub nothing_due : w.due ≡ []
  pub types : (k : ℕ) → IsMarked w k → TypeIsMet Ψ k w
  pub values : (k : ℕ) → IsMarked w k → ValueIsMet bs k w

-- m is not reached from the term: a set that is closed under what types and values mention holds the term's metavariables, and not m.
pub record IsAvoided (Ψ : ℕ → Option LfType) (bs : List Binding) (N : Term) (m : ℕ) : Type 0 where
  pub reached : ℕ → Bool
  pub avoids : Avoids Ψ bs m (λ k. Holds (reached k))
  pub within : MetavariablesIn (λ k. Holds (reached k)) N

-- the type of k is a family without arguments, so that no metavariable stands in it
abbrev pub HasBareType : (ℕ → Option LfType) → ℕ → Type 0
HasBareType Ψ k = (c : ℕ) × (Ψ k ≡ Some (atom c nil))

-- What may be kept of a store's walks: it is closed, and each metavariable that was met is declared, so that nothing is known of one that comes later.
pub record IsKnown (s : State) (w : Marking) : Type 0 where
  pub closed : IsClosed (types_of s) (bindings_of s) w
  pub declared : (k : ℕ) → IsMarked w k → Declares (types_of s) k
