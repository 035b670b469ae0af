-- Which of the postponed equations are known to be left. A time is how many bindings there were since the call began.
use Rattle.std.specs.Prelude.{◌≡◌, ℕ, ◌<◌, ◌≤◌, List, [], ◌∷◌, Option, Some, None, nat_eq, slice_get}
use Rattle.std.specs.HashMap.{get}
use Rattle.lf.specs.Subordination.{Member}
use Rattle.lf.specs.Syntax.{LfType, Term}
use Rattle.lf_unification.specs.Lists.{followed}
use Rattle.lf_unification.specs.Solving.{LeftOver}
use Rattle.lf_unification.specs.Unifiers.{Binding, Equation}
use Rattle.tw_metas.specs.State.{State, with_equation}
use Rattle.tw_terms.specs.declared.canonical.MetaId.{MetaId}
use Rattle.tw_putting.specs.Ready.{AllScoped}
use Rattle.tw_putting.specs.Stores.{bindings_of, types_of}
use Rattle.tw_putting.specs.Whole.{IsConsistent, whole}
use Rattle.tw_unify.specs.Flexible.{IsReachedFrom}
use Rattle.tw_unify.specs.Sides.{AllMayBeLeft}
use Rattle.tw_unify.specs.declared.watch.Watch.{Watch}
use Rattle.tw_unify.specs.declared.work.Advance.{Advance}
use Rattle.tw_unify.specs.declared.work.Advance.TheVariants.{Went, Bound, Postponed, Refuted}

-- t is s with one metavariable bound, and perhaps new ones
pub record BindsOne (s : State) (m : MetaId) (t : State) : Type 0 where
  pub value : Term
  pub grows : (k : ℕ) (A : LfType) → types_of s k ≡ Some A → types_of t k ≡ Some A
  pub bindings : bindings_of t ≡ record { of = m.0; value = value } ∷ bindings_of s
  pub equations : t.equations ≡ s.equations

-- what became of the store
abbrev pub Changes : Advance → State → State → Type 0
Changes Went s t = t ≡ s
Changes (Bound m) s t = BindsOne s m t
Changes Postponed s t = (e : Equation) × (t ≡ with_equation s e)
Changes Refuted s t = t ≡ s

-- t has the metavariables and the bindings of s
abbrev pub KeepsBindings : State → State → Type 0
KeepsBindings s t = (types_of t ≡ types_of s) × (bindings_of t ≡ bindings_of s)

-- By place, at what time the equation was found to be left, if it was; at what time each metavariable was bound, if it was; and what time it is.
pub record Diary : Type 0 where
  pub found : List (Option ℕ)
  pub bound : ℕ → Option ℕ
  pub time : ℕ

abbrev pub diary_of : Watch → Diary
diary_of w = record { found = w.found.items; bound = λ k. get nat_eq w.bound k; time = w.time }

-- k was not bound at the time c or later
abbrev pub IsEarly : Diary → ℕ → ℕ → Type 0
IsEarly d c k = (i : ℕ) → d.bound k ≡ Some i → i < c

-- nor was a metavariable that is reached from the sides of the equation
abbrev pub AreEarly : State → Diary → ℕ → Equation → Type 0
AreEarly s d c e = (k : ℕ) → IsReachedFrom s e.left e.right k → IsEarly d c k

-- nothing was bound later than now
abbrev pub IsPast : Diary → Type 0
IsPast d = (k : ℕ) → IsEarly d d.time k

-- The postponed equation is left over.
pub record StandsLeft (s : State) (e : Equation) : Type 0 where
  pub given : ℕ → Option LfType
  pub left : LeftOver given (whole [] s) e
  pub scoped : AllScoped [] s
  pub member : Member e s.equations

-- So it was at the time c, and what was bound since was bound at that time or later.
pub record WasLeft (s : State) (d : Diary) (c : ℕ) (e : Equation) : Type 0 where
  pub not_later : c ≤ d.time
  pub before : State
  pub left : StandsLeft before e
  pub grows : (k : ℕ) (A : LfType) → types_of before k ≡ Some A → types_of s k ≡ Some A
  pub news : List Binding
  pub bindings : bindings_of s ≡ followed news (bindings_of before)
  pub since : (b : Binding) → Member b news → (i : ℕ) × (d.bound b.of ≡ Some i) × (c ≤ i)

-- what is said of an equation
abbrev pub Known : State → Diary → Option ℕ → Equation → Type 0
Known s d (Some c) e = WasLeft s d c e
Known s d None e = Unit {0}

-- and of each of a list
abbrev pub AllKnown : State → Diary → List (Option ℕ) → List Equation → Type 0
AllKnown s d [] [] = Unit {0}
AllKnown s d [] (e ∷ es) = ⊥
AllKnown s d (o ∷ os) [] = ⊥
AllKnown s d (o ∷ os) (e ∷ es) = Known s d o e × AllKnown s d os es

-- the diary is one of the store
pub record Watches (s : State) (d : Diary) : Type 0 where
  pub all : AllKnown s d d.found s.equations
  pub past : IsPast d

-- the postponed equation at a place is left over
abbrev pub IsLeftAt : State → ℕ → Type 0
IsLeftAt s at = (e : Equation) × (slice_get s.equations at ≡ Some e) × StandsLeft s e

-- the postponed equations can be gone over
pub record CanGoOver (s : State) : Type 0 where
  pub consistent : IsConsistent s
  pub may_be_left : AllMayBeLeft s s.equations
  pub scoped : AllScoped [] s
