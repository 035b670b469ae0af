-- The laws of unification and of search that the functions of this crate carry.
use Rattle.std.specs.Prelude.{◌≡◌, ℕ, zero, suc, List, [], ◌∷◌, Option, Some, ◌⊎◌}
use Rattle.lf.specs.Entries.{Entry, IsCanonicalSignature, signature_of}
use Rattle.lf.specs.SkeletonTyping.{TermSkeleton}
use Rattle.lf.specs.Substitution.{reduce, single, substitute}
use Rattle.lf.specs.Subordination.{Member}
use Rattle.lf.specs.Syntax.{Head, Skeleton, Spine, Term, LfType, atom}
use Rattle.lf.specs.Typing.{HasType, IsContext, IsSignature, Signature}
use Rattle.lf_unification.specs.Dependency.{free_context, values}
use Rattle.lf_unification.specs.Filling.{fill, fill_type, moved}
use Rattle.lf_unification.specs.Inversion.{Inversion}
use Rattle.lf_unification.specs.Offering.{pi_over}
use Rattle.lf_unification.specs.OpenTyping.{Declares, MetavariablesIn, OpenHasType, OpenIsType, skeletons_of}
use Rattle.lf_unification.specs.Outside.{CanBind}
use Rattle.lf_unification.specs.PartialInstance.{IsFilling, IsTypedStore, PartialInstance}
use Rattle.lf_unification.specs.Query.{IsAnswer, OfLeaf, Query, Searches, start}
use Rattle.lf_unification.specs.Reach.{IsReached}
use Rattle.lf_unification.specs.Search.{IsAscendingFrom, IsChild, IsNode, Node, Offer, Pending, SearchStep, TryIsDue, declared_constants}
use Rattle.lf_unification.specs.Skeletons.{FillsBySkeletons, TotalSkeletons, as_head_skeletons}
use Rattle.lf_unification.specs.Lists.{followed}
use Rattle.lf_unification.specs.Scope.{IsScoped}
use Rattle.lf_unification.specs.Solving.{AllLeftOver, IsWellFormed, Left, LeftOver, Never, Solved}
use Rattle.lf_unification.specs.Origins.{ComesFrom}
use Rattle.lf_unification.specs.Putting.{PutsIn, PutsSome, Unbound}
use Rattle.lf_unification.specs.Steps.{IsRefuted, Run, Step}
use Rattle.lf_unification.specs.Unifiers.{Binding, Equation, ExtendsFilling, KeepsUnifiers, MostGeneral, Solution, Store, Unifies}

-- Filling and typing of open terms.

-- on terms typed by skeletons filling goes through the substitution for the newest variable
abbrev pub FillingGoesThrough : Type 0
FillingGoesThrough = (κ : TotalSkeletons) (Γ : List Skeleton) (β : ℕ → Option Term) (a : Skeleton) (N M : Term) (t : Skeleton) → FillsBySkeletons κ Γ β → TermSkeleton (as_head_skeletons κ) Γ N a → TermSkeleton (as_head_skeletons κ) (a ∷ Γ) M t →
    fill κ.metavariable_skeleton β (substitute reduce (single a N) M) ≡ substitute reduce (single a (fill κ.metavariable_skeleton β N)) (fill κ.metavariable_skeleton (moved suc β) M)

-- a term typed up to the fillings of a well-typed store becomes, under each typed unifier, a term of LF of the filled type
abbrev pub FilledTermIsTyped : Type 0
FilledTermIsTyped = (Σ : Signature) → IsSignature Σ → (G : List LfType) (s : Store) → IsTypedStore Σ G s → (F : List LfType) (β : ℕ → Option Term) → Solution Σ G s F β → (M : Term) (A : LfType) → OpenIsType Σ G s.metavariables (IsFilling Σ G s) [] A → MetavariablesIn (Declares s.metavariables) M → OpenHasType Σ G s.metavariables (IsFilling Σ G s) [] M A → HasType Σ F (fill (skeletons_of s.metavariables) β M) (fill_type (skeletons_of s.metavariables) β A)

-- what a term becomes when some bindings are put in has the type, and the same filling under each typed unifier; when all are put in they
-- are some, and it has no bound metavariable
abbrev pub PuttingInKeeps : Type 0
PuttingInKeeps = (Σ : Signature) → IsSignature Σ → (s : Store) → IsTypedStore Σ [] s → (A : LfType) (M M' : Term) → OpenIsType Σ [] s.metavariables (IsFilling Σ [] s) [] A → OpenHasType Σ [] s.metavariables (IsFilling Σ [] s) [] M A →
    (PutsSome s.metavariables s.bindings 0 M M' → OpenHasType Σ [] s.metavariables (IsFilling Σ [] s) [] M' A × ((F : List LfType) (β : ℕ → Option Term) → Solution Σ [] s F β → fill (skeletons_of s.metavariables) β M ≡ fill (skeletons_of s.metavariables) β M'))
    × (PutsIn s.metavariables s.bindings 0 M M' → PutsSome s.metavariables s.bindings 0 M M' × MetavariablesIn (Unbound s.bindings) M')

-- Unification.

-- each permitted step keeps the typed unifiers of a typed store
abbrev pub StepKeepsUnifiers : Type 0
StepKeepsUnifiers = (Σ : Signature) → IsSignature Σ → (before after : Store) → IsTypedStore Σ [] before → Step Σ before after → KeepsUnifiers Σ [] before after

-- each step keeps a store well formed: typed up to its own fillings, with an order of dependency
abbrev pub StepKeepsForm : Type 0
StepKeepsForm = (Σ : Signature) → IsSignature Σ → (before after : Store) → IsWellFormed Σ before → Step Σ before after → IsWellFormed Σ after

-- so a run of steps from a well-formed store keeps the typed unifiers and the form
abbrev pub RunKeepsUnifiers : Type 0
RunKeepsUnifiers = (Σ : Signature) → IsSignature Σ → (before after : Store) → IsWellFormed Σ before → Run Σ before after → KeepsUnifiers Σ [] before after × IsWellFormed Σ after

-- a well-formed store that a run refutes has no typed unifier
abbrev pub RefutedIsNever : Type 0
RefutedIsNever = (Σ : Signature) → IsSignature Σ → (before after : Store) → IsWellFormed Σ before → Run Σ before after → IsRefuted after → Never Σ [] before

-- from a well-formed store, a run to a store without equations solves; one to a store with equations, each left over, leaves them
abbrev pub RunSolves : Type 0
RunSolves = (Σ : Signature) → IsSignature Σ → (before after : Store) → IsWellFormed Σ before → Run Σ before after →
    (after.equations ≡ [] → Solved Σ before after) × ((after.equations ≡ [] → ⊥) → AllLeftOver before.metavariables after after.equations → Left Σ before after)

-- each equation that a run leaves comes from one that it was given, the left side from the left one: none is turned
abbrev pub SidesStay : Type 0
SidesStay = (Σ : Signature) → IsSignature Σ → (before after : Store) → IsWellFormed Σ before → Run Σ before after → (e : Equation) → Member e after.equations →
    (given : Equation) × Member given before.equations × ComesFrom after.metavariables after.bindings given e

-- an equation that is left over stays so while nothing that is reached from its sides, through types and values, is bound
abbrev pub LeftOverStays : Type 0
LeftOverStays = (given : ℕ → Option LfType) (before after : Store) (new : List Binding) (n : ℕ) → ((m : ℕ) (A : LfType) → before.metavariables m ≡ Some A → after.metavariables m ≡ Some A) → after.bindings ≡ followed new before.bindings → IsScoped before.metavariables n before.bindings before.equations →
    (e : Equation) → Member e before.equations → ((k : ℕ) → IsReached before.metavariables before.bindings e.left k ⊎ IsReached before.metavariables before.bindings e.right k → Unbound new k) → LeftOver given before e → LeftOver given after e

-- keeping the typed unifiers is a preorder
abbrev pub KeepingComposes : Type 0
KeepingComposes = (Σ : Signature) (G : List LfType) → ((s : Store) → KeepsUnifiers Σ G s s) × ((s s' s'' : Store) → KeepsUnifiers Σ G s s' → KeepsUnifiers Σ G s' s'' → KeepsUnifiers Σ G s s'')

-- a typed unifier's sides have one type, so the equation of the types of a binding holds
abbrev pub TypesOfSidesAgree : Type 0
TypesOfSidesAgree = (Σ : Signature) (F : List LfType) (M : Term) (a b : ℕ) (T U : Spine) → HasType Σ F M (atom a T) → HasType Σ F M (atom b U) → atom a T ≡ atom b U

-- inversion has an answer on every term
abbrev pub InversionIsTotal : Type 0
InversionIsTotal = (Ψ : ℕ → Option LfType) (D : List LfType) (t : Skeleton) (xs : List ℕ) (N : Term) → Inversion Ψ D t xs N

-- a metavariable that can be bound is not reached from its value
abbrev pub BindingIsNotCircular : Type 0
BindingIsNotCircular = (Ψ : ℕ → Option LfType) (bs : List Binding) (D : List LfType) (m : ℕ) (xs : List ℕ) (N : Term) → CanBind Ψ bs D m xs N → IsReached Ψ bs N m → ⊥

-- The answers of solving.

-- a well-formed store without equations has a typed unifier, in which the free metavariables are the variables of a context
abbrev pub WellFormedHasUnifier : Type 0
WellFormedHasUnifier = (Σ : Signature) → IsSignature Σ → (s : Store) (w : IsWellFormed Σ s) → s.equations ≡ [] → Solution Σ [] s (free_context (skeletons_of s.metavariables) w.order) (values (skeletons_of s.metavariables) w.order)

-- what is solved had a typed unifier, and so wasn't never
abbrev pub SolvedHasUnifier : Type 0
SolvedHasUnifier = (Σ : Signature) → IsSignature Σ → (before after : Store) → Solved Σ before after → ((F : List LfType) × (β : ℕ → Option Term) × Solution Σ [] before F β) × (Never Σ [] before → ⊥)

-- from a store without bindings, the bindings of what is solved, and of what is left relative to the equations left, are most general
abbrev pub SolvedIsMostGeneral : Type 0
SolvedIsMostGeneral = (Σ : Signature) (Ψ : ℕ → Option LfType) (given : List Equation) (after : Store) →
    (Solved Σ (record { metavariables = Ψ; bindings = []; equations = given }) after → MostGeneral Σ [] Ψ given after)
    × (Left Σ (record { metavariables = Ψ; bindings = []; equations = given }) after → MostGeneral Σ [] Ψ given after)

-- where the typed unifiers of a store are kept in another, either has none just where the other has none
abbrev pub NeverGoesBack : Type 0
NeverGoesBack = (Σ : Signature) (G : List LfType) (before after : Store) → KeepsUnifiers Σ G before after → (Never Σ G after → Never Σ G before) × (Never Σ G before → Never Σ G after)

-- Search.

-- the constants that are tried are those declared, the oldest first, each once
abbrev pub TriedAreDeclared : Type 0
TriedAreDeclared = (entries : List Entry) → ((c : ℕ) (A : LfType) → (signature_of entries).types c ≡ Some A → Member c (declared_constants entries)) × ((c : ℕ) → Member c (declared_constants entries) → (A : LfType) × ((signature_of entries).types c ≡ Some A)) × IsAscendingFrom zero (declared_constants entries)

-- a try is due just where the next step makes one
abbrev pub DueIsTried : Type 0
DueIsTried = (entries : List Entry) (agenda after : List Pending) (leaves : List Node) (tries : ℕ) → SearchStep (signature_of entries) (declared_constants entries) agenda leaves tries after → (TryIsDue (signature_of entries) agenda → tries ≡ 1) × (tries ≡ 1 → TryIsDue (signature_of entries) agenda)

-- the store that solving leaves makes a child
abbrev pub SolvingGivesChild : Type 0
SolvingGivesChild = (Σ : Signature) → IsSignature Σ → (s s' : Store) → (Solved Σ s s' → IsChild Σ s s') × (Left Σ s s' → IsChild Σ s s')

-- each typed unifier of a leaf, in any context, gives an answer; by the next law it needs to be typed at the free metavariables only
abbrev pub LeafAnswers : Type 0
LeafAnswers = (entries : List Entry) → IsCanonicalSignature entries → (q : Query) → IsNode (signature_of entries) (start q) → (leaves : List Node) (tries : ℕ) (agenda : List Pending) → Searches entries q leaves tries agenda → (l : Node) → Member l leaves → (F : List LfType) (β : ℕ → Option Term) → Solution (signature_of entries) [] l.store F β →
    (values : ℕ → Option Term) × (proof : Term) × ExtendsFilling q.metavariables values β × IsAnswer (signature_of entries) q F values proof

-- from a well-formed query each leaf is well formed; so what is typed at the leaf's free metavariables, and unifies, is typed at all
abbrev pub LeafIsTyped : Type 0
LeafIsTyped = (entries : List Entry) → IsCanonicalSignature entries → (q : Query) → IsNode (signature_of entries) (start q) → IsWellFormed (signature_of entries) (start q).store → (leaves : List Node) (tries : ℕ) (agenda : List Pending) → Searches entries q leaves tries agenda → (l : Node) → Member l leaves →
    IsWellFormed (signature_of entries) l.store × ((F : List LfType) (β : ℕ → Option Term) → IsContext (signature_of entries) F → PartialInstance (signature_of entries) [] l.store.metavariables (Unbound l.store.bindings) F β → Unifies l.store β → Solution (signature_of entries) [] l.store F β)

-- to offer a head to a hole that is not bound keeps a store well formed
abbrev pub OfferKeepsForm : Type 0
OfferKeepsForm = (Σ : Signature) → IsSignature Σ → (node : Node) (g : ℕ) (D : List LfType) (a : ℕ) (T : Spine) (h : Head) (A : LfType) (s : Store) (n : ℕ) → IsWellFormed Σ node.store → IsNode Σ node → node.store.metavariables g ≡ Some (pi_over D (atom a T)) → Unbound node.store.bindings g → Offer Σ node g D a T h A s n → IsWellFormed Σ s

-- where nothing is postponed in a child, what was offered has a typed unifier
abbrev pub ChildHasUnifier : Type 0
ChildHasUnifier = (Σ : Signature) → IsSignature Σ → (s s' : Store) → IsChild Σ s s' → s'.equations ≡ [] → (F : List LfType) × (β : ℕ → Option Term) × Solution Σ [] s F β

-- the answer read off a leaf where nothing is postponed, from a well-formed query: the leaf's store is well formed, its free metavariables
-- are the context, and its values are those of the query's variables
abbrev pub AnswerIsTyped : Type 0
AnswerIsTyped = (entries : List Entry) → IsCanonicalSignature entries → (q : Query) → IsNode (signature_of entries) (start q) → IsWellFormed (signature_of entries) (start q).store → (leaves : List Node) (tries : ℕ) (agenda : List Pending) → Searches entries q leaves tries agenda → (l : Node) → Member l leaves → l.store.equations ≡ [] →
    (w : IsWellFormed (signature_of entries) l.store) × (shown : ℕ → Option Term) × (proof : Term) × ExtendsFilling q.metavariables shown (values (skeletons_of l.store.metavariables) w.order) × IsAnswer (signature_of entries) q (free_context (skeletons_of l.store.metavariables) w.order) shown proof

-- a search that ended has each closed answer as an instance of a leaf, where what is postponed holds
abbrev pub NothingIsMissed : Type 0
NothingIsMissed = (entries : List Entry) → IsCanonicalSignature entries → (q : Query) → IsNode (signature_of entries) (start q) → (leaves : List Node) (tries : ℕ) → Searches entries q leaves tries [] → (shown : ℕ → Option Term) (proof : Term) → IsAnswer (signature_of entries) q [] shown proof → (l : Node) × Member l leaves × OfLeaf (signature_of entries) q l [] shown
