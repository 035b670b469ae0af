-- Search in depth, without a trail and without continuations: an agenda of what is still to be searched, its steps, and their runs. An infinite
-- search has runs of every length; one that ends has a run to the empty agenda. All metavariables stand in the empty context.
use Rattle.std.specs.Prelude.{◌≡◌, ℕ, zero, suc, ◌+◌, ◌≤◌, List, [], ◌∷◌, length, Some, Bool, true, false}
use Rattle.lf.specs.Entries.{Body, Entry, declare_constant, declare_definition, declare_family, signature_of}
use Rattle.lf.specs.SkeletonTyping.{TypeBySkeletons}
use Rattle.lf.specs.Skeletons.{context_skeletons, family_skeletons}
use Rattle.lf.specs.Syntax.{Head, Kind, Spine, Term, LfType, app, atom, constant, lambda, metavariable, nil, pi, root, skeleton, variable}
use Rattle.lf.specs.Typing.{TypeAt, Signature}
use Rattle.lf.specs.Variables.{onto, same_number}
use Rattle.lf_unification.specs.Lists.{followed}
use Rattle.lf_unification.specs.Offering.{AppliesToNew, lambda_over, pi_over, spine_equations}
use Rattle.lf_unification.specs.OpenTyping.{skeletons_of}
use Rattle.lf_unification.specs.Patterns.{skeleton_target}
use Rattle.lf_unification.specs.Scope.{IsScoped}
use Rattle.lf_unification.specs.Skeletons.{as_head_skeletons, total_skeletons}
use Rattle.lf_unification.specs.Solving.{AllLeftOver, IsWellFormed, Never}
use Rattle.lf_unification.specs.Steps.{Run}
use Rattle.lf_unification.specs.Unifiers.{Equation, KeepsUnifiers, Store}

-- one of two truths
abbrev pub either : Bool → Bool → Bool
either true b = true
either false b = b

-- whether variable x occurs
abbrev mutual
  pub occurs : ℕ → Term → Bool
  occurs x (lambda M) = occurs (suc x) M
  occurs x (root (constant c) S) = occurs_spine x S
  occurs x (root (metavariable m) S) = occurs_spine x S
  occurs x (root (variable i) S) = either (same_number x i) (occurs_spine x S)

  pub occurs_spine : ℕ → Spine → Bool
  occurs_spine x nil = false
  occurs_spine x (app M S) = either (occurs x M) (occurs_spine x S)

-- the same in a type
abbrev pub occurs_type : ℕ → LfType → Bool
occurs_type x (pi A B) = either (occurs_type x A) (occurs_type (suc x) B)
occurs_type x (atom a S) = occurs_spine x S

-- one more hole at the end, unless the variable occurs
abbrev pub unless : Bool → ℕ → List ℕ → List ℕ
unless true n ns = ns
unless false n ns = followed ns (n ∷ [])

-- A clause read off a type: a quantifier whose variable occurs in the rest is a variable of the clause, each other one is a subgoal. These are
-- the new metavariables, numbered from n, that are holes of subgoals. The last quantifier's comes first.
abbrev pub holes : ℕ → LfType → List ℕ
holes n (atom a T) = []
holes n (pi B C) = unless (occurs_type zero C) n (holes (suc n) C)

-- the local variables as heads, the newest first
abbrev pub local_heads : ℕ → List LfType → List Head
local_heads i [] = []
local_heads i (A ∷ D) = variable i ∷ local_heads (suc i) D

-- constants as heads
abbrev pub constant_heads : List ℕ → List Head
constant_heads [] = []
constant_heads (c ∷ cs) = constant c ∷ constant_heads cs

-- one more entry: its number at the end, where it is a constant
abbrev pub add_constant : Body → ℕ → List ℕ → List ℕ
add_constant (declare_family K) c cs = cs
add_constant (declare_constant A) c cs = followed cs (c ∷ [])
add_constant (declare_definition M A b) c cs = cs

-- the declared constants, the oldest first; families and definitions are no heads
abbrev pub declared_constants : List Entry → List ℕ
declared_constants [] = []
declared_constants (e ∷ es) = add_constant e.body (length es) (declared_constants es)

-- each number is greater than those before it
abbrev pub IsAscendingFrom : ℕ → List ℕ → Type 0
IsAscendingFrom n [] = Unit {0}
IsAscendingFrom n (c ∷ cs) = (n ≤ c) × IsAscendingFrom (suc c) cs

-- the heads that are tried at a goal in the local context D, in this order: its variables, the newest first, then the constants
abbrev pub tried_heads : List LfType → List ℕ → List Head
tried_heads D constants = followed (local_heads zero D) (constant_heads constants)

-- the type of a head that is offered in the local context D
abbrev pub OfferedHeadHasType : Signature → List LfType → Head → LfType → Type 0
OfferedHeadHasType Σ D (constant c) A = Σ.types c ≡ Some A
OfferedHeadHasType Σ D (variable i) A = TypeAt (onto D []) i A
OfferedHeadHasType Σ D (metavariable m) A = ⊥

-- A node: a store, the next free number, and the holes that are to be filled, in order. The hole of a goal in a local context is a
-- metavariable of the goal's type closed over that context, so that what is put into the holes is the proof.
pub record Node : Type 0 where
  pub store : Store
  pub next : ℕ
  pub goals : List ℕ

-- the node mentions declared metavariables only, and their types are typed by skeletons
pub record IsNode (Σ : Signature) (node : Node) : Type 0 where
  pub scoped : IsScoped node.store.metavariables node.next node.store.bindings node.store.equations
  pub skeletons : (m : ℕ) (A : LfType) → node.store.metavariables m ≡ Some A → TypeBySkeletons (family_skeletons Σ) (as_head_skeletons (total_skeletons Σ (skeletons_of node.store.metavariables))) (context_skeletons []) A

-- Head h, of type A, is offered to the hole g, whose type is `a . T` closed over D. The hole is bound to the head applied to new metavariables;
-- the goal's arguments and those of the head's target are equations. `s` is the store then, and `next` the next free number.
pub record Offer (Σ : Signature) (node : Node) (g : ℕ) (D : List LfType) (a : ℕ) (T : Spine) (h : Head) (A : LfType) (s : Store) (next : ℕ) : Type 0 where
  pub typed : OfferedHeadHasType Σ D h A
  pub kind : Kind
  pub kind_of : Σ.kinds a ≡ Some kind
  pub spine : Spine
  pub indices : Spine
  pub offered : AppliesToNew D node.store.metavariables node.next A s.metavariables next spine a indices
  pub bindings : s.bindings ≡ record { of = g; value = lambda_over D (root h spine) } ∷ node.store.bindings
  pub equations : s.equations ≡ followed node.store.equations (spine_equations D kind T indices)

-- A child: what was offered, after permitted steps of unification. The typed unifiers are kept, each equation that is postponed is outside
-- the pattern fragment, and the store is well formed; so where no equation is postponed there is a typed unifier.
pub record IsChild (Σ : Signature) (s s' : Store) : Type 0 where
  pub run : Run Σ s s'
  pub keeps : KeepsUnifiers Σ [] s s'
  pub left_over : AllLeftOver s.metavariables s' s'.equations
  pub well_formed : IsWellFormed Σ s'

-- What is still to be searched: a node; or the heads that are still to be tried at the first goal of a node: its hole, the other holes, and
-- the goal's local context, family and indices.
pub data Pending : Type 0 where
  at_node : Node → Pending
  at_heads : Node → ℕ → List ℕ → List LfType → ℕ → Spine → List Head → Pending

module _ (Σ : Signature) (constants : List ℕ) where
  -- A step takes the first of the agenda. It gives a leaf or none, and makes one try or none.
  pub data SearchStep : List Pending → List Node → ℕ → List Pending → Type 0 where
    -- a node without goals is a leaf
    take_leaf : {node : Node} {rest : List Pending} → node.goals ≡ [] → SearchStep (at_node node ∷ rest) (node ∷ []) zero rest
    -- at the first goal of a node all heads are to be tried
    take_goal : {node : Node} {rest : List Pending} {g : ℕ} {gs : List ℕ} {D : List LfType} {a : ℕ} {T : Spine} →
        node.goals ≡ g ∷ gs → node.store.metavariables g ≡ Some (pi_over D (atom a T)) →
        SearchStep (at_node node ∷ rest) [] zero (at_heads node g gs D a T (tried_heads D constants) ∷ rest)
    no_head : {node : Node} {rest : List Pending} {g : ℕ} {gs : List ℕ} {D : List LfType} {a : ℕ} {T : Spine} →
        SearchStep (at_heads node g gs D a T [] ∷ rest) [] zero rest
    -- a head of another target is not tried
    other_target : {node : Node} {rest : List Pending} {g : ℕ} {gs : List ℕ} {D : List LfType} {a : ℕ} {T : Spine} {h : Head} {hs : List Head} →
        ((A : LfType) → OfferedHeadHasType Σ D h A → skeleton_target (skeleton A) ≡ a → ⊥) →
        SearchStep (at_heads node g gs D a T (h ∷ hs) ∷ rest) [] zero (at_heads node g gs D a T hs ∷ rest)
    -- a try without a typed unifier gives no child
    no_child : {node : Node} {rest : List Pending} {g : ℕ} {gs : List ℕ} {D : List LfType} {a : ℕ} {T : Spine} {h : Head} {hs : List Head} {A : LfType} {s : Store} {n : ℕ} →
        Offer Σ node g D a T h A s n → Never Σ [] s →
        SearchStep (at_heads node g gs D a T (h ∷ hs) ∷ rest) [] 1 (at_heads node g gs D a T hs ∷ rest)
    -- a try with a child: it is searched first, then the other heads; its goals are the clause's subgoals and those that were left
    child : {node : Node} {rest : List Pending} {g : ℕ} {gs : List ℕ} {D : List LfType} {a : ℕ} {T : Spine} {h : Head} {hs : List Head} {A : LfType} {s : Store} {n : ℕ} {node' : Node} →
        Offer Σ node g D a T h A s n → IsChild Σ s node'.store → IsNode Σ node' → node'.goals ≡ followed (holes node.next A) gs →
        SearchStep (at_heads node g gs D a T (h ∷ hs) ∷ rest) [] 1 (at_node node' ∷ at_heads node g gs D a T hs ∷ rest)

  -- A run from one agenda to another: its leaves in order, and its number of tries.
  pub data SearchRun : List Pending → List Node → ℕ → List Pending → Type 0 where
    begin_search : {agenda : List Pending} → SearchRun agenda [] zero agenda
    search_on : {agenda agenda' agenda'' : List Pending} {leaves leaves' : List Node} {tries tries' : ℕ} →
        SearchStep agenda leaves tries agenda' → SearchRun agenda' leaves' tries' agenda'' → SearchRun agenda (followed leaves leaves') (tries + tries') agenda''

-- A try is due: at the first of the agenda there is a head that is to be offered to the goal's hole. What comes of it is not asked.
pub data TryIsDue (Σ : Signature) : List Pending → Type 0 where
  is_due : {node : Node} {rest : List Pending} {g : ℕ} {gs : List ℕ} {D : List LfType} {a : ℕ} {T : Spine} {h : Head} {hs : List Head} {A : LfType} {s : Store} {n : ℕ} →
      Offer Σ node g D a T h A s n → TryIsDue Σ (at_heads node g gs D a T (h ∷ hs) ∷ rest)

-- The search over canonical LF, from an agenda: all declared constants are tried, the oldest first.
abbrev pub SearchesFrom : List Entry → List Pending → List Node → ℕ → List Pending → Type 0
SearchesFrom entries agenda leaves tries after = SearchRun (signature_of entries) (declared_constants entries) agenda leaves tries after

-- a search that ended: its tree is exhausted
abbrev pub IsExhausted : List Entry → List Pending → List Node → ℕ → Type 0
IsExhausted entries agenda leaves tries = SearchesFrom entries agenda leaves tries []

-- A search that made as many tries as the budget allows, where one more is due before its next leaf or its end. `agenda` is where the
-- search was started, `reached` where it stopped.
pub record IsOutOfBudget (entries : List Entry) (agenda : List Pending) (leaves : List Node) (budget : ℕ) : Type 0 where
  pub reached : List Pending
  pub run : SearchesFrom entries agenda leaves budget reached
  pub due : TryIsDue (signature_of entries) reached

-- a search without an end: after any number of steps there is one more
pub record IsInfinite (entries : List Entry) (agenda : List Pending) : Type 0 where
  pub reached : ℕ → List Pending
  pub leaves : ℕ → List Node
  pub tries : ℕ → ℕ
  pub starts : reached zero ≡ agenda
  pub goes_on : (n : ℕ) → SearchStep (signature_of entries) (declared_constants entries) (reached n) (leaves n) (tries n) (reached (suc n))

-- a leaf is an answer where it has no equation
abbrev pub without_equations : Node → List Equation → List Node → List Node
without_equations l [] ls = l ∷ ls
without_equations l (e ∷ es) ls = ls

-- the leaves where nothing is postponed; each other leaf is left over
abbrev pub answer_leaves : List Node → List Node
answer_leaves [] = []
answer_leaves (l ∷ ls) = without_equations l l.store.equations (answer_leaves ls)
