-- The laws of a search that the functions of this crate carry.
use Rattle.std.specs.Prelude.{◌≡◌, ℕ, ◌+◌, ◌≤◌, List, [], ◌∷◌, None, Some, ◌⊎◌}
use Rattle.lf.specs.Entries.{Entry, IsCanonicalSignature, quantifiers, signature_of}
use Rattle.lf.specs.Subordination.{Member}
use Rattle.lf.specs.Syntax.{Head, LfType, Spine, Term, atom, skeleton}
use Rattle.lf.specs.Typing.{IsContext, IsSignature, IsType, Signature}
use Rattle.lf.specs.Variables.{target_arguments}
use Rattle.lf_unification.specs.Lists.{followed}
use Rattle.lf_unification.specs.Offering.{pi_over}
use Rattle.lf_unification.specs.Patterns.{skeleton_target}
use Rattle.lf_unification.specs.Query.{Query, Searches}
use Rattle.lf_unification.specs.Search.{IsChild, IsNode, Node, Offer, OfferedHeadHasType, Pending, SearchRun, SearchStep, SearchesFrom, at_heads, at_node, holes}
use Rattle.lf_unification.specs.Solving.{IsWellFormed, Never}
use Rattle.lf_unification.specs.Unifiers.{Equation, Store}
use Rattle.lf_search.specs.Answers.{IsAnswerOf, IsInstanceOfAnswer, IsReadOffLeaf}
use Rattle.lf_search.specs.Bounded.{AsManyAs, Bound, FewerThan, QueryEnd, QueryRuns, RunsDeep, RunsOut, Stand, StandsAt, answers_among, at_budget, end_by, stand_of}
use Rattle.lf_search.specs.Calls.{AfterAnswer, AfterLeftOver}
use Rattle.lf_search.specs.Coming.{Comes, Seen, answer, exhausted, left_over, out_of_budget, too_deep}
use Rattle.lf_search.specs.Goals.{IsQueryOf, root_of}
use Rattle.lf_search.specs.Heads.{AreOffered, Clash}
use Rattle.lf_search.specs.Holes.{HolesAreOpen}
use Rattle.lf_unification.specs.ReachedRuns.{RunRenewsReached}

-- The query.

-- a typed goal has a query, whose root is a node with a well-formed store
abbrev pub QueryIsWellFormed : Type 0
QueryIsWellFormed = (Σ : Signature) → IsSignature Σ → (G : List LfType) (A : LfType) → IsContext Σ G → IsType Σ G A → (q : Query) × IsQueryOf G A q × IsNode Σ (root_of G A) × IsWellFormed Σ (root_of G A).store

-- Tries.

-- a head of the goal's target has an offer
abbrev pub OfferIsThere : Type 0
OfferIsThere = (Σ : Signature) (node : Node) (g : ℕ) (D : List LfType) (a : ℕ) (T : Spine) (h : Head) (A : LfType) → IsNode Σ node → node.store.metavariables g ≡ Some (pi_over D (atom a T)) →
    OfferedHeadHasType Σ D h A → skeleton_target (skeleton A) ≡ a → (s : Store) × (n : ℕ) × Offer Σ node g D a T h A s n

-- where the heads of the goal's arguments and of the clause's clash, what is offered has no typed unifier
abbrev pub ClashIsNever : Type 0
ClashIsNever = (Σ : Signature) (node : Node) (g : ℕ) (D : List LfType) (a : ℕ) (T : Spine) (h : Head) (A : LfType) (s : Store) (n : ℕ) → IsNode Σ node → node.store.metavariables g ≡ Some (pi_over D (atom a T)) →
    Offer Σ node g D a T h A s n → Clash node.store.bindings (quantifiers A) T (target_arguments A) → Never Σ [] s

-- Heads of other targets are passed over without a try: up to the first head that is offered, or to the goal's end where none is.
abbrev pub HeadsAreSkipped : Type 0
HeadsAreSkipped = (Σ : Signature) (constants : List ℕ) (node : Node) (g : ℕ) (gs : List ℕ) (D : List LfType) (a : ℕ) (T : Spine) (rest : List Pending) (hs : List Head) →
    (AreOffered Σ D a hs [] → SearchRun Σ constants (at_heads node g gs D a T hs ∷ rest) [] 0 rest)
    × ((k : Head) (ks : List Head) → AreOffered Σ D a hs (k ∷ ks) →
    (later : List Head) × SearchRun Σ constants (at_heads node g gs D a T hs ∷ rest) [] 0 (at_heads node g gs D a T (k ∷ later) ∷ rest) × AreOffered Σ D a later ks)

-- a child of a node is a node, with any free numbers behind those that it declares
abbrev pub ChildIsNode : Type 0
ChildIsNode = (Σ : Signature) → IsSignature Σ → (node : Node) (g : ℕ) (D : List LfType) (a : ℕ) (T : Spine) (h : Head) (A : LfType) (s : Store) (n : ℕ) → IsNode Σ node → node.store.metavariables g ≡ Some (pi_over D (atom a T)) → Offer Σ node g D a T h A s n →
    (s' : Store) (next : ℕ) (goals : List ℕ) → IsChild Σ s s' → ((m : ℕ) → next ≤ m → s'.metavariables m ≡ None) → IsNode Σ (record { store = s'; next = next; goals = goals })

-- The hole of a goal is open at the root of its search. A child's holes are open where its node's are, as long as its steps renew only what is
-- reached from an equation: so a hole is never bound but by a head that is offered to it.
abbrev pub HolesStayOpen : Type 0
HolesStayOpen = (Σ : Signature) → IsSignature Σ → ((G : List LfType) (A : LfType) → IsContext Σ G → IsType Σ G A → HolesAreOpen (root_of G A))
    × ((node : Node) (g : ℕ) (gs : List ℕ) (D : List LfType) (a : ℕ) (T : Spine) (h : Head) (A : LfType) (s : Store) (n : ℕ) → IsNode Σ node → node.goals ≡ g ∷ gs → node.store.metavariables g ≡ Some (pi_over D (atom a T)) → HolesAreOpen node → Offer Σ node g D a T h A s n →
    (s' : Store) (u : IsChild Σ s s') → RunRenewsReached u.run → (next : ℕ) → HolesAreOpen (record { store = s'; next = next; goals = followed (holes node.next A) gs }))

-- Answers.

-- what is read off a leaf without equations, in any order that dependency allows, is an answer of the goal; and something can be read off
abbrev pub AnswerOfLeaf : Type 0
AnswerOfLeaf = (entries : List Entry) → IsCanonicalSignature entries → (G : List LfType) (A : LfType) → IsContext (signature_of entries) G → IsType (signature_of entries) G A → (leaves : List Node) (tries : ℕ) (agenda : List Pending) → SearchesFrom entries (at_node (root_of G A) ∷ []) leaves tries agenda →
    (l : Node) → Member l leaves → l.store.equations ≡ [] →
    ((F : List LfType) (Ms : List Term) (proof : Term) → IsReadOffLeaf (signature_of entries) G l F Ms proof → IsAnswerOf (signature_of entries) G A F Ms proof)
    × ((F : List LfType) × (Ms : List Term) × (proof : Term) × IsReadOffLeaf (signature_of entries) G l F Ms proof)

-- where a search ended and each leaf is without equations, each closed answer is an instance of what is read off one of them
abbrev pub ClosedIsFound : Type 0
ClosedIsFound = (entries : List Entry) → IsCanonicalSignature entries → (G : List LfType) (A : LfType) → IsContext (signature_of entries) G → IsType (signature_of entries) G A → (leaves : List Node) (tries : ℕ) → SearchesFrom entries (at_node (root_of G A) ∷ []) leaves tries [] →
    ((l : Node) → Member l leaves → l.store.equations ≡ []) → (Ns : List Term) (closed : Term) → IsAnswerOf (signature_of entries) G A [] Ns closed →
    (l : Node) × Member l leaves × ((F : List LfType) (Ms : List Term) (proof : Term) → IsReadOffLeaf (signature_of entries) G l F Ms proof → IsInstanceOfAnswer (signature_of entries) F Ms proof Ns closed)

-- Bounds.

-- runs go on where others stopped
abbrev pub SearchesCompose : Type 0
SearchesCompose = (Σ : Signature) (constants : List ℕ) (agenda agenda' agenda'' : List Pending) (leaves leaves' : List Node) (tries tries' : ℕ) → SearchRun Σ constants agenda leaves tries agenda' → SearchRun Σ constants agenda' leaves' tries' agenda'' → SearchRun Σ constants agenda (followed leaves leaves') (tries + tries') agenda''

-- One run of a search has one end: where it stands at one and, further on, at another one, these are the same. And a step from within the
-- bounds stays within them, or the budget is at its end.
abbrev pub EndsAreDetermined : Type 0
EndsAreDetermined = (Σ : Signature) (constants : List ℕ) (budget : ℕ) (bound : Bound) (leaves leaves' : List Node) (tries tries' : ℕ) (agenda agenda' : List Pending) →
    ((x y : Stand) → SearchRun Σ constants agenda leaves' tries' agenda' → StandsAt Σ budget bound leaves tries agenda x → StandsAt Σ budget bound (followed leaves leaves') (tries + tries') agenda' y → x ≡ y)
    × (tries ≤ budget → FewerThan bound (answers_among leaves) → SearchStep Σ constants agenda leaves' tries' agenda' →
    StandsAt Σ budget bound leaves tries agenda at_budget ⊎ ((tries + tries' ≤ budget) × (FewerThan bound (answers_among (followed leaves leaves')) ⊎ AsManyAs bound (answers_among (followed leaves leaves')))))

-- a query that runs within its budget, or runs out, stands at its end
abbrev pub QueryStandsAtEnd : Type 0
QueryStandsAtEnd = (entries : List Entry) (q : Query) (budget : ℕ) (bound : Bound) (leaves : List Node) →
    ((end : QueryEnd) (tries : ℕ) → QueryRuns entries q budget bound leaves end tries → (agenda : List Pending) × Searches entries q leaves tries agenda × StandsAt (signature_of entries) budget bound leaves tries agenda (stand_of end))
    × (RunsOut entries q budget bound leaves → (agenda : List Pending) × Searches entries q leaves budget agenda × StandsAt (signature_of entries) budget bound leaves budget agenda at_budget)

-- a call whose budget ran out and the next one come to what one call with both budgets does
abbrev pub BudgetsAdd : Type 0
BudgetsAdd = (entries : List Entry) (limit : ℕ) (G : List LfType) (budget more : ℕ) (agenda reached after : List Pending) (seen : Seen) (tries : ℕ) → Comes entries limit G agenda budget out_of_budget budget reached → Comes entries limit G reached more seen tries after → Comes entries limit G agenda (budget + more) seen (budget + tries) after

-- Calls one after another give the run of a query. After some leaves and tries, with fewer answers than are asked for, a call with what is left of
-- the budget adds a leaf, or ends the run: at its end, out of budget, or at something deep.
abbrev pub CallsGiveRun : Type 0
CallsGiveRun = (entries : List Entry) (limit : ℕ) (G : List LfType) (q : Query) (budget : ℕ) (leaves : List Node) (tries left : ℕ) (agenda : List Pending) → Searches entries q leaves tries agenda → tries + left ≡ budget →
    ((F : List LfType) (Ms : List Term) (proof : Term) (more : ℕ) (after : List Pending) → Comes entries limit G agenda left (answer F Ms proof) more after → AfterAnswer entries G q budget leaves tries F Ms proof more after)
    × ((l : Node) (e : Equation) (more : ℕ) (after : List Pending) → Comes entries limit G agenda left (left_over l e) more after → AfterLeftOver entries q budget leaves tries l e more after)
    × ((bound : Bound) → FewerThan bound (answers_among leaves) → (more : ℕ) (after : List Pending) → (Comes entries limit G agenda left exhausted more after → QueryRuns entries q budget bound leaves (end_by leaves) (tries + more))
    × (Comes entries limit G agenda left out_of_budget more after → RunsOut entries q budget bound leaves)
    × (Comes entries limit G agenda left too_deep more after → RunsDeep entries limit G q budget bound leaves))
