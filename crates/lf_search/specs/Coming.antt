-- What a search comes to next: its next leaf, its end, the end of a budget, or something deep.
use Rattle.std.specs.Prelude.{◌≡◌, ℕ, suc, ◌+◌, ◌≤◌, List, [], ◌∷◌, length, Some}
use Rattle.lf.specs.Entries.{Entry, signature_of}
use Rattle.lf.specs.Subordination.{Member}
use Rattle.lf.specs.Syntax.{Head, LfType, Spine, Term}
use Rattle.lf.specs.Typing.{Signature}
use Rattle.lf_unification.specs.DeepEquations.{AreDeep, IsDeepTerm, IsDeepType}
use Rattle.lf_unification.specs.Putting.{Unbound}
use Rattle.lf_unification.specs.Reach.{IsReached}
use Rattle.lf_unification.specs.Search.{Node, Offer, Pending, SearchesFrom, TryIsDue, at_heads, at_node}
use Rattle.lf_unification.specs.Unifiers.{Binding, Equation, Store}
use Rattle.lf_search.specs.Answers.{IsReadOffLeaf}

-- What one call of a search shows. A leaf that is left over is shown by its node and its first equation.
pub data Seen : Type 0 where
  answer : List LfType → List Term → Term → Seen
  left_over : Node → Equation → Seen
  exhausted : Seen
  out_of_budget : Seen
  too_deep : Seen

-- The answer of a leaf is deep, over the context G: the value of a variable of the query or the proof, or the type of a metavariable that
-- stays free in one of them.
pub data AnswerIsDeep (limit : ℕ) (G : List LfType) (s : Store) : Type 0 where
  deep_value : (b : Binding) → Member b s.bindings → b.of ≤ length G → IsDeepTerm s limit 0 b.value → AnswerIsDeep limit G s
  deep_free : (b : Binding) (m : ℕ) (A : LfType) → Member b s.bindings → b.of ≤ length G → IsReached s.metavariables s.bindings b.value m → Unbound s.bindings m →
      s.metavariables m ≡ Some A → IsDeepType s limit 0 A → AnswerIsDeep limit G s
  deep_own : (m : ℕ) (A : LfType) → m ≤ length G → Unbound s.bindings m → s.metavariables m ≡ Some A → IsDeepType s limit 0 A → AnswerIsDeep limit G s

-- Where so many tries are left, the first of the agenda is deep: the equations of a node with those of the next head, which costs a try; or an
-- answer.
pub data IsDeepNext (limit : ℕ) (Σ : Signature) (G : List LfType) : ℕ → List Pending → Type 0 where
  deep_offer : {left : ℕ} {node : Node} {rest : List Pending} {g : ℕ} {gs : List ℕ} {D : List LfType} {a : ℕ} {T : Spine} {h : Head} {hs : List Head} {A : LfType} {s : Store} {n : ℕ} →
      Offer Σ node g D a T h A s n → AreDeep limit Σ s → IsDeepNext limit Σ G (suc left) (at_heads node g gs D a T (h ∷ hs) ∷ rest)
  deep_answer : {left : ℕ} {l : Node} {rest : List Pending} →
      l.goals ≡ [] → l.store.equations ≡ [] → AnswerIsDeep limit G l.store → IsDeepNext limit Σ G left (at_node l ∷ rest)

-- A search over the context G comes, from an agenda and with a budget, to what is seen: with so many tries, and with the agenda then. Before it
-- comes no leaf. A budget is at its end exactly where its tries were made and one more is due.
pub data Comes (entries : List Entry) (limit : ℕ) (G : List LfType) (agenda : List Pending) (budget : ℕ) : Seen → ℕ → List Pending → Type 0 where
  to_answer : {l : Node} {rest : List Pending} {F : List LfType} {Ms : List Term} {proof : Term} {tries : ℕ} →
      SearchesFrom entries agenda [] tries (at_node l ∷ rest) → tries ≤ budget → l.goals ≡ [] → l.store.equations ≡ [] → IsReadOffLeaf (signature_of entries) G l F Ms proof →
      Comes entries limit G agenda budget (answer F Ms proof) tries rest
  to_left_over : {l : Node} {rest : List Pending} {e : Equation} {es : List Equation} {tries : ℕ} →
      SearchesFrom entries agenda [] tries (at_node l ∷ rest) → tries ≤ budget → l.goals ≡ [] → l.store.equations ≡ e ∷ es →
      Comes entries limit G agenda budget (left_over l e) tries rest
  to_end : {tries : ℕ} → SearchesFrom entries agenda [] tries [] → tries ≤ budget → Comes entries limit G agenda budget exhausted tries []
  to_budget : {reached : List Pending} → SearchesFrom entries agenda [] budget reached → TryIsDue (signature_of entries) reached →
      Comes entries limit G agenda budget out_of_budget budget reached
  to_deep : {reached : List Pending} {tries left : ℕ} → SearchesFrom entries agenda [] tries reached → tries + left ≡ budget → IsDeepNext limit (signature_of entries) G left reached →
      Comes entries limit G agenda budget too_deep tries reached
