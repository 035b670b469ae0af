-- The parts of a search, as the theory has them.
use Rattle.std.proofs.Common.{◌≡◌, ℕ, zero, suc, ◌<◌, ◌≤◌, List, [], ◌∷◌, length, map, reverse, Option, Some, None, ◌⊎◌, inl, inr, refl, sym, ap, ap₂, ◌∙◌, subst, arith, is_some}
use Rattle.std.specs.List.{slice_get}
use Rattle.std.specs.Option.{option_map}
use Rattle.lf.specs.Syntax.{Head, LfType, Term, root}
use Rattle.lf.specs.Typing.{IsContext, IsSignature, IsType, Signature}
use Rattle.lf_search.specs.Answers.{IsReadOffLeaf}
use Rattle.lf_search.specs.Goals.{metavariables_of, root_of}
use Rattle.lf_search.proofs.ChildNode.{applied_adds, child_node as is_child_node}
use Rattle.lf_search.proofs.QueryForm as query
use Rattle.lf_unification.specs.Lists.{followed}
use Rattle.lf_unification.specs.Offering.{lambda_over}
use Rattle.lf_unification.specs.OpenTyping.{Declares}
use Rattle.lf_unification.specs.Search.{IsNode, Node, Offer, Pending, SearchStep, at_node, child, no_child}
use Rattle.lf_unification.specs.Reach.{SpineMentions}
use Rattle.lf_unification.specs.Solving.{IsWellFormed}
use Rattle.lf_unification.specs.Unifiers.{Binding, Equation, Store}
use Rattle.tw_metas.specs.State.{Declaration, State}
use Rattle.tw_putting.specs.Ready.{IsReady, TypesBySkeletons}
use Rattle.tw_putting.specs.Stores.{bindings_from, bindings_of, types_of}
use Rattle.tw_putting.specs.Whole.{whole}
use Rattle.tw_putting.proofs.Changes.{past_end}
use Rattle.tw_terms.specs.declared.canonical.MetaId.{MetaId}
use Rattle.tw_search.specs.Answers.{IsIfRead}
use Rattle.tw_search.specs.Goals.{IsDeclared, StandsAtGoal, at_goal, child_node, goal_type, indices_of, node_of}
use Rattle.tw_search.specs.Leaves.{AllFromQuery, IsFromQuery, IsLeaf, IsReadOff, sites_of}
use Rattle.tw_search.specs.Roots.{IsRoot}
use Rattle.tw_search.specs.Tries.{GivesChild, NeverFits}
use Rattle.tw_search.specs.declared.goal.OpenGoal.{OpenGoal}
use Rattle.tw_search.proofs.FromQuery.{AllCome, ComesFrom, comes_by_value, comes_more, mentions_over, mentions_root, new_in_spine, run_comes}
use Rattle.tw_search.proofs.LeafReading.{is_read_off, proof_there}

-- the root
module _ (Σ : Signature) (ok : IsSignature Σ) (G : List LfType) (A : LfType) (g : IsContext Σ G) (t : IsType Σ G A) (s : State) (r : IsRoot G A s) where
  bindings : bindings_of s ≡ []
  bindings = ap (λ ms. bindings_from ms s.values) r.bound

  store : whole [] s ≡ (root_of G A).store
  store = ap₂ (λ (Ψ : ℕ → Option LfType) (bs : List Binding). let x : Store = record { metavariables = Ψ; bindings = bs; equations = s.equations } in x) r.types bindings
      ∙ ap (λ (es : List Equation). let x : Store = record { metavariables = metavariables_of (A ∷ G); bindings = []; equations = es } in x) r.equations

  count : length s.declared ≡ suc (length G)
  count = let e : length (A ∷ G) ≡ suc (length G) = omega arith in r.count ∙ e

  pub root_node : node_of s (length G ∷ []) ≡ root_of G A
  root_node = ap₂ (λ (x : Store) (n : ℕ). let y : Node = record { store = x; next = n; goals = length G ∷ [] } in y) store count

  pub root_ready : IsReady Σ [] s
  root_ready = record {
    consistent = r.consistent;
    well_formed = subst (IsWellFormed Σ) (sym store) (query.root_form Σ ok G A g t);
    types = subst (TypesBySkeletons Σ (types_of s)) (sym r.equations) tt;
  }

  pub root_from_query : (m : ℕ) → IsDeclared s m → IsFromQuery s (length G) m
  root_from_query m (X, e) = inl (let h : m < length s.declared = below s.declared m X e in let c = count in omega (arith, h, c))
    where
      below : (ds : List Declaration) (k : ℕ) (Y : LfType) → option_map (λ (d : Declaration). d.of_type) (slice_get ds k) ≡ Some Y → k < length ds
      below [] k Y q = absurd cc
      below (d ∷ ds) zero Y q = omega arith
      below (d ∷ ds) (suc k) Y q = let h = below ds k Y q in omega (arith, h)

-- a try
module _ (Σ : Signature) (s : State) (g : OpenGoal) (h : Head) where
  -- an offer asks nothing of the other goals
  with_goals : (gs : List ℕ) (A : LfType) (x : Store) (n : ℕ) → Offer Σ (node_of s []) g.hole.0 g.locals g.family.0 (indices_of s g.hole.0) h A x n → Offer Σ (node_of s gs) g.hole.0 g.locals g.family.0 (indices_of s g.hole.0) h A x n
  with_goals gs A x n o = record { typed = o.typed; kind = o.kind; kind_of = o.kind_of; spine = o.spine; indices = o.indices; offered = o.offered; bindings = o.bindings; equations = o.equations }

  pub no_child_step : (constants : List ℕ) (gs : List ℕ) (hs : List Head) (rest : List Pending) → NeverFits Σ s g h → SearchStep Σ constants (at_goal s g gs (h ∷ hs) rest) [] 1 (at_goal s g gs hs rest)
  no_child_step constants gs hs rest n = no_child (with_goals (g.hole.0 ∷ gs) n.has.head_type n.has.offered n.has.next n.has.offer) n.never

  module _ (ok : IsSignature Σ) (w : StandsAtGoal Σ s g) (gs : List ℕ) (subgoals : List MetaId) (new : State) (c : GivesChild Σ s g h subgoals new) where
    fresh : (m : ℕ) → length new.declared ≤ m → types_of new m ≡ None
    fresh m l = ap (option_map (λ (d : Declaration). d.of_type)) (past_end new.declared m l)

    pub child_is_node : IsNode Σ (child_node new subgoals gs)
    child_is_node = is_child_node Σ ok (node_of s []) g.hole.0 g.locals g.family.0 (indices_of s g.hole.0) h c.has.head_type c.has.offered c.has.next w.node w.declared c.has.offer (whole [] new) (length new.declared) (followed (reverse (map (λ (m : MetaId). m.0) subgoals)) gs) c.child fresh

    pub child_step : (constants : List ℕ) (hs : List Head) (rest : List Pending) → SearchStep Σ constants (at_goal s g gs (h ∷ hs) rest) [] 1 (at_node (child_node new subgoals gs) ∷ at_goal s g gs hs rest)
    child_step constants hs rest = child (with_goals (g.hole.0 ∷ gs) c.has.head_type c.has.offered c.has.next c.has.offer) c.child child_is_node (ap (λ l. followed l gs) c.subgoals_are)

  -- what comes from the query
  module _ (n : ℕ) (w : StandsAtGoal Σ s g) (subgoals : List MetaId) (new : State) (c : GivesChild Σ s g h subgoals new) (all : (m : ℕ) → IsDeclared s m → IsFromQuery s n m) where
    offered_comes : AllCome c.has.offered.metavariables c.has.offered.bindings n
    offered_comes m d = subst (λ bs. ComesFrom c.has.offered.metavariables bs n m) (sym c.has.offer.bindings) (go (new_in_spine c.has.offer.offered m d))
      where
        more : (k : ℕ) → IsDeclared s k → ComesFrom c.has.offered.metavariables (record { of = g.hole.0; value = lambda_over g.locals (root h c.has.offer.spine) } ∷ bindings_of s) n k
        more k e = comes_more (types_of s) c.has.offered.metavariables (bindings_of s) (record { of = g.hole.0; value = lambda_over g.locals (root h c.has.offer.spine) } ∷ bindings_of s) (applied_adds c.has.offer.offered w.node.scoped.fresh).grows (λ b i. inr i) n k (all k e)

        go : Declares (types_of s) m ⊎ SpineMentions m c.has.offer.spine → ComesFrom c.has.offered.metavariables (record { of = g.hole.0; value = lambda_over g.locals (root h c.has.offer.spine) } ∷ bindings_of s) n m
        go (inl e) = more m e
        go (inr i) = comes_by_value c.has.offered.metavariables (record { of = g.hole.0; value = lambda_over g.locals (root h c.has.offer.spine) } ∷ bindings_of s) n m (record { of = g.hole.0; value = lambda_over g.locals (root h c.has.offer.spine) }) (inl refl)
            (more g.hole.0 (goal_type s g, w.declared)) (mentions_over g.locals m (root h c.has.offer.spine) (mentions_root Σ g.locals h c.has.head_type c.has.offer.spine m c.has.offer.typed i))

    pub child_comes : (m : ℕ) → IsDeclared new m → IsFromQuery new n m
    child_comes = run_comes Σ n c.child.run offered_comes

-- the root that is declared is the root of the theory, ready to be searched, and all its metavariables are the query's
pub root_law : (Σ : Signature) → IsSignature Σ → (G : List LfType) (A : LfType) → IsContext Σ G → IsType Σ G A → (s : State) → IsRoot G A s → (node_of s (length G ∷ []) ≡ root_of G A) × IsReady Σ [] s × AllFromQuery s (length G)
root_law Σ ok G A g t s r = (root_node Σ ok G A g t s r, root_ready Σ ok G A g t s r, root_from_query Σ ok G A g t s r)

-- a try is a step of the search, which costs one try: it gives no child, or the child first and then the other heads
pub try_law : (Σ : Signature) → IsSignature Σ → (constants : List ℕ) (s : State) (g : OpenGoal) (h : Head) (gs : List ℕ) (hs : List Head) (rest : List Pending) → StandsAtGoal Σ s g →
    (NeverFits Σ s g h → SearchStep Σ constants (at_goal s g gs (h ∷ hs) rest) [] 1 (at_goal s g gs hs rest))
    × ((subgoals : List MetaId) (new : State) → GivesChild Σ s g h subgoals new → IsNode Σ (child_node new subgoals gs) × SearchStep Σ constants (at_goal s g gs (h ∷ hs) rest) [] 1 (at_node (child_node new subgoals gs) ∷ at_goal s g gs hs rest))
try_law Σ ok constants s g h gs hs rest w = (no_child_step Σ s g h constants gs hs rest, λ subgoals new c. (child_is_node Σ s g h ok w gs subgoals new c, child_step Σ s g h ok w gs subgoals new c constants hs rest))

-- where all metavariables of a goal's state come from the query, so do those of a child
pub child_law : (Σ : Signature) (s : State) (g : OpenGoal) (h : Head) (subgoals : List MetaId) (new : State) (n : ℕ) → StandsAtGoal Σ s g → GivesChild Σ s g h subgoals new → AllFromQuery s n → AllFromQuery new n
child_law Σ s g h subgoals new n w c all = child_comes Σ s g h n w subgoals new c all

-- what is read off a leaf is what the theory reads off it
pub leaf_law : (s : State) (G : List LfType) (l : IsLeaf s (length G)) (gs : List ℕ) (F : List LfType) (Ms : List Term) (o : Option Term) → IsReadOff s (length G) F Ms o → (proof : Term) × IsIfRead o proof × IsReadOffLeaf l.signature G (node_of s gs) F Ms proof
leaf_law s G l gs F Ms o r =
    let (proof, is, there) = proof_there s (length G) l (sites_of (length G) (is_some o)) r.quantifiers F r.are_quantifiers o r.proof_read in
    (proof, is, is_read_off s (length G) l (sites_of (length G) (is_some o)) r.quantifiers F r.are_quantifiers G gs Ms proof refl r.count r.values_read there)
