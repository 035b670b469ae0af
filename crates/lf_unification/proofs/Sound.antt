-- What a leaf gives is an instance of each node above it.
use Rattle.std.proofs.Common.{◌≡◌, ℕ, ◌≤◌, List, [], ◌∷◌, Option, Some, None, ◌⊎◌, inl, inr, refl, sym, ap, ◌∙◌, subst, arith}
use Rattle.lf.specs.Syntax.{Head, Spine, Term, LfType, atom, nil, root, variable}
use Rattle.lf.specs.Typing.{TypeAt, HasType, Signature}
use Rattle.lf_unification.specs.Filling.{fill_type}
use Rattle.lf_unification.specs.OpenTyping.{Declares, IsInstance, MetavariablesInType, ValueHasType, skeletons_of}
use Rattle.lf_unification.specs.Offering.{AppliesToNew, applied_to_all, lambda_over, applied_to_next, pi_over, spine_equations}
use Rattle.lf_unification.specs.Skeletons.{skeleton_or_default}
use Rattle.lf.specs.Subordination.{Member}
use Rattle.lf_unification.specs.Search.{IsNode, Node, Offer, Pending, SearchRun, SearchStep, at_heads, at_node, begin_search, child, no_child, no_head, other_target, search_on, take_goal, take_leaf}
use Rattle.lf_unification.specs.Solving.{IsWellFormed}
use Rattle.lf_unification.specs.Unifiers.{KeepsUnifiers}
use Rattle.lf_unification.specs.Lists.{followed}
use Rattle.lf_unification.specs.Unifiers.{ExtendsFilling, Respects, Solution, SolvesAll, Store}
use Rattle.lf_unification.proofs.Agree.{fill_agree_type}
use Rattle.lf_unification.proofs.EquationLemmas.{solves_first, respects_agree, solves_agree}
use Rattle.lf_unification.proofs.Offer.{same_type, set_other, β₁}

abbrev pub only_if : Option LfType → Option Term → Option Term
only_if None y = None
only_if (Some A) y = y

-- the part of a filling that is declared
abbrev pub restrict : (ℕ → Option LfType) → (ℕ → Option Term) → ℕ → Option Term
restrict Ψ β m = only_if (Ψ m) (β m)

pub restrict_same : (Ψ : ℕ → Option LfType) (β : ℕ → Option Term) (m : ℕ) (A : LfType) → Ψ m ≡ Some A → β m ≡ restrict Ψ β m
restrict_same Ψ β m A e = ap (λ x. only_if x (β m)) (sym e)

pub restrict_instance : (Σ : Signature) (G F : List LfType) (Ψ Ψ' : ℕ → Option LfType) (β' : ℕ → Option Term) → ((m : ℕ) (A : LfType) → Ψ m ≡ Some A → Ψ' m ≡ Some A) → ((m : ℕ) (A : LfType) → Ψ m ≡ Some A → MetavariablesInType (Declares Ψ) A) → ((i : ℕ) (A : LfType) → TypeAt G i A → MetavariablesInType (Declares Ψ) A) → IsInstance Σ G Ψ' F β' → IsInstance Σ G Ψ F (restrict Ψ β')
restrict_instance Σ G F Ψ Ψ' β' grows types outer w = record {
  context = w.context;
  outer = λ i A g. subst (TypeAt F i) (same A (outer i A g)) (w.outer i A g);
  typed = λ m. go m (Ψ m) refl;
}
  where
    same : (A : LfType) → MetavariablesInType (Declares Ψ) A → fill_type (skeletons_of Ψ') β' A ≡ fill_type (skeletons_of Ψ) (restrict Ψ β') A
    same A i = fill_agree_type (Declares Ψ) (skeletons_of Ψ') (skeletons_of Ψ) (λ m d. ap skeleton_or_default (grows m d.0 d.1 ∙ sym d.1)) β' (restrict Ψ β') A (λ m d. restrict_same Ψ β' m d.0 d.1) i

    some : (A : LfType) (t : Option LfType) (y : Option Term) → t ≡ Some A → MetavariablesInType (Declares Ψ) A → ValueHasType Σ F (skeletons_of Ψ') β' t y → ValueHasType Σ F (skeletons_of Ψ) (restrict Ψ β') (Some A) y
    some A None y e i t = cc
    some A (Some B) None e i t = t
    some A (Some B) (Some N) e i t = let q : B ≡ A = cc in subst (HasType Σ F N) (ap (fill_type (skeletons_of Ψ') β') q ∙ same A i) t

    go : (m : ℕ) (x : Option LfType) → Ψ m ≡ x → ValueHasType Σ F (skeletons_of Ψ) (restrict Ψ β') x (only_if x (β' m))
    go m None e = tt
    go m (Some A) e = some A (Ψ' m) (β' m) (grows m A e) (types m A e) (w.typed m)

abbrev Grows : (ℕ → Option LfType) → (ℕ → Option LfType) → Type 0
Grows Ψ Ψ' = (m : ℕ) (A : LfType) → Ψ m ≡ Some A → Ψ' m ≡ Some A

offered_grows : {D : List LfType} {Ψ : ℕ → Option LfType} {n : ℕ} {A : LfType} {Ψ' : ℕ → Option LfType} {n' : ℕ} {S : Spine} {a : ℕ} {T : Spine} → AppliesToNew D Ψ n A Ψ' n' S a T → ((m : ℕ) → n ≤ m → Ψ m ≡ None) → Grows Ψ Ψ'
offered_grows applied_to_all f m A e = e
offered_grows {D = D} (applied_to_next {Ψ = Ψ} {n = n} {B = B} o) f m A e =
    let new : Ψ n ≡ None = f n (omega arith) in
    offered_grows o (λ k h. set_other n (Some (Rattle.lf_unification.specs.Offering.pi_over D B)) Ψ k (λ q. omega arith) ∙ f k (omega arith)) m A (sym (same_type Ψ n new (Rattle.lf_unification.specs.Offering.pi_over D B) (root (variable 0) nil) (λ k. None) m (A, e)) ∙ e)

module _ (Σ : Signature) (cs : List ℕ) where
  -- what a try offers is an instance of its node
  offer_sound : (node : Node) (g : ℕ) (D : List LfType) (a : ℕ) (T : Spine) (h : Head) (A : LfType) (s : Store) (n : ℕ) → IsNode Σ node → Offer Σ node g D a T h A s n → (F : List LfType) (β' : ℕ → Option Term) → Solution Σ [] s F β' → (β : ℕ → Option Term) × ExtendsFilling node.store.metavariables β β' × Solution Σ [] node.store F β
  offer_sound node g D a T h A s n nok o F β' u =
      let Ψ : ℕ → Option LfType = node.store.metavariables in
      let grows : Grows Ψ s.metavariables = offered_grows o.offered nok.scoped.fresh in
      let vals : (m : ℕ) → Declares Ψ m → β' m ≡ restrict Ψ β' m = λ m d. restrict_same Ψ β' m d.0 d.1 in
      let skels : (m : ℕ) → Declares Ψ m → skeletons_of s.metavariables m ≡ skeletons_of Ψ m = λ m d. ap skeleton_or_default (grows m d.0 d.1 ∙ sym d.1) in
      let r : Respects (skeletons_of s.metavariables) β' (record { of = g; value = lambda_over D (root h o.spine) } ∷ node.store.bindings) = subst (Respects (skeletons_of s.metavariables) β') o.bindings u.1.0 in
      let q : SolvesAll (skeletons_of s.metavariables) β' node.store.equations = solves_first (skeletons_of s.metavariables) β' node.store.equations (spine_equations D o.kind T o.indices) (subst (SolvesAll (skeletons_of s.metavariables) β') o.equations u.1.1) in (
        restrict Ψ β',
        λ m A e. restrict_same Ψ β' m A e,
        (
          restrict_instance Σ [] F Ψ s.metavariables β' grows nok.scoped.types (λ i A x. absurd x) u.0,
          (
            respects_agree (Declares Ψ) (skeletons_of s.metavariables) (skeletons_of Ψ) skels β' (restrict Ψ β') vals node.store.bindings nok.scoped.bindings r.1,
            solves_agree (Declares Ψ) (skeletons_of s.metavariables) (skeletons_of Ψ) skels β' (restrict Ψ β') vals node.store.equations nok.scoped.equations q,
          ),
        ),
      )

  -- a typed unifier of the root, from one of a node below it
  abbrev pub Above : Node → List LfType → (ℕ → Option Term) → Type 0
  Above top F β' = (β : ℕ → Option Term) × ExtendsFilling top.store.metavariables β β' × Solution Σ [] top.store F β

  -- the node stands below the root: it has its metavariables, and each of its typed unifiers is one of the root
  pub record From (top node : Node) : Type 0 where
    pub is_node : IsNode Σ node
    pub grows : (m : ℕ) (A : LfType) → top.store.metavariables m ≡ Some A → node.store.metavariables m ≡ Some A
    pub above : (F : List LfType) (β' : ℕ → Option Term) → Solution Σ [] node.store F β' → Above top F β'

  abbrev pub PendingFrom : Node → Pending → Type 0
  PendingFrom top (at_node node) = From top node
  PendingFrom top (at_heads node g gs D a T hs) = From top node × (node.store.metavariables g ≡ Some (pi_over D (atom a T)))

  abbrev pub AllFrom : Node → List Pending → Type 0
  AllFrom top [] = Unit {0}
  AllFrom top (p ∷ ps) = PendingFrom top p × AllFrom top ps

  pub from_itself : (top : Node) → IsNode Σ top → From top top
  from_itself top w = record { is_node = w; grows = λ m A e. e; above = λ F β' s. (β', λ m A x. refl, s) }

  from_child : (top node node' : Node) (g : ℕ) (D : List LfType) (a : ℕ) (T : Spine) (h : Head) (A : LfType) (s : Store) (n : ℕ) → From top node → Offer Σ node g D a T h A s n → KeepsUnifiers Σ [] s node'.store → IsNode Σ node' → From top node'
  from_child top node node' g D a T h A s n w o u ok' = record {
    is_node = ok';
    grows = λ m X e. u.grows m X (offered_grows o.offered w.is_node.scoped.fresh m X (w.grows m X e));
    above = λ F β' v.
        let (β₁, x₁, s₁) = u.sound F β' v in
        let (β₂, x₂, s₂) = offer_sound node g D a T h A s n w.is_node o F β₁ s₁ in
        let (β₃, x₃, s₃) = w.above F β₂ s₂ in
        (β₃, λ m X e. (let e₁ : node.store.metavariables m ≡ Some X = w.grows m X e in let e₂ : s.metavariables m ≡ Some X = offered_grows o.offered w.is_node.scoped.fresh m X e₁ in x₁ m X e₂ ∙ x₂ m X e₁ ∙ x₃ m X e), s₃);
  }

  -- each node that a step puts on the agenda, and each leaf that it gives, stands below the root
  pub step_from : {agenda agenda' : List Pending} {ls : List Node} {k : ℕ} → SearchStep Σ cs agenda ls k agenda' → (top : Node) → AllFrom top agenda → ((l : Node) → Member l ls → From top l) × AllFrom top agenda'
  step_from (take_leaf {node = node} e) top (w, ws) = ((λ l i. is_it l i), ws)
    where
      is_it : (l : Node) → Member l (node ∷ []) → From top l
      is_it l (inl q) = subst (From top) (sym q) w
      is_it l (inr i) = absurd i
  step_from (take_goal e f) top (w, ws) = ((λ l i. absurd i), ((w, f), ws))
  step_from no_head top (w, ws) = ((λ l i. absurd i), ws)
  step_from (other_target f) top (w, ws) = ((λ l i. absurd i), (w, ws))
  step_from (no_child o d) top (w, ws) = ((λ l i. absurd i), (w, ws))
  step_from (child {node = node} {g = g} {D = D} {a = a} {T = T} {h = h} {A = A} {s = s} {n = n} {node' = node'} o u ok' gs) top (w, ws) = ((λ l i. absurd i), (from_child top node node' g D a T h A s n w.0 o u.keeps ok', (w, ws)))

  among_split : (x : Node) (xs ys : List Node) → Member x (followed xs ys) → Member x xs ⊎ Member x ys
  among_split x [] ys i = inr i
  among_split x (z ∷ xs) ys (inl e) = inl (inl e)
  among_split x (z ∷ xs) ys (inr i) = go (among_split x xs ys i)
    where
      go : Member x xs ⊎ Member x ys → Member x (z ∷ xs) ⊎ Member x ys
      go (inl j) = inl (inr j)
      go (inr j) = inr j

  -- THE theorem: what unifies a leaf of a run unifies its root, typed
  pub run_from : {agenda agenda' : List Pending} {ls : List Node} {k : ℕ} → SearchRun Σ cs agenda ls k agenda' → (top : Node) → AllFrom top agenda → ((l : Node) → Member l ls → From top l) × AllFrom top agenda'
  run_from begin_search top w = ((λ l i. absurd i), w)
  run_from (search_on {leaves = ls} {leaves' = ls'} p r) top w =
      let a = step_from p top w in
      let b = run_from r top a.1 in
      ((λ l i. go l (among_split l ls ls' i) a.0 b.0), b.1)
    where
      go : (l : Node) → Member l ls ⊎ Member l ls' → ((l : Node) → Member l ls → From top l) → ((l : Node) → Member l ls' → From top l) → From top l
      go l (inl j) f g = f l j
      go l (inr j) f g = g l j

  pub leaves_sound : {node : Node} {ls : List Node} {k : ℕ} {agenda : List Pending} → SearchRun Σ cs (at_node node ∷ []) ls k agenda → IsNode Σ node → (l : Node) → Member l ls → (F : List LfType) (β' : ℕ → Option Term) → Solution Σ [] l.store F β' → Above node F β'
  leaves_sound {node = node} r w l i = ((run_from r node (from_itself node w, tt)).0 l i).above

  -- the stores of all that is pending are well formed
  abbrev pub WellFormedAt : Pending → Type 0
  WellFormedAt (at_node node) = IsWellFormed Σ node.store
  WellFormedAt (at_heads node g gs D a T hs) = IsWellFormed Σ node.store

  abbrev pub AllWellFormed : List Pending → Type 0
  AllWellFormed [] = Unit {0}
  AllWellFormed (p ∷ ps) = WellFormedAt p × AllWellFormed ps

  step_form : {agenda agenda' : List Pending} {ls : List Node} {k : ℕ} → SearchStep Σ cs agenda ls k agenda' → AllWellFormed agenda → ((l : Node) → Member l ls → IsWellFormed Σ l.store) × AllWellFormed agenda'
  step_form (take_leaf {node = node} e) (w, ws) = ((λ l i. is_it l i), ws)
    where
      is_it : (l : Node) → Member l (node ∷ []) → IsWellFormed Σ l.store
      is_it l (inl q) = subst (λ x. IsWellFormed Σ x.store) (sym q) w
      is_it l (inr i) = absurd i
  step_form (take_goal e f) (w, ws) = ((λ l i. absurd i), (w, ws))
  step_form no_head (w, ws) = ((λ l i. absurd i), ws)
  step_form (other_target f) (w, ws) = ((λ l i. absurd i), (w, ws))
  step_form (no_child o d) (w, ws) = ((λ l i. absurd i), (w, ws))
  step_form (child o u ok' gs) (w, ws) = ((λ l i. absurd i), (u.well_formed, (w, ws)))

  -- THE theorem on the stores of leaves
  pub leaves_form : {agenda agenda' : List Pending} {ls : List Node} {k : ℕ} → SearchRun Σ cs agenda ls k agenda' → AllWellFormed agenda → ((l : Node) → Member l ls → IsWellFormed Σ l.store) × AllWellFormed agenda'
  leaves_form begin_search w = ((λ l i. absurd i), w)
  leaves_form (search_on {leaves = ls} {leaves' = ls'} p r) w =
      let a = step_form p w in
      let b = leaves_form r a.1 in
      ((λ l i. go l (among_split l ls ls' i) a.0 b.0), b.1)
    where
      go : (l : Node) → Member l ls ⊎ Member l ls' → ((l : Node) → Member l ls → IsWellFormed Σ l.store) → ((l : Node) → Member l ls' → IsWellFormed Σ l.store) → IsWellFormed Σ l.store
      go l (inl j) f g = f l j
      go l (inr j) f g = g l j
