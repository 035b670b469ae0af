-- The theorems on a query.
use Rattle.std.proofs.Common.{◌≡◌, ℕ, List, [], ◌∷◌, Option, Some}
use Rattle.lf.specs.Subordination.{Member}
use Rattle.lf.specs.Syntax.{Term, LfType}
use Rattle.lf.specs.Typing.{IsSignature, Signature}
use Rattle.lf_unification.specs.Query.{IsAnswer, OfLeaf, Query, start}
use Rattle.lf_unification.specs.Search.{IsNode, Node, Pending, SearchRun, at_node}
use Rattle.lf_unification.specs.Unifiers.{ExtendsFilling, Solution}
use Rattle.lf_unification.proofs.Exhaust.{Found, exhausted}
use Rattle.lf_unification.proofs.Sound.{leaves_sound}
use Rattle.lf_unification.proofs.StepLemmas.{value_of}

module _ (Σ : Signature) (ok : IsSignature Σ) (cs : List ℕ) (q : Query) (q_ok : IsNode Σ (start q)) where
  -- each instance of a leaf, in any context, that solves what is postponed there is an answer
  pub leaf_answers : {ls : List Node} {k : ℕ} {agenda : List Pending} → SearchRun Σ cs (at_node (start q) ∷ []) ls k agenda → (l : Node) → Member l ls → (F : List LfType) (β' : ℕ → Option Term) → Solution Σ [] l.store F β' → (values : ℕ → Option Term) × (proof : Term) × ExtendsFilling q.metavariables values β' × IsAnswer Σ q F values proof
  leaf_answers r l i F β' s =
      let (β, x, t) = leaves_sound Σ cs r q_ok l i F β' s in
      let (M, e, m) = value_of Σ [] q.metavariables F β t.0 q.hole q.goal q.hole_of in
      (β, M, x, record { context = t.0.context; typed = t.0; is_proof = e; proves = m })

  -- each closed answer is an instance of a leaf
  pub nothing_missed : ((c : ℕ) (A : LfType) → Σ.types c ≡ Some A → Member c cs) → {ls : List Node} {k : ℕ} → SearchRun Σ cs (at_node (start q) ∷ []) ls k [] → (values : ℕ → Option Term) (proof : Term) → IsAnswer Σ q [] values proof → (l : Node) × Member l ls × OfLeaf Σ q l [] values
  nothing_missed all {ls = ls} r values proof a =
      let f : Found Σ ok cs all (start q) values ls = exhausted Σ ok cs all r q_ok values (a.typed, (tt, tt)) in
      (f.at, f.among, record { filling = f.value; instance = f.solution.0; unifies = f.solution.1; extends = f.extends })
