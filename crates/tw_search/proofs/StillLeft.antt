-- Postponed equations that are left over stay so when a head is offered: none hangs on the hole that is bound.
use Rattle.std.proofs.Common.{◌≡◌, ℕ, List, [], ◌∷◌, length, Option, Some, Bool, true, false, ◌⊎◌, inl, inr, refl, sym, subst}
use Rattle.lf.specs.Subordination.{Member}
use Rattle.lf.specs.Syntax.{Head, LfType, Term, root}
use Rattle.lf.specs.Typing.{Signature}
use Rattle.lf_unification.specs.Offering.{lambda_over}
use Rattle.lf_unification.specs.OpenTyping.{MetavariablesIn}
use Rattle.lf_unification.specs.Outside.{ValuesIn}
use Rattle.lf_unification.specs.Putting.{Unbound}
use Rattle.lf_unification.specs.Reach.{IsReached}
use Rattle.lf_unification.specs.Search.{Node}
use Rattle.lf_unification.specs.Solving.{AllLeftOver}
use Rattle.lf_unification.specs.Unifiers.{Binding, Equation}
use Rattle.lf_unification.proofs.Reach.{reached_within}
use Rattle.lf_unification.proofs.Waking.{left_over_stays}
use Rattle.lf_search.specs.Holes.{AreOpenHoles, HolesAreOpen, NotIn}
use Rattle.lf_search.proofs.ChildNode.{applied_adds}
use Rattle.lf_search.proofs.Staying.{EquationIn, equations_of}
use Rattle.tw_metas.specs.State.{State}
use Rattle.tw_putting.specs.Stores.{bindings_of, types_of}
use Rattle.tw_putting.specs.Whole.{whole}
use Rattle.tw_terms.specs.declared.canonical.MetaId.{MetaId}
use Rattle.tw_search.specs.Goals.{AreLeft, StandsAtGoal}
use Rattle.tw_search.specs.Offers.{IsOffered}
use Rattle.tw_search.specs.declared.goal.OpenGoal.{OpenGoal}

values_in : (V : ℕ → Type 0) (bs : List Binding) → ((b : Binding) → Member b bs → V b.of → MetavariablesIn V b.value) → ValuesIn V bs
values_in V [] h = tt
values_in V (b ∷ bs) h = (h b (inl refl), values_in V bs (λ c i. h c (inr i)))

not_both : {b : Bool} → b ≡ true → b ≡ false → ⊥
not_both e f = cc

-- what is reached from an equation is no hole
pub hole_unreached : (node : Node) (g : ℕ) (gs : List ℕ) → node.goals ≡ g ∷ gs → HolesAreOpen node → (e : Equation) → Member e node.store.equations →
    IsReached node.store.metavariables node.store.bindings e.left g ⊎ IsReached node.store.metavariables node.store.bindings e.right g → ⊥
hole_unreached node g gs is w e i r = not_both open_goals.0 (go r)
  where
    open_goals : AreOpenHoles w.part node.store.bindings (g ∷ gs)
    open_goals = subst (AreOpenHoles w.part node.store.bindings) is w.open_holes

    sides : EquationIn (NotIn w.part) e
    sides = equations_of (NotIn w.part) node.store.equations w.apart.equations w.apart.equation_types e i

    within : (N : Term) → MetavariablesIn (NotIn w.part) N → IsReached node.store.metavariables node.store.bindings N g → w.part g ≡ false
    within N j x = reached_within node.store.metavariables node.store.bindings N (NotIn w.part) (λ k A v q. w.apart.types k A q) (values_in (NotIn w.part) node.store.bindings (λ b m v. w.apart.values b m v)) j x

    go : IsReached node.store.metavariables node.store.bindings e.left g ⊎ IsReached node.store.metavariables node.store.bindings e.right g → w.part g ≡ false
    go (inl x) = within e.left sides.left x
    go (inr x) = within e.right sides.right x

module _ (Σ : Signature) (s : State) (g : OpenGoal) (w : StandsAtGoal Σ s g) (t : State) (value : Term) (grows : (m : ℕ) (A : LfType) → types_of s m ≡ Some A → types_of t m ≡ Some A) (bindings : bindings_of t ≡ record { of = g.hole.0; value = value } ∷ bindings_of s) where
  free : (e : Equation) → Member e s.equations → (k : ℕ) → IsReached (types_of s) (bindings_of s) e.left k ⊎ IsReached (types_of s) (bindings_of s) e.right k → Unbound (record { of = g.hole.0; value = value } ∷ []) k
  free e i k r = ((λ q. w.unreached e i (subst (λ m. IsReached (types_of s) (bindings_of s) e.left m ⊎ IsReached (types_of s) (bindings_of s) e.right m) q r)), tt)

  all_stay : (given : ℕ → Option LfType) (es : List Equation) → ((e : Equation) → Member e es → Member e s.equations) → AllLeftOver given (whole [] s) es → AllLeftOver given (whole [] t) es
  all_stay given [] h a = tt
  all_stay given (e ∷ es) h (l, a) =
      (left_over_stays given (whole [] s) (whole [] t) (record { of = g.hole.0; value = value } ∷ []) (length s.declared) grows bindings w.node.scoped e (h e (inl refl)) (free e (h e (inl refl))) l, all_stay given es (λ f i. h f (inr i)) a)

  pub stay_left : t.equations ≡ s.equations → AreLeft t
  stay_left same = (w.left.0, subst (AllLeftOver w.left.0 (whole [] t)) (sym same) (all_stay w.left.0 s.equations (λ e i. i) w.left.1))

-- so it is with what an offer comes to
pub offered_left : (Σ : Signature) (s : State) (g : OpenGoal) (h : Head) (es : List Equation) (subgoals : List MetaId) (t : State) → StandsAtGoal Σ s g → IsOffered Σ s g h es subgoals t → AreLeft t
offered_left Σ s g h es subgoals t w o = stay_left Σ s g w t (lambda_over g.locals (root h o.offer.spine)) (applied_adds o.offer.offered w.node.scoped.fresh).grows o.offer.bindings o.postponed
