-- What is known of a store stays known when a head is offered, where the hole that is bound isn't of it: the new metavariables weren't declared.
use Rattle.std.proofs.Common.{◌≡◌, ℕ, List, ◌∷◌, Some, inl, inr, sym, ap, ◌∙◌, subst}
use Rattle.lf.specs.Subordination.{Member}
use Rattle.lf.specs.Syntax.{Head, LfType, root}
use Rattle.lf.specs.Typing.{Signature}
use Rattle.lf_unification.specs.Offering.{lambda_over}
use Rattle.lf_unification.specs.OpenTyping.{Declares, MetavariablesIn}
use Rattle.lf_unification.specs.Unifiers.{Binding, Equation}
use Rattle.lf_search.proofs.ChildNode.{applied_adds}
use Rattle.tw_metas.specs.State.{State}
use Rattle.tw_putting.specs.Stores.{bindings_of, types_of}
use Rattle.tw_terms.specs.declared.canonical.MetaId.{MetaId}
use Rattle.tw_unify.specs.Reaching.{IsKnown, IsMarked, Marking, ValueIsMet}
use Rattle.tw_search.specs.Goals.{StandsAtGoal}
use Rattle.tw_search.specs.Offers.{IsOffered}
use Rattle.tw_search.specs.declared.goal.OpenGoal.{OpenGoal}

module _ (Σ : Signature) (s : State) (g : OpenGoal) (h : Head) (es : List Equation) (subgoals : List MetaId) (t : State) (at : StandsAtGoal Σ s g) (o : IsOffered Σ s g h es subgoals t) (w : Marking) (known : IsKnown s w) (unmarked : IsMarked w g.hole.0 → ⊥) where
  -- its type is the one that it had
  grows : (k : ℕ) (A : LfType) → types_of s k ≡ Some A → types_of t k ≡ Some A
  grows = (applied_adds o.offer.offered at.node.scoped.fresh).grows

  same_type : (k : ℕ) → Declares (types_of s) k → (A : LfType) → types_of t k ≡ Some A → types_of s k ≡ Some A
  same_type k (B, d) A e = subst (λ x. types_of s k ≡ x) (sym (grows k B d) ∙ e) d

  met_value : (k : ℕ) → IsMarked w k → ValueIsMet (bindings_of t) k w
  met_value k x b i e = go (subst (Member b) o.offer.bindings i)
    where
      go : Member b (record { of = g.hole.0; value = lambda_over g.locals (root h o.offer.spine) } ∷ bindings_of s) → MetavariablesIn (IsMarked w) b.value
      go (inl q) = absurd (unmarked (subst (IsMarked w) (sym e ∙ ap (λ (y : Binding). y.of) q) x))
      go (inr j) = known.closed.values k x b j e

  pub still_known : IsKnown t w
  still_known = record {
    closed = record {
      nothing_due = known.closed.nothing_due;
      types = λ k x A d. known.closed.types k x A (same_type k (known.declared k x) A d);
      values = met_value;
    };
    declared = λ k x. let (A, d) = known.declared k x in (A, grows k A d);
  }
