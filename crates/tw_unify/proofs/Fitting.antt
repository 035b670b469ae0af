-- What a ready store has for the work at its first equation.
use Rattle.std.proofs.Common.{◌≡◌, ℕ, suc, ◌<◌, List, [], ◌∷◌, length, ◌⊎◌, inl, inr, refl, sym, ap, subst}
use Rattle.lf.specs.Depth.{depth, depth_limit}
use Rattle.lf.specs.SkeletonTyping.{TermSkeleton}
use Rattle.lf.specs.Subordination.{Member}
use Rattle.lf.specs.Syntax.{LfType, Term, skeleton}
use Rattle.lf.specs.Typing.{Signature}
use Rattle.lf_unification.specs.DeepEquations.{AreDeep, IsDeepTerm, PutHasDeep, deep_equation}
use Rattle.lf_unification.specs.Lists.{followed}
use Rattle.lf_unification.specs.Patterns.{local_skeletons}
use Rattle.lf_unification.specs.PartialInstance.{IsFilling}
use Rattle.lf_unification.specs.Putting.{PutsIn, binders, put_at_bound, put_at_rigid, put_at_unbound, put_under_lambda}
use Rattle.lf_unification.specs.Steps.{no_step}
use Rattle.lf_unification.specs.Unifiers.{Equation, Store}
use Rattle.tw_metas.specs.State.{State}
use Rattle.tw_putting.specs.Fits.{PutFits, StoreBySkeletons, declared_skeletons}
use Rattle.tw_putting.specs.Ready.{IsReady}
use Rattle.tw_putting.specs.Stores.{PutsDeep, types_of}
use Rattle.tw_putting.specs.Whole.{whole}
use Rattle.tw_putting.proofs.Readiness.{local_count, ready_values}
use Rattle.tw_putting.proofs.Skeletons.{term_declared}
use Rattle.tw_unify.specs.Sides.{EquationFits, SidesCanTake}

-- what meets something deep
deep_put : (s : Store) (limit : ℕ) {k : ℕ} {M M' : Term} (d : PutsIn s.metavariables s.bindings k M M') → limit < depth M' → PutHasDeep s limit d
deep_put s limit (put_under_lambda d) h = inl h
deep_put s limit (put_at_rigid c r d) h = inl h
deep_put s limit (put_at_unbound u d) h = inl h
deep_put s limit (put_at_bound b i d r e) h = inr (inr (deep_put s limit e h))

pub deep_term : (s : State) (es : List Equation) (k : ℕ) (M : Term) → PutsDeep s k M → IsDeepTerm (whole es s) depth_limit k M
deep_term s es k M (M', d, h) = inr (M', d, deep_put (whole es s) depth_limit d h)

module _ (Σ : Signature) where
  -- deep sides make the equations deep
  pub deep_sides : (s : State) (fs : List Equation) (e : Equation) → Member e (followed fs s.equations) → PutsDeep s (binders e.local) e.left ⊎ PutsDeep s (binders e.local) e.right → AreDeep depth_limit Σ (whole fs s)
  deep_sides s fs e i h = record {
    reached = whole fs s;
    run = no_step;
    deep = deep_equation e i (elim h [ inl a ↦ inl (deep_term s fs (binders e.local) e.left a) | inr a ↦ inr (inl (deep_term s fs (binders e.local) e.right a)) ]);
  }

  -- the first equation of a ready store
  pub ready_first : (e : Equation) (es : List Equation) (s : State) → IsReady Σ (e ∷ es) s → EquationFits Σ s e
  ready_first e es s r = record {
    consistent = r.consistent;
    store_typed = ready_values Σ (e ∷ es) s r;
    locals = r.types.0.0;
    left_typed = term_declared Σ (types_of s) (IsFilling Σ [] (whole (e ∷ es) s)) e.local e.left e.of_type r.well_formed.typed.equations_typed.0.left_typed;
    right_typed = term_declared Σ (types_of s) (IsFilling Σ [] (whole (e ∷ es) s)) e.local e.right e.of_type r.well_formed.typed.equations_typed.0.right_typed;
  }

  pub can_take : (s : State) (e : Equation) → EquationFits Σ s e → SidesCanTake s e
  can_take s e f = (take e.left f.left_typed, take e.right f.right_typed)
    where
      take : (M : Term) → TermSkeleton (declared_skeletons Σ (types_of s)) (local_skeletons e.local []) M (skeleton e.of_type) → PutFits s (binders e.local) M
      take M m = record {
        signature = Σ;
        context = local_skeletons e.local [];
        term_skeleton = skeleton e.of_type;
        term_typed = m;
        store_typed = subst (λ Γ. StoreBySkeletons Σ Γ s) (sym (local_count e.local)) f.store_typed;
      }

pub binders_length : (D : List LfType) → binders D ≡ length D
binders_length [] = refl
binders_length (A ∷ D) = ap suc (binders_length D)
