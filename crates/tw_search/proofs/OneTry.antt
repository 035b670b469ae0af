-- What a try comes to.
use Rattle.std.proofs.Common.{◌≡◌, List, [], Bool, true, false, length, map, refl, sym, ap, ◌∙◌, subst}
use Rattle.std.specs.Bool.{OnTrue}
use Rattle.std.specs.Global.{Global}
use Rattle.std.specs.Prelude.{Vec}
use Rattle.lf.specs.Depth.{depth_limit}
use Rattle.lf.specs.Entries.{quantifiers}
use Rattle.lf.specs.Syntax.{Head, LfType, Spine, skeleton}
use Rattle.lf.specs.Typing.{IsSignature, Signature}
use Rattle.lf.specs.Variables.{target_arguments}
use Rattle.lf_unification.specs.DeepEquations.{AreDeep}
use Rattle.lf_unification.specs.Patterns.{skeleton_target}
use Rattle.lf_unification.specs.Search.{IsChild, OfferedHeadHasType}
use Rattle.lf_unification.specs.Solving.{AllLeftOver, IsWellFormed, Never}
use Rattle.lf_unification.specs.Solving as solving
use Rattle.lf_unification.specs.Unifiers.{Equation}
use Rattle.lf_unification.proofs.Runs.{run_keeps_unifiers, run_refuted}
use Rattle.lf_unification.specs.Steps.{CanRefute}
use Rattle.lf_search.specs.Heads.{Clash}
use Rattle.lf_search.proofs.Offers.{clash_is_never, offer_is_there}
use Rattle.tw_hered.specs.declared.fault.HeredFault.{HeredFault}
use Rattle.tw_hered.specs.declared.fault.HeredFault.TheVariants as hered
use Rattle.tw_metas.specs.State.{State}
use Rattle.tw_putting.specs.Ready.{IsReady}
use Rattle.tw_putting.specs.Stores.{bindings_of, types_of}
use Rattle.tw_putting.specs.Whole.{whole}
use Rattle.tw_terms.specs.declared.canonical.MetaId.{MetaId}
use Rattle.tw_unify.specs.Faults.{fault_of}
use Rattle.tw_unify.specs.Outcomes.{Explains}
use Rattle.lf_unification.specs.ReachedRuns.{ReachedRun}
use Rattle.tw_unify.specs.declared.fault.UnifyFault.{UnifyFault}
use Rattle.tw_unify.specs.declared.fault.UnifyFault.TheVariants.{TooDeep, NoMemory}
use Rattle.tw_unify.proofs.Orders.{both_reached, both_runs, none_made}
use Rattle.tw_search.specs.Goals.{AreLeft, IsHeadFor, StandsAtGoal, indices_of, node_of}
use Rattle.tw_search.specs.Offers.{HasEquations, IsOffered, offered_store}
use Rattle.tw_search.specs.Reducing.{LeavesThese, Reduces}
use Rattle.tw_search.specs.declared.reducing.Reduced.{Reduced}
use Rattle.tw_metas.specs.View.{equation_of}
use Rattle.tw_metas.specs.declared.equation.Equation.{Equation as KeptEquation}
use Rattle.tw_search.specs.Tries.{GivesChild, HasOffer, NeverFits, OfferIsDeep, TriesDeep}
use Rattle.tw_search.specs.declared.goal.OpenGoal.{OpenGoal}
use Rattle.tw_search.proofs.Offered.{one_type}
use Rattle.tw_search.proofs.Offering.{new_first}
use Rattle.tw_search.proofs.GoalEquations.{in_other, offered_indices, the_equations}

pub on_true : {P Q : Type 0} (b : Bool) → (P → Q) → OnTrue b P → OnTrue b Q
on_true true f p = f p
on_true false f p = tt

module _ (Σ : Signature) (ok : IsSignature Σ) (s : State) (g : OpenGoal) (h : Head) where
  -- a clash is seen before anything is made
  pub clash_never_fits : (w : StandsAtGoal Σ s g) (k : IsHeadFor Σ g h) (A : LfType) → OfferedHeadHasType Σ g.locals h A → Clash (bindings_of s) (quantifiers A) (indices_of s g.hole.0) (target_arguments A) → NeverFits Σ s g h
  clash_never_fits w k A t c =
      let target : skeleton_target (skeleton A) ≡ g.family.0 = ap (λ X. skeleton_target (skeleton X)) (one_type Σ g.locals h A k.head_type t k.typed) ∙ k.target in
      let (offered, next, o) = offer_is_there Σ (node_of s []) g.hole.0 g.locals g.family.0 (indices_of s g.hole.0) h A w.node w.declared t target in
      record {
        has = record { head_type = A; offered = offered; next = next; offer = o };
        never = clash_is_never Σ (node_of s []) g.hole.0 g.locals g.family.0 (indices_of s g.hole.0) h A offered next w.node w.declared o c;
      }

  module _ (es : List Equation) (subgoals : List MetaId) (t : State) (o : IsOffered Σ s g h es subgoals t) where
    pub the_offer : HasOffer Σ s g h
    the_offer = record { head_type = o.head_type; offered = offered_store es t; next = length t.declared; offer = o.offer }

    -- the equations of the offer are refuted
    pub refuted_never : CanRefute Σ (whole es t) → NeverFits Σ s g h
    refuted_never c = record {
      has = record { head_type = o.head_type; offered = offered_store es t; next = length t.declared; offer = o.offer };
      never = λ F β u.
          let (β', x, v) = (run_keeps_unifiers Σ ok o.well_formed (new_first Σ (types_of t) (bindings_of t) t.equations es).run).complete F β u in
          run_refuted Σ ok o.ready.well_formed c.run c.refuted F β' v;
    }

    -- the equations of the offer are deep
    pub offer_is_deep : AreDeep depth_limit Σ (whole es t) → OfferIsDeep Σ s g h
    offer_is_deep d = record {
      has = record { head_type = o.head_type; offered = offered_store es t; next = length t.declared; offer = o.offer };
      deep = record { reached = d.reached; run = both_runs Σ (new_first Σ (types_of t) (bindings_of t) t.equations es).run d.run; deep = d.deep };
    }

    -- steps led to the equations fs
    module _ (fs : List Equation) (u : State) (l : LeavesThese Σ es fs t u) where
      before : ReachedRun Σ (offered_store es t) (whole fs u)
      before = both_reached Σ (new_first Σ (types_of t) (bindings_of t) t.equations es) l.run

      pub never_fits : Never Σ [] (whole fs u) → NeverFits Σ s g h
      never_fits n = record {
        has = record { head_type = o.head_type; offered = offered_store es t; next = length t.declared; offer = o.offer };
        never = λ F β v. let (β', x, w) = (run_keeps_unifiers Σ ok o.well_formed before.run).complete F β v in n F β' w;
      }

      same_types : types_of u ≡ types_of t
      same_types = ap (λ ds. types_of (record { declared = ds; values = t.values; bound = t.bound; equations = t.equations })) l.declared

      child : (v : State) → ReachedRun Σ (whole fs u) (whole [] v) → AllLeftOver (types_of t) (whole [] v) v.equations → IsWellFormed Σ (whole [] v) → IsChild Σ (offered_store es t) (whole [] v)
      child v r a w = record {
        run = (both_reached Σ before r).run;
        keeps = run_keeps_unifiers Σ ok o.well_formed (both_reached Σ before r).run;
        left_over = a;
        well_formed = w;
      }

      gives : (v : State) → ReachedRun Σ (whole fs u) (whole [] v) → AllLeftOver (types_of t) (whole [] v) v.equations → IsWellFormed Σ (whole [] v) → IsReady Σ [] v → GivesChild Σ s g h subgoals v
      unfolding child
      gives v r a w y = record {
        has = record { head_type = o.head_type; offered = offered_store es t; next = length t.declared; offer = o.offer };
        child = child v r a w;
        renews = (both_reached Σ before r).renews;
        ready = y;
        subgoals_are = o.subgoals_are;
      }

      none_left : (v : State) → v.equations ≡ [] → AllLeftOver (types_of t) (whole [] v) v.equations
      none_left v e = subst (AllLeftOver (types_of t) (whole [] v)) (sym e) tt

      pub solved_gives : (v : State) → solving.Solved Σ (whole fs u) (whole [] v) → ReachedRun Σ (whole fs u) (whole [] v) → IsReady Σ [] v → GivesChild Σ s g h subgoals v
      solved_gives v a r y = gives v r (none_left v a.none_left) a.well_formed y

      pub left_gives : (v : State) → solving.Left Σ (whole fs u) (whole [] v) → ReachedRun Σ (whole fs u) (whole [] v) → IsReady Σ [] v → GivesChild Σ s g h subgoals v
      left_gives v a r y = gives v r (subst (λ Ψ. AllLeftOver Ψ (whole [] v) v.equations) same_types a.all_left_over) a.well_formed y

      -- nothing is left
      pub nothing_left : fs ≡ [] → u.equations ≡ [] → GivesChild Σ s g h subgoals u
      nothing_left e q =
          let y : IsReady Σ [] u = subst (λ es. IsReady Σ es u) e l.ready in
          gives u (subst (λ es. ReachedRun Σ (whole fs u) (whole es u)) e (none_made Σ)) (none_left u q) y.well_formed y

      pub tries_deep : (f : UnifyFault) → Explains f Σ (whole fs u) → TriesDeep f Σ s g h
      tries_deep TooDeep d = record {
        has = record { head_type = o.head_type; offered = offered_store es t; next = length t.declared; offer = o.offer };
        deep = record { reached = d.reached; run = both_runs Σ before.run d.run; deep = d.deep };
      }
      tries_deep NoMemory d = tt

-- a fault of hereditary substitution that a try passes on
pub passed_on : (f : HeredFault) (Σ : Signature) (s : State) (g : OpenGoal) (h : Head) → (f ≡ hered.TooDeep → OfferIsDeep Σ s g h) → TriesDeep (fault_of f) Σ s g h
passed_on hered.TooDeep Σ s g h d = d refl
passed_on hered.NoMemory Σ s g h d = tt

-- An offer whose equations are deep.
pub offered_deep : (Σ : Signature) → IsSignature Σ → (s : State) (g : OpenGoal) (h : Head) → StandsAtGoal Σ s g → (T : Spine) (subgoals : List MetaId) (t : State) → ((es : List Equation) → HasEquations Σ s g T es → IsOffered Σ s g h es subgoals t) → ((es : List Equation) → HasEquations Σ t g T es → AreDeep depth_limit Σ (whole es t)) → OfferIsDeep Σ s g h
offered_deep Σ ok s g h w T subgoals t offered deep = let (es, q) = the_equations Σ ok s g w T in offer_is_deep Σ ok s g h es subgoals t (offered es q) (deep es (in_other Σ s t g (sym (offered_indices Σ s g h es subgoals t w (offered es q))) T es q))

-- An offer whose equations are reduced.
module _ (Σ : Signature) (ok : IsSignature Σ) (s : State) (g : OpenGoal) (h : Head) (w : StandsAtGoal Σ s g) (T : Spine) (subgoals : List MetaId) (t : State) (offered : (es : List Equation) → HasEquations Σ s g T es → IsOffered Σ s g h es subgoals t) (r : Reduced) (u : State) (reduces : (es : List Equation) → HasEquations Σ t g T es → Reduces r Σ es t u) where
  reduced : (es : List Equation) → HasEquations Σ s g T es → Reduces r Σ es t u
  reduced es q = reduces es (in_other Σ s t g (sym (offered_indices Σ s g h es subgoals t w (offered es q))) T es q)

  pub reduced_refuted : r ≡ Reduced.Never → NeverFits Σ s g h
  reduced_refuted e = let (es, q) = the_equations Σ ok s g w T in refuted_never Σ ok s g h es subgoals t (offered es q) (subst (λ x. Reduces x Σ es t u) e (reduced es q))

  module _ (v : Vec KeptEquation Global) (e : r ≡ Reduced.Left v) where
    leaves : (es : List Equation) → HasEquations Σ s g T es → LeavesThese Σ es (map equation_of v.items) t u × AreLeft u
    leaves es q = subst (λ x. Reduces x Σ es t u) e (reduced es q)

    pub reduced_ready : IsReady Σ (map equation_of v.items) u
    reduced_ready = let (es, q) = the_equations Σ ok s g w T in (leaves es q).0.ready

    pub reduced_left : AreLeft u
    reduced_left = let (es, q) = the_equations Σ ok s g w T in (leaves es q).1

    pub reduced_done : map equation_of v.items ≡ [] → u.equations ≡ [] → GivesChild Σ s g h subgoals u
    reduced_done n p = let (es, q) = the_equations Σ ok s g w T in nothing_left Σ ok s g h es subgoals t (offered es q) (map equation_of v.items) u (leaves es q).0 n p

    pub reduced_never : Never Σ [] (whole (map equation_of v.items) u) → NeverFits Σ s g h
    reduced_never n = let (es, q) = the_equations Σ ok s g w T in never_fits Σ ok s g h es subgoals t (offered es q) (map equation_of v.items) u (leaves es q).0 n

    pub reduced_solved : (x : State) → solving.Solved Σ (whole (map equation_of v.items) u) (whole [] x) → ReachedRun Σ (whole (map equation_of v.items) u) (whole [] x) → IsReady Σ [] x → GivesChild Σ s g h subgoals x
    reduced_solved x a p y = let (es, q) = the_equations Σ ok s g w T in solved_gives Σ ok s g h es subgoals t (offered es q) (map equation_of v.items) u (leaves es q).0 x a p y

    pub reduced_left_over : (x : State) → solving.Left Σ (whole (map equation_of v.items) u) (whole [] x) → ReachedRun Σ (whole (map equation_of v.items) u) (whole [] x) → IsReady Σ [] x → GivesChild Σ s g h subgoals x
    reduced_left_over x a p y = let (es, q) = the_equations Σ ok s g w T in left_gives Σ ok s g h es subgoals t (offered es q) (map equation_of v.items) u (leaves es q).0 x a p y

    pub reduced_deep : (f : UnifyFault) → Explains f Σ (whole (map equation_of v.items) u) → TriesDeep f Σ s g h
    reduced_deep f d = let (es, q) = the_equations Σ ok s g w T in tries_deep Σ ok s g h es subgoals t (offered es q) (map equation_of v.items) u (leaves es q).0 f d
