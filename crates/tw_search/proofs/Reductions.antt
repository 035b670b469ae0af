-- What is left of an offer's equations, by runs between states of the store.
use Rattle.std.proofs.Common.{◌≡◌, ℕ, suc, ◌<◌, ◌≤◌, List, [], ◌∷◌, length, Bool, true, false, Option, Some, None, map, inl, inr, sym, ap, ◌∙◌, subst, arith}
use Rattle.std.specs.Bool.{OnTrue}
use Rattle.lf.specs.Depth.{depth_limit, type_depth}
use Rattle.lf.specs.Subordination.{Member}
use Rattle.lf.specs.Syntax.{Kind, LfType, Spine, atom, nil, pi}
use Rattle.lf.specs.Typing.{IsSignature, Signature}
use Rattle.lf.specs.Variables.{target_arguments}
use Rattle.lf_search.specs.AppliedHeads.{AppliedHead, spine_with_applied}
use Rattle.lf_unification.specs.DeepEquations.{AreDeep, IsDeepType, deep_equation}
use Rattle.lf_unification.specs.Lists.{followed}
use Rattle.lf_unification.specs.Offering.{local_arguments, spine_equations}
use Rattle.lf_unification.specs.OpenTyping.{Declares, MetavariablesInSpine}
use Rattle.lf_unification.specs.Outside.{Holds}
use Rattle.lf_unification.specs.ReachedRuns.{ReachedRun}
use Rattle.lf_unification.specs.Solving.{AllLeftOver, IsWellFormed}
use Rattle.lf_unification.specs.Putting.{binders}
use Rattle.lf_unification.specs.Steps.{CanRefute, no_step}
use Rattle.lf_unification.specs.Unifiers.{Binding, Equation, Store}
use Rattle.lf_unification.proofs.Exhaust.{among_left}
use Rattle.tw_metas.specs.State.{State}
use Rattle.tw_open.specs.Deep.{HasDeepType}
use Rattle.tw_open.specs.Plain.{IsPlain}
use Rattle.tw_putting.specs.Ready.{IsReady}
use Rattle.tw_putting.specs.Stores.{bindings_of, types_of}
use Rattle.tw_putting.specs.Whole.{IsConsistent, whole}
use Rattle.tw_putting.proofs.Readiness.{ready_after}
use Rattle.tw_terms.specs.declared.canonical.MetaId.{MetaId}
use Rattle.tw_unify.specs.Reaching.{IsKnown, IsMarked, Marking}
use Rattle.tw_unify.proofs.Orders.{both_reached}
use Rattle.tw_search.specs.Applied.{taken_at}
use Rattle.tw_search.specs.Beside.{FirstDiffers, IndicesComeApart, IndicesDiffer, IndicesWent, equations_at}
use Rattle.tw_search.specs.Goals.{AreLeft, indices_of}
use Rattle.tw_search.specs.Offers.{HasEquations, offered_arguments}
use Rattle.tw_search.specs.Reducing.{CanSettle, GivesAll, LeavesThese, NoneMet, SettlesAll, WasOffered}
use Rattle.tw_search.specs.Taking.{numbers_from}
use Rattle.tw_search.specs.declared.beside.Pair.{Pair}
use Rattle.tw_search.specs.declared.beside.Went.TheVariants.{Clash, On}
use Rattle.tw_search.specs.declared.goal.OpenGoal.{OpenGoal}
use Rattle.tw_search.proofs.BesideRuns.{first_refutes, indices_refute, indices_run, refuted_then}
use Rattle.tw_search.proofs.BesideTakes.{avoids_new, behind_the_hole, indices_lefts}
use Rattle.tw_search.proofs.GoalEquations.{in_other, the_equations, was_indices}
use Rattle.tw_search.proofs.Offering.{is_numbered}
use Rattle.tw_search.proofs.Settling.{leaves_itself}
use Rattle.tw_search.proofs.StillKnown.{still_known}
use Rattle.tw_search.proofs.StillLeft.{offered_left}

pub leaves_then : (Σ : Signature) (es fs ds : List Equation) (s u : State) → ReachedRun Σ (whole es s) (whole fs s) → LeavesThese Σ fs ds s u → LeavesThese Σ es ds s u
leaves_then Σ es fs ds s u r l = record { run = both_reached Σ r l.run; ready = l.ready; declared = l.declared; postponed = l.postponed }

-- and from there on
pub leaves_both : (Σ : Signature) (es fs ds : List Equation) (s u v : State) → LeavesThese Σ es fs s u → LeavesThese Σ fs ds u v → LeavesThese Σ es ds s v
leaves_both Σ es fs ds s u v l m = record { run = both_reached Σ l.run m.run; ready = m.ready; declared = m.declared ∙ l.declared; postponed = m.postponed ∙ l.postponed }

pub all_left : (u : State) → u.equations ≡ [] → AreLeft u
all_left u e = ((λ m. None), subst (AllLeftOver (λ m. None) (whole [] u)) (sym e) tt)

-- new metavariables weren't declared before
pub new_are_late : (n : ℕ) (A : LfType) (ms : List MetaId) → map (λ (m : MetaId). m.0) ms ≡ numbers_from n A → (m : MetaId) → Member m ms → n ≤ m.0
new_are_late n A [] e m i = absurd i
new_are_late n (atom a S) (k ∷ ms) e m i = absurd cc
new_are_late n (pi A B) (k ∷ ms) e m (inl q) =
    let first : k.0 ≡ n = cc in
    let same : m.0 ≡ k.0 = ap (λ (j : MetaId). j.0) q in
    omega (arith, first, same)
new_are_late n (pi A B) (k ∷ ms) e m (inr j) =
    let rest : map (λ (j : MetaId). j.0) ms ≡ numbers_from (suc n) B = cc in
    let l : suc n ≤ m.0 = new_are_late (suc n) B ms rest m j in
    omega (arith, l)

pub late_not_declared : (s : State) (k : ℕ) → length s.declared ≤ k → Declares (types_of s) k → ⊥
late_not_declared s k h (A, d) = (let no : None ≡ Some A = sym ((is_numbered s).fresh k h) ∙ d in absurd cc)

-- what is known of the store before the offer has met none of them
pub none_met : (Σ : Signature) (g : OpenGoal) (A : LfType) (ms : List MetaId) (t : State) (o : WasOffered Σ g A ms t) (w : Marking) → ((k : ℕ) → IsMarked w k → Declares (types_of o.before) k) → NoneMet ms w
none_met Σ g A ms t o w d m i x = late_not_declared o.before m.0 (new_are_late (length o.before.declared) A ms o.numbers m i) (d m.0 x)

-- the equations between the goal's arguments and others are the same
pub one_kind : {x : Option Kind} {K L : Kind} → x ≡ Some K → x ≡ Some L → K ≡ L
one_kind e f = some_same (sym e ∙ f)
  where
    some_same : {A : Type 0} {x y : A} → Some x ≡ Some y → x ≡ y
    some_same e = cc

pub same_equations : (Σ : Signature) (s : State) (g : OpenGoal) (T : Spine) (es fs : List Equation) → HasEquations Σ s g T es → HasEquations Σ s g T fs → es ≡ fs
same_equations Σ s g T es fs p q = p.equations ∙ ap (λ K. spine_equations g.locals K (indices_of s g.hole.0) T) (one_kind p.kind_of q.kind_of) ∙ sym q.equations

-- all equations are left as they are
pub stay_as_they_are : (Σ : Signature) → IsSignature Σ → (g : OpenGoal) (A : LfType) (ms : List MetaId) (t : State) (o : WasOffered Σ g A ms t) (es fs : List Equation) → HasEquations Σ t g (offered_arguments g ms A) es → HasEquations Σ t g (offered_arguments g ms A) fs → LeavesThese Σ es fs t t × AreLeft t
stay_as_they_are Σ ok g A ms t o es fs p q =
    let offer = o.offered es (in_other Σ t o.before g (was_indices Σ ok g A ms t o) (offered_arguments g ms A) es p) in (
      leaves_itself Σ es fs t (same_equations Σ t g (offered_arguments g ms A) es fs p q) offer.ready,
      offered_left Σ o.before g o.head es o.subgoals t o.at offer,
    )

-- a type that is deep as it is written
deep_written : (s : Store) (k : ℕ) (A : LfType) → depth_limit < type_depth A → IsDeepType s depth_limit k A
deep_written s k (pi A B) h = inl (inl h)
deep_written s k (atom a S) h = inl (inl h)

-- equations are deep where one of them has a deep type
pub deep_types : (Σ : Signature) (es : List Equation) (t : State) → HasDeepType depth_limit es → AreDeep depth_limit Σ (whole es t)
deep_types Σ es t (e, i, h) = record {
  reached = whole es t;
  run = no_step;
  deep = deep_equation e (among_left e es t.equations i) (inr (inr (inl (deep_written (whole es t) (binders e.local) e.of_type h))));
}

-- The goal's arguments are gone along beside those of the constant's type, where no local variable is in scope.
module _ (Σ : Signature) (ok : IsSignature Σ) (g : OpenGoal) (A : LfType) (ms : List MetaId) (t : State) (o : WasOffered Σ g A ms t) (no_locals : g.locals ≡ []) (K : Kind) (is_kind : Some K ≡ Σ.kinds g.family.0) (plain : IsPlain K) (T : Spine) (is_target : T ≡ target_arguments A) where
  -- the equations as they were before
  earlier : (es : List Equation) → HasEquations Σ t g (offered_arguments g ms A) es → HasEquations Σ o.before g (offered_arguments g ms A) es
  earlier es q = in_other Σ t o.before g (was_indices Σ ok g A ms t o) (offered_arguments g ms A) es q

  -- the equations are those of the two rows
  rows : (es : List Equation) → HasEquations Σ t g (offered_arguments g ms A) es → es ≡ spine_equations [] K (indices_of t g.hole.0) (spine_with_applied (taken_at nil ms 0) T)
  rows es q =
      q.equations ∙ ap (λ L. spine_equations g.locals L (indices_of t g.hole.0) (offered_arguments g ms A)) (one_kind q.kind_of (sym is_kind))
      ∙ ap (λ D. spine_equations D K (indices_of t g.hole.0) (spine_with_applied (taken_at (local_arguments D) ms 0) (target_arguments A))) no_locals
      ∙ ap (λ U. spine_equations [] K (indices_of t g.hole.0) (spine_with_applied (taken_at nil ms 0) U)) (sym is_target)

  form : (es : List Equation) → HasEquations Σ t g (offered_arguments g ms A) es → IsWellFormed Σ (whole (spine_equations [] K (indices_of t g.hole.0) (spine_with_applied (taken_at nil ms 0) T)) t)
  form es q = subst (λ l. IsWellFormed Σ (whole l t)) (rows es q) (o.offered es (earlier es q)).ready.well_formed

  pub rows_refuted : IndicesDiffer Σ (bindings_of t) (indices_of t g.hole.0) (spine_with_applied (taken_at nil ms 0) T) K → (es : List Equation) → HasEquations Σ t g (offered_arguments g ms A) es → CanRefute Σ (whole es t)
  rows_refuted d es q = subst (λ l. CanRefute Σ (whole l t)) (sym (rows es q)) (indices_refute Σ ok (types_of t) (bindings_of t) (taken_at nil ms 0) d plain t.equations (form es q))

  module _ (ps : List Pair) (apart : IndicesComeApart Σ (bindings_of t) (taken_at nil ms 0) (indices_of t g.hole.0) T K (equations_at (taken_at nil ms 0) ps)) where
    pub rows_run : (es : List Equation) → HasEquations Σ t g (offered_arguments g ms A) es → ReachedRun Σ (whole es t) (whole (equations_at (taken_at nil ms 0) ps) t)
    rows_run es q = subst (λ l. ReachedRun Σ (whole l t) (whole (equations_at (taken_at nil ms 0) ps) t)) (sym (rows es q)) (indices_run Σ ok (types_of t) (bindings_of t) (taken_at nil ms 0) apart plain t.equations (form es q))

    pub can_settle : CanSettle Σ ms ps t
    can_settle =
        let (es, q) = the_equations Σ ok o.before g o.at (offered_arguments g ms A) in
        let offer = o.offered es q in
        let same = was_indices Σ ok g A ms t o in
        let now = in_other Σ o.before t g (sym same) (offered_arguments g ms A) es q in
        let b = behind_the_hole Σ o.before g o.head es o.subgoals t o.at offer no_locals in
        record {
          typed_signature = ok;
          ready = ready_after Σ ok es (equations_at (taken_at nil ms 0) ps) t t offer.ready (rows_run es now).run offer.ready.consistent;
          reached = b.has;
          avoids = λ m i. avoids_new o.before g t b m.0 (late_not_declared o.before m.0 (new_are_late (length o.before.declared) A ms o.numbers m i));
          within = indices_lefts (λ k. Holds (b.has k)) (bindings_of t) b.values Σ (taken_at nil ms 0) apart (subst (MetavariablesInSpine (λ k. Holds (b.has k))) (sym same) b.indices);
        }

    pub settled : (es fs : List Equation) (u : State) → t.equations ≡ [] → HasEquations Σ t g (offered_arguments g ms A) es → LeavesThese Σ (equations_at (taken_at nil ms 0) ps) fs t u → LeavesThese Σ es fs t u × AreLeft u
    settled es fs u none q l = (leaves_then Σ es (equations_at (taken_at nil ms 0) ps) fs t u (rows_run es q) l, all_left u (l.postponed ∙ none))

    -- They are settled, and then given.
    pub settled_given : (us vs : List MetaId) (qs : List Pair) (fs : List Equation) (u v : State) → us ≡ ms → vs ≡ ms → SettlesAll us ps qs t u → GivesAll vs qs fs u v → LeavesThese Σ (equations_at (taken_at nil ms 0) ps) fs t v
    settled_given us vs qs fs u v e f s h =
        let first : LeavesThese Σ (equations_at (taken_at nil ms 0) ps) (equations_at (taken_at nil ms 0) qs) t u =
        subst (λ (ws : List MetaId). LeavesThese Σ (equations_at (taken_at nil ws 0) ps) (equations_at (taken_at nil ws 0) qs) t u) e (s Σ (subst (λ (ws : List MetaId). CanSettle Σ ws ps t) (sym e) can_settle)) in
        let second : LeavesThese Σ (equations_at (taken_at nil ms 0) qs) fs u v =
        subst (λ (ws : List MetaId). LeavesThese Σ (equations_at (taken_at nil ws 0) qs) fs u v) f (h Σ ok (subst (λ (ws : List MetaId). IsReady Σ (equations_at (taken_at nil ws 0) qs) u) (sym f) first.ready)) in
        leaves_both Σ (equations_at (taken_at nil ms 0) ps) (equations_at (taken_at nil ms 0) qs) fs t u v first second

    -- where constants differ in what is left of them, they are refuted
    pub settled_refuted : (es fs : List Equation) (u : State) → HasEquations Σ t g (offered_arguments g ms A) es → LeavesThese Σ (equations_at (taken_at nil ms 0) ps) fs t u → FirstDiffers Σ (bindings_of u) fs → CanRefute Σ (whole es t)
    settled_refuted es fs u q l d =
        let left = leaves_then Σ es (equations_at (taken_at nil ms 0) ps) fs t u (rows_run es q) l in
        refuted_then Σ ok (types_of u) (bindings_of u) (taken_at nil ms 0) left.run (first_refutes Σ ok (types_of u) (bindings_of u) (taken_at nil ms 0) fs u.equations d left.ready.well_formed)

-- the store is consistent
pub offered_consistent : (Σ : Signature) → IsSignature Σ → (g : OpenGoal) (A : LfType) (ms : List MetaId) (t : State) → WasOffered Σ g A ms t → IsConsistent t
offered_consistent Σ ok g A ms t o = let (es, q) = the_equations Σ ok o.before g o.at (offered_arguments g ms A) in (o.offered es q).ready.consistent

-- all pairs were added where there was none
pub all_added : (Σ : Signature) (bs : List Binding) (S T : Spine) (K : Kind) (old new : List Pair) (p : ℕ → AppliedHead) → old ≡ [] → IndicesWent Σ bs S T K old new On → IndicesComeApart Σ bs p S T K (equations_at p new)
all_added Σ bs S T K old new p e w = subst (λ qs. IndicesComeApart Σ bs p S T K (equations_at p qs)) (sym (w.behind ∙ ap (λ qs. followed qs w.added) e)) (w.apart p)

-- what was known before the offer, and has not met its hole, is known of the store as the offer left it
pub known_of_offer : (Σ : Signature) → IsSignature Σ → (g : OpenGoal) (A : LfType) (ms : List MetaId) (t : State) (o : WasOffered Σ g A ms t) (w : Marking) → IsKnown o.before w → (IsMarked w g.hole.0 → ⊥) → IsKnown t w
known_of_offer Σ ok g A ms t o w known unmarked =
    let (es, q) = the_equations Σ ok o.before g o.at (offered_arguments g ms A) in
    still_known Σ o.before g o.head es o.subgoals t o.at (o.offered es q) w known unmarked

pub all_differ : (Σ : Signature) (bs : List Binding) (S T : Spine) (K : Kind) (old new : List Pair) (p : ℕ → AppliedHead) → IndicesWent Σ bs S T K old new Clash → IndicesDiffer Σ bs S (spine_with_applied p T) K
all_differ Σ bs S T K old new p w = w p

-- a test that said yes
pub is_so : (b : Bool) (P : Type 0) → OnTrue b P → b ≡ true → P
is_so true P p e = p
is_so false P p e = absurd cc
