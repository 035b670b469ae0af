-- Pairs are settled one by one: a new metavariable takes the goal's term, or the pair's equation comes behind those that were found.
use Rattle.std.proofs.Common.{◌≡◌, ℕ, zero, suc, ◌-◌, ◌<◌, List, [], ◌∷◌, ◌++◌, length, Bool, Option, Some, None, inl, inr, refl, sym, ap, ap₂, ◌∙◌, subst, arith}
use Rattle.std.proofs.Common.{Ok, Err}
use Rattle.std.proofs.lemmas.List.{map-append}
use Rattle.std.specs.Prelude.{OnErr, OnOk, Result, slice_get, slice_index_or}
use Rattle.lf.specs.Eta.{append}
use Rattle.lf.specs.Subordination.{Member}
use Rattle.lf.specs.Syntax.{Spine, Term, metavariable, nil, root, variable}
use Rattle.lf.specs.Typing.{IsSignature, Signature}
use Rattle.lf_search.specs.AppliedHeads.{AppliedHead, with_applied}
use Rattle.lf_unification.specs.Lists.{followed}
use Rattle.lf_unification.specs.Outside.{Avoids, Holds}
use Rattle.lf_unification.specs.ReachedRuns.{ReachedRun}
use Rattle.lf_unification.specs.Unifiers.{Equation, on_right}
use Rattle.tw_metas.specs.State.{Declaration, IsUnbound, State, Story, changed, joined, with_value}
use Rattle.tw_putting.specs.Ready.{IsLater, IsReady}
use Rattle.tw_putting.specs.Stores.{bindings_of, types_of}
use Rattle.tw_putting.specs.Whole.{IsConsistent, whole}
use Rattle.tw_putting.proofs.Changes.{consistent_with_value}
use Rattle.tw_putting.proofs.Readiness.{ready_after}
use Rattle.tw_terms.specs.OpenView.{open_term_of}
use Rattle.tw_terms.specs.View.{term_of, type_of}
use Rattle.tw_terms.specs.declared.canonical.MetaId.{MetaId}
use Rattle.tw_unify.specs.Reaching.{IsKnown, Marking}
use Rattle.tw_unify.proofs.Orders.{both_reached, followed_nothing, followed_twice, none_made, places_change}
use Rattle.tw_search.specs.Applied.{taken_at}
use Rattle.tw_search.specs.Beside.{LeftsIn, equation_at, equation_between, equations_at}
use Rattle.tw_search.specs.Reducing.{CanSettle, IsTaker, LeavesThese, NoneMet, SettlesOne, stays_pair, takes_left}
use Rattle.tw_search.specs.declared.beside.Pair.{Pair}
use Rattle.tw_search.proofs.Applied.{has_metavariable}
use Rattle.tw_search.proofs.BesideTakes.{known_after, settle_ready, settle_runs, still_avoids}
use Rattle.tw_search.proofs.Offering.{later_changed, later_nothing}

-- equations that are left as they are
pub leaves_itself : (Σ : Signature) (es fs : List Equation) (s : State) → es ≡ fs → IsReady Σ es s → LeavesThese Σ es fs s s
leaves_itself Σ es fs s e w = record {
  run = subst (λ l. ReachedRun Σ (whole es s) (whole l s)) e (none_made Σ);
  ready = subst (λ l. IsReady Σ l s) e w;
  declared = refl;
  postponed = refl;
}

-- Pairs are settled one by one: what is left of them, and the equations that were found.
pub record Settling (Σ : Signature) (ms : List MetaId) (es : List Equation) (old : State) (rest : List Pair) (found : List Equation) (now : State) : Type 0 where
  pub typed_signature : IsSignature Σ
  pub run : ReachedRun Σ (whole es old) (whole (followed (equations_at (taken_at nil ms 0) rest) found) now)
  pub ready : IsReady Σ (followed (equations_at (taken_at nil ms 0) rest) found) now
  pub reached : ℕ → Bool
  pub avoids : (m : MetaId) → Member m ms → Avoids (types_of now) (bindings_of now) m.0 (λ k. Holds (reached k))
  pub within : LeftsIn (λ k. Holds (reached k)) (equations_at (taken_at nil ms 0) rest)
  pub declared : now.declared ≡ old.declared
  pub postponed : now.equations ≡ old.equations

pub settling_starts : (Σ : Signature) (ms : List MetaId) (ps rest : List Pair) (found : List Equation) (s : State) → ps ≡ rest → [] ≡ found → CanSettle Σ ms ps s → Settling Σ ms (equations_at (taken_at nil ms 0) ps) s rest found s
settling_starts Σ ms ps rest found s e f c =
    let p = taken_at nil ms 0 in
    let same : equations_at p ps ≡ followed (equations_at p rest) found = sym (followed_nothing (equations_at p ps)) ∙ ap₂ (λ qs fs. followed (equations_at p qs) fs) e f in
    let l : LeavesThese Σ (equations_at p ps) (followed (equations_at p rest) found) s s = leaves_itself Σ (equations_at p ps) (followed (equations_at p rest) found) s same c.ready in
    record {
      typed_signature = c.typed_signature;
      run = l.run;
      ready = l.ready;
      reached = c.reached;
      avoids = c.avoids;
      within = subst (λ qs. LeftsIn (λ k. Holds (c.reached k)) (equations_at p qs)) e c.within;
      declared = refl;
      postponed = refl;
    }

pub settling_ends : (Σ : Signature) (ms : List MetaId) (es found : List Equation) (rest : List Pair) (s u : State) → rest ≡ [] → Settling Σ ms es s rest found u → LeavesThese Σ es found s u
settling_ends Σ ms es found rest s u e c = record {
  run = subst (λ qs. ReachedRun Σ (whole es s) (whole (followed (equations_at (taken_at nil ms 0) qs) found) u)) e c.run;
  ready = subst (λ qs. IsReady Σ (followed (equations_at (taken_at nil ms 0) qs) found) u) e c.ready;
  declared = c.declared;
  postponed = c.postponed;
}

module _ (Σ : Signature) (e : Equation) (rest found : List Equation) (u : State) where
  behind : (xs : List Equation) (e : Equation) (ys : List Equation) → followed xs (e ∷ ys) ≡ followed (xs ++ e ∷ []) ys
  behind [] e ys = refl
  behind (x ∷ xs) e ys = ap (λ l. x ∷ l) (behind xs e ys)

  -- the first equation comes behind the others
  pub to_back : ReachedRun Σ (whole (e ∷ followed rest found) u) (whole (followed rest (found ++ e ∷ [])) u)
  to_back =
      let to : followed (followed rest found) (e ∷ u.equations) ≡ followed (followed rest (found ++ e ∷ [])) u.equations =
      followed_twice rest found (e ∷ u.equations) ∙ ap (followed rest) (behind found e u.equations) ∙ sym (followed_twice rest (found ++ e ∷ []) u.equations) in
      subst (λ l. ReachedRun Σ (whole (e ∷ followed rest found) u) (record { metavariables = types_of u; bindings = bindings_of u; equations = l })) to
      (places_change Σ (types_of u) (bindings_of u) (e ∷ []) (followed rest found) u.equations)

module _ (Σ : Signature) (ms : List MetaId) (es : List Equation) (s : State) (q : Pair) (rest : List Pair) (found : List Equation) (u : State) (c : Settling Σ ms es s (q ∷ rest) found u) where
  keeps : Settling Σ ms es s rest (found ++ equation_at (taken_at nil ms 0) q ∷ []) u
  keeps =
      let p = taken_at nil ms 0 in
      let back = to_back Σ (equation_at p q) (equations_at p rest) found u in
      record {
        typed_signature = c.typed_signature;
        run = both_reached Σ c.run back;
        ready = ready_after Σ c.typed_signature (followed (equations_at p (q ∷ rest)) found) (followed (equations_at p rest) (found ++ equation_at p q ∷ [])) u u c.ready back.run c.ready.consistent;
        reached = c.reached;
        avoids = c.avoids;
        within = c.within.1;
        declared = c.declared;
        postponed = c.postponed;
      }

  module _ (m : MetaId) (k : IsTaker u ms (term_of q.right.now) m) where
    binds : Settling Σ ms es s rest found (with_value u m.0 (open_term_of q.left))
    binds =
        let p = taken_at nil ms 0 in
        let M = open_term_of q.left in
        let A = type_of q.ty.now in
        let fs = followed (equations_at p rest) found in
        let ready : IsReady Σ (equation_between M (root (metavariable m.0) nil) A ∷ fs) u = subst (λ N. IsReady Σ (equation_between M N A ∷ fs) u) k.0.is c.ready in
        let run : ReachedRun Σ (whole (equation_between M (with_applied p (term_of q.right.now)) A ∷ fs) u) (whole fs (with_value u m.0 M)) =
        subst (λ N. ReachedRun Σ (whole (equation_between M N A ∷ fs) u) (whole fs (with_value u m.0 M))) (sym k.0.is)
        (settle_runs Σ c.typed_signature on_right M A fs u m.0 k.1.family k.1.indices ready k.1.unbound k.1.atomic c.reached (c.avoids m k.0.new) c.within.0) in
        record {
          typed_signature = c.typed_signature;
          run = both_reached Σ c.run run;
          ready = settle_ready Σ c.typed_signature on_right M A fs u m.0 k.1.family k.1.indices ready k.1.unbound k.1.atomic c.reached (c.avoids m k.0.new) c.within.0;
          reached = c.reached;
          avoids = λ j i. still_avoids Σ c.typed_signature on_right M A fs u m.0 k.1.family k.1.indices ready k.1.unbound k.1.atomic c.reached (c.avoids m k.0.new) c.within.0 j.0 (c.avoids j i).2;
          within = c.within.1;
          declared = c.declared;
          postponed = c.postponed;
        }

-- one pair more is settled
pub settling_on : (Σ : Signature) (ms : List MetaId) (es : List Equation) (s : State) (q : Pair) (rest found more : List Pair) (u v : State) → Settling Σ ms es s (q ∷ rest) (equations_at (taken_at nil ms 0) found) u → SettlesOne ms q found u more v → Settling Σ ms es s rest (equations_at (taken_at nil ms 0) more) v
settling_on Σ ms es s q rest found more u v c (takes_left m k) = binds Σ ms es s q rest (equations_at (taken_at nil ms 0) found) u c m k
settling_on Σ ms es s q rest found more u v c stays_pair =
    let p = taken_at nil ms 0 in
    subst (λ l. Settling Σ ms es s rest l u) (sym (map-append (equation_at p) found (q ∷ []))) (keeps Σ ms es s q rest (equations_at p found) u c)

pub known_on : (ms : List MetaId) (q : Pair) (found more : List Pair) (u v : State) → IsConsistent u → SettlesOne ms q found u more v → (w : Marking) → NoneMet ms w → IsKnown u w → IsKnown v w
known_on ms q found more u v c (takes_left m k) w n h = known_after u m.0 (open_term_of q.left) c k.1.unbound w h (n m k.0.new)
known_on ms q found more u v c stays_pair w n h = h

-- the member at a place
pub member_at : {A : Type 0} (xs : List A) (k : ℕ) (x : A) → slice_get xs k ≡ Some x → Member x xs
member_at [] k x e = absurd cc
member_at (y ∷ xs) zero x e = inl (sym (some_is e))
  where
    some_is : {A : Type 0} {x y : A} → Some x ≡ Some y → x ≡ y
    some_is e = cc
member_at (y ∷ xs) (suc k) x e = inr (member_at xs k x e)

at_place : {A : Type 0} (xs : List A) (k : ℕ) (x d : A) → slice_get xs k ≡ Some x → slice_index_or xs k d ≡ x
at_place [] k x d e = absurd cc
at_place (y ∷ xs) zero x d e = cc
at_place (y ∷ xs) (suc k) x d e = at_place xs k x d e

-- the metavariable at a variable's place stands for it
pub stands_for : (ms : List MetaId) (N : Term) (i place : ℕ) (S : Spine) (m : MetaId) → N ≡ root (variable i) S → S ≡ nil → i < length ms → place ≡ length ms - 1 - i → slice_get ms place ≡ Some m → with_applied (taken_at nil ms 0) N ≡ root (metavariable m.0) nil
stands_for ms N i place S m e s l p g =
    let x : slice_index_or ms (length ms - 1 - (i - 0)) m ≡ m = ap (λ k. slice_index_or ms k m) (omega (arith, p)) ∙ at_place ms place m m g in
    let h = has_metavariable nil ms m 0 i (omega arith) (omega (arith, l)) in
    ap (with_applied (taken_at nil ms 0)) (e ∙ ap (root (variable i)) s)
    ∙ ap (λ (a : AppliedHead). root a.head (append a.arguments nil)) (sym h)
    ∙ ap (λ (k : MetaId). root (metavariable k.0) nil) x

-- a declared metavariable without a value is not bound
pub has_place : (ds : List Declaration) (vs : List (Option Term)) (m : ℕ) (d : Declaration) → length vs ≡ length ds → slice_get ds m ≡ Some d → joined (slice_get vs m) ≡ None → slice_get vs m ≡ Some None
has_place [] vs m d l e n = absurd cc
has_place (c ∷ ds) [] m d l e n = absurd cc
has_place (c ∷ ds) (v ∷ vs) zero d l e n = ap Some n
has_place (c ∷ ds) (v ∷ vs) (suc m) d l e n = let k : length vs ≡ length ds = omega (arith, l) in has_place ds vs m d k e n

-- a change that was made or not
pub later_either : {A E : Type 0} (r : Result A E) (a b : Story) (t : State) → OnOk r (b ≡ changed a t) → OnErr r (b ≡ a) → IsLater a b
later_either (Ok x) a b t e f = later_changed a a b t e (later_nothing a)
later_either (Err x) a b t e f = subst (IsLater a) (sym f) (later_nothing a)

-- where a metavariable was bound or not, the store is consistent
pub consistent_either : {A E : Type 0} (r : Result A E) (a b : Story) (m : ℕ) (N : Term) → IsConsistent a.now → IsUnbound a.now m → OnOk r (b ≡ changed a (with_value a.now m N)) → OnErr r (b ≡ a) → IsConsistent b.now
consistent_either (Ok x) a b m N c u e f = subst (λ (y : Story). IsConsistent y.now) (sym e) (consistent_with_value a.now c m N u)
consistent_either (Err x) a b m N c u e f = subst (λ (y : Story). IsConsistent y.now) (sym f) c
