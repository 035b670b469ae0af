-- Pairs are given one by one: a goal's metavariable takes the clause's term, or the pair's equation comes behind those that were found.
use Rattle.std.proofs.Common.{◌≡◌, ℕ, List, [], ◌∷◌, ◌++◌, Bool, true, false, ◌+◌, ◌<◌, Option, Some, None, cond, drop, get_or, inl, inr, length, map, refl, sym, ap, ap₂, ◌∙◌, subst, nat_eq, arith}
use Rattle.std.proofs.lemmas.Bool.Decides.{nat_tests}
use Rattle.std.specs.Option.{option_map}
use Rattle.std.specs.Prelude.{slice_get}
use Rattle.std.proofs.lemmas.List.{map-append}
use Rattle.lf.specs.Subordination.{Member}
use Rattle.lf.specs.Syntax.{LfType, Spine, Term, app, atom, metavariable, nil, pi, root}
use Rattle.lf.specs.Typing.{IsSignature, Signature}
use Rattle.lf_search.specs.AppliedHeads.{AppliedHead, spine_with_applied, with_applied}
use Rattle.lf_unification.specs.Lists.{followed}
use Rattle.lf_unification.specs.OpenTyping.{MetavariablesIn, MetavariablesInSpine, MetavariablesInType}
use Rattle.lf_unification.specs.Outside.{Avoids, Holds, ValuesIn}
use Rattle.lf_unification.specs.Putting.{Unbound}
use Rattle.lf_unification.specs.ReachedRuns.{ReachedRun}
use Rattle.lf_unification.specs.Unifiers.{Binding, Equation, on_left, on_right}
use Rattle.tw_metas.specs.State.{Declaration, State, value_of, with_value}
use Rattle.tw_metas.specs.View.{equation_of}
use Rattle.tw_metas.specs.declared.equation.Equation.{Equation as KeptEquation}
use Rattle.tw_putting.specs.Ready.{IsReady}
use Rattle.tw_putting.specs.Stores.{bindings_of, types_of}
use Rattle.tw_putting.specs.Whole.{IsConsistent, whole}
use Rattle.tw_putting.proofs.HeadValues.{stays_unbound}
use Rattle.tw_putting.proofs.Readiness.{ready_after}
use Rattle.tw_terms.specs.OpenView.{open_term_of}
use Rattle.tw_terms.specs.View.{args_of, term_of, type_of}
use Rattle.tw_terms.specs.declared.canonical.MetaId.{MetaId}
use Rattle.tw_terms.specs.declared.canonical.Term.{Term as ClosedTerm}
use Rattle.tw_unify.proofs.Orders.{both_reached, followed_nothing}
use Rattle.tw_search.specs.Applied.{taken_at}
use Rattle.tw_search.specs.Beside.{LeadsTo, equation_between, equations_at, leads_to_itself}
use Rattle.tw_search.specs.Reducing.{CanTake, GivesOne, GivesSides, IsAtom, IsGiven, IsOpenAtom, LeavesThese, adds_equation, gives_sides, is_bare, is_loose, left_takes, right_takes, takes_right}
use Rattle.tw_search.specs.declared.beside.Pair.{Pair}
use Rattle.tw_search.proofs.BesideRuns.{right_leads}
use Rattle.tw_search.proofs.BesideTakes.{all_within, settle_ready, settle_runs}
use Rattle.tw_search.proofs.ClashingHeads.{closed_arguments_from}
use Rattle.tw_search.proofs.Reductions.{leaves_both}
use Rattle.tw_search.proofs.Settling.{has_place, leaves_itself, to_back}

-- What a test says that has no argument in the type.
bare_type : (v : Option Term) (A : LfType) (V : ℕ → Type 0) → Holds (is_bare v (Some A)) → MetavariablesInType V A
bare_type (Some N) A V h = absurd h
bare_type None (pi A B) V h = absurd h
bare_type None (atom a (app M S)) V h = absurd h
bare_type None (atom a nil) V h = tt

bare_value : (v : Option Term) (A : Option LfType) → Holds (is_bare v A) → v ≡ None
bare_value (Some N) A h = absurd h
bare_value None A h = refl

behind_test : (b c : Bool) → Holds (cond b false c) → Holds c
behind_test true c h = absurd h
behind_test false c h = h

not_both : (m : ℕ) (c : Bool) → Holds (cond (nat_eq m m) false c) → ⊥
not_both m c h = let e : nat_eq m m ≡ true = grind (arith, nat_tests) in subst (λ b. Holds (cond b false c)) e h

-- what is bound is not loose
module _ (s : State) (m : ℕ) where
  loose_bare : (k : ℕ) → Holds (is_loose s m k) → Holds (is_bare (value_of s k) (types_of s k))
  loose_bare k h = behind_test (nat_eq k m) (is_bare (value_of s k) (types_of s k)) h

  loose_types : (k : ℕ) (A : LfType) → Holds (is_loose s m k) → types_of s k ≡ Some A → MetavariablesInType (λ j. Holds (is_loose s m j)) A
  loose_types k A h e = bare_type (value_of s k) A (λ j. Holds (is_loose s m j)) (subst (λ x. Holds (is_bare (value_of s k) x)) e (loose_bare k h))

  bound_not : (bs : List Binding) (b : Binding) → Member b bs → Unbound bs b.of → ⊥
  bound_not [] b i u = i
  bound_not (c ∷ bs) b (inl e) u = u.0 (ap (λ (x : Binding). x.of) e)
  bound_not (c ∷ bs) b (inr i) u = bound_not bs b i u.1

  loose_values : ValuesIn (λ j. Holds (is_loose s m j)) (bindings_of s)
  loose_values = all_within (λ j. Holds (is_loose s m j)) (bindings_of s) (λ b i h. absurd (bound_not (bindings_of s) b i (stays_unbound s (root (metavariable b.of) nil) b.of nil refl (bare_value (value_of s b.of) (types_of s b.of) (loose_bare b.of h)))))

  -- loose metavariables are closed under what types and values mention, and m is none of them
  pub avoids_loose : Avoids (types_of s) (bindings_of s) m (λ j. Holds (is_loose s m j))
  avoids_loose = (loose_types, loose_values, not_both m (is_bare (value_of s m) (types_of s m)))

-- What is left of the pairs, and the equations that were found.
abbrev pub Giving : Signature → List MetaId → List Equation → State → List Pair → List Equation → State → Type 0
Giving Σ ms es old rest found now = LeavesThese Σ es (followed (equations_at (taken_at nil ms 0) rest) found) old now

pub giving_starts : (Σ : Signature) (ms : List MetaId) (ps rest : List Pair) (found : List Equation) (s : State) → ps ≡ rest → [] ≡ found → IsReady Σ (equations_at (taken_at nil ms 0) ps) s → Giving Σ ms (equations_at (taken_at nil ms 0) ps) s rest found s
giving_starts Σ ms ps rest found s e f w =
    let p = taken_at nil ms 0 in
    leaves_itself Σ (equations_at p ps) (followed (equations_at p rest) found) s (sym (followed_nothing (equations_at p ps)) ∙ ap₂ (λ qs fs. followed (equations_at p qs) fs) e f) w

pub giving_ends : (Σ : Signature) (ms : List MetaId) (es found : List Equation) (rest : List Pair) (s u : State) → rest ≡ [] → Giving Σ ms es s rest found u → LeavesThese Σ es found s u
giving_ends Σ ms es found rest s u e g = subst (λ qs. Giving Σ ms es s qs found u) e g

-- An equation whose right side leads to V is given.
module _ (Σ : Signature) (ok : IsSignature Σ) (M N V : Term) (A : LfType) (fs : List Equation) (u : State) (ready : IsReady Σ (equation_between M N A ∷ fs) u) (l : LeadsTo (bindings_of u) N V) where
  led_run : ReachedRun Σ (whole (equation_between M N A ∷ fs) u) (whole (equation_between M V A ∷ fs) u)
  led_run = right_leads Σ ok (types_of u) (bindings_of u) (taken_at nil [] 0) l M A (followed fs u.equations) ready.well_formed

  led_ready : IsReady Σ (equation_between M V A ∷ fs) u
  led_ready = ready_after Σ ok (equation_between M N A ∷ fs) (equation_between M V A ∷ fs) u u ready led_run.run ready.consistent

  module _ (m : MetaId) where
    -- the left side takes it
    leaves_left : CanTake u M V m → LeavesThese Σ (equation_between M N A ∷ fs) fs u (with_value u m.0 V)
    leaves_left k =
        let at : IsReady Σ (equation_between (root (metavariable m.0) nil) V A ∷ fs) u = subst (λ X. IsReady Σ (equation_between X V A ∷ fs) u) k.is led_ready in
        let run : ReachedRun Σ (whole (equation_between M V A ∷ fs) u) (whole fs (with_value u m.0 V)) =
        subst (λ X. ReachedRun Σ (whole (equation_between X V A ∷ fs) u) (whole fs (with_value u m.0 V))) (sym k.is)
        (settle_runs Σ ok on_left V A fs u m.0 k.open_atom.family k.open_atom.indices at k.open_atom.unbound k.open_atom.atomic k.avoided.reached k.avoided.avoids k.avoided.within) in
        record {
          run = both_reached Σ led_run run;
          ready = settle_ready Σ ok on_left V A fs u m.0 k.open_atom.family k.open_atom.indices at k.open_atom.unbound k.open_atom.atomic k.avoided.reached k.avoided.avoids k.avoided.within;
          declared = refl;
          postponed = refl;
        }

    -- it takes the left side
    leaves_right : CanTake u V M m → LeavesThese Σ (equation_between M N A ∷ fs) fs u (with_value u m.0 M)
    leaves_right k =
        let at : IsReady Σ (equation_between M (root (metavariable m.0) nil) A ∷ fs) u = subst (λ X. IsReady Σ (equation_between M X A ∷ fs) u) k.is led_ready in
        let run : ReachedRun Σ (whole (equation_between M V A ∷ fs) u) (whole fs (with_value u m.0 M)) =
        subst (λ X. ReachedRun Σ (whole (equation_between M X A ∷ fs) u) (whole fs (with_value u m.0 M))) (sym k.is)
        (settle_runs Σ ok on_right M A fs u m.0 k.open_atom.family k.open_atom.indices at k.open_atom.unbound k.open_atom.atomic k.avoided.reached k.avoided.avoids k.avoided.within) in
        record {
          run = both_reached Σ led_run run;
          ready = settle_ready Σ ok on_right M A fs u m.0 k.open_atom.family k.open_atom.indices at k.open_atom.unbound k.open_atom.atomic k.avoided.reached k.avoided.avoids k.avoided.within;
          declared = refl;
          postponed = refl;
        }

-- an equation stands in front of others, and comes behind them as it leads
leaves_behind : (Σ : Signature) → IsSignature Σ → (M N V : Term) (A : LfType) (rest found : List Equation) (u : State) → IsReady Σ (equation_between M N A ∷ followed rest found) u → LeadsTo (bindings_of u) N V →
    LeavesThese Σ (equation_between M N A ∷ followed rest found) (followed rest (found ++ equation_between M V A ∷ [])) u u
leaves_behind Σ ok M N V A rest found u ready l =
    let run : ReachedRun Σ (whole (equation_between M N A ∷ followed rest found) u) (whole (followed rest (found ++ equation_between M V A ∷ [])) u) =
    both_reached Σ (led_run Σ ok M N V A (followed rest found) u ready l) (to_back Σ (equation_between M V A) rest found u) in
    record {
      run = run;
      ready = ready_after Σ ok (equation_between M N A ∷ followed rest found) (followed rest (found ++ equation_between M V A ∷ [])) u u ready run.run ready.consistent;
      declared = refl;
      postponed = refl;
    }

sides_leave : (Σ : Signature) → IsSignature Σ → (M N : Term) (A : LfType) (rest found more : List Equation) (u v : State) → IsReady Σ (equation_between M N A ∷ followed rest found) u → GivesSides M N A found u more v →
    LeavesThese Σ (equation_between M N A ∷ followed rest found) (followed rest more) u v
sides_leave Σ ok M N A rest found more u v ready (left_takes V l m k) = leaves_left Σ ok M N V A (followed rest found) u ready l m k
sides_leave Σ ok M N A rest found more u v ready (right_takes V l m k) = leaves_right Σ ok M N V A (followed rest found) u ready l m k
sides_leave Σ ok M N A rest found more u v ready (adds_equation V l) = leaves_behind Σ ok M N V A rest found u ready l

-- the goal's metavariable takes the clause's term, in which only loose ones stand
can_take : (s : State) (ms : List MetaId) (M N : Term) (m : MetaId) → IsGiven s ms M N m → CanTake s M (with_applied (taken_at nil ms 0) N) m
can_take s ms M N m k = record {
  is = k.is;
  open_atom = k.open_atom;
  avoided = record { reached = is_loose s m.0; avoids = avoids_loose s m.0; within = k.within };
}

-- one pair more is given
pub giving_on : (Σ : Signature) → IsSignature Σ → (ms : List MetaId) (es : List Equation) (s : State) (q : Pair) (rest : List Pair) (found more : List Equation) (u v : State) → Giving Σ ms es s (q ∷ rest) found u → GivesOne ms q found u more v → Giving Σ ms es s rest more v
giving_on Σ ok ms es s q rest found more u v c g =
    let p = taken_at nil ms 0 in
    leaves_both Σ es (followed (equations_at p (q ∷ rest)) found) (followed (equations_at p rest) more) s u v c
    (sides_leave Σ ok (open_term_of q.left) (with_applied p (term_of q.right.now)) (type_of q.ty.now) (equations_at p rest) found more u v c.ready (as_sides g))
  where
    as_sides : {fs gs : List Equation} {t w : State} → GivesOne ms q fs t gs w → GivesSides (open_term_of q.left) (with_applied (taken_at nil ms 0) (term_of q.right.now)) (type_of q.ty.now) fs t gs w
    as_sides (takes_right {s = t} m k) = left_takes (with_applied (taken_at nil ms 0) (term_of q.right.now)) leads_to_itself m (can_take t ms (open_term_of q.left) (term_of q.right.now) m k)
    as_sides (gives_sides x) = x

-- the equation of the sides is added
pub adds_sides : (M N V : Term) (A : LfType) (found more : List KeptEquation) (x : KeptEquation) (s : State) → more ≡ found ++ x ∷ [] → equation_of x ≡ equation_between M V A → LeadsTo (bindings_of s) N V → GivesSides M N A (map equation_of found) s (map equation_of more) s
adds_sides M N V A found more x s e f l =
    let to : map equation_of found ++ equation_between M V A ∷ [] ≡ map equation_of more = ap (λ y. map equation_of found ++ y ∷ []) (sym f) ∙ sym (ap (map equation_of) e ∙ map-append equation_of found (x ∷ [])) in
    subst (λ l. GivesSides M N A (map equation_of found) s l s) to (adds_equation V l)

-- what isn't bound, and has an atom as its type
pub open_atom : (s : State) (m : ℕ) (d : Declaration) → IsConsistent s → slice_get s.declared m ≡ Some d → value_of s m ≡ None → IsAtom d.of_type → IsOpenAtom s m
open_atom s m d c e n h = go d.of_type refl h
  where
    go : (A : LfType) → d.of_type ≡ A → IsAtom A → IsOpenAtom s m
    go (atom a S) q i = record {
      unbound = has_place s.declared s.values m d c.places e n;
      family = a;
      indices = S;
      atomic = ap (option_map (λ (x : Declaration). x.of_type)) e ∙ ap Some q;
    }
    go (pi A B) q i = absurd i

-- where the next argument and those behind it mention metavariables of V alone, those that are left do
pub rest_mentions : (V : ℕ → Type 0) (p : ℕ → AppliedHead) (us : List ClosedTerm) (i : ℕ) (x : ClosedTerm) (S : Spine) → i < length us → x ≡ get_or us i x → MetavariablesIn V (with_applied p (term_of x)) →
    (MetavariablesInSpine V (spine_with_applied p (args_of (drop i us))) → MetavariablesInSpine V (spine_with_applied p S)) → MetavariablesInSpine V (spine_with_applied p (args_of (drop (i + 1) us))) → MetavariablesInSpine V (spine_with_applied p S)
rest_mentions V p us i x S h q one f rest = f (subst (λ T. MetavariablesInSpine V (spine_with_applied p T)) (sym (closed_arguments_from us us i x refl h q)) (one, rest))
