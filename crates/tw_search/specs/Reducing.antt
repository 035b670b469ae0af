-- What is left of an offer's equations, between the states of the store before and after.
use Rattle.std.specs.Prelude.{◌≡◌, ℕ, List, [], ◌∷◌, ◌++◌, Bool, true, false, cond, nat_eq, Option, Some, None, length, map}
use Rattle.lf.specs.Depth.{depth_limit}
use Rattle.lf.specs.Subordination.{Member}
use Rattle.lf.specs.Syntax.{Head, LfType, Spine, Term, app, atom, metavariable, nil, pi, root}
use Rattle.lf.specs.Typing.{IsSignature, Signature}
use Rattle.lf_search.specs.AppliedHeads.{with_applied}
use Rattle.lf_unification.specs.DeepEquations.{AreDeep}
use Rattle.lf_unification.specs.OpenTyping.{MetavariablesIn}
use Rattle.lf_unification.specs.Outside.{Avoids, Holds}
use Rattle.lf_unification.specs.ReachedRuns.{ReachedRun}
use Rattle.lf_unification.specs.Steps.{CanRefute}
use Rattle.lf_unification.specs.Unifiers as unifiers
use Rattle.tw_metas.specs.State.{IsUnbound, State, value_of, with_value}
use Rattle.tw_metas.specs.View.{equation_of}
use Rattle.tw_putting.specs.Ready.{IsReady}
use Rattle.tw_putting.specs.Stores.{bindings_of, types_of}
use Rattle.tw_putting.specs.Whole.{whole}
use Rattle.tw_terms.specs.OpenView.{open_term_of}
use Rattle.tw_terms.specs.View.{term_of, type_of}
use Rattle.tw_terms.specs.declared.canonical.MetaId.{MetaId}
use Rattle.tw_unify.specs.Reaching.{IsAvoided, IsKnown, IsMarked, Marking}
use Rattle.tw_search.specs.Applied.{taken_at}
use Rattle.tw_search.specs.Beside.{LeadsTo, LeftsIn, equation_between, equations_at}
use Rattle.tw_search.specs.Goals.{AreLeft, StandsAtGoal}
use Rattle.tw_search.specs.Offers.{HasEquations, OffersNew, offered_arguments}
use Rattle.tw_search.specs.Taking.{numbers_from}
use Rattle.tw_search.specs.declared.beside.Pair.{Pair}
use Rattle.tw_search.specs.declared.goal.OpenGoal.{OpenGoal}
use Rattle.tw_search.specs.declared.reducing.Reduced.{Reduced}
use Rattle.tw_search.specs.declared.reducing.Reduced.TheVariants.{Never, Left}

-- a head of type A was offered to the goal, on these new metavariables, and the store t is as the offer left it
pub record WasOffered (Σ : Signature) (g : OpenGoal) (A : LfType) (ms : List MetaId) (t : State) : Type 0 where
  pub before : State
  pub at : StandsAtGoal Σ before g
  pub head : Head
  pub subgoals : List MetaId
  pub offered : OffersNew Σ before g head A ms subgoals t
  pub numbers : map (λ (m : MetaId). m.0) ms ≡ numbers_from (length before.declared) A

-- none of these metavariables was met
abbrev pub NoneMet : List MetaId → Marking → Type 0
NoneMet ms w = (m : MetaId) → Member m ms → IsMarked w m.0 → ⊥

-- so it is known still
abbrev pub KeepsKnown : List MetaId → State → State → Type 0
KeepsKnown ms old new = (w : Marking) → NoneMet ms w → IsKnown old w → IsKnown new w

-- and of w, with none of them met, v is kept
abbrev pub StaysKnown : List MetaId → State → Marking → State → Marking → Type 0
StaysKnown ms old w new v = NoneMet ms w → IsKnown old w → IsKnown new v

-- Steps lead from the equations es to fs, for which the store is ready. No metavariable is declared and nothing is postponed.
pub record LeavesThese (Σ : Signature) (es fs : List unifiers.Equation) (old new : State) : Type 0 where
  pub run : ReachedRun Σ (whole es old) (whole fs new)
  pub ready : IsReady Σ fs new
  pub declared : new.declared ≡ old.declared
  pub postponed : new.equations ≡ old.equations

-- the equations es are refuted, or others are left of them, and the postponed ones are left over
abbrev pub Reduces : Reduced → Signature → List unifiers.Equation → State → State → Type 0
Reduces Never Σ es old new = CanRefute Σ (whole es old)
Reduces (Left fs) Σ es old new = LeavesThese Σ es (map equation_of fs.items) old new × AreLeft new

-- so it is with the equations of an offer of a head of type A
abbrev pub ReducesOffer : Signature → OpenGoal → LfType → List MetaId → State → State → Reduced → Type 0
ReducesOffer Σ g A ms old new r = (es : List unifiers.Equation) → HasEquations Σ old g (offered_arguments g ms A) es → Reduces r Σ es old new

-- the equations of an offer of a head of type A are deep, with those of the store
abbrev pub OfferedAreDeep : Signature → OpenGoal → LfType → List MetaId → State → Type 0
OfferedAreDeep Σ g A ms t = (es : List unifiers.Equation) → HasEquations Σ t g (offered_arguments g ms A) es → AreDeep depth_limit Σ (whole es t)

-- The pairs can be settled: the store is ready for their equations, and the metavariables that are reached from the goal's terms are none of ms.
pub record CanSettle (Σ : Signature) (ms : List MetaId) (ps : List Pair) (s : State) : Type 0 where
  pub typed_signature : IsSignature Σ
  pub ready : IsReady Σ (equations_at (taken_at nil ms 0) ps) s
  pub reached : ℕ → Bool
  pub avoids : (m : MetaId) → Member m ms → Avoids (types_of s) (bindings_of s) m.0 (λ k. Holds (reached k))
  pub within : LeftsIn (λ k. Holds (reached k)) (equations_at (taken_at nil ms 0) ps)

-- steps lead from the equations of the pairs ps to those of qs, where they can be settled
abbrev pub SettlesAll : List MetaId → List Pair → List Pair → State → State → Type 0
SettlesAll ms ps qs old new = (Σ : Signature) → CanSettle Σ ms ps old → LeavesThese Σ (equations_at (taken_at nil ms 0) ps) (equations_at (taken_at nil ms 0) qs) old new

-- the clause's term stands for m, which is one of ms
pub record IsNewFor (ms : List MetaId) (N : Term) (m : MetaId) : Type 0 where
  pub is : with_applied (taken_at nil ms 0) N ≡ root (metavariable m.0) nil
  pub new : Member m ms

-- the type is an atom
abbrev pub IsAtom : LfType → Type 0
IsAtom (atom a S) = Unit {0}
IsAtom (pi A B) = ⊥

-- m is of an atomic type, and not bound
pub record IsOpenAtom (s : State) (m : ℕ) : Type 0 where
  pub unbound : IsUnbound s m
  pub family : ℕ
  pub indices : Spine
  pub atomic : types_of s m ≡ Some (atom family indices)

-- the new metavariable m stands for the clause's term, and is of an atomic type, and not bound
abbrev pub IsTaker : State → List MetaId → Term → MetaId → Type 0
IsTaker s ms N m = IsNewFor ms N m × IsOpenAtom s m.0

-- The new metavariable that the pair's right side stands for is bound to the left side, or the pair comes behind the others.
pub data SettlesOne (ms : List MetaId) (q : Pair) : List Pair → State → List Pair → State → Type 0 where
  takes_left : {found : List Pair} {s : State} (m : MetaId) → IsTaker s ms (term_of q.right.now) m → SettlesOne ms q found s found (with_value s m.0 (open_term_of q.left))
  stays_pair : {found : List Pair} {s : State} → SettlesOne ms q found s (found ++ q ∷ []) s

-- whether there is no value, and the type is an atom without arguments
abbrev pub is_bare : Option Term → Option LfType → Bool
is_bare (Some N) A = false
is_bare None None = false
is_bare None (Some (pi A B)) = false
is_bare None (Some (atom a (app M S))) = false
is_bare None (Some (atom a nil)) = true

-- whether k is another metavariable than m, isn't bound, and is of such a type: so nothing is reached from it
abbrev pub is_loose : State → ℕ → ℕ → Bool
is_loose s m k = cond (nat_eq k m) false (is_bare (value_of s k) (types_of s k))

-- the goal's term M is the metavariable m, of an atomic type and not bound, and in the clause's term N only loose ones stand
pub record IsGiven (s : State) (ms : List MetaId) (M N : Term) (m : MetaId) : Type 0 where
  pub is : M ≡ root (metavariable m.0) nil
  pub open_atom : IsOpenAtom s m.0
  pub within : MetavariablesIn (λ k. Holds (is_loose s m.0 k)) (with_applied (taken_at nil ms 0) N)

-- M is the metavariable m, of an atomic type and not bound, and m is not reached from N
pub record CanTake (s : State) (M N : Term) (m : MetaId) : Type 0 where
  pub is : M ≡ root (metavariable m.0) nil
  pub open_atom : IsOpenAtom s m.0
  pub avoided : IsAvoided (types_of s) (bindings_of s) N m.0

-- With the term to which N leads in its place, M is bound to it, or it to M, or their equation, of type A, comes behind the others.
pub data GivesSides (M N : Term) (A : LfType) : List unifiers.Equation → State → List unifiers.Equation → State → Type 0 where
  left_takes : {found : List unifiers.Equation} {s : State} (V : Term) → LeadsTo (bindings_of s) N V → (m : MetaId) → CanTake s M V m → GivesSides M N A found s found (with_value s m.0 V)
  right_takes : {found : List unifiers.Equation} {s : State} (V : Term) → LeadsTo (bindings_of s) N V → (m : MetaId) → CanTake s V M m → GivesSides M N A found s found (with_value s m.0 M)
  adds_equation : {found : List unifiers.Equation} {s : State} (V : Term) → LeadsTo (bindings_of s) N V → GivesSides M N A found s (found ++ equation_between M V A ∷ []) s

-- The goal's metavariable that the pair's left side is is bound to the right side; or it is given as its sides are.
pub data GivesOne (ms : List MetaId) (q : Pair) : List unifiers.Equation → State → List unifiers.Equation → State → Type 0 where
  takes_right : {found : List unifiers.Equation} {s : State} (m : MetaId) → IsGiven s ms (open_term_of q.left) (term_of q.right.now) m → GivesOne ms q found s found (with_value s m.0 (with_applied (taken_at nil ms 0) (term_of q.right.now)))
  gives_sides : {found more : List unifiers.Equation} {s t : State} → GivesSides (open_term_of q.left) (with_applied (taken_at nil ms 0) (term_of q.right.now)) (type_of q.ty.now) found s more t → GivesOne ms q found s more t

-- steps lead from the equations of the pairs to fs, where the store is ready for them
abbrev pub GivesAll : List MetaId → List Pair → List unifiers.Equation → State → State → Type 0
GivesAll ms ps fs old new = (Σ : Signature) → IsSignature Σ → IsReady Σ (equations_at (taken_at nil ms 0) ps) old → LeavesThese Σ (equations_at (taken_at nil ms 0) ps) fs old new
