-- Equations one of whose sides has a metavariable as its head.
use Rattle.std.specs.Prelude.{◌≡◌, ℕ, List, [], ◌∷◌, length, Some, ◌⊎◌}
use Rattle.lf.specs.Syntax.{LfType, Spine, Term, metavariable, root}
use Rattle.lf.specs.Typing.{Signature}
use Rattle.lf_unification.specs.OpenTyping.{MetavariablesIn, skeletons_of}
use Rattle.lf_unification.specs.Outside.{IsStuck}
use Rattle.lf_unification.specs.Patterns.{lambdas_of}
use Rattle.lf_unification.specs.Reach.{IsReached}
use Rattle.lf_unification.specs.ReachedRuns.{ReachedRun}
use Rattle.lf_unification.specs.Unifiers.{Equation, Side, on_left, on_right}
use Rattle.tw_metas.specs.State.{State, with_declared, with_value}
use Rattle.tw_terms.specs.OpenView.{open_term_of}
use Rattle.tw_terms.specs.declared.canonical.MetaId.{MetaId}
use Rattle.tw_terms.specs.declared.open_terms.Open.{Open}
use Rattle.tw_putting.specs.Ready.{AllScoped}
use Rattle.tw_putting.specs.Stores.{PutsDeepType, bindings_of, types_of}
use Rattle.tw_unify.specs.Moving.{HeadsFit, IsMove, IsRenewal, NeedsRenewal, SidesFit}
use Rattle.tw_putting.specs.Whole.{IsConsistent, whole}
use Rattle.tw_unify.specs.Reaching.{IsMarked, Marking}
use Rattle.tw_unify.specs.declared.fault.UnifyFault.{UnifyFault}
use Rattle.tw_unify.specs.declared.fault.UnifyFault.TheVariants.{NoMemory, TooDeep}
use Rattle.tw_unify.specs.declared.flexible.Next.{Next}
use Rattle.tw_unify.specs.declared.flexible.Next.TheVariants as next
use Rattle.tw_unify.specs.declared.moves.Move.{Move}
use Rattle.tw_unify.specs.declared.moves.Move.TheVariants.{Bind}
use Rattle.tw_unify.specs.declared.whole.Taker.{Taker}
use Rattle.tw_unify.specs.declared.whole.Taker.TheVariants.{Left, Right}

-- the equation e, in front of es, has the bindings put in
pub record FlexibleFits (s : State) (e : Equation) (es : List Equation) : Type 0 where
  pub sides : SidesFit s e.local e.left e.right
  pub scoped : AllScoped (e ∷ es) s

-- what stands on this side of the equation, and on the other
abbrev pub near : Side → Equation → Term
near on_left e = e.left
near on_right e = e.right

abbrev pub far : Side → Equation → Term
far on_left e = e.right
far on_right e = e.left

-- one of the sides allows the move against the other
pub record AllowsMove (s : State) (e : Equation) (v : Move) : Type 0 where
  pub side : Side
  pub move : IsMove s e.local (near side e) (far side e) v

-- so does the equation e, which stands in front of es
pub record MoveFits (s : State) (e : Equation) (es : List Equation) (v : Move) : Type 0 where
  pub consistent : IsConsistent s
  pub scoped : AllScoped (e ∷ es) s
  pub allows : AllowsMove s e v

-- the sides of the equation have one family, and no head of theirs is bound
pub record BothHeadsFit (s : State) (e : Equation) : Type 0 where
  pub left : HeadsFit s e.local e.left e.right
  pub right : HeadsFit s e.local e.right e.left

-- the metavariable is reached from one of the sides
abbrev pub IsReachedFrom : State → Term → Term → ℕ → Type 0
IsReachedFrom s M N k = IsReached (types_of s) (bindings_of s) M k ⊎ IsReached (types_of s) (bindings_of s) N k

-- what is to be done about the sides M and N
abbrev pub IsNext : State → List LfType → Term → Term → Next → Type 0
IsNext s D M N next.Drop = M ≡ N
IsNext s D M N (next.Left v) = IsMove s D M N v
IsNext s D M N (next.Right v) = IsMove s D N M v
IsNext s D M N (next.Renew k) = NeedsRenewal s k.0 × IsReachedFrom s M N k.0
IsNext s D M N next.Outside = (M ≡ N → ⊥) × IsStuck (types_of s) (bindings_of s) D M N × IsStuck (types_of s) (bindings_of s) D N M

-- the type of the metavariable is deep with the bindings put in
abbrev pub BlamesType : UnifyFault → State → ℕ → Type 0
BlamesType TooDeep s m = (A : LfType) × (types_of s m ≡ Some A) × PutsDeepType s 0 A
BlamesType NoMemory s m = Unit {0}

-- the cause of a fault at the sides M and N: the type of a metavariable that is reached from them is deep with the bindings put in
abbrev pub BlamesReached : UnifyFault → State → Term → Term → Type 0
BlamesReached TooDeep s M N = (k : ℕ) × (A : LfType) × (types_of s k ≡ Some A) × PutsDeepType s 0 A × IsReachedFrom s M N k
BlamesReached NoMemory s M N = Unit {0}

-- the value of a metavariable that is bound to the new one n', on the arguments S under the lambdas of its type
abbrev pub pruned_value : State → ℕ → ℕ → Spine → Term
pruned_value s n n' S = lambdas_of (skeletons_of (types_of s) n) (root (metavariable n') S)

-- n is bound to a new metavariable of the type Y, on the arguments S
abbrev pub pruned_state : State → ℕ → LfType → Spine → State
pruned_state s n Y S = with_value (with_declared s [] Y) n (pruned_value s n (length s.declared) S)

-- t is s with m renewed
pub record IsRenewed (s : State) (m : ℕ) (t : State) : Type 0 where
  pub ty : LfType
  pub spine : Spine
  pub renewal : IsRenewal s m ty spine
  pub is : t ≡ pruned_state s m ty spine

-- the metavariable m, which is the term M, can be bound to the term N as it stands, where there are no local variables
abbrev pub BindsWhole : State → Term → Term → MetaId → Type 0
BindsWhole s M N m = (V : Open) → open_term_of V ≡ N → IsMove s [] M N (Bind m V)

-- one side of the equation can be bound to the other
abbrev pub TakesWhole : State → Equation → Taker → Type 0
TakesWhole s e (Left m) = (V : Open) → open_term_of V ≡ e.right → AllowsMove s e (Bind m V)
TakesWhole s e (Right m) = (V : Open) → open_term_of V ≡ e.left → AllowsMove s e (Bind m V)

-- where the metavariable that takes a side was met, those of the side were too
abbrev pub TakenIsMet : Marking → Equation → Taker → Type 0
TakenIsMet w e (Left m) = IsMarked w m.0 → MetavariablesIn (IsMarked w) e.right
TakenIsMet w e (Right m) = IsMarked w m.0 → MetavariablesIn (IsMarked w) e.left

-- a step leads from the equation e, in front of whatever stands, to the state t
abbrev pub IsTaken : Signature → State → Equation → State → Type 0
IsTaken Σ s e t = (es : List Equation) → ReachedRun Σ (whole (e ∷ es) s) (whole es t)
