-- What a query is reconstructed to.
use Rattle.std.specs.Prelude.{◌≡◌, ◌<◌, ◌≤◌, ℕ, List, [], ◌∷◌, Some, length, reverse, ◌⊎◌}
use Rattle.lf.specs.Depth.{depth_limit, type_depth}
use Rattle.lf.specs.Entries.{Entry, declare_constant}
use Rattle.lf.specs.Subordination.{Member}
use Rattle.lf.specs.Syntax.{LfType, Skeleton}
use Rattle.lf.specs.Typing.{IsContext, IsType, Signature}
use Rattle.lf_elaboration.specs.Principal.{WrittenBody}
use Rattle.tw_approx.specs.Answer as skeletons
use Rattle.tw_approx.specs.Answer.{HasQuerySkeletons, IsQueryOfObjects, Rows}
use Rattle.tw_approx.specs.declared.fault.ApproxFault.TheVariants as approx
use Rattle.tw_parse.specs.Queries.{Query}
use Rattle.tw_parse.specs.Syntax.{Term}
use Rattle.tw_resolve.specs.Resolved.{resolved_goal}
use Rattle.tw_signature.specs.Goal.{Goal}
use Rattle.tw_recon.specs.Causes.{Stops}
use Rattle.tw_recon.specs.Reconstruction.{IsCompletedTo}
use Rattle.tw_recon.specs.declared.fault.ReconFault.{ReconFault}
use Rattle.tw_recon.specs.declared.fault.ReconFault.TheVariants.{Leftover, Loose, Mismatch, NoMemory, TooDeep, TypeLevel, Unknown}

-- What isn't written has skeletons in just one way, with these rows for the free variables; told these and with its names resolved the goal is written so.
pub record IsGoalWrittenAs (es : List Entry) (A : Term) (rows : Rows) (w : WrittenBody) : Type 0 where
  pub objects : IsQueryOfObjects es A
  pub omitted : List Skeleton
  pub skeletons : HasQuerySkeletons es A rows omitted
  pub resolved : resolved_goal es rows omitted A ≡ Some w

-- The goal is a principal completion of what is written, over its variables.
pub record IsGoalOf (es : List Entry) (q : Query) (g : Goal) : Type 0 where
  pub rows : Rows
  pub written : WrittenBody
  pub is_written : IsGoalWrittenAs es q.goal rows written
  pub completed : IsCompletedTo es rows written g.variables (reverse g.names) g.shown (declare_constant g.goal)
  pub proof : g.proof ≡ q.proof

-- no type of the context is deeper than the limit
abbrev pub ContextIsWithin : ℕ → List LfType → Type 0
ContextIsWithin limit [] = Unit {0}
ContextIsWithin limit (A ∷ G) = (type_depth A ≤ limit) × ContextIsWithin limit G

-- Neither a variable's type nor the goal is deeper. Each type of `vec N` over N : nat is at most 2 deep; so the goal is within 2, and isn't within 1.
abbrev pub GoalIsWithin : ℕ → Goal → Type 0
GoalIsWithin limit g = ContextIsWithin limit g.variables × (type_depth g.goal ≤ limit)

-- A goal that may be asked over the signature. `vec N` may be, over the variable N : nat, with one place for its name, where 0 or nothing is shown; over no variable it isn't a type,
-- and variable 1 isn't there to be shown.
pub record IsCanonicalGoal (Σ : Signature) (g : Goal) : Type 0 where
  pub context : IsContext Σ g.variables
  pub typed : IsType Σ g.variables g.goal
  pub within : GoalIsWithin depth_limit g
  pub name_each : length g.names ≡ length g.variables
  pub shown : (i : ℕ) → Member i g.shown → i < length g.variables

-- the goal stops where it is written so
abbrev pub GoalStops : List Entry → Term → ReconFault → Type 0
GoalStops es A f = (rows : Rows) × (w : WrittenBody) × IsGoalWrittenAs es A rows w × Stops es rows w f

-- Why a query with this goal isn't reconstructed.
abbrev pub HasGoalCause : List Entry → Term → ReconFault → Type 0
HasGoalCause es A (Unknown name place) = skeletons.HasQueryCause es A (approx.Unknown name place)
HasGoalCause es A (TypeLevel place) = skeletons.HasQueryCause es A (approx.TypeLevel place)
HasGoalCause es A Loose = skeletons.HasQueryCause es A approx.Loose
HasGoalCause es A Mismatch = skeletons.HasQueryCause es A approx.Clash ⊎ GoalStops es A Mismatch
HasGoalCause es A (Leftover left) = GoalStops es A (Leftover left)
HasGoalCause es A TooDeep = skeletons.HasQueryCause es A approx.TooDeep ⊎ GoalStops es A TooDeep
HasGoalCause es A NoMemory = Unit {0}
