-- Which metavariables a term mentions, and which are reached from it.
use Rattle.std.specs.Prelude.{◌≡◌, ℕ, List, Option, Some, ◌⊎◌}
use Rattle.lf.specs.Subordination.{Member}
use Rattle.lf.specs.Syntax.{Spine, Term, LfType, app, atom, constant, lambda, metavariable, nil, pi, root, variable}
use Rattle.lf_unification.specs.Unifiers.{Binding}

-- metavariable m stands in the term
abbrev mutual
  pub Mentions : ℕ → Term → Type 0
  Mentions m (lambda M) = Mentions m M
  Mentions m (root (constant c) S) = SpineMentions m S
  Mentions m (root (variable i) S) = SpineMentions m S
  Mentions m (root (metavariable n) S) = (m ≡ n) ⊎ SpineMentions m S

  pub SpineMentions : ℕ → Spine → Type 0
  SpineMentions m nil = ⊥
  SpineMentions m (app M S) = Mentions m M ⊎ SpineMentions m S

-- m stands in the type
abbrev pub TypeMentions : ℕ → LfType → Type 0
TypeMentions m (pi A B) = TypeMentions m A ⊎ TypeMentions m B
TypeMentions m (atom a S) = SpineMentions m S

-- A metavariable is reached from the term N where it stands in N, or in the type or in the value of one that is reached, as these stand. Where
-- N and the types of what is reached have the bindings put in, nothing is reached through a value that would be gone with them.
pub data IsReached (Ψ : ℕ → Option LfType) (bs : List Binding) (N : Term) : ℕ → Type 0 where
  in_term : {m : ℕ} → Mentions m N → IsReached Ψ bs N m
  in_type : {m k : ℕ} {A : LfType} → IsReached Ψ bs N k → Ψ k ≡ Some A → TypeMentions m A → IsReached Ψ bs N m
  in_value : {m : ℕ} (b : Binding) → IsReached Ψ bs N b.of → Member b bs → Mentions m b.value → IsReached Ψ bs N m

-- A metavariable is inside the given ones where it is one of them, or stands in the value of one that is inside.
pub data IsInside (given : ℕ → Type 0) (bs : List Binding) : ℕ → Type 0 where
  is_given : {m : ℕ} → given m → IsInside given bs m
  inside_value : {m : ℕ} (b : Binding) → IsInside given bs b.of → Member b bs → Mentions m b.value → IsInside given bs m
