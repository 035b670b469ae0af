-- Smaller terms, where a call stands.
use Rattle.std.specs.Prelude.{ℕ}
use Rattle.lf.specs.Syntax.{Term, Spine, LfType, pi, atom, rename, rename_type}
use Rattle.lf.specs.Typing.{Signature, TypeAt}
use Rattle.lf.specs.Variables.{at_variable}
use Rattle.lf_checks.specs.Order.{InArguments, Smaller, SmallerOrEqual}
use Rattle.tw_order.specs.Scopes.{fixed_in, local_in}
use Rattle.tw_order.specs.declared.scope.Scope.{Scope}

abbrev pub IsSmaller : Signature → Scope → Term → Term → LfType → Type 0
IsSmaller Σ s M N A = Smaller Σ s.context.now (local_in s) (fixed_in s) M N A

abbrev pub IsSmallerOrEqual : Signature → Scope → Term → Term → LfType → Type 0
IsSmallerOrEqual Σ s M N A = SmallerOrEqual Σ s.context.now (local_in s) (fixed_in s) M N A

abbrev pub IsInArguments : Signature → Scope → Term → Spine → LfType → Type 0
IsInArguments Σ s M S T = InArguments Σ s.context.now (local_in s) (fixed_in s) M S T

-- the first argument N of a head of type T is M, or M is smaller
abbrev pub IsInFirst : Signature → Scope → Term → Term → LfType → Type 0
IsInFirst Σ s M N (pi A B) = IsSmallerOrEqual Σ s M N A
IsInFirst Σ s M N (atom a S) = ⊥

-- the body N of a lambda of type {x:A} B, with y for its variable, is M, or M is smaller
abbrev pub IsInBody : Signature → Scope → Term → Term → LfType → LfType → ℕ → Type 0
IsInBody Σ s M N A B y = TypeAt s.context.now y A × IsSmallerOrEqual Σ s M (rename (at_variable y) N) (rename_type (at_variable y) B)
