-- A head with some of its arguments, and a term or a family with some of the types or kinds that are written for it.
use Rattle.std.proofs.Common.{◌≡◌, List}
use Rattle.lf.specs.Entries.{Entry}
use Rattle.tw_parse.specs.Applied.{applied_to}
use Rattle.tw_approx.specs.Names.{IsFreeIn}
use Rattle.tw_approx.specs.Reading.{ReadsFamily}
use Rattle.tw_approx.specs.Ascribed.{ascribed_to}
use Rattle.tw_approx.specs.Skeletons.{term_skeleton, family_skeleton}
use Rattle.tw_approx.specs.Walks.{State, filled_all, ReadsShape}
use Rattle.tw_approx.specs.declared.family.FamilyShape.{FamilyShape}
use Rattle.tw_parse.specs.Syntax.{Term}
use Rattle.tw_shapes.specs.Shapes.{Shape}

-- what is read so far is some family, which is the whole one where it is applied to these
abbrev pub IsFamilyApplying : List Entry → State → State → Term → List Term → FamilyShape → Type 0
IsFamilyApplying es s t M Ps G = (T : Term) × (applied_to T Ps ≡ M) × ReadsFamily (λ f θ. family_skeleton es f s.names (filled_all θ s.context) T) (λ x. IsFreeIn es x s.names T) s t G

-- what is read so far is some term, which is the whole one with these types
abbrev pub IsAscribing : List Entry → State → State → Term → List Term → Shape → Type 0
IsAscribing es s t M As S = (T : Term) × (ascribed_to T As ≡ M) × ReadsShape (λ f θ. term_skeleton es f s.names (filled_all θ s.context) T) (λ x. IsFreeIn es x s.names T) s t S

-- what is read so far is some family, which is the whole one with these kinds
abbrev pub IsFamilyAscribing : List Entry → State → State → Term → List Term → FamilyShape → Type 0
IsFamilyAscribing es s t M Ks G = (T : Term) × (ascribed_to T Ks ≡ M) × ReadsFamily (λ f θ. family_skeleton es f s.names (filled_all θ s.context) T) (λ x. IsFreeIn es x s.names T) s t G
