-- What the solved store says of a declaration.
use Rattle.std.specs.Prelude.{◌≡◌, ◌≢◌, ℕ, List, [], map, reverse, Option, Some, ◌⊎◌, ◌↔◌}
use Rattle.lf.specs.Entries.{Entry}
use Rattle.lf.specs.Syntax.{Skeleton}
use Rattle.tw_approx.specs.Answer.{HasDeep, Rows}
use Rattle.tw_approx.specs.Names.{IsFreeIn, IsFreeInType}
use Rattle.tw_approx.specs.Reading.{IsRead}
use Rattle.tw_approx.specs.Skeletons.{Frees, definition_skeleton}
use Rattle.tw_approx.specs.Walks.{Assignment, State, Variables, HasVariable, Agrees, IsSound}
use Rattle.tw_approx.specs.declared.fault.ApproxFault.{ApproxFault}
use Rattle.tw_approx.specs.declared.fault.ApproxFault.TheVariants.{Loose, TooDeep, NoMemory}
use Rattle.tw_parse.specs.Syntax.{Term}
use Rattle.tw_shapes.specs.Shapes.{Store, Solves, HasSolution}
use Rattle.tw_shapes.specs.declared.shape.Shape.{Shape}

-- The solutions of the state's store are the ways in which something fits.
pub record IsFound (Fit : Frees → List Skeleton → Type 0) (F : List ℕ → Type 0) (t : State) : Type 0 where
  pub sound : IsSound t
  pub free : (x : List ℕ) → HasVariable x t.variables ↔ F x
  pub fits : (f : Frees) (θ : Assignment) → Solves θ t.store → Agrees f θ t.variables → Fit f (map θ t.omitted)
  pub every : (f : Frees) (p : List Skeleton) → Fit f p → (θ : Assignment) × Solves θ t.store × Agrees f θ t.variables × (p ≡ map θ t.omitted)

-- two solutions differ at one of these
pub record AreOpen (s : Store) (ms : List ℕ) : Type 0 where
  pub first : Assignment
  pub second : Assignment
  pub first_solves : Solves first s
  pub second_solves : Solves second s
  pub differ : map first ms ≢ map second ms

-- the skeletons of shape variables in each solution
abbrev pub AreAlways : Store → List ℕ → List Skeleton → Type 0
AreAlways s ms ks = (θ : Assignment) → Solves θ s → map θ ms ≡ ks

-- these are the same in each solution
abbrev pub AreSettled : Store → List ℕ → Type 0
AreSettled s ms = (ks : List Skeleton) × AreAlways s ms ks

-- one of them is deeper than 4,096 in each solution
abbrev pub AreDeeper : Store → List ℕ → Type 0
AreDeeper s ms = (θ : Assignment) → Solves θ s → HasDeep (map θ ms)

-- and with their names
abbrev pub RowsAreAlways : Store → Variables → List (List ℕ × Skeleton) → Type 0
RowsAreAlways s xs rows = (θ : Assignment) → Solves θ s → map (λ p. (p.0, θ p.1)) xs ≡ rows

abbrev pub numbers_of : Variables → List ℕ
numbers_of xs = map (λ p. p.1) xs

-- there is a solution, and each gives these skeletons
pub record IsSolved (t : State) (rows : Rows) (ks : List Skeleton) : Type 0 where
  pub solution : HasSolution t.store
  pub free : RowsAreAlways t.store (reverse t.variables) rows
  pub omitted : AreAlways t.store t.omitted ks

-- two solutions differ; each gives the same, one of which is deeper than 4,096; or memory is wanting
abbrev pub IsLeftOpen : State → ApproxFault → Type 0
IsLeftOpen t Loose = AreOpen t.store t.omitted ⊎ AreOpen t.store (numbers_of (reverse t.variables))
IsLeftOpen t TooDeep = (rows : Rows) × (ks : List Skeleton) × IsSolved t rows ks × (HasDeep (map (λ r. r.1) rows) ⊎ HasDeep ks)
IsLeftOpen t NoMemory = Unit {0}
IsLeftOpen t _ = ⊥

-- of a definition with its type, if one is written
abbrev pub DefinitionIsRead : List Entry → State → State → Option Term → Term → Option Shape → Type 0
DefinitionIsRead es s t A M o = IsRead (λ f θ. definition_skeleton es f A M) (λ x. IsFreeInType es x A ⊎ IsFreeIn es x [] M) s t o

abbrev pub FitsDefinition : List Entry → Option Term → Term → Frees → List Skeleton → Type 0
FitsDefinition es A M f o = (s : Skeleton) × (definition_skeleton es f A M o ≡ Some (s, []))

abbrev pub IsFreeInDefinition : List Entry → Option Term → Term → List ℕ → Type 0
IsFreeInDefinition es A M x = IsFreeInType es x A ⊎ IsFreeIn es x [] M
