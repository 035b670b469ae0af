-- What the walk says of each form of text.
use Rattle.std.specs.Prelude.{◌↔◌, ◌≡◌, ℕ, List, [], ◌∷◌, map, Bool, true, false, reverse, Option, None, Some}
use Rattle.lf.specs.Entries.{Entry}
use Rattle.lf.specs.Syntax.{Head, Skeleton, base as base_skeleton, arrow as arrow_skeleton}
use Rattle.tw_approx.specs.Names.{IsFreeIn, IsFreeInDomain}
use Rattle.tw_approx.specs.Readings.{take, found, and_then}
use Rattle.tw_approx.specs.Skeletons.{Family, family_named, known, unknown, name_skeleton, applied, ascribed, family_applied, family_ascribed, whole, term_skeleton, family_skeleton, type_skeleton, domain_skeleton, kind_due}
use Rattle.tw_approx.specs.Walks.{Assignment, Readings, State, ShapesWithin, filled_all, Reads, Refuses, ReadsShape, Nothing}
use Rattle.tw_approx.specs.declared.family.Due.{Due, fold-Due}
use Rattle.tw_approx.specs.declared.family.Due.TheOpen.{Due-F}
use Rattle.tw_approx.specs.declared.family.FamilyShape.{FamilyShape}
use Rattle.tw_approx.specs.declared.family.FamilyShape.TheVariants.{Known, Unknown}
use Rattle.tw_approx.specs.declared.walk.Walk.{Walk}
use Rattle.tw_names.specs.Unknown.{is_uppercase}
use Rattle.tw_parse.specs.Syntax.{Term, Domain}
use Rattle.tw_shapes.specs.Shapes as plain
use Rattle.tw_shapes.specs.Shapes.{filled, count_of, IsWithin, Store}
use Rattle.tw_shapes.specs.View.{shape_of}
use Rattle.tw_shapes.specs.declared.shape.Shape.{Shape}

-- the state that a value of the program stands for
abbrev pub state_of : Walk → State
state_of w = record { names = w.scope; context = reverse (map shape_of w.context.items); store = w.shapes; variables = w.variables; omitted = map (λ m. m.0) w.omitted.items }

-- the shape that is a skeleton without variables
abbrev pub shape_from : Skeleton → plain.Shape
shape_from (base_skeleton a) = plain.base a
shape_from (arrow_skeleton k l) = plain.arrow (shape_from k) (shape_from l)

-- the shapes of the arguments that are due
abbrev pub due_step : Due-F (List plain.Shape) → List plain.Shape
due_step Due-F.Nothing = []
due_step (Due-F.Next s rest) = shape_of s ∷ rest.value

unfoldable pub due_of : Due → List plain.Shape
due_of = fold-Due (List plain.Shape) due_step

abbrev pub is_none_due : List plain.Shape → Bool
is_none_due [] = true
is_none_due (S ∷ Ss) = false

-- the family that one of the program is under an assignment
abbrev pub family_at : FamilyShape → Assignment → Family
family_at (Known due s) θ = known (filled_all θ (due_of due)) (filled θ (shape_of s))
family_at (Unknown s) θ = unknown (filled θ (shape_of s))

abbrev pub FamilyWithin : ℕ → FamilyShape → Type 0
FamilyWithin count (Known due s) = ShapesWithin count (due_of due) × IsWithin count (shape_of s)
FamilyWithin count (Unknown s) = IsWithin count (shape_of s)

-- a shape that is read, or none
abbrev pub IsRead : Readings Skeleton → (List ℕ → Type 0) → State → State → Option Shape → Type 0
IsRead R F s t None = Refuses R s
IsRead R F s t (Some S) = ReadsShape R F s t (shape_of S)

pub record ReadsFamily (R : Readings Family) (F : List ℕ → Type 0) (s t : State) (G : FamilyShape) : Type 0 where
  pub reading : Reads R F s t (family_at G)
  pub within : FamilyWithin (count_of t.store) G

abbrev pub IsFamilyRead : Readings Family → (List ℕ → Type 0) → State → State → Option FamilyShape → Type 0
IsFamilyRead R F s t None = Refuses R s
IsFamilyRead R F s t (Some G) = ReadsFamily R F s t G

pub record ReadsDue (R : Readings (List Skeleton)) (F : List ℕ → Type 0) (s t : State) (Ss : List plain.Shape) : Type 0 where
  pub reading : Reads R F s t (λ θ. filled_all θ Ss)
  pub within : ShapesWithin (count_of t.store) Ss

abbrev pub IsDueRead : Readings (List Skeleton) → (List ℕ → Type 0) → State → State → Option Due → Type 0
IsDueRead R F s t None = Refuses R s
IsDueRead R F s t (Some d) = ReadsDue R F s t (due_of d)

module _ (es : List Entry) (s t : State) where
  -- of a written term; of a family; of a type; of a domain; of a kind
  abbrev pub TermIsRead : Term → Option Shape → Type 0
  TermIsRead M o = IsRead (λ f θ. term_skeleton es f s.names (filled_all θ s.context) M) (λ x. IsFreeIn es x s.names M) s t o

  abbrev pub FamilyIsRead : Term → Option FamilyShape → Type 0
  FamilyIsRead A o = IsFamilyRead (λ f θ. family_skeleton es f s.names (filled_all θ s.context) A) (λ x. IsFreeIn es x s.names A) s t o

  abbrev pub TypeIsRead : Term → Option Shape → Type 0
  TypeIsRead A o = IsRead (λ f θ. type_skeleton es f s.names (filled_all θ s.context) A) (λ x. IsFreeIn es x s.names A) s t o

  abbrev pub DomainIsRead : Domain → Option Shape → Type 0
  DomainIsRead D o = IsRead (λ f θ. domain_skeleton es f s.names (filled_all θ s.context) D) (λ x. IsFreeInDomain es x s.names D) s t o

  abbrev pub KindIsRead : Term → Option Due → Type 0
  KindIsRead K o = IsDueRead (λ f θ. kind_due es f s.names (filled_all θ s.context) K) (λ x. IsFreeIn es x s.names K) s t o

-- of a name, which names this
abbrev pub NameIsRead : List Entry → State → State → List ℕ → Option Head → Option Shape → Type 0
NameIsRead es s t x h o = IsRead (λ f θ. found (name_skeleton es f (filled_all θ s.context) h x)) (λ y. (x ≡ y) × (is_uppercase x ≡ true) × (h ≡ None)) s t o

-- what isn't written
abbrev pub IsOmitted : State → State → plain.Shape → Type 0
IsOmitted s t S = ReadsShape (λ f θ. take) Nothing s t S

-- a term of this shape on an argument of that
abbrev pub IsApplied : State → State → plain.Shape → plain.Shape → Option Shape → Type 0
IsApplied s t S U o = IsRead (λ f θ. applied (filled θ S) (filled θ U)) Nothing s t o

abbrev pub IsAscribed : State → State → plain.Shape → plain.Shape → Option Shape → Type 0
IsAscribed s t S T o = IsRead (λ f θ. ascribed (filled θ S) (filled θ T)) Nothing s t o

abbrev pub IsFamilyApplied : State → State → FamilyShape → plain.Shape → Option FamilyShape → Type 0
IsFamilyApplied s t G U o = IsFamilyRead (λ f θ. family_applied (family_at G θ) (filled θ U)) Nothing s t o

abbrev pub IsFamilyAscribed : State → State → FamilyShape → List plain.Shape → Option FamilyShape → Type 0
IsFamilyAscribed s t G Ss o = IsFamilyRead (λ f θ. family_ascribed (family_at G θ) (filled_all θ Ss)) Nothing s t o

abbrev pub IsWhole : State → State → FamilyShape → Option Shape → Type 0
IsWhole s t G o = IsRead (λ f θ. whole (family_at G θ)) Nothing s t o

-- a name as a family
abbrev pub FamilyNameIsRead : List Entry → State → List ℕ → Option Head → Option FamilyShape → Type 0
FamilyNameIsRead es s x h o = IsFamilyRead (λ f θ. found (family_named es h)) (λ y. (x ≡ y) × (is_uppercase x ≡ true) × (h ≡ None)) s s o

-- the range of a type, or the rest of a kind, behind a domain of this shape
abbrev pub RangeIsRead : List Entry → State → State → Option (List ℕ) → plain.Shape → Term → Option FamilyShape → Type 0
RangeIsRead es s t x S V o = IsFamilyRead (λ f θ p. and_then (type_skeleton es f (x ∷ s.names) (filled θ S ∷ filled_all θ s.context) V p) (λ k q. Some (known [] (arrow_skeleton (filled θ S) k), q))) (λ y. IsFreeIn es y (x ∷ s.names) V) s t o

abbrev pub RestIsRead : List Entry → State → State → Option (List ℕ) → plain.Shape → Term → Option Due → Type 0
RestIsRead es s t x S K o = IsDueRead (λ f θ p. and_then (kind_due es f (x ∷ s.names) (filled θ S ∷ filled_all θ s.context) K p) (λ ks q. Some (filled θ S ∷ ks, q))) (λ y. IsFreeIn es y (x ∷ s.names) K) s t o

-- the solutions of the new store are those of the old one that make both lists equal; or there is none
pub record EquatesAll (old new : Store) (Ss Ts : List plain.Shape) : Type 0 where
  pub count : count_of new ≡ count_of old
  pub solutions : (θ : Assignment) → plain.Solves θ new ↔ (plain.Solves θ old × (filled_all θ Ss ≡ filled_all θ Ts))

abbrev pub UnifiesAll : Store → Store → List plain.Shape → List plain.Shape → Bool → Type 0
UnifiesAll old new Ss Ts true = EquatesAll old new Ss Ts
UnifiesAll old new Ss Ts false = (θ : Assignment) → plain.Solves θ old → filled_all θ Ss ≡ filled_all θ Ts → ⊥
