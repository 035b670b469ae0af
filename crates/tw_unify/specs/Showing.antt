-- An equation as it is shown: with the bindings put in, and its metavariables numbered from 0.
use Rattle.std.specs.Prelude.{◌≡◌, ◌<◌, ℕ, List, [], ◌∷◌, ◌++◌, length, map, Option, Some, None, ◌⊎◌, slice_get, unwrap_or, if◌then◌else◌, nat_eq}
use Rattle.lf.specs.Subordination.{Member}
use Rattle.lf.specs.Syntax.{Head, LfType, Spine, Term, app, atom, constant, lambda, metavariable, nil, pi, root, variable}
use Rattle.lf_unification.specs.OpenTyping.{MetavariablesIn, MetavariablesInSpine, MetavariablesInType}
use Rattle.lf_unification.specs.Putting.{binders}
use Rattle.lf_unification.specs.Unifiers.{Equation}
use Rattle.tw_metas.specs.State.{State, value_of}
use Rattle.tw_putting.specs.Fits.{PutTypeFits, TypesCanTake}
use Rattle.tw_putting.specs.Stores.{Puts, PutsDeep, PutsDeepType, PutsType, types_of}
use Rattle.tw_unify.specs.Sides.{SidesCanTake}
use Rattle.tw_putting.specs.Whole.{AreDistinct}
use Rattle.tw_unify.specs.declared.fault.UnifyFault.{UnifyFault}
use Rattle.tw_unify.specs.declared.fault.UnifyFault.TheVariants.{TooDeep, NoMemory}

-- each metavariable by f
abbrev pub number_head : (ℕ → ℕ) → Head → Head
number_head f (constant c) = constant c
number_head f (variable i) = variable i
number_head f (metavariable m) = metavariable (f m)

abbrev mutual
  pub numbered : (ℕ → ℕ) → Term → Term
  numbered f (lambda M) = lambda (numbered f M)
  numbered f (root h S) = root (number_head f h) (numbered_spine f S)

  pub numbered_spine : (ℕ → ℕ) → Spine → Spine
  numbered_spine f nil = nil
  numbered_spine f (app M S) = app (numbered f M) (numbered_spine f S)

-- the same in a type
abbrev pub numbered_type : (ℕ → ℕ) → LfType → LfType
numbered_type f (pi A B) = pi (numbered_type f A) (numbered_type f B)
numbered_type f (atom a S) = atom a (numbered_spine f S)

-- the metavariable at a place of the order
abbrev pub at_place : List ℕ → ℕ → ℕ
at_place order k = unwrap_or (slice_get order k) 0

-- N is M with the places of its metavariables in the order as their numbers
abbrev pub IsNumbered : List ℕ → Term → Term → Type 0
IsNumbered order M N = (numbered (at_place order) N ≡ M) × MetavariablesIn (λ k. k < length order) N

-- the same of a head
abbrev pub IsNumberedHead : List ℕ → Head → Head → Type 0
IsNumberedHead order h (constant c) = h ≡ constant c
IsNumberedHead order h (variable i) = h ≡ variable i
IsNumberedHead order h (metavariable k) = (h ≡ metavariable (at_place order k)) × (k < length order)

-- of a spine
abbrev pub IsNumberedSpine : List ℕ → Spine → Spine → Type 0
IsNumberedSpine order S T = (numbered_spine (at_place order) T ≡ S) × MetavariablesInSpine (λ k. k < length order) T

-- and of a type
abbrev pub IsNumberedType : List ℕ → LfType → LfType → Type 0
IsNumberedType order A B = (numbered_type (at_place order) B ≡ A) × MetavariablesInType (λ k. k < length order) B

abbrev pub AllAmong : List ℕ → List ℕ → Type 0
AllAmong vs [] = Unit {0}
AllAmong vs (m ∷ ms) = Member m vs × AllAmong vs ms

abbrev pub among : List ℕ → ℕ → Type 0
among vs m = Member m vs

-- Metavariables are added to the order, none twice, and only those that are in each list with what is needed.
pub record Grows (Needs : List ℕ → Type 0) (old new : List ℕ) : Type 0 where
  pub more : List ℕ
  pub is : new ≡ old ++ more
  pub distinct : AreDistinct old → AreDistinct new
  pub within : (vs : List ℕ) → AllAmong vs old → Needs vs → AllAmong vs new

-- what is needed: the metavariable of a head
abbrev pub NeedsHead : Head → List ℕ → Type 0
NeedsHead (constant c) vs = Unit {0}
NeedsHead (variable i) vs = Unit {0}
NeedsHead (metavariable m) vs = Member m vs

-- those of a term
abbrev pub NeedsTerm : Term → List ℕ → Type 0
NeedsTerm M vs = MetavariablesIn (among vs) M

-- of a spine
abbrev pub NeedsSpine : Spine → List ℕ → Type 0
NeedsSpine S vs = MetavariablesInSpine (among vs) S

-- of a type
abbrev pub NeedsType : LfType → List ℕ → Type 0
NeedsType A vs = MetavariablesInType (among vs) A

-- of a term with the bindings put in
abbrev pub NeedsPut : State → ℕ → Term → List ℕ → Type 0
NeedsPut s k M vs = (N : Term) → Puts s k M N → NeedsTerm N vs

-- of such a type
abbrev pub NeedsPutType : State → ℕ → LfType → List ℕ → Type 0
NeedsPutType s k A vs = (B : LfType) → PutsType s k A B → NeedsType B vs

-- of the types of a local context
abbrev pub NeedsLocals : State → List LfType → List ℕ → Type 0
NeedsLocals s [] vs = Unit {0}
NeedsLocals s (A ∷ D) vs = NeedsPutType s (binders D) A vs × NeedsLocals s D vs

-- of an equation
pub record NeedsEquation (s : State) (e : Equation) (vs : List ℕ) : Type 0 where
  pub locals : NeedsLocals s e.local vs
  pub left : NeedsPut s (binders e.local) e.left vs
  pub right : NeedsPut s (binders e.local) e.right vs
  pub of_type : NeedsPutType s (binders e.local) e.of_type vs

-- of the type of a metavariable
abbrev pub NeedsTypeOf : State → ℕ → List ℕ → Type 0
NeedsTypeOf s m vs = (A : LfType) → types_of s m ≡ Some A → NeedsPutType s 0 A vs

-- and of the types of all in the list
abbrev pub NeedsTypes : State → List ℕ → Type 0
NeedsTypes s vs = (m : ℕ) → Member m vs → NeedsTypeOf s m vs

-- with the bindings put in, and numbered
abbrev pub ShowsTerm : State → List ℕ → ℕ → Term → Term → Type 0
ShowsTerm s order k M N = (M' : Term) × Puts s k M M' × IsNumbered order M' N

-- the same of a type
abbrev pub ShowsType : State → List ℕ → ℕ → LfType → LfType → Type 0
ShowsType s order k A B = (A' : LfType) × PutsType s k A A' × IsNumberedType order A' B

-- the types of a local context
abbrev pub ShowsLocals : State → List ℕ → List LfType → List LfType → Type 0
ShowsLocals s order [] [] = Unit {0}
ShowsLocals s order [] (B ∷ E) = ⊥
ShowsLocals s order (A ∷ D) [] = ⊥
ShowsLocals s order (A ∷ D) (B ∷ E) = ShowsType s order (binders D) A B × ShowsLocals s order D E

-- an equation
pub record ShowsEquation (s : State) (order : List ℕ) (e shown : Equation) : Type 0 where
  pub locals : ShowsLocals s order e.local shown.local
  pub left : ShowsTerm s order (binders e.local) e.left shown.left
  pub right : ShowsTerm s order (binders e.local) e.right shown.right
  pub of_type : ShowsType s order (binders e.local) e.of_type shown.of_type

-- the type of a metavariable
abbrev pub ShowsTypeOf : State → List ℕ → ℕ → LfType → Type 0
ShowsTypeOf s order m B = (A : LfType) × (types_of s m ≡ Some A) × ShowsType s order 0 A B

-- the types of metavariables, which stand in the empty context
abbrev pub ShowsMetavariables : State → List ℕ → List ℕ → List (List LfType × LfType) → Type 0
ShowsMetavariables s order [] [] = Unit {0}
ShowsMetavariables s order [] (l ∷ ls) = ⊥
ShowsMetavariables s order (m ∷ ms) [] = ⊥
ShowsMetavariables s order (m ∷ ms) (l ∷ ls) = (l.0 ≡ []) × ShowsTypeOf s order m l.1 × ShowsMetavariables s order ms ls

-- the first name that is given to a metavariable
abbrev pub name_of : List (ℕ × List ℕ) → ℕ → Option (List ℕ)
name_of [] m = None
name_of (n ∷ ns) m = if nat_eq n.0 m then Some n.1 else name_of ns m

-- the metavariable in front, unless it is bound
abbrev pub unless_bound : Option Term → ℕ → List ℕ → List ℕ
unless_bound None m ms = m ∷ ms
unless_bound (Some N) m ms = ms

-- those of the named metavariables that are not bound, in order
abbrev pub unbound_of : State → List (ℕ × List ℕ) → List ℕ
unbound_of s [] = []
unbound_of s (n ∷ ns) = unless_bound (value_of s n.0) n.0 (unbound_of s ns)

-- what is shown of the equation e: first the named metavariables that are not bound, then the others that occur, each once
pub record Shows (s : State) (e : Equation) (named : List (ℕ × List ℕ)) (metas : List (List LfType × LfType)) (names : List (Option (List ℕ))) (shown : Equation) : Type 0 where
  pub order : List ℕ
  pub distinct : AreDistinct order
  pub others : List ℕ
  pub named_first : order ≡ unbound_of s named ++ others
  pub needed : (vs : List ℕ) → AllAmong vs (unbound_of s named) → NeedsEquation s e vs → NeedsTypes s vs → AllAmong vs order
  pub equation : ShowsEquation s order e shown
  pub metavariables : ShowsMetavariables s order order metas
  pub names_are : names ≡ map (name_of named) order

-- the bindings can be put into the types of a local context
abbrev pub LocalsCanTake : State → List LfType → Type 0
LocalsCanTake s [] = Unit {0}
LocalsCanTake s (A ∷ D) = PutTypeFits s (binders D) A × LocalsCanTake s D

-- into all that is shown
pub record CanShow (s : State) (e : Equation) : Type 0 where
  pub locals : LocalsCanTake s e.local
  pub sides : SidesCanTake s e
  pub of_type : PutTypeFits s (binders e.local) e.of_type
  pub types : TypesCanTake s

-- one of the types of a local context is deep, with the bindings put in
abbrev pub DeepLocals : State → List LfType → Type 0
DeepLocals s [] = ⊥
DeepLocals s (A ∷ D) = PutsDeepType s (binders D) A ⊎ DeepLocals s D

-- the type of a metavariable is
abbrev pub DeepTypeOf : State → ℕ → Type 0
DeepTypeOf s m = (A : LfType) × (types_of s m ≡ Some A) × PutsDeepType s 0 A

-- that of one which must be shown with these
abbrev pub DeepTypes : State → List ℕ → Type 0
DeepTypes s order = (m : ℕ) × DeepTypeOf s m × ((vs : List ℕ) → AllAmong vs order → NeedsTypes s vs → Member m vs)

-- or with the equation
abbrev pub DeepShown : State → Equation → List (ℕ × List ℕ) → Type 0
DeepShown s e named = (m : ℕ) × DeepTypeOf s m × ((vs : List ℕ) → AllAmong vs (unbound_of s named) → NeedsEquation s e vs → NeedsTypes s vs → Member m vs)

-- what a fault says of a local context
abbrev pub BlamesLocals : UnifyFault → State → List LfType → Type 0
BlamesLocals TooDeep s D = DeepLocals s D
BlamesLocals NoMemory s D = Unit {0}

-- of an equation
abbrev pub BlamesEquation : UnifyFault → State → Equation → Type 0
BlamesEquation TooDeep s e = PutsDeep s (binders e.local) e.left ⊎ PutsDeep s (binders e.local) e.right ⊎ PutsDeepType s (binders e.local) e.of_type ⊎ DeepLocals s e.local
BlamesEquation NoMemory s e = Unit {0}

-- of the type of a metavariable
abbrev pub BlamesTypeOf : UnifyFault → State → ℕ → Type 0
BlamesTypeOf TooDeep s m = DeepTypeOf s m
BlamesTypeOf NoMemory s m = Unit {0}

-- of the types of metavariables that must be shown with these
abbrev pub BlamesTypes : UnifyFault → State → List ℕ → Type 0
BlamesTypes TooDeep s order = DeepTypes s order
BlamesTypes NoMemory s order = Unit {0}

-- and of the whole: something of the equation, or the type of a metavariable that must be shown, is deep with the bindings put in
abbrev pub BlamesShown : UnifyFault → State → Equation → List (ℕ × List ℕ) → Type 0
BlamesShown TooDeep s e named = BlamesEquation TooDeep s e ⊎ DeepShown s e named
BlamesShown NoMemory s e named = Unit {0}
