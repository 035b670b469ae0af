-- What the answers say.
use Rattle.std.specs.Prelude.{◌≡◌, ℕ, ◌<◌, ◌≤◌, List, [], ◌∷◌, map, true, false, None, Some, if◌then◌else◌, ◌⊎◌, zero}
use Rattle.std.specs.Str.{bytes_eq}
use Rattle.lf.specs.Depth.{depth_limit}
use Rattle.lf.specs.Entries.{Entry}
use Rattle.lf.specs.Syntax.{Skeleton, base}
use Rattle.tw_approx.specs.Levels.{is_type_definition, type_lambdas, lambdas_in_type, IsEarliest}
use Rattle.tw_approx.specs.Names.{IsFreeVariable, IsFreeIn}
use Rattle.tw_approx.specs.Nesting.{declared_depth, text_depth}
use Rattle.tw_approx.specs.Skeletons.{Frees, Fits, FitsQuery}
use Rattle.tw_approx.specs.declared.approximation.Row.{Row}
use Rattle.tw_approx.specs.declared.fault.ApproxFault.{ApproxFault}
use Rattle.tw_approx.specs.declared.fault.ApproxFault.TheVariants.{Unknown, TypeLevel, Clash, Loose, TooDeep, NoMemory}
use Rattle.tw_names.specs.Unknown.{unknown_in, unknown_names, IsFirst}
use Rattle.tw_parse.specs.Syntax.{Declaration, Term}
use Rattle.tw_shapes.specs.Depth.{skeleton_depth}
use Rattle.tw_terms.specs.View.{skeleton_of}

-- free variables with their skeletons, by name
abbrev pub Rows : Type 0
Rows = List (List ℕ × Skeleton)

-- what the rows give; a name without a row has some skeleton
abbrev pub frees_of : Rows → Frees
frees_of [] x = base zero
frees_of ((y, s) ∷ rows) x = if bytes_eq y x then s else frees_of rows x

abbrev pub HasRow : List ℕ → Rows → Type 0
HasRow x [] = ⊥
HasRow x ((y, s) ∷ rows) = (y ≡ x) ⊎ HasRow x rows

-- each name has one row
abbrev pub AreDistinct : Rows → Type 0
AreDistinct [] = Unit {0}
AreDistinct ((y, s) ∷ rows) = (HasRow y rows → ⊥) × AreDistinct rows

-- Of what is written F are the free variables, and Fit tells which skeletons of them, and of what else isn't written, it has throughout.

-- the same skeletons of all that isn't written
pub record AreSame (F : List ℕ → Type 0) (f g : Frees) (o p : List Skeleton) : Type 0 where
  pub frees : (x : List ℕ) → F x → f x ≡ g x
  pub omitted : o ≡ p

-- It has skeletons in just one way: rows for its free variables, and a list of what else isn't written.
pub record FitsOnce (F : List ℕ → Type 0) (Fit : Frees → List Skeleton → Type 0) (rows : Rows) (o : List Skeleton) : Type 0 where
  pub row_is_free : (x : List ℕ) → HasRow x rows → F x
  pub free_has_row : (x : List ℕ) → F x → HasRow x rows
  pub distinct : AreDistinct rows
  pub fits : Fit (frees_of rows) o
  pub only : (f : Frees) (p : List Skeleton) → Fit f p → AreSame F f (frees_of rows) p o

-- It has them in two ways.
pub record FitsTwice (F : List ℕ → Type 0) (Fit : Frees → List Skeleton → Type 0) : Type 0 where
  pub first : Frees
  pub second : Frees
  pub first_omitted : List Skeleton
  pub second_omitted : List Skeleton
  pub first_fits : Fit first first_omitted
  pub second_fits : Fit second second_omitted
  pub differ : AreSame F first second first_omitted second_omitted → ⊥

-- one of the skeletons is deeper than 4,096
abbrev pub HasDeep : List Skeleton → Type 0
HasDeep [] = ⊥
HasDeep (k ∷ ks) = (depth_limit < skeleton_depth k) ⊎ HasDeep ks

-- It has them in just one way, and one of them is deeper than 4,096.
pub record FitsDeeply (F : List ℕ → Type 0) (Fit : Frees → List Skeleton → Type 0) : Type 0 where
  pub rows : Rows
  pub omitted : List Skeleton
  pub once : FitsOnce F Fit rows omitted
  pub deep : HasDeep (map (λ r. r.1) rows) ⊎ HasDeep omitted

-- It has them in no way.
abbrev pub NeverFits : (Frees → List Skeleton → Type 0) → Type 0
NeverFits Fit = (f : Frees) (o : List Skeleton) → Fit f o → ⊥

-- Declarations

-- each name is known, and no definition or lambda stands at the level of types
pub record IsOfObjects (es : List Entry) (d : Declaration) : Type 0 where
  pub known : unknown_in es d ≡ []
  pub no_definition : is_type_definition es d ≡ false
  pub no_lambda : type_lambdas d ≡ []

abbrev pub HasSkeletons : List Entry → Declaration → Rows → List Skeleton → Type 0
HasSkeletons es d rows o = FitsOnce (λ x. IsFreeVariable es x d) (λ f p. Fits es f p d) rows o

abbrev pub IsLoose : List Entry → Declaration → Type 0
IsLoose es d = FitsTwice (λ x. IsFreeVariable es x d) (λ f p. Fits es f p d)

abbrev pub IsDeep : List Entry → Declaration → Type 0
IsDeep es d = FitsDeeply (λ x. IsFreeVariable es x d) (λ f p. Fits es f p d)

-- each name is known, and the text nests deeper than 4,096
abbrev pub NestsDeeply : List Entry → Declaration → Type 0
NestsDeeply es d = (unknown_in es d ≡ []) × (depth_limit < declared_depth es d)

-- each name is known, and the text nests 4,096 deep at most
abbrev pub NestsWithin : List Entry → Declaration → Type 0
NestsWithin es d = (unknown_in es d ≡ []) × (declared_depth es d ≤ depth_limit)

abbrev pub IsClash : List Entry → Declaration → Type 0
IsClash es d = NeverFits (λ f p. Fits es f p d)

-- Why a declaration is refused. A text that nests too deep has no other cause, once each name is known.
abbrev pub HasCause : List Entry → Declaration → ApproxFault → Type 0
HasCause es d (Unknown name place) = IsFirst (record { name = name; at = place }) (unknown_in es d)
HasCause es d (TypeLevel None) = NestsWithin es d × (is_type_definition es d ≡ true)
HasCause es d (TypeLevel (Some p)) = NestsWithin es d × (is_type_definition es d ≡ false) × IsEarliest p (type_lambdas d)
HasCause es d Clash = NestsWithin es d × IsOfObjects es d × IsClash es d
HasCause es d Loose = NestsWithin es d × IsOfObjects es d × IsLoose es d
HasCause es d TooDeep = NestsDeeply es d ⊎ (NestsWithin es d × IsOfObjects es d × IsDeep es d)
HasCause es d NoMemory = Unit {0}

-- Queries, by their goals

-- each name is known, and no lambda stands at the level of types
pub record IsQueryOfObjects (es : List Entry) (A : Term) : Type 0 where
  pub known : unknown_names es [] A ≡ []
  pub no_lambda : lambdas_in_type A ≡ []

abbrev pub HasQuerySkeletons : List Entry → Term → Rows → List Skeleton → Type 0
HasQuerySkeletons es A rows o = FitsOnce (λ x. IsFreeIn es x [] A) (λ f p. FitsQuery es f p A) rows o

abbrev pub IsLooseQuery : List Entry → Term → Type 0
IsLooseQuery es A = FitsTwice (λ x. IsFreeIn es x [] A) (λ f p. FitsQuery es f p A)

abbrev pub IsDeepQuery : List Entry → Term → Type 0
IsDeepQuery es A = FitsDeeply (λ x. IsFreeIn es x [] A) (λ f p. FitsQuery es f p A)

abbrev pub QueryNestsDeeply : List Entry → Term → Type 0
QueryNestsDeeply es A = (unknown_names es [] A ≡ []) × (depth_limit < text_depth es A)

abbrev pub QueryNestsWithin : List Entry → Term → Type 0
QueryNestsWithin es A = (unknown_names es [] A ≡ []) × (text_depth es A ≤ depth_limit)

abbrev pub IsQueryClash : List Entry → Term → Type 0
IsQueryClash es A = NeverFits (λ f p. FitsQuery es f p A)

-- Why a query with this goal is refused.
abbrev pub HasQueryCause : List Entry → Term → ApproxFault → Type 0
HasQueryCause es A (Unknown name place) = IsFirst (record { name = name; at = place }) (unknown_names es [] A)
HasQueryCause es A (TypeLevel None) = ⊥
HasQueryCause es A (TypeLevel (Some p)) = QueryNestsWithin es A × IsEarliest p (lambdas_in_type A)
HasQueryCause es A Clash = QueryNestsWithin es A × IsQueryOfObjects es A × IsQueryClash es A
HasQueryCause es A Loose = QueryNestsWithin es A × IsQueryOfObjects es A × IsLooseQuery es A
HasQueryCause es A TooDeep = QueryNestsDeeply es A ⊎ (QueryNestsWithin es A × IsQueryOfObjects es A × IsDeepQuery es A)
HasQueryCause es A NoMemory = Unit {0}

-- the rows that values of the program stand for
abbrev pub rows_of : List Row → Rows
rows_of rows = map (λ r. (r.name, skeleton_of r.skeleton)) rows
