-- The places of a call and of the head of its clause.
use Rattle.std.specs.Prelude.{◌≡◌, ℕ, List, Option, Some, None}
use Rattle.lf.specs.Syntax.{Term, Spine, nil, app, LfType, atom, Kind, kind_pi, star}
use Rattle.lf.specs.Typing.{IsContext, IsSignature, IsType, Signature}
use Rattle.lf.specs.Variables.{target, target_arguments}
use Rattle.lf_checks.specs.Order.{Smaller, argument_at, place_type}
use Rattle.tw_terms.specs.View.{type_of}
use Rattle.tw_order.specs.Scopes.{fixed_in, local_in}
use Rattle.tw_order.specs.Taking.{KindTakes, kind_past}
use Rattle.tw_order.specs.declared.places.Call.{Call}
use Rattle.tw_order.specs.declared.scope.Scope.{Scope}

-- two places of two tuples hold the same argument
abbrev pub SamePlace : Spine → Spine → ℕ → ℕ → Type 0
SamePlace S H i j = (M : Term) × (argument_at i S ≡ Some M) × (argument_at j H ≡ Some M)

-- that of the first is smaller than that of the second, which has the family a
abbrev pub SmallerPlace : Signature → Scope → ℕ → Spine → Spine → ℕ → ℕ → Type 0
SmallerPlace Σ s a S H i j = (M N : Term) × (argument_at i S ≡ Some M) × (argument_at j H ≡ Some N) × (K : Kind) × (Σ.kinds a ≡ Some K) × (X : LfType) × (place_type j H K ≡ Some X) × Smaller Σ s.context.now (local_in s) (fixed_in s) M N X

-- of a goal and an atom, and of a call
abbrev pub IsSameAt : LfType → LfType → ℕ → ℕ → Type 0
IsSameAt A H i j = SamePlace (target_arguments A) (target_arguments H) i j

abbrev pub IsLessAt : Signature → Call → ℕ → ℕ → Type 0
IsLessAt Σ x i j = SmallerPlace Σ x.scope (target (type_of x.head.now)) (target_arguments (type_of x.goal.now)) (target_arguments (type_of x.head.now)) i j

-- the atom at the end of H is typed in this context
pub record AtomStands (Σ : Signature) (C : List LfType) (H : LfType) : Type 0 where
  pub signature : IsSignature Σ
  pub context : IsContext Σ C
  pub is_type : IsType Σ C (atom (target H) (target_arguments H))

-- skeletons allow all these arguments, one after the other
abbrev pub KindTakesAll : Kind → Spine → Type 0
KindTakesAll K nil = Unit {0}
KindTakesAll K (app N S) = KindTakes K N × KindTakesAll (kind_past N K) S

-- the same of the arguments of an atom, by the kind of its family
abbrev pub FamilyTakes : Signature → LfType → Type 0
FamilyTakes Σ H = (K : Kind) → Σ.kinds (target H) ≡ Some K → KindTakesAll K (target_arguments H)

-- the type of place j of an atom's family
abbrev pub IsPlaceType : Signature → LfType → ℕ → LfType → Type 0
IsPlaceType Σ H j X = (K : Kind) × (Σ.kinds (target H) ≡ Some K) × (place_type j (target_arguments H) K ≡ Some X)

-- the type of a kind's first argument
abbrev pub domain_of : Kind → Option LfType
domain_of (kind_pi A K) = Some A
domain_of star = None
