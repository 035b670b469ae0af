-- What is read off the bodies of declarations.
use Rattle.std.specs.Prelude.{◌≡◌, ℕ, zero, suc, List, [], ◌∷◌, ◌⊎◌}
use Rattle.lf.specs.Entries.{Body, declare_constant, declare_definition, declare_family}
use Rattle.lf.specs.Syntax.{Kind, LfType, kind_pi, star}
use Rattle.tw_metas.specs.State.{State}
use Rattle.tw_putting.specs.Stores.{PutsDeep, PutsDeepType}
use Rattle.tw_abstract.specs.Reading.{IsReadAs, IsTypeReadAs, TermStands, TypeStands}

-- `ms` are the quantifiers, the outermost first, and k counts the binders that were passed
module _ (s : State) (ms : List ℕ) where
  abbrev pub IsKindReadAs : ℕ → Kind → Kind → Type 0
  IsKindReadAs k (kind_pi A K) (kind_pi B L) = IsTypeReadAs s ms k A B × IsKindReadAs (suc k) K L
  IsKindReadAs k star star = Unit {0}
  IsKindReadAs k _ _ = ⊥

  abbrev pub IsBodyReadAs : Body → Body → Type 0
  IsBodyReadAs (declare_family K) (declare_family L) = IsKindReadAs zero K L
  IsBodyReadAs (declare_constant A) (declare_constant B) = IsTypeReadAs s ms zero A B
  IsBodyReadAs (declare_definition M A b) (declare_definition N B c) = (b ≡ c) × IsReadAs s ms zero M N × IsTypeReadAs s ms zero A B
  IsBodyReadAs _ _ = ⊥

-- the store types each part
abbrev pub KindStands : State → ℕ → Kind → Type 0
KindStands s k (kind_pi A K) = TypeStands s k A × KindStands s (suc k) K
KindStands s k star = Unit {0}

abbrev pub BodyStands : State → Body → Type 0
BodyStands s (declare_family K) = KindStands s zero K
BodyStands s (declare_constant A) = TypeStands s zero A
BodyStands s (declare_definition M A b) = TermStands s zero M × TypeStands s zero A

-- with the values put in, a part is deeper than 4,096
abbrev pub KindIsDeep : State → ℕ → Kind → Type 0
KindIsDeep s k (kind_pi A K) = PutsDeepType s k A ⊎ KindIsDeep s (suc k) K
KindIsDeep s k star = ⊥

abbrev pub BodyIsDeep : State → Body → Type 0
BodyIsDeep s (declare_family K) = KindIsDeep s zero K
BodyIsDeep s (declare_constant A) = PutsDeepType s zero A
BodyIsDeep s (declare_definition M A b) = PutsDeep s zero M ⊎ PutsDeepType s zero A

-- the kind that takes arguments of these types, the first one in front
abbrev pub kind_of_types : List LfType → Kind
kind_of_types [] = star
kind_of_types (A ∷ As) = kind_pi A (kind_of_types As)
