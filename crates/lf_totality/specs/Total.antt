-- Total and lasting families.
use Rattle.std.specs.Prelude.{◌≡◌, ℕ, List, Bool, Some}
use Rattle.lf.specs.Syntax.{Term, Spine, LfType, Kind, atom}
use Rattle.lf.specs.Typing.{Signature, HasType, SpineFitsKind}
use Rattle.lf.specs.Variables.{everything}
use Rattle.lf.specs.Subordination.{Block}
use Rattle.lf.specs.Worlds.{World}
use Rattle.lf.specs.Extension.{Extends}
use Rattle.lf_checks.specs.Marks.{Mark, input_places, HasSoundMarks, NoneFree, TypedPlaces, SamePlaces}

-- In G, each tuple of typed inputs has outputs and an inhabitant.
abbrev pub TotalAt : Signature → List Mark → ℕ → List LfType → Type 0
TotalAt Σ m a G = (K : Kind) (S : Spine) → Σ.kinds a ≡ Some K → TypedPlaces Σ (input_places m) G S K → (T : Spine) × (M : Term) × SamePlaces (input_places m) S T × SpineFitsKind Σ G T K × HasType Σ G M (atom a T)

-- the family is declared, and its marks are sound, each an input or an output
abbrev pub HasTotalMarks : Signature → ℕ → List Mark → Type 0
HasTotalMarks Σ a m = HasSoundMarks Σ a m × NoneFree m

-- Total: so it is in every context of the worlds W.
abbrev pub Total : Signature → ℕ → List Mark → List Block → Type 0
Total Σ a m W = HasTotalMarks Σ a m × ((G : List LfType) → World Σ W everything G → TotalAt Σ m a G)

-- Lasting: the same in every legal extension over S and every context of W beside S.
abbrev pub Lasting : Signature → ℕ → List Mark → List Block → (ℕ → Bool) → Type 0
Lasting Σ a m W S = HasTotalMarks Σ a m × ((Σ' : Signature) → Extends S Σ Σ' → (G : List LfType) → World Σ' W S G → TotalAt Σ' m a G)
