-- The heads of a term in a context of worlds: constants, local variables, and entries of instances.
use Rattle.std.specs.Prelude.{◌≡◌, ℕ, List, ◌∷◌, length, Bool, ◌⊎◌, ◌<◌, ◌+◌, Some}
use Rattle.lf.specs.Syntax.{Head, constant, variable, LfType}
use Rattle.lf.specs.Substitution.{Image, keep}
use Rattle.lf.specs.Typing.{Signature, TypeAt}
use Rattle.lf.specs.Variables.{target, onto}
use Rattle.lf.specs.Subordination.{Block, Member}
use Rattle.lf.specs.Worlds.{World}
use Rattle.lf_cases.specs.Cover.{InstanceIn, place_of}

-- Variable i of a context of worlds is the entry E, with the target b, of an instance: what stands for this entry in it.
abbrev pub EntryIn : {Σ : Signature} {W : List Block} {S : ℕ → Bool} {G : List LfType} → World Σ W S G → ℕ → ℕ → Type 0
EntryIn {W = W} w i b = (B : Block) × Member B W × (later : List LfType) × (E : LfType) × (es : List LfType) × (onto later (E ∷ es) ≡ B.entries) × (target E ≡ b) × (θ : ℕ → Image) × InstanceIn w B θ × (θ (place_of later) ≡ keep i)

-- The head h of a term of a family b, over the local context D in the context of w: a constant of Σ, a local variable, or an entry
-- of an instance of the context, each with the target b.
abbrev pub HeadIsKnown : Signature → List LfType → {Σ' : Signature} {W : List Block} {S : ℕ → Bool} {G : List LfType} → World Σ' W S G → Head → ℕ → Type 0
HeadIsKnown Σ D {G = G} w h b = ((k : ℕ) × (U : LfType) × (h ≡ constant k) × (Σ.types k ≡ Some U) × (target U ≡ b)) ⊎ ((i : ℕ) × (A : LfType) × (h ≡ variable i) × (i < length D) × TypeAt (onto D G) i A × (target A ≡ b)) ⊎ ((j : ℕ) × (h ≡ variable (j + length D)) × EntryIn w j b)
