-- Contexts of worlds beside a set of families; instances of blocks.
use Rattle.std.specs.Prelude.{◌≡◌, ℕ, suc, List, [], ◌∷◌, Bool, false}
use Rattle.lf.specs.Syntax.{LfType}
use Rattle.lf.specs.Substitution.{Image, rename_image, lift, substitute_type, reduce}
use Rattle.lf.specs.Typing.{Signature, IsType}
use Rattle.lf.specs.Variables.{target, under, Values, everything}
use Rattle.lf.specs.Subordination.{Block, Member}

-- A context of the worlds W beside S: a sequence of instances of blocks, and at any place, also between the entries of
-- an instance, single variables whose target family is not in S. `OpenInstance` has the entries so far of an instance that
-- is not whole yet, with what stands for them and for the `some` variables.
mutual
  pub data World (Σ : Signature) (W : List Block) (S : ℕ → Bool) : List LfType → Type 0 where
    no_variables : World Σ W S []
    single_variable : {G : List LfType} {A : LfType} → World Σ W S G → IsType Σ G A → S (target A) ≡ false → World Σ W S (A ∷ G)
    whole_instance : {G : List LfType} {es : List LfType} {θ : ℕ → Image} (B : Block) → Member B W → es ≡ B.entries → OpenInstance Σ W S B G es θ → World Σ W S G

  -- an instance of a block that is not whole yet: the context so far, its entries so far, and what stands for its variables
  pub data OpenInstance (Σ : Signature) (W : List Block) (S : ℕ → Bool) : Block → List LfType → List LfType → (ℕ → Image) → Type 0 where
    begin_instance : {B : Block} {G : List LfType} {θ : ℕ → Image} → World Σ W S G → Values Σ everything B.some G θ → OpenInstance Σ W S B G [] θ
    next_entry : {B : Block} {G es : List LfType} {θ : ℕ → Image} (E : LfType) → OpenInstance Σ W S B G es θ → IsType Σ G (substitute_type reduce θ E) → OpenInstance Σ W S B (substitute_type reduce θ E ∷ G) (E ∷ es) (lift θ)
    single_beside : {B : Block} {G es : List LfType} {θ : ℕ → Image} {A : LfType} → OpenInstance Σ W S B G es θ → IsType Σ G A → S (target A) ≡ false → OpenInstance Σ W S B (A ∷ G) es (λ i. rename_image suc (θ i))

-- a substitution under a list of entries, and the entries with their types changed by it
abbrev pub lift_over : List LfType → (ℕ → Image) → ℕ → Image
lift_over [] θ = θ
lift_over (E ∷ es) θ = lift (lift_over es θ)

abbrev pub instance : List LfType → (ℕ → Image) → List LfType
instance [] θ = []
instance (E ∷ es) θ = substitute_type reduce (lift_over es θ) E ∷ instance es θ

-- a set of variables under a list of entries
abbrev pub under_all : List LfType → (ℕ → Bool) → ℕ → Bool
under_all [] U = U
under_all (E ∷ es) U = under (under_all es U)
