-- The entries of a block in an instance of it: each stands at its place, as a variable of its type.
use Rattle.std.proofs.Common.{◌≡◌, ℕ, List, [], ◌∷◌, refl, sym, ap, ◌∙◌, subst}
use Rattle.std.specs.Prelude.{Bool, true}
use Rattle.lf.specs.Syntax.{LfType}
use Rattle.lf.specs.Substitution.{Image, keep, substitute_type, reduce}
use Rattle.lf.specs.Typing.{Signature, TypeAt, ImageHasType, IsSignature}
use Rattle.lf.specs.Variables.{onto}
use Rattle.lf.specs.Subordination.{Block}
use Rattle.lf.specs.Worlds.{World}
use Rattle.lf_checks.specs.Clause.{among}
use Rattle.lf_cases.specs.Cover.{InstanceIn, place_of, before}
use Rattle.lf_cases.proofs.BlockEntries.{at_place, onto_onto}
use Rattle.lf_cases.proofs.Instances.{Begun, instance_typed, place_among}

-- the context of an entry
pub whole : (B : Block) (later : List LfType) (E : LfType) (es : List LfType) → onto later (E ∷ es) ≡ B.entries → onto B.entries B.some ≡ onto later (E ∷ onto es B.some)
whole B later E es e = ap (λ ds. onto ds B.some) (sym e) ∙ onto_onto later (E ∷ es) B.some

-- the first of the entries that are left, where there is one, stands behind the later ones
abbrev pub Rest : Block → List LfType → List LfType → Type 0
Rest B later es = (D : LfType) (ds : List LfType) → es ≡ D ∷ ds → onto later (D ∷ ds) ≡ B.entries

pub rest_next : (B : Block) (later : List LfType) (D : LfType) (ds : List LfType) → Rest B later (D ∷ ds) → Rest B (onto later (D ∷ [])) ds
rest_next B later D ds e F fs q = onto_onto later (D ∷ []) (F ∷ fs) ∙ ap (λ l. onto later (D ∷ l)) (sym q) ∙ e D ds refl

module _ (Σ : Signature) (ok : IsSignature Σ) {W : List Block} {S : ℕ → Bool} {G : List LfType} (w : World Σ W S G) (B : Block) (φ : ℕ → Image) (at : InstanceIn w B φ) where
  pub begun : Begun Σ ok G B B.entries φ
  begun = instance_typed Σ ok w B φ at

  pub entry_is : (later : List LfType) (E : LfType) (es : List LfType) → onto later (E ∷ es) ≡ B.entries → (u : ℕ) × (φ (place_of later) ≡ keep u)
  entry_is later E es e = begun.kept (place_of later) (subst (λ ds. among ds (place_of later) ≡ true) e (place_among later E es))

  pub entry_type_at : (later : List LfType) (E : LfType) (es : List LfType) → onto later (E ∷ es) ≡ B.entries → (u : ℕ) → φ (place_of later) ≡ keep u → TypeAt G u (substitute_type reduce (before later φ) E)
  entry_type_at later E es e u q =
      let (Z, g, z) = at_place later E (onto es B.some) φ in
      subst (TypeAt G u) z (subst (λ y. ImageHasType Σ G y (substitute_type reduce φ Z)) q (begun.typed.typed (place_of later) Z (subst (λ D. TypeAt D (place_of later) Z) (sym (whole B later E es e)) g) refl))
