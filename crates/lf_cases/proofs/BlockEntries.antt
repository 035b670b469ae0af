-- The entries of a block: what stands before one, and where it stands.
use Rattle.std.proofs.Common.{◌≡◌, ℕ, zero, suc, List, [], ◌∷◌, refl, ap, ◌∙◌, inl, inr}
use Rattle.std.specs.Prelude.{true}
use Rattle.lf.specs.Syntax.{LfType, weaken}
use Rattle.lf.specs.Substitution.{Image, substitute_type, reduce}
use Rattle.lf.specs.Typing.{Signature, TypeAt, IsType, IsContext}
use Rattle.lf.specs.Variables.{onto}
use Rattle.lf.specs.Subordination.{Member}
use Rattle.lf.proofs.TypeLaws.{substitute_renamed_type}
use Rattle.lf_checks.specs.Clause.{among}
use Rattle.lf_cases.specs.Cover.{place_of, before}

pub member_onto : (later : List LfType) (E : LfType) (es : List LfType) → Member E (onto later (E ∷ es))
member_onto [] E es = inl refl
member_onto (D ∷ ds) E es = inr (member_onto ds E es)

-- what is outside an entry, in an instance
pub at_place : (later : List LfType) (E : LfType) (O : List LfType) (σ : ℕ → Image) → (X : LfType) × TypeAt (onto later (E ∷ O)) (place_of later) X × (substitute_type reduce σ X ≡ substitute_type reduce (before later σ) E)
at_place [] E O σ = (weaken E, refl, substitute_renamed_type reduce σ suc E)
at_place (D ∷ ds) E O σ = let (X, g, e) = at_place ds E O (λ i. σ (suc i)) in (weaken X, (X, g, refl), substitute_renamed_type reduce σ suc X ∙ e)

pub onto_onto : (X D C : List LfType) → onto (onto X D) C ≡ onto X (onto D C)
onto_onto [] D C = refl
onto_onto (A ∷ X) D C = ap (λ Y. A ∷ Y) (onto_onto X D C)

pub index_of : List LfType → ℕ → ℕ
index_of [] k = suc k
index_of (D ∷ ds) k = suc (index_of ds k)

pub before_at : (later : List LfType) (θ : ℕ → Image) (k : ℕ) → before later θ k ≡ θ (index_of later k)
unfolding index_of
before_at [] θ k = refl
before_at (D ∷ ds) θ k = before_at ds (λ i. θ (suc i)) k

pub among_at : (later : List LfType) (E : LfType) (es : List LfType) (k : ℕ) → among (onto later (E ∷ es)) (index_of later k) ≡ among es k
unfolding index_of
among_at [] E es k = refl
among_at (D ∷ ds) E es k = among_at ds E es k

pub among_type : (es O : List LfType) (k : ℕ) → among es k ≡ true → (X : LfType) × TypeAt (onto es O) k X
among_type [] O k e = absurd cc
among_type (E ∷ es) O zero e = (weaken E, refl)
among_type (E ∷ es) O (suc k) e = let (X, g) = among_type es O k e in (weaken X, (X, g, refl))

pub drop_typed : (Σ : Signature) (later : List LfType) (E : LfType) (O : List LfType) → IsContext Σ (onto later (E ∷ O)) → IsContext Σ O × IsType Σ O E
drop_typed Σ [] E O (c, t) = (c, t)
drop_typed Σ (D ∷ ds) E O c = drop_typed Σ ds E O c.0

-- an index of one of a block's entries is the place of that entry
pub entry_at : (ds : List LfType) (k : ℕ) → among ds k ≡ true → (later : List LfType) × (E : LfType) × (es : List LfType) × (onto later (E ∷ es) ≡ ds) × (place_of later ≡ k)
entry_at [] k e = absurd cc
entry_at (D ∷ ds) zero e = ([], D, ds, refl, refl)
entry_at (D ∷ ds) (suc k) e = let (later, E, es, p, q) = entry_at ds k e in (D ∷ later, E, es, ap (λ x. D ∷ x) p, ap suc q)
