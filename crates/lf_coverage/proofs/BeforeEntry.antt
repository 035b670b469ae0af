-- What stands before an entry of a block or of an instance.
use Rattle.std.proofs.Common.{◌≡◌, ℕ, zero, suc, List, [], ◌∷◌, refl}
use Rattle.lf.specs.Syntax.{LfType, Skeleton}
use Rattle.lf.specs.Substitution.{Image, after}
use Rattle.lf.specs.SkeletonTyping.{HeadSkeletons, SubstitutionBySkeletons}
use Rattle.lf.specs.Skeletons.{context_skeletons}
use Rattle.lf.specs.Typing.{Signature, IsTypedSubstitution, IsSignature}
use Rattle.lf.specs.Variables.{onto}
use Rattle.lf_cases.specs.Case.{behind_entries}
use Rattle.lf_cases.specs.Cover.{place_of, before}
use Rattle.lf_coverage.proofs.GroundTyped.{behind_one}

-- What stands before an entry
pub before_next : (later : List LfType) (E : LfType) (φ : ℕ → Image) (i : ℕ) → before (onto later (E ∷ [])) φ i ≡ before later φ (suc i)
before_next [] E φ i = refl
before_next (D ∷ ds) E φ i = before_next ds E (λ j. φ (suc j)) i

pub before_first : (later : List LfType) (E : LfType) (φ : ℕ → Image) → before later φ zero ≡ φ (place_of (onto later (E ∷ [])))
before_first [] E φ = refl
before_first (D ∷ ds) E φ = before_first ds E (λ j. φ (suc j))

pub before_some : (later : List LfType) (E : LfType) (φ : ℕ → Image) (i : ℕ) → behind_entries (onto later (E ∷ [])) φ i ≡ before later φ i
before_some [] E φ i = refl
before_some (D ∷ ds) E φ i = before_some ds E (λ j. φ (suc j)) i

pub behind_before : (later : List LfType) (E : LfType) (ds : List LfType) (φ : ℕ → Image) → behind_entries (onto later (E ∷ ds)) φ ≡ behind_entries ds (before later φ)
behind_before [] E ds φ = refl
behind_before (D ∷ later) E ds φ = behind_before later E ds (λ j. φ (suc j))

pub behind_after : (es : List LfType) (ρ φ : ℕ → Image) (i : ℕ) → behind_entries es (after ρ φ) i ≡ after ρ (behind_entries es φ) i
behind_after [] ρ φ i = refl
behind_after (E ∷ es) ρ φ i = behind_after es ρ (λ j. φ (suc j)) i

pub before_typed : (Σ : Signature) (ok : IsSignature Σ) (later : List LfType) (E : LfType) (L G : List LfType) (φ : ℕ → Image) → IsTypedSubstitution Σ (onto later (E ∷ L)) G φ → IsTypedSubstitution Σ L G (before later φ)
before_typed Σ ok [] E L G φ s = behind_one Σ ok [] (λ C i. absurd i) L G E φ s
before_typed Σ ok (D ∷ later) E L G φ s = before_typed Σ ok later E L G (λ i. φ (suc i)) (behind_one Σ ok [] (λ C i. absurd i) (onto later (E ∷ L)) G D φ s)

-- skeletons of what stands before it
pub before_fits : (κ : HeadSkeletons) (later : List LfType) (E : LfType) (L : List LfType) (Δ : List Skeleton) (φ : ℕ → Image) → SubstitutionBySkeletons κ (context_skeletons (onto later (E ∷ L))) Δ φ → SubstitutionBySkeletons κ (context_skeletons L) Δ (before later φ)
before_fits κ [] E L Δ φ h = λ i t g. h (suc i) t g
before_fits κ (D ∷ ds) E L Δ φ h = before_fits κ ds E L Δ (λ i. φ (suc i)) (λ i t g. h (suc i) t g)
