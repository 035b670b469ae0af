-- What stands outside a clause in a case stands so in each ground instance of the case: a block variable stands for an instance.
use Rattle.std.proofs.Common.{◌≡◌, ℕ, zero, suc, List, [], ◌∷◌, length, inl, inr, refl, sym, ap, ap₂, ◌∙◌, subst}
use Rattle.std.specs.Prelude.{Bool}
use Rattle.lf.specs.Syntax.{LfType, skeleton, weaken}
use Rattle.lf.specs.Substitution.{Image, keep, put, rename_image, substitute, substitute_image, reduce, after}
use Rattle.lf.specs.AtOnce.{shift_by}
use Rattle.lf.specs.Typing.{Signature, TypeAt, ImageHasType, IsTypedSubstitution, IsSignature}
use Rattle.lf.specs.Variables.{onto}
use Rattle.lf.specs.Subordination.{Block}
use Rattle.lf.specs.Worlds.{World, lift_over}
use Rattle.lf.proofs.Renaming.{substitute_renamed}
use Rattle.lf.proofs.TypeLaws.{skeleton_renamed, substitute_renamed_type}
use Rattle.lf_checks.specs.Clause.{Clause, entry_clause}
use Rattle.lf_cases.specs.Cover.{InstanceIn, before, AgreesOutside}
use Rattle.lf_cases.specs.Case.{Item, free_variable, block_variable, entries_in_front, behind_entries, as_term, IsGroundInstance}
use Rattle.lf_cases.specs.Missing.{BlockAmong}
use Rattle.lf_cases.proofs.BlockEntries.{onto_onto}
use Rattle.lf_totality.proofs.Core.{out_index, outer_at}
use Rattle.lf_cases.proofs.Instances.{instance_typed}
use Rattle.lf_coverage.proofs.GroundTyped.{past_one}
use Rattle.lf_coverage.proofs.SameInstance.{front_behind}
use mathlib.Core.Path.{fun_ext}

past_shift : (es : List LfType) (φ τ : ℕ → Image) (x : Image) → substitute_image (entries_in_front es φ τ) (rename_image (shift_by (length es)) x) ≡ substitute_image τ x
past_shift es φ τ (keep j) = front_behind es φ τ j
past_shift es φ τ (put a N) = ap (put a) (substitute_renamed reduce (entries_in_front es φ τ) (shift_by (length es)) N ∙ ap (λ f. substitute reduce f N) (fun_ext (λ i. front_behind es φ τ i)))

entries_like : (es O : List LfType) (θ υ τ : ℕ → Image) → ((i : ℕ) (A : LfType) → TypeAt O i A → as_term (skeleton A) (behind_entries es θ i) ≡ as_term (skeleton A) (after τ υ i)) → (i : ℕ) (A : LfType) → TypeAt (onto es O) i A → as_term (skeleton A) (after (entries_in_front es θ τ) (lift_over es υ) i) ≡ as_term (skeleton A) (θ i)
entries_like [] O θ υ τ h i A g = sym (h i A g)
entries_like (E ∷ es) O θ υ τ h zero A g = refl
entries_like (E ∷ es) O θ υ τ h (suc i) A (C, g, e) =
    ap₂ as_term (ap skeleton e ∙ skeleton_renamed suc C) (past_one (θ zero) (entries_in_front es (λ k. θ (suc k)) τ) (lift_over es υ i))
    ∙ entries_like es O (λ k. θ (suc k)) υ τ h i C g
    ∙ ap (λ a. as_term a (θ (suc i))) (sym (ap skeleton e ∙ skeleton_renamed suc C))

module _ {Σ : Signature} {W : List Block} {S : ℕ → Bool} {G : List LfType} (w : World Σ W S G) where
  -- what stands for the variables of a block variable of the items, as terms
  abbrev pub Stood : (ℕ → Image) → Block → (ℕ → Image) → Type 0
  Stood σ B θ = (φ : ℕ → Image) × InstanceIn w B φ × ((k : ℕ) (X : LfType) → TypeAt (onto B.entries B.some) k X → as_term (skeleton X) (φ k) ≡ as_term (skeleton X) (after σ θ k))

  pub stood : (I : List Item) (σ : ℕ → Image) → IsGroundInstance w I σ → (B : Block) (θ : ℕ → Image) → BlockAmong I B θ → Stood σ B θ
  stood [] σ g B θ b = absurd b
  stood (free_variable A ∷ I) σ (N, τ, g, n, e) B θ (υ, b, q) =
      let (φ, i, h) = stood I τ g B υ b in
      (φ, i, λ k X t. h k X t ∙ ap (as_term (skeleton X)) (sym (ap₂ (λ (s : ℕ → Image) (f : ℕ → Image). substitute_image s (f k)) e q ∙ past_one (put (skeleton A) N) τ (υ k))))
  stood (block_variable C υ ∷ I) σ (φ, τ, g, i, s, e) B θ (inl (p, q)) = (
    φ,
    subst (λ D. InstanceIn w D φ) p i,
    subst (λ D. (k : ℕ) (X : LfType) → TypeAt (onto D.entries D.some) k X → as_term (skeleton X) (φ k) ≡ as_term (skeleton X) (after σ θ k)) p (λ k X t. sym (ap (as_term (skeleton X)) (ap₂ (λ (s : ℕ → Image) (f : ℕ → Image). substitute_image s (f k)) e q) ∙ entries_like C.entries C.some φ υ τ s k X t)),
  )
  stood (block_variable C υ ∷ I) σ (φ, τ, g, i, s, e) B θ (inr (ψ, b, q)) =
      let (χ, j, h) = stood I τ g B ψ b in
      (χ, j, λ k X t. h k X t ∙ ap (as_term (skeleton X)) (sym (ap₂ (λ (s : ℕ → Image) (f : ℕ → Image). substitute_image s (f k)) e q ∙ past_shift C.entries φ τ (ψ k))))

-- Before an entry.
abbrev pub entry_index : List LfType → ℕ → ℕ
entry_index [] k = suc k
entry_index (D ∷ ds) k = suc (entry_index ds k)

pub before_is : (later : List LfType) (θ : ℕ → Image) (k : ℕ) → before later θ k ≡ θ (entry_index later k)
before_is [] θ k = refl
before_is (D ∷ ds) θ k = before_is ds (λ i. θ (suc i)) k

pub index_type : (later : List LfType) (E : LfType) (C : List LfType) (k : ℕ) (X : LfType) → TypeAt C k X → (Y : LfType) × TypeAt (onto later (E ∷ C)) (entry_index later k) Y × (skeleton Y ≡ skeleton X)
index_type [] E C k X g = (weaken X, (X, g, refl), skeleton_renamed suc X)
index_type (D ∷ ds) E C k X g = let (Y, h, e) = index_type ds E C k X g in (weaken Y, (Y, h, refl), skeleton_renamed suc Y ∙ e)

behind_one : (Σ : Signature) (C G : List LfType) (X : LfType) (θ : ℕ → Image) → IsTypedSubstitution Σ (X ∷ C) G θ → IsTypedSubstitution Σ C G (λ i. θ (suc i))
behind_one Σ C G X θ t i A g = subst (ImageHasType Σ G (θ (suc i))) (substitute_renamed_type reduce θ suc A) (t (suc i) (weaken A) (A, g, refl))

pub before_typed : (Σ : Signature) (G later : List LfType) (E : LfType) (C : List LfType) (θ : ℕ → Image) → IsTypedSubstitution Σ (onto later (E ∷ C)) G θ → IsTypedSubstitution Σ C G (before later θ)
before_typed Σ G [] E C θ t = behind_one Σ C G E θ t
before_typed Σ G (D ∷ ds) E C θ t = before_typed Σ G ds E C (λ i. θ (suc i)) (behind_one Σ (onto ds (E ∷ C)) G D θ t)

-- What stands outside a clause in the context of a ground instance: typed, and the same, as terms, as what the values of the clause give.
pub record Outer (Σ : Signature) (G : List LfType) (c : Clause) (σ τ outer : ℕ → Image) : Type 0 where
  pub typed : IsTypedSubstitution Σ c.outer G outer
  pub same : (k : ℕ) (X : LfType) → TypeAt c.outer k X → as_term (skeleton X) (substitute_image σ (τ (out_index c.type k))) ≡ as_term (skeleton X) (outer k)

-- before an entry, of images of its block
pub entry_outer_of : (Σ : Signature) (G : List LfType) (B : Block) (later : List LfType) (E : LfType) (es : List LfType) → onto later (E ∷ es) ≡ B.entries → (σ τ θ φ : ℕ → Image) → IsTypedSubstitution Σ (onto B.entries B.some) G φ → ((k : ℕ) (X : LfType) → TypeAt (onto B.entries B.some) k X → as_term (skeleton X) (φ k) ≡ as_term (skeleton X) (after σ θ k)) → AgreesOutside (entry_clause B es E) τ (before later θ) → Outer Σ G (entry_clause B es E) σ τ (before later φ)
entry_outer_of Σ G B later E es q σ τ θ φ t h agrees =
    let shape : onto B.entries B.some ≡ onto later (E ∷ onto es B.some) = ap (λ D. onto D B.some) (sym q) ∙ onto_onto later (E ∷ es) B.some in
    record {
      typed = before_typed Σ G later E (onto es B.some) φ (subst (λ C. IsTypedSubstitution Σ C G φ) shape t);
      same = λ k X t. let (Y, y, f) = index_type later E (onto es B.some) k X t in
          ap (λ z. as_term (skeleton X) (substitute_image σ z)) (sym (outer_at E τ k) ∙ agrees k X t ∙ before_is later θ k)
          ∙ ap (λ a. as_term a (after σ θ (entry_index later k))) (sym f)
          ∙ sym (h (entry_index later k) Y (subst (λ C. TypeAt C (entry_index later k) Y) (sym shape) y))
          ∙ ap (λ a. as_term a (φ (entry_index later k))) f
          ∙ ap (as_term (skeleton X)) (sym (before_is later φ k));
    }

-- of an instance of the block in a context
pub entry_outer : (Σ : Signature) → IsSignature Σ → {W : List Block} {S : ℕ → Bool} {G : List LfType} (w : World Σ W S G) (B : Block) (later : List LfType) (E : LfType) (es : List LfType) → onto later (E ∷ es) ≡ B.entries → (σ τ θ φ : ℕ → Image) → InstanceIn w B φ → ((k : ℕ) (X : LfType) → TypeAt (onto B.entries B.some) k X → as_term (skeleton X) (φ k) ≡ as_term (skeleton X) (after σ θ k)) → AgreesOutside (entry_clause B es E) τ (before later θ) → Outer Σ G (entry_clause B es E) σ τ (before later φ)
entry_outer Σ ok {G = G} w B later E es q σ τ θ φ i h agrees = entry_outer_of Σ G B later E es q σ τ θ φ (λ k X t. (instance_typed Σ ok w B φ i).typed.typed k X t refl) h agrees
