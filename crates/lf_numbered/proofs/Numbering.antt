-- A case and its numbered form have the same ground instances.
use Rattle.std.proofs.Common.{◌≡◌, ℕ, zero, suc, List, [], ◌∷◌, ◌++◌, length, ◌+◌, ◌<◌, Option, Bool, true, false, cond, refl, sym, ap, ◌∙◌, subst, arith}
use Rattle.lf.specs.Syntax.{LfType, skeleton}
use Rattle.lf.specs.Substitution.{Image, keep, put, substitute, substitute_type, reduce}
use Rattle.lf.specs.AtOnce.{in_front}
use Rattle.lf.specs.Skeletons.{constant_skeletons, context_skeletons}
use Rattle.lf.specs.Typing.{Signature, TypeAt, HasType, IsSignature}
use Rattle.lf.specs.Variables.{onto, same_number}
use Rattle.lf.specs.Subordination.{Block, AreTypedBlocks}
use Rattle.lf.specs.Worlds.{World}
use Rattle.lf.specs.Extension.{Extends}
use Rattle.lf.proofs.Checker.{number_itself}
use Rattle.lf.proofs.ToSkeletons.{variable_has_skeleton}
use Rattle.lf_checks.specs.Tests.{choose}
use Rattle.lf_cases.specs.Pattern.{has_block_variable, FirstInstance}
use Rattle.lf_cases.specs.Cover.{InstanceIn}
use Rattle.lf_cases.specs.Case.{Item, free_variable, block_variable, items_context, entries_in_front, behind_entries, as_term, IsGroundInstance, Case}
use Rattle.lf_cases.specs.Missing.{AreTypedItems}
use Rattle.lf_numbered.specs.EntryConstants.{IsFreeFrom}
use Rattle.lf_numbered.specs.EntryLaws.{NumberedHasSameInstances}
use Rattle.lf_numbered.specs.NumberedCase.{AreGroundValues, AreInstances, IsNumberedInstance}
use Rattle.lf_numbered.specs.Numbering.{own_spine, numbering, numbered, HasSameValues}
use Rattle.lf_numbered.specs.OwnTerms.{BlockVariable, blocks_of, rename_blocks}
use Rattle.lf_numbered.specs.Reading.{read, entry_reading}
use Rattle.lf_numbered.proofs.EntrySignature.{not_same}
use Rattle.lf_numbered.proofs.EntryValues.{read_as_term, put_term}
use Rattle.lf_numbered.proofs.ReadValues.{values_fit}
use Rattle.lf_numbered.proofs.Reading.{read_image}
use Rattle.lf_numbered.proofs.NumberingBlocks.{blocks_renamed}
use Rattle.lf_numbered.proofs.NumberingSteps.{HasInstances, f, Leads, leads_free, leads_block, Agrees, C, type_same, moved_back, free_step, split_instances, bs, k, m, terms_to, block_step}

instances_of : ℕ → {Σ' : Signature} {W : List Block} {S : ℕ → Bool} {G : List LfType} (w : World Σ' W S G) (I : List Item) (σ : ℕ → Image) → IsGroundInstance w I σ → ℕ → ℕ → Image
instances_of first w [] σ g = λ k. keep
instances_of first w (free_variable A ∷ I) σ (N, τ, g, n, e) = instances_of first w I τ g
instances_of first w (block_variable B υ ∷ I) σ (φ, τ, g, i, s, e) = λ k. cond (same_number k (zero + length (blocks_of (numbering first I).blocks))) φ (instances_of first w I τ g k)

module _ (first : ℕ) {Σ' : Signature} {W : List Block} {S : ℕ → Bool} {G : List LfType} (w : World Σ' W S G) where
  length_with : (bs : List BlockVariable) (b : BlockVariable) → length (blocks_of (bs ++ b ∷ [])) ≡ suc (length (blocks_of bs))
  length_with [] b = refl
  length_with (d ∷ bs) b = ap suc (length_with bs b)

  instances_stay : (θ φ : ℕ → ℕ → Image) (I : List Item) (σ : ℕ → Image) (g : IsGroundInstance w I σ) → ((k : ℕ) → k < length (blocks_of (numbering first I).blocks) → θ k ≡ φ k) → HasInstances θ first w I σ g → HasInstances φ first w I σ g
  instances_stay θ φ [] σ g h i = tt
  instances_stay θ φ (free_variable A ∷ I) σ (N, τ, g, n, e) h i = instances_stay θ φ I τ g (λ k l. h k (subst (λ j. k < j) (sym (ap length (blocks_renamed suc (numbering first I).blocks))) l)) i
  instances_stay θ φ (block_variable B υ ∷ I) σ (ψ, τ, g, i, s, e) h (q, j) =
      let b : BlockVariable = record { block = B; terms = own_spine B υ (numbering first I) } in
      let l : length (blocks_of ((numbering first I).blocks ++ b ∷ [])) ≡ suc (length (blocks_of (numbering first I).blocks)) = length_with (numbering first I).blocks b in
      (q ∙ h (zero + length (blocks_of (numbering first I).blocks)) (omega arith), instances_stay θ φ I τ g (λ k p. h k (omega (arith, p))) j)

  instances_are : (I : List Item) (σ : ℕ → Image) (g : IsGroundInstance w I σ) → HasInstances (instances_of first w I σ g) first w I σ g
  unfolding instances_of
  instances_are [] σ g = tt
  instances_are (free_variable A ∷ I) σ (N, τ, g, n, e) = instances_are I τ g
  instances_are (block_variable B υ ∷ I) σ (φ, τ, g, i, s, e) =
      let k : ℕ = zero + length (blocks_of (numbering first I).blocks) in (
        sym (ap (λ b. cond b φ (instances_of first w I τ g k)) (number_itself k)),
        instances_stay (instances_of first w I τ g) (λ j. cond (same_number j k) φ (instances_of first w I τ g j)) I τ g (λ j l. sym (ap (λ b. cond b φ (instances_of first w I τ g j)) (not_same j k (λ q. omega (arith, l, q))))) (instances_are I τ g),
      )

-- THE law
module _ (Σ Σ' : Signature) (ok : IsSignature Σ) (S : ℕ → Bool) (x : Extends S Σ Σ') (W : List Block) (typed : AreTypedBlocks Σ W) (first : ℕ) (free : IsFreeFrom Σ first) {G : List LfType} (w : World Σ' W S G) (Bs : List Block) (θ : ℕ → ℕ → Image) where
  abbrev Same : List Item → (ℕ → Image) → (ℕ → Image) → Type 0
  Same I τ ρ = Agrees Σ Σ' ok S x W typed first free w Bs θ I τ ρ

  abbrev Front : List Item → Type 0
  Front I = Leads Σ Σ' ok S x W typed first free w Bs θ I

  start : (σ ρ : ℕ → Image) → ρ ≡ keep → Same [] σ ρ
  start σ ρ e = record { ground = tt; numbers = tt; values = e; instances = tt; fits = λ i t g. absurd g; agree = λ i A g. absurd g }

  forward : (I : List Item) → AreTypedItems Σ W I → Front I → (σ : ℕ → Image) (g : IsGroundInstance w I σ) → HasInstances θ first w I σ g → (ρ : ℕ → Image) × Same I σ ρ
  forward [] a l σ g h = (keep, start σ keep refl)
  forward (free_variable A ∷ I) (a, t) l σ (N, τ, g, n, e) h =
      let (ρ, r) = forward I a (leads_free Σ Σ' ok S x W typed first free w Bs θ A I l) τ g h in
      let ρ' : ℕ → Image = in_front (put (skeleton (substitute_type reduce (numbering first I).images A)) N) ρ in
      (ρ', subst (λ z. Same (free_variable A ∷ I) z ρ') (sym e) (free_step Σ Σ' ok S x W typed first free w Bs θ I a A t τ ρ r N n))
  forward (block_variable B υ ∷ I) (a, m, v) l σ (φ, τ, g, i, s, e) (q, h) =
      let (Cs, d) = leads_block Σ Σ' ok S x W typed first free w Bs θ B υ I l in
      let k : ℕ = zero + length (blocks_of (numbering first I).blocks) in
      let (ρ, r) = forward I a (B ∷ Cs, d) τ g h in
      (ρ, subst (λ z. Same (block_variable B υ ∷ I) z ρ) (sym (e ∙ ap (λ ψ. entries_in_front B.entries ψ τ) q)) (block_step Σ Σ' ok S x W typed first free w Bs θ I a B υ v (Cs, d) τ ρ r (subst (InstanceIn w B) q i) (λ j A c. ap (λ ψ. as_term (skeleton A) (behind_entries B.entries ψ j)) (sym q) ∙ s j A c)))

  backward : (I : List Item) → AreTypedItems Σ W I → Front I → (ρ : ℕ → Image) → AreGroundValues Σ' G (entry_reading first Bs θ) (numbering first I).variables ρ → AreInstances w (entry_reading first Bs θ (length (numbering first I).variables)) ρ θ zero (numbering first I).blocks → (σ : ℕ → Image) × Same I σ ρ
  backward [] a l ρ v h = (keep, start keep ρ v)
  backward (free_variable A ∷ I) (a, t) l ρ (N, ρ₀, v, n, e) h =
      let A' : LfType = substitute_type reduce (numbering first I).images A in
      let h' = moved_back Σ Σ' ok S x W typed first free w Bs θ (length (numbering first I).variables) ρ₀ (put (skeleton A') N) zero (numbering first I).blocks (subst (λ z. AreInstances w (entry_reading first Bs θ (suc (length (numbering first I).variables))) z θ zero (rename_blocks suc (numbering first I).blocks)) e h) in
      let (τ, r) = backward I a (leads_free Σ Σ' ok S x W typed first free w Bs θ A I l) ρ₀ v h' in
      (in_front (put (skeleton A) N) τ, subst (Same (free_variable A ∷ I) (in_front (put (skeleton A) N) τ)) (sym e) (free_step Σ Σ' ok S x W typed first free w Bs θ I a A t τ ρ₀ r N (subst (HasType Σ' G N) (sym (type_same Σ Σ' ok S x W typed first free w Bs θ I a τ ρ₀ r A t)) n)))
  backward (block_variable B υ ∷ I) (a, m, u) l ρ v h =
      let (Cs, d) = leads_block Σ Σ' ok S x W typed first free w Bs θ B υ I l in
      let k : ℕ = zero + length (blocks_of (numbering first I).blocks) in
      let b : BlockVariable = record { block = B; terms = own_spine B υ (numbering first I) } in
      let (h', (i, s)) = split_instances Σ Σ' ok S x W typed first free w Bs θ (entry_reading first Bs θ (length (numbering first I).variables)) ρ b zero (numbering first I).blocks h in
      let (τ, r) = backward I a (B ∷ Cs, d) ρ v h' in
      (entries_in_front B.entries (θ k) τ, block_step Σ Σ' ok S x W typed first free w Bs θ I a B υ u (Cs, d) τ ρ r i (terms_to Σ Σ' ok S x W typed first free w Bs θ I a B υ u (Cs, d) τ ρ r s))

  same_values : (I : List Item) (a : AreTypedItems Σ W I) (σ ρ : ℕ → Image) → Same I σ ρ → (i : ℕ) (A : LfType) → TypeAt (items_context I) i A → as_term (skeleton A) (σ i) ≡ substitute reduce ρ (read (entry_reading first Bs θ (length (numbering first I).variables)) (as_term (skeleton A) ((numbering first I).images i)))
  same_values I a σ ρ r i A g =
      let f : ℕ → Option (ℕ × ℕ) = entry_reading first Bs θ (length (numbering first I).variables) in
      let y : Image = (numbering first I).images i in
      r.agree i A g ∙ sym (ap (substitute reduce ρ) (read_as_term f (skeleton A) y) ∙ put_term (constant_skeletons Σ') (context_skeletons (onto (numbering first I).variables G)) (context_skeletons G) ρ (values_fit Σ' x.ok G first Bs θ (numbering first I).variables ρ r.values) (skeleton A) (read_image f y) (r.fits i (skeleton A) (variable_has_skeleton (items_context I) i A g)))

-- The first block variable has the number 0.
pub no_number : (first : ℕ) (I : List Item) → has_block_variable I ≡ false → length (blocks_of (numbering first I).blocks) ≡ 0
no_number first [] e = refl
no_number first (free_variable A ∷ I) e = ap length (blocks_renamed suc (numbering first I).blocks) ∙ no_number first I e
no_number first (block_variable B υ ∷ I) e = absurd cc

pub first_is_zero : (θ : ℕ → ℕ → Image) (first : ℕ) {Σ' : Signature} {W : List Block} {S : ℕ → Bool} {G : List LfType} (w : World Σ' W S G) (I : List Item) (σ : ℕ → Image) (g : IsGroundInstance w I σ) → HasInstances θ first w I σ g → (B : Block) (φ : ℕ → Image) → FirstInstance w I σ g B φ → φ ≡ θ zero
first_is_zero θ first w [] σ g h B φ f = absurd f
first_is_zero θ first w (free_variable A ∷ I) σ (N, τ, g, n, e) h B φ f = first_is_zero θ first w I τ g h B φ f
first_is_zero θ first w (block_variable D υ ∷ I) σ (ψ, τ, g, i, s, e) (q, h) B φ f = by (λ k. first_is_zero θ first w I τ g h B φ k) (has_block_variable I) refl f
  where
    none : (k : ℕ) → k ≡ 0 → zero + k ≡ zero
    none k e = omega (arith, e)

    by : (FirstInstance w I τ g B φ → φ ≡ θ zero) → (b : Bool) → has_block_variable I ≡ b → choose b (FirstInstance w I τ g B φ) ((D ≡ B) × (ψ ≡ φ)) → φ ≡ θ zero
    by ih true c k = ih k
    by ih false c (d, k) = sym k ∙ q ∙ ap θ (none (length (blocks_of (numbering first I).blocks)) (no_number first I c))

nothing_behind : (Bs : List Block) → Bs ≡ Bs ++ []
nothing_behind [] = refl
nothing_behind (B ∷ Bs) = ap (λ Cs. B ∷ Cs) (nothing_behind Bs)

-- Each ground instance is one of the numbered form, and back, with the instances of block variables by number.
module _ (Σ Σ' : Signature) (ok : IsSignature Σ) (S : ℕ → Bool) (x : Extends S Σ Σ') (W : List Block) (typed : AreTypedBlocks Σ W) (first : ℕ) (free : IsFreeFrom Σ first) (C : Case) (a : AreTypedItems Σ W C.items) {G : List LfType} (w : World Σ' W S G) where
  abbrev Cs : List Block
  Cs = blocks_of (numbering first C.items).blocks

  pub to_number : (σ : ℕ → Image) (g : IsGroundInstance w C.items σ) → (θ : ℕ → ℕ → Image) × (ρ : ℕ → Image) × IsNumberedInstance w first (numbered first C) θ ρ × HasSameValues first C σ θ ρ × HasInstances θ first w C.items σ g
  to_number σ g =
      let θ : ℕ → ℕ → Image = instances_of first w C.items σ g in
      let (ρ, r) = forward Σ Σ' ok S x W typed first free w Cs θ C.items a ([], nothing_behind Cs) σ g (instances_are first w C.items σ g) in
      (θ, ρ, record { values = r.values; instances = r.instances }, same_values Σ Σ' ok S x W typed first free w Cs θ C.items a σ ρ r, instances_are first w C.items σ g)

  pub from_number : (θ : ℕ → ℕ → Image) (ρ : ℕ → Image) → IsNumberedInstance w first (numbered first C) θ ρ → (σ : ℕ → Image) × (g : IsGroundInstance w C.items σ) × HasSameValues first C σ θ ρ × HasInstances θ first w C.items σ g
  from_number θ ρ n =
      let (σ, r) = backward Σ Σ' ok S x W typed first free w Cs θ C.items a ([], nothing_behind Cs) ρ n.values n.instances in
      (σ, r.ground, same_values Σ Σ' ok S x W typed first free w Cs θ C.items a σ ρ r, r.numbers)

pub numbered_has_same_instances : NumberedHasSameInstances
numbered_has_same_instances Σ Σ' ok S x W typed first free C a G w = (
  λ σ g. let (θ, ρ, n, v, h) = to_number Σ Σ' ok S x W typed first free C a w σ g in (θ, ρ, n, v, first_is_zero θ first w C.items σ g h),
  λ θ ρ n. let (σ, g, v, h) = from_number Σ Σ' ok S x W typed first free C a w θ ρ n in (σ, g, v, first_is_zero θ first w C.items σ g h),
)
