-- What stands outside a clause in a case of its outputs, the first block variable, stands for the first instance of a ground instance.
use Rattle.std.proofs.Common.{◌≡◌, ℕ, zero, suc, List, [], ◌∷◌, ◌+◌, length, inl, inr, refl, sym, ap, ap₂, ◌∙◌, subst, arith}
use Rattle.std.specs.Prelude.{Bool, true, false, Some, None}
use Rattle.lf.specs.Eta.{arity, eta_arguments, eta_long, lambdas}
use Rattle.lf.specs.Syntax.{LfType, Skeleton, Spine, root, skeleton, variable, weaken, rename_type}
use Rattle.lf.proofs.AtOnce.{eta_at_once}
use Rattle.lf.specs.Substitution.{Image, keep, rename_image, substitute_image}
use Rattle.lf.specs.AtOnce.{shift_by}
use Rattle.lf.specs.Typing.{Signature, TypeAt, IsSignature}
use Rattle.lf.specs.Variables.{onto}
use Rattle.lf.specs.Subordination.{Block}
use Rattle.lf.specs.Worlds.{World, lift_over, instance}
use Rattle.lf.proofs.TypeLaws.{skeleton_renamed}
use Rattle.lf_checks.specs.Tests.{choose}
use Rattle.lf_checks.specs.Clause.{Clause, among, entry_clause}
use Rattle.lf_cases.specs.Cover.{InstanceIn, place_of, before, AgreesOutside}
use Rattle.lf_cases.specs.Case.{Item, free_variable, block_variable, items_context, as_term, IsGroundInstance}
use Rattle.lf_cases.specs.Pattern.{Origin, of_constant, of_entry, has_block_variable, Known, FirstInstance, FirstIs, StandsOutside}
use Rattle.lf_cases.specs.Missing.{BlockAmong, IsTypedInstance, FirstAmong, StandsAmong}
use Rattle.lf_cases.specs.Reached.{LeavesAll}
use Rattle.lf_cases.proofs.BlockEntries.{among_type}
use Rattle.lf_cases.proofs.Instances.{instance_typed, place_among}
use Rattle.lf_cases.proofs.OutputItems.{length_instance}
use Rattle.lf_coverage.proofs.Forms.{far_type}
use Rattle.lf_coverage.proofs.Parts.{lambda_same}
use Rattle.lf_coverage.proofs.SameInstance.{front_entry, front_behind, instance_unique, entry_has_type}
use Rattle.lf_coverage.proofs.Standing.{stood, Outer, entry_outer}

-- the variable at the head, under lambdas
same_head : (n i j : ℕ) (S T : Spine) → lambdas n (root (variable i) S) ≡ lambdas n (root (variable j) T) → i ≡ j
same_head zero i j S T e = cc
same_head (suc n) i j S T e = same_head n i j S T (lambda_same e)

-- an eta-long variable tells its number
same_variable : (a : Skeleton) (v u : ℕ) → eta_long a (variable v) ≡ eta_long a (variable u) → v ≡ u
same_variable a v u e = less v u (arity a) (same_head (arity a) (v + arity a) (u + arity a) (eta_arguments a) (eta_arguments a) (sym (eta_at_once a (variable v)) ∙ e ∙ eta_at_once a (variable u)))
  where
    less : (v u n : ℕ) → v + n ≡ u + n → v ≡ u
    less v u n e = omega arith

-- an entry of a block variable is a variable
entry_keep : (es : List LfType) (υ : ℕ → Image) (k : ℕ) → among es k ≡ true → (j : ℕ) × (lift_over es υ k ≡ keep j)
entry_keep [] υ k a = absurd cc
entry_keep (E ∷ es) υ zero a = (zero, refl)
entry_keep (E ∷ es) υ (suc k) a = let (j, e) = entry_keep es υ k a in (suc j, ap (rename_image suc) e)

pub among_keep : (J : List Item) (B : Block) (θ : ℕ → Image) → BlockAmong J B θ → (k : ℕ) → among B.entries k ≡ true → (j : ℕ) × (θ k ≡ keep j)
among_keep [] B θ b k a = absurd b
among_keep (free_variable A ∷ J) B θ (τ, b, q) k a = let (j, e) = among_keep J B τ b k a in (suc j, ap (λ f. f k) q ∙ ap (rename_image suc) e)
among_keep (block_variable C υ ∷ J) B θ (inl (p, q)) k a = let (j, e) = entry_keep C.entries υ k (ap (λ D. among D.entries k) p ∙ a) in (j, ap (λ f. f k) q ∙ e)
among_keep (block_variable C υ ∷ J) B θ (inr (τ, b, q)) k a = let (j, e) = among_keep J B τ b k a in (j + length C.entries, ap (λ f. f k) q ∙ ap (rename_image (shift_by (length C.entries))) e)

pub first_among : (Σ : Signature) (J I : List Item) (ρ : ℕ → Image) (i : IsTypedInstance Σ J I ρ) (B : Block) (θ : ℕ → Image) → FirstAmong Σ J I ρ i B θ → BlockAmong J B θ
first_among Σ J [] ρ i B θ f = absurd f
first_among Σ J (free_variable A ∷ I) ρ (N, τ, i, t, e) B θ f = first_among Σ J I τ i B θ f
first_among Σ J (block_variable C υ ∷ I) ρ (φ, τ, i, b, s, e) B θ f = by (λ f. first_among Σ J I τ i B θ f) (has_block_variable I) f
  where
    by : (FirstAmong Σ J I τ i B θ → BlockAmong J B θ) → (h : Bool) → choose h (FirstAmong Σ J I τ i B θ) ((C ≡ B) × (φ ≡ θ)) → BlockAmong J B θ
    by r true f = r f
    by r false (p, q) = subst (λ D. BlockAmong J D θ) p (subst (BlockAmong J C) q b)

module _ {Σ : Signature} {W : List Block} {S : ℕ → Bool} {G : List LfType} (w : World Σ W S G) where
  first_in : (I : List Item) (σ : ℕ → Image) (g : IsGroundInstance w I σ) (B : Block) (φ : ℕ → Image) → FirstInstance w I σ g B φ → InstanceIn w B φ
  first_in [] σ g B φ f = absurd f
  first_in (free_variable A ∷ I) σ (N, τ, g, t, e) B φ f = first_in I τ g B φ f
  first_in (block_variable C υ ∷ I) σ (χ, τ, g, i, s, e) B φ f = by (λ f. first_in I τ g B φ f) (has_block_variable I) f
    where
      by : (FirstInstance w I τ g B φ → InstanceIn w B φ) → (h : Bool) → choose h (FirstInstance w I τ g B φ) ((C ≡ B) × (χ ≡ φ)) → InstanceIn w B φ
      by r true f = r f
      by r false (p, q) = subst (λ D. InstanceIn w D φ) p (subst (InstanceIn w C) q i)

  -- Values that leave the items where they are, n further in, give the first block variable the entries of the first instance.
  same_first : (Σ0 : Signature) (J : List Item) (σJ : ℕ → Image) (I : List Item) (ρ : ℕ → Image) (it : IsTypedInstance Σ0 J I ρ) (σ : ℕ → Image) (g : IsGroundInstance w I σ) (n : ℕ) → ((i : ℕ) (A : LfType) → TypeAt (items_context I) i A → as_term (skeleton A) (ρ i) ≡ as_term (skeleton A) (keep (i + n))) → ((i : ℕ) → σJ (i + n) ≡ σ i) → (B : Block) (θ φ : ℕ → Image) → FirstAmong Σ0 J I ρ it B θ → FirstInstance w I σ g B φ → (k : ℕ) → among B.entries k ≡ true → substitute_image σJ (θ k) ≡ φ k
  same_first Σ0 J σJ [] ρ it σ g n leaves link B θ φ fa fi k a = absurd fa
  same_first Σ0 J σJ (free_variable X ∷ I) ρ (N, ρ', it, t, e) σ (M, σ', g, t', e') n leaves link B θ φ fa fi k a = same_first Σ0 J σJ I ρ' it σ' g (suc n) next_leaves next_link B θ φ fa fi k a
    where
      next : (i n : ℕ) → suc i + n ≡ i + suc n
      next i n = omega arith

      next_leaves : (i : ℕ) (A : LfType) → TypeAt (items_context I) i A → as_term (skeleton A) (ρ' i) ≡ as_term (skeleton A) (keep (i + suc n))
      next_leaves i A h =
          ap₂ as_term (sym (skeleton_renamed suc A)) (sym (ap (λ f. f (suc i)) e))
          ∙ leaves (suc i) (weaken A) (A, h, refl)
          ∙ ap₂ as_term (skeleton_renamed suc A) (ap keep (next i n))

      next_link : (i : ℕ) → σJ (i + suc n) ≡ σ' i
      next_link i = ap σJ (sym (next i n)) ∙ link (suc i) ∙ ap (λ f. f (suc i)) e'
  same_first Σ0 J σJ (block_variable C υ ∷ I) ρ (ψ, ρ', it, b, s, e) σ (χ, σ', g, i, s', e') n leaves link B θ φ fa fi k a = by (λ l m fa fi. same_first Σ0 J σJ I ρ' it σ' g (length C.entries + n) l m B θ φ fa fi k a) (has_block_variable I) fa fi
    where
      next : (i l n : ℕ) → (i + l) + n ≡ i + (l + n)
      next i l n = omega arith

      next_leaves : (i : ℕ) (A : LfType) → TypeAt (items_context I) i A → as_term (skeleton A) (ρ' i) ≡ as_term (skeleton A) (keep (i + (length C.entries + n)))
      next_leaves i A h =
          let l : length (instance C.entries υ) ≡ length C.entries = length_instance C.entries υ in
          let Y : LfType = rename_type (shift_by (length (instance C.entries υ))) A in
          let y : TypeAt (onto (instance C.entries υ) (items_context I)) (i + length C.entries) Y = subst (λ m. TypeAt (onto (instance C.entries υ) (items_context I)) (i + m) Y) l (far_type (instance C.entries υ) (items_context I) i A h) in
          ap₂ as_term (sym (skeleton_renamed (shift_by (length (instance C.entries υ))) A)) (sym (ap (λ f. f (i + length C.entries)) e ∙ front_behind C.entries ψ ρ' i))
          ∙ leaves (i + length C.entries) Y y
          ∙ ap₂ as_term (skeleton_renamed (shift_by (length (instance C.entries υ))) A) (ap keep (next i (length C.entries) n))

      next_link : (i : ℕ) → σJ (i + (length C.entries + n)) ≡ σ' i
      next_link i = ap σJ (sym (next i (length C.entries) n)) ∙ link (i + length C.entries) ∙ ap (λ f. f (i + length C.entries)) e' ∙ front_behind C.entries χ σ' i

      by : (((i : ℕ) (A : LfType) → TypeAt (items_context I) i A → as_term (skeleton A) (ρ' i) ≡ as_term (skeleton A) (keep (i + (length C.entries + n)))) → ((i : ℕ) → σJ (i + (length C.entries + n)) ≡ σ' i) → FirstAmong Σ0 J I ρ' it B θ → FirstInstance w I σ' g B φ → substitute_image σJ (θ k) ≡ φ k) → (h : Bool) → choose h (FirstAmong Σ0 J I ρ' it B θ) ((C ≡ B) × (ψ ≡ θ)) → choose h (FirstInstance w I σ' g B φ) ((C ≡ B) × (χ ≡ φ)) → substitute_image σJ (θ k) ≡ φ k
      by r0 true fa fi = r0 next_leaves next_link fa fi
      by r0 false (p, q) (p', q') =
          let a' : among C.entries k ≡ true = ap (λ D. among D.entries k) p ∙ a in
          let (j, r) = among_keep J C ψ b k a' in
          let (A, h) = entry_has_type C.entries υ (items_context I) k a' in
          let t : as_term (skeleton A) (keep j) ≡ as_term (skeleton A) (keep (k + n)) = ap (as_term (skeleton A)) (sym r ∙ sym (ap (λ f. f k) e ∙ front_entry C.entries ψ ρ' k a')) ∙ leaves k A h in
          ap (λ f. substitute_image σJ (f k)) (sym q) ∙ ap (substitute_image σJ) r ∙ ap σJ (same_variable (skeleton A) j (k + n) t) ∙ link k ∙ ap (λ f. f k) e' ∙ front_entry C.entries χ σ' k a' ∙ ap (λ f. f k) q'

-- The block variable that is the first in an instance of the items over themselves is the first in a ground instance.
first_block : {Σ : Signature} {W : List Block} {S : ℕ → Bool} {G : List LfType} (w : World Σ W S G) (Σ0 : Signature) (J I : List Item) (ρ : ℕ → Image) (it : IsTypedInstance Σ0 J I ρ) (σ : ℕ → Image) (g : IsGroundInstance w I σ) (B C : Block) (θ ψ : ℕ → Image) → FirstAmong Σ0 J I ρ it B θ → FirstInstance w I σ g C ψ → C ≡ B
first_block w Σ0 J [] ρ it σ g B C θ ψ fa fi = absurd fa
first_block w Σ0 J (free_variable A ∷ I) ρ (N, ρ', it, t, e) σ (M, σ', g, t', e') B C θ ψ fa fi = first_block w Σ0 J I ρ' it σ' g B C θ ψ fa fi
first_block w Σ0 J (block_variable D υ ∷ I) ρ (φ, ρ', it, b, s, e) σ (χ, σ', g, i, s', e') B C θ ψ fa fi = by (λ fa fi. first_block w Σ0 J I ρ' it σ' g B C θ ψ fa fi) (has_block_variable I) fa fi
  where
    by : (FirstAmong Σ0 J I ρ' it B θ → FirstInstance w I σ' g C ψ → C ≡ B) → (h : Bool) → choose h (FirstAmong Σ0 J I ρ' it B θ) ((D ≡ B) × (φ ≡ θ)) → choose h (FirstInstance w I σ' g C ψ) ((D ≡ C) × (χ ≡ ψ)) → C ≡ B
    by r true fa fi = r fa fi
    by r false (p, q) (p', q') = sym p' ∙ p

-- What stands outside an entry, over a ground instance in which the first block variable stands for φ.
first_outer : (Σ0 Σ : Signature) → IsSignature Σ → {W : List Block} {S : ℕ → Bool} {G : List LfType} (w : World Σ W S G) (I : List Item) (σ : ℕ → Image) (g : IsGroundInstance w I σ) (B : Block) (later : List LfType) (E : LfType) (es : List LfType) → onto later (E ∷ es) ≡ B.entries → (ρ : ℕ → Image) (it : IsTypedInstance Σ0 I I ρ) → LeavesAll I ρ → (τ θ' : ℕ → Image) → FirstAmong Σ0 I I ρ it B θ' → AgreesOutside (entry_clause B es E) τ (before later θ') → (φ : ℕ → Image) → FirstInstance w I σ g B φ → Outer Σ G (entry_clause B es E) σ τ (before later φ)
first_outer Σ0 Σ ok {G = G} w I σ g B later E es q ρ it leaves τ θ' fa agrees φ fi =
    let (φ', i', h) = stood w I σ g B θ' (first_among Σ0 I I ρ it B θ' fa) in
    let i = first_in w I σ g B φ fi in
    let p : ℕ = place_of later in
    let a : among B.entries p ≡ true = ap (λ D. among D p) (sym q) ∙ place_among later E es in
    let (j, r) = (instance_typed Σ ok w B φ i).kept p a in
    let (j', r') = (instance_typed Σ ok w B φ' i').kept p a in
    let (Y, y) = among_type B.entries B.some p a in
    let here : substitute_image σ (θ' p) ≡ φ p = same_first w Σ0 I σ I ρ it σ g zero (λ k A t. leaves k A t ∙ ap (λ l. as_term (skeleton A) (keep l)) (sym (none k))) (λ k. ap σ (none k)) B θ' φ fa fi p a in
    let v : j' ≡ j = same_variable (skeleton Y) j' j (ap (as_term (skeleton Y)) (sym r') ∙ h p Y y ∙ ap (as_term (skeleton Y)) (here ∙ r)) in
    let (_, f) = instance_unique Σ w B B φ φ' i i' p p j a a r (r' ∙ ap keep v) in
    (entry_outer Σ ok w B later E es q σ τ θ' φ i (λ k X t. ap (λ s. as_term (skeleton X) (s k)) (sym f) ∙ h k X t) agrees)
  where
    none : (k : ℕ) → k + 0 ≡ k
    none k = omega arith

-- What stands outside the clause of a pattern, over a ground instance of the case: what is meant does.
pub stands_for : (Σ0 Σ : Signature) → IsSignature Σ → {W : List Block} {S : ℕ → Bool} {G : List LfType} (w : World Σ W S G) (I : List Item) (σ : ℕ → Image) (g : IsGroundInstance w I σ) (c : Clause) (o : Origin c) (b : Bool) (ρ : ℕ → Image) (it : IsTypedInstance Σ0 I I ρ) → LeavesAll I ρ → (τ : ℕ → Image) → StandsAmong Σ0 o b I I ρ it τ → (F : Known) → FirstIs w I σ g F → (outer : ℕ → Image) × StandsOutside o b w F outer × Outer Σ G c σ τ outer
stands_for Σ0 Σ ok w I σ g c (of_constant U) b ρ it leaves τ s F f = (keep, tt, record { typed = λ i A h. absurd h; same = λ i X h. absurd h })
stands_for Σ0 Σ ok w I σ g c (of_entry B later E es q) false ρ it leaves τ (θ, among_items, agrees) F f =
    let (φ, i, h) = stood w I σ g B θ among_items in
    (before later φ, (φ, i, refl), entry_outer Σ ok w B later E es q σ τ θ φ i h agrees)
stands_for Σ0 Σ ok w I σ g c (of_entry B later E es q) true ρ it leaves τ (θ, fa, agrees) None f =
    let (φ, i, h) = stood w I σ g B θ (first_among Σ0 I I ρ it B θ fa) in
    (before later φ, (φ, i, refl), entry_outer Σ ok w B later E es q σ τ θ φ i h agrees)
stands_for Σ0 Σ ok w I σ g c (of_entry B later E es q) true ρ it leaves τ (θ, fa, agrees) (Some (C, ψ)) f =
    let p = first_block w Σ0 I I ρ it σ g B C θ ψ fa f in
    (before later ψ, (ψ, (p, refl), refl), first_outer Σ0 Σ ok w I σ g B later E es q ρ it leaves τ θ fa agrees ψ (subst (λ D. FirstInstance w I σ g D ψ) p f))
