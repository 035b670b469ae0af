-- The heads of terms of a base type: a declared constant, a local variable, or an entry of an instance in the context.
use Rattle.std.proofs.Common.{◌≡◌, ℕ, zero, suc, List, [], ◌∷◌, ◌<◌, ◌+◌, length, refl, sym, ap, ◌∙◌, subst, arith, inl, inr}
use Rattle.std.specs.Prelude.{Bool, true, ◌⊎◌}
use Rattle.lf.specs.Syntax.{Head, constant, variable, metavariable, Spine, root, LfType, atom}
use Rattle.lf.specs.Substitution.{keep, substitute_type, reduce}
use Rattle.lf.specs.Typing.{Signature, TypeAt, HasType, IsSignature, ImageHasType}
use Rattle.lf.specs.Variables.{target, onto}
use Rattle.lf.specs.Subordination.{Block}
use Rattle.lf.specs.Worlds.{World}
use Rattle.lf.specs.Extension.{Extends}
use Rattle.lf.proofs.Conservativity.{spine_target}
use Rattle.lf.proofs.Target.{target_of, target_renamed}
use Rattle.lf.proofs.Decidability.{variable_type_unique}
use Rattle.lf_cases.specs.Cover.{place_of, before}
use Rattle.lf_cases.specs.Heads.{EntryIn, HeadIsKnown}
use Rattle.lf_cases.proofs.BlockEntries.{at_place, entry_at, onto_onto}
use Rattle.lf_cases.proofs.Instances.{entry_of, instance_typed}

-- a variable is local, or stands in the outer context, with the same target
variable_split : (D G : List LfType) (i : ℕ) (A : LfType) → TypeAt (onto D G) i A → (i < length D) ⊎ ((j : ℕ) × (i ≡ j + length D) × (B : LfType) × TypeAt G j B × (target A ≡ target B))
variable_split [] G i A g = inr (i, no_more i, A, g, refl)
  where
    no_more : (i : ℕ) → i ≡ i + 0
    no_more i = omega arith
variable_split (X ∷ D) G zero A g = inl (omega arith)
variable_split (X ∷ D) G (suc i) A (C, g, e) = by (variable_split D G i C g)
  where
    by : (i < length D) ⊎ ((j : ℕ) × (i ≡ j + length D) × (B : LfType) × TypeAt G j B × (target C ≡ target B)) → (suc i < suc (length D)) ⊎ ((j : ℕ) × (suc i ≡ j + suc (length D)) × (B : LfType) × TypeAt G j B × (target A ≡ target B))
    by (inl l) = inl (omega arith)
    by (inr (j, q, B, h, t)) = inr (j, one_more i j (length D) q, B, h, ap target e ∙ target_renamed suc C ∙ t)
      where
        one_more : (i j n : ℕ) → i ≡ j + n → suc i ≡ j + suc n
        one_more i j n q = omega arith

-- a variable whose family is in S is an entry with this family as its target
pub entry_known : (Σ : Signature) → IsSignature Σ → (W : List Block) (S : ℕ → Bool) (G : List LfType) (w : World Σ W S G) (i : ℕ) (A : LfType) → TypeAt G i A → S (target A) ≡ true → EntryIn w i (target A)
entry_known Σ ok W S G w i A g s =
    let (B, m, θ, n, k, a, e) = entry_of Σ ok w i A g s in
    let (later, E, es, q, p) = entry_at B.entries k a in
    let (X, h, x) = at_place later E (onto es B.some) θ in
    let e' : θ (place_of later) ≡ keep i = ap θ p ∙ e in
    let h' : TypeAt (onto B.entries B.some) (place_of later) X = subst (λ Y. TypeAt (onto Y B.some) (place_of later) X) q (subst (λ Y. TypeAt Y (place_of later) X) (sym (onto_onto later (E ∷ es) B.some)) h) in
    let y : TypeAt G i (substitute_type reduce θ X) = subst (λ z. ImageHasType Σ G z (substitute_type reduce θ X)) e' ((instance_typed Σ ok w B θ n).typed.typed (place_of later) X h' refl) in
    let t : target E ≡ target A = sym (target_of reduce (before later θ) E) ∙ sym (ap target x) ∙ ap target (variable_type_unique G i (substitute_type reduce θ X) A y g) in
    (B, m, later, E, es, q, t, θ, n, e')

pub head_known : (Σ Σ' : Signature) (W : List Block) (S : ℕ → Bool) → Extends S Σ Σ' → (G D : List LfType) (w : World Σ' W S G) (h : Head) (T : Spine) (b : ℕ) (V : Spine) → S b ≡ true → HasType Σ' (onto D G) (root h T) (atom b V) → HeadIsKnown Σ D w h b
head_known Σ Σ' W S x G D w (constant k) T b V s (A, e, r) =
    let t : target A ≡ b = spine_target Σ' (onto D G) T A (atom b V) r in
    inl (k, A, refl, x.no_new k A e (ap S t ∙ s), t)
head_known Σ Σ' W S x G D w (metavariable k) T b V s (A, e, r) = absurd e
head_known Σ Σ' W S x G D w (variable i) T b V s (A, g, r) = by (variable_split D G i A g)
  where
    t : target A ≡ b
    t = spine_target Σ' (onto D G) T A (atom b V) r

    by : (i < length D) ⊎ ((j : ℕ) × (i ≡ j + length D) × (B : LfType) × TypeAt G j B × (target A ≡ target B)) → HeadIsKnown Σ D w (variable i) b
    by (inl l) = inr (inl (i, A, refl, l, g, t))
    by (inr (j, q, B, g', u)) =
        let f : target B ≡ b = sym u ∙ t in
        inr (inr (j, ap variable q, subst (EntryIn w j) f (entry_known Σ' x.ok W S G w j B g' (ap S f ∙ s))))
