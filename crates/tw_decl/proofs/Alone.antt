-- Of blocks their entries alone matter to subordination.
use Rattle.std.proofs.Common.{◌≡◌, ◌+◌, ◌<◌, ◌++◌, ◌∙◌, ℕ, suc, List, [], ◌∷◌, Some, length, take, refl, ap, arith, subst, inl, inr}
use Rattle.std.proofs.Math.Seq.{take-suc}
use Rattle.std.proofs.lemmas.Option.{get_or_from_slice_get}
use Rattle.std.specs.Prelude.{◌↔◌, slice_get}
use Rattle.lf.specs.Entries.{Entry, signature_of}
use Rattle.lf.specs.Subordination.{Below, Block, Member}
use Rattle.lf.specs.Syntax.{LfType}
use Rattle.lf.specs.Typing.{Signature}
use Rattle.tw_subord.proofs.Strengthened as subord
use Rattle.tw_subord.specs.Laws.{IsEntryOf}
use Rattle.tw_decl.specs.Steps.{entries_alone}

of_alone : (Bs : List Block) (E : LfType) → IsEntryOf (entries_alone Bs) E → IsEntryOf Bs E
of_alone [] E (B, m, i) = absurd m
of_alone (C ∷ Bs) E (B, inl e, i) = (C, inl refl, subst (λ (X : Block). Member E X.entries) e i)
of_alone (C ∷ Bs) E (B, inr m, i) = let (D, k, j) = of_alone Bs E (B, m, i) in (D, inr k, j)

to_alone : (Bs : List Block) (E : LfType) → IsEntryOf Bs E → IsEntryOf (entries_alone Bs) E
to_alone [] E (B, m, i) = absurd m
to_alone (C ∷ Bs) E (B, inl e, i) = (record { label = []; some = []; entries = C.entries }, inl refl, subst (λ (X : Block). Member E X.entries) e i)
to_alone (C ∷ Bs) E (B, inr m, i) = let (D, k, j) = to_alone Bs E (B, m, i) in (D, inr k, j)

pub below_alone : (Σ : Signature) (Bs : List Block) (a b : ℕ) → Below Σ (entries_alone Bs) a b ↔ Below Σ Bs a b
below_alone Σ Bs a b = (subord.entries_alone Σ (entries_alone Bs) Bs (of_alone Bs) a b, subord.entries_alone Σ Bs (entries_alone Bs) (to_alone Bs) a b)

-- what says which families are below which, over these blocks without labels, says it over the blocks
pub same_below : (es fs : List Entry) (W Bs : List Block) (a b : ℕ) (P : Type 0) → es ≡ fs → W ≡ entries_alone Bs → P ↔ Below (signature_of es) W a b → P ↔ Below (signature_of fs) Bs a b
same_below es fs W Bs a b P e f h =
    let told : P ↔ Below (signature_of fs) (entries_alone Bs) a b = subst (λ (X : List Block). P ↔ Below (signature_of fs) X a b) f (subst (λ (gs : List Entry). P ↔ Below (signature_of gs) W a b) e h) in
    let alone = below_alone (signature_of fs) Bs a b in
    (λ p. alone.0 (told.0 p), λ q. told.1 (alone.1 q))

-- one type more of a context
pub one_more : (G : List LfType) (n : ℕ) (A : LfType) → n < length G → slice_get G n ≡ Some A → take (n + 1) G ≡ take n G ++ A ∷ []
one_more G n A before found =
    let next : n + 1 ≡ suc n = omega arith in
    ap (λ (k : ℕ). take k G) next ∙ take-suc G n A before ∙ ap (λ (B : LfType). take n G ++ B ∷ []) (get_or_from_slice_get G n A A found)
