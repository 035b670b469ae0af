-- The families of a group, and the targets of entries of its blocks, are entries of the signature.
use Rattle.std.proofs.Common.{◌≡◌, ◌<◌, ◌+◌, ◌++◌, ◌∙◌, ℕ, zero, suc, List, [], ◌∷◌, length, take, Some, inl, inr, ap, subst, sym, add-one}
use Rattle.std.specs.List.{slice_get}
use Rattle.lf.specs.Entries.{Entry, signature_of}
use Rattle.lf.specs.Subordination.{Block, Member, IsTypedBlock}
use Rattle.lf.specs.Syntax.{LfType}
use Rattle.lf.specs.Typing.{IsContext, IsType, Signature}
use Rattle.lf.specs.Variables.{onto, target}
use Rattle.tw_signature.proofs.FamilyConstants.{target_within}

entry_typed : (Σ : Signature) (Es G : List LfType) (E : LfType) → IsContext Σ (onto Es G) → Member E Es → (D : List LfType) × IsType Σ D E
entry_typed Σ [] G E c m = absurd m
entry_typed Σ (F ∷ Es) G E c (inl e) = (onto Es G, subst (IsType Σ (onto Es G)) (sym e) c.1)
entry_typed Σ (F ∷ Es) G E c (inr m) = entry_typed Σ Es G E c.0 m

pub entry_target_within : (es : List Entry) (B : Block) (E : LfType) → IsTypedBlock (signature_of es) B → Member E B.entries → target E < length es
entry_target_within es B E t m = let r = entry_typed (signature_of es) B.entries B.some E t m in target_within es r.0 E r.1

-- one more of a list, as a look-up gives it
taken : {A : Type 0} (xs : List A) (n : ℕ) (x : A) → Some x ≡ slice_get xs n → take (suc n) xs ≡ take n xs ++ x ∷ []
taken [] n x e = absurd cc
taken (y ∷ xs) zero x e = let h : x ≡ y = cc in ap (λ z. z ∷ []) (sym h)
taken (y ∷ xs) (suc n) x e = ap (λ zs. y ∷ zs) (taken xs n x e)

pub take_next : {A : Type 0} (xs : List A) (n : ℕ) (x : A) → Some x ≡ slice_get xs n → take (n + 1) xs ≡ take n xs ++ x ∷ []
take_next xs n x e = ap (λ k. take k xs) (add-one n) ∙ taken xs n x e
