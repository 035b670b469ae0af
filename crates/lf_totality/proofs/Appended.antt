-- An appended entry with another target is a legal extension.
use Rattle.std.proofs.Common.{◌≡◌, ℕ, List, ◌∷◌, length, Some, Bool, true, false, cond, sym, ap, ◌∙◌, true≢false}
use Rattle.lf.specs.Syntax.{LfType}
use Rattle.lf.specs.Variables.{target, same_number}
use Rattle.lf.specs.Extension.{Extends}
use Rattle.lf.specs.Entries.{Body, declare_family, declare_constant, declare_definition, Entry, entry, type_of, type_of_body, signature_of, IsCanonicalEntry, IsCanonicalSignature}
use Rattle.lf.specs.Constants.{family_of}
use Rattle.lf.proofs.Entries.{types_kept, kinds_kept, canonical_is_signature}

-- the family of what has a type
family_known : (b : Body) (A : LfType) → type_of_body b ≡ Some A → family_of b ≡ Some (target A)
family_known (declare_family K) A e = absurd cc
family_known (declare_constant B) A e = ap (λ X. Some (target X)) (of_some e)
  where
    of_some : {X Y : LfType} → Some X ≡ Some Y → X ≡ Y
    of_some e = cc
family_known (declare_definition M B d) A e = absurd cc

pub appended_extends : (es : List Entry) → IsCanonicalSignature es → (e : Entry) → IsCanonicalEntry (signature_of es) e → (S : ℕ → Bool) → ((a : ℕ) → family_of e.body ≡ Some a → S a ≡ false) → Extends S (signature_of es) (signature_of (e ∷ es))
appended_extends es k e t S out = record {
  ok = canonical_is_signature (e ∷ es) (k, t);
  types_stay = types_kept e es;
  kinds_stay = kinds_kept e es;
  no_new = λ c A h s. go c A s (same_number c (length es)) h;
}
  where
    go : (c : ℕ) (A : LfType) → S (target A) ≡ true → (b : Bool) → type_of (cond b (Some e) (entry es c)) ≡ Some A → type_of (entry es c) ≡ Some A
    go c A s true h = absurd (true≢false (sym s ∙ out (target A) (family_known e.body A h)))
    go c A s false h = h
