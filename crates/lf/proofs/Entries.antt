-- An ordered signature is well formed over the whole of itself.
use Rattle.std.proofs.Common.{◌≡◌, ℕ, zero, suc, List, [], ◌∷◌, length, Option, Some, None, Bool, true, false, cond, ◌<◌, refl, sym, ap, ◌∙◌, subst, true≢false, arith}
use Rattle.lf.specs.Syntax.{LfType, Kind}
use Rattle.lf.specs.Variables.{same_number}
use Rattle.lf.specs.Typing.{IsType, IsKind, IsSignature}
use Rattle.lf.specs.Entries.{Entry, Body, declare_family, declare_constant, declare_definition, entry, type_of, kind_of, type_of_body, kind_of_body, signature_of, BodyIsTyped, IsCanonicalSignature}
use Rattle.lf.proofs.Growth.{growth_keeps_types, growth_keeps_kinds}

same_is : (i j : ℕ) → same_number i j ≡ true → i ≡ j
same_is zero zero e = refl
same_is zero (suc j) e = absurd (true≢false (sym e))
same_is (suc i) zero e = absurd (true≢false (sym e))
same_is (suc i) (suc j) e = ap suc (same_is i j e)

-- a number with an entry is below the length
entry_below : (es : List Entry) (c : ℕ) (e : Entry) → entry es c ≡ Some e → c < length es
entry_below [] c e h = absurd (cc)
entry_below (f ∷ es) c e h = go (λ k. entry_below es c e k) (same_number c (length es)) refl h
  where
    go : (entry es c ≡ Some e → c < length es) → (b : Bool) → same_number c (length es) ≡ b → cond b (Some f) (entry es c) ≡ Some e → c < suc (length es)
    go ih true q k = let p = same_is c (length es) q in omega arith
    go ih false q k = let p = ih k in omega arith

entry_kept : (f : Entry) (es : List Entry) (c : ℕ) (e : Entry) → entry es c ≡ Some e → entry (f ∷ es) c ≡ Some e
entry_kept f es c e h = go (same_number c (length es)) refl
  where
    go : (b : Bool) → same_number c (length es) ≡ b → cond b (Some f) (entry es c) ≡ Some e
    go true q = let p = same_is c (length es) q in let l = entry_below es c e h in absurd (omega arith)
    go false q = h

type_entry : (x : Option Entry) (A : LfType) → type_of x ≡ Some A → (e : Entry) × (x ≡ Some e) × (e.body ≡ declare_constant A)
type_entry None A h = absurd (cc)
type_entry (Some e) A h = (e, refl, body e.body h)
  where
    body : (b : Body) → type_of_body b ≡ Some A → b ≡ declare_constant A
    body (declare_family K) h = absurd (cc)
    body (declare_definition M B d) h = absurd (cc)
    body (declare_constant B) h = cc

kind_entry : (x : Option Entry) (K : Kind) → kind_of x ≡ Some K → (e : Entry) × (x ≡ Some e) × (e.body ≡ declare_family K)
kind_entry None K h = absurd (cc)
kind_entry (Some e) K h = (e, refl, body e.body h)
  where
    body : (b : Body) → kind_of_body b ≡ Some K → b ≡ declare_family K
    body (declare_family L) h = cc
    body (declare_definition M B d) h = absurd (cc)
    body (declare_constant B) h = absurd (cc)

pub types_kept : (f : Entry) (es : List Entry) (c : ℕ) (A : LfType) → (signature_of es).types c ≡ Some A → (signature_of (f ∷ es)).types c ≡ Some A
types_kept f es c A h = let (e, g, b) = type_entry (entry es c) A h in ap type_of (entry_kept f es c e g) ∙ ap type_of_body b

pub kinds_kept : (f : Entry) (es : List Entry) (c : ℕ) (K : Kind) → (signature_of es).kinds c ≡ Some K → (signature_of (f ∷ es)).kinds c ≡ Some K
kinds_kept f es c K h = let (e, g, b) = kind_entry (entry es c) K h in ap kind_of (entry_kept f es c e g) ∙ ap kind_of_body b

pub canonical_is_signature : (es : List Entry) → IsCanonicalSignature es → IsSignature (signature_of es)
canonical_is_signature [] o = record { types_ok = λ c A h. absurd (cc); kinds_ok = λ a K h. absurd (cc) }
canonical_is_signature (f ∷ es) (o, k) =
    let ih : IsSignature (signature_of es) = canonical_is_signature es o in
    record {
      types_ok = λ c A h. growth_keeps_types (signature_of es) (signature_of (f ∷ es)) (types_kept f es) (kinds_kept f es) [] A (type_old ih c A (same_number c (length es)) h);
      kinds_ok = λ a K h. growth_keeps_kinds (signature_of es) (signature_of (f ∷ es)) (types_kept f es) (kinds_kept f es) [] K (kind_old ih a K (same_number a (length es)) h);
    }
  where
    type_old : IsSignature (signature_of es) → (c : ℕ) (A : LfType) (b : Bool) → type_of (cond b (Some f) (entry es c)) ≡ Some A → IsType (signature_of es) [] A
    type_old ih c A true h = let (e, g, q) = type_entry (Some f) A h in subst (BodyIsTyped (signature_of es)) (ap (λ x. x.body) (inj g) ∙ q) k.typed
      where
        inj : {x y : Entry} → Some x ≡ Some y → x ≡ y
        inj e = cc
    type_old ih c A false h = ih.types_ok c A h

    kind_old : IsSignature (signature_of es) → (a : ℕ) (K : Kind) (b : Bool) → kind_of (cond b (Some f) (entry es a)) ≡ Some K → IsKind (signature_of es) [] K
    kind_old ih a K true h = let (e, g, q) = kind_entry (Some f) K h in subst (BodyIsTyped (signature_of es)) (ap (λ x. x.body) (inj g) ∙ q) k.typed
      where
        inj : {x y : Entry} → Some x ≡ Some y → x ≡ y
        inj e = cc
    kind_old ih a K false h = ih.kinds_ok a K h
