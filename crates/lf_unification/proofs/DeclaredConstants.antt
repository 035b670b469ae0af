-- The constants that are tried are those that are declared, the oldest first, each once.
use Rattle.std.proofs.Common.{◌≡◌, ℕ, zero, suc, ◌<◌, ◌≤◌, List, [], ◌∷◌, Some, Bool, true, false, cond, inl, inr, refl, sym, ap, ◌∙◌, subst, arith}
use Rattle.std.specs.Prelude.{length, ◌⊎◌}
use Rattle.lf.specs.Entries.{Body, Entry, declare_constant, declare_definition, declare_family, entry, signature_of, type_of, type_of_body}
use Rattle.lf.specs.Subordination.{Member}
use Rattle.lf.specs.Syntax.{LfType}
use Rattle.lf.specs.Variables.{same_number}
use Rattle.lf.proofs.Checker.{number_is, number_itself}
use Rattle.lf_unification.specs.Lists.{followed}
use Rattle.lf_unification.specs.Search.{IsAscendingFrom, add_constant, declared_constants}
use Rattle.lf_unification.proofs.Exhaust.{among_left, among_right}

added : (b : Body) (c d : ℕ) (cs : List ℕ) → Member c cs → Member c (add_constant b d cs)
added (declare_family K) c d cs i = i
added (declare_constant A) c d cs i = among_left c cs (d ∷ []) i
added (declare_definition M A x) c d cs i = i

here : (b : Body) (A : LfType) (d : ℕ) (cs : List ℕ) → type_of_body b ≡ Some A → Member d (add_constant b d cs)
here (declare_family K) A d cs e = absurd (cc)
here (declare_constant B) A d cs e = among_right d cs (d ∷ []) (inl refl)
here (declare_definition M B x) A d cs e = absurd (cc)

pub declared_listed : (es : List Entry) (c : ℕ) (A : LfType) → (signature_of es).types c ≡ Some A → Member c (declared_constants es)
declared_listed [] c A h = absurd (cc)
declared_listed (e ∷ es) c A h = go (declared_listed es c A) (same_number c (length es)) refl h
  where
    go : ((signature_of es).types c ≡ Some A → Member c (declared_constants es)) → (b : Bool) → same_number c (length es) ≡ b → type_of (cond b (Some e) (entry es c)) ≡ Some A → Member c (add_constant e.body (length es) (declared_constants es))
    go ih true q k = subst (λ x. Member x (add_constant e.body (length es) (declared_constants es))) (sym (number_is c (length es) q)) (here e.body A (length es) (declared_constants es) k)
    go ih false q k = added e.body c (length es) (declared_constants es) (ih k)

-- what is added
from_added : (b : Body) (c d : ℕ) (cs : List ℕ) → Member c (add_constant b d cs) → Member c cs ⊎ ((c ≡ d) × ((A : LfType) × (type_of_body b ≡ Some A)))
from_added (declare_family K) c d cs i = inl i
from_added (declare_definition M A x) c d cs i = inl i
from_added (declare_constant A) c d cs i = last cs i
  where
    last : (cs : List ℕ) → Member c (followed cs (d ∷ [])) → Member c cs ⊎ ((c ≡ d) × ((B : LfType) × (type_of_body (declare_constant A) ≡ Some B)))
    last [] (inl e) = inr (e, (A, refl))
    last [] (inr i) = absurd i
    last (x ∷ xs) (inl e) = inl (inl e)
    last (x ∷ xs) (inr i) = next (last xs i)
      where
        next : Member c xs ⊎ ((c ≡ d) × ((B : LfType) × (type_of_body (declare_constant A) ≡ Some B))) → Member c (x ∷ xs) ⊎ ((c ≡ d) × ((B : LfType) × (type_of_body (declare_constant A) ≡ Some B)))
        next (inl j) = inl (inr j)
        next (inr p) = inr p

pub listed_below : (es : List Entry) (c : ℕ) → Member c (declared_constants es) → c < length es
listed_below [] c i = absurd i
listed_below (e ∷ es) c i = go (listed_below es c) (from_added e.body c (length es) (declared_constants es) i)
  where
    go : (Member c (declared_constants es) → c < length es) → Member c (declared_constants es) ⊎ ((c ≡ length es) × ((A : LfType) × (type_of_body e.body ≡ Some A))) → c < suc (length es)
    go ih (inl j) = let p = ih j in omega arith
    go ih (inr (q, w)) = omega arith

pub listed_declared : (es : List Entry) (c : ℕ) → Member c (declared_constants es) → (A : LfType) × ((signature_of es).types c ≡ Some A)
listed_declared [] c i = absurd i
listed_declared (e ∷ es) c i = go (listed_declared es c) (from_added e.body c (length es) (declared_constants es) i)
  where
    other : (b : Bool) → same_number c (length es) ≡ b → c < length es → (A : LfType) × ((signature_of es).types c ≡ Some A) → (A : LfType) × (type_of (cond b (Some e) (entry es c)) ≡ Some A)
    other true q l w = let p = number_is c (length es) q in absurd (omega arith)
    other false q l w = w

    same : (b : Bool) → same_number c (length es) ≡ b → c ≡ length es → (A : LfType) × (type_of_body e.body ≡ Some A) → (A : LfType) × (type_of (cond b (Some e) (entry es c)) ≡ Some A)
    same true q p w = w
    same false q p w = (let r : true ≡ false = sym (number_itself (length es)) ∙ sym (ap (λ x. same_number x (length es)) p) ∙ q in absurd (cc))

    go : (Member c (declared_constants es) → (A : LfType) × ((signature_of es).types c ≡ Some A)) → Member c (declared_constants es) ⊎ ((c ≡ length es) × ((A : LfType) × (type_of_body e.body ≡ Some A))) → (A : LfType) × ((signature_of (e ∷ es)).types c ≡ Some A)
    go ih (inl j) = other (same_number c (length es)) refl (listed_below es c j) (ih j)
    go ih (inr (q, w)) = same (same_number c (length es)) refl q w

ascending_last : (n : ℕ) (cs : List ℕ) (d : ℕ) → IsAscendingFrom n cs → n ≤ d → ((c : ℕ) → Member c cs → c < d) → IsAscendingFrom n (followed cs (d ∷ []))
ascending_last n [] d a l f = (l, tt)
ascending_last n (c ∷ cs) d (p, a) l f = (p, ascending_last (suc c) cs d a (let q = f c (inl refl) in omega arith) (λ x i. f x (inr i)))

pub ascending : (es : List Entry) → IsAscendingFrom zero (declared_constants es)
ascending [] = tt
ascending (e ∷ es) = go (ascending es) e.body
  where
    go : IsAscendingFrom zero (declared_constants es) → (b : Body) → IsAscendingFrom zero (add_constant b (length es) (declared_constants es))
    go ih (declare_family K) = ih
    go ih (declare_constant A) = ascending_last zero (declared_constants es) (length es) ih (omega arith) (listed_below es)
    go ih (declare_definition M A x) = ih
