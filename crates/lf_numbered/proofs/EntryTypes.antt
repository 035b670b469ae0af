-- A signature with the types of entries' constants behind it is the one with a constant for each entry.
use Rattle.std.proofs.Common.{◌≡◌, ℕ, zero, suc, ◌+◌, ◌-◌, ◌<◌, ◌≤◌, ◌⊎◌, List, [], ◌∷◌, ◌++◌, length, inl, inr, refl, sym, ap, ap₂, ◌∙◌, arith, true≢false}
use Rattle.std.specs.Prelude.{Bool, true, false, Option, Some, None, cond, nat_lt, slice_get}
use Rattle.std.proofs.lemmas.Bool.{le-ltb, lt-ltb, ltb-false, ltb-true}
use Rattle.std.proofs.lemmas.List.{append-nil, append_assoc, length-append}
use Rattle.lf.specs.Syntax.{LfType}
use Rattle.lf.specs.Variables.{same_number}
use Rattle.lf.specs.Subordination.{Block}
use Rattle.lf.proofs.Checker.{number_is, number_itself}
use Rattle.lf_coverage.specs.OrElse.{or_else}
use Rattle.lf_numbered.specs.EntryConstants.{EntryConstant, entry_among, entry_constant, entry_constant_type, entry_type}
use Rattle.lf_numbered.specs.EntryTypes.{FurtherIsWithEntries, NewTypesComeLast, entry_types, further_at, further_types}
use Rattle.lf_numbered.specs.EntryTypesExamples.{PairsHaveTypes, TurnedHasTypes}
use Rattle.lf_numbered.specs.OwnTerms.{blocks_of}
use Rattle.lf_numbered.proofs.EntrySignature.{among_none, else_none, not_same}
use Rattle.lf_numbered.proofs.NewInstance.{new_blocks_are}
use mathlib.Core.Path.{fun_ext}

-- Each number is before the first one, or it isn't.
before_or_from : (n c : ℕ) → (c < n) ⊎ (n ≤ c)
before_or_from n c = by (nat_lt c n) refl
  where
    by : (b : Bool) → nat_lt c n ≡ b → (c < n) ⊎ (n ≤ c)
    by true e = inl (ltb-true c n e)
    by false e = inr (ltb-false c n e)

pub further_before : (n : ℕ) (As : List LfType) (c : ℕ) → c < n → further_at n As c ≡ None
further_before n As c l = ap (λ b. cond b None (slice_get As (c - n))) (lt-ltb c n l)

pub further_from : (n : ℕ) (As : List LfType) (c : ℕ) → n ≤ c → further_at n As c ≡ slice_get As (c - n)
further_from n As c l = ap (λ b. cond b None (slice_get As (c - n))) (le-ltb c n l)

-- It doesn't matter by how much all numbers are moved.
further_moved : (m n : ℕ) (As : List LfType) (d c : ℕ) → m + c ≡ n + d → further_at m As d ≡ further_at n As c
further_moved m n As d c e = by (before_or_from m d)
  where
    by : (d < m) ⊎ (m ≤ d) → further_at m As d ≡ further_at n As c
    by (inl l) = further_before m As d l ∙ sym (further_before n As c (omega (arith, e, l)))
    by (inr l) = further_from m As d l ∙ ap (slice_get As) (omega (arith, e, l)) ∙ sym (further_from n As c (omega (arith, e, l)))

-- A type of two lists, one behind the other, is one of the first or of the second.
get_either : (As Cs : List LfType) (i : ℕ) → slice_get (As ++ Cs) i ≡ or_else (slice_get As i) (further_at (length As) Cs i)
get_either [] Cs i = ap (slice_get Cs) (omega arith) ∙ sym (further_from 0 Cs i (omega arith))
get_either (A ∷ As) Cs zero = refl
get_either (A ∷ As) Cs (suc i) = get_either As Cs i ∙ ap (or_else (slice_get As i)) (further_moved (length As) (suc (length As)) Cs i (suc i) (omega arith))

further_either : (n : ℕ) (As Cs : List LfType) (c : ℕ) → further_at n (As ++ Cs) c ≡ or_else (further_at n As c) (further_at (n + length As) Cs c)
further_either n As Cs c = by (before_or_from n c)
  where
    by : (c < n) ⊎ (n ≤ c) → further_at n (As ++ Cs) c ≡ or_else (further_at n As c) (further_at (n + length As) Cs c)
    by (inl l) = further_before n (As ++ Cs) c l ∙ sym (ap₂ or_else (further_before n As c l) (further_before (n + length As) Cs c (omega (arith, l))))
    by (inr l) = further_from n (As ++ Cs) c l ∙ get_either As Cs (c - n) ∙ ap₂ or_else (sym (further_from n As c l)) (further_moved (length As) (n + length As) Cs (c - n) c (omega (arith, l)))

further_one : (n : ℕ) (A : LfType) (c : ℕ) → further_at n (A ∷ []) c ≡ cond (same_number c n) (Some A) None
further_one n A c = by (before_or_from n c)
  where
    at : (b : Bool) → same_number c n ≡ b → n ≤ c → slice_get (A ∷ []) (c - n) ≡ cond b (Some A) None
    at true e l = let i : c - n ≡ 0 = (let q = number_is c n e in omega (arith, q)) in ap (slice_get (A ∷ [])) i
    at false e l = past (c - n) refl
      where
        past : (i : ℕ) → c - n ≡ i → slice_get (A ∷ []) i ≡ None
        past zero q = absurd (differ (omega (arith, l, q)))
          where
            differ : c ≡ n → ⊥
            differ p = true≢false (sym (number_itself c) ∙ ap (same_number c) p ∙ e)
        past (suc i) q = refl

    by : (c < n) ⊎ (n ≤ c) → further_at n (A ∷ []) c ≡ cond (same_number c n) (Some A) None
    by (inl l) = further_before n (A ∷ []) c l ∙ ap (λ b. cond b (Some A) None) (sym (not_same c n (λ e. omega (arith, e, l))))
    by (inr l) = further_from n (A ∷ []) c l ∙ at (same_number c n) refl l

-- So it is with the entries of one block variable.
entry_count : (n : ℕ) (O es : List LfType) → length (entry_types n O es) ≡ length es
entry_count n O [] = refl
entry_count n O (E ∷ es) = length-append (entry_types n O es) (entry_constant_type n O es E ∷ []) ∙ ap (λ m. m + 1) (entry_count n O es) ∙ omega arith

entry_further : (k : ℕ) (B : Block) (n p : ℕ) (es : List LfType) (c : ℕ) → further_at n (entry_types n B.some es) c ≡ entry_type (entry_among k B n p es c)
entry_further k B n p [] c = by (nat_lt c n)
  where
    by : (b : Bool) → ◌≡◌ {A = Option LfType} (cond b None None) None
    by true = refl
    by false = refl
entry_further k B n p (E ∷ es) c =
    further_either n (entry_types n B.some es) (T ∷ []) c
    ∙ ap₂ or_else (entry_further k B n (suc p) es c) (ap (λ m. further_at (n + m) (T ∷ []) c) (entry_count n B.some es) ∙ further_one (n + length es) T c)
    ∙ at (same_number c (n + length es)) refl
  where
    T : LfType
    T = entry_constant_type n B.some es E

    here : EntryConstant
    here = record { number = k; block = B; from = n; place = p; entry = E; before = es }

    at : (b : Bool) → same_number c (n + length es) ≡ b → or_else (entry_type (entry_among k B n (suc p) es c)) (cond b (Some T) None) ≡ entry_type (cond b (Some here) (entry_among k B n (suc p) es c))
    at true e = ap (λ x. or_else (entry_type x) (Some T)) (among_none k B n (suc p) es c (let q = number_is c (n + length es) e in omega (arith, q)))
    at false e = else_none (entry_type (entry_among k B n (suc p) es c))

-- So it is with the entries of all block variables.
either_type : (x y : Option EntryConstant) → or_else (entry_type x) (entry_type y) ≡ entry_type (or_else x y)
either_type None y = refl
either_type (Some e) y = refl

further_entries : (k n : ℕ) (Bs : List Block) (c : ℕ) → further_at n (further_types n Bs) c ≡ entry_type (entry_constant k n Bs c)
further_entries k n [] c = entry_further k (record { label = []; some = []; entries = [] }) n 0 [] c
further_entries k n (B ∷ Bs) c =
    further_either n (entry_types n B.some B.entries) (further_types (n + length B.entries) Bs) c
    ∙ ap₂ or_else (entry_further k B n zero B.entries c) (ap (λ m. further_at (n + m) (further_types (n + length B.entries) Bs) c) (entry_count n B.some B.entries) ∙ further_entries (suc k) (n + length B.entries) Bs c)
    ∙ either_type (entry_among k B n zero B.entries c) (entry_constant (suc k) (n + length B.entries) Bs c)

pub further_is_with_entries : FurtherIsWithEntries
further_is_with_entries Σ first Bs = ap (λ (f : ℕ → Option LfType). record { types = λ c. or_else (Σ.types c) (f c); kinds = Σ.kinds }) (fun_ext (further_entries zero first Bs))

-- A new block variable is the last.
types_behind : (n : ℕ) (Bs : List Block) (B : Block) → further_types n (Bs ++ B ∷ []) ≡ further_types n Bs ++ entry_types (n + length (further_types n Bs)) B.some B.entries
types_behind n [] B = append-nil (entry_types n B.some B.entries) ∙ ap (λ m. entry_types m B.some B.entries) (omega arith)
types_behind n (D ∷ Bs) B =
    let m : ℕ = n + length D.entries in
    let first : List LfType = entry_types n D.some D.entries in
    ap (λ As. first ++ As) (types_behind m Bs B)
    ∙ sym (append_assoc first (further_types m Bs) (entry_types (m + length (further_types m Bs)) B.some B.entries))
    ∙ ap (λ k. (first ++ further_types m Bs) ++ entry_types k B.some B.entries) (let l = length-append first (further_types m Bs) in let e = entry_count n D.some D.entries in omega (arith, l, e))

pub new_types_come_last : NewTypesComeLast
new_types_come_last first B C = ap (further_types first) (new_blocks_are B C) ∙ types_behind first (blocks_of C.blocks) B

-- The worked rows compute.
pub turned_has_types : TurnedHasTypes
turned_has_types = (refl, refl, refl, refl)

pub pairs_have_types : PairsHaveTypes
pairs_have_types = refl
