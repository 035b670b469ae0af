-- Where an entry constant is found: its block variable, its place in the block, and the constants of the entries before it.
use Rattle.std.proofs.Common.{◌≡◌, ℕ, zero, suc, List, [], ◌∷◌, length, ◌+◌, ◌<◌, Some, Bool, true, false, cond, ◌⊎◌, inl, inr, refl, sym, ap, ◌∙◌, subst, arith}
use Rattle.lf.specs.Syntax.{LfType}
use Rattle.lf.specs.Variables.{onto, same_number}
use Rattle.lf.specs.Subordination.{Block}
use Rattle.lf.proofs.Checker.{number_is, number_itself}
use Rattle.lf_cases.specs.Cover.{place_of}
use Rattle.lf_coverage.proofs.Parts.{some_same}
use Rattle.lf_numbered.specs.EntryConstants.{EntryConstant, entry_among, entry_constant}
use Rattle.lf_numbered.specs.OwnTerms.{BlockVariable, blocks_of, terms_at}
use Rattle.lf_numbered.proofs.EntrySignature.{else_first, else_second, else_cases, among_none, not_same}
use Rattle.lf_numbered.proofs.OwnTerms.{entry_from}

-- A constant among the entries of a block
pub record PlacedAmong (k : ℕ) (B : Block) (n p : ℕ) (ds : List LfType) (c : ℕ) (e : EntryConstant) : Type 0 where
  pub number : e.number ≡ k
  pub block : e.block ≡ B
  pub from : e.from ≡ n
  pub later : List LfType
  pub place : e.place ≡ p + place_of later
  pub entries : onto later (e.entry ∷ e.before) ≡ ds
  pub constant : c ≡ n + length e.before

pub placed_among : (k : ℕ) (B : Block) (n p : ℕ) (ds : List LfType) (c : ℕ) (e : EntryConstant) → entry_among k B n p ds c ≡ Some e → PlacedAmong k B n p ds c e
placed_among k B n p [] c e q = absurd cc
placed_among k B n p (E ∷ es) c e q = by (placed_among k B n (suc p) es c e) (same_number c (n + length es)) refl q
  where
    here : EntryConstant
    here = record { number = k; block = B; from = n; place = p; entry = E; before = es }

    nothing_later : (p : ℕ) → p ≡ p + 0
    nothing_later p = omega arith

    first : c ≡ n + length es → PlacedAmong k B n p (E ∷ es) c here
    first i = record { number = refl; block = refl; from = refl; later = []; place = nothing_later p; entries = refl; constant = i }

    one_later : (m p l : ℕ) → m ≡ suc p + l → m ≡ p + suc l
    one_later m p l e = omega (arith, e)

    by : (entry_among k B n (suc p) es c ≡ Some e → PlacedAmong k B n (suc p) es c e) → (b : Bool) → same_number c (n + length es) ≡ b → cond b (Some here) (entry_among k B n (suc p) es c) ≡ Some e → PlacedAmong k B n p (E ∷ es) c e
    by ih true s r = subst (PlacedAmong k B n p (E ∷ es) c) (some_same r) (first (number_is c (n + length es) s))
    by ih false s r = let a = ih r in record { number = a.number; block = a.block; from = a.from; later = E ∷ a.later; place = one_later e.place p (place_of a.later) a.place; entries = ap (λ ds. E ∷ ds) a.entries; constant = a.constant }

-- and each entry has its constant
pub among_at : (k : ℕ) (B : Block) (n p : ℕ) (later : List LfType) (E : LfType) (es : List LfType) → entry_among k B n p (onto later (E ∷ es)) (n + length es) ≡ Some (record { number = k; block = B; from = n; place = p + place_of later; entry = E; before = es })
among_at k B n p [] E es = ap (λ b. cond b (Some (record { number = k; block = B; from = n; place = p; entry = E; before = es })) (entry_among k B n (suc p) es (n + length es))) (number_itself (n + length es)) ∙ ap (λ j. Some (record { number = k; block = B; from = n; place = j; entry = E; before = es })) (no_later p)
  where
    no_later : (p : ℕ) → p ≡ p + 0
    no_later p = omega arith
among_at k B n p (D ∷ later) E es =
    ap (λ b. cond b (Some (record { number = k; block = B; from = n; place = p; entry = D; before = onto later (E ∷ es) })) (entry_among k B n (suc p) (onto later (E ∷ es)) (n + length es))) (not_same (n + length es) (n + length (onto later (E ∷ es))) (λ i. let l = longer later E es in omega (arith, i)))
    ∙ among_at k B n (suc p) later E es
    ∙ ap (λ j. Some (record { number = k; block = B; from = n; place = j; entry = E; before = es })) (next p (place_of later))
  where
    longer : (later : List LfType) (E : LfType) (es : List LfType) → length es < length (onto later (E ∷ es))
    longer [] E es = omega arith
    longer (D ∷ later) E es = let l = longer later E es in omega arith

    next : (p l : ℕ) → suc p + l ≡ p + suc l
    next p l = omega arith

-- A fact of each block variable of a list, by its number
abbrev pub EachBlock : (ℕ → BlockVariable → Type 0) → ℕ → List BlockVariable → Type 0
EachBlock P k [] = Unit {0}
EachBlock P k (b ∷ bs) = P k b × EachBlock P (suc k) bs

-- An entry of the list: the block variable that it is an entry of, with its fact; and the other entries of this
pub record Found (P : ℕ → BlockVariable → Type 0) (k n : ℕ) (bs : List BlockVariable) (c : ℕ) (e : EntryConstant) : Type 0 where
  pub variable : BlockVariable
  pub index : ℕ
  pub number : e.number ≡ k + index
  pub terms : terms_at bs index ≡ Some variable.terms
  pub fact : P e.number variable
  pub among : entry_among e.number variable.block e.from zero variable.block.entries c ≡ Some e
  pub others : (d : ℕ) (x : EntryConstant) → entry_among e.number variable.block e.from zero variable.block.entries d ≡ Some x → entry_constant k n (blocks_of bs) d ≡ Some x

pub entry_found : (P : ℕ → BlockVariable → Type 0) (k n : ℕ) (bs : List BlockVariable) (c : ℕ) (e : EntryConstant) → entry_constant k n (blocks_of bs) c ≡ Some e → EachBlock P k bs → Found P k n bs c e
entry_found P k n [] c e q h = absurd cc
entry_found P k n (b ∷ bs) c e q (p, h) = at (λ r. entry_found P (suc k) (n + length b.block.entries) bs c e r h) (else_cases (entry_among k b.block n zero b.block.entries c) (entry_constant (suc k) (n + length b.block.entries) (blocks_of bs) c) e q)
  where
    no_index : (m k : ℕ) → m ≡ k → m ≡ k + 0
    no_index m k e = omega (arith, e)

    next_index : (m k j : ℕ) → m ≡ suc k + j → m ≡ k + suc j
    next_index m k j e = omega (arith, e)

    at : (entry_constant (suc k) (n + length b.block.entries) (blocks_of bs) c ≡ Some e → Found P (suc k) (n + length b.block.entries) bs c e) → (entry_among k b.block n zero b.block.entries c ≡ Some e) ⊎ (entry_constant (suc k) (n + length b.block.entries) (blocks_of bs) c ≡ Some e) → Found P k n (b ∷ bs) c e
    at ih (inl r) =
        let a = placed_among k b.block n zero b.block.entries c e r in
        let same : (d : ℕ) → entry_among e.number b.block e.from zero b.block.entries d ≡ entry_among k b.block n zero b.block.entries d = λ d. ap (λ j. entry_among j b.block e.from zero b.block.entries d) a.number ∙ ap (λ m. entry_among k b.block m zero b.block.entries d) a.from in
        record {
          variable = b;
          index = zero;
          number = no_index e.number k a.number;
          terms = refl;
          fact = subst (λ j. P j b) (sym a.number) p;
          among = same c ∙ r;
          others = λ d x s. else_first (entry_among k b.block n zero b.block.entries d) (entry_constant (suc k) (n + length b.block.entries) (blocks_of bs) d) x (sym (same d) ∙ s);
        }
    at ih (inr r) =
        let f = ih r in
        record {
          variable = f.variable;
          index = suc f.index;
          number = next_index e.number k f.index f.number;
          terms = f.terms;
          fact = f.fact;
          among = f.among;
          others = λ d x s. else_second (entry_among k b.block n zero b.block.entries d) (entry_constant (suc k) (n + length b.block.entries) (blocks_of bs) d) (Some x) (among_none k b.block n zero b.block.entries d (entry_from (suc k) (n + length b.block.entries) (blocks_of bs) d x (f.others d x s))) (f.others d x s);
        }
