-- Which block variable stands for an instance of the context, told by its newest entry; and the constants of the entries.
use Rattle.std.proofs.Common.{◌≡◌, ℕ, zero, suc, List, [], ◌∷◌, ◌+◌, ◌<◌, length, Option, Some, None, inl, inr, refl, sym, ap, ◌∙◌, subst, arith}
use Rattle.std.specs.Prelude.{Bool, true, false, cond, ◌⊎◌}
use Rattle.lf.specs.Syntax.{LfType}
use Rattle.lf.specs.Substitution.{Image, keep, put, substitute_spine, reduce}
use Rattle.lf.specs.Variables.{onto, same_number}
use Rattle.lf.specs.Subordination.{Block}
use Rattle.lf.specs.Worlds.{World}
use Rattle.lf.proofs.Checker.{number_is, number_itself}
use Rattle.lf_checks.specs.Clause.{among}
use Rattle.lf_cases.specs.Case.{behind_entries}
use Rattle.lf.specs.Typing.{Signature}
use Rattle.lf_cases.specs.Cover.{InstanceIn, place_of}
use Rattle.lf_coverage.specs.OrElse.{or_else}
use Rattle.lf_coverage.proofs.Parts.{none_some, some_same}
use Rattle.lf_numbered.specs.EntryConstants.{EntryConstant, entry_among, entry_constant}
use Rattle.lf_numbered.specs.NumberedCase.{AreInstances, some_spine}
use Rattle.lf_numbered.specs.NumberedInstance.{block_at, first_constant}
use Rattle.lf_numbered.specs.Numbering.{entries_of}
use Rattle.lf_numbered.specs.OwnTerms.{BlockVariable, blocks_of}
use Rattle.lf_numbered.specs.Reading.{read_spine}
use Rattle.lf_numbered.proofs.EntryFound.{placed_among, among_at}
use Rattle.lf_numbered.proofs.EntrySignature.{else_cases, else_first, else_second, among_below, among_none}
use Rattle.lf_numbered.proofs.OwnTerms.{entry_from}

abbrev same_variable : Image → Image → Bool
same_variable (keep i) (keep j) = same_number i j
same_variable (keep i) (put a N) = false
same_variable (put a N) y = false

-- n, where there is an entry and x and y are the same variable
abbrev chosen_first : List LfType → Image → Image → ℕ → Option ℕ
chosen_first [] x y n = None
chosen_first (E ∷ es) x y n = cond (same_variable x y) (Some n) None

-- The first constant of the first block variable of these whose instance has the newest entry of φ; the first of them has the number k.
abbrev pub choose : (ℕ → ℕ → Image) → ℕ → ℕ → List Block → (ℕ → Image) → Option ℕ
choose θ k n [] φ = None
choose θ k n (B ∷ Bs) φ = or_else (chosen_first B.entries (θ k zero) (φ zero) n) (choose θ (suc k) (n + length B.entries) Bs φ)

same_is : (x y : Image) → same_variable x y ≡ true → (v : ℕ) × (x ≡ keep v) × (y ≡ keep v)
same_is (keep i) (keep j) e = (i, refl, ap keep (sym (number_is i j e)))
same_is (keep i) (put a N) e = absurd cc
same_is (put a N) y e = absurd cc

pub no_more : (k : ℕ) → k ≡ k + 0
no_more k = omega arith

pub one_more : (k j : ℕ) → suc k + j ≡ k + suc j
one_more k j = omega arith

-- the constants of the block variable of a number
pub record HasConstants (k n : ℕ) (bs : List BlockVariable) (j : ℕ) (b : BlockVariable) (m : ℕ) : Type 0 where
  pub at : block_at bs j ≡ Some b
  pub from : m ≡ first_constant n (blocks_of bs) j
  pub constants : (later : List LfType) (E : LfType) (ds : List LfType) → onto later (E ∷ ds) ≡ b.block.entries → entry_constant k n (blocks_of bs) (m + length ds) ≡ Some (record { number = k + j; block = b.block; from = m; place = place_of later; entry = E; before = ds })

here : (k n : ℕ) (b : BlockVariable) (bs : List BlockVariable) → HasConstants k n (b ∷ bs) zero b n
here k n b bs = record { at = refl; from = refl; constants = constants }
  where
    constants : (later : List LfType) (E : LfType) (ds : List LfType) → onto later (E ∷ ds) ≡ b.block.entries → entry_constant k n (b.block ∷ blocks_of bs) (n + length ds) ≡ Some (record { number = k + 0; block = b.block; from = n; place = place_of later; entry = E; before = ds })
    constants later E ds e =
        else_first (entry_among k b.block n zero b.block.entries (n + length ds)) (entry_constant (suc k) (n + length b.block.entries) (blocks_of bs) (n + length ds)) (record { number = k; block = b.block; from = n; place = zero + place_of later; entry = E; before = ds }) (ap (λ es. entry_among k b.block n zero es (n + length ds)) (sym e) ∙ among_at k b.block n zero later E ds)
        ∙ ap (λ j. Some (record { number = j; block = b.block; from = n; place = zero + place_of later; entry = E; before = ds })) (no_more k)
        ∙ ap (λ p. Some (record { number = k + 0; block = b.block; from = n; place = p; entry = E; before = ds })) (left (place_of later))
      where
        left : (p : ℕ) → zero + p ≡ p
        left p = omega arith

next : (k n : ℕ) (d : BlockVariable) (bs : List BlockVariable) (j : ℕ) (b : BlockVariable) (m : ℕ) → HasConstants (suc k) (n + length d.block.entries) bs j b m → HasConstants k n (d ∷ bs) (suc j) b m
next k n d bs j b m h = record { at = h.at; from = h.from; constants = constants }
  where
    constants : (later : List LfType) (E : LfType) (ds : List LfType) → onto later (E ∷ ds) ≡ b.block.entries → entry_constant k n (d.block ∷ blocks_of bs) (m + length ds) ≡ Some (record { number = k + suc j; block = b.block; from = m; place = place_of later; entry = E; before = ds })
    constants later E ds e =
        let q = h.constants later E ds e in
        else_second (entry_among k d.block n zero d.block.entries (m + length ds)) (entry_constant (suc k) (n + length d.block.entries) (blocks_of bs) (m + length ds)) (Some (record { number = suc k + j; block = b.block; from = m; place = place_of later; entry = E; before = ds })) (among_none k d.block n zero d.block.entries (m + length ds) (entry_from (suc k) (n + length d.block.entries) (blocks_of bs) (m + length ds) (record { number = suc k + j; block = b.block; from = m; place = place_of later; entry = E; before = ds }) q)) q
        ∙ ap (λ i. Some (record { number = i; block = b.block; from = m; place = place_of later; entry = E; before = ds })) (one_more k j)

pub has_constants : (k n : ℕ) (bs : List BlockVariable) (j : ℕ) (b : BlockVariable) → block_at bs j ≡ Some b → (m : ℕ) × HasConstants k n bs j b m
has_constants k n [] j b e = absurd cc
has_constants k n (d ∷ bs) zero b e = subst (λ c. (m : ℕ) × HasConstants k n (d ∷ bs) zero c m) (some_same e) (n, here k n d bs)
has_constants k n (d ∷ bs) (suc j) b e = let (m, h) = has_constants (suc k) (n + length d.block.entries) bs j b e in (m, next k n d bs j b m h)

-- an entry constant is one of these
pub from_is : (k n : ℕ) (bs : List BlockVariable) (c : ℕ) (e : EntryConstant) → entry_constant k n (blocks_of bs) c ≡ Some e → (j : ℕ) × (b : BlockVariable) × (block_at bs j ≡ Some b) × (e.number ≡ k + j) × (e.block ≡ b.block) × (e.from ≡ first_constant n (blocks_of bs) j) × (c ≡ e.from + length e.before) × (later : List LfType) × (onto later (e.entry ∷ e.before) ≡ b.block.entries) × (e.place ≡ place_of later)
from_is k n [] c e q = absurd cc
from_is k n (d ∷ bs) c e q = by (λ r. from_is (suc k) (n + length d.block.entries) bs c e r) (else_cases (entry_among k d.block n zero d.block.entries c) (entry_constant (suc k) (n + length d.block.entries) (blocks_of bs) c) e q)
  where
    left : (x p : ℕ) → x ≡ zero + p → x ≡ p
    left x p e = omega (arith, e)

    by : (entry_constant (suc k) (n + length d.block.entries) (blocks_of bs) c ≡ Some e → (j : ℕ) × (b : BlockVariable) × (block_at bs j ≡ Some b) × (e.number ≡ suc k + j) × (e.block ≡ b.block) × (e.from ≡ first_constant (n + length d.block.entries) (blocks_of bs) j) × (c ≡ e.from + length e.before) × (later : List LfType) × (onto later (e.entry ∷ e.before) ≡ b.block.entries) × (e.place ≡ place_of later)) → (entry_among k d.block n zero d.block.entries c ≡ Some e) ⊎ (entry_constant (suc k) (n + length d.block.entries) (blocks_of bs) c ≡ Some e) → (j : ℕ) × (b : BlockVariable) × (block_at (d ∷ bs) j ≡ Some b) × (e.number ≡ k + j) × (e.block ≡ b.block) × (e.from ≡ first_constant n (d.block ∷ blocks_of bs) j) × (c ≡ e.from + length e.before) × (later : List LfType) × (onto later (e.entry ∷ e.before) ≡ b.block.entries) × (e.place ≡ place_of later)
    by ih (inl r) = let p = placed_among k d.block n zero d.block.entries c e r in (zero, d, refl, p.number ∙ no_more k, p.block, p.from, p.constant ∙ ap (λ x. x + length e.before) (sym p.from), p.later, p.entries, left e.place (place_of p.later) p.place)
    by ih (inr r) = let (j, b, a, u, v, f, s, l, o, p) = ih r in (suc j, b, a, u ∙ one_more k j, v, f, s, l, o, p)

-- and its number is among the first ones
pub entry_below : (k n : ℕ) (Bs : List Block) (c : ℕ) (e : EntryConstant) → entry_constant k n Bs c ≡ Some e → c < n + entries_of Bs
entry_below k n [] c e q = absurd (none_some q)
entry_below k n (B ∷ Bs) c e q = by (λ r. entry_below (suc k) (n + length B.entries) Bs c e r) (else_cases (entry_among k B n zero B.entries c) (entry_constant (suc k) (n + length B.entries) Bs c) e q)
  where
    by : (entry_constant (suc k) (n + length B.entries) Bs c ≡ Some e → c < (n + length B.entries) + entries_of Bs) → (entry_among k B n zero B.entries c ≡ Some e) ⊎ (entry_constant (suc k) (n + length B.entries) Bs c ≡ Some e) → c < n + (length B.entries + entries_of Bs)
    by ih (inl r) = let l = among_below k B n zero B.entries c e r in omega (arith, l)
    by ih (inr r) = let l = ih r in omega (arith, l)

-- What is chosen has the newest entry.
abbrev pub IsChoice : (ℕ → ℕ → Image) → ℕ → ℕ → List BlockVariable → (ℕ → Image) → ℕ → Type 0
IsChoice θ k n bs φ m = (j : ℕ) × (b : BlockVariable) × HasConstants k n bs j b m × (among b.block.entries zero ≡ true) × (v : ℕ) × (θ (k + j) zero ≡ keep v) × (φ zero ≡ keep v)

first_sound : (es : List LfType) (x y : Image) (n m : ℕ) → chosen_first es x y n ≡ Some m → (n ≡ m) × (among es zero ≡ true) × (v : ℕ) × (x ≡ keep v) × (y ≡ keep v)
first_sound [] x y n m e = absurd cc
first_sound (E ∷ es) x y n m e = by (same_variable x y) refl e
  where
    by : (b : Bool) → same_variable x y ≡ b → cond b (Some n) None ≡ Some m → (n ≡ m) × (among (E ∷ es) zero ≡ true) × (v : ℕ) × (x ≡ keep v) × (y ≡ keep v)
    by true q r = let (v, s, t) = same_is x y q in (some_same r, refl, v, s, t)
    by false q r = absurd (none_some r)

pub choice_sound : (θ : ℕ → ℕ → Image) (k n : ℕ) (bs : List BlockVariable) (φ : ℕ → Image) (m : ℕ) → choose θ k n (blocks_of bs) φ ≡ Some m → IsChoice θ k n bs φ m
choice_sound θ k n [] φ m e = absurd cc
choice_sound θ k n (d ∷ bs) φ m e = by (λ r. choice_sound θ (suc k) (n + length d.block.entries) bs φ m r) (else_cases (chosen_first d.block.entries (θ k zero) (φ zero) n) (choose θ (suc k) (n + length d.block.entries) (blocks_of bs) φ) m e)
  where
    by : (choose θ (suc k) (n + length d.block.entries) (blocks_of bs) φ ≡ Some m → IsChoice θ (suc k) (n + length d.block.entries) bs φ m) → (chosen_first d.block.entries (θ k zero) (φ zero) n ≡ Some m) ⊎ (choose θ (suc k) (n + length d.block.entries) (blocks_of bs) φ ≡ Some m) → IsChoice θ k n (d ∷ bs) φ m
    by ih (inl r) = let (q, a, v, s, t) = first_sound d.block.entries (θ k zero) (φ zero) n m r in (zero, d, subst (HasConstants k n (d ∷ bs) zero d) q (here k n d bs), a, v, ap (λ i. θ i zero) (sym (no_more k)) ∙ s, t)
    by ih (inr r) = let (j, b, h, a, v, s, t) = ih r in (suc j, b, next k n d bs j b m h, a, v, ap (λ i. θ i zero) (sym (one_more k j)) ∙ s, t)

pub choice_complete : (θ : ℕ → ℕ → Image) (k n : ℕ) (bs : List BlockVariable) (φ : ℕ → Image) (j v : ℕ) (b : BlockVariable) → block_at bs j ≡ Some b → among b.block.entries zero ≡ true → θ (k + j) zero ≡ keep v → φ zero ≡ keep v → (m : ℕ) × (choose θ k n (blocks_of bs) φ ≡ Some m)
choice_complete θ k n [] φ j v b e a s t = absurd cc
choice_complete θ k n (d ∷ bs) φ zero v b e a s t = by d.block.entries (ap (λ (c : BlockVariable). among c.block.entries zero) (some_same e) ∙ a)
  where
    same : same_variable (θ k zero) (φ zero) ≡ true
    same = ap (λ x. same_variable x (φ zero)) (ap (λ i. θ i zero) (no_more k) ∙ s) ∙ ap (same_variable (keep v)) t ∙ number_itself v

    by : (es : List LfType) → among es zero ≡ true → (m : ℕ) × (or_else (chosen_first es (θ k zero) (φ zero) n) (choose θ (suc k) (n + length d.block.entries) (blocks_of bs) φ) ≡ Some m)
    by [] q = absurd cc
    by (E ∷ es) q = (n, else_first (cond (same_variable (θ k zero) (φ zero)) (Some n) None) (choose θ (suc k) (n + length d.block.entries) (blocks_of bs) φ) n (ap (λ c. cond c (Some n) None) same))
choice_complete θ k n (d ∷ bs) φ (suc j) v b e a s t = by (chosen_first d.block.entries (θ k zero) (φ zero) n) (choice_complete θ (suc k) (n + length d.block.entries) bs φ j v b e a (ap (λ i. θ i zero) (one_more k j) ∙ s) t)
  where
    by : (x : Option ℕ) → (m : ℕ) × (choose θ (suc k) (n + length d.block.entries) (blocks_of bs) φ ≡ Some m) → (m : ℕ) × (or_else x (choose θ (suc k) (n + length d.block.entries) (blocks_of bs) φ) ≡ Some m)
    by None (m, q) = (m, q)
    by (Some m) q = (m, refl)

-- the instance of the block variable of a number
pub instance_of : {Σ : Signature} {W : List Block} {S : ℕ → Bool} {G : List LfType} (w : World Σ W S G) (f : ℕ → Option (ℕ × ℕ)) (σ : ℕ → Image) (θ : ℕ → ℕ → Image) (k : ℕ) (bs : List BlockVariable) → AreInstances w f σ θ k bs → (j : ℕ) (b : BlockVariable) → block_at bs j ≡ Some b → InstanceIn w b.block (θ (k + j)) × (some_spine b.block.some (behind_entries b.block.entries (θ (k + j))) ≡ substitute_spine reduce σ (read_spine f b.terms))
instance_of w f σ θ k [] h j b e = absurd cc
instance_of w f σ θ k (d ∷ bs) (i, s, h) zero b e = subst (λ (c : BlockVariable). InstanceIn w c.block (θ (k + 0)) × (some_spine c.block.some (behind_entries c.block.entries (θ (k + 0))) ≡ substitute_spine reduce σ (read_spine f c.terms))) (some_same e) (subst (λ m. InstanceIn w d.block (θ m) × (some_spine d.block.some (behind_entries d.block.entries (θ m)) ≡ substitute_spine reduce σ (read_spine f d.terms))) (no_more k) (i, s))
instance_of w f σ θ k (d ∷ bs) (i, s, h) (suc j) b e = subst (λ m. InstanceIn w b.block (θ m) × (some_spine b.block.some (behind_entries b.block.entries (θ m)) ≡ substitute_spine reduce σ (read_spine f b.terms))) (one_more k j) (instance_of w f σ θ (suc k) bs h j b e)
