-- The constants of the entries of a block variable behind others, and what an instance gives from an entry on.
use Rattle.std.proofs.Common.{◌≡◌, ℕ, zero, suc, List, [], ◌∷◌, ◌++◌, length, ◌+◌, ◌≤◌, Some, refl, sym, ap, ◌∙◌, arith}
use Rattle.lf.specs.Syntax.{LfType, Skeleton}
use Rattle.lf.specs.Substitution.{Image, keep, put, rename_image}
use Rattle.lf.specs.SkeletonTyping.{HeadSkeletons, ImageSkeleton}
use Rattle.lf.specs.Variables.{onto}
use Rattle.lf.specs.Subordination.{Block}
use Rattle.lf.proofs.SkeletonTyping.{renaming_keeps_skeletons}
use Rattle.lf_cases.specs.Cover.{place_of}
use Rattle.lf_cases.specs.Case.{entries_in_front, behind_entries}
use Rattle.lf_numbered.specs.EntryConstants.{entry_among, entry_constant}
use Rattle.lf_numbered.specs.Numbering.{entries_of}
use Rattle.lf_numbered.specs.OwnTerms.{BlockVariable, blocks_of, rename_blocks}
use Rattle.lf_numbered.specs.Reading.{entry_reading}
use Rattle.lf_numbered.proofs.EntryFound.{among_at}
use Rattle.lf_numbered.proofs.EntrySignature.{else_first, else_second, among_none}
use Rattle.lf_numbered.proofs.Reading.{read_renamed, read_image}
use Rattle.lf_numbered.proofs.ReadValues.{reading_next}

-- The entries of a block variable behind others
pub entry_behind : (k n : ℕ) (Bs : List Block) (B : Block) (Cs : List Block) (later : List LfType) (E : LfType) (es : List LfType) → onto later (E ∷ es) ≡ B.entries → entry_constant k n (Bs ++ B ∷ Cs) ((n + entries_of Bs) + length es) ≡ Some (record { number = k + length Bs; block = B; from = n + entries_of Bs; place = place_of later; entry = E; before = es })
entry_behind k n [] B Cs later E es e =
    ap (λ m. entry_constant k n (B ∷ Cs) (m + length es)) (none n)
    ∙ else_first (entry_among k B n zero B.entries (n + length es)) (entry_constant (suc k) (n + length B.entries) Cs (n + length es)) (record { number = k; block = B; from = n; place = zero + place_of later; entry = E; before = es }) (ap (λ ds. entry_among k B n zero ds (n + length es)) (sym e) ∙ among_at k B n zero later E es)
    ∙ ap (λ j. Some (record { number = j; block = B; from = n; place = zero + place_of later; entry = E; before = es })) (sym (none k))
    ∙ ap (λ m. Some (record { number = k + 0; block = B; from = m; place = zero + place_of later; entry = E; before = es })) (sym (none n))
    ∙ ap (λ p. Some (record { number = k + 0; block = B; from = n + 0; place = p; entry = E; before = es })) (left (place_of later))
  where
    none : (m : ℕ) → m + 0 ≡ m
    none m = omega arith

    left : (m : ℕ) → zero + m ≡ m
    left m = omega arith
entry_behind k n (D ∷ Bs) B Cs later E es e =
    else_second (entry_among k D n zero D.entries (((n + (length D.entries + entries_of Bs)) + length es))) (entry_constant (suc k) (n + length D.entries) (Bs ++ B ∷ Cs) ((n + (length D.entries + entries_of Bs)) + length es)) (entry_constant (suc k) (n + length D.entries) (Bs ++ B ∷ Cs) ((n + (length D.entries + entries_of Bs)) + length es)) (among_none k D n zero D.entries ((n + (length D.entries + entries_of Bs)) + length es) (past n (length D.entries) (entries_of Bs) (length es))) refl
    ∙ ap (λ m. entry_constant (suc k) (n + length D.entries) (Bs ++ B ∷ Cs) (m + length es)) (sums n (length D.entries) (entries_of Bs))
    ∙ entry_behind (suc k) (n + length D.entries) Bs B Cs later E es e
    ∙ ap (λ j. Some (record { number = j; block = B; from = (n + length D.entries) + entries_of Bs; place = place_of later; entry = E; before = es })) (next k (length Bs))
    ∙ ap (λ m. Some (record { number = k + suc (length Bs); block = B; from = m; place = place_of later; entry = E; before = es })) (sym (sums n (length D.entries) (entries_of Bs)))
  where
    past : (n d s l : ℕ) → n + d ≤ (n + (d + s)) + l
    past n d s l = omega arith

    sums : (n d s : ℕ) → n + (d + s) ≡ (n + d) + s
    sums n d s = omega arith

    next : (k l : ℕ) → suc k + l ≡ k + suc l
    next k l = omega arith

-- Images and skeletons under one more variable
pub image_moved : (κ : HeadSkeletons) (Θ : List Skeleton) (a t : Skeleton) (y : Image) → ImageSkeleton κ Θ y t → ImageSkeleton κ (a ∷ Θ) (rename_image suc y) t
image_moved κ Θ a t (keep j) g = g
image_moved κ Θ a t (put b N) (e, n) = (e, renaming_keeps_skeletons κ Θ (a ∷ Θ) suc N b (λ i u g. g) n)

pub image_read_next : (first : ℕ) (Bs : List Block) (θ : ℕ → ℕ → Image) (n : ℕ) (y : Image) → read_image (entry_reading first Bs θ (suc n)) (rename_image suc y) ≡ rename_image suc (read_image (entry_reading first Bs θ n) y)
image_read_next first Bs θ n (keep j) = refl
image_read_next first Bs θ n (put a N) = ap (put a) (read_renamed (entry_reading first Bs θ n) (entry_reading first Bs θ (suc n)) suc N (reading_next first Bs θ n))

-- what an instance gives from an entry on
pub from_next : (later : List LfType) (E : LfType) (φ : ℕ → Image) (i : ℕ) → behind_entries (onto later (E ∷ [])) φ i ≡ behind_entries later φ (suc i)
from_next [] E φ i = refl
from_next (D ∷ ds) E φ i = from_next ds E (λ j. φ (suc j)) i

pub from_first : (later : List LfType) (φ : ℕ → Image) → behind_entries later φ zero ≡ φ (place_of later)
from_first [] φ = refl
from_first (D ∷ ds) φ = from_first ds (λ j. φ (suc j))

pub in_front_same : (ds : List LfType) (θ φ τ : ℕ → Image) (i : ℕ) → ((j : ℕ) → θ j ≡ φ j) → entries_in_front ds θ τ i ≡ entries_in_front ds φ τ i
in_front_same [] θ φ τ i h = refl
in_front_same (E ∷ es) θ φ τ zero h = h zero
in_front_same (E ∷ es) θ φ τ (suc i) h = in_front_same es (λ j. θ (suc j)) (λ j. φ (suc j)) τ i (λ j. h (suc j))

pub blocks_renamed : (ρ : ℕ → ℕ) (bs : List BlockVariable) → blocks_of (rename_blocks ρ bs) ≡ blocks_of bs
blocks_renamed ρ [] = refl
blocks_renamed ρ (b ∷ bs) = ap (λ Bs. b.block ∷ Bs) (blocks_renamed ρ bs)

pub blocks_with : (bs : List BlockVariable) (b : BlockVariable) (Cs : List Block) → blocks_of (bs ++ b ∷ []) ++ Cs ≡ blocks_of bs ++ b.block ∷ Cs
blocks_with [] b Cs = refl
blocks_with (d ∷ bs) b Cs = ap (λ Bs. d.block ∷ Bs) (blocks_with bs b Cs)
