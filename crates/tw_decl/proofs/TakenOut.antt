-- Rows of worlds for families, and the rows that give way to them.
use Rattle.std.proofs.Common.{◌≡◌, ℕ, List, [], ◌∷◌, ◌++◌, Bool, true, false, drop, take, length, refl, sym, ap, ap₂, ◌∙◌}
use Rattle.std.proofs.Math.Seq.{drop-append_seam, take-append_seam}
use Rattle.std.proofs.lemmas.List.{append_assoc, map-append}
use Rattle.std.specs.Prelude.{map as each, if◌then◌else◌}
use Rattle.lf.specs.Subordination.{Block}
use Rattle.lf.specs.Variables.{same_number}
use Rattle.lf_checks.specs.Tests.{either, is_in}
use Rattle.lf_checks.specs.WorldFaults.{WorldRow}
use Rattle.tw_signature.proofs.Marking.{same_not, same_self}
use Rattle.tw_terms.specs.declared.canonical.ConstId.{ConstId}
use Rattle.tw_decl.specs.View.{rows_beside, world_row}

-- rows for families are rows of their numbers
rows_each : (W : List Block) (families : List ConstId) → each (λ (f : ConstId). world_row W f.0) families ≡ each (world_row W) (each (λ (f : ConstId). f.0) families)
rows_each W [] = refl
rows_each W (f ∷ families) = ap (λ rows. world_row W f.0 ∷ rows) (rows_each W families)

-- Whether a number is in a list, one place after the other.
module _ (f : ℕ) (left rest : List ℕ) (x : ℕ) (here : left ≡ x ∷ rest) where
  pub found_here : x ≡ f → is_in f left ≡ true
  found_here e = ap (is_in f) here ∙ ap (λ (n : ℕ). either (same_number f n) (is_in f rest)) e ∙ ap (λ (b : Bool). either b (is_in f rest)) (same_self f)

  pub not_here : (x ≡ f → ⊥) → is_in f rest ≡ is_in f left
  not_here n = sym (ap (is_in f) here ∙ ap (λ (b : Bool). either b (is_in f rest)) (same_not f x (λ e. n (sym e))))

-- At each place: the rows before it stay, and of those behind it the others.
module _ {A : Type 0} (see : A → WorldRow) (families : List ℕ) where
  abbrev pub standing : List A → List A → List WorldRow
  standing before behind = each see before ++ rows_beside families (each see behind)

  -- a row of one of the families goes
  pub one_goes : (before behind rest : List A) (x : A) → behind ≡ x ∷ rest → is_in (see x).family families ≡ true → standing before rest ≡ standing before behind
  one_goes before behind rest x e out =
      sym (ap (λ (xs : List A). each see before ++ rows_beside families (each see xs)) e
      ∙ ap (λ (b : Bool). each see before ++ (if b then rows_beside families (each see rest) else see x ∷ rows_beside families (each see rest))) out)

  -- another row stays
  pub one_stays : (before after behind rest : List A) (x : A) → behind ≡ x ∷ rest → after ≡ before ++ x ∷ [] → is_in (see x).family families ≡ false → standing after rest ≡ standing before behind
  one_stays before after behind rest x e f out =
      ap (λ (xs : List A). each see xs ++ rows_beside families (each see rest)) f
      ∙ ap (λ (rows : List WorldRow). rows ++ rows_beside families (each see rest)) (map-append see before (x ∷ []))
      ∙ append_assoc (each see before) (see x ∷ []) (rows_beside families (each see rest))
      ∙ sym (ap (λ (xs : List A). each see before ++ rows_beside families (each see xs)) e
      ∙ ap (λ (b : Bool). each see before ++ (if b then rows_beside families (each see rest) else see x ∷ rows_beside families (each see rest))) out)

-- behind the new rows stand those of the other families
pub new_rows : {A : Type 0} (see : A → WorldRow) (W : List Block) (families : List ConstId) (news old both all : List A) → each see news ≡ each (λ (f : ConstId). world_row W f.0) families → both ≡ news ++ old
    → (count : ℕ) → count ≡ length news → each see all ≡ standing see (each (λ (f : ConstId). f.0) families) (take count both) (drop count both)
    → each see all ≡ each (world_row W) (each (λ (f : ConstId). f.0) families) ++ rows_beside (each (λ (f : ConstId). f.0) families) (each see old)
new_rows see W families news old both all n b count c e =
    let fs = each (λ (f : ConstId). f.0) families in
    e ∙ ap₂ (standing see fs) (ap₂ take c b ∙ take-append_seam news old) (ap₂ drop c b ∙ drop-append_seam news old)
    ∙ ap (λ (rows : List WorldRow). rows ++ rows_beside fs (each see old)) (n ∙ rows_each W families)
