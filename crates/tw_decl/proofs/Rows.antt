-- The orders of call patterns, one after the other.
use Rattle.std.proofs.Common.{◌≡◌, ℕ, suc, List, [], ◌∷◌, Bool, true, false, Option, Some, None, map, refl, sym, ap, ap₂, ◌∙◌, subst}
use Rattle.std.specs.FinMap.{get}
use Rattle.std.specs.Prelude.{is_some, cond}
use Rattle.lf_checks.specs.Marks.{Mark}
use Rattle.lf_checks.specs.ModeRows.{first_unmoded, is_moded, marks_of, or_no_marks}
use Rattle.tw_mode.specs.ModeTables.{MarksByFamily, mode_rows}
use Rattle.tw_mode.proofs.Tabling.{rows_have}
use Rattle.tw_parse_checks.specs.Checks.{Call, Order}
use Rattle.tw_signature.specs.Names.{number_of}
use Rattle.tw_decl.specs.Termination.{AreAtInputs, IsAtInputs, order_by}
use Rattle.tw_decl.specs.View.{View}

-- the call patterns that are left, the first of which has the number k, decide for all
pub record AllAtInputs (v : View) (k : ℕ) (O : Order) (left all : List Call) : Type 0 where
  pub then_all : AreAtInputs v k O left → AreAtInputs v 0 O all
  pub then_left : AreAtInputs v 0 O all → AreAtInputs v k O left

pub all_at_first : (v : View) (O : Order) (all : List Call) → AllAtInputs v 0 O all all
all_at_first v O all = record { then_all = λ h. h; then_left = λ h. h }

pub all_at_next : (v : View) (k : ℕ) (O : Order) (p : Call) (left rest all : List Call) → left ≡ p ∷ rest → IsAtInputs v (number_of v.signature p.family.name) (order_by v.signature k O p) → AllAtInputs v k O left all → AllAtInputs v (suc k) O rest all
all_at_next v k O p left rest all e at h = let d : AllAtInputs v k O (p ∷ rest) all = subst (λ xs. AllAtInputs v k O xs all) e h in record { then_all = λ q. d.then_all (at, q); then_left = λ q. (d.then_left q).1 }

pub none_at : (v : View) (k : ℕ) (O : Order) (p : Call) (left rest all : List Call) → left ≡ p ∷ rest → (IsAtInputs v (number_of v.signature p.family.name) (order_by v.signature k O p) → ⊥) → AllAtInputs v k O left all → AreAtInputs v 0 O all → ⊥
none_at v k O p left rest all e off h q = let d : AllAtInputs v k O (p ∷ rest) all = subst (λ xs. AllAtInputs v k O xs all) e h in off ((d.then_left q).0)

-- the marks of a family, by the table
pub marks_some : (m : MarksByFamily) (f : ℕ) (ms : List Mark) → Some ms ≡ get m f → ms ≡ marks_of (mode_rows m) f
marks_some m f ms e = ap or_no_marks (e ∙ rows_have m f)

pub marks_none : (m : MarksByFamily) (f : ℕ) → None ≡ get m f → [] ≡ marks_of (mode_rows m) f
marks_none m f e = ap or_no_marks (e ∙ rows_have m f)

-- whether it has any
pub is_unmoded : (m : MarksByFamily) (f : ℕ) → None ≡ get m f → false ≡ is_moded (mode_rows m) f
is_unmoded m f e = ap is_some (e ∙ rows_have m f)

pub is_moded_by : (m : MarksByFamily) (f : ℕ) (ms : List Mark) → Some ms ≡ get m f → true ≡ is_moded (mode_rows m) f
is_moded_by m f ms e = ap is_some (e ∙ rows_have m f)

-- the first of a list without any, and past one that has some
pub unmoded_first : (moded : ℕ → Bool) (f : ℕ) (left rest : List ℕ) (found : Option ℕ) → left ≡ f ∷ rest → moded f ≡ false → first_unmoded moded left ≡ found → Some f ≡ found
unmoded_first moded f left rest found e n h = sym (ap (first_unmoded moded) e ∙ ap (λ b. cond b (first_unmoded moded rest) (Some f)) n) ∙ h

pub unmoded_later : (moded : ℕ → Bool) (f : ℕ) (left rest : List ℕ) (found : Option ℕ) → left ≡ f ∷ rest → moded f ≡ true → first_unmoded moded left ≡ found → first_unmoded moded rest ≡ found
unmoded_later moded f left rest found e n h = sym (ap (first_unmoded moded) e ∙ ap (λ b. cond b (first_unmoded moded rest) (Some f)) n) ∙ h

some_here : {X : Type 0} {x y : X} → Some x ≡ Some y → x ≡ y
some_here e = cc

-- lists are told by their elements
pub same_lists : (xs ys : List ℕ) → map Some xs ≡ map Some ys → xs ≡ ys
same_lists [] [] e = refl
same_lists [] (y ∷ ys) e = cc
same_lists (x ∷ xs) [] e = cc
same_lists (x ∷ xs) (y ∷ ys) e =
    let first : Some x ≡ Some y = cc in
    let rest : map Some xs ≡ map Some ys = cc in
    ap₂ (λ z zs. z ∷ zs) (some_here first) (same_lists xs ys rest)
