-- Metavariables, laid out one after the other.
use Rattle.std.proofs.Common.{◌≡◌, ℕ, zero, suc, ◌-◌, ◌+◌, ◌<◌, ◌≤◌, List, [], ◌∷◌, ◌++◌, length, map, drop, get_or, Option, Some, None, sym, ap, ap₂, ◌∙◌, arith, add-one, drop-cons}
use Rattle.std.proofs.Math.ListN.{drop_of_length-le}
use Rattle.std.specs.Option.{option_map}
use Rattle.lf.specs.Syntax.{LfType}
use Rattle.tw_abstract.specs.Positions.{first_of}
use Rattle.tw_terms.specs.OpenView.{open_type_of}
use Rattle.tw_terms.specs.declared.open_terms.OpenTy.{OpenTy}
use Rattle.tw_metas.specs.Named.{shown_type_of}
use Rattle.tw_equation.specs.Text.{Laid, ready_type, next_one, with_one, laid_out}

module _ (order : List ℕ) where
  skips : (k : ℕ) (m : List LfType × LfType) (ms : List (List LfType × LfType)) → ready_type order k m.1 ≡ None → next_one order k (m ∷ ms) ≡ next_one order (suc k) ms
  skips k m ms e = ap (λ o. first_of (option_map (λ B. (k, B)) o) (next_one order (suc k) ms)) e

  takes : (k : ℕ) (m : List LfType × LfType) (ms : List (List LfType × LfType)) (B : LfType) → ready_type order k m.1 ≡ Some B → next_one order k (m ∷ ms) ≡ Some (k, B)
  takes k m ms B e = ap (λ o. first_of (option_map (λ B. (k, B)) o) (next_one order (suc k) ms)) e

  -- the metavariable that is looked at comes first of those that are left
  pub first_left : (metas : List (List LfType × OpenTy)) (i : ℕ) (m : List LfType × OpenTy) → i < length metas → m ≡ get_or metas i m → map shown_type_of (drop i metas) ≡ shown_type_of m ∷ map shown_type_of (drop (i + 1) metas)
  first_left metas i m h e = rw (add-one, drop-cons metas i m) (ap (λ y. shown_type_of y ∷ map shown_type_of (drop (suc i) metas)) (sym e))

  pub not_this_one : (metas : List (List LfType × OpenTy)) (i : ℕ) (m : List LfType × OpenTy) (whole : Option (ℕ × LfType)) → i < length metas → m ≡ get_or metas i m → ready_type order i (open_type_of m.1) ≡ None
      → next_one order i (map shown_type_of (drop i metas)) ≡ whole → next_one order (i + 1) (map shown_type_of (drop (i + 1) metas)) ≡ whole
  not_this_one metas i m whole h e r w =
      ap (λ k. next_one order k (map shown_type_of (drop (i + 1) metas))) (add-one i) ∙ sym (skips i (shown_type_of m) (map shown_type_of (drop (i + 1) metas)) r) ∙ sym (ap (next_one order i) (first_left metas i m h e)) ∙ w

  pub this_one : (metas : List (List LfType × OpenTy)) (i : ℕ) (m : List LfType × OpenTy) (B : LfType) (whole : Option (ℕ × LfType)) → i < length metas → m ≡ get_or metas i m → ready_type order i (open_type_of m.1) ≡ Some B
      → next_one order i (map shown_type_of (drop i metas)) ≡ whole → Some (i, B) ≡ whole
  this_one metas i m B whole h e r w = sym (takes i (shown_type_of m) (map shown_type_of (drop (i + 1) metas)) B r) ∙ sym (ap (next_one order i) (first_left metas i m h e)) ∙ w

  pub no_more : (metas : List (List LfType × OpenTy)) (i : ℕ) (whole : Option (ℕ × LfType)) → length metas ≤ i → next_one order i (map shown_type_of (drop i metas)) ≡ whole → None ≡ whole
  no_more metas i whole h w = sym (ap (λ xs. next_one order i (map shown_type_of xs)) (drop_of_length-le metas h)) ∙ w

laid_on : (n : ℕ) (metas : List (List LfType × LfType)) (l : Laid) (m : ℕ × LfType) → next_one l.order zero metas ≡ Some m → laid_out (suc n) metas l ≡ laid_out n metas (with_one l m)
laid_on n metas l m e =
    let on : Option (ℕ × LfType) → Option Laid = λ o. elim o as (λ _. Option Laid) [ Some k ↦ laid_out n metas (with_one l k) | None ↦ None ] in
    ap on e

-- one more is laid out
pub laid_one : (n i j : ℕ) (metas : List (List LfType × LfType)) (order new : List ℕ) (G H : List LfType) (m : ℕ × LfType) (whole : Option Laid) → i < n → j ≡ i + 1 → next_one order zero metas ≡ Some m → new ≡ order ++ m.0 ∷ [] → H ≡ m.1 ∷ G
    → laid_out (n - i) metas (record { order = order; context = G }) ≡ whole → laid_out (n - j) metas (record { order = new; context = H }) ≡ whole
laid_one n i j metas order new G H m whole h s e f g w =
    let k : n - i ≡ suc (n - j) = omega (arith, h, s) in
    ap₂ (λ o c. laid_out (n - j) metas (record { order = o; context = c })) f g ∙ sym (laid_on (n - j) metas (record { order = order; context = G }) m e) ∙ sym (ap (λ c. laid_out c metas (record { order = order; context = G })) k) ∙ w
