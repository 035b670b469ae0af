-- The order of the free variables changes nothing of what is resolved and completed.
use Rattle.std.proofs.Common.{◌≡◌, ℕ, zero, suc, List, [], ◌∷◌, map, slice_get, option_map, Bool, true, false, Option, None, Some, inl, inr, if◌then◌else◌, refl, sym, ap, ◌∙◌, subst}
use Rattle.std.specs.Str.{bytes_eq}
use Rattle.lf.specs.Entries.{Entry, signature_of}
use Rattle.lf.specs.Syntax.{LfType, Skeleton, atom, nil, root, skeleton, variable}
use Rattle.lf.specs.Typing.{HasType, IsType}
use Rattle.lf_elaboration.specs.Completions.{FreeValue, FreesAreTyped}
use Rattle.lf_elaboration.specs.Principal.{Completion}
use Rattle.lf_elaboration.proofs.Fitted.{free_skeleton}
use Rattle.lf_elaboration.proofs.Renumbered.{body_moved, renumbered_body}
use Rattle.tw_approx.specs.Answer.{AreDistinct, HasRow, Rows, frees_of}
use Rattle.tw_approx.specs.Names.{IsFreeVariable}
use Rattle.tw_approx.specs.Ways.{AreRowsOf}
use Rattle.tw_approx.proofs.Naming.{is_name, name_is}
use Rattle.tw_parse.specs.Syntax.{Declaration}
use Rattle.tw_fixity.specs.Names.{Names, variable_of}
use Rattle.tw_resolve.specs.Fitting.{OrderIsFree}
use Rattle.tw_resolve.specs.Resolved.{body_read, names_of, skeletons_of, taken_whole}
use Rattle.tw_resolve.proofs.Declared.{first_row, later_row}
use Rattle.tw_resolve.proofs.Fitting.{found_row}
use Rattle.tw_resolve.proofs.Names.{placed}
use Rattle.tw_resolve.proofs.Renumbered.{body_mapped, whole_mapped}

-- a number, or zero
abbrev or_zero : Option ℕ → ℕ
or_zero None = zero
or_zero (Some i) = i

-- the place of a row's name
abbrev place_among : Names → Option (List ℕ × Skeleton) → ℕ
place_among N None = zero
place_among N (Some r) = or_zero (variable_of N r.0)

abbrev or_any : Option FreeValue → FreeValue
or_any None = record { term = root (variable zero) nil; of_type = atom zero nil }
or_any (Some v) = v

-- the row of a name that has a place
row_of : (rows : Rows) (x : List ℕ) (i : ℕ) → variable_of (names_of rows) x ≡ Some i → (s : Skeleton) × (slice_get rows i ≡ Some (x, s))
row_of [] x i e = absurd cc
row_of ((y, s) ∷ rows) x i e = by (λ j h. row_of rows x j h) (bytes_eq y x) refl (variable_of (names_of rows) x) refl i e
  where
    by : ((j : ℕ) → variable_of (names_of rows) x ≡ Some j → (u : Skeleton) × (slice_get rows j ≡ Some (x, u))) → (b : Bool) → bytes_eq y x ≡ b → (o : Option ℕ) → variable_of (names_of rows) x ≡ o → (i : ℕ) → (if b then Some zero else option_map suc o) ≡ Some i → (u : Skeleton) × (slice_get ((y, s) ∷ rows) i ≡ Some (x, u))
    by later true t o h zero k = (s, ap (λ z. Some (z, s)) (name_is y x t))
    by later true t o h (suc i) k = absurd cc
    by later false t (Some j) h zero k = absurd cc
    by later false t (Some j) h (suc i) k = let same : j ≡ i = cc in later i (h ∙ ap Some same)
    by later false t None h i k = absurd cc

same_row : (r q : List ℕ × Skeleton) → Some r ≡ Some q → r.0 ≡ q.0
same_row r q e = ap (λ (z : List ℕ × Skeleton). z.0) (let p : r ≡ q = cc in p)

row_at : (rows : Rows) (i : ℕ) (x : List ℕ) (s : Skeleton) → slice_get rows i ≡ Some (x, s) → HasRow x rows
row_at [] i x s e = absurd cc
row_at ((y, t) ∷ rows) zero x s e = inl (same_row (y, t) (x, s) e)
row_at ((y, t) ∷ rows) (suc i) x s e = inr (row_at rows i x s e)

-- where names differ, each has the place of its row
place_of_row : (rows : Rows) → AreDistinct rows → (i : ℕ) (x : List ℕ) (s : Skeleton) → slice_get rows i ≡ Some (x, s) → variable_of (names_of rows) x ≡ Some i
place_of_row [] d i x s e = absurd cc
place_of_row ((y, t) ∷ rows) (n, d) zero x s e = let p : y ≡ x = same_row (y, t) (x, s) e in ap (λ (b : Bool). if b then Some zero else option_map suc (variable_of (names_of rows) x)) (is_name y x p)
place_of_row ((y, t) ∷ rows) (n, d) (suc i) x s e = by (place_of_row rows d i x s e) (bytes_eq y x) refl
  where
    by : variable_of (names_of rows) x ≡ Some i → (b : Bool) → bytes_eq y x ≡ b → (if b then Some zero else option_map suc (variable_of (names_of rows) x)) ≡ Some (suc i)
    by later true h = absurd (n (subst (λ z. HasRow z rows) (sym (name_is y x h)) (row_at rows i x s e)))
    by later false h = ap (option_map suc) later

row_behind : (rows : Rows) (i : ℕ) (t : Skeleton) → slice_get (skeletons_of rows) i ≡ Some t → (x : List ℕ) × (s : Skeleton) × (slice_get rows i ≡ Some (x, s))
row_behind [] i t e = absurd cc
row_behind ((y, s) ∷ rows) zero t e = (y, s, refl)
row_behind ((y, s) ∷ rows) (suc i) t e = row_behind rows i t e

mapped_at : (g : List ℕ → FreeValue) (rows : Rows) (i : ℕ) (x : List ℕ) (s : Skeleton) → slice_get rows i ≡ Some (x, s) → slice_get (map (λ (r : List ℕ × Skeleton). g r.0) rows) i ≡ Some (g x)
mapped_at g [] i x s e = absurd cc
mapped_at g ((y, t) ∷ rows) zero x s e = let p : y ≡ x = same_row (y, t) (x, s) e in ap (λ z. Some (g z)) p
mapped_at g ((y, t) ∷ rows) (suc i) x s e = mapped_at g rows i x s e

module _ (es : List Entry) (F : List LfType) where
  abbrev IsTypedAs : Skeleton → FreeValue → Type 0
  IsTypedAs t v = (skeleton v.of_type ≡ t) × IsType (signature_of es) F v.of_type × HasType (signature_of es) F v.term v.of_type

  typed_at : (ts : List Skeleton) (vs : List FreeValue) → FreesAreTyped es F ts vs → (i : ℕ) (t : Skeleton) → slice_get ts i ≡ Some t → (v : FreeValue) × (slice_get vs i ≡ Some v) × IsTypedAs t v
  typed_at [] [] h i t e = absurd cc
  typed_at [] (u ∷ vs) h i t e = absurd h
  typed_at (k ∷ ts) [] h i t e = absurd h
  typed_at (k ∷ ts) (u ∷ vs) (h, hs) zero t e = let p : k ≡ t = cc in (u, refl, subst (λ z. IsTypedAs z u) p h)
  typed_at (k ∷ ts) (u ∷ vs) (h, hs) (suc i) t e = typed_at ts vs hs i t e

  rows_typed : (g : List ℕ → FreeValue) (rows : Rows) → AreDistinct rows → ((x : List ℕ) → HasRow x rows → IsTypedAs (frees_of rows x) (g x)) → FreesAreTyped es F (skeletons_of rows) (map (λ (r : List ℕ × Skeleton). g r.0) rows)
  rows_typed g [] d h = tt
  rows_typed g ((y, s) ∷ rows) (n, d) h =
      (subst (λ t. IsTypedAs t (g y)) (first_row y s rows) (h y (inl refl)), rows_typed g rows d (λ x i. subst (λ t. IsTypedAs t (g x)) (later_row y x s rows n i) (h x (inr i))))

module _ (es : List Entry) (d : Declaration) (rows others : Rows) (are : AreRowsOf es d rows) (too : AreRowsOf es d others) (same : (x : List ℕ) → IsFreeVariable es x d → frees_of rows x ≡ frees_of others x) where
  -- where the free variable i stands among the others
  abbrev moves : ℕ → ℕ
  moves i = place_among (names_of others) (slice_get rows i)

  moves_row : (i : ℕ) (x : List ℕ) (s : Skeleton) (j : ℕ) → slice_get rows i ≡ Some (x, s) → variable_of (names_of others) x ≡ Some j → moves i ≡ j
  moves_row i x s j e h = ap (place_among (names_of others)) e ∙ ap or_zero h

  same_places : (x : List ℕ) → variable_of (names_of others) x ≡ option_map moves (variable_of (names_of rows) x)
  same_places x = by (variable_of (names_of rows) x) refl (variable_of (names_of others) x) refl
    where
      by : (o : Option ℕ) → variable_of (names_of rows) x ≡ o → (p : Option ℕ) → variable_of (names_of others) x ≡ p → variable_of (names_of others) x ≡ option_map moves (variable_of (names_of rows) x)
      by (Some i) e (Some j) h =
          let (s, r) = row_of rows x i e in
          h ∙ ap Some (sym (moves_row i x s j r h)) ∙ sym (ap (option_map moves) e)
      by None e None h = h ∙ sym (ap (option_map moves) e)
      by (Some i) e None h =
          let (j, k, t) = placed others x (too.free_has_row x (are.row_is_free x (found_row rows x i e))) in
          let clash : None ≡ Some j = sym h ∙ k in absurd cc
      by None e (Some j) h =
          let (i, k, t) = placed rows x (are.free_has_row x (too.row_is_free x (found_row others x j h))) in
          let clash : None ≡ Some i = sym e ∙ k in absurd cc

  module _ (c : Completion) (typed : FreesAreTyped es c.quantifiers (skeletons_of rows) c.frees) where
    -- what stands for a free variable, by its name
    abbrev value_of : List ℕ → FreeValue
    value_of x = or_any (slice_get c.frees (or_zero (variable_of (names_of rows) x)))

    value_at : (x : List ℕ) (i : ℕ) (v : FreeValue) → variable_of (names_of rows) x ≡ Some i → slice_get c.frees i ≡ Some v → value_of x ≡ v
    value_at x i v e h = ap (λ (o : Option ℕ). or_any (slice_get c.frees (or_zero o))) e ∙ ap or_any h

    abbrev values : List FreeValue
    values = map (λ (r : List ℕ × Skeleton). value_of r.0) others

    values_moved : (i : ℕ) (v : FreeValue) → slice_get c.frees i ≡ Some v → slice_get values (moves i) ≡ Some v
    values_moved i v e =
        let (x, s, r) = row_behind rows i (skeleton v.of_type) (free_skeleton es c.quantifiers (skeletons_of rows) c.frees typed i v e) in
        let (j, k, t) = placed others x (too.free_has_row x (are.row_is_free x (row_at rows i x s r))) in
        let (u, q) = row_of others x j k in
        ap (slice_get values) (moves_row i x s j r k) ∙ mapped_at value_of others j x u q ∙ ap Some (value_at x i v (place_of_row rows are.distinct i x s r) e)

    values_typed : FreesAreTyped es c.quantifiers (skeletons_of others) values
    values_typed = rows_typed es c.quantifiers value_of others too.distinct at
      where
        at : (x : List ℕ) → HasRow x others → IsTypedAs es c.quantifiers (frees_of others x) (value_of x)
        at x h =
            let free = too.row_is_free x h in
            let (i, k, t) = placed rows x (are.free_has_row x free) in
            let (v, e, g) = typed_at es c.quantifiers (skeletons_of rows) c.frees typed i (frees_of rows x) t in
            subst (λ z. IsTypedAs es c.quantifiers z (value_of x)) (same x free) (subst (IsTypedAs es c.quantifiers (frees_of rows x)) (sym (value_at x i v k e)) g)

pub in_any_order : OrderIsFree
in_any_order es d rows others o w c are too same e h =
    let π = moves es d rows others are too same in (
      renumbered_body π w,
      record { quantifiers = c.quantifiers; frees = values es d rows others are too same c h.frees_typed; body = c.body },
      ap taken_whole (body_mapped π es (names_of rows) (names_of others) (same_places es d rows others are too same) d o) ∙ whole_mapped (renumbered_body π) (body_read es (names_of rows) [] d o) w e,
      record {
        context = h.context;
        frees_typed = values_typed es d rows others are too same c h.frees_typed;
        completed = body_moved π es c.quantifiers c.frees (values es d rows others are too same c h.frees_typed) (values_moved es d rows others are too same c h.frees_typed) w c.body h.completed;
      },
    )
