-- Rows, as they are kept.
use Rattle.std.proofs.Common.{◌≡◌, ◌<◌, ◌++◌, ◌∙◌, ℕ, zero, suc, List, [], ◌∷◌, length, Bool, true, false, cond, Option, Some, None, option_map, Vec, Contains, ◌⊎◌, ◌↔◌, inl, inr, refl, sym, ap, subst, arith, true≢false}
use Rattle.std.specs.Borrow.{Bor}
use Rattle.std.specs.Global.{Global}
use Rattle.std.specs.List.{slice_get, slice_index_or, slice_set}
use Rattle.std.specs.Slice.{IsGetResult}
use Rattle.std.proofs.lemmas.Option.{slice_get_past, slice_get_read}
use Rattle.std.proofs.lemmas.List.Elements.{Contains-append_left, Contains-push, Contains-push_cases}
use Rattle.lf.specs.Variables.{same_number}
use Rattle.lf.proofs.Checker.{number_is}
use Rattle.tw_subord.specs.Rows.{row, rows_of, with_link}

pub same_itself : (c : ℕ) → same_number c c ≡ true
same_itself zero = refl
same_itself (suc c) = same_itself c

abbrev Lists : Type 0
Lists = List (Vec ℕ Global)

numbers_or : Option (Vec ℕ Global) → List ℕ
numbers_or (Some v) = v.items
numbers_or None = []

row_at : (lists : Lists) (b : ℕ) → row (rows_of lists) b ≡ numbers_or (slice_get lists b)
unfolding numbers_or
row_at [] b = refl
row_at (v ∷ lists) zero = refl
row_at (v ∷ lists) (suc b) = row_at lists b

lent : (lists : Lists) (b : ℕ) (r : Option (Bor (Vec ℕ Global))) → IsGetResult lists b b r → numbers_or (slice_get lists b) ≡ numbers_or (option_map (λ (x : Bor (Vec ℕ Global)). x.now) r)
lent lists b None h = ap numbers_or (slice_get_past lists b h.3)
lent lists b (Some x) h = ap numbers_or (slice_get_read lists (length lists) b x.now refl h.3.0 h.1)

-- what a look-up gives
pub row_found : (lists : Lists) (b : ℕ) (r : Option (Bor (Vec ℕ Global))) (x : Bor (Vec ℕ Global)) → IsGetResult lists b b r → r ≡ Some x → x.now.items ≡ row (rows_of lists) b
unfolding numbers_or
row_found lists b r x h e = sym (row_at lists b ∙ lent lists b r h ∙ ap (λ o. numbers_or (option_map (λ (y : Bor (Vec ℕ Global)). y.now) o)) e)

pub row_missing : (lists : Lists) (b : ℕ) (r : Option (Bor (Vec ℕ Global))) → IsGetResult lists b b r → r ≡ None → [] ≡ row (rows_of lists) b
unfolding numbers_or
row_missing lists b r h e = sym (row_at lists b ∙ lent lists b r h ∙ ap (λ o. numbers_or (option_map (λ (y : Bor (Vec ℕ Global)). y.now) o)) e)

-- one more empty row changes none
pub row_more : (lists : Lists) (v : Vec ℕ Global) (b : ℕ) → v.items ≡ [] → row (rows_of (lists ++ v ∷ [])) b ≡ row (rows_of lists) b
row_more [] v zero e = e
row_more [] v (suc b) e = refl
row_more (u ∷ lists) v zero e = refl
row_more (u ∷ lists) v (suc b) e = row_more lists v b e

-- a row with one number more
pub row_linked : (lists : Lists) (c a : ℕ) (u v : Vec ℕ Global) → c < length lists → u ≡ slice_index_or lists c u → v.items ≡ u.items ++ a ∷ [] → (b : ℕ) → row (rows_of (slice_set lists c v)) b ≡ with_link (rows_of lists) a c b
row_linked [] c a u v l e i b = absurd (omega (arith, l))
row_linked (w ∷ lists) zero a u v l e i zero = i ∙ ap (λ (x : Vec ℕ Global). x.items ++ a ∷ []) e
row_linked (w ∷ lists) zero a u v l e i (suc b) = refl
row_linked (w ∷ lists) (suc c) a u v l e i zero = refl
row_linked (w ∷ lists) (suc c) a u v l e i (suc b) = row_linked lists c a u v (omega (arith, l)) e i b

-- a row put in order
pub row_kept : (lists : Lists) (c : ℕ) (u v : Vec ℕ Global) → c < length lists → u ≡ slice_index_or lists c u → ((a : ℕ) → Contains v.items a ↔ Contains u.items a) → (a b : ℕ) → (Contains (row (rows_of (slice_set lists c v)) b) a) ↔ Contains (row (rows_of lists) b) a
row_kept [] c u v l e i a b = absurd (omega (arith, l))
row_kept (w ∷ lists) zero u v l e i a zero = let same : u.items ≡ w.items = ap (λ (x : Vec ℕ Global). x.items) e in
    (λ h. subst (λ xs. Contains xs a) same ((i a).0 h), λ h. (i a).1 (subst (λ xs. Contains xs a) (sym same) h))
row_kept (w ∷ lists) zero u v l e i a (suc b) = (λ h. h, λ h. h)
row_kept (w ∷ lists) (suc c) u v l e i a zero = (λ h. h, λ h. h)
row_kept (w ∷ lists) (suc c) u v l e i a (suc b) = row_kept lists c u v (omega (arith, l)) e i a b

-- what is in a row with a link more
pub in_linked : (rows : List (List ℕ)) (x c : ℕ) (a b : ℕ) → (Contains (with_link rows x c b) a) ↔ (Contains (row rows b) a ⊎ ((x ≡ a) × (c ≡ b)))
in_linked rows x c a b = go (same_number c b) refl
  where
    go : (t : Bool) → same_number c b ≡ t → (Contains (cond t (row rows b ++ x ∷ []) (row rows b)) a) ↔ (Contains (row rows b) a ⊎ ((x ≡ a) × (c ≡ b)))
    go true e = (
      λ h. elim (Contains-push_cases (row rows b) x a h) [ inl g ↦ inl g | inr q ↦ inr (q, number_is c b e) ],
      λ h. elim h [ inl g ↦ Contains-append_left (row rows b) (x ∷ []) a g | inr q ↦ subst (Contains (row rows b ++ x ∷ [])) q.0 (Contains-push (row rows b) x) ],
    )
    go false e = (λ h. inl h, λ h. elim h [ inl g ↦ g | inr q ↦ absurd (true≢false (sym (ap (same_number c) (sym q.1) ∙ same_itself c) ∙ e)) ])
