-- Rows of operators that are taken back lead to the old table.
use Rattle.std.proofs.Common.{◌≡◌, ℕ, List, [], ◌∷◌, ◌++◌, true, false, Option, None, Some, refl, sym, ap, ◌∙◌, subst, ⊎_elim}
use Rattle.std.specs.Prelude.{reverse, IsSome}
use Rattle.std.proofs.lemmas.Bool.{cases_Bool, cond-true, cond-false}
use Rattle.std.proofs.lemmas.List.{reverse-append}
use Rattle.std.proofs.lemmas.Map.Text.{is_eq-slice_cmp}
use Rattle.std.specs.Cmp.{eq_by_cmp_equiv}
use Rattle.std.specs.Cmp.Lexicographic.{nat_list_cmp_total, bytes_decides}
use Rattle.std.specs.FinMap.{get, insert, remove, get-insert, get-remove, same_map, slice_cmp-IsAntisymmetric, nat_cmp-IsAntisymmetric}
use Rattle.std.specs.Ordering.{eq_by_cmp}
use Rattle.tw_fixity.specs.Rows.{name_order}
use Rattle.tw_fixity.specs.declared.table.Fix.{Fix}
use Rattle.tw_parse.specs.Outlines.{Table}
use Rattle.tw_decl.specs.Undoing.{back_to, IsThere, LeadsBack}
use Rattle.tw_decl.specs.declared.operators.OldRow.{OldRow}

same_name : (p q : List ℕ) → eq_by_cmp name_order p q ≡ true → p ≡ q
same_name p q h = (bytes_decides p q).0 (sym (is_eq-slice_cmp p q) ∙ h)

own_name : (p : List ℕ) → eq_by_cmp name_order p p ≡ true
own_name p = (eq_by_cmp_equiv nat_list_cmp_total).refl p

-- a table that has the old row at a name, and elsewhere what the old table had, is the old table
restored : (t u : Table) (name : List ℕ) (row : Option Fix) → get t name ≡ row
    → ((q : List ℕ) → eq_by_cmp name_order q name ≡ true → get u q ≡ row) → ((q : List ℕ) → eq_by_cmp name_order q name ≡ false → get u q ≡ get t q) → u ≡ t
restored t u name row had here elsewhere =
    same_map nat_list_cmp_total (slice_cmp-IsAntisymmetric nat_cmp-IsAntisymmetric) u t
    (λ q. ⊎_elim
    (λ tie. here q tie ∙ sym had ∙ ap (get t) (sym (same_name q name tie)))
    (λ differ. elsewhere q differ)
    (cases_Bool (eq_by_cmp name_order q name)))

insert_here : (t : Table) (name q : List ℕ) (fix : Fix) → eq_by_cmp name_order q name ≡ true → get (insert t name fix) q ≡ Some fix
insert_here t name q fix tie = get-insert nat_list_cmp_total t name fix q ∙ cond-true _ (Some fix) (get t q) tie

insert_elsewhere : (t : Table) (name q : List ℕ) (fix : Fix) → eq_by_cmp name_order q name ≡ false → get (insert t name fix) q ≡ get t q
insert_elsewhere t name q fix differ = get-insert nat_list_cmp_total t name fix q ∙ cond-false _ (Some fix) (get t q) differ

remove_here : (t : Table) (name q : List ℕ) → eq_by_cmp name_order q name ≡ true → get (remove t name) q ≡ None
remove_here t name q tie = get-remove nat_list_cmp_total t name q ∙ cond-true _ None (get t q) tie

remove_elsewhere : (t : Table) (name q : List ℕ) → eq_by_cmp name_order q name ≡ false → get (remove t name) q ≡ get t q
remove_elsewhere t name q differ = get-remove nat_list_cmp_total t name q ∙ cond-false _ None (get t q) differ

-- a row that was given is taken back
set_back : (t : Table) (name : List ℕ) (fix : Fix) (row : Option Fix) → get t name ≡ row → back_to (insert t name fix) name row ≡ t
set_back t name fix None had =
    restored t (remove (insert t name fix) name) name None had (λ q tie. remove_here (insert t name fix) name q tie)
    (λ q differ. remove_elsewhere (insert t name fix) name q differ ∙ insert_elsewhere t name q fix differ)
set_back t name fix (Some old) had =
    restored t (insert (insert t name fix) name old) name (Some old) had (λ q tie. insert_here (insert t name fix) name q old tie)
    (λ q differ. insert_elsewhere (insert t name fix) name q old differ ∙ insert_elsewhere t name q fix differ)

there : (t : Table) (name : List ℕ) (fix : Fix) (row : Option Fix) → IsThere (insert t name fix) name row
there t name fix None = tt
there t name fix (Some old) = subst IsSome (sym (insert_here t name name fix (own_name name))) refl

none_back : (t : Table) (name : List ℕ) → get t name ≡ None → remove t name ≡ t
none_back t name had = restored t (remove t name) name None had (λ q tie. remove_here t name q tie) (λ q differ. remove_elsewhere t name q differ)

-- one row more leads back first
more_leads : (t u o : Table) (xs : List OldRow) (r : OldRow) → IsThere u r.name r.row → back_to u r.name r.row ≡ t → LeadsBack t (reverse xs) o → LeadsBack u (reverse (xs ++ r ∷ [])) o
more_leads t u o xs r here back h =
    subst (λ (rs : List OldRow). LeadsBack u rs o) (sym (reverse-append xs (r ∷ [])))
    (here, subst (λ (x : Table). LeadsBack x (reverse xs) o) (sym back) h)

-- a name is given the row
pub set_leads : (t o : Table) (fix : Fix) (name : List ℕ) (xs : List OldRow) (r : OldRow) → r.name ≡ name → r.row ≡ get t name → LeadsBack t (reverse xs) o
    → LeadsBack (insert t name fix) (reverse (xs ++ r ∷ [])) o
set_leads t o fix name xs r named had h =
    more_leads t (insert t name fix) o xs r
    (subst (λ (n : List ℕ). IsThere (insert t name fix) n r.row) (sym named) (there t name fix r.row))
    (subst (λ (n : List ℕ). back_to (insert t name fix) n r.row ≡ t) (sym named) (set_back t name fix r.row (sym had))) h

-- or memory is wanting for it
pub unset_leads : (t o : Table) (name : List ℕ) (xs : List OldRow) (r : OldRow) → r.name ≡ name → r.row ≡ get t name → get t name ≡ None → LeadsBack t (reverse xs) o
    → LeadsBack t (reverse (xs ++ r ∷ [])) o
unset_leads t o name xs r named had none h =
    let gone : r.row ≡ None = had ∙ none in
    more_leads t t o xs r
    (subst (λ (x : Option Fix). IsThere t r.name x) (sym gone) tt)
    (subst (λ (x : Option Fix). back_to t r.name x ≡ t) (sym gone) (subst (λ (n : List ℕ). remove t n ≡ t) (sym named) (none_back t name none))) h

-- the last row is taken back, and those before it lead on
pub last_back : (t u o : Table) (xs ys : List OldRow) (r : OldRow) → xs ≡ ys ++ r ∷ [] → (IsThere t r.name r.row → u ≡ back_to t r.name r.row) → LeadsBack t (reverse xs) o → LeadsBack u (reverse ys) o
last_back t u o xs ys r spelled put h =
    let k : LeadsBack t (r ∷ reverse ys) o = subst (λ (rs : List OldRow). LeadsBack t rs o) (ap reverse spelled ∙ reverse-append ys (r ∷ [])) h in
    subst (λ (x : Table). LeadsBack x (reverse ys) o) (sym (put k.0)) k.1

pub none_left : (t o : Table) (xs : List OldRow) → xs ≡ [] → LeadsBack t (reverse xs) o → t ≡ o
none_left t o xs e h = let k : LeadsBack t [] o = subst (λ (rs : List OldRow). LeadsBack t (reverse rs) o) e h in k
