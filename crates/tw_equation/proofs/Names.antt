-- The names of metavariables, one after the other.
use Rattle.std.proofs.Common.{◌≡◌, ℕ, suc, ◌+◌, ◌<◌, ◌≤◌, List, [], ◌∷◌, ◌++◌, length, map, drop, take, get_or, Option, refl, sym, ap, ap₂, ◌∙◌, append_assoc, add-one, drop-cons}
use Rattle.std.proofs.Math.ListN.{drop_of_length-le}
use Rattle.std.proofs.lemmas.List.{append-nil, drop_all, drop_more, take_all, take_more}
use Rattle.std.specs.List.{slice_get}
use Rattle.tw_print.specs.Shown.{hint_in}
use Rattle.tw_fixity.specs.Names.{Names as Scope}
use Rattle.tw_terms.specs.declared.canonical.MetaId.{MetaId}
use Rattle.tw_equation.specs.Text.{given_names, onto}

-- one more name in scope
name_at : (xs : List (Option (List ℕ))) (i : ℕ) (x : Option (List ℕ)) → i < length xs → x ≡ get_or xs i x → drop i xs ≡ x ∷ drop (i + 1) xs
name_at xs i x h e = rw (add-one, drop-cons xs i x) (ap (λ y. y ∷ drop (suc i) xs) (sym e))

pub one_onto : (xs : List (Option (List ℕ))) (i : ℕ) (x : Option (List ℕ)) (old new whole : Scope) → i < length xs → x ≡ get_or xs i x → new ≡ x ∷ old → onto (drop i xs) old ≡ whole → onto (drop (i + 1) xs) new ≡ whole
one_onto xs i x old new whole h e n w = ap (onto (drop (i + 1) xs)) n ∙ sym (ap (λ ys. onto ys old) (name_at xs i x h e)) ∙ w

pub all_onto : (xs : List (Option (List ℕ))) (i : ℕ) (scope whole : Scope) → length xs ≤ i → onto (drop i xs) scope ≡ whole → scope ≡ whole
all_onto xs i scope whole h w = sym (ap (λ ys. onto ys scope) (drop_of_length-le xs h)) ∙ w

-- The given names, of which those of the metavariables up to number k in the order are left.
abbrev given_at : List (Option (List ℕ)) → List MetaId → ℕ → Scope
given_at names order k = given_names names (map (λ m. m.0) (take k order))

given_last : (names : List (Option (List ℕ))) (ms : List MetaId) (m : MetaId) (ns : Scope) → onto (map (λ k. hint_in (slice_get names k)) (map (λ x. x.0) (ms ++ m ∷ []))) ns ≡ hint_in (slice_get names m.0) ∷ onto (map (λ k. hint_in (slice_get names k)) (map (λ x. x.0) ms)) ns
given_last names [] m ns = refl
given_last names (n ∷ ms) m ns = given_last names ms m (hint_in (slice_get names n.0) ∷ ns)

pub none_given : (names : List (Option (List ℕ))) (order : List MetaId) (given : Scope) (k : ℕ) → given ≡ [] → length order ≤ k → given ++ given_names names (map (λ m. m.0) (take k order)) ≡ given_names names (map (λ m. m.0) order)
none_given names order given k e h = ap₂ (λ xs ms. xs ++ given_names names (map (λ m. m.0) ms)) e (take_all k order h)

pub one_given : (names : List (Option (List ℕ))) (order : List MetaId) (k j : ℕ) (d : MetaId) (x : Option (List ℕ)) (old new whole : Scope) → j ≡ k + 1 → k < length order → x ≡ hint_in (slice_get names (get_or order k d).0) → new ≡ old ++ x ∷ []
    → old ++ given_at names order j ≡ whole → new ++ given_at names order k ≡ whole
one_given names order k j d x old new whole i h e n w =
    let m = get_or order k d in
    let rest = given_at names order k in
    let p : given_at names order j ≡ hint_in (slice_get names m.0) ∷ rest =
    ap (λ l. given_at names order l) i ∙ ap (λ ms. given_names names (map (λ y. y.0) ms)) (take_more order k d h) ∙ given_last names (take k order) m [] in
    ap (λ xs. xs ++ rest) n ∙ append_assoc old (x ∷ []) rest ∙ ap (λ y. old ++ y ∷ rest) e ∙ sym (ap (λ xs. old ++ xs) p) ∙ w

pub all_given : (names : List (Option (List ℕ))) (order : List MetaId) (k : ℕ) (given whole : Scope) → k ≡ 0 → given ++ given_names names (map (λ m. m.0) (take k order)) ≡ whole → given ≡ whole
all_given names order k given whole z w = sym (append-nil given) ∙ sym (ap (λ i. given ++ given_names names (map (λ m. m.0) (take i order))) z) ∙ w

-- the scope of names, the innermost first
pub none_scoped : (names scope : Scope) (k : ℕ) → scope ≡ [] → length names ≤ k → scope ≡ drop k names
none_scoped names scope k e h = e ∙ sym (drop_all k names h)

pub one_scoped : (names old new : Scope) (k j : ℕ) (x : Option (List ℕ)) → j ≡ k + 1 → k < length names → x ≡ get_or names k x → new ≡ x ∷ old → old ≡ drop j names → new ≡ drop k names
one_scoped names old new k j x i h g n w = n ∙ ap₂ (λ y ns. y ∷ ns) g (w ∙ ap (λ l. drop l names) i) ∙ sym (drop_more names k x h)

pub all_scoped : (names scope : Scope) (k : ℕ) → k ≡ 0 → scope ≡ drop k names → scope ≡ names
all_scoped names scope k z w = w ∙ ap (λ i. drop i names) z
