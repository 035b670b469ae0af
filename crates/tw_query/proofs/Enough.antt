-- As many types as the lines of an answer may need; and no names where no variable is free.
use Rattle.std.proofs.Common.{◌≡◌, ℕ, zero, suc, ◌<◌, ◌≤◌, inl, inr, List, [], ◌∷◌, ◌++◌, drop, length, map, Option, Some, None, refl, sym, ap, ap₂, ◌∙◌, append_assoc, arith}
use Rattle.std.proofs.lemmas.List.{append-nil, length-drop, length-map, map-append}
use Rattle.std.specs.List.{slice_get}
use Rattle.std.specs.Prelude.{cond, is_some}
use Rattle.lf.specs.Syntax.{LfType, Term, pi}
use Rattle.lf.specs.Typing.{instantiate_type}
use Rattle.lf_unification.specs.Offering.{pi_over}
use Rattle.tw_fixity.specs.Names.{Names as Scope}
use Rattle.tw_metas.specs.State.{joined}
use Rattle.tw_print.specs.Names.{Scene}
use Rattle.tw_prune.specs.Walks.{eta_variable_under}
use Rattle.tw_search.specs.Names.{place_of}
use Rattle.tw_shown.specs.Naming.{named}
use Rattle.tw_signature.specs.Goal.{Goal}
use Rattle.tw_terms.specs.View.{term_of, type_of}
use Rattle.tw_terms.specs.declared.canonical.Term.{Term as RustTerm}
use Rattle.tw_terms.specs.declared.canonical.Ty.{Ty}
use Rattle.tw_query.specs.Rows.{Suffices, types_needed}
use Rattle.tw_query.specs.Text.{Row, at, free_names, given_names, query_names, row_in, rows_for, rows_of, shown_in_rows, types_along, with_given}

front_at : {A : Type 0} (xs ys : List A) (i : ℕ) → i < length xs → slice_get (xs ++ ys) i ≡ slice_get xs i
front_at [] ys i h = absurd (omega (arith, h))
front_at (x ∷ xs) ys zero h = refl
front_at (x ∷ xs) ys (suc i) h = front_at xs ys i (omega (arith, h))

place_below : (G : List LfType) (i p : ℕ) → place_of G i ≡ Some p → p < length G
place_below [] i p e = absurd cc
place_below (A ∷ G) zero p e = let q : length G ≡ p = cc in omega (arith, q)
place_below (A ∷ G) (suc i) p e = let h = place_below G i p e in omega (arith, h)

module _ (n : ℕ) (ts all : List LfType) (s : Suffices n ts all) where
  enough_at : (i : ℕ) → i < n → slice_get ts i ≡ slice_get all i
  enough_at i h = elim s.enough [
    | inl e ↦ ap (λ us. slice_get us i) (sym (append-nil ts) ∙ ap (λ rs. ts ++ rs) (sym e) ∙ s.split)
    | inr k ↦ sym (front_at ts s.rest i (omega (arith, h, k))) ∙ ap (λ us. slice_get us i) s.split
  ]

  enough_for : (o : Option ℕ) → ((p : ℕ) → o ≡ Some p → p < n) → at ts o ≡ at all o
  enough_for (Some p) h = enough_at p (h p refl)
  enough_for None h = refl

  same_rows : (g : Goal) (values : List Term) → length g.variables ≤ n → (is : List ℕ) → rows_for g values ts is ≡ rows_for g values all is
  same_rows g values l [] = refl
  same_rows g values l (i ∷ is) =
      ap₂ (λ t rs. row_in (joined (slice_get g.names i)) (at values (place_of g.variables i)) t ++ rs) (enough_for (place_of g.variables i) (λ p e. let b = place_below g.variables i p e in omega (arith, b, l))) (same_rows g values l is)

  last_row : (o : Option (List ℕ)) (m : Option Term) (count : ℕ) → n ≡ cond (is_some o) (suc count) count → row_in o m (slice_get ts count) ≡ row_in o m (slice_get all count)
  last_row (Some x) m count e = ap (row_in (Some x) m) (enough_at count (omega (arith, e)))
  last_row None m count e = refl

needed_most : (o : Option (List ℕ)) (n count : ℕ) → n ≡ cond (is_some o) (suc count) count → count ≤ n
needed_most (Some x) n count e = omega (arith, e)
needed_most None n count e = omega (arith, e)

pub all_rows : (g : Goal) (values : List Term) (proof : Option Term) (n : ℕ) (ts : List LfType) → n ≡ types_needed g → Suffices n ts (types_along (pi_over g.variables g.goal) values)
    → rows_for g values ts g.shown ++ row_in g.proof proof (slice_get ts (length g.variables)) ≡ rows_of g values proof
all_rows g values proof n ts e s =
    let all = types_along (pi_over g.variables g.goal) values in
    ap₂ (λ xs ys. xs ++ ys) (same_rows n ts all s g values (needed_most g.proof n (length g.variables) e) g.shown) (last_row n ts all s g.proof proof (length g.variables) e)

-- as many types as are needed, before all terms are put in
early_of : (n : ℕ) (ts us : List Ty) (d : Ty) (T A B : LfType) (Ms : List Term) (all : List LfType) → us ≡ ts ++ d ∷ [] → type_of d ≡ A → T ≡ pi A B → map type_of ts ++ types_along T Ms ≡ all → 0 < length Ms → length us ≡ n → Suffices n (map type_of us) all
early_of n ts us d T A B [] all e f g h l k = absurd (omega (arith, l))
early_of n ts us d T A B (M ∷ Ms) all e f g h l k =
    let rest = types_along (instantiate_type A M B) Ms in
    record {
      rest = rest;
      split = ap (λ ws. map type_of ws ++ rest) e ∙ ap (λ zs. zs ++ rest) (map-append type_of ts (d ∷ [])) ∙ append_assoc (map type_of ts) (type_of d ∷ []) rest
          ∙ ap (λ X. map type_of ts ++ X ∷ rest) f ∙ ap (λ X. map type_of ts ++ types_along X (M ∷ Ms)) (sym g) ∙ h;
      enough = inr (let m = length-map us type_of in omega (arith, m, k));
    }

pub early : (n : ℕ) (ts us : List Ty) (d : Ty) (T A B : LfType) (terms : List RustTerm) (i : ℕ) (all : List LfType) → us ≡ ts ++ d ∷ [] → type_of d ≡ A → T ≡ pi A B → map type_of ts ++ types_along T (map term_of (drop i terms)) ≡ all → i < length terms → length us ≡ n → Suffices n (map type_of us) all
early n ts us d T A B terms i all e f g h l k =
    early_of n ts us d T A B (map term_of (drop i terms)) all e f g h (let a = length-map (drop i terms) term_of in let b = length-drop i terms in omega (arith, a, b, l)) k

-- where no variable is free
with_none : (o : Option ℕ) (x : List ℕ) → with_given o x [] ≡ []
with_none (Some f) x = refl
with_none None x = refl

given_none : (rows : List Row) → given_names rows [] ≡ []
given_none [] = refl
given_none (r ∷ rs) = ap (given_names rs) (with_none (eta_variable_under 0 r.value) r.name) ∙ given_none rs

named_none : (s : Scene) (G : List LfType) (taken : Scope) (is : List ℕ) → named s G (record { names = []; taken = taken }) is ≡ []
named_none s G taken [] = refl
named_none s G taken (i ∷ is) = named_none s G taken is

pub none_named : (s : Scene) (g : Goal) (F : List LfType) (rows : List Row) → length F ≡ 0 → [] ≡ free_names s g F rows
none_named s g [] rows e = sym (ap (λ ns. named s [] (record { names = ns; taken = query_names g }) (shown_in_rows s [] rows)) (given_none rows) ∙ named_none s [] (query_names g) (shown_in_rows s [] rows))
none_named s g (A ∷ F) rows e = absurd (omega (arith, e))
