-- Hints, one after another.
use Rattle.std.proofs.Common.{◌≡◌, ℕ, zero, suc, ◌+◌, ◌<◌, ◌≤◌, List, [], ◌∷◌, ◌++◌, length, get_or, replicate, reverse, take, ◌-◌, Option, None, Some, refl, sym, ap, ◌∙◌, subst, inl, inr, arith, append_assoc, length-append}
use Rattle.std.specs.List.{slice_get}
use Rattle.std.proofs.Math.ListN.{set}
use Rattle.std.proofs.Math.Seq.{take-suc}
use Rattle.std.proofs.lemmas.List.{length-map, length-replicate, map-append, reverse-append}
use Rattle.std.specs.Option.{option_map}
use Rattle.std.specs.Prelude.{MatchOption}
use Rattle.lf.specs.Eta.{eta_long}
use Rattle.lf.specs.Subordination.{Member}
use Rattle.lf.specs.Syntax.{Skeleton, Term, metavariable}
use Rattle.tw_approx.specs.Answer.{Rows, rows_of}
use Rattle.tw_approx.specs.declared.approximation.Row.{Row}
use Rattle.tw_elaborate.specs.View.{numbers_of}
use Rattle.tw_abstract.specs.Positions.{index}
use Rattle.tw_metas.specs.State.{State, joined, value_of}
use Rattle.tw_putting.specs.Fits.{PutFits}
use Rattle.tw_putting.specs.Stores.{Puts}
use Rattle.tw_putting.proofs.Calls.{one_result}
use Rattle.tw_terms.specs.View.{skeleton_of}
use Rattle.tw_terms.specs.declared.canonical.MetaId.{MetaId}
use Rattle.tw_recon.specs.Hints.{fitted}
use Rattle.tw_recon.specs.Names.{IsSole, Naming, NamesAll, NamesOne, ValueIsAlone, add_some, names_of, variables_of, with_name, with_sole}

-- a name that is put in where none is
pub name_put : (i : ℕ) (x : List ℕ) (hs : List (Option (List ℕ))) → i < length hs → joined (slice_get hs i) ≡ None → set hs i (Some x) ≡ with_name i x hs
name_put i x [] h e = absurd (omega arith)
name_put zero x (None ∷ hs) h e = refl
name_put zero x (Some y ∷ hs) h e = absurd cc
name_put (suc i) x (k ∷ hs) h e = ap (λ ks. k ∷ ks) (name_put i x hs (omega arith) e)

pub nameless-push : (n : ℕ) → replicate n (let x : Option (List ℕ) = None in x) ++ None ∷ [] ≡ replicate (suc n) (let x : Option (List ℕ) = None in x)
nameless-push zero = refl
nameless-push (suc n) = ap (λ ks. None ∷ ks) (nameless-push n)

-- a name behind all others
pub name_beyond : (n : ℕ) (x : List ℕ) (hs : List (Option (List ℕ))) (k : ℕ) → n ≡ length hs + k → with_name n x hs ≡ (hs ++ replicate k None) ++ Some x ∷ []
name_beyond zero x [] zero e = refl
name_beyond zero x [] (suc k) e = absurd (omega (arith, e))
name_beyond (suc n) x [] zero e = absurd (omega (arith, e))
name_beyond (suc n) x [] (suc k) e = ap (λ ks. None ∷ ks) (name_beyond n x [] k (omega (arith, e)))
name_beyond zero x (h ∷ hs) k e = absurd (omega (arith, e))
name_beyond (suc n) x (h ∷ hs) k e = ap (λ ks. h ∷ ks) (name_beyond n x hs k (omega (arith, e)))

-- one free variable after another
module _ (s : State) (frees : List ℕ) (rows : Rows) where
  pub names_then : (is : List ℕ) (i : ℕ) (hs ks ls : Naming) → NamesAll s frees rows is hs ks → NamesOne s frees rows (slice_get frees i) (slice_get rows i) ks ls → NamesAll s frees rows (is ++ i ∷ []) hs ls
  names_then [] i hs ks ls a o = (ls, subst (λ x. NamesOne s frees rows (slice_get frees i) (slice_get rows i) x ls) a o, refl)
  names_then (j ∷ is) i hs ks ls (mid, a, more) o = (mid, a, names_then is i mid ks ls more o)

  -- the next in the order
  pub names_next : (order : List ℕ) (k : ℕ) (hs ks ls : Naming) → k < length order → NamesAll s frees rows (take k order) hs ks → NamesOne s frees rows (slice_get frees (get_or order k 0)) (slice_get rows (get_or order k 0)) ks ls → NamesAll s frees rows (take (k + 1) order) hs ls
  names_next order k hs ks ls h a o =
      let n : suc k ≡ k + 1 = omega arith in
      subst (λ is. NamesAll s frees rows is hs ls) (sym (take-suc order k 0 h) ∙ ap (λ j. take j order) n) (names_then (take k order) (get_or order k 0) hs ks ls a o)

  one_at : (i : ℕ) (o : Option ℕ) (q : Option (List ℕ × Skeleton)) (hs ks : Naming) → slice_get frees i ≡ o → slice_get rows i ≡ q → NamesOne s frees rows o q hs ks → NamesOne s frees rows (slice_get frees i) (slice_get rows i) hs ks
  one_at i o q hs ks e f n = subst (λ x. NamesOne s frees rows x (slice_get rows i) hs ks) (sym e) (subst (λ x. NamesOne s frees rows o x hs ks) (sym f) n)

  -- one that is no metavariable, or has no row
  pub names_nothing : (i : ℕ) (hs ks : Naming) → slice_get frees i ≡ None → ks ≡ hs → NamesOne s frees rows (slice_get frees i) (slice_get rows i) hs ks
  names_nothing i hs ks e p = one_at i None (slice_get rows i) hs ks e refl p

  pub names_no_row : (i m : ℕ) (hs ks : Naming) → slice_get frees i ≡ Some m → slice_get rows i ≡ None → ks ≡ hs → NamesOne s frees rows (slice_get frees i) (slice_get rows i) hs ks
  names_no_row i m hs ks e f p = one_at i (Some m) None hs ks e f p

  pub names_its : (i m : ℕ) (r : List ℕ × Skeleton) (hs ks : Naming) → slice_get frees i ≡ Some m → slice_get rows i ≡ Some r → (n : Option ℕ) × IsSole s m n × (ks ≡ with_sole n r.0 hs) → NamesOne s frees rows (slice_get frees i) (slice_get rows i) hs ks
  names_its i m r hs ks e f p = one_at i (Some m) (Some r) hs ks e f p

-- what stands at a place
pub number_at : (ms : List MetaId) (i : ℕ) (m : MetaId) → i < length ms → get_or ms i m ≡ m → slice_get (numbers_of ms) i ≡ Some m.0
number_at [] i m h e = absurd (omega arith)
number_at (n ∷ ms) zero m h e = ap (λ k. Some k.0) e
number_at (n ∷ ms) (suc i) m h e = number_at ms i m (omega arith) e

pub number_none : (ms : List MetaId) (i : ℕ) → length ms ≤ i → slice_get (numbers_of ms) i ≡ None
number_none [] i h = refl
number_none (n ∷ ms) zero h = absurd (omega arith)
number_none (n ∷ ms) (suc i) h = number_none ms i (omega arith)

pub row_found : (rs : List Row) (i : ℕ) (r : Row) → i < length rs → get_or rs i r ≡ r → slice_get (rows_of rs) i ≡ Some (r.name, skeleton_of r.skeleton)
row_found [] i r h e = absurd (omega arith)
row_found (q ∷ rs) zero r h e = ap (λ x. Some (x.name, skeleton_of x.skeleton)) e
row_found (q ∷ rs) (suc i) r h e = row_found rs i r (omega arith) e

pub row_none : (rs : List Row) (i : ℕ) → length rs ≤ i → slice_get (rows_of rs) i ≡ None
row_none [] i h = refl
row_none (q ∷ rs) zero h = absurd (omega arith)
row_none (q ∷ rs) (suc i) h = row_none rs i (omega arith)

pub member_at : (ms : List MetaId) (i : ℕ) (m : MetaId) → i < length ms → get_or ms i m ≡ m → Member m.0 (numbers_of ms)
member_at [] i m h e = absurd (omega arith)
member_at (n ∷ ms) zero m h e = inl (ap (λ k. k.0) (sym e))
member_at (n ∷ ms) (suc i) m h e = inr (member_at ms i m (omega arith) e)

-- for which one a metavariable stands alone, with its value put in
pub sole_found : (s : State) (m : ℕ) (N N' : Term) → value_of s m ≡ Some N → PutFits s 0 N → Puts s 0 N N' → (r : Option MetaId) → MatchOption r ((n : ℕ) (a : Skeleton) → N' ≡ eta_long a (metavariable n) → ⊥) (λ n. (a : Skeleton) × (N' ≡ eta_long a (metavariable n.0))) → IsSole s m (option_map (λ n. n.0) r)
sole_found s m N N' v f p None h = λ n alone.
    let (N'', a, q, e) = subst (λ o. ValueIsAlone s m o n) v alone in
    let (R, x, only) = one_result s 0 N f in
    h n a (only N' p ∙ sym (only N'' q) ∙ e)
sole_found s m N N' v f p (Some n) h = subst (λ o. ValueIsAlone s m o n.0) (sym v) (N', h.0, p, h.1)

-- the variables of one metavariable more
add_some_append : (o : Option ℕ) (is js : List ℕ) → add_some o (is ++ js) ≡ add_some o is ++ js
add_some_append None is js = refl
add_some_append (Some i) is js = refl

pub variables_then : (ms ns : List ℕ) (n : ℕ) → variables_of ms (ns ++ n ∷ []) ≡ variables_of ms ns ++ add_some (index ms n) []
variables_then ms [] n = refl
variables_then ms (k ∷ ns) n = ap (add_some (index ms k)) (variables_then ms ns n) ∙ add_some_append (index ms k) (variables_of ms ns) (add_some (index ms n) [])

pub shown_next : (ms : List ℕ) (ks : List MetaId) (i : ℕ) (vs us : List ℕ) → i < length ks → vs ≡ variables_of ms (numbers_of (take i ks)) → us ≡ vs ++ add_some (index ms (get_or ks i (record { 0 = 0 })).0) [] → us ≡ variables_of ms (numbers_of (take (i + 1) ks))
shown_next ms ks i vs us h v u =
    let d : MetaId = record { 0 = 0 } in
    let n : suc i ≡ i + 1 = omega arith in
    let t : take (i + 1) ks ≡ take i ks ++ get_or ks i d ∷ [] = ap (λ j. take j ks) (sym n) ∙ take-suc ks i d h in
    u ∙ ap (λ l. l ++ add_some (index ms (get_or ks i d).0) []) v ∙ sym (variables_then ms (numbers_of (take i ks)) (get_or ks i d).0)
    ∙ ap (variables_of ms) (sym (map-append (λ m. m.0) (take i ks) (get_or ks i d ∷ [])) ∙ sym (ap numbers_of t))

-- places without names, one more
pub reach_more : (old hs ks : List (Option (List ℕ))) → hs ≡ old ++ replicate (length hs - length old) None → ks ≡ hs ++ None ∷ [] → ks ≡ old ++ replicate (length ks - length old) None
reach_more old hs ks e k =
    let n : ℕ = length hs - length old in
    let a : length hs ≡ length old + n = ap length e ∙ length-append old (replicate n None) ∙ ap (λ j. length old + j) (length-replicate n None) in
    let b : length ks ≡ length hs + 1 = ap length k ∙ length-append hs (None ∷ []) in
    let c : length ks - length old ≡ suc n = omega (arith, a, b) in
    k ∙ ap (λ l. l ++ None ∷ []) e ∙ append_assoc old (replicate n None) (None ∷ []) ∙ ap (λ l. old ++ l) (nameless-push n) ∙ ap (λ j. old ++ replicate j None) (sym c)

pub name_past : (n : ℕ) (x : List ℕ) (hs : List (Option (List ℕ))) → length hs ≤ n → with_name n x hs ≡ (hs ++ replicate (n - length hs) None) ++ Some x ∷ []
name_past n x hs h = name_beyond n x hs (n - length hs) (omega arith)

-- the names of metavariables, as many as these
pub names_each : (names : List (Option (List ℕ))) (ms : List ℕ) → length (names_of names ms) ≡ length ms
names_each names ms = length-map ms (λ m. joined (slice_get names m))

-- the next name that the text gives, the last one in the list
pub next_some : (h : Option (List ℕ)) (ws us : List (Option (List ℕ))) (n : ℕ) → us ≡ ws ++ h ∷ [] → fitted (suc n) (reverse us) ≡ h ∷ fitted n (reverse ws)
next_some h ws us n u = ap (λ l. fitted (suc n) (reverse l)) u ∙ ap (fitted (suc n)) (reverse-append ws (h ∷ []))

-- it is added
pub hint_added : (all hs ks : List (Option (List ℕ))) (h : Option (List ℕ)) (ws us : List (Option (List ℕ))) (n m : ℕ) → ((k : ℕ) → fitted (k + 1) (reverse us) ≡ h ∷ fitted k (reverse ws)) → m ≡ suc n → ks ≡ hs ++ h ∷ [] → hs ++ fitted m (reverse us) ≡ all → ks ++ fitted n (reverse ws) ≡ all
hint_added all hs ks h ws us n m f e p r =
    let s : n + 1 ≡ m = omega (arith, e) in
    ap (λ l. l ++ fitted n (reverse ws)) p ∙ append_assoc hs (h ∷ []) (fitted n (reverse ws)) ∙ ap (λ l. hs ++ l) (sym (f n) ∙ ap (λ i. fitted i (reverse us)) s) ∙ r
