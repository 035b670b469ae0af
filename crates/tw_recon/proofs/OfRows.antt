-- The hints of implicit quantifiers are names of free variables.
use Rattle.std.proofs.Common.{◌≡◌, ℕ, zero, suc, List, [], ◌∷◌, ◌++◌, Bool, true, false, Option, None, Some, refl, sym, subst, ◌⊎◌, inl, inr}
use Rattle.std.specs.Prelude.{is_some, if◌then◌else◌}
use Rattle.std.specs.List.{slice_get}
use Rattle.lf.specs.Entries.{Body, Entry}
use Rattle.lf.specs.Syntax.{LfType, Skeleton}
use Rattle.lf_elaboration.specs.Principal.{WrittenBody}
use Rattle.tw_approx.specs.Answer.{HasRow, Rows}
use Rattle.tw_metas.specs.State.{State, joined}
use Rattle.tw_recon.specs.Names.{Naming, NamesAll, NamesOne, names_of, nothing_named, with_name, with_sole}
use Rattle.tw_recon.specs.Reconstruction.{AreReadOff, LeavesNothingOut, IsCompletedTo}

-- each of these is none, or the name of a free variable
abbrev pub IsOfRows : Rows → Option (List ℕ) → Type 0
IsOfRows rows None = Unit {0}
IsOfRows rows (Some x) = HasRow x rows

abbrev pub AreOfRows : Rows → List (Option (List ℕ)) → Type 0
AreOfRows rows [] = Unit {0}
AreOfRows rows (h ∷ hs) = IsOfRows rows h × AreOfRows rows hs

row_at : (rows : Rows) (i : ℕ) (r : List ℕ × Skeleton) → slice_get rows i ≡ Some r → HasRow r.0 rows
row_at [] i r e = cc
row_at ((y, t) ∷ rows) zero r e = let p : (y, t) ≡ r = cc in subst (λ q. (y ≡ q.0) ⊎ HasRow q.0 rows) p (inl refl)
row_at ((y, t) ∷ rows) (suc i) r e = inr (row_at rows i r e)

module _ (rows : Rows) where
  put_of_rows : (n : ℕ) (x : List ℕ) (hs : List (Option (List ℕ))) → HasRow x rows → AreOfRows rows hs → AreOfRows rows (with_name n x hs)
  put_of_rows zero x [] r a = (r, tt)
  put_of_rows (suc n) x [] r a = (tt, put_of_rows n x [] r tt)
  put_of_rows zero x (None ∷ hs) r a = (r, a.1)
  put_of_rows zero x (Some y ∷ hs) r a = a
  put_of_rows (suc n) x (h ∷ hs) r a = (a.0, put_of_rows n x hs r a.1)

  sole_of_rows : (o : Option ℕ) (x : List ℕ) (N : Naming) → HasRow x rows → AreOfRows rows N.names → AreOfRows rows (with_sole o x N).names
  sole_of_rows None x N r a = a
  sole_of_rows (Some n) x N r a = named (is_some (joined (slice_get N.names n))) refl
    where
      named : (b : Bool) → is_some (joined (slice_get N.names n)) ≡ b → AreOfRows rows (with_sole (Some n) x N).names
      named true e = subst (λ c. AreOfRows rows (if c then N else record { names = with_name n x N.names; firsts = N.firsts ++ n ∷ [] }).names) (sym e) a
      named false e = subst (λ c. AreOfRows rows (if c then N else record { names = with_name n x N.names; firsts = N.firsts ++ n ∷ [] }).names) (sym e) (put_of_rows n x N.names r a)

  found_of_rows : (hs : List (Option (List ℕ))) (m : ℕ) → AreOfRows rows hs → IsOfRows rows (joined (slice_get hs m))
  found_of_rows [] m a = tt
  found_of_rows (None ∷ hs) zero a = tt
  found_of_rows (Some x ∷ hs) zero a = a.0
  found_of_rows (h ∷ hs) (suc m) a = found_of_rows hs m a.1

  module _ (s : State) (frees : List ℕ) where
    one_of_rows : (i : ℕ) (o : Option ℕ) (q : Option (List ℕ × Skeleton)) (hs ks : Naming) → slice_get rows i ≡ q → NamesOne s frees rows o q hs ks → AreOfRows rows hs.names → AreOfRows rows ks.names
    one_of_rows i (Some m) (Some r) hs ks e (n, k, p) a = subst (λ N. AreOfRows rows N.names) (sym p) (sole_of_rows n r.0 hs (row_at rows i r e) a)
    one_of_rows i (Some m) None hs ks e p a = subst (λ N. AreOfRows rows N.names) (sym p) a
    one_of_rows i None q hs ks e p a = subst (λ N. AreOfRows rows N.names) (sym p) a

    all_of_rows : (is : List ℕ) (hs ks : Naming) → NamesAll s frees rows is hs ks → AreOfRows rows hs.names → AreOfRows rows ks.names
    all_of_rows [] hs ks p a = subst (λ N. AreOfRows rows N.names) (sym p) a
    all_of_rows (i ∷ is) hs ks (mid, o, p) a = all_of_rows is mid ks p (one_of_rows i (slice_get frees i) (slice_get rows i) hs mid refl o a)

  each_of_rows : (names : List (Option (List ℕ))) (ms : List ℕ) → AreOfRows rows names → AreOfRows rows (names_of names ms)
  each_of_rows names [] a = tt
  each_of_rows names (m ∷ ms) a = (found_of_rows names m a, each_of_rows names ms a)

pub hints_of_rows : (es : List Entry) (rows : Rows) (w : WrittenBody) (G : List LfType) (hints : List (Option (List ℕ))) (shown : List ℕ) (b : Body) → IsCompletedTo es rows w G hints shown b → AreOfRows rows hints
hints_of_rows es rows w G hints shown b c = from c.in_order
  where
    from : LeavesNothingOut es rows w G hints shown ⊎ AreReadOff es rows w G hints shown b → AreOfRows rows hints
    from (inl n) = subst (AreOfRows rows) (sym n.no_hint) tt
    from (inr r) = subst (AreOfRows rows) (sym r.hints_are) (each_of_rows rows r.naming.names r.quantifiers (all_of_rows rows r.after r.frees r.order nothing_named r.naming r.are_names tt))
