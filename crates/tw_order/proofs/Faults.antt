-- The first fault of a clause, and of several.
use Rattle.std.proofs.Common.{◌≡◌, ℕ, zero, suc, ◌+◌, ◌<◌, ◌≤◌, List, [], ◌∷◌, ◌++◌, Some, Result, Ok, Err, length, get_or, map, take, refl, sym, ap, ◌∙◌, subst, inl, inr}
use Rattle.std.specs.Prelude.{slice_get}
use Rattle.std.proofs.lemmas.List.{take_all}
use Rattle.lf.specs.Entries.{Entry, signature_of}
use Rattle.lf.specs.Subordination.{Block, Member}
use Rattle.lf.specs.Syntax.{LfType}
use Rattle.lf_checks.specs.Clause.{Clause}
use Rattle.lf_checks.specs.Clauses.{ClauseName, NamedClause, group_clauses}
use Rattle.lf_checks.specs.Descent.{CallDescends}
use Rattle.lf_checks.specs.Faults.{AllPass, FirstFault, here, later}
use Rattle.lf_checks.specs.Order.{Order}
use Rattle.lf_checks.specs.OrderFaults.{ClauseDescends, OrderFault as PlainFault}
use Rattle.lf_checks.proofs.OneFault.{descending_group}
use Rattle.tw_order.specs.Outcomes.{ListOutcome, OrderOutcome}
use Rattle.tw_order.specs.declared.fault.OrderFault.{OrderFault}
use Rattle.tw_order.specs.declared.fault.OrderFault.TheVariants.{Fault, NoMemory}
use Rattle.tw_order.proofs.Calling.{taken_more}
use Rattle.tw_order.proofs.Collecting.{map_found}
use Rattle.tw_order.proofs.Lists.{pushed}

-- What stands in a list as the program has it.
module _ {X Y : Type 0} (f : X → Y) (xs : List X) (ys : List Y) (e : map f xs ≡ ys) where
  member_found : (zs : List Y) (k : ℕ) (y : Y) → slice_get zs k ≡ Some y → Member y zs
  member_found [] k y q = absurd cc
  member_found (z ∷ zs) zero y q = inl (let r : y ≡ z = cc in r)
  member_found (z ∷ zs) (suc k) y q = inr (member_found zs k y q)

  map_take : (k : ℕ) (zs : List X) → take k (map f zs) ≡ map f (take k zs)
  map_take zero zs = refl
  map_take (suc k) [] = refl
  map_take (suc k) (z ∷ zs) = ap (λ ws. f z ∷ ws) (map_take k zs)

  pub found_there : (k : ℕ) (x : X) → k < length xs → x ≡ get_or xs k x → slice_get ys k ≡ Some (f x)
  found_there k x h i = ap (λ zs. slice_get zs k) (sym e) ∙ map_found f xs k x h i

  pub member_there : (k : ℕ) (x : X) → k < length xs → x ≡ get_or xs k x → Member (f x) ys
  member_there k x h i = member_found ys k (f x) (found_there k x h i)

  pub taken_there : (k : ℕ) (y : Y) → Member y (take k ys) → Member y (map f (take k xs))
  taken_there k y m = subst (Member y) (ap (take k) (sym e) ∙ map_take k xs) m

  module _ (P : Y → Type 0) where
    pub all_next : (k : ℕ) (x : X) → k < length xs → x ≡ get_or xs k x → ((y : Y) → Member y (map f (take k xs)) → P y) → P (f x) → (y : Y) → Member y (map f (take (k + 1) xs)) → P y
    all_next k x h i all p y m = elim (pushed (map f (take k xs)) (f x) y (subst (Member y) (taken_more f (λ z. Y) xs k x h i) m)) [ inl n ↦ all y n | inr q ↦ subst P (sym q) p ]

    pub all_there : (k : ℕ) → length xs ≤ k → ((y : Y) → Member y (map f (take k xs)) → P y) → (y : Y) → Member y ys → P y
    all_there k h all y m = all y (subst (Member y) (sym (ap (map f) (take_all k xs h) ∙ e)) m)

-- Several clauses.
module _ {Place : Type 0} (P : Clause → Type 0) (F : Clause → Place → Type 0) where
  all_append : (xs ys : List NamedClause) → AllPass P xs → AllPass P ys → AllPass P (xs ++ ys)
  all_append [] ys a b = b
  all_append (x ∷ xs) ys (p, a) b = (p, all_append xs ys a b)

  fault_left : (xs ys : List NamedClause) (n : ClauseName) (at : Place) → FirstFault P F xs n at → FirstFault P F (xs ++ ys) n at
  fault_left [] ys n at f = elim f [ ]
  fault_left (x ∷ xs) ys n at (here e f) = here e f
  fault_left (x ∷ xs) ys n at (later p f) = later p (fault_left xs ys n at f)

  fault_right : (xs ys : List NamedClause) (n : ClauseName) (at : Place) → AllPass P xs → FirstFault P F ys n at → FirstFault P F (xs ++ ys) n at
  fault_right [] ys n at a f = f
  fault_right (x ∷ xs) ys n at (p, a) f = later p (fault_right xs ys n at a f)

module _ (D : Clause → LfType → Type 0) (group : List ℕ) where
  pub outcome_goes_on : (xs ys : List NamedClause) (u : Unit {0}) (r : Result (Unit {0}) OrderFault) → ListOutcome D group xs (Ok u) → ListOutcome D group ys r → ListOutcome D group (xs ++ ys) r
  outcome_goes_on xs ys u (Ok v) a h = all_append (ClauseDescends D group) (PlainFault D group) xs ys a h
  outcome_goes_on xs ys u (Err (Fault n k)) a h = fault_right (ClauseDescends D group) (PlainFault D group) xs ys _ _ a h
  outcome_goes_on xs ys u (Err NoMemory) a h = tt

  pub outcome_ends : (xs ys : List NamedClause) (e : OrderFault) → ListOutcome D group xs (Err e) → ListOutcome D group (xs ++ ys) (Err e)
  outcome_ends xs ys (Fault n k) h = fault_left (ClauseDescends D group) (PlainFault D group) xs ys _ _ h
  outcome_ends xs ys NoMemory h = tt

-- A group.
module _ (es : List Entry) (W : List Block) (order : ℕ → Order) (group : List ℕ) where
  pub outcome_of_group : (cs : List NamedClause) (r : Result (Unit {0}) OrderFault) → cs ≡ group_clauses es W group → ListOutcome (CallDescends (signature_of es) W order group) group cs r → OrderOutcome es W order group r
  outcome_of_group cs r e h = by r (subst (λ xs. ListOutcome (CallDescends (signature_of es) W order group) group xs r) e h)
    where
      by : (r : Result (Unit {0}) OrderFault) → ListOutcome (CallDescends (signature_of es) W order group) group (group_clauses es W group) r → OrderOutcome es W order group r
      by (Ok u) g = (descending_group es W order group).0 g
      by (Err (Fault n k)) g = g
      by (Err NoMemory) g = tt
