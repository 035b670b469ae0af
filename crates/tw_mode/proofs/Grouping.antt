-- What the check of several clauses comes to.
use Rattle.std.proofs.Common.{◌≡◌, ℕ, List, [], ◌∷◌, ◌++◌, Bool, true, false, Some, None, Option, Result, Ok, Err, map, refl, sym, ap, ◌∙◌, subst}
use Rattle.std.specs.Prelude.{cond, is_some}
use Rattle.std.proofs.lemmas.List.{append_assoc}
use Rattle.lf.specs.Entries.{Entry, signature_of}
use Rattle.lf.specs.Subordination.{Block}
use Rattle.lf.specs.Syntax.{LfType}
use Rattle.lf.specs.Typing.{Signature}
use Rattle.lf.specs.Variables.{target}
use Rattle.lf_checks.specs.Clause.{Clause}
use Rattle.lf_checks.specs.Clauses.{ClauseName, NamedClause, group_clauses}
use Rattle.lf_checks.specs.Faults.{AllPass, FirstFault, here, later}
use Rattle.lf_checks.specs.Marks.{Mark}
use Rattle.lf_checks.specs.ModeFaults.{ModeFault as PlainFault}
use Rattle.lf_checks.specs.ModeRows.{ModeRow, called, families_met, first_unmoded, is_moded, marks_of, or_no_marks, row_of}
use Rattle.lf_checks.specs.Modes.{WellModed}
use Rattle.tw_mode.specs.Groups.{FaultsOutcome, GroupOutcome, ModesOutcome}
use Rattle.tw_mode.specs.Listing.{as_list}
use Rattle.tw_mode.specs.Rows.{marks_in, moded_in, row_in}
use Rattle.tw_mode.specs.declared.fault.ModeFault.{ModeFault}
use Rattle.tw_mode.specs.declared.fault.ModeFault.TheVariants.{Fault, NoMode, NoMemory}
use Rattle.tw_mode.specs.declared.table.Table.{Table}
use Rattle.tw_mode.proofs.Calling.{unmoded_behind, unmoded_first}
use mathlib.Core.Path.{fun_ext}

module _ {Place : Type 0} (P : Clause → Type 0) (F : Clause → Place → Type 0) where
  pub all_append : (xs ys : List NamedClause) → AllPass P xs → AllPass P ys → AllPass P (xs ++ ys)
  all_append [] ys a b = b
  all_append (x ∷ xs) ys (p, a) b = (p, all_append xs ys a b)

  pub fault_left : (xs ys : List NamedClause) (n : ClauseName) (at : Place) → FirstFault P F xs n at → FirstFault P F (xs ++ ys) n at
  fault_left [] ys n at f = elim f [ ]
  fault_left (x ∷ xs) ys n at (here e f) = here e f
  fault_left (x ∷ xs) ys n at (later p f) = later p (fault_left xs ys n at f)

  pub fault_right : (xs ys : List NamedClause) (n : ClauseName) (at : Place) → AllPass P xs → FirstFault P F ys n at → FirstFault P F (xs ++ ys) n at
  fault_right [] ys n at a f = f
  fault_right (x ∷ xs) ys n at (p, a) f = later p (fault_right xs ys n at a f)

-- Families without a mode.
module _ (moded : ℕ → Bool) where
  families_append : (xs ys : List NamedClause) → families_met moded (xs ++ ys) ≡ families_met moded xs ++ families_met moded ys
  families_append [] ys = refl
  families_append (n ∷ xs) ys = ap (λ fs. target n.clause.type ∷ fs) (ap (λ fs. called moded n.clause.type ++ fs) (families_append xs ys) ∙ sym (append_assoc (called moded n.clause.type) (families_met moded xs) (families_met moded ys)))

  pub modes_go_on : (xs ys : List NamedClause) (u : Unit {0}) (r : Result (Unit {0}) ModeFault) → ModesOutcome moded xs (Ok u) → ModesOutcome moded ys r → ModesOutcome moded (xs ++ ys) r
  modes_go_on xs ys u (Ok v) a h = ap (first_unmoded moded) (families_append xs ys) ∙ unmoded_behind moded (families_met moded xs) (families_met moded ys) a ∙ h
  modes_go_on xs ys u (Err (Fault n k j)) a h = h
  modes_go_on xs ys u (Err (NoMode f)) a h = ap (first_unmoded moded) (families_append xs ys) ∙ unmoded_behind moded (families_met moded xs) (families_met moded ys) a ∙ h
  modes_go_on xs ys u (Err NoMemory) a h = h

  pub modes_end : (xs ys : List NamedClause) (e : ModeFault) → ModesOutcome moded xs (Err e) → ModesOutcome moded (xs ++ ys) (Err e)
  modes_end xs ys (Fault n k j) h = h
  modes_end xs ys (NoMode f) h = ap (first_unmoded moded) (families_append xs ys) ∙ unmoded_first moded (families_met moded xs) (families_met moded ys) f.0 h
  modes_end xs ys NoMemory h = h

-- one clause, by its type
pub no_clause : (moded : ℕ → Bool) (cs : List NamedClause) (o : Option LfType) → map (λ n. n.clause.type) cs ≡ as_list o → o ≡ None → first_unmoded moded (families_met moded cs) ≡ None
no_clause moded [] o e q = refl
no_clause moded (n ∷ cs) o e q = absurd (empty (e ∙ ap as_list q))
  where
    empty : n.clause.type ∷ map (λ n. n.clause.type) cs ≡ [] → ⊥
    empty z = absurd cc

families_of : (moded : ℕ → Bool) (cs : List NamedClause) (A : LfType) → map (λ n. n.clause.type) cs ≡ A ∷ [] → families_met moded cs ≡ target A ∷ called moded A ++ []
families_of moded [] A e = absurd cc
families_of moded (n ∷ []) A e = ap (λ X. target X ∷ called moded X ++ []) (let q : n.clause.type ≡ A = cc in q)
families_of moded (n ∷ k ∷ cs) A e = absurd cc

pub own_unmoded : (moded : ℕ → Bool) (cs : List NamedClause) (o : Option LfType) (A : LfType) → map (λ n. n.clause.type) cs ≡ as_list o → o ≡ Some A → moded (target A) ≡ false → first_unmoded moded (families_met moded cs) ≡ Some (target A)
own_unmoded moded cs o A e q u = ap (first_unmoded moded) (families_of moded cs A (e ∙ ap as_list q)) ∙ ap (λ b. cond b (first_unmoded moded (called moded A ++ [])) (Some (target A))) u

pub own_moded : (moded : ℕ → Bool) (cs : List NamedClause) (o : Option LfType) (A : LfType) (r : Option ℕ) → map (λ n. n.clause.type) cs ≡ as_list o → o ≡ Some A → moded (target A) ≡ true → r ≡ first_unmoded moded (called moded A) → first_unmoded moded (families_met moded cs) ≡ r
own_moded moded cs o A r e q u h = ap (first_unmoded moded) (families_of moded cs A (e ∙ ap as_list q)) ∙ ap (λ b. cond b (first_unmoded moded (called moded A ++ [])) (Some (target A))) u ∙ ap (first_unmoded moded) (nothing_behind (called moded A)) ∙ sym h
  where
    nothing_behind : (xs : List ℕ) → xs ++ [] ≡ xs
    nothing_behind [] = refl
    nothing_behind (x ∷ xs) = ap (λ ys. x ∷ ys) (nothing_behind xs)

-- Faults.
module _ (Σ : Signature) (m : ℕ → List Mark) (moded : ℕ → Bool) where
  pub faults_go_on : (xs ys : List NamedClause) (u : Unit {0}) (r : Result (Unit {0}) ModeFault) → FaultsOutcome Σ m moded xs (Ok u) → FaultsOutcome Σ m moded ys r → FaultsOutcome Σ m moded (xs ++ ys) r
  faults_go_on xs ys u (Ok v) a h = all_append (WellModed Σ m moded) (PlainFault Σ m moded) xs ys a h
  faults_go_on xs ys u (Err (Fault n k j)) a h = fault_right (WellModed Σ m moded) (PlainFault Σ m moded) xs ys _ _ a h
  faults_go_on xs ys u (Err (NoMode f)) a h = h
  faults_go_on xs ys u (Err NoMemory) a h = h

  pub faults_end : (xs ys : List NamedClause) (e : ModeFault) → FaultsOutcome Σ m moded xs (Err e) → FaultsOutcome Σ m moded (xs ++ ys) (Err e)
  faults_end xs ys (Fault n k j) h = fault_left (WellModed Σ m moded) (PlainFault Σ m moded) xs ys _ _ h
  faults_end xs ys (NoMode f) h = h
  faults_end xs ys NoMemory h = h

-- A table of rows tells what the rows tell.
module _ (t : Table) (rows : List ModeRow) (same : (f : ℕ) → row_in t f ≡ row_of rows f) where
  pub same_marks : marks_in t ≡ marks_of rows
  same_marks = fun_ext (λ f. ap or_no_marks (same f))

  pub same_modes : moded_in t ≡ is_moded rows
  same_modes = fun_ext (λ f. ap is_some (same f))

  module _ (es : List Entry) (W : List Block) (group : List ℕ) (cs : List NamedClause) (all : cs ≡ group_clauses es W group) where
    pub group_refused : (e : ModeFault) → ModesOutcome (moded_in t) cs (Err e) → GroupOutcome es rows W group (Err e)
    group_refused (Fault n k j) h = absurd h
    group_refused (NoMode f) h = subst (λ xs. first_unmoded (is_moded rows) (families_met (is_moded rows) xs) ≡ Some f.0) all (subst (λ b. first_unmoded b (families_met b cs) ≡ Some f.0) same_modes h)
    group_refused NoMemory h = tt

    rows_stand : (u : Unit {0}) → ModesOutcome (moded_in t) cs (Ok u) → first_unmoded (is_moded rows) (families_met (is_moded rows) (group_clauses es W group)) ≡ None
    rows_stand u h = subst (λ xs. first_unmoded (is_moded rows) (families_met (is_moded rows) xs) ≡ None) all (subst (λ b. first_unmoded b (families_met b cs) ≡ None) same_modes h)

    renamed : (r : Result (Unit {0}) ModeFault) → FaultsOutcome (signature_of es) (marks_in t) (moded_in t) cs r → FaultsOutcome (signature_of es) (marks_of rows) (is_moded rows) (group_clauses es W group) r
    renamed r h = subst (λ xs. FaultsOutcome (signature_of es) (marks_of rows) (is_moded rows) xs r) all (subst (λ b. FaultsOutcome (signature_of es) (marks_of rows) b cs r) same_modes (subst (λ m. FaultsOutcome (signature_of es) m (moded_in t) cs r) same_marks h))

    pub group_told : (u : Unit {0}) (r : Result (Unit {0}) ModeFault) → ModesOutcome (moded_in t) cs (Ok u) → FaultsOutcome (signature_of es) (marks_in t) (moded_in t) cs r → GroupOutcome es rows W group r
    group_told u r h f = by r (renamed r f)
      where
        by : (r : Result (Unit {0}) ModeFault) → FaultsOutcome (signature_of es) (marks_of rows) (is_moded rows) (group_clauses es W group) r → GroupOutcome es rows W group r
        by (Ok v) g = record { rows_stand = rows_stand u h; moded = g }
        by (Err (Fault n k j)) g = record { rows_stand = rows_stand u h; first = g }
        by (Err (NoMode a)) g = absurd g
        by (Err NoMemory) g = tt
