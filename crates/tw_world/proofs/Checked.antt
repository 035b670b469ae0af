-- What a check of clauses comes to, one after the other.
use Rattle.std.proofs.Common.{◌≡◌, ℕ, zero, suc, ◌+◌, ◌-◌, ◌<◌, List, [], ◌∷◌, ◌++◌, Result, Ok, Err, Bool, true, false, Option, Some, None, length, length-drop, drop, get_or, map, refl, sym, ap, ◌∙◌, subst, arith}
use Rattle.std.specs.Prelude.{cond, slice_get}
use Rattle.std.proofs.lemmas.List.{append_assoc}
use Rattle.lf.specs.Entries.{Entry}
use Rattle.lf.specs.Subordination.{Block}
use Rattle.lf.specs.Syntax.{LfType}
use Rattle.lf.specs.Typing.{IsContext, IsType, Signature}
use Rattle.lf.specs.Variables.{onto, same_number, target}
use Rattle.lf_checks.specs.Clause.{Clause, constant_clause}
use Rattle.lf_checks.specs.Clauses.{ClauseName, NamedClause, of_constant, block_clauses, clauses_of, constant_clauses, entry_clauses, group_clauses, named_entry, with_constant}
use Rattle.lf_checks.specs.Faults.{AllPass, FirstFault, here, later}
use Rattle.tw_clause.specs.View.{block_of}
use Rattle.tw_clause.specs.declared.block.Block.{Block as RustBlock}
use Rattle.tw_terms.specs.declared.canonical.ConstId.{ConstId}
use Rattle.tw_hered.specs.declared.fault.HeredFault.TheVariants as hered
use Rattle.tw_hered.specs.declared.fault.HeredFault.{HeredFault}
use Rattle.tw_world.specs.Checks.{Checked, ClauseFails, ClauseGoesDeep, ClausePasses}
use Rattle.tw_world.specs.Faults.{fault_of}
use Rattle.tw_world.specs.declared.check.Check.{Check}
use Rattle.tw_world.specs.declared.fault.WorldFault.{WorldFault}
use Rattle.tw_world.specs.declared.fault.WorldFault.TheVariants.{Fault, NoMemory, TooDeep}
use Rattle.tw_signature.proofs.Marking.{same_not, same_self}

-- Lists.
nothing_behind : {A : Type 0} (xs : List A) → xs ++ [] ≡ xs
nothing_behind [] = refl
nothing_behind (x ∷ xs) = ap (λ ys. x ∷ ys) (nothing_behind xs)

drop_get : {A : Type 0} (xs : List A) (k : ℕ) (d : A) → k < length xs → drop k xs ≡ get_or xs k d ∷ drop (k + 1) xs
drop_get [] k d h = absurd (omega (arith, h))
drop_get (x ∷ xs) zero d h = refl
drop_get (x ∷ xs) (suc k) d h = drop_get xs k d (omega (arith, h)) ∙ ap (λ n. get_or xs k d ∷ drop n (x ∷ xs)) (let q : suc (k + 1) ≡ suc k + 1 = omega arith in q)

pub found_drop : {A : Type 0} (xs : List A) (k : ℕ) (x : A) → slice_get xs k ≡ Some x → drop k xs ≡ x ∷ drop (suc k) xs
found_drop [] k x e = absurd cc
found_drop (y ∷ xs) zero x e = let q : y ≡ x = cc in ap (λ z. z ∷ xs) q
found_drop (y ∷ xs) (suc k) x e = found_drop xs k x e

pub found_below : {A : Type 0} (xs : List A) (k : ℕ) → k < length xs → (x : A) × (slice_get xs k ≡ Some x)
found_below [] k h = absurd (omega (arith, h))
found_below (x ∷ xs) zero h = (x, refl)
found_below (x ∷ xs) (suc k) h = found_below xs k (omega (arith, h))

-- One fault among several clauses.
module _ {Place : Type 0} (P : Clause → Type 0) (F : Clause → Place → Type 0) where
  all_append : (xs ys : List NamedClause) → AllPass P xs → AllPass P ys → AllPass P (xs ++ ys)
  all_append [] ys a b = b
  all_append (x ∷ xs) ys (p, a) b = (p, all_append xs ys a b)

  fault_left : (xs ys : List NamedClause) (n : ClauseName) (at : Place) → FirstFault P F xs n at → FirstFault P F (xs ++ ys) n at
  fault_left [] ys n at f = elim f [ ]
  fault_left (x ∷ xs) ys n at (here e f) = here e f
  fault_left (x ∷ xs) ys n at (later p f) = later p (fault_left xs ys n at f)

  fault_right : (xs ys : List NamedClause) (n : ClauseName) (at : Place) → AllPass P xs → FirstFault P F ys n at → FirstFault P F (xs ++ ys) n at
  fault_right [] ys n at a f = f
  fault_right (x ∷ xs) ys n at (p, a) f = later p (fault_right xs ys n at a f)

module _ (x : Check) where
  pub goes_on : (xs ys zs : List NamedClause) (u : Unit {0}) (r : Result (Unit {0}) WorldFault) → zs ≡ xs ++ ys → Checked x xs (Ok u) → Checked x ys r → Checked x zs r
  goes_on xs ys zs u r e a h = subst (λ cs. Checked x cs r) (sym e) (by r h)
    where
      by : (r : Result (Unit {0}) WorldFault) → Checked x ys r → Checked x (xs ++ ys) r
      by (Ok v) h = all_append (ClausePasses x) (ClauseFails x) xs ys a h
      by (Err (Fault n k)) h = fault_right (ClausePasses x) (ClauseFails x) xs ys _ _ a h
      by (Err TooDeep) (n, k, h) = (n, k, fault_right (ClausePasses x) (ClauseGoesDeep x) xs ys n k a h)
      by (Err NoMemory) h = tt

  pub ends : (xs ys zs : List NamedClause) (e : WorldFault) → zs ≡ xs ++ ys → Checked x xs (Err e) → Checked x zs (Err e)
  ends xs ys zs e q h = subst (λ cs. Checked x cs (Err e)) (sym q) (by e h)
    where
      by : (e : WorldFault) → Checked x xs (Err e) → Checked x (xs ++ ys) (Err e)
      by (Fault n k) h = fault_left (ClausePasses x) (ClauseFails x) xs ys _ _ h
      by TooDeep (n, k, h) = (n, k, fault_left (ClausePasses x) (ClauseGoesDeep x) xs ys n k h)
      by NoMemory h = tt

  -- one clause
  pub one_open : (n : NamedClause) (f : HeredFault) → (f ≡ hered.TooDeep → (k : ℕ) × ClauseGoesDeep x n.clause k) → Checked x (n ∷ []) (Err (fault_of f))
  one_open n hered.TooDeep h = let (k, d) = h refl in (n.name, k, here refl d)
  one_open n hered.NoMemory h = tt

-- Clauses of a list of families, constants or blocks, one element after the other.
module _ (x : Check) {X : Type 0} (one : X → List NamedClause) (all : List X → List NamedClause) (next : (y : X) (ys : List X) → all (y ∷ ys) ≡ one y ++ all ys) where
  -- what those from the element k on come to, all come to
  abbrev pub Rest : List X → ℕ → Type 0
  Rest xs k = (r : Result (Unit {0}) WorldFault) → Checked x (all (drop k xs)) r → Checked x (all xs) r

  one_more : (xs : List X) (k : ℕ) (d : X) → k < length xs → all (drop k xs) ≡ one (get_or xs k d) ++ all (drop (k + 1) xs)
  one_more xs k d h = ap all (drop_get xs k d h) ∙ next (get_or xs k d) (drop (k + 1) xs)

  pub loop_ends : (xs : List X) (k : ℕ) (d : X) (f : WorldFault) (s : Result (Unit {0}) WorldFault) → k < length xs → s ≡ Err f → Rest xs k → Checked x (one (get_or xs k d)) (Err f) → Checked x (all xs) s
  loop_ends xs k d f s h q rest c = subst (Checked x (all xs)) (sym q) (rest (Err f) (ends x (one (get_or xs k d)) (all (drop (k + 1) xs)) (all (drop k xs)) f (one_more xs k d h) c))

  pub loop_goes_on : (xs : List X) (k : ℕ) (d : X) → k < length xs → Rest xs k → Checked x (one (get_or xs k d)) (Ok tt) → Rest xs (k + 1)
  loop_goes_on xs k d h rest c r w = rest r (goes_on x (one (get_or xs k d)) (all (drop (k + 1) xs)) (all (drop k xs)) tt r (one_more xs k d h) c w)

constant_before : (k : ℕ) (o : Option LfType) (cs : List NamedClause) → with_constant k o cs ≡ with_constant k o [] ++ cs
constant_before k (Some U) cs = refl
constant_before k None cs = refl

abbrev pub constant_alone : Signature → ConstId → List NamedClause
constant_alone Σ i = with_constant i.0 (Σ.types i.0) []

abbrev pub constants_listed : Signature → List ConstId → List NamedClause
constants_listed Σ ids = constant_clauses Σ.types (map (λ c. c.0) ids)

pub constants_next : (Σ : Signature) (i : ConstId) (ids : List ConstId) → constants_listed Σ (i ∷ ids) ≡ constant_alone Σ i ++ constants_listed Σ ids
constants_next Σ i ids = constant_before i.0 (Σ.types i.0) (constants_listed Σ ids)

-- the clause of a constant, if it has a type
pub at_constant : (P : List NamedClause → Type 0) (k : ℕ) (o : Option LfType) (U : LfType) → Some U ≡ o → P (record { name = of_constant k; clause = constant_clause U } ∷ []) → P (with_constant k o [])
at_constant P k o U e c = subst (λ p. P (with_constant k p [])) e c

abbrev pub family_alone : List Entry → List Block → ConstId → List NamedClause
family_alone es W i = clauses_of es W i.0

abbrev pub families_listed : List Entry → List Block → List ConstId → List NamedClause
families_listed es W ids = group_clauses es W (map (λ c. c.0) ids)

pub families_next : (es : List Entry) (W : List Block) (i : ConstId) (ids : List ConstId) → families_listed es W (i ∷ ids) ≡ family_alone es W i ++ families_listed es W ids
families_next es W i ids = refl

abbrev pub block_alone : ℕ → RustBlock → List NamedClause
block_alone a b = entry_clauses (block_of b) a b.entries

abbrev pub blocks_listed : ℕ → List RustBlock → List NamedClause
blocks_listed a bs = block_clauses (map block_of bs) a

pub blocks_next : (a : ℕ) (b : RustBlock) (bs : List RustBlock) → blocks_listed a (b ∷ bs) ≡ block_alone a b ++ blocks_listed a bs
blocks_next a b bs = refl

-- Entries.
module _ (B : Block) (a : ℕ) where
  entry_behind : (b : Bool) (cs : List NamedClause) (n : NamedClause) → cond b (cs ++ n ∷ []) cs ≡ cs ++ cond b (n ∷ []) []
  entry_behind true cs n = refl
  entry_behind false cs n = sym (nothing_behind cs)

  pub entry_next : (n : ℕ) (E : LfType) → slice_get B.entries n ≡ Some E → entry_clauses B a (drop n B.entries) ≡ entry_clauses B a (drop (suc n) B.entries) ++ cond (same_number (target E) a) (named_entry B (drop (suc n) B.entries) E ∷ []) []
  entry_next n E e = ap (entry_clauses B a) (found_drop B.entries n E e) ∙ entry_behind (same_number (target E) a) (entry_clauses B a (drop (suc n) B.entries)) (named_entry B (drop (suc n) B.entries) E)

  newer_behind : (es : List LfType) (n : ℕ) → (cs : List NamedClause) × (entry_clauses B a es ≡ entry_clauses B a (drop n es) ++ cs)
  newer_behind es zero = ([], sym (nothing_behind (entry_clauses B a es)))
  newer_behind [] (suc n) = ([], refl)
  newer_behind (E ∷ es) (suc n) =
      let (cs, e) = newer_behind es n in
      let last = cond (same_number (target E) a) (named_entry B es E ∷ []) [] in
      (cs ++ last, entry_behind (same_number (target E) a) (entry_clauses B a es) (named_entry B es E) ∙ ap (λ ds. ds ++ last) e ∙ append_assoc (entry_clauses B a (drop n es)) cs last)

  -- the clause of an entry, if its target is the family
  same_entry : {X : Type 0} {y z : X} → Some y ≡ Some z → y ≡ z
  same_entry e = cc

  pub at_entry : (P : List NamedClause → Type 0) (n : ℕ) (E F : LfType) → slice_get B.entries n ≡ Some E → slice_get B.entries n ≡ Some F → target E ≡ a → P (named_entry B (drop (suc n) B.entries) E ∷ []) → P (cond (same_number (target F) a) (named_entry B (drop (suc n) B.entries) F ∷ []) [])
  at_entry P n E F e f t c =
      let D = drop (suc n) B.entries in
      subst (λ A. P (cond (same_number (target A) a) (named_entry B D A ∷ []) [])) (same_entry (sym e ∙ f)) (subst (λ b. P (cond b (named_entry B D E ∷ []) [])) (sym (ap (λ k. same_number k a) t ∙ same_self a)) c)

  pub no_entry : (P : List NamedClause → Type 0) (n : ℕ) (E F : LfType) → slice_get B.entries n ≡ Some E → slice_get B.entries n ≡ Some F → (target E ≡ a → ⊥) → P [] → P (cond (same_number (target F) a) (named_entry B (drop (suc n) B.entries) F ∷ []) [])
  no_entry P n E F e f t c =
      let D = drop (suc n) B.entries in
      subst (λ A. P (cond (same_number (target A) a) (named_entry B D A ∷ []) [])) (same_entry (sym e ∙ f)) (subst (λ b. P (cond b (named_entry B D E ∷ []) [])) (sym (same_not (target E) a t)) c)

  pub entry_number : (n : ℕ) → n < length B.entries → suc (length (drop (suc n) B.entries)) ≡ length B.entries - n
  entry_number n h = let q = length-drop (suc n) B.entries in omega (arith, q, h)

  -- an entry that fails, after those that are older
  pub entry_ends : (x : Check) (n : ℕ) (e : WorldFault) → n < length B.entries → AllPass (ClausePasses x) (entry_clauses B a (drop (suc n) B.entries)) → ((E : LfType) → slice_get B.entries n ≡ Some E → Checked x (cond (same_number (target E) a) (named_entry B (drop (suc n) B.entries) E ∷ []) []) (Err e)) → Checked x (entry_clauses B a B.entries) (Err e)
  entry_ends x n e l p f =
      let (E, s) = found_below B.entries n l in
      let (cs, q) = newer_behind B.entries n in
      ends x (entry_clauses B a (drop n B.entries)) cs (entry_clauses B a B.entries) e q (goes_on x (entry_clauses B a (drop (suc n) B.entries)) (cond (same_number (target E) a) (named_entry B (drop (suc n) B.entries) E ∷ []) []) (entry_clauses B a (drop n B.entries)) tt (Err e) (entry_next n E s) p (f E s))

  -- one that passes
  pub entry_passes : (x : Check) (n : ℕ) (u : Unit {0}) → n < length B.entries → AllPass (ClausePasses x) (entry_clauses B a (drop (suc n) B.entries)) → ((E : LfType) → slice_get B.entries n ≡ Some E → Checked x (cond (same_number (target E) a) (named_entry B (drop (suc n) B.entries) E ∷ []) []) (Ok u)) → AllPass (ClausePasses x) (entry_clauses B a (drop n B.entries))
  entry_passes x n u l p f =
      let (E, s) = found_below B.entries n l in
      goes_on x (entry_clauses B a (drop (suc n) B.entries)) (cond (same_number (target E) a) (named_entry B (drop (suc n) B.entries) E ∷ []) []) (entry_clauses B a (drop n B.entries)) tt (Ok u) (entry_next n E s) p (f E s)

-- What stands outside an entry is a context, and the entry a type in it.
entry_in : (Σ : Signature) (es some : List LfType) (n : ℕ) (E : LfType) → slice_get es n ≡ Some E → IsContext Σ (onto es some) → IsContext Σ (onto (drop (suc n) es) some) × IsType Σ (onto (drop (suc n) es) some) E
entry_in Σ [] some n E e c = absurd cc
entry_in Σ (F ∷ es) some zero E e c = subst (λ A. IsContext Σ (onto es some) × IsType Σ (onto es some) A) (let q : F ≡ E = cc in q) c
entry_in Σ (F ∷ es) some (suc n) E e c = entry_in Σ es some n E e c.0

pub entry_context : (Σ : Signature) (es some C : List LfType) (n : ℕ) (E : LfType) → slice_get es n ≡ Some E → IsContext Σ (onto es some) → C ≡ onto (drop (suc n) es) some → IsContext Σ C
entry_context Σ es some C n E e c q = subst (IsContext Σ) (sym q) (entry_in Σ es some n E e c).0

pub entry_is_type : (Σ : Signature) (es some C : List LfType) (n : ℕ) (E : LfType) → slice_get es n ≡ Some E → IsContext Σ (onto es some) → C ≡ onto (drop (suc n) es) some → IsType Σ C E
entry_is_type Σ es some C n E e c q = subst (λ G. IsType Σ G E) (sym q) (entry_in Σ es some n E e c).1
