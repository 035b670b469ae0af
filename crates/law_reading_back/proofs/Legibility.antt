-- The sketch of what is typed is legible.
use Rattle.std.proofs.Common.{◌≡◌, ℕ, zero, suc, ◌+◌, ◌-◌, ◌≤◌, List, [], ◌∷◌, ◌++◌, length, drop, Bool, true, false, cond, Option, Some, None, refl, sym, ap, ◌∙◌, subst, arith}
use Rattle.std.specs.Prelude.{nat_le, codes, if◌then◌else◌}
use Rattle.std.specs.List.{slice_get}
use Rattle.std.specs.FinMap as map
use Rattle.std.proofs.lemmas.Bool.Decides.{nat_tests}
use Rattle.lf.specs.Entries.{Entry, Body, declare_family, declare_constant, declare_definition, entry, type_of, kind_of, type_of_body, kind_of_body, quantifiers, kind_quantifiers, body_quantifiers, signature_of}
use Rattle.lf.specs.Syntax.{Head, constant, variable, metavariable, Term, lambda, root, Spine, nil, app, LfType, pi, atom, Kind, kind_pi, star, skeleton}
use Rattle.lf.specs.Substitution.{single}
use Rattle.lf.specs.Typing.{HeadHasType, HasType, SpineType, SpineFitsKind, IsType, IsKind, IsSignature, instantiate_type, instantiate_kind}
use Rattle.lf.specs.Variables.{under, Uses, UsesSpine, UsesType}
use Rattle.lf.proofs.Agreement.{uses_within, uses_type_within}
use Rattle.lf.proofs.Kept.{typed_uses_type, instance_uses}
use Rattle.lf.proofs.Regular.{head_type as head_is_typed}
use Rattle.lf.proofs.Substitution.{instance_is_type, family_kind}
use Rattle.tw_fixity.specs.declared.table.Fix.{Fix}
use Rattle.tw_parse.specs.Outlines.{Table}
use Rattle.tw_print.specs.Arguments.{with_type, arguments, kind_as_type, head_type, family_type, hidden, head_hidden, spine_length}
use Rattle.tw_fixity.specs.Names.{Names as Scope}
use Rattle.tw_print.specs.Names.{Scene, name_in, is_plain, head_word, constant_word, variable_word, fresh_name, lower_base, word_in}
use Rattle.tw_print.specs.Shown.{operator, head_operator, has_operands, operand_count, shown_count, leading_base, nesting_limit}
use Rattle.tw_print.specs.Variables.{occurs_in_type, occurs_in_kind}
use Rattle.tw_signature.specs.Names.{number_of}
use Rattle.law_reading_back.specs.Legible.{IsWhole, AreWhole, count, HasOperands, Suits, SuitsDomain, IsLegible, AreLegible}
use Rattle.law_reading_back.specs.Names.{IsName, HasGoodNames, HasGoodRows, AgreeOn}
use Rattle.law_reading_back.specs.Sketches.{manner_by, manner, type_manner, alone, row, Sketch, Sketches, none, more, applied, quantified_by, sketches, root_sketch, atom_sketch, term_sketch, hand, leading_type_sketch, leading_kind_sketch, defined_sketch}
use Rattle.law_reading_back.specs.Spelling.{IsOpen, IsUnhidden, AreUnhidden}
use Rattle.law_reading_back.proofs.Counting.{full, full_kind, count_sketches, count_arguments}
use Rattle.law_reading_back.proofs.Heads.{kept, substituted_kind, head_at, family_at, constant_number, family_number, entry_of_type, entry_of_kind, undeclared}
use Rattle.law_reading_back.proofs.Occurring.{type_hidden, occurs_as_type}
use Rattle.law_reading_back.proofs.Parts.{typed_uses, IsGood, IsAt, any_term, under_named, head_spine, nothing_hidden, no_variables, head_uses, kind_uses, instance_is_kind, instance_uses_kind, empty_scope}
use Rattle.law_reading_back.proofs.Scopes.{shown, name_of, InScope, bind, pass}

none_is_not_some : {X : Type 0} {x : X} → None ≡ Some x → ⊥
none_is_not_some e = cc

some_inj : {X : Type 0} {x y : X} → Some x ≡ Some y → x ≡ y
some_inj e = cc

-- the names in scope are names, and no operators
pub record Lettered (s : Scene) (ns : Scope) : Type 0 where
  pub names : (i : ℕ) (x : List ℕ) → slice_get ns i ≡ Some (Some x) → IsName x
  pub rows : (i : ℕ) (x : List ℕ) → slice_get ns i ≡ Some (Some x) → map.get s.rows x ≡ None

no_letters : (s : Scene) → Lettered s []
no_letters s = record { names = λ i x e. absurd (none_is_not_some e); rows = λ i x e. absurd (none_is_not_some e) }

lettered_bind : (s : Scene) (ns : Scope) (x : List ℕ) → IsGood s ns x → Lettered s ns → Lettered s (Some x ∷ ns)
lettered_bind s ns x g l = record { names = names; rows = rows }
  where
    names : (i : ℕ) (y : List ℕ) → slice_get (Some x ∷ ns) i ≡ Some (Some y) → IsName y
    names zero y e = subst IsName (some_inj (some_inj e)) g.name
    names (suc i) y e = l.names i y e

    rows : (i : ℕ) (y : List ℕ) → slice_get (Some x ∷ ns) i ≡ Some (Some y) → map.get s.rows y ≡ None
    rows zero y e = let q : x ≡ y = some_inj (some_inj e) in ap (map.get s.rows) (sym q) ∙ g.new.untaken.no_row
    rows (suc i) y e = l.rows i y e

lettered_pass : (s : Scene) (ns : Scope) → Lettered s ns → Lettered s (None ∷ ns)
lettered_pass s ns l = record { names = names; rows = rows }
  where
    names : (i : ℕ) (y : List ℕ) → slice_get (None ∷ ns) i ≡ Some (Some y) → IsName y
    names zero y e = absurd (none_is_not_some (some_inj e))
    names (suc i) y e = l.names i y e

    rows : (i : ℕ) (y : List ℕ) → slice_get (None ∷ ns) i ≡ Some (Some y) → map.get s.rows y ≡ None
    rows zero y e = absurd (none_is_not_some (some_inj e))
    rows (suc i) y e = l.rows i y e

-- the manner of a term that is sketched as a head with so many parts
le_test : (n m : ℕ) → n ≤ m → nat_le n m ≡ true
le_test n m h = grind (arith, nat_tests)

le_zero : (n : ℕ) → nat_le n 0 ≡ true → n ≡ 0
le_zero n e = grind (arith, nat_tests)

no_parts : (xs : Sketches) → count xs ≡ 0 → (h : Head) (w : List ℕ) (fix : Option Fix) → Suits alone (applied h w fix xs)
no_parts none e h w fix = tt
no_parts (more m t ts) e h w fix = cc

row_suits : (h : Head) (w : List ℕ) (fix : Option Fix) (xs : Sketches) → has_operands fix (count xs) ≡ false → HasOperands fix (count xs) → Suits row (applied h w fix xs)
row_suits h w None xs e o = tt
row_suits h w (Some fix) xs e o = let t : true ≡ false = sym (le_test (operand_count fix) (count xs) o) ∙ e in cc

suits_by : (b c : Bool) (h : Head) (w : List ℕ) (fix : Option Fix) (xs : Sketches) → nat_le (count xs) 0 ≡ b → has_operands fix (count xs) ≡ c → HasOperands fix (count xs) → Suits (manner_by b c) (applied h w fix xs)
suits_by true c h w fix xs e g o = no_parts xs (le_zero (count xs) e) h w fix
suits_by false true h w fix xs e g o = tt
suits_by false false h w fix xs e g o = row_suits h w fix xs g o

module _ (s : Scene) (newer es : List Entry) (split : s.entries ≡ newer ++ es) (ok : IsSignature (signature_of es)) (plain : s.implicit ≡ false) (good_names : HasGoodNames s) (good_rows : HasGoodRows s) (table : Table) (agrees : AgreeOn s es table)
    (fresh : (ns : Scope) (A : LfType) → length ns ≤ nesting_limit → IsGood s ns (fresh_name s ns (lower_base s A))) where
  -- a constant's word is its name, and its row that of the name
  record IsConstant (c : ℕ) : Type 0 where
    pub entry_is : Entry
    pub stands : entry s.entries c ≡ Some entry_is
    pub word : constant_word s c ≡ entry_is.name
    pub row_is : map.get s.rows (constant_word s c) ≡ operator s c
    pub number : number_of s.entries entry_is.name ≡ Some c
    pub in_table : map.get table (constant_word s c) ≡ map.get s.rows (constant_word s c)

  constant_is : (c : ℕ) (e : Entry) → entry es c ≡ Some e → is_plain s c ≡ true → (number_of s.entries (constant_word s c) ≡ Some c) × (number_of es (constant_word s c) ≡ Some c) → IsConstant c
  constant_is c e h p n =
      let k : entry s.entries c ≡ Some e = ap (λ xs. entry xs c) split ∙ kept newer es c e h in
      let w : constant_word s c ≡ e.name = plain_word (is_plain s c) p (name_in (entry s.entries c)) ∙ ap name_in k in
      record {
        entry_is = e;
        stands = k;
        word = w;
        row_is = by_flags s.implicit (is_plain s c) plain p (map.get s.rows (constant_word s c)) (map.get s.rows (name_in (entry s.entries c))) (ap (map.get s.rows) (w ∙ sym (ap name_in k)));
        number = ap (number_of s.entries) (sym w) ∙ n.0;
        in_table = agrees (constant_word s c) (n.0 ∙ sym n.1);
      }
    where
      plain_word : (b : Bool) → b ≡ true → (name : List ℕ) → (if b then name else codes "%" ++ name ++ codes "%") ≡ name
      plain_word true q name = refl
      plain_word false q name = cc

      by_flags : (a b : Bool) → a ≡ false → b ≡ true → (x y : Option Fix) → x ≡ y → x ≡ cond a None (cond b y None)
      by_flags false true q r x y e = e
      by_flags false false q r x y e = cc
      by_flags true b q r x y e = cc

  type_quantifiers : (b : Body) (A : LfType) → type_of_body b ≡ Some A → body_quantifiers b ≡ quantifiers A
  type_quantifiers (declare_family K) A e = absurd (none_is_not_some e)
  type_quantifiers (declare_constant B) A e = ap quantifiers (some_inj e)
  type_quantifiers (declare_definition M B b) A e = absurd (none_is_not_some e)

  kind_quantifiers_of : (b : Body) (K : Kind) → kind_of_body b ≡ Some K → body_quantifiers b ≡ kind_quantifiers K
  kind_quantifiers_of (declare_family L) K e = ap kind_quantifiers (some_inj e)
  kind_quantifiers_of (declare_constant B) K e = absurd (none_is_not_some e)
  kind_quantifiers_of (declare_definition M B b) K e = absurd (none_is_not_some e)

  enough : (o : Option Fix) (c k : ℕ) (i : IsConstant c) → map.get s.rows (constant_word s c) ≡ o → body_quantifiers i.entry_is.body ≡ k → HasOperands o k
  enough None c k i e q = tt
  enough (Some fix) c k i e q =
      let h = good_rows i.entry_is.name fix c i.entry_is (ap (map.get s.rows) (sym i.word) ∙ e) i.number i.stands in
      omega (arith, h, q)

  typed_constant : (c : ℕ) (A : LfType) → (signature_of es).types c ≡ Some A → is_plain s c ≡ true → (i : IsConstant c) × (body_quantifiers i.entry_is.body ≡ quantifiers A)
  unfolding constant_is
  typed_constant c A t p =
      let e = entry_of_type es c A t in
      (constant_is c e.0 e.1 p (constant_number s newer es split c A t p), type_quantifiers e.0.body A (sym (ap type_of e.1) ∙ t))

  kinded_family : (a : ℕ) (K : Kind) → (signature_of es).kinds a ≡ Some K → is_plain s a ≡ true → (i : IsConstant a) × (body_quantifiers i.entry_is.body ≡ kind_quantifiers K)
  unfolding constant_is
  kinded_family a K t p =
      let e = entry_of_kind es a K t in
      (constant_is a e.0 e.1 p (family_number s newer es split a K t p), kind_quantifiers_of e.0.body K (sym (ap kind_of e.1) ∙ t))

  -- the word of a head
  record IsWorded (h : Head) (w : List ℕ) (fix : Option Fix) (k : ℕ) : Type 0 where
    pub name : IsName w
    pub row_is : map.get table w ≡ fix
    pub operands : HasOperands fix k

  constant_worded : (c k : ℕ) (i : IsConstant c) → body_quantifiers i.entry_is.body ≡ k → IsWorded (constant c) (constant_word s c) (operator s c) k
  constant_worded c k i q = record {
    name = subst IsName (sym i.word) (good_names c i.entry_is i.stands);
    row_is = i.in_table ∙ i.row_is;
    operands = enough (operator s c) c k i i.row_is q;
  }

  head_worded : (G : List LfType) (ns : Scope) → InScope s (signature_of es) G ns → Lettered s ns → (h : Head) (A : LfType) (S : Spine) → HeadHasType (signature_of es) G h A → Uses (shown ns) (root h S) → IsOpen s h
      → IsWorded h (head_word s ns h) (head_operator s h) (quantifiers A)
  head_worded G ns i l (constant c) A S t u o = let p = typed_constant c A t o.0 in constant_worded c (quantifiers A) p.0 p.1
  head_worded G ns i l (variable j) A S t u o =
      let x = name_of ns j u.0 in
      let w : variable_word ns j ≡ x.0 = ap word_in x.1 in
      record { name = subst IsName (sym w) (l.names j x.0 x.1); row_is = ap (map.get table) w ∙ agrees x.0 (i.free j x.0 x.1 ∙ sym (undeclared s newer es split x.0 (i.free j x.0 x.1))) ∙ l.rows j x.0 x.1; operands = tt }
  head_worded G ns i l (metavariable m) A S t u o = absurd t

  pub record Level (n : ℕ) : Type 0 where
    pub terms : (G : List LfType) (ns : Scope) → InScope s (signature_of es) G ns → Lettered s ns → length ns + n ≤ nesting_limit → (M : Term) (A : LfType) (t : Option LfType) → IsAt M A t
        → IsType (signature_of es) G A → UsesType (shown ns) A → HasType (signature_of es) G M A → Uses (shown ns) M
        → IsUnhidden s ((hand s n).term G ns M t) → IsWhole ((hand s n).term G ns M t) → Suits (manner s M) ((hand s n).term G ns M t) × IsLegible table ((hand s n).term G ns M t)
    pub types : (G : List LfType) (ns : Scope) → InScope s (signature_of es) G ns → Lettered s ns → length ns + n ≤ nesting_limit → (A : LfType)
        → IsType (signature_of es) G A → UsesType (shown ns) A
        → IsUnhidden s ((hand s n).type G ns A) → IsWhole ((hand s n).type G ns A) → SuitsDomain (type_manner A) ((hand s n).type G ns A) × IsLegible table ((hand s n).type G ns A)

  module _ (n : ℕ) (level : Level n) (G : List LfType) (ns : Scope) (i : InScope s (signature_of es) G ns) (l : Lettered s ns) (room : length ns + n ≤ nesting_limit) where
    argument_legible : (M : Term) (A : LfType) → IsType (signature_of es) G A → UsesType (shown ns) A → HasType (signature_of es) G M A → Uses (shown ns) M
        → IsUnhidden s ((hand s n).term G ns (with_type M A).0 (with_type M A).1) → IsWhole ((hand s n).term G ns (with_type M A).0 (with_type M A).1)
        → Suits (manner s (with_type M A).0) ((hand s n).term G ns (with_type M A).0 (with_type M A).1) × IsLegible table ((hand s n).term G ns (with_type M A).0 (with_type M A).1)
    argument_legible (lambda M) A a v m u o w = level.terms G ns i l room (lambda M) A (Some A) refl a v m u o w
    argument_legible (root h S) A a v m u o w = level.terms G ns i l room (root h S) A None tt a v m u o w

    spine_legible : (S : Spine) (A C : LfType) → IsType (signature_of es) G A → UsesType (shown ns) A → SpineType (signature_of es) G S A C → UsesSpine (shown ns) S
        → AreUnhidden s (sketches (hand s n) s G ns (arguments A S)) → AreWhole (sketches (hand s n) s G ns (arguments A S)) → AreLegible table (sketches (hand s n) s G ns (arguments A S))
    spine_legible nil A C a v m u o w = tt
    spine_legible (app M S) (pi A B) C a v (m, k) u o w =
        let here = argument_legible M A a.0 v.0 m u.0 o.0 w.0 in
        (here.0, here.1, spine_legible S (instantiate_type A M B) C (instance_is_type (signature_of es) ok G A M B i.context a.0 a.1 m) (instance_uses (shown ns) A M B u.0 v.1) k u.1 o.1 w.1)
    spine_legible (app M S) (atom b V) C a v m u o w = absurd m

    family_legible : (S : Spine) (K : Kind) → IsKind (signature_of es) G K → UsesType (shown ns) (kind_as_type (length s.entries) K) → SpineFitsKind (signature_of es) G S K → UsesSpine (shown ns) S
        → AreUnhidden s (sketches (hand s n) s G ns (arguments (kind_as_type (length s.entries) K) S)) → AreWhole (sketches (hand s n) s G ns (arguments (kind_as_type (length s.entries) K) S))
        → AreLegible table (sketches (hand s n) s G ns (arguments (kind_as_type (length s.entries) K) S))
    family_legible nil K a v m u o w = tt
    family_legible (app M S) (kind_pi A K) a v (m, k) u o w =
        let e = substituted_kind (length s.entries) (single (skeleton A) M) K in
        let here = argument_legible M A a.0 v.0 m u.0 o.0 w.0 in (
          here.0,
          here.1,
          subst (λ X. AreLegible table (sketches (hand s n) s G ns (arguments X S))) e
              (family_legible S (instantiate_kind A M K) (instance_is_kind s es ok G A M K i.context a m) (instance_uses_kind s es ok (shown ns) A M K u.0 v.1) k u.1
              (subst (λ X. AreUnhidden s (sketches (hand s n) s G ns (arguments X S))) (sym e) o.1)
              (subst (λ X. AreWhole (sketches (hand s n) s G ns (arguments X S))) (sym e) w.1)),
        )
    family_legible (app M S) star a v m u o w = absurd m

    counted : (A : LfType) (S : Spine) → count (sketches (hand s n) s G ns (arguments A S)) ≡ spine_length S
    counted A S = count_sketches (hand s n) s G ns (arguments A S) ∙ count_arguments A S

    root_legible : (h : Head) (S : Spine) (a : ℕ) (T : Spine) → HasType (signature_of es) G (root h S) (atom a T) → Uses (shown ns) (root h S)
        → IsUnhidden s (root_sketch (hand s n) s G ns h S) → IsWhole (root_sketch (hand s n) s G ns h S) → Suits (manner s (root h S)) (root_sketch (hand s n) s G ns h S) × IsLegible table (root_sketch (hand s n) s G ns h S)
    root_legible h S a T (A, t, m) u (o, os) w =
        let xs = drop (head_hidden s h) (arguments (head_type s G h) S) in
        let e : xs ≡ arguments A S = ap (λ k. drop k (arguments (head_type s G h) S)) (nothing_hidden s es ok h o) ∙ ap (λ X. arguments X S) (head_at s newer es split G h A t) in
        let word = head_worded G ns i l h A S t u o in
        let c : count (sketches (hand s n) s G ns xs) ≡ spine_length S = ap (λ ys. count (sketches (hand s n) s G ns ys)) e ∙ counted A S in
        let q : count (sketches (hand s n) s G ns xs) ≡ quantifiers A = c ∙ full (signature_of es) G S A a T m in
        let k : shown_count s h S ≡ count (sketches (hand s n) s G ns xs) = ap (λ z. spine_length S - z) (nothing_hidden s es ok h o) ∙ less (spine_length S) ∙ sym c in
        let operands : HasOperands (head_operator s h) (count (sketches (hand s n) s G ns xs)) = subst (HasOperands (head_operator s h)) (sym q) word.operands in
        let parts = spine_legible S A (atom a T) (head_is_typed (signature_of es) ok G h A i.context t) (head_uses s es ok G ns i h A S t u) m (head_spine s es ok (shown ns) h S u)
        (subst (λ ys. AreUnhidden s (sketches (hand s n) s G ns ys)) e os) (subst (λ ys. AreWhole (sketches (hand s n) s G ns ys)) e w) in (
          suits_by (nat_le (shown_count s h S) 0) (has_operands (head_operator s h) (shown_count s h S)) h (head_word s ns h) (head_operator s h) (sketches (hand s n) s G ns xs)
              (ap (λ z. nat_le z 0) (sym k)) (ap (has_operands (head_operator s h)) (sym k)) operands,
          (word.name, word.row_is, operands, subst (λ ys. AreLegible table (sketches (hand s n) s G ns ys)) (sym e) parts),
        )
      where
        less : (z : ℕ) → z - zero ≡ z
        less z = omega arith

    pub atom_legible : (a : ℕ) (S : Spine) → IsType (signature_of es) G (atom a S) → UsesSpine (shown ns) S
        → IsUnhidden s (atom_sketch (hand s n) s G ns a S) → IsWhole (atom_sketch (hand s n) s G ns a S) → IsLegible table (atom_sketch (hand s n) s G ns a S)
    atom_legible a S (K, t, m) u (o, os) w =
        let xs = drop (hidden s a) (arguments (family_type s a) S) in
        let e : xs ≡ arguments (kind_as_type (length s.entries) K) S =
        ap (λ k. drop k (arguments (family_type s a) S)) (nothing_hidden s es ok (constant a) o) ∙ ap (λ X. arguments X S) (family_at s newer es split a K t) in
        let p = kinded_family a K t o.0 in
        let word = constant_worded a (kind_quantifiers K) p.0 p.1 in
        let q : count (sketches (hand s n) s G ns xs) ≡ kind_quantifiers K = ap (λ ys. count (sketches (hand s n) s G ns ys)) e ∙ counted (kind_as_type (length s.entries) K) S ∙ full_kind (signature_of es) G S K m in
        let parts = family_legible S K (family_kind (signature_of es) ok G a K t) (kind_uses s es ok [] (shown ns) K (no_variables s es ok (shown ns)) (ok.kinds_ok a K t)) m u
        (subst (λ ys. AreUnhidden s (sketches (hand s n) s G ns ys)) e os) (subst (λ ys. AreWhole (sketches (hand s n) s G ns ys)) e w) in
        (word.name, word.row_is, subst (HasOperands (operator s a)) (sym q) word.operands, subst (λ ys. AreLegible table (sketches (hand s n) s G ns ys)) (sym e) parts)

  module _ (n : ℕ) (level : Level n) (G : List LfType) (ns : Scope) (i : InScope s (signature_of es) G ns) (l : Lettered s ns) (room : length ns + suc n ≤ nesting_limit) where
    lambda_legible : (M : Term) (A B : LfType) → IsType (signature_of es) G (pi A B) → UsesType (shown ns) (pi A B) → HasType (signature_of es) G (lambda M) (pi A B) → Uses (shown ns) (lambda M)
        → IsUnhidden s (term_sketch (hand s n) s G ns (lambda M) (Some (pi A B))) → IsWhole (term_sketch (hand s n) s G ns (lambda M) (Some (pi A B))) → IsLegible table (term_sketch (hand s n) s G ns (lambda M) (Some (pi A B)))
    lambda_legible M A B (a, b) (v, w) m u (oa, om) (wa, wm) =
        let x = fresh_name s ns (lower_base s A) in
        let new : IsGood s ns x = fresh ns A (omega (arith, room)) in
        let inner : InScope s (signature_of es) (A ∷ G) (Some x ∷ ns) = bind s (signature_of es) G ns i A a v x new.new.untaken in (
          new.name,
          (level.types G ns i l (omega (arith, room)) A a v oa wa).1,
          (level.terms (A ∷ G) (Some x ∷ ns) inner (lettered_bind s ns x new l) (omega (arith, room)) M B (Some B) (any_term M B)
              b (uses_type_within (under (shown ns)) (shown (Some x ∷ ns)) B (under_named ns x) w) m (uses_within (under (shown ns)) (shown (Some x ∷ ns)) M (under_named ns x) u) om wm).1,
        )

    pi_legible : (A B : LfType) (b : Bool) (x : List ℕ) → occurs_in_type 0 B ≡ b → IsGood s ns x → IsType (signature_of es) G (pi A B) → UsesType (shown ns) (pi A B)
        → (t : Scope → Sketch)
        → ((ms : Scope) → InScope s (signature_of es) (A ∷ G) ms → Lettered s ms → UsesType (shown ms) B → length ms + n ≤ nesting_limit → IsUnhidden s (t ms) → IsWhole (t ms) → IsLegible table (t ms))
        → IsUnhidden s (quantified_by (cond b (Some x) None) (type_manner A) ((hand s n).type G ns A) (t (cond b (Some x) None ∷ ns))) → IsWhole (quantified_by (cond b (Some x) None) (type_manner A) ((hand s n).type G ns A) (t (cond b (Some x) None ∷ ns)))
        → IsLegible table (quantified_by (cond b (Some x) None) (type_manner A) ((hand s n).type G ns A) (t (cond b (Some x) None ∷ ns)))
    pi_legible A B true x f new (a, b) (v, w) t rest (oa, ob) (wa, wb) = (
      new.name,
      (level.types G ns i l (omega (arith, room)) A a v oa wa).1,
      rest (Some x ∷ ns) (bind s (signature_of es) G ns i A a v x new.new.untaken) (lettered_bind s ns x new l) (uses_type_within (under (shown ns)) (shown (Some x ∷ ns)) B (under_named ns x) w) (omega (arith, room)) ob wb,
    )
    pi_legible A B false x f new (a, b) (v, w) t rest (oa, ob) (wa, wb) =
        let d = level.types G ns i l (omega (arith, room)) A a v oa wa in (
          d.0,
          d.1,
          rest (None ∷ ns) (pass s (signature_of es) G ns i A a v) (lettered_pass s ns l) (type_hidden (shown ns) (shown (None ∷ ns)) B (λ j h. h) w f) (omega (arith, room)) ob wb,
        )

    kind_legible : (A : LfType) (K : Kind) (b : Bool) (x : List ℕ) → occurs_in_kind 0 K ≡ b → IsGood s ns x → IsKind (signature_of es) G (kind_pi A K) → UsesType (shown ns) (kind_as_type (length s.entries) (kind_pi A K))
        → (t : Scope → Sketch)
        → ((ms : Scope) → InScope s (signature_of es) (A ∷ G) ms → Lettered s ms → UsesType (shown ms) (kind_as_type (length s.entries) K) → length ms + n ≤ nesting_limit → IsUnhidden s (t ms) → IsWhole (t ms) → IsLegible table (t ms))
        → IsUnhidden s (quantified_by (cond b (Some x) None) (type_manner A) ((hand s n).type G ns A) (t (cond b (Some x) None ∷ ns))) → IsWhole (quantified_by (cond b (Some x) None) (type_manner A) ((hand s n).type G ns A) (t (cond b (Some x) None ∷ ns)))
        → IsLegible table (quantified_by (cond b (Some x) None) (type_manner A) ((hand s n).type G ns A) (t (cond b (Some x) None ∷ ns)))
    kind_legible A K true x f new (a, b) (v, w) t rest (oa, ob) (wa, wb) = (
      new.name,
      (level.types G ns i l (omega (arith, room)) A a v oa wa).1,
      rest (Some x ∷ ns) (bind s (signature_of es) G ns i A a v x new.new.untaken) (lettered_bind s ns x new l) (uses_type_within (under (shown ns)) (shown (Some x ∷ ns)) (kind_as_type (length s.entries) K) (under_named ns x) w) (omega (arith, room)) ob wb,
    )
    kind_legible A K false x f new (a, b) (v, w) t rest (oa, ob) (wa, wb) =
        let d = level.types G ns i l (omega (arith, room)) A a v oa wa in (
          d.0,
          d.1,
          rest (None ∷ ns) (pass s (signature_of es) G ns i A a v) (lettered_pass s ns l) (type_hidden (shown ns) (shown (None ∷ ns)) (kind_as_type (length s.entries) K) (λ j h. h) w (occurs_as_type (length s.entries) 0 K ∙ f)) (omega (arith, room)) ob wb,
        )

    next_term : (M : Term) (A : LfType) (t : Option LfType) → IsAt M A t → IsType (signature_of es) G A → UsesType (shown ns) A → HasType (signature_of es) G M A → Uses (shown ns) M
        → IsUnhidden s ((hand s (suc n)).term G ns M t) → IsWhole ((hand s (suc n)).term G ns M t) → Suits (manner s M) ((hand s (suc n)).term G ns M t) × IsLegible table ((hand s (suc n)).term G ns M t)
    next_term (lambda M) (pi A B) t f a v m u o w = (
      tt,
      subst (λ X. IsLegible table (term_sketch (hand s n) s G ns (lambda M) X)) (sym f)
          (lambda_legible M A B a v m u (subst (λ X. IsUnhidden s (term_sketch (hand s n) s G ns (lambda M) X)) f o) (subst (λ X. IsWhole (term_sketch (hand s n) s G ns (lambda M) X)) f w)),
    )
    next_term (lambda M) (atom b T) t f a v m u o w = absurd m
    next_term (root h S) (pi A B) t f a v m u o w = absurd m
    next_term (root h S) (atom b T) t f a v m u o w = root_legible n level G ns i l (omega (arith, room)) h S b T m u o w

    next_type : (A : LfType) → IsType (signature_of es) G A → UsesType (shown ns) A → IsUnhidden s ((hand s (suc n)).type G ns A) → IsWhole ((hand s (suc n)).type G ns A)
        → SuitsDomain (type_manner A) ((hand s (suc n)).type G ns A) × IsLegible table ((hand s (suc n)).type G ns A)
    next_type (pi A B) a v o w = (
      tt,
      pi_legible A B (occurs_in_type 0 B) (fresh_name s ns (lower_base s A)) refl (fresh ns A (omega (arith, room))) a v (λ ms. (hand s n).type (A ∷ G) ms B)
          (λ ms j k u r p q. (level.types (A ∷ G) ms j k r B a.1 u p q).1) o w,
    )
    next_type (atom b S) a v o w = (tt, atom_legible n level G ns i l (omega (arith, room)) b S a v o w)

  levels : (n : ℕ) → Level n
  levels zero = record {
    terms = λ G ns i l room M A t at a v m u o w. absurd w;
    types = λ G ns i l room A a v o w. absurd w;
  }
  levels (suc n) = record {
    terms = λ G ns i l room M A t at a v m u o w. next_term n (levels n) G ns i l room M A t at a v m u o w;
    types = λ G ns i l room A a v o w. next_type n (levels n) G ns i l room A a v o w;
  }

  module _ (implicit : ℕ) (hints : List (Option (List ℕ))) (new : (ns : Scope) (k : ℕ) (A : LfType) → length ns ≤ nesting_limit → IsGood s ns (fresh_name s ns (leading_base s implicit hints k A))) where
    leading_type_legible : (n k : ℕ) (G : List LfType) (ns : Scope) (A : LfType) → InScope s (signature_of es) G ns → Lettered s ns → length ns + n ≤ nesting_limit → IsType (signature_of es) G A → UsesType (shown ns) A
        → IsUnhidden s (leading_type_sketch s implicit hints n k G ns A) → IsWhole (leading_type_sketch s implicit hints n k G ns A) → IsLegible table (leading_type_sketch s implicit hints n k G ns A)
    leading_type_legible zero k G ns A i l room a v o w = absurd w
    leading_type_legible (suc n) k G ns (pi A B) i l room a v o w =
        pi_legible n (levels n) G ns i l room A B (occurs_in_type 0 B) (fresh_name s ns (leading_base s implicit hints k A)) refl (new ns k A (omega (arith, room))) a v
        (λ ms. leading_type_sketch s implicit hints n (suc k) (A ∷ G) ms B)
        (λ ms j m u r. leading_type_legible n (suc k) (A ∷ G) ms B j m r a.1 u) o w
    leading_type_legible (suc n) k G ns (atom b S) i l room a v o w = atom_legible n (levels n) G ns i l (omega (arith, room)) b S a v o w

    leading_kind_legible : (n k : ℕ) (G : List LfType) (ns : Scope) (K : Kind) → InScope s (signature_of es) G ns → Lettered s ns → length ns + n ≤ nesting_limit → IsKind (signature_of es) G K → UsesType (shown ns) (kind_as_type (length s.entries) K)
        → IsUnhidden s (leading_kind_sketch s implicit hints n k G ns K) → IsWhole (leading_kind_sketch s implicit hints n k G ns K) → IsLegible table (leading_kind_sketch s implicit hints n k G ns K)
    leading_kind_legible zero k G ns K i l room a v o w = absurd w
    leading_kind_legible (suc n) k G ns (kind_pi A K) i l room a v o w =
        kind_legible n (levels n) G ns i l room A K (occurs_in_kind 0 K) (fresh_name s ns (leading_base s implicit hints k A)) refl (new ns k A (omega (arith, room))) a v
        (λ ms. leading_kind_sketch s implicit hints n (suc k) (A ∷ G) ms K)
        (λ ms j m u r. leading_kind_legible n (suc k) (A ∷ G) ms K j m r a.1 u) o w
    leading_kind_legible (suc n) k G ns star i l room a v o w = tt

    pub type_legible : (A : LfType) → IsType (signature_of es) [] A → IsUnhidden s (leading_type_sketch s implicit hints nesting_limit 0 [] [] A) → IsWhole (leading_type_sketch s implicit hints nesting_limit 0 [] [] A)
        → IsLegible table (leading_type_sketch s implicit hints nesting_limit 0 [] [] A)
    type_legible A a o w = leading_type_legible nesting_limit 0 [] [] A (empty_scope s es ok) (no_letters s) (omega arith) a (typed_uses_type (signature_of es) [] (shown []) A (no_variables s es ok (shown [])) a) o w

    pub family_kind_legible : (K : Kind) → IsKind (signature_of es) [] K → IsUnhidden s (leading_kind_sketch s implicit hints nesting_limit 0 [] [] K) → IsWhole (leading_kind_sketch s implicit hints nesting_limit 0 [] [] K)
        → IsLegible table (leading_kind_sketch s implicit hints nesting_limit 0 [] [] K)
    family_kind_legible K k o w = leading_kind_legible nesting_limit 0 [] [] K (empty_scope s es ok) (no_letters s) (omega arith) k (kind_uses s es ok [] (shown []) K (no_variables s es ok (shown [])) k) o w

  pub definition_legible : (M : Term) (A : LfType) → IsType (signature_of es) [] A → HasType (signature_of es) [] M A → IsUnhidden s (defined_sketch s M A) → IsWhole (defined_sketch s M A) → IsLegible table (defined_sketch s M A)
  definition_legible M A a m o w =
      ((levels nesting_limit).terms [] [] (empty_scope s es ok) (no_letters s) (omega arith) M A (Some A) (any_term M A) a (typed_uses_type (signature_of es) [] (shown []) A (no_variables s es ok (shown [])) a) m (typed_uses (signature_of es) [] (shown []) M A (no_variables s es ok (shown [])) m) o w).1
