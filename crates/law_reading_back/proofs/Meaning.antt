-- What a sketch is written as gives what it was sketched from.
use Rattle.std.proofs.Common.{◌≡◌, ℕ, zero, suc, ◌+◌, ◌≤◌, List, [], ◌∷◌, ◌++◌, length, drop, Bool, true, false, cond, Option, Some, None, option_map, refl, sym, ap, ◌∙◌, subst, arith}
use Rattle.lf.specs.Entries.{Entry, entry, signature_of, IsCanonicalSignature}
use Rattle.lf.specs.Syntax.{Head, constant, variable, metavariable, Term, lambda, root, Spine, nil, app, LfType, pi, atom, Kind, kind_pi, star, skeleton}
use Rattle.lf.specs.Substitution.{single}
use Rattle.lf.specs.Typing.{HeadHasType, HasType, SpineType, SpineFitsKind, IsType, IsKind, IsSignature, instantiate_type, instantiate_kind}
use Rattle.lf.specs.Variables.{under, Uses, UsesSpine, UsesType}
use Rattle.lf.proofs.Agreement.{uses_within, uses_type_within}
use Rattle.lf.proofs.Kept.{typed_uses_type, instance_uses}
use Rattle.lf.proofs.Regular.{head_type as head_is_typed}
use Rattle.lf.proofs.Substitution.{instance_is_type, family_kind}
use Rattle.law_explicit_form.specs.Completion.{then, TermGives, SpineGives, FamilyGives, TypeGives, KindGives}
use Rattle.tw_fixity.specs.Names.{Names, variable_of}
use Rattle.tw_names.specs.Scope.{binder_name, head_named, named}
use Rattle.tw_parse.specs.Syntax as syntax
use Rattle.tw_print.specs.Arguments.{implicit_in, with_type, arguments, kind_as_type, head_type, family_type, hidden, head_hidden}
use Rattle.tw_fixity.specs.Names.{Names as Scope}
use Rattle.tw_print.specs.Names.{Scene, head_word, constant_word, variable_word, fresh_name, lower_base, word_in}
use Rattle.tw_print.specs.Shown.{leading_base, nesting_limit}
use Rattle.tw_print.specs.Variables.{occurs_in_type, occurs_in_kind}
use Rattle.tw_signature.specs.Names.{number_of}
use Rattle.law_reading_back.specs.Sketches.{Sketch, type_manner, quantified_by, sketches, root_sketch, atom_sketch, term_sketch, hand, leading_type_sketch, leading_kind_sketch, defined_sketch}
use Rattle.law_reading_back.specs.Spelling.{Spells, SpellsArguments, IsOpen, IsUnhidden, AreUnhidden}
use Rattle.law_reading_back.proofs.Occurring.{type_hidden, occurs_as_type}
use Rattle.law_reading_back.proofs.Scopes.{shown, name_of, InScope, variable_named, bind, pass}
use Rattle.law_reading_back.proofs.Parts.{typed_uses, IsNew, IsAt, any_term, under_named, head_spine, nothing_hidden, no_variables, head_uses, kind_uses, instance_is_kind, instance_uses_kind, empty_scope}
use Rattle.law_reading_back.proofs.Heads.{kept, entry_of_type, entry_of_kind, substituted_kind, head_at, family_at, constant_number, family_number}
use Rattle.law_reading_back.proofs.Openness.{NamesOpen}

some_inj : {X : Type 0} {x y : X} → Some x ≡ Some y → x ≡ y
some_inj e = cc

none_is_not_some : {X : Type 0} {x : X} → None ≡ Some x → ⊥
none_is_not_some e = cc

-- one spine behind another
abbrev followed : Spine → Spine → Spine
followed nil T = T
followed (app M S) T = app M (followed S T)

followed_then : (S T : Spine) (R : Term) → followed (then S R) T ≡ followed S (app R T)
followed_then nil T R = refl
followed_then (app M S) T R = ap (app M) (followed_then S T R)

followed_nil : (S : Spine) → followed S nil ≡ S
followed_nil nil = refl
followed_nil (app M S) = ap (app M) (followed_nil S)

abbrev pub GivesTerm : List Entry → Scope → List LfType → Sketch → LfType → Term → Type 0
GivesTerm es ns G t A M = (P : syntax.Term) → Spells t P → TermGives es ns G P A M × NamesOpen es ns P

abbrev pub GivesType : List Entry → Scope → List LfType → Sketch → LfType → Type 0
GivesType es ns G t A = (P : syntax.Term) → Spells t P → TypeGives es ns G P A × NamesOpen es ns P

abbrev pub GivesKind : List Entry → Scope → List LfType → Sketch → Kind → Type 0
GivesKind es ns G t K = (P : syntax.Term) → Spells t P → KindGives es ns G P K × NamesOpen es ns P

-- the spine of a name with its arguments is a term, and that of a family a type
term_of_spine : (es : List Entry) (ns : Names) (G : List LfType) (P : syntax.Term) (h : Head) (S : Spine) (a : ℕ) (T : Spine) → SpineGives es ns G P h S (atom a T) → TermGives es ns G P (atom a T) (root h S)
term_of_spine es ns G (syntax.identifier x at) h S a T g = g
term_of_spine es ns G (syntax.application M P) h S a T g = g
term_of_spine es ns G _ h S a T g = absurd g

type_of_family : (es : List Entry) (ns : Names) (G : List LfType) (P : syntax.Term) (a : ℕ) (S : Spine) → FamilyGives es ns G P a S star → TypeGives es ns G P (atom a S)
type_of_family es ns G (syntax.identifier x at) a S g = g
type_of_family es ns G (syntax.application M P) a S g = g
type_of_family es ns G _ a S g = absurd g

module _ (s : Scene) (newer es : List Entry) (split : s.entries ≡ newer ++ es) (canonical : IsCanonicalSignature es) (ok : IsSignature (signature_of es))
    (fresh : (ns : Scope) (A : LfType) → length ns ≤ nesting_limit → IsNew s ns (fresh_name s ns (lower_base s A))) where
  -- a name of a variable that isn't a constant's
  no_variable : (G : List LfType) (ns : Scope) → InScope s (signature_of es) G ns → (w : List ℕ) (c : ℕ) → number_of s.entries w ≡ Some c → variable_of ns w ≡ None
  no_variable G ns i w c e = by_case (variable_of ns w) refl
    where
      by_case : (o : Option ℕ) → variable_of ns w ≡ o → o ≡ None
      by_case None q = refl
      by_case (Some j) q = absurd (none_is_not_some (sym (i.free j w (variable_named ns w j q)) ∙ e))

  -- the word of a head names it
  names_constant : (G : List LfType) (ns : Scope) → InScope s (signature_of es) G ns → (c : ℕ) → (number_of s.entries (constant_word s c) ≡ Some c) × (number_of es (constant_word s c) ≡ Some c) → named es ns (constant_word s c) ≡ Some (constant c)
  names_constant G ns i c n = ap (λ o. head_named o (number_of es (constant_word s c))) (no_variable G ns i (constant_word s c) c n.0) ∙ ap (option_map constant) n.1

  names_head : (G : List LfType) (ns : Scope) → InScope s (signature_of es) G ns → (h : Head) (A : LfType) (S : Spine) → HeadHasType (signature_of es) G h A → Uses (shown ns) (root h S) → IsOpen s h → named es ns (head_word s ns h) ≡ Some h
  names_head G ns i (constant c) A S t u o = names_constant G ns i c (constant_number s newer es split c A t o.0)
  names_head G ns i (variable j) A S t u o =
      let x = name_of ns j u.0 in
      let w : variable_word ns j ≡ x.0 = ap word_in x.1 in
      ap (λ y. head_named (variable_of ns y) (number_of es y)) w ∙ ap (λ v. head_named v (number_of es x.0)) (i.named j x.0 x.1)
  names_head G ns i (metavariable m) A S t u o = absurd t

  -- a name of an open constant names nothing else
  constant_open : (c : ℕ) (e : Entry) → entry es c ≡ Some e → implicit_in (entry s.entries c) ≡ zero → implicit_in (entry es c) ≡ zero
  constant_open c e h o = ap implicit_in (h ∙ sym (kept newer es c e h) ∙ ap (λ xs. entry xs c) (sym split)) ∙ o

  name_open : (G : List LfType) (ns : Scope) (h : Head) (A : LfType) (x : List ℕ) → HeadHasType (signature_of es) G h A → named es ns x ≡ Some h → IsOpen s h → (c : ℕ) → named es ns x ≡ Some (constant c) → implicit_in (entry es c) ≡ zero
  name_open G ns (constant d) A x t n o c q =
      let same : d ≡ c = let e : Some (constant d) ≡ Some (constant c) = sym n ∙ q in cc in
      let e = entry_of_type es d A t in subst (λ k. implicit_in (entry es k) ≡ zero) same (constant_open d e.0 e.1 o.1)
  name_open G ns (variable j) A x t n o c q = let e : Some (variable j) ≡ Some (constant c) = sym n ∙ q in cc
  name_open G ns (metavariable m) A x t n o c q = absurd t

  family_open : (ns : Scope) (a : ℕ) (K : Kind) (x : List ℕ) → (signature_of es).kinds a ≡ Some K → named es ns x ≡ Some (constant a) → IsOpen s (constant a) → (c : ℕ) → named es ns x ≡ Some (constant c) → implicit_in (entry es c) ≡ zero
  family_open ns a K x t n o c q =
      let same : a ≡ c = let e : Some (constant a) ≡ Some (constant c) = sym n ∙ q in cc in
      let e = entry_of_kind es a K t in subst (λ k. implicit_in (entry es k) ≡ zero) same (constant_open a e.0 e.1 o.1)

  -- the sketches of this many levels are written as what they were sketched from
  pub record Level (n : ℕ) : Type 0 where
    pub terms : (G : List LfType) (ns : Scope) → InScope s (signature_of es) G ns → length ns + n ≤ nesting_limit → (M : Term) (A : LfType) (t : Option LfType) → IsAt M A t
        → IsType (signature_of es) G A → UsesType (shown ns) A → HasType (signature_of es) G M A → Uses (shown ns) M
        → IsUnhidden s ((hand s n).term G ns M t) → GivesTerm es ns G ((hand s n).term G ns M t) A M
    pub types : (G : List LfType) (ns : Scope) → InScope s (signature_of es) G ns → length ns + n ≤ nesting_limit → (A : LfType)
        → IsType (signature_of es) G A → UsesType (shown ns) A
        → IsUnhidden s ((hand s n).type G ns A) → GivesType es ns G ((hand s n).type G ns A) A

  module _ (n : ℕ) (level : Level n) (G : List LfType) (ns : Scope) (i : InScope s (signature_of es) G ns) (room : length ns + n ≤ nesting_limit) where
    argument_gives : (M : Term) (A : LfType) → IsType (signature_of es) G A → UsesType (shown ns) A → HasType (signature_of es) G M A → Uses (shown ns) M
        → IsUnhidden s ((hand s n).term G ns (with_type M A).0 (with_type M A).1) → GivesTerm es ns G ((hand s n).term G ns (with_type M A).0 (with_type M A).1) A M
    argument_gives (lambda M) A a v m u o = level.terms G ns i room (lambda M) A (Some A) refl a v m u o
    argument_gives (root h S) A a v m u o = level.terms G ns i room (root h S) A None tt a v m u o

    spine_gives : (S T : Spine) (Q P : syntax.Term) (h : Head) (A C : LfType) → SpineGives es ns G Q h T A → NamesOpen es ns Q → IsType (signature_of es) G A → UsesType (shown ns) A → SpineType (signature_of es) G S A C → UsesSpine (shown ns) S
        → AreUnhidden s (sketches (hand s n) s G ns (arguments A S)) → SpellsArguments Q (sketches (hand s n) s G ns (arguments A S)) P → SpineGives es ns G P h (followed T S) C × NamesOpen es ns P
    spine_gives nil T Q P h A C g open_so a v m u o w = (
      subst (λ X. SpineGives es ns G X h (followed T nil) C) (sym w)
          (subst (λ X. SpineGives es ns G Q h X C) (sym (followed_nil T)) (subst (SpineGives es ns G Q h T) m g)),
      subst (NamesOpen es ns) (sym w) open_so,
    )
    spine_gives (app M S) T Q P h (pi A B) C g open_so a v (m, k) u o (N, w, r) =
        let given = argument_gives M A a.0 v.0 m u.0 o.0 N w in
        let behind =
        spine_gives S (then T M) (syntax.application Q N) P h (instantiate_type A M B) C
        (A, B, T, M, g, given.0, refl, refl) (open_so, given.1)
        (instance_is_type (signature_of es) ok G A M B i.context a.0 a.1 m)
        (instance_uses (shown ns) A M B u.0 v.1) k u.1 o.1 r in
        (subst (λ X. SpineGives es ns G P h X C) (followed_then T S M) behind.0, behind.1)
    spine_gives (app M S) T Q P h (atom b V) C g open_so a v m u o w = absurd m

    family_gives : (S T : Spine) (Q P : syntax.Term) (b : ℕ) (K : Kind) → FamilyGives es ns G Q b T K → NamesOpen es ns Q → IsKind (signature_of es) G K → UsesType (shown ns) (kind_as_type (length s.entries) K) → SpineFitsKind (signature_of es) G S K → UsesSpine (shown ns) S
        → AreUnhidden s (sketches (hand s n) s G ns (arguments (kind_as_type (length s.entries) K) S)) → SpellsArguments Q (sketches (hand s n) s G ns (arguments (kind_as_type (length s.entries) K) S)) P → FamilyGives es ns G P b (followed T S) star × NamesOpen es ns P
    family_gives nil T Q P b (kind_pi A K) g open_so a v m u o w = absurd m
    family_gives nil T Q P b star g open_so a v m u o w = (
      subst (λ X. FamilyGives es ns G X b (followed T nil) star) (sym w)
          (subst (λ X. FamilyGives es ns G Q b X star) (sym (followed_nil T)) g),
      subst (NamesOpen es ns) (sym w) open_so,
    )
    family_gives (app M S) T Q P b (kind_pi A K) g open_so a v (m, k) u o (N, w, r) =
        let e = substituted_kind (length s.entries) (single (skeleton A) M) K in
        let given = argument_gives M A a.0 v.0 m u.0 o.0 N w in
        let behind =
        family_gives S (then T M) (syntax.application Q N) P b (instantiate_kind A M K)
        (A, K, T, M, g, given.0, refl, refl) (open_so, given.1)
        (instance_is_kind s es ok G A M K i.context a m)
        (instance_uses_kind s es ok (shown ns) A M K u.0 v.1) k u.1
        (subst (λ X. AreUnhidden s (sketches (hand s n) s G ns (arguments X S))) (sym e) o.1)
        (subst (λ X. SpellsArguments (syntax.application Q N) (sketches (hand s n) s G ns (arguments X S)) P) (sym e) r) in
        (subst (λ X. FamilyGives es ns G P b X star) (followed_then T S M) behind.0, behind.1)
    family_gives (app M S) T Q P b star g open_so a v m u o w = absurd m

    root_gives : (h : Head) (S : Spine) (a : ℕ) (T : Spine) → HasType (signature_of es) G (root h S) (atom a T) → Uses (shown ns) (root h S)
        → IsUnhidden s (root_sketch (hand s n) s G ns h S) → GivesTerm es ns G (root_sketch (hand s n) s G ns h S) (atom a T) (root h S)
    root_gives h S a T (A, t, m) u (o, os) P (at, w) =
        let e : drop (head_hidden s h) (arguments (head_type s G h) S) ≡ arguments A S =
        ap (λ k. drop k (arguments (head_type s G h) S)) (nothing_hidden s es ok h o) ∙ ap (λ X. arguments X S) (head_at s newer es split G h A t) in
        let named_so = names_head G ns i h A S t u o in
        let given =
        spine_gives S nil (syntax.identifier (head_word s ns h) at) P h A (atom a T)
        (named_so, t, refl) (name_open G ns h A (head_word s ns h) t named_so o)
        (head_is_typed (signature_of es) ok G h A i.context t)
        (head_uses s es ok G ns i h A S t u) m (head_spine s es ok (shown ns) h S u)
        (subst (λ xs. AreUnhidden s (sketches (hand s n) s G ns xs)) e os)
        (subst (λ xs. SpellsArguments (syntax.identifier (head_word s ns h) at) (sketches (hand s n) s G ns xs) P) e w) in
        (term_of_spine es ns G P h S a T given.0, given.1)

    pub atom_gives : (a : ℕ) (S : Spine) → IsType (signature_of es) G (atom a S) → UsesSpine (shown ns) S
        → IsUnhidden s (atom_sketch (hand s n) s G ns a S) → GivesType es ns G (atom_sketch (hand s n) s G ns a S) (atom a S)
    atom_gives a S (K, t, m) u (o, os) P (at, w) =
        let e : drop (hidden s a) (arguments (family_type s a) S) ≡ arguments (kind_as_type (length s.entries) K) S =
        ap (λ k. drop k (arguments (family_type s a) S)) (nothing_hidden s es ok (constant a) o) ∙ ap (λ X. arguments X S) (family_at s newer es split a K t) in
        let named_so = names_constant G ns i a (family_number s newer es split a K t o.0) in
        let given =
        family_gives S nil (syntax.identifier (constant_word s a) at) P a K
        (named_so, t, refl) (family_open ns a K (constant_word s a) t named_so o)
        (family_kind (signature_of es) ok G a K t)
        (kind_uses s es ok [] (shown ns) K (no_variables s es ok (shown ns)) (ok.kinds_ok a K t)) m u
        (subst (λ xs. AreUnhidden s (sketches (hand s n) s G ns xs)) e os)
        (subst (λ xs. SpellsArguments (syntax.identifier (constant_word s a) at) (sketches (hand s n) s G ns xs) P) e w) in
        (type_of_family es ns G P a S given.0, given.1)

  renamed_under : (ns : Scope) (G : List LfType) (A B : LfType) (x : List ℕ) (P : syntax.Term) → binder_name x ≡ Some x → TypeGives es (Some x ∷ ns) (A ∷ G) P B × NamesOpen es (Some x ∷ ns) P
      → TypeGives es (binder_name x ∷ ns) (A ∷ G) P B × NamesOpen es (binder_name x ∷ ns) P
  renamed_under ns G A B x P e g = subst (λ o. TypeGives es (o ∷ ns) (A ∷ G) P B × NamesOpen es (o ∷ ns) P) (sym e) g

  module _ (n : ℕ) (level : Level n) (G : List LfType) (ns : Scope) (i : InScope s (signature_of es) G ns) (room : length ns + suc n ≤ nesting_limit) where
    lambda_gives : (M : Term) (A B : LfType) → IsType (signature_of es) G (pi A B) → UsesType (shown ns) (pi A B) → HasType (signature_of es) G (lambda M) (pi A B) → Uses (shown ns) (lambda M)
        → IsUnhidden s (term_sketch (hand s n) s G ns (lambda M) (Some (pi A B))) → GivesTerm es ns G (term_sketch (hand s n) s G ns (lambda M) (Some (pi A B))) (pi A B) (lambda M)
    lambda_gives M A B (a, b) (v, w) m u (oa, om) P (at, U, V, p, q, e) =
        let x = fresh_name s ns (lower_base s A) in
        let new : IsNew s ns x = fresh ns A (omega (arith, room)) in
        let inner : InScope s (signature_of es) (A ∷ G) (Some x ∷ ns) = bind s (signature_of es) G ns i A a v x new.untaken in
        let domain = level.types G ns i (omega (arith, room)) A a v oa U p in
        let body : TermGives es (Some x ∷ ns) (A ∷ G) V B M × NamesOpen es (Some x ∷ ns) V =
        level.terms (A ∷ G) (Some x ∷ ns) inner (omega (arith, room)) M B (Some B) (any_term M B)
        b (uses_type_within (under (shown ns)) (shown (Some x ∷ ns)) B (under_named ns x) w) m (uses_within (under (shown ns)) (shown (Some x ∷ ns)) M (under_named ns x) u) om V q in
        subst (λ X. TermGives es ns G X (pi A B) (lambda M) × NamesOpen es ns X) (sym e) (
          (domain.0, subst (λ o. TermGives es (o ∷ ns) (A ∷ G) V B M) (sym new.binds) body.0),
          (domain.1, subst (λ o. NamesOpen es (o ∷ ns) V) (sym new.binds) body.1),
        )

    pi_gives : (A B : LfType) (b : Bool) (x : List ℕ) → occurs_in_type 0 B ≡ b → IsNew s ns x → IsType (signature_of es) G (pi A B) → UsesType (shown ns) (pi A B)
        → (t : Scope → Sketch)
        → ((ms : Scope) → InScope s (signature_of es) (A ∷ G) ms → UsesType (shown ms) B → length ms + n ≤ nesting_limit → IsUnhidden s (t ms) → GivesType es ms (A ∷ G) (t ms) B)
        → IsUnhidden s (quantified_by (cond b (Some x) None) (type_manner A) ((hand s n).type G ns A) (t (cond b (Some x) None ∷ ns))) → GivesType es ns G (quantified_by (cond b (Some x) None) (type_manner A) ((hand s n).type G ns A) (t (cond b (Some x) None ∷ ns))) (pi A B)
    pi_gives A B true x f new (a, b) (v, w) t rest (oa, ob) P (at, U, V, p, q, e) =
        let inner : InScope s (signature_of es) (A ∷ G) (Some x ∷ ns) = bind s (signature_of es) G ns i A a v x new.untaken in
        let domain = level.types G ns i (omega (arith, room)) A a v oa U p in
        let range = renamed_under ns G A B x V new.binds (rest (Some x ∷ ns) inner (uses_type_within (under (shown ns)) (shown (Some x ∷ ns)) B (under_named ns x) w) (omega (arith, room)) ob V q) in
        subst (λ X. TypeGives es ns G X (pi A B) × NamesOpen es ns X) (sym e) ((domain.0, range.0), (domain.1, range.1))
    pi_gives A B false x f new (a, b) (v, w) t rest (oa, ob) P (U, V, p, q, e) =
        let inner : InScope s (signature_of es) (A ∷ G) (None ∷ ns) = pass s (signature_of es) G ns i A a v in
        let domain = level.types G ns i (omega (arith, room)) A a v oa U p in
        let range = rest (None ∷ ns) inner (type_hidden (shown ns) (shown (None ∷ ns)) B (λ j h. h) w f) (omega (arith, room)) ob V q in
        subst (λ X. TypeGives es ns G X (pi A B) × NamesOpen es ns X) (sym e) ((domain.0, range.0), (domain.1, range.1))

    kind_gives : (A : LfType) (K : Kind) (b : Bool) (x : List ℕ) → occurs_in_kind 0 K ≡ b → IsNew s ns x → IsKind (signature_of es) G (kind_pi A K) → UsesType (shown ns) (kind_as_type (length s.entries) (kind_pi A K))
        → (t : Scope → Sketch)
        → ((ms : Scope) → InScope s (signature_of es) (A ∷ G) ms → UsesType (shown ms) (kind_as_type (length s.entries) K) → length ms + n ≤ nesting_limit → IsUnhidden s (t ms) → GivesKind es ms (A ∷ G) (t ms) K)
        → IsUnhidden s (quantified_by (cond b (Some x) None) (type_manner A) ((hand s n).type G ns A) (t (cond b (Some x) None ∷ ns))) → GivesKind es ns G (quantified_by (cond b (Some x) None) (type_manner A) ((hand s n).type G ns A) (t (cond b (Some x) None ∷ ns))) (kind_pi A K)
    kind_gives A K true x f new (a, k) (v, w) t rest (oa, ob) P (at, U, V, p, q, e) =
        let inner : InScope s (signature_of es) (A ∷ G) (Some x ∷ ns) = bind s (signature_of es) G ns i A a v x new.untaken in
        let domain = level.types G ns i (omega (arith, room)) A a v oa U p in
        let range =
        subst (λ o. KindGives es (o ∷ ns) (A ∷ G) V K × NamesOpen es (o ∷ ns) V) (sym new.binds)
        (rest (Some x ∷ ns) inner (uses_type_within (under (shown ns)) (shown (Some x ∷ ns)) (kind_as_type (length s.entries) K) (under_named ns x) w) (omega (arith, room)) ob V q) in
        subst (λ X. KindGives es ns G X (kind_pi A K) × NamesOpen es ns X) (sym e) ((domain.0, range.0), (domain.1, range.1))
    kind_gives A K false x f new (a, k) (v, w) t rest (oa, ob) P (U, V, p, q, e) =
        let inner : InScope s (signature_of es) (A ∷ G) (None ∷ ns) = pass s (signature_of es) G ns i A a v in
        let domain = level.types G ns i (omega (arith, room)) A a v oa U p in
        let range = rest (None ∷ ns) inner (type_hidden (shown ns) (shown (None ∷ ns)) (kind_as_type (length s.entries) K) (λ j h. h) w (occurs_as_type (length s.entries) 0 K ∙ f)) (omega (arith, room)) ob V q in
        subst (λ X. KindGives es ns G X (kind_pi A K) × NamesOpen es ns X) (sym e) ((domain.0, range.0), (domain.1, range.1))

    next_term : (M : Term) (A : LfType) (t : Option LfType) → IsAt M A t → IsType (signature_of es) G A → UsesType (shown ns) A → HasType (signature_of es) G M A → Uses (shown ns) M
        → IsUnhidden s ((hand s (suc n)).term G ns M t) → GivesTerm es ns G ((hand s (suc n)).term G ns M t) A M
    next_term (lambda M) (pi A B) t f a v m u o P w =
        lambda_gives M A B a v m u (subst (λ X. IsUnhidden s (term_sketch (hand s n) s G ns (lambda M) X)) f o) P (subst (λ X. Spells (term_sketch (hand s n) s G ns (lambda M) X) P) f w)
    next_term (lambda M) (atom b T) t f a v m u o P w = absurd m
    next_term (root h S) (pi A B) t f a v m u o P w = absurd m
    next_term (root h S) (atom b T) t f a v m u o P w = root_gives n level G ns i (omega (arith, room)) h S b T m u o P w

    next_type : (A : LfType) → IsType (signature_of es) G A → UsesType (shown ns) A → IsUnhidden s ((hand s (suc n)).type G ns A) → GivesType es ns G ((hand s (suc n)).type G ns A) A
    next_type (pi A B) a v o P w =
        pi_gives A B (occurs_in_type 0 B) (fresh_name s ns (lower_base s A)) refl (fresh ns A (omega (arith, room))) a v (λ ms. (hand s n).type (A ∷ G) ms B)
        (λ ms j u r. level.types (A ∷ G) ms j r B a.1 u) o P w
    next_type (atom b S) a v o P w = atom_gives n level G ns i (omega (arith, room)) b S a v o P w

  levels : (n : ℕ) → Level n
  levels zero = record {
    terms = λ G ns i room M A t at a v m u o P w. absurd w;
    types = λ G ns i room A a v o P w. absurd w;
  }
  levels (suc n) = record {
    terms = λ G ns i room M A t at a v m u o P w. next_term n (levels n) G ns i room M A t at a v m u o P w;
    types = λ G ns i room A a v o P w. next_type n (levels n) G ns i room A a v o P w;
  }

  -- the leading quantifiers of a declaration, whose names have bases of their own
  module _ (implicit : ℕ) (hints : List (Option (List ℕ))) (new : (ns : Scope) (k : ℕ) (A : LfType) → length ns ≤ nesting_limit → IsNew s ns (fresh_name s ns (leading_base s implicit hints k A))) where
    leading_type_gives : (n k : ℕ) (G : List LfType) (ns : Scope) (A : LfType) → InScope s (signature_of es) G ns → length ns + n ≤ nesting_limit → IsType (signature_of es) G A → UsesType (shown ns) A
        → IsUnhidden s (leading_type_sketch s implicit hints n k G ns A) → GivesType es ns G (leading_type_sketch s implicit hints n k G ns A) A
    leading_type_gives zero k G ns A i room a v o P w = absurd w
    leading_type_gives (suc n) k G ns (pi A B) i room a v o P w =
        pi_gives n (levels n) G ns i room A B (occurs_in_type 0 B) (fresh_name s ns (leading_base s implicit hints k A)) refl (new ns k A (omega (arith, room))) a v
        (λ ms. leading_type_sketch s implicit hints n (suc k) (A ∷ G) ms B)
        (λ ms j u r. leading_type_gives n (suc k) (A ∷ G) ms B j r a.1 u) o P w
    leading_type_gives (suc n) k G ns (atom b S) i room a v o P w = atom_gives n (levels n) G ns i (omega (arith, room)) b S a v o P w

    leading_kind_gives : (n k : ℕ) (G : List LfType) (ns : Scope) (K : Kind) → InScope s (signature_of es) G ns → length ns + n ≤ nesting_limit → IsKind (signature_of es) G K → UsesType (shown ns) (kind_as_type (length s.entries) K)
        → IsUnhidden s (leading_kind_sketch s implicit hints n k G ns K) → GivesKind es ns G (leading_kind_sketch s implicit hints n k G ns K) K
    leading_kind_gives zero k G ns K i room a v o P w = absurd w
    leading_kind_gives (suc n) k G ns (kind_pi A K) i room a v o P w =
        kind_gives n (levels n) G ns i room A K (occurs_in_kind 0 K) (fresh_name s ns (leading_base s implicit hints k A)) refl (new ns k A (omega (arith, room))) a v
        (λ ms. leading_kind_sketch s implicit hints n (suc k) (A ∷ G) ms K)
        (λ ms j u r. leading_kind_gives n (suc k) (A ∷ G) ms K j r a.1 u) o P w
    leading_kind_gives (suc n) k G ns star i room a v o P w = subst (λ X. KindGives es ns G X star × NamesOpen es ns X) (sym w) (tt, tt)

    pub leading_type_kept : (A : LfType) → IsType (signature_of es) [] A → IsUnhidden s (leading_type_sketch s implicit hints nesting_limit 0 [] [] A) → GivesType es [] [] (leading_type_sketch s implicit hints nesting_limit 0 [] [] A) A
    leading_type_kept A a u = leading_type_gives nesting_limit 0 [] [] A (empty_scope s es ok) (omega arith) a (typed_uses_type (signature_of es) [] (shown []) A (no_variables s es ok (shown [])) a) u

    pub leading_kind_kept : (K : Kind) → IsKind (signature_of es) [] K → IsUnhidden s (leading_kind_sketch s implicit hints nesting_limit 0 [] [] K) → GivesKind es [] [] (leading_kind_sketch s implicit hints nesting_limit 0 [] [] K) K
    leading_kind_kept K k u = leading_kind_gives nesting_limit 0 [] [] K (empty_scope s es ok) (omega arith) k (kind_uses s es ok [] (shown []) K (no_variables s es ok (shown [])) k) u

  pub defined_kept : (M : Term) (A : LfType) → IsType (signature_of es) [] A → HasType (signature_of es) [] M A → IsUnhidden s (defined_sketch s M A) → GivesTerm es [] [] (defined_sketch s M A) A M
  defined_kept M A a m u = (levels nesting_limit).terms [] [] (empty_scope s es ok) (omega arith) M A (Some A) (any_term M A) a (typed_uses_type (signature_of es) [] (shown []) A (no_variables s es ok (shown [])) a) m (typed_uses (signature_of es) [] (shown []) M A (no_variables s es ok (shown [])) m) u
