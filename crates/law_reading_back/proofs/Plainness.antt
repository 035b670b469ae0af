-- A line of bytes without percent signs shows no shadowed name.
use Rattle.std.proofs.Common.{◌≡◌, ℕ, zero, suc, List, [], ◌∷◌, ◌++◌, drop, Bool, true, false, Option, Some, None, refl, subst}
use Rattle.std.specs.Prelude.{codes, if◌then◌else◌}
use Rattle.lf.specs.Entries.{Entry, Body, declare_family, declare_constant, declare_definition, entry}
use Rattle.lf.specs.Syntax.{Head, constant, variable, metavariable, Term, lambda, root, Spine, LfType, pi, atom, Kind, kind_pi, star}
use Rattle.tw_print.specs.Arguments.{Argument, arguments, head_type, family_type, hidden, head_hidden, implicit_in}
use Rattle.tw_fixity.specs.Names.{Names as Scope}
use Rattle.tw_print.specs.Names.{Scene, name_in, is_plain, constant_word, head_word, fresh_name, lower_base}
use Rattle.tw_print.specs.Pieces.{token, space, render}
use Rattle.tw_print.specs.Shown.{quantifier_name, leading_name, nesting_limit}
use Rattle.tw_print.specs.Variables.{occurs_in_type, occurs_in_kind}
use Rattle.law_reading_back.specs.Layout.{as_operand, pieces, parts, line, definition_line}
use Rattle.law_reading_back.specs.Names.{EachIs, IsPlainByte, HasNoImplicit}
use Rattle.law_reading_back.specs.Sketches.{Sketch, Sketches, applied, arrow, quantified, abstracted, kind, too_deep, untyped, none, more, type_manner, quantified_by, sketches, root_sketch, atom_sketch, hand, leading_type_sketch, leading_kind_sketch, classifier_sketch, defined_sketch}
use Rattle.law_reading_back.specs.Spelling.{IsOpen, IsUnhidden, AreUnhidden}
use Rattle.law_reading_back.proofs.Bytes.{AreBytes, AllBytes, bytes_of, both, operand_bytes, laid_bytes, bracketed_bytes}

-- a constant stands with its own word
abbrev IsWordOf : Scene → Head → List ℕ → Type 0
IsWordOf s (constant c) w = w ≡ constant_word s c
IsWordOf s (variable i) w = Unit {0}
IsWordOf s (metavariable m) w = Unit {0}

abbrev mutual
  IsFaithful : Scene → Sketch → Type 0
  IsFaithful s (applied h w fix xs) = IsWordOf s h w × AreFaithful s xs
  IsFaithful s (arrow m t u) = IsFaithful s t × IsFaithful s u
  IsFaithful s (quantified x t u) = IsFaithful s t × IsFaithful s u
  IsFaithful s (abstracted x t u) = IsFaithful s t × IsFaithful s u
  IsFaithful s kind = Unit {0}
  IsFaithful s too_deep = Unit {0}
  IsFaithful s untyped = Unit {0}

  AreFaithful : Scene → Sketches → Type 0
  AreFaithful s none = Unit {0}
  AreFaithful s (more m t ts) = IsFaithful s t × AreFaithful s ts

own_word : (s : Scene) (ns : Scope) (h : Head) → IsWordOf s h (head_word s ns h)
own_word s ns (constant c) = refl
own_word s ns (variable i) = tt
own_word s ns (metavariable m) = tt

record Faithful (s : Scene) (n : ℕ) : Type 0 where
  pub terms : (G : List LfType) (ns : Scope) (M : Term) (t : Option LfType) → IsFaithful s ((hand s n).term G ns M t)
  pub types : (G : List LfType) (ns : Scope) (A : LfType) → IsFaithful s ((hand s n).type G ns A)

module _ (s : Scene) (n : ℕ) (f : Faithful s n) where
  sketches_faithful : (G : List LfType) (ns : Scope) (xs : List Argument) → AreFaithful s (sketches (hand s n) s G ns xs)
  sketches_faithful G ns [] = tt
  sketches_faithful G ns (a ∷ xs) = (f.terms G ns a.0 a.1, sketches_faithful G ns xs)

  root_faithful : (G : List LfType) (ns : Scope) (h : Head) (S : Spine) → IsFaithful s (root_sketch (hand s n) s G ns h S)
  root_faithful G ns h S = (own_word s ns h, sketches_faithful G ns (drop (head_hidden s h) (arguments (head_type s G h) S)))

  atom_faithful : (G : List LfType) (ns : Scope) (a : ℕ) (S : Spine) → IsFaithful s (atom_sketch (hand s n) s G ns a S)
  atom_faithful G ns a S = (refl, sketches_faithful G ns (drop (hidden s a) (arguments (family_type s a) S)))

  quantified_faithful : (x : Option (List ℕ)) (A : LfType) (G : List LfType) (ns : Scope) (u : Sketch) → IsFaithful s u → IsFaithful s (quantified_by x (type_manner A) ((hand s n).type G ns A) u)
  quantified_faithful (Some x) A G ns u k = (f.types G ns A, k)
  quantified_faithful None A G ns u k = (f.types G ns A, k)

  next_terms : (G : List LfType) (ns : Scope) (M : Term) (t : Option LfType) → IsFaithful s ((hand s (suc n)).term G ns M t)
  next_terms G ns (root h S) t = root_faithful G ns h S
  next_terms G ns (lambda M) (Some (pi A B)) = (f.types G ns A, f.terms (A ∷ G) (Some (fresh_name s ns (lower_base s A)) ∷ ns) M (Some B))
  next_terms G ns (lambda M) (Some (atom a T)) = tt
  next_terms G ns (lambda M) None = tt

  next_types : (G : List LfType) (ns : Scope) (A : LfType) → IsFaithful s ((hand s (suc n)).type G ns A)
  next_types G ns (pi A B) =
      let x = quantifier_name s ns (occurs_in_type 0 B) (lower_base s A) in
      quantified_faithful x A G ns ((hand s n).type (A ∷ G) (x ∷ ns) B) (f.types (A ∷ G) (x ∷ ns) B)
  next_types G ns (atom a S) = atom_faithful G ns a S

faithful : (s : Scene) (n : ℕ) → Faithful s n
faithful s zero = record { terms = λ G ns M t. tt; types = λ G ns A. tt }
faithful s (suc n) = record { terms = λ G ns M t. next_terms s n (faithful s n) G ns M t; types = λ G ns A. next_types s n (faithful s n) G ns A }

module _ (s : Scene) (implicit : ℕ) (hints : List (Option (List ℕ))) where
  leading_type_faithful : (n k : ℕ) (G : List LfType) (ns : Scope) (A : LfType) → IsFaithful s (leading_type_sketch s implicit hints n k G ns A)
  leading_type_faithful zero k G ns A = tt
  leading_type_faithful (suc n) k G ns (pi A B) =
      let x = leading_name s implicit hints ns (occurs_in_type 0 B) k A in
      quantified_faithful s n (faithful s n) x A G ns (leading_type_sketch s implicit hints n (suc k) (A ∷ G) (x ∷ ns) B) (leading_type_faithful n (suc k) (A ∷ G) (x ∷ ns) B)
  leading_type_faithful (suc n) k G ns (atom a S) = atom_faithful s n (faithful s n) G ns a S

  leading_kind_faithful : (n k : ℕ) (G : List LfType) (ns : Scope) (K : Kind) → IsFaithful s (leading_kind_sketch s implicit hints n k G ns K)
  leading_kind_faithful zero k G ns K = tt
  leading_kind_faithful (suc n) k G ns (kind_pi A K) =
      let x = leading_name s implicit hints ns (occurs_in_kind 0 K) k A in
      quantified_faithful s n (faithful s n) x A G ns (leading_kind_sketch s implicit hints n (suc k) (A ∷ G) (x ∷ ns) K) (leading_kind_faithful n (suc k) (A ∷ G) (x ∷ ns) K)
  leading_kind_faithful (suc n) k G ns star = tt

  classifier_faithful : (b : Body) → IsFaithful s (classifier_sketch s implicit hints b)
  classifier_faithful (declare_family K) = leading_kind_faithful nesting_limit 0 [] [] K
  classifier_faithful (declare_constant A) = leading_type_faithful nesting_limit 0 [] [] A
  classifier_faithful (declare_definition M A b) = leading_type_faithful nesting_limit 0 [] [] A

-- a word without percent signs is that of a constant that isn't shadowed
word_plain : (b : Bool) (name : List ℕ) → EachIs IsPlainByte (if b then name else codes "%" ++ name ++ codes "%") → b ≡ true
word_plain true name h = refl
word_plain false name h = absurd (h.0.sign refl)

module _ (s : Scene) (explicit : HasNoImplicit s) where
  implicit_zero : (c : ℕ) → implicit_in (entry s.entries c) ≡ zero
  implicit_zero c = by_entry (entry s.entries c) refl
    where
      by_entry : (o : Option Entry) → entry s.entries c ≡ o → implicit_in o ≡ zero
      by_entry None e = refl
      by_entry (Some f) e = explicit c f e

  open_head : (h : Head) (w : List ℕ) → IsWordOf s h w → EachIs IsPlainByte w → IsOpen s h
  open_head (constant c) w e h = (word_plain (is_plain s c) (name_in (entry s.entries c)) (subst (EachIs IsPlainByte) e h), implicit_zero c)
  open_head (variable i) w e h = tt
  open_head (metavariable m) w e h = tt

  mutual
    open_sketch : (t : Sketch) → IsFaithful s t → AreBytes IsPlainByte (pieces t) → IsUnhidden s t
    open_sketch (applied h w fix xs) (e, f) b =
        let r = laid_bytes IsPlainByte w fix (parts xs) b in
        (open_head h w e r.0, open_sketches xs f r.1)
    open_sketch (arrow m t u) (f, g) b =
        let r = both IsPlainByte (as_operand m (pieces t) ++ space ∷ token (codes "->") ∷ space ∷ []) (pieces u) b in
        let q = both IsPlainByte (as_operand m (pieces t)) (space ∷ token (codes "->") ∷ space ∷ []) r.0 in
        (open_sketch t f (operand_bytes IsPlainByte m (pieces t) q.0), open_sketch u g r.1)
    open_sketch (quantified x t u) (f, g) b =
        let r = bracketed_bytes IsPlainByte (codes "{") x (codes "}") (pieces t) (pieces u) b in
        (open_sketch t f r.0, open_sketch u g r.1)
    open_sketch (abstracted x t u) (f, g) b =
        let r = bracketed_bytes IsPlainByte (codes "[") x (codes "]") (pieces t) (pieces u) b in
        (open_sketch t f r.0, open_sketch u g r.1)
    open_sketch kind f b = tt
    open_sketch too_deep f b = tt
    open_sketch untyped f b = tt

    open_sketches : (ts : Sketches) → AreFaithful s ts → AllBytes IsPlainByte (parts ts) → AreUnhidden s ts
    open_sketches none f b = tt
    open_sketches (more m t ts) (f, fs) (b, bs) = (open_sketch t f b, open_sketches ts fs bs)

  pub open_classifier : (implicit : ℕ) (hints : List (Option (List ℕ))) (name : List ℕ) (b : Body) → EachIs IsPlainByte (render (line name (classifier_sketch s implicit hints b)))
      → IsUnhidden s (classifier_sketch s implicit hints b)
  open_classifier implicit hints name b h =
      let t = classifier_sketch s implicit hints b in
      let r = both IsPlainByte (token name ∷ space ∷ token (codes ":") ∷ space ∷ pieces t) (token (codes ".") ∷ []) (bytes_of IsPlainByte (line name t) h) in
      open_sketch t (classifier_faithful s implicit hints b) r.0.1.1

  -- the same of a definition, behind the keyword
  pub open_definition : (implicit : ℕ) (hints : List (Option (List ℕ))) (name : List ℕ) (b : Body) (M : Term) (A : LfType) → EachIs IsPlainByte (render (definition_line false name (classifier_sketch s implicit hints b) (defined_sketch s M A)))
      → IsUnhidden s (classifier_sketch s implicit hints b) × IsUnhidden s (defined_sketch s M A)
  open_definition implicit hints name b M A h =
      let t = classifier_sketch s implicit hints b in
      let u = defined_sketch s M A in
      let r = both IsPlainByte (token name ∷ space ∷ token (codes ":") ∷ space ∷ pieces t) ((space ∷ token (codes "=") ∷ space ∷ pieces u) ++ token (codes ".") ∷ []) (bytes_of IsPlainByte (definition_line false name t u) h) in
      let q = both IsPlainByte (space ∷ token (codes "=") ∷ space ∷ pieces u) (token (codes ".") ∷ []) r.1 in
      (open_sketch t (classifier_faithful s implicit hints b) r.0.1.1, open_sketch u ((faithful s nesting_limit).terms [] [] M (Some A)) q.0.1)
