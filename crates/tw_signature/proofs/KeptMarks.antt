-- What is kept of the marks of constants, as entries are added.
use Rattle.std.proofs.Common.{◌≡◌, ◌++◌, ◌∙◌, ℕ, List, [], ◌∷◌, length, map, Bool, Option, Some, None, option_map, Vec, refl, sym, ap, ap₂}
use Rattle.std.specs.Borrow.{Bor}
use Rattle.std.specs.Global.{Global}
use Rattle.std.specs.List.{slice_get}
use Rattle.std.specs.Slice.{IsGetResult}
use Rattle.std.proofs.lemmas.List.{map-append}
use Rattle.std.proofs.lemmas.Option.{slice_get-map, slice_get_past, slice_get_read}
use Rattle.lf.specs.Entries as lf
use Rattle.lf.specs.Syntax.{LfType}
use Rattle.lf_checks.specs.Parts.{shape}
use Rattle.tw_signature.specs.Kept.{marks_of, MarksAreKept}
use Rattle.tw_signature.specs.View.{body_of, entry_of, entries_of}
use Rattle.tw_signature.specs.declared.entry.Entry.{Entry}
use Rattle.tw_signature.proofs.Numbers.{entry-entries_of}

-- one entry more, with its marks
pub marks_added : (old new : List Entry) (e : Entry) (ms ns : List (Vec Bool Global)) (m : Vec Bool Global) → new ≡ old ++ e ∷ [] → ns ≡ ms ++ m ∷ [] → m.items ≡ marks_of (body_of e.body) → MarksAreKept ms old → MarksAreKept ns new
marks_added old new e ms ns m is more here kept =
    ap (map (λ x. x.items)) more ∙ map-append (λ x. x.items) ms (m ∷ []) ∙ ap₂ (λ xs x. xs ++ x ∷ []) kept here
    ∙ sym (map-append (λ x. marks_of (body_of x.body)) old (e ∷ [])) ∙ sym (ap (map (λ x. marks_of (body_of x.body))) is)

of_type : (b : lf.Body) (A : LfType) → lf.type_of_body b ≡ Some A → marks_of b ≡ shape A
of_type (lf.declare_family K) A e = absurd cc
of_type (lf.declare_constant B) A e = let same : B ≡ A = cc in ap shape same
of_type (lf.declare_definition M B d) A e = absurd cc

of_entry : (o : Option Entry) (A : LfType) → lf.type_of (option_map entry_of o) ≡ Some A → option_map (λ x. marks_of (body_of x.body)) o ≡ Some (shape A)
of_entry None A e = absurd cc
of_entry (Some x) A e = ap Some (of_type (body_of x.body) A e)

-- the marks at the number of a declared constant
pub marks_at : (es : List Entry) (ms : List (Vec Bool Global)) (c : ℕ) (A : LfType) → MarksAreKept ms es → (lf.signature_of (entries_of es)).types c ≡ Some A → option_map (λ x. x.items) (slice_get ms c) ≡ Some (shape A)
marks_at es ms c A kept e =
    sym (slice_get-map (λ x. x.items) ms c) ∙ ap (λ xs. slice_get xs c) kept ∙ slice_get-map (λ x. marks_of (body_of x.body)) es c
    ∙ of_entry (slice_get es c) A (sym (ap lf.type_of (entry-entries_of es c)) ∙ e)

lent : (ms : List (Vec Bool Global)) (c : ℕ) (r : Option (Bor (Vec Bool Global))) → IsGetResult ms c c r → option_map (λ (x : Bor (Vec Bool Global)). x.now.items) r ≡ option_map (λ x. x.items) (slice_get ms c)
lent ms c None h = sym (ap (option_map (λ x. x.items)) (slice_get_past ms c h.3))
lent ms c (Some x) h = sym (ap (option_map (λ y. y.items)) (slice_get_read ms (length ms) c x.now refl h.3.0 h.1))

-- what a look-up by its number lends
pub marks_lent : (es : List Entry) (ms : List (Vec Bool Global)) (c : ℕ) (A : LfType) (r : Option (Bor (Vec Bool Global))) → MarksAreKept ms es → (lf.signature_of (entries_of es)).types c ≡ Some A → IsGetResult ms c c r → option_map (λ (x : Bor (Vec Bool Global)). x.now.items) r ≡ Some (shape A)
marks_lent es ms c A r kept e h = lent ms c r h ∙ marks_at es ms c A kept e

-- which is never nothing
pub marks_there : (es : List Entry) (ms : List (Vec Bool Global)) (c : ℕ) (A : LfType) (r : Option (Bor (Vec Bool Global))) → MarksAreKept ms es → (lf.signature_of (entries_of es)).types c ≡ Some A → IsGetResult ms c c r → r ≡ None → ⊥
marks_there es ms c A r kept e h none = let found = marks_lent es ms c A r kept e h in cc (found, none)
