-- An entry is typed over the whole signature, and over one entry more.
use Rattle.std.proofs.Common.{◌≡◌, ℕ, ◌<◌, List, [], ◌∷◌, length, Bool, true, false, cond, Option, Some, None, Bor, refl, sym, ap, ◌∙◌, subst, arith}
use Rattle.std.specs.Option.{option_map}
use Rattle.lf.specs.Syntax.{LfType, Kind}
use Rattle.lf.specs.Entries.{Entry, Body, declare_family, declare_constant, declare_definition, entry, type_of, kind_of, signature_of, BodyIsTyped, IsCanonicalEntry, IsCanonicalSignature}
use Rattle.lf.specs.Variables.{same_number}
use Rattle.lf.proofs.Checker.{number_is, number_itself}
use Rattle.lf.proofs.Growth.{growth_keeps_typing, growth_keeps_types, growth_keeps_kinds}
use Rattle.tw_signature.specs.View.{entry_of}
use Rattle.tw_signature.specs.declared.entry.Entry.{Entry as RustEntry}
use Rattle.tw_print.specs.Names.{Scene}
use Rattle.tw_print.specs.SceneView.{with_newest}
use Rattle.tw_print.specs.Shown.{declaration_line, scene_after, is_nameless}
use Rattle.std.specs.FinMap as map
use Rattle.tw_print.proofs.Typed.{past}

none_is_not_some : {X : Type 0} {x : X} → None ≡ Some x → ⊥
none_is_not_some e = cc

some_inj : {X : Type 0} {x y : X} → Some x ≡ Some y → x ≡ y
some_inj e = cc

-- a look-up stays
kept : {X : Type 0} (F : Option Entry → Option X) (f : Entry) (es : List Entry) (c : ℕ) (x : X) → F None ≡ None → F (entry es c) ≡ Some x → F (entry (f ∷ es) c) ≡ Some x
kept F f es c x n h = under (same_number c (length es)) refl (λ q. past es c (let i = number_is c (length es) q in omega (arith, i)))
  where
    under : (b : Bool) → same_number c (length es) ≡ b → (same_number c (length es) ≡ true → entry es c ≡ None) → F (cond b (Some f) (entry es c)) ≡ Some x
    under true q g = absurd (none_is_not_some (sym n ∙ sym (ap F (g q)) ∙ h))
    under false q g = h

types_kept : (f : Entry) (es : List Entry) (c : ℕ) (A : LfType) → (signature_of es).types c ≡ Some A → (signature_of (f ∷ es)).types c ≡ Some A
types_kept f es c A h = kept type_of f es c A refl h

kinds_kept : (f : Entry) (es : List Entry) (a : ℕ) (K : Kind) → (signature_of es).kinds a ≡ Some K → (signature_of (f ∷ es)).kinds a ≡ Some K
kinds_kept f es a K h = kept kind_of f es a K refl h

one_more : (f : Entry) (es : List Entry) (b : Body) → BodyIsTyped (signature_of es) b → BodyIsTyped (signature_of (f ∷ es)) b
one_more f es (declare_family K) t = growth_keeps_kinds (signature_of es) (signature_of (f ∷ es)) (types_kept f es) (kinds_kept f es) [] K t
one_more f es (declare_constant A) t = growth_keeps_types (signature_of es) (signature_of (f ∷ es)) (types_kept f es) (kinds_kept f es) [] A t
one_more f es (declare_definition M A b) (t, m) = (
  growth_keeps_types (signature_of es) (signature_of (f ∷ es)) (types_kept f es) (kinds_kept f es) [] A t,
  growth_keeps_typing (signature_of es) (signature_of (f ∷ es)) (types_kept f es) (kinds_kept f es) [] M A m,
)

pub entry_typed : (es : List Entry) (c : ℕ) (e : Entry) → IsCanonicalSignature es → entry es c ≡ Some e → BodyIsTyped (signature_of es) e.body
entry_typed [] c e o h = absurd (none_is_not_some h)
entry_typed (f ∷ es) c e (o, k) h = one_more f es e.body (under (same_number c (length es)) h (λ g. entry_typed es c e o g))
  where
    under : (b : Bool) → cond b (Some f) (entry es c) ≡ Some e → (entry es c ≡ Some e → BodyIsTyped (signature_of es) e.body) → BodyIsTyped (signature_of es) e.body
    under true q g = subst (λ x. BodyIsTyped (signature_of es) x.body) (some_inj q) k.typed
    under false q g = g q

-- what a call finds
pub found : (o : Option (Bor RustEntry)) (x : Bor RustEntry) (y : Option Entry) → o ≡ Some x → option_map (λ e. entry_of e.now) o ≡ y → y ≡ Some (entry_of x.now)
found o x y e h = sym h ∙ ap (option_map (λ e. entry_of e.now)) e

-- with the entry that is about to be added
pub newest_canonical : (s : Scene) (o : Option (Bor RustEntry)) (x : Bor RustEntry) → o ≡ Some x → IsCanonicalSignature s.entries → IsCanonicalEntry (signature_of s.entries) (entry_of x.now) → IsCanonicalSignature (with_newest s o).entries
newest_canonical s o x e c k = subst (λ p. IsCanonicalSignature (with_newest s p).entries) (sym e) (c, k)

-- a line over the scene after the entry is added
pub line_nameless : (s : Scene) (e : Entry) (x : List ℕ) → is_nameless e ≡ true → x ≡ declaration_line s e → x ≡ declaration_line (scene_after s e) e
line_nameless s e x y h = subst (λ b. x ≡ declaration_line (cond b s (record { entries = e ∷ s.entries; rows = map.remove s.rows e.name; names = s.names; implicit = s.implicit })) e) (sym y) h

pub line_named : (s : Scene) (e : Entry) (x : List ℕ) → is_nameless e ≡ false → x ≡ declaration_line (record { entries = e ∷ s.entries; rows = map.remove s.rows e.name; names = s.names; implicit = s.implicit }) e → x ≡ declaration_line (scene_after s e) e
line_named s e x n h = subst (λ b. x ≡ declaration_line (cond b s (record { entries = e ∷ s.entries; rows = map.remove s.rows e.name; names = s.names; implicit = s.implicit })) e) (sym n) h

-- every number below the length has an entry
pub present : (es : List Entry) (c : ℕ) → c < length es → entry es c ≡ None → ⊥
present [] c h e = omega (arith, h)
present (f ∷ es) c h e = under (same_number c (length es)) refl e (λ n g. present es c (omega (arith, h, n)) g) (λ k. subst (λ b. b ≡ true) k (number_itself (length es)))
  where
    under : (b : Bool) → same_number c (length es) ≡ b → cond b (Some f) (entry es c) ≡ None → ((c ≡ length es → ⊥) → entry es c ≡ None → ⊥) → (same_number (length es) (length es) ≡ false → false ≡ true) → ⊥
    under true q e g k = none_is_not_some (sym e)
    under false q e g k = g (λ i. yes (k (ap (λ j. same_number j (length es)) (sym i) ∙ q))) e
      where
        yes : false ≡ true → ⊥
        yes e = cc

-- an entry that is about to be added is typed with itself in front
pub newest_body : (es : List Entry) (e : Entry) → IsCanonicalEntry (signature_of es) e → BodyIsTyped (signature_of (e ∷ es)) e.body
newest_body es e k = one_more e es e.body k.typed
