-- How many arguments an entry takes.
use Rattle.std.proofs.Common.{◌≡◌, ℕ, ◌-◌, List, [], ◌∷◌, length, Bool, true, false, cond, Option, Some, sym, ap, ◌∙◌, subst}
use Rattle.std.specs.Prelude.{nat_le, ◌==◌, ◌&&◌}
use Rattle.lf.specs.Entries.{Entry, entry, body_quantifiers, IsCanonicalSignature}
use Rattle.lf.specs.Variables.{same_number}
use Rattle.tw_signature.specs.Names.{number_of}
use Rattle.tw_decl.specs.Applications.{takes_just}
use Rattle.tw_decl.specs.Operators.{entry_by, explicit_count, newest, takes}
use Rattle.tw_decl.specs.Preferences.{is_family, is_family_body}

-- an entry has a hint for each leading quantifier
abbrev HintEach : Entry → Type 0
HintEach e = length e.hints ≡ body_quantifiers e.body

hint_by : (b : Bool) (x e : Entry) (rest : Option Entry) → HintEach x → (rest ≡ Some e → HintEach e) → cond b (Some x) rest ≡ Some e → HintEach e
hint_by true x e rest own on h = let same : x ≡ e = cc in subst HintEach same own
hint_by false x e rest own on h = on h

hint_each : (es : List Entry) (c : ℕ) (e : Entry) → IsCanonicalSignature es → entry es c ≡ Some e → HintEach e
hint_each [] c e s h = cc
hint_each (x ∷ xs) c e s h = hint_by (same_number c (length xs)) x e (entry xs c) s.1.hint_each (λ k. hint_each xs c e s.0 k) h

pub takes_entry : (es : List Entry) (name : List ℕ) (n count c : ℕ) (e : Entry) → IsCanonicalSignature es → Some c ≡ number_of es name → Some e ≡ entry es c → count ≡ length e.hints - e.implicit
    → nat_le n count ≡ takes n (newest es name)
takes_entry es name n count c e s numbered found counted =
    let here : newest es name ≡ Some e = ap (entry_by es) (sym numbered) ∙ sym found in
    let counts : count ≡ body_quantifiers e.body - e.implicit = counted ∙ ap (λ (x : ℕ). x - e.implicit) (hint_each es c e s (sym found)) in
    ap (nat_le n) counts ∙ sym (ap (takes n) here)

-- whether it takes just so many, where it is a family
pub takes_just_entry : (es : List Entry) (n count c : ℕ) (e : Entry) → IsCanonicalSignature es → Some e ≡ entry es c → is_family (entry es c) ≡ true → count ≡ length e.hints - e.implicit
    → (count == n) ≡ takes_just n (entry es c)
takes_just_entry es n count c e s found family counted =
    let counts : count ≡ body_quantifiers e.body - e.implicit = counted ∙ ap (λ (x : ℕ). x - e.implicit) (hint_each es c e s (sym found)) in
    let is_one : is_family_body e.body ≡ true = ap is_family found ∙ family in
    ap (λ (x : ℕ). x == n) counts ∙ sym (ap (takes_just n) (sym found) ∙ ap (λ (b : Bool). b && (explicit_count e == n)) is_one)
