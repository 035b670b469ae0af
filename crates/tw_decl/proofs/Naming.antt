-- The names of a check that name nothing.
use Rattle.std.proofs.Common.{◌≡◌, ℕ, List, [], ◌∷◌, ◌++◌, Bool, true, false, Option, Some, None, refl, sym, ap, ◌∙◌, subst, true≢false, inl, inr}
use Rattle.std.specs.Prelude.{◌⊎◌, ◌&&◌, ◌||◌, if◌then◌else◌, is_some}
use Rattle.std.proofs.lemmas.List.{append-nil}
use Rattle.tw_names.proofs.Order.{earliest_is_first, none_is_empty}
use Rattle.tw_names.proofs.Unknowns.{earliest-append}
use Rattle.tw_names.specs.Earliest.{earlier, earliest}
use Rattle.tw_names.specs.Unknown.{IsFirst, IsOneOf, is_no_later, unknown_in}
use Rattle.tw_names.specs.declared.unknown.Mention.{Mention}
use Rattle.tw_parse.specs.declared.decl.ExtName.{ExtName}
use Rattle.tw_parse_checks.specs.Checks.{Check, mode_short, mode_full, block, worlds, terminates}
use Rattle.tw_signature.specs.Names.{number_of}
use Rattle.tw_decl.specs.Applications.{Application, IsApplied, IsFirstUnknown, IsItsLabel, IsMisapplied, NameFamilies, all_take_just, applications, families_named, takes_just, unknown, unknown_besides, unknown_in_check, unknown_names}
use Rattle.tw_decl.specs.Labels.{is_known, is_label}
use Rattle.tw_decl.specs.Operators.{entry_by}
use Rattle.tw_decl.specs.View.{View}

by_found : (b : Bool) (m : Mention) → b ≡ false → (if b then [] else m ∷ []) ≡ m ∷ []
by_found true m e = cc
by_found false m e = refl

by_none : (b : Bool) (m : Mention) → b ≡ true → (if b then [] else m ∷ []) ≡ []
by_none true m e = refl
by_none false m e = cc

-- the earliest with a name that nothing has
pub with_unknown : (v : View) (a : ExtName) (known : Bool) (before : Option Mention) (m : Mention) → known ≡ is_known v a.name → known ≡ false
    → m ≡ earlier before (record { name = a.name; at = a.at }) → Some m ≡ earliest before (unknown v a)
with_unknown v a known before m looked none is =
    let out : unknown v a ≡ record { name = a.name; at = a.at } ∷ [] = by_found (is_known v a.name) (record { name = a.name; at = a.at }) (sym looked ∙ none) in
    ap Some is ∙ sym (ap (earliest before) out)

-- and with one that something has
pub with_known : (v : View) (a : ExtName) (known : Bool) (before : Option Mention) → known ≡ is_known v a.name → known ≡ true → before ≡ earliest before (unknown v a)
with_known v a known before looked some =
    let out : unknown v a ≡ [] = by_none (is_known v a.name) (record { name = a.name; at = a.at }) (sym looked ∙ some) in
    sym (ap (earliest before) out)

-- no name is unknown: neither those beside the families, nor a family
pub none_left : (xs ys : List Mention) → xs ++ ys ≡ [] → xs ≡ []
none_left [] ys e = refl
none_left (x ∷ xs) ys e = cc

none_right : (xs ys : List Mention) → xs ++ ys ≡ [] → ys ≡ []
none_right [] ys e = e
none_right (x ∷ xs) ys e = cc

pub known_names : (xs : List Mention) → None ≡ earliest None xs → xs ≡ []
known_names xs e = none_is_empty xs (sym e)

-- past the first of some names
pub names_next : (v : View) (x : ExtName) (left rest : List ExtName) (found next all : Option Mention) → left ≡ x ∷ rest → next ≡ earliest found (unknown v x)
    → earliest found (unknown_names v left) ≡ all → earliest next (unknown_names v rest) ≡ all
names_next v x left rest found next all e f h =
    ap (λ (m : Option Mention). earliest m (unknown_names v rest)) f ∙ sym (earliest-append found (unknown v x) (unknown_names v rest))
    ∙ sym (ap (λ (ys : List ExtName). earliest found (unknown_names v ys)) e) ∙ h

-- past the first of some families
pub families_next : (v : View) (x : Application) (left rest : List Application) (found next all : Option Mention) → left ≡ x ∷ rest → next ≡ earliest found (unknown v x.family)
    → earliest found (unknown_names v (families_named left)) ≡ all → earliest next (unknown_names v (families_named rest)) ≡ all
families_next v x left rest found next all e f h = names_next v x.family (families_named left) (families_named rest) found next all (ap families_named e) f h

-- what is found of a check, beside its families and of them
module _ (v : View) (k : Check) (xs : List Application) (before : Option Mention) (found : before ≡ earliest None (unknown_besides v k)) (same : xs ≡ applications k) where
  all : earliest before (unknown_names v (families_named xs)) ≡ earliest None (unknown_in_check v k)
  all = ap (λ (m : Option Mention). earliest m (unknown_names v (families_named xs))) found ∙ ap (λ (ys : List Application). earliest (earliest None (unknown_besides v k)) (unknown_names v (families_named ys))) same ∙ sym (earliest-append None (unknown_besides v k) (unknown_names v (families_named (applications k))))

  pub first_of_check : (m : Mention) → Some m ≡ earliest before (unknown_names v (families_named xs)) → IsFirst m (unknown_in_check v k)
  first_of_check m e = earliest_is_first (unknown_in_check v k) m (sym (e ∙ all))

  pub none_of_check : None ≡ earliest before (unknown_names v (families_named xs)) → unknown_in_check v k ≡ []
  none_of_check e = known_names (unknown_in_check v k) (e ∙ all)

  pub applied_by : (families : List ℕ) → None ≡ earliest before (unknown_names v (families_named xs)) → NameFamilies v.signature xs families → all_take_just v.signature xs ≡ true → IsApplied v k families
  applied_by families e named takes = record {
    known = none_of_check e;
    named = subst (λ (ys : List Application). NameFamilies v.signature ys families) same named;
    takes = sym (ap (all_take_just v.signature) same) ∙ takes;
  }

  pub misapplied_by : None ≡ earliest before (unknown_names v (families_named xs)) → all_take_just v.signature xs ≡ false → IsMisapplied v k
  misapplied_by e off = record { known = inl (none_of_check e); off = sym (ap (all_take_just v.signature) same) ∙ off }

-- A full form's family that a block alone has: what is found before isn't it, or it is the first that names nothing.

either_earliest : (before : Option Mention) (xs : List Mention) (m : Mention) → Some m ≡ earliest before xs → (before ≡ Some m) ⊎ IsOneOf m xs
either_earliest before [] m e = inl (sym e)
either_earliest before (x ∷ xs) m e = by (either_earliest (Some (earlier before x)) xs m e)
  where
    on : (o : Option Mention) → earlier o x ≡ m → (o ≡ Some m) ⊎ (m ≡ x)
    on None q = inr (sym q)
    on (Some n) q = choose (is_no_later n.at x.at) q
      where
        choose : (b : Bool) → (if b then n else x) ≡ m → (Some n ≡ Some m) ⊎ (m ≡ x)
        choose true r = inl (ap Some r)
        choose false r = inr (sym r)

    into : (before ≡ Some m) ⊎ (m ≡ x) → (before ≡ Some m) ⊎ IsOneOf m (x ∷ xs)
    into (inl q) = inl q
    into (inr q) = inr (inl q)

    by : (Some (earlier before x) ≡ Some m) ⊎ IsOneOf m xs → (before ≡ Some m) ⊎ IsOneOf m (x ∷ xs)
    by (inl q) = let same : earlier before x ≡ m = cc in into (on before same)
    by (inr q) = inr (inr q)

label_or : (a b : Bool) → b ≡ true → (a || b) ≡ true
label_or true b e = refl
label_or false b e = e

label_is_known : (v : View) (x : List ℕ) → is_label v.checked.blocks x ≡ true → is_known v x ≡ true
label_is_known v x e = label_or (is_some (number_of v.signature x)) (is_label v.checked.blocks x) e

-- a family whose name nothing has is no label's
unknown_is_no_label : (v : View) (a : ExtName) (m : Mention) (b : Bool) → is_known v a.name ≡ b → is_label v.checked.blocks a.name ≡ true → IsOneOf m ((if b then [] else record { name = a.name; at = a.at } ∷ []) ++ []) → ⊥
unknown_is_no_label v a m true e l h = h
unknown_is_no_label v a m false e l h = true≢false (sym (label_is_known v a.name l) ∙ e)

family_no_label : (v : View) (k : Check) (m : Mention) → IsOneOf m (unknown_names v (families_named (applications k))) → IsItsLabel v k m → ⊥
family_no_label v (mode_short a ms) m h l = l
family_no_label v (mode_full ms a n d) m h (at, label, none) = unknown_is_no_label v a m (is_known v a.name) refl label h
family_no_label v (block l n d) m h q = q
family_no_label v (worlds ls ps) m h q = q
family_no_label v (terminates O ps) m h q = q

pub first_unknown_by : (v : View) (k : Check) (xs : List Application) (before : Option Mention) → before ≡ earliest None (unknown_besides v k) → ((m : Mention) → before ≡ Some m → IsItsLabel v k m → ⊥) → xs ≡ applications k
    → (m : Mention) → Some m ≡ earliest before (unknown_names v (families_named xs)) → IsFirstUnknown v k m
first_unknown_by v k xs before found none same m e = record {
  first = first_of_check v k xs before found same m e;
  no_label = λ l. by (either_earliest before (unknown_names v (families_named xs)) m e) l;
}
  where
    by : (before ≡ Some m) ⊎ IsOneOf m (unknown_names v (families_named xs)) → IsItsLabel v k m → ⊥
    by (inl q) l = none m q l
    by (inr q) l = family_no_label v k m (subst (λ ys. IsOneOf m (unknown_names v (families_named ys))) same q) l

-- and then the check's family is none
pub label_misapplied : (v : View) (k : Check) (m : Mention) → Some m ≡ earliest None (unknown_besides v k) → IsItsLabel v k m → IsMisapplied v k
label_misapplied v (mode_short a ms) m e l = absurd l
label_misapplied v (mode_full ms a n d) m e (at, label, none) =
    let nothing : unknown v a ≡ [] = by_none (is_known v a.name) (record { name = a.name; at = a.at }) (label_is_known v a.name label) in
    let same : unknown_in_check v (mode_full ms a n d) ≡ unknown_in v.signature d = ap (λ xs. unknown_in v.signature d ++ (xs ++ [])) nothing ∙ append-nil (unknown_in v.signature d) in record {
      known = inr (m, subst (IsFirst m) (sym same) (earliest_is_first (unknown_in v.signature d) m (sym e)), (at, label, none));
      off = ap (λ o. takes_just n (entry_by v.signature o) && true) none;
    }
label_misapplied v (block b n d) m e l = absurd l
label_misapplied v (worlds ls ps) m e l = absurd l
label_misapplied v (terminates O ps) m e l = absurd l
