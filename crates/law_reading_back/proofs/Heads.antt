-- The types by which arguments are sketched are those of typing.
use Rattle.std.proofs.Common.{◌≡◌, ℕ, zero, suc, ◌<◌, List, [], ◌∷◌, ◌++◌, length, Bool, true, false, cond, Option, Some, None, refl, sym, ap, ◌∙◌, arith, length-append}
use Rattle.std.specs.List.{slice_get}
use mathlib.Core.Path.{fun_ext}
use Rattle.lf.specs.Syntax.{Head, constant, variable, metavariable, LfType, Kind, pi, kind_pi, star, weaken, rename_type}
use Rattle.lf.specs.AtOnce.{shift_by}
use Rattle.lf.specs.Substitution.{Image, lift, substitute_type, substitute_kind, reduce}
use Rattle.lf.specs.Typing.{TypeAt, HeadHasType}
use Rattle.lf.specs.Entries.{Entry, entry, type_of, kind_of, signature_of}
use Rattle.lf.specs.Variables.{same_number}
use Rattle.lf.proofs.Checker.{number_is}
use Rattle.lf.proofs.TypeLaws.{renamings_compose_type}
use Rattle.tw_print.specs.Names.{Scene, name_in, is_newest, is_plain, constant_word}
use Rattle.tw_print.specs.Arguments.{kind_as_type, type_or, kind_or, variable_type, head_type, family_type}
use Rattle.tw_print.proofs.Typed.{past}
use Rattle.tw_signature.specs.Names.{number_of}
use Rattle.std.specs.Str.{bytes_eq}
use Rattle.std.proofs.Math.Nat.{lt_of_not-le}
use Rattle.std.proofs.lemmas.Bool.{eqb-true}
use Rattle.std.specs.Prelude.{codes, if◌then◌else◌}

one_is_suc : shift_by (suc zero) ≡ suc
one_is_suc = fun_ext (λ i. omega arith)

next_is_suc : (n : ℕ) → shift_by (suc n) ≡ (λ i. suc (shift_by n i))
next_is_suc n = fun_ext (λ i. omega arith)

moved : (o : Option LfType) (i : ℕ) → weaken (variable_type o i) ≡ variable_type o (suc i)
moved (Some D) i = renamings_compose_type suc (shift_by (suc i)) D ∙ sym (ap (λ ρ. rename_type ρ D) (next_is_suc (suc i)))
moved None i = refl

variable_at : (G : List LfType) (i : ℕ) (B : LfType) → TypeAt G i B → B ≡ variable_type (slice_get G i) i
variable_at [] i B h = absurd h
variable_at (X ∷ G) zero B e = e ∙ sym (ap (λ ρ. rename_type ρ X) one_is_suc)
variable_at (X ∷ G) (suc i) B (C, h, e) = e ∙ ap weaken (variable_at G i C h) ∙ moved (slice_get G i) i

pub substituted_kind : (d : ℕ) (σ : ℕ → Image) (K : Kind) → kind_as_type d (substitute_kind reduce σ K) ≡ substitute_type reduce σ (kind_as_type d K)
substituted_kind d σ (kind_pi A K) = ap (pi (substitute_type reduce σ A)) (substituted_kind d (lift σ) K)
substituted_kind d σ star = refl

none_is_not_some : {X : Type 0} {x : X} → None ≡ Some x → ⊥
none_is_not_some e = cc

some_inj : {X : Type 0} {x y : X} → Some x ≡ Some y → x ≡ y
some_inj e = cc

-- an older entry stays
one_kept : (f : Entry) (es : List Entry) (c : ℕ) (e : Entry) → entry es c ≡ Some e → entry (f ∷ es) c ≡ Some e
one_kept f es c e h = under (same_number c (length es)) refl (λ q. past es c (let i = number_is c (length es) q in omega (arith, i)))
  where
    under : (b : Bool) → same_number c (length es) ≡ b → (same_number c (length es) ≡ true → entry es c ≡ None) → cond b (Some f) (entry es c) ≡ Some e
    under true q g = absurd (none_is_not_some (sym (g q) ∙ h))
    under false q g = h

pub kept : (newer es : List Entry) (c : ℕ) (e : Entry) → entry es c ≡ Some e → entry (newer ++ es) c ≡ Some e
kept [] es c e h = h
kept (f ∷ newer) es c e h = one_kept f (newer ++ es) c e (kept newer es c e h)

there : (o : Option Entry) (A : LfType) → type_of o ≡ Some A → (e : Entry) × (o ≡ Some e)
there None A h = absurd (none_is_not_some h)
there (Some e) A h = (e, refl)

there_of_kind : (o : Option Entry) (K : Kind) → kind_of o ≡ Some K → (e : Entry) × (o ≡ Some e)
there_of_kind None K h = absurd (none_is_not_some h)
there_of_kind (Some e) K h = (e, refl)

pub entry_of_type : (es : List Entry) (c : ℕ) (A : LfType) → (signature_of es).types c ≡ Some A → (e : Entry) × (entry es c ≡ Some e)
entry_of_type es c A h = there (entry es c) A h

pub entry_of_kind : (es : List Entry) (a : ℕ) (K : Kind) → (signature_of es).kinds a ≡ Some K → (e : Entry) × (entry es a ≡ Some e)
entry_of_kind es a K h = there_of_kind (entry es a) K h

pub type_kept : (newer es : List Entry) (c : ℕ) (A : LfType) → (signature_of es).types c ≡ Some A → type_of (entry (newer ++ es) c) ≡ Some A
type_kept newer es c A h = let p = there (entry es c) A h in ap type_of (kept newer es c p.0 p.1 ∙ sym p.1) ∙ h

pub kind_kept : (newer es : List Entry) (a : ℕ) (K : Kind) → (signature_of es).kinds a ≡ Some K → kind_of (entry (newer ++ es) a) ≡ Some K
kind_kept newer es a K h = let p = there_of_kind (entry es a) K h in ap kind_of (kept newer es a p.0 p.1 ∙ sym p.1) ∙ h

-- a number that has an entry is below the length
pub below : (es : List Entry) (c : ℕ) (e : Entry) → entry es c ≡ Some e → c < length es
below es c e h = lt_of_not-le (λ k. none_is_not_some (sym (past es c k) ∙ h))

newest_is : (o : Option ℕ) (c : ℕ) → is_newest o c ≡ true → o ≡ Some c
newest_is None c e = cc
newest_is (Some d) c e = ap Some (eqb-true d c e)

-- the newest entry of a name, where it is an older one, is the newest of these
older : (newer es : List Entry) (name : List ℕ) (c : ℕ) → c < length es → number_of (newer ++ es) name ≡ Some c → number_of es name ≡ Some c
older [] es name c h e = e
older (f ∷ newer) es name c h e = older newer es name c h (by_test (bytes_eq f.name name) e)
  where
    by_test : (b : Bool) → cond b (Some (length (newer ++ es))) (number_of (newer ++ es) name) ≡ Some c → number_of (newer ++ es) name ≡ Some c
    by_test true q = let z : length (newer ++ es) ≡ c = some_inj q in absurd (omega (arith, length-append newer es, z))
    by_test false q = q

-- what isn't declared isn't declared before
older_none : (newer es : List Entry) (name : List ℕ) → number_of (newer ++ es) name ≡ None → number_of es name ≡ None
older_none [] es name e = e
older_none (f ∷ newer) es name e = older_none newer es name (by_test (bytes_eq f.name name) e)
  where
    by_test : (b : Bool) → cond b (Some (length (newer ++ es))) (number_of (newer ++ es) name) ≡ None → number_of (newer ++ es) name ≡ None
    by_test true q = absurd (none_is_not_some (sym q))
    by_test false q = q

module _ (s : Scene) (newer es : List Entry) (split : s.entries ≡ newer ++ es) where
  pub undeclared : (x : List ℕ) → number_of s.entries x ≡ None → number_of es x ≡ None
  undeclared x e = older_none newer es x (sym (ap (λ xs. number_of xs x) split) ∙ e)

  pub head_at : (G : List LfType) (h : Head) (A : LfType) → HeadHasType (signature_of es) G h A → head_type s G h ≡ A
  head_at G (constant c) A e = ap type_or (ap (λ xs. type_of (entry xs c)) split ∙ type_kept newer es c A e)
  head_at G (variable i) A h = sym (variable_at G i A h)
  head_at G (metavariable m) A h = absurd h

  pub family_at : (a : ℕ) (K : Kind) → (signature_of es).kinds a ≡ Some K → family_type s a ≡ kind_as_type (length s.entries) K
  family_at a K e = ap (λ L. kind_as_type (length s.entries) (kind_or L)) (ap (λ xs. kind_of (entry xs a)) split ∙ kind_kept newer es a K e)

  -- the word of a constant that isn't shadowed names it
  plain_number : (c : ℕ) (e : Entry) → entry es c ≡ Some e → is_plain s c ≡ true → (number_of s.entries (constant_word s c) ≡ Some c) × (number_of es (constant_word s c) ≡ Some c)
  plain_number c e h p =
      let word : constant_word s c ≡ name_in (entry s.entries c) = plain_word (is_plain s c) p (name_in (entry s.entries c)) in
      let n : number_of s.entries (name_in (entry s.entries c)) ≡ Some c = newest_is (number_of s.entries (name_in (entry s.entries c))) c p in
      let m : number_of s.entries (constant_word s c) ≡ Some c = ap (number_of s.entries) word ∙ n in
      (m, older newer es (constant_word s c) c (below es c e h) (sym (ap (λ xs. number_of xs (constant_word s c)) split) ∙ m))
    where
      plain_word : (b : Bool) → b ≡ true → (name : List ℕ) → (if b then name else codes "%" ++ name ++ codes "%") ≡ name
      plain_word true q name = refl
      plain_word false q name = cc

  pub constant_number : (c : ℕ) (A : LfType) → (signature_of es).types c ≡ Some A → is_plain s c ≡ true → (number_of s.entries (constant_word s c) ≡ Some c) × (number_of es (constant_word s c) ≡ Some c)
  constant_number c A t p = let e = there (entry es c) A t in plain_number c e.0 e.1 p

  pub family_number : (a : ℕ) (K : Kind) → (signature_of es).kinds a ≡ Some K → is_plain s a ≡ true → (number_of s.entries (constant_word s a) ≡ Some a) × (number_of es (constant_word s a) ≡ Some a)
  family_number a K t p = let e = there_of_kind (entry es a) K t in plain_number a e.0 e.1 p
