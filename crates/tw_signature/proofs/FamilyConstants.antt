-- What is kept of the constants of each family, as entries are added.
use Rattle.std.proofs.Common.{◌≡◌, ◌<◌, ◌++◌, ◌∙◌, ℕ, zero, suc, List, [], ◌∷◌, length, map, Bool, true, false, cond, Option, Some, None, option_map, Vec, refl, sym, ap, ap₂, subst, arith}
use Rattle.std.specs.Borrow.{Bor}
use Rattle.std.specs.Global.{Global}
use Rattle.std.specs.List.{slice_get, slice_index_or, slice_set}
use Rattle.std.specs.Prelude.{IfSome}
use Rattle.std.specs.Slice.{IsGetResult}
use Rattle.std.specs.Vec.{vec_capacity, vec_len}
use Rattle.std.proofs.lemmas.List.{length-append, length-map, map-append}
use Rattle.std.proofs.lemmas.Option.{slice_get_past, slice_get_read}
use Rattle.lf.specs.Constants.{constants_of, family_of, is_family}
use Rattle.lf.specs.Entries.{Body, Entry, declare_family, declare_constant, declare_definition, entry, kind_of, signature_of, BodyIsTyped, IsCanonicalEntry}
use Rattle.lf.specs.Syntax.{LfType, pi, atom}
use Rattle.lf.specs.Typing.{IsType}
use Rattle.lf.specs.Variables.{same_number, target}
use Rattle.tw_terms.specs.declared.canonical.ConstId.{ConstId}
use Rattle.tw_signature.specs.Constants.{AreKept, numbers_in, numbers_of, numbers_for, with_number, with_constant}
use Rattle.tw_signature.specs.View.{body_of, entry_of, entries_of}
use Rattle.tw_signature.specs.declared.constants.Constants.{Constants}
use Rattle.tw_signature.specs.declared.entry.Entry.{Entry as RustEntry}
use Rattle.tw_signature.proofs.Numbers.{entries_of-push, length-entries_of}

abbrev Lists : Type 0
Lists = List (Vec ConstId Global)

numbers_or : Option (Vec ConstId Global) → List ℕ
numbers_or (Some cs) = numbers_in cs
numbers_or None = []

numbers_at : (lists : Lists) (a : ℕ) → numbers_for (map numbers_in lists) a ≡ numbers_or (slice_get lists a)
unfolding numbers_or
numbers_at [] a = refl
numbers_at (cs ∷ lists) zero = refl
numbers_at (cs ∷ lists) (suc a) = numbers_at lists a

numbers_lent : (lists : Lists) (a : ℕ) (r : Option (Bor (Vec ConstId Global))) → IsGetResult lists a a r → numbers_or (slice_get lists a) ≡ numbers_or (option_map (λ (x : Bor (Vec ConstId Global)). x.now) r)
numbers_lent lists a None h = ap numbers_or (slice_get_past lists a h.3)
numbers_lent lists a (Some x) h = ap numbers_or (slice_get_read lists (length lists) a x.now refl h.3.0 h.1)

-- what a look-up of a family's list gives
pub numbers_found : (lists : Lists) (a : ℕ) (r : Option (Bor (Vec ConstId Global))) (x : Bor (Vec ConstId Global)) → IsGetResult lists a a r → r ≡ Some x → numbers_in x.now ≡ numbers_for (map numbers_in lists) a
unfolding numbers_or
numbers_found lists a r x h e = sym (numbers_at lists a ∙ numbers_lent lists a r h ∙ ap (λ o. numbers_or (option_map (λ (y : Bor (Vec ConstId Global)). y.now) o)) e)

pub numbers_missing : (lists : Lists) (a : ℕ) (r : Option (Bor (Vec ConstId Global))) → IsGetResult lists a a r → r ≡ None → [] ≡ numbers_for (map numbers_in lists) a
unfolding numbers_or
numbers_missing lists a r h e = sym (numbers_at lists a ∙ numbers_lent lists a r h ∙ ap (λ o. numbers_or (option_map (λ (y : Bor (Vec ConstId Global)). y.now) o)) e)

-- a list that is put back with the same constants
pub same_numbers : (lists : Lists) (a : ℕ) (cs ds : Vec ConstId Global) → slice_get lists a ≡ Some cs → ds.items ≡ cs.items → map numbers_in (slice_set lists a ds) ≡ map numbers_in lists
same_numbers [] a cs ds e i = refl
same_numbers (bs ∷ lists) zero cs ds e i = let same : bs ≡ cs = cc in ap (λ n. n ∷ map numbers_in lists) (ap (map (λ c. c.0)) (i ∙ ap (λ v. v.items) (sym same)))
same_numbers (bs ∷ lists) (suc a) cs ds e i = ap (λ ns. numbers_in bs ∷ ns) (same_numbers lists a cs ds e i)

-- and with one constant more
pub one_number_more : (lists : Lists) (a : ℕ) (c : ConstId) (cs ds : Vec ConstId Global) → slice_get lists a ≡ Some cs → ds.items ≡ cs.items ++ c ∷ [] → map numbers_in (slice_set lists a ds) ≡ with_number (map numbers_in lists) a c.0
one_number_more [] a c cs ds e i = refl
one_number_more (bs ∷ lists) zero c cs ds e i = let same : bs ≡ cs = cc in
    ap (λ n. n ∷ map numbers_in lists) (ap (map (λ d. d.0)) (i ∙ ap (λ v. v.items ++ c ∷ []) (sym same)) ∙ map-append (λ d. d.0) bs.items (c ∷ []))
one_number_more (bs ∷ lists) (suc a) c cs ds e i = ap (λ ns. numbers_in bs ∷ ns) (one_number_more lists a c cs ds e i)

-- what an index lends is the list there
pub lent : (lists : Lists) (a : ℕ) (cs : Vec ConstId Global) → a < length lists → cs ≡ slice_index_or lists a cs → slice_get lists a ≡ Some cs
lent [] a cs h e = absurd (omega (arith, h))
lent (bs ∷ lists) zero cs h e = ap Some (sym e)
lent (bs ∷ lists) (suc a) cs h e = lent lists a cs (omega (arith, h)) e

-- an index of the argument lends from the list of a family
pub lent_at : (old new : Lists) (f : Option ConstId) (x : ConstId) (cs : Vec ConstId Global) → f ≡ Some x → new ≡ old → IfSome f (λ a. a.0 < length (map numbers_in old)) → cs ≡ slice_index_or new x.0 cs → slice_get new x.0 ≡ Some cs
lent_at old new f x cs e same h i =
    let w : x.0 < length (map numbers_in old) = subst (λ o. IfSome o (λ a. a.0 < length (map numbers_in old))) e h in
    let l = length-map old numbers_in in let n = ap length same in
    lent new x.0 cs (omega (arith, w, l, n)) i

pub get_set : (lists : Lists) (a : ℕ) (cs ds : Vec ConstId Global) → slice_get lists a ≡ Some cs → slice_get (slice_set lists a ds) a ≡ Some ds
get_set [] a cs ds e = absurd cc
get_set (bs ∷ lists) zero cs ds e = refl
get_set (bs ∷ lists) (suc a) cs ds e = get_set lists a cs ds e

-- the list that was put back has room
pub room_for : (lists : Lists) (f : Option ConstId) (x : ConstId) (cs ds : Vec ConstId Global) → f ≡ Some x → slice_get lists x.0 ≡ Some cs → vec_len ds < vec_capacity ds
    → IfSome f (λ a. (v : Vec ConstId Global) × (slice_get (slice_set lists x.0 ds) a.0 ≡ Some v) × (vec_len v < vec_capacity v))
room_for lists f x cs ds e g h = subst (λ o. IfSome o (λ a. (v : Vec ConstId Global) × (slice_get (slice_set lists x.0 ds) a.0 ≡ Some v) × (vec_len v < vec_capacity v))) (sym e) (ds, get_set lists x.0 cs ds g, h)

lent_there : (lists : Lists) (a : ℕ) (cs ds : Vec ConstId Global) → slice_get lists a ≡ Some ds → cs ≡ slice_index_or lists a cs → slice_get lists a ≡ Some cs
lent_there [] a cs ds h e = absurd cc
lent_there (bs ∷ lists) zero cs ds h e = ap Some (sym e)
lent_there (bs ∷ lists) (suc a) cs ds h e = lent_there lists a cs ds h e

-- the list that was put back has the new constant
pub number_added : (lists : Lists) (f : Option ConstId) (x c : ConstId) (cs ds : Vec ConstId Global) → f ≡ Some x → IfSome f (λ a. (v : Vec ConstId Global) × (slice_get lists a.0 ≡ Some v) × (vec_len v < vec_capacity v))
    → cs ≡ slice_index_or lists x.0 cs → ds.items ≡ cs.items ++ c ∷ [] → map numbers_in (slice_set lists x.0 ds) ≡ with_constant (map numbers_in lists) f c.0
number_added lists f x c cs ds e h i is =
    let (v, at, room) = subst (λ o. IfSome o (λ a. (v : Vec ConstId Global) × (slice_get lists a.0 ≡ Some v) × (vec_len v < vec_capacity v))) e h in
    one_number_more lists x.0 c cs ds (lent_there lists x.0 cs v at i) is ∙ ap (λ o. with_constant (map numbers_in lists) o c.0) (sym e)

-- what the lists have for each family after a constant is added
length-with : (lists : List (List ℕ)) (a c : ℕ) → length (with_number lists a c) ≡ length lists
length-with [] a c = refl
length-with (cs ∷ lists) zero c = refl
length-with (cs ∷ lists) (suc a) c = ap suc (length-with lists a c)

for-empty : (lists : List (List ℕ)) (b : ℕ) → numbers_for (lists ++ [] ∷ []) b ≡ numbers_for lists b
for-empty [] zero = refl
for-empty [] (suc b) = refl
for-empty (cs ∷ lists) zero = refl
for-empty (cs ∷ lists) (suc b) = for-empty lists b

for-with : (lists : List (List ℕ)) (a c b : ℕ) → a < length lists → numbers_for (with_number lists a c) b ≡ cond (same_number a b) (numbers_for lists b ++ c ∷ []) (numbers_for lists b)
for-with [] a c b h = absurd (omega (arith, h))
for-with (cs ∷ lists) zero c zero h = refl
for-with (cs ∷ lists) zero c (suc b) h = refl
for-with (cs ∷ lists) (suc a) c zero h = refl
for-with (cs ∷ lists) (suc a) c (suc b) h = for-with lists a c b (omega (arith, h))

-- a family that has a kind is an entry
same : (m n : ℕ) → same_number m n ≡ true → m ≡ n
same zero zero q = refl
same zero (suc n) q = absurd cc
same (suc m) zero q = absurd cc
same (suc m) (suc n) q = ap suc (same m n q)

within_by : (es : List Entry) (f e : Entry) (c : ℕ) (b : Bool) → (entry es c ≡ Some e → c < length es) → same_number c (length es) ≡ b → cond b (Some f) (entry es c) ≡ Some e → c < suc (length es)
within_by es f e c true h q k = let s = same c (length es) q in omega (arith, s)
within_by es f e c false h q k = let s = h k in omega (arith, s)

entry_within : (es : List Entry) (c : ℕ) (e : Entry) → entry es c ≡ Some e → c < length es
entry_within [] c e h = absurd cc
entry_within (f ∷ es) c e h = within_by es f e c (same_number c (length es)) (entry_within es c e) refl h

kind_within : (es : List Entry) (c : ℕ) (o : Option Entry) → entry es c ≡ o → (kind_of o ≡ None → ⊥) → c < length es
kind_within es c None e h = absurd (h refl)
kind_within es c (Some f) e h = entry_within es c f e

pub target_within : (es : List Entry) (G : List LfType) (A : LfType) → IsType (signature_of es) G A → target A < length es
target_within es G (pi A B) (a, b) = target_within es (A ∷ G) B b
target_within es G (atom c S) (K, e, s) = kind_within es c (entry es c) refl (λ n. cc (n, e))

constant_target_within : (es : List Entry) (b : Body) (a : ℕ) → BodyIsTyped (signature_of es) b → family_of b ≡ Some a → a < length es
constant_target_within es (declare_family K) a t e = absurd cc
constant_target_within es (declare_constant A) a t e = let w = target_within es [] A t in let s : target A ≡ a = cc in omega (arith, w, s)
constant_target_within es (declare_definition M A d) a t e = absurd cc

-- the family of a constant that may be added is an entry
pub family_within : (es : List Entry) (e : Entry) (c : Constants) (f : Option ConstId) → IsCanonicalEntry (signature_of es) e → option_map (λ a. a.0) f ≡ family_of e.body → AreKept c es → IfSome f (λ a. a.0 < length (numbers_of c))
family_within es e c None may is kept = tt
family_within es e c (Some a) may is kept = let w = constant_target_within es e.body a.0 may.typed (sym is) in let k = kept.0 in omega (arith, w, k)

kept_by : (es : List Entry) (b : Body) (lists : List (List ℕ)) (f : Option ConstId) (n : ℕ) → BodyIsTyped (signature_of es) b → option_map (λ a. a.0) f ≡ family_of b → length lists ≡ length es → ((a : ℕ) → numbers_for lists a ≡ constants_of es a) → n ≡ length es
    → (length (with_constant lists f n ++ [] ∷ []) ≡ suc (length es))
    × ((a : ℕ) → numbers_for (with_constant lists f n ++ [] ∷ []) a ≡ cond (is_family (family_of b) a) (constants_of es a ++ length es ∷ []) (constants_of es a))
kept_by es b lists None n t is len kept number =
    (let l = length-append lists ([] ∷ []) in omega (arith, l, len), λ a. for-empty lists a ∙ kept a ∙ ap (λ o. cond (is_family o a) (constants_of es a ++ length es ∷ []) (constants_of es a)) is)
kept_by es b lists (Some f) n t is len kept number =
    let w = constant_target_within es b f.0 t (sym is) in
    let inside : f.0 < length lists = omega (arith, w, len) in (
      let l = length-append (with_number lists f.0 n) ([] ∷ []) in let k = length-with lists f.0 n in omega (arith, l, k, len),
      λ a. for-empty (with_number lists f.0 n) a ∙ for-with lists f.0 n a inside
          ∙ ap₂ (λ cs m. cond (same_number f.0 a) (cs ++ m ∷ []) cs) (kept a) number
          ∙ ap (λ o. cond (is_family o a) (constants_of es a ++ length es ∷ []) (constants_of es a)) is,
    )

-- one entry more, of which the lists know
pub kept : (old new : List RustEntry) (e : RustEntry) (m n : Constants) (f : Option ConstId) (number : ℕ) → new ≡ old ++ e ∷ [] → number ≡ length old → option_map (λ a. a.0) f ≡ family_of (body_of e.body)
    → IsCanonicalEntry (signature_of (entries_of old)) (entry_of e) → AreKept m (entries_of old) → numbers_of n ≡ with_constant (numbers_of m) f number ++ [] ∷ []
    → AreKept n (entries_of new)
kept old new e m n f number is length_is family_is may before now =
    let front : entries_of new ≡ entry_of e ∷ entries_of old = ap entries_of is ∙ entries_of-push old e in
    let (l, k) = kept_by (entries_of old) (body_of e.body) (numbers_of m) f number may.typed family_is before.0 before.1 (length_is ∙ sym (length-entries_of old)) in
    subst (AreKept n) (sym front) (ap length now ∙ l, λ a. ap (λ lists. numbers_for lists a) now ∙ k a)
