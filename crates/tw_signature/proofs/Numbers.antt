-- The entry of a number is the one at this place of the list that has the oldest first.
use Rattle.std.proofs.Common.{◌≡◌, ℕ, zero, suc, List, [], ◌∷◌, ◌++◌, length, map, reverse, Option, Some, None, option_map, cond, refl, ap, ◌∙◌, sym, arith, length-append}
use Rattle.std.specs.List.{slice_get}
use Rattle.std.specs.Slice.{IsGetResult}
use Rattle.std.specs.Borrow.{Bor}
use Rattle.std.proofs.lemmas.List.{reverse-append, length-reverse, length-map, map-append}
use Rattle.std.proofs.lemmas.Option.{slice_get-map, slice_get_past, slice_get_read}
use Rattle.lf.specs.Entries.{Entry, entry}
use Rattle.lf.specs.Variables.{same_number}
use Rattle.tw_signature.specs.View.{entry_of, entries_of}
use Rattle.tw_signature.specs.declared.entry.Entry.{Entry as RustEntry}

reverse_cons : (x : Entry) (xs : List Entry) → reverse (x ∷ xs) ≡ reverse xs ++ x ∷ []
reverse_cons x xs = reverse-append (x ∷ []) xs

one_more : (ys : List Entry) (x : Entry) → length (ys ++ x ∷ []) ≡ suc (length ys)
one_more ys x = omega (arith, length-append ys (x ∷ []))

-- the oldest entry has the number 0
oldest : (ys : List Entry) (x : Entry) → entry (ys ++ x ∷ []) zero ≡ Some x
oldest [] x = refl
oldest (y ∷ ys) x = ap (λ n. cond (same_number zero n) (Some y) (entry (ys ++ x ∷ []) zero)) (one_more ys x) ∙ oldest ys x

-- every other one has a number that is one more than without the oldest
others : (ys : List Entry) (x : Entry) (c : ℕ) → entry (ys ++ x ∷ []) (suc c) ≡ entry ys c
others [] x c = refl
others (y ∷ ys) x c = ap (λ n. cond (same_number (suc c) n) (Some y) (entry (ys ++ x ∷ []) (suc c))) (one_more ys x) ∙ ap (λ e. cond (same_number c (length ys)) (Some y) e) (others ys x c)

pub entry_in_reverse : (xs : List Entry) (c : ℕ) → entry (reverse xs) c ≡ slice_get xs c
entry_in_reverse [] c = refl
entry_in_reverse (x ∷ xs) zero = rw reverse_cons (oldest (reverse xs) x)
entry_in_reverse (x ∷ xs) (suc c) = rw reverse_cons (others (reverse xs) x c ∙ entry_in_reverse xs c)

pub entry-entries_of : (es : List RustEntry) (c : ℕ) → entry (entries_of es) c ≡ option_map entry_of (slice_get es c)
entry-entries_of es c = entry_in_reverse (map entry_of es) c ∙ slice_get-map entry_of es c

pub length-entries_of : (es : List RustEntry) → length (entries_of es) ≡ length es
length-entries_of es = length-reverse (map entry_of es) ∙ length-map es entry_of

-- an entry put behind the others is the newest
pub entries_of-push : (es : List RustEntry) (e : RustEntry) → entries_of (es ++ e ∷ []) ≡ entry_of e ∷ entries_of es
entries_of-push es e = ap reverse (map-append entry_of es (e ∷ [])) ∙ reverse-append (map entry_of es) (entry_of e ∷ [])

at_index : (es : List RustEntry) (i : ℕ) (r : Option (Bor RustEntry)) → IsGetResult es i i r → option_map (λ (e : Bor RustEntry). entry_of e.now) r ≡ option_map entry_of (slice_get es i)
at_index es i None h = sym (ap (λ o. option_map entry_of o) (slice_get_past es i h.3))
at_index es i (Some x) h = sym (ap (λ o. option_map entry_of o) (slice_get_read es (length es) i x.now refl h.3.0 h.1))

-- what a look-up by index gives
pub entry_at_index : (es : List RustEntry) (i : ℕ) (r : Option (Bor RustEntry)) → IsGetResult es i i r → option_map (λ (e : Bor RustEntry). entry_of e.now) r ≡ entry (entries_of es) i
entry_at_index es i r h = at_index es i r h ∙ sym (entry-entries_of es i)
