-- What the map of the newest entries knows after an entry is added.
use Rattle.std.proofs.Common.{◌≡◌, ℕ, List, [], ◌∷◌, ◌++◌, cond, Some, Vec, sym, ap, subst, ◌∙◌, length}
use Rattle.std.specs.Str.{bytes_eq}
use Rattle.std.specs.HashMap.{HashMap, UpdatesBy}
use Rattle.lf.specs.Entries.{signature_of, IsCanonicalEntry, IsCanonicalSignature}
use Rattle.tw_signature.specs.Names.{number_of}
use Rattle.tw_signature.specs.View.{entry_of, entries_of}
use Rattle.tw_signature.specs.declared.entry.Entry.{Entry as RustEntry}
use Rattle.tw_signature.proofs.Numbers.{entries_of-push, length-entries_of}
use Rattle.tw_fixity.specs.Newest.{number_at}
use Rattle.tw_fixity.proofs.NewestNames.{number_at-put}

-- one entry more, of which the map knows
pub added : {A S : Type 0} (old new : List RustEntry) (e : RustEntry) (m n : HashMap (Vec ℕ A) ℕ S) (number : ℕ) (bs : List ℕ) → new ≡ old ++ e ∷ [] → number ≡ length old → bs ≡ e.name
    → IsCanonicalSignature (entries_of old) × ((name : List ℕ) → number_at m name ≡ number_of (entries_of old) name)
    → IsCanonicalEntry (signature_of (entries_of old)) (entry_of e)
    → UpdatesBy (λ x y. bytes_eq x.items y.items) (λ k. bytes_eq bs k.items) m n (Some number)
    → IsCanonicalSignature (entries_of new) × ((name : List ℕ) → number_at n name ≡ number_of (entries_of new) name)
added old new e m n number bs is length_is name_is (o, k) may h =
    let front : entries_of new ≡ entry_of e ∷ entries_of old = ap entries_of is ∙ entries_of-push old e in
    let place : length (entries_of old) ≡ number = length-entries_of old ∙ sym length_is in (
      subst IsCanonicalSignature (sym front) (o, may),
      λ name. number_at-put m n (Some number) bs h name
          ∙ ap (λ x. cond (bytes_eq bs name) (Some number) x) (k name)
          ∙ ap (λ c. cond (bytes_eq c name) (Some number) (number_of (entries_of old) name)) name_is
          ∙ ap (λ c. cond (bytes_eq e.name name) (Some c) (number_of (entries_of old) name)) (sym place)
          ∙ ap (λ es. number_of es name) (sym front),
    )
