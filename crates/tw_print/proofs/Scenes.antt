-- Look-ups in a scene with an entry that is about to be added.
use Rattle.std.proofs.Common.{◌≡◌, ℕ, List, Bool, true, false, cond, Option, None, Some, Bor, length, refl, ap, ◌∙◌}
use Rattle.std.proofs.lemmas.Bool.{cond-true, cond-false}
use Rattle.std.specs.FinMap as map
use Rattle.std.specs.Cmp.Lexicographic.{nat_list_cmp_total}
use Rattle.std.proofs.lemmas.Map.Text.{is_eq-slice_cmp}
use Rattle.std.specs.Str.{bytes_eq}
use Rattle.lf.specs.Entries.{entry}
use Rattle.lf.specs.Variables.{same_number}
use Rattle.lf.proofs.Checker.{number_is, number_itself}
use Rattle.tw_signature.specs.View.{entry_of}
use Rattle.tw_signature.specs.declared.entry.Entry.{Entry}
use Rattle.tw_print.specs.Names.{Scene}
use Rattle.tw_print.specs.SceneView.{with_newest}

differ : (b : Bool) (P : Type 0) → (b ≡ true → P) → (P → ⊥) → b ≡ false
differ true P f g = absurd (g (f refl))
differ false P f g = refl

module _ (s : Scene) (o : Option (Bor Entry)) where
  pub entry_none : (c : ℕ) → o ≡ None → entry (with_newest s o).entries c ≡ entry s.entries c
  entry_none c h = ap (λ x. entry (with_newest s x).entries c) h

  pub entry_newest : (e : Bor Entry) (c : ℕ) → o ≡ Some e → c ≡ length s.entries → entry (with_newest s o).entries c ≡ Some (entry_of e.now)
  entry_newest e c h k = ap (λ x. entry (with_newest s x).entries c) h ∙ ap (λ n. cond (same_number n (length s.entries)) (Some (entry_of e.now)) (entry s.entries c)) k ∙ cond-true _ _ _ (number_itself (length s.entries))

  pub entry_other : (e : Bor Entry) (c : ℕ) → o ≡ Some e → (c ≡ length s.entries → ⊥) → entry (with_newest s o).entries c ≡ entry s.entries c
  entry_other e c h k = ap (λ x. entry (with_newest s x).entries c) h ∙ cond-false _ _ _ (differ _ _ (number_is c (length s.entries)) k)

  pub row_none : (n : List ℕ) → o ≡ None → map.get (with_newest s o).rows n ≡ map.get s.rows n
  row_none n h = ap (λ x. map.get (with_newest s x).rows n) h

  row_at : (e : Bor Entry) (n : List ℕ) → o ≡ Some e → map.get (with_newest s o).rows n ≡ cond (bytes_eq n e.now.name) None (map.get s.rows n)
  row_at e n h = ap (λ x. map.get (with_newest s x).rows n) h ∙ map.get-remove nat_list_cmp_total s.rows e.now.name n ∙ ap (λ b. cond b None (map.get s.rows n)) (is_eq-slice_cmp n e.now.name)

  pub row_newest : (e : Bor Entry) (n : List ℕ) → o ≡ Some e → bytes_eq n e.now.name ≡ true → map.get (with_newest s o).rows n ≡ None
  row_newest e n h k = row_at e n h ∙ cond-true _ _ _ k

  pub row_other : (e : Bor Entry) (n : List ℕ) → o ≡ Some e → bytes_eq n e.now.name ≡ false → map.get (with_newest s o).rows n ≡ map.get s.rows n
  row_other e n h k = row_at e n h ∙ cond-false _ _ _ k
